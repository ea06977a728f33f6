-- Each item is taken, or is at fault.
use Rattle.std.proofs.Common.{◌≡◌, length, ap, ◌∙◌, subst, sym, rules, arith, Ok, Err, Result}
use Rattle.graph.specs.Lists.{edges_of}
use Rattle.graph.specs.Reading.{edges_from}
use Rattle.graph.specs.Turns.{left_of, AllTaken}
use Rattle.graph.specs.declared.valley_file.Refusal.{Refusal}
use Rattle.graph.proofs.Readings.{taken_goes, taken_stops, edges_none, on_line}
use Rattle.graph.proofs.valley_file.take_all.Goals as goal

pub loop-item-preserved : goal.loop-item-preserved
loop-item-preserved c =
    let s = c.loop-item.items in
    let t = c.next.new.self in
    let n = c.in-Some.ensures.steps in
    let ok : c.take_item.result ≡ Ok c.in_ok-map_err.field-0 = search rules in
    record {
      reads =
          taken_goes (edges_from c.args.list.now.nodes (edges_of c.args.list.now) c.args.items.now.line (left_of c.args.items.now)) c.loop-item.list c.take_item.new.list s t c.in-Some.item
          c.loop-item.invariant.reads n.0 n.1 c.in_ok-map_err.field-0 (rw ok at c.take_item.ensures);
      lines = omega (arith, ap length n.0, n.1, c.loop-item.invariant.lines);
    }

pub returns-in_err-map_err : goal.returns-in_err-map_err
returns-in_err-map_err c =
    let s = c.loop-item.items in
    let t = c.next.new.self in
    let n = c.in-Some.ensures.steps in
    let told : c.map_err.result ≡ on_line t.line c.take_item.result = search rules in
    let same : c.from_residual.result ≡ Err c.in_err-map_err.field-0.0 = search rules in
    subst (λ (r : Result (Unit {0}) Refusal). AllTaken c.args.list.now c.take_item.new.list c.args.items.now t r) (sym same)
    (taken_stops (edges_from c.args.list.now.nodes (edges_of c.args.list.now) c.args.items.now.line (left_of c.args.items.now)) c.loop-item.list c.take_item.new.list s t c.in-Some.item
    c.loop-item.invariant.reads n.0 n.1 c.take_item.result c.in_err-map_err.field-0.0 (sym c.in_err-map_err.was ∙ told) c.take_item.ensures)

pub returns : goal.returns
returns c =
    let s = c.loop-item.items in
    let n = c.in_default.ensures.steps in
    (c.loop-item.invariant.reads ∙ edges_none c.loop-item.list.nodes (edges_of c.loop-item.list) s.line (left_of s) n.0, omega (arith, ap length n.0, n.2, c.loop-item.invariant.lines))
