-- The first item that is not blank is `houses`, or it is at fault.
use Rattle.std.proofs.Common.{◌≡◌, Some, ap, subst, sym, Result, inl, inr, rules}
use Rattle.graph.specs.Reading.{first_fault}
use Rattle.graph.specs.Turns.{Opened, Sought}
use Rattle.graph.specs.declared.edge_list.EdgeList.{EdgeList}
use Rattle.graph.specs.declared.fault.Fault.TheVariants.{NoCount, NotUnderstood}
use Rattle.graph.specs.declared.item.Item.{Item}
use Rattle.graph.specs.declared.valley_file.Refusal.{Refusal}
use Rattle.graph.proofs.Readings.{first_none, first_stops, first_opens, on_line}
use Rattle.graph.proofs.valley_file.open.Goals as goal

pub returns-in_default : goal.returns-in_default
returns-in_default c = inl (first_none c.args.items.now c.first.new.self c.in_default.ensures)

pub returns-in-Houses : goal.returns-in-Houses
returns-in-Houses c =
    let s = c.args.items.now in
    let t = c.first.new.self in
    let told : c.map_err.result ≡ on_line t.line c.new.result = search rules in
    let w = subst (λ (i : Item). Sought s (Some i) t) c.in-Houses.is c.in-Some.ensures in
    subst (λ (r : Result EdgeList Refusal). Opened s t r) (sym told) (first_opens s t c.in-Houses.n w c.new.result c.new.ensures)

pub returns-in-Line : goal.returns-in-Line
returns-in-Line c = inl (first_stops c.args.items.now c.first.new.self c.in-Some.item NoCount c.in-Some.ensures (ap first_fault c.in-Line.is))

pub returns-in-Blank : goal.returns-in-Blank
returns-in-Blank c =
    inl (first_stops c.args.items.now c.first.new.self c.in-Some.item NotUnderstood c.in-Some.ensures (elim c.in-Blank.is [ inl b ↦ absurd (c.in-Some.ensures.solid b) | inr u ↦ ap first_fault u ]))
