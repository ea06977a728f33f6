-- The marks beside the edges are those of the marked edges, at first and after each line.
use Rattle.std.proofs.Common.{◌≡◌, ℕ, List, [], ◌∷◌, length, replicate, map, vec_items, Some, sym, ap, ◌∙◌, rules, arith}
use Rattle.std.proofs.lemmas.List.{length-replicate, map-append, with_items_is}
use denote.Ref.{Bor}
use Rattle.graph.specs.Lists.{edges_of}
use Rattle.graph.specs.Marks.{unmarked, fresh, with_marks, marks_with}
use Rattle.graph.specs.MarkLines.{marks_after}
use Rattle.graph.specs.declared.mark.EndMarks.{EndMarks}
use Rattle.graph.specs.declared.mark.MarkLine.{MarkLine}
use Rattle.graph.proofs.Beside.{with_unmarked, one_line}
use Rattle.graph.proofs.mark_file.judge.Goals as goal

pub loop-text_line-init : goal.loop-text_line-init
loop-text_line-init c =
    let es = edges_of c.args.list.now in
    let none : c.in_ok-marks.marks.items ≡ replicate (length es) unmarked = c.in_ok-marks.ensures in
    record {
      places = sym (length-replicate (length es) unmarked) ∙ ap length (sym none);
      marks = ap (with_marks es) none ∙ with_unmarked es;
    }

pub loop-text_line-preserved-in-Some-mark_line : goal.loop-text_line-preserved-in-Some-mark_line
loop-text_line-preserved-in-Some-mark_line c =
    let es = edges_of c.args.list.now in
    let before = c.loop-text_line.marks in
    let w = c.in-Some.text_line in
    let read : List (Bor (List ℕ)) = c.loop-text_line.yielded in
    let l : MarkLine = c.in-Some-mark_line.field-0 in
    let whole = with_items_is before c.set_mark.new.marks (omega (arith, c.set_mark.auto.marks, c.deref_mut.ensures.len)) in
    let changed : c.set_mark.new.marks ≡ marks_with es (vec_items before) l =
    c.set_mark.ensures ∙ ap (λ (ms : List EndMarks). marks_with es ms l) c.deref_mut.ensures.value in
    let both = one_line es (vec_items before) _ (fresh es) (map (λ words. words.now) read) w.now (Some l)
    c.loop-text_line.invariant.places c.loop-text_line.invariant.marks (search rules) (whole ∙ changed) in
    record {
      places = both.0;
      marks = both.1 ∙ ap (marks_after (fresh es)) (sym (map-append (λ (words : Bor (List ℕ)). words.now) read (w ∷ [])));
    }
