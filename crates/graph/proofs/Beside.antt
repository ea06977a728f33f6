-- Marks beside the edges of a list are those of its marked edges.
use Rattle.std.proofs.Common.{◌≡◌, ℕ, zero, suc, ◌+◌, Bool, cond, not, List, [], ◌∷◌, ◌++◌, map, length, position, replicate, get_or, set, Some, None, Option, refl, sym, ap, ◌∙◌, arith}
use Rattle.std.specs.List.{enumerate_from, position_or_len}
use Rattle.std.specs.Option.{option_map_or}
use Rattle.std.proofs.lemmas.List.{length-set}
use Rattle.std.proofs.lemmas.List.Sums.{fold-append}
use Rattle.graph.specs.Edges.{between, no_edge}
use Rattle.graph.specs.Marks.{unmarked, undecided, fresh, with_mark, marked, marked_at, with_marks, marks_with, marks_with_at}
use Rattle.graph.specs.MarkLines.{mark_line_of, marked_by, marks_after}
use Rattle.graph.specs.declared.edge.WeightedEdge.{WeightedEdge}
use Rattle.graph.specs.declared.mark.EndMarks.{EndMarks}
use Rattle.graph.specs.declared.mark.MarkLine.{MarkLine}
use Rattle.graph.specs.declared.mark.MarkedEdge.{MarkedEdge}

-- an edge with the marks at its place
abbrev pub placed : List EndMarks → ℕ × WeightedEdge → MarkedEdge
placed ms p = record { edge = p.1; ends = get_or ms p.0 unmarked }

numbered : (all : List EndMarks) (n : ℕ) (es : List WeightedEdge) (ms : List EndMarks) → ((k : ℕ) → get_or all (n + k) unmarked ≡ get_or ms k unmarked) →
    map (placed all) (enumerate_from n es) ≡ with_marks es ms
unfolding with_marks
numbered all n [] ms h = refl
numbered all n (e ∷ es) [] h =
    let first : get_or all n unmarked ≡ unmarked = ap (λ k. get_or all k unmarked) (omega arith) ∙ h 0 in
    let rest = numbered all (n + 1) es [] (λ k. ap (λ k. get_or all k unmarked) (omega arith) ∙ h (suc k)) in
    rw (first, rest)
numbered all n (e ∷ es) (m ∷ ms) h =
    let first : get_or all n unmarked ≡ m = ap (λ k. get_or all k unmarked) (omega arith) ∙ h 0 in
    let rest = numbered all (n + 1) es ms (λ k. ap (λ k. get_or all k unmarked) (omega arith) ∙ h (suc k)) in
    rw (first, rest)

-- The edges numbered, each with the marks at its number.
pub by_places : (es : List WeightedEdge) (ms : List EndMarks) → map (placed ms) (enumerate_from 0 es) ≡ with_marks es ms
by_places es ms = numbered ms 0 es ms (λ k. ap (λ k. get_or ms k unmarked) (omega arith))

-- Nobody has decided on an edge whose marks nobody has set.
pub with_unmarked : (es : List WeightedEdge) → with_marks es (replicate (length es) unmarked) ≡ fresh es
unfolding with_marks
with_unmarked [] = refl
with_unmarked (e ∷ es) = ap (λ (ms : List MarkedEdge). undecided e ∷ ms) (with_unmarked es)

-- the place of an edge is the same with the marks beside it
same_place : (p : WeightedEdge → Bool) (es : List WeightedEdge) (ms : List EndMarks) → length es ≡ length ms →
    (position_or_len (λ m. p m.edge) (with_marks es ms) ≡ position_or_len p es) × (length (with_marks es ms) ≡ length es)
unfolding with_marks
same_place p [] ms h = (refl, refl)
same_place p (e ∷ es) [] h = absurd (omega (arith, h))
same_place p (e ∷ es) (m ∷ ms) h =
    let rest = same_place p es ms (omega (arith, h)) in
    (ap (λ n. cond (not (p e)) (1 + n) 0) rest.0, ap suc rest.1)

found_beside : (p : WeightedEdge → Bool) (es : List WeightedEdge) (ms : List EndMarks) → length es ≡ length ms →
    position (λ m. p m.edge) (with_marks es ms) ≡ position p es
found_beside p es ms h = let same = same_place p es ms h in rw (same.0, same.1)

-- the edge at a place has the marks at that place
at_place : (es : List WeightedEdge) (ms : List EndMarks) (i : ℕ) → length es ≡ length ms →
    get_or (with_marks es ms) i (undecided no_edge) ≡ record { edge = get_or es i no_edge; ends = get_or ms i unmarked }
unfolding with_marks
at_place [] [] i h = refl
at_place [] (m ∷ ms) i h = absurd (omega (arith, h))
at_place (e ∷ es) [] i h = absurd (omega (arith, h))
at_place (e ∷ es) (m ∷ ms) zero h = refl
at_place (e ∷ es) (m ∷ ms) (suc i) h = at_place es ms i (omega (arith, h))

-- marks set at a place are those of the edge there
set_place : (es : List WeightedEdge) (ms : List EndMarks) (i : ℕ) (x : EndMarks) → length es ≡ length ms →
    with_marks es (set ms i x) ≡ set (with_marks es ms) i (record { edge = get_or es i no_edge; ends = x })
unfolding with_marks
set_place [] ms i x h = refl
set_place (e ∷ es) [] i x h = absurd (omega (arith, h))
set_place (e ∷ es) (m ∷ ms) zero x h = refl
set_place (e ∷ es) (m ∷ ms) (suc i) x h = ap (λ (rest : List MarkedEdge). record { edge = e; ends = m } ∷ rest) (set_place es ms i x (omega (arith, h)))

-- The marks with a new one, beside the edges, are the marked edges with a new one.
pub with_marks_with : (es : List WeightedEdge) (ms : List EndMarks) (l : MarkLine) → length es ≡ length ms →
    with_marks es (marks_with es ms l) ≡ marked (with_marks es ms) l
with_marks_with es ms l h =
    by (position (λ e. between e l.at l.to) es) ∙ ap (marked_at (with_marks es ms) l) (sym (found_beside (λ e. between e l.at l.to) es ms h))
  where
    by : (o : Option ℕ) → with_marks es (marks_with_at es ms l o) ≡ marked_at (with_marks es ms) l o
    by None = refl
    by (Some i) =
        set_place es ms i (with_mark (record { edge = get_or es i no_edge; ends = get_or ms i unmarked }) l).ends h
        ∙ ap (λ (m : MarkedEdge). set (with_marks es ms) i (with_mark m l)) (sym (at_place es ms i h))

-- A mark more, and no place more.
pub length-marks_with : (es : List WeightedEdge) (ms : List EndMarks) (l : MarkLine) → length (marks_with es ms l) ≡ length ms
length-marks_with es ms l = by (position (λ e. between e l.at l.to) es)
  where
    by : (o : Option ℕ) → length (marks_with_at es ms l o) ≡ length ms
    by None = refl
    by (Some i) = length-set ms i (with_mark (record { edge = get_or es i no_edge; ends = get_or ms i unmarked }) l).ends

-- Both take one line more.
pub one_line : (es : List WeightedEdge) (ms new : List EndMarks) (all : List MarkedEdge) (ls : List (List ℕ)) (line : List ℕ) (said : Option MarkLine) →
    length es ≡ length ms → with_marks es ms ≡ marks_after all ls → said ≡ mark_line_of line → new ≡ option_map_or (marks_with es ms) said ms →
    (length es ≡ length new) × (with_marks es new ≡ marks_after all (ls ++ line ∷ []))
one_line es ms new all ls line said h so_far is changed =
    let behind : marks_after all (ls ++ line ∷ []) ≡ option_map_or (marked (with_marks es ms)) said (with_marks es ms) =
    fold-append marked_by all ls (line ∷ []) ∙ ap (λ (before : List MarkedEdge). marked_by before line) (sym so_far)
    ∙ ap (λ (o : Option MarkLine). option_map_or (marked (with_marks es ms)) o (with_marks es ms)) (sym is) in
    let both = by said in
    (both.0 ∙ ap length (sym changed), ap (with_marks es) changed ∙ both.1 ∙ sym behind)
  where
    by : (o : Option MarkLine) → (length es ≡ length (option_map_or (marks_with es ms) o ms))
        × (with_marks es (option_map_or (marks_with es ms) o ms) ≡ option_map_or (marked (with_marks es ms)) o (with_marks es ms))
    by None = (h, refl)
    by (Some l) = (h ∙ sym (length-marks_with es ms l), with_marks_with es ms l h)
