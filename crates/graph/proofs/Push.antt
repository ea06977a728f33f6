-- One more edge at the end of a list: what it does to neighbours, and when the list is sound with it.
use Rattle.std.proofs.Common.{◌≡◌, ℕ, ◌+◌, ◌<◌, ◌≤◌, Bool, true, false, cond, ◌&&◌, ◌||◌, eqb, List, [], ◌∷◌, ◌++◌, length, Some, None, Ok, Option, sym, refl, ap, ◌∙◌, arith, length-append}
use Rattle.std.specs.List.{AllByRecursion as All}
use Rattle.std.proofs.lemmas.List.{append_assoc, append-nil}
use Rattle.std.proofs.ByRecursion.{All-push, All-get_or}
use Rattle.graph.specs.Edges.{between, weight_in, has_weight, seen_from, neighbours_of, no_edge, Valid, apart, apart_from, all_apart, AllValid, FewEach}
use Rattle.graph.specs.Faults.{edge_fault, unless_fault}
use Rattle.graph.proofs.Edges.{valid_each}
use Rattle.graph.specs.declared.edge.WeightedEdge.{WeightedEdge}
use Rattle.graph.specs.declared.fault.Fault.{Fault}

pub neighbours_append : (es ds : List WeightedEdge) (x : ℕ) → neighbours_of (es ++ ds) x ≡ neighbours_of es x ++ neighbours_of ds x
unfolding neighbours_of
neighbours_append [] ds x = refl
neighbours_append (f ∷ fs) ds x = rw (neighbours_append fs ds x) (sym (append_assoc (seen_from f x) (neighbours_of fs x) (neighbours_of ds x)))

pub neighbours_push : (es : List WeightedEdge) (e : WeightedEdge) (x : ℕ) → neighbours_of (es ++ e ∷ []) x ≡ neighbours_of es x ++ seen_from e x
unfolding neighbours_of
neighbours_push es e x = neighbours_append es (e ∷ []) x ∙ ap (λ ns. neighbours_of es x ++ ns) (append-nil (seen_from e x))

pub valid_push : (n : ℕ) (es : List WeightedEdge) (e : WeightedEdge) → AllValid n es → Valid n e → AllValid n (es ++ e ∷ [])
valid_push n es e v w k h = All-get_or (Valid n) (es ++ e ∷ []) k no_edge h (All-push (Valid n) es e (valid_each n es v) w)

apart_from_push : (f : WeightedEdge) (es : List WeightedEdge) (e : WeightedEdge) → apart_from f (es ++ e ∷ []) ≡ (apart_from f es && apart f e)
unfolding apart_from
apart_from_push f [] e = grind arith
apart_from_push f (g ∷ gs) e = rw (apart_from_push f gs e) (grind arith)

-- no edge of the list is between the ends of e, and none weighs the same: then e is apart from all
pub separate_push : (n : ℕ) (es : List WeightedEdge) (e : WeightedEdge) → All (Valid n) es → all_apart es ≡ true → weight_in es e.a e.b ≡ 0 →
    has_weight es e.weight ≡ false → all_apart (es ++ e ∷ []) ≡ true
unfolding all_apart weight_in apart_from
separate_push n [] e v s w h = refl
separate_push n (f ∷ fs) e v s w h =
    rw (apart_from_push f fs e) (more (apart_from f fs) (all_apart fs) (all_apart (fs ++ e ∷ [])) v.0.3 (separate_push n fs e v.1) s w h)
  where
    more : (p q r : Bool) → 1 ≤ f.weight → (q ≡ true → weight_in fs e.a e.b ≡ 0 → has_weight fs e.weight ≡ false → r ≡ true) → (p && q) ≡ true →
        cond (between f e.a e.b) f.weight (weight_in fs e.a e.b) ≡ 0 → (eqb f.weight e.weight || has_weight fs e.weight) ≡ false →
        ((p && apart f e) && r) ≡ true
    more p q r l ih s w h = grind (arith, ih)

-- and only then
pub separate_back : (es : List WeightedEdge) (e : WeightedEdge) → all_apart (es ++ e ∷ []) ≡ true →
    (all_apart es ≡ true) × (weight_in es e.a e.b ≡ 0) × (has_weight es e.weight ≡ false)
unfolding all_apart weight_in apart_from
separate_back [] e s = (refl, refl, refl)
separate_back (f ∷ fs) e s =
    more (apart_from f fs) (all_apart fs) (all_apart (fs ++ e ∷ [])) (weight_in fs e.a e.b) (has_weight fs e.weight) (separate_back fs e)
    (rw (apart_from_push f fs e) at s)
  where
    more : (p q r : Bool) (w : ℕ) (t : Bool) → (r ≡ true → (q ≡ true) × (w ≡ 0) × (t ≡ false)) → ((p && apart f e) && r) ≡ true →
        ((p && q) ≡ true) × (cond (between f e.a e.b) f.weight w ≡ 0) × ((eqb f.weight e.weight || t) ≡ false)
    more p q r w t ih s = grind (arith, ih)

-- what it means that an edge has no fault
pub record Faultless (n : ℕ) (es : List WeightedEdge) (e : WeightedEdge) : Type 0 where
  pub valid : Valid n e
  pub new : weight_in es e.a e.b ≡ 0
  pub other : has_weight es e.weight ≡ false
  pub room_a : length (neighbours_of es e.a) < 16
  pub room_b : length (neighbours_of es e.b) < 16

pub faultless : (n : ℕ) (es : List WeightedEdge) (e : WeightedEdge) → None ≡ edge_fault n es e → Faultless n es e
faultless n es e h = record { valid = grind arith; new = grind arith; other = grind arith; room_a = grind arith; room_b = grind arith }

-- an edge that is admitted has no fault
pub admitted : (o : Option Fault) {u : Unit {0}} → Ok u ≡ unless_fault o → None ≡ o
admitted None h = refl
admitted (Some f) h = cc

seen_few : (e : WeightedEdge) (x k : ℕ) (h : k ≤ 16) → ((e.a ≡ x) → k < 16) → ((e.b ≡ x) → k < 16) → k + length (seen_from e x) ≤ 16
seen_few e x k h p q = grind arith

pub degrees_push : (n : ℕ) (es : List WeightedEdge) (e : WeightedEdge) → Faultless n es e → FewEach es → FewEach (es ++ e ∷ [])
degrees_push n es e f d x =
    rw (neighbours_push es e x, length-append)
    (seen_few e x (length (neighbours_of es x)) (d x) (λ q. rw q at f.room_a) (λ q. rw q at f.room_b))
