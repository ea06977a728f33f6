-- The front of a sound list is sound, and the edge behind a front has no fault there.
use Rattle.std.proofs.Common.{◌≡◌, ℕ, ◌<◌, ◌≤◌, Bool, true, false, cond, not, ◌&&◌, ◌||◌, eqb, ltb, leb, ◌⊎◌, List, [], ◌∷◌, ◌++◌, length, Some, None, refl, ap, subst, inl, inr, arith, length-append}
use Rattle.std.proofs.lemmas.List.{get_or_append_left, get_or_push, length_push}
use Rattle.graph.specs.Edges.{weight_in, has_weight, seen_from, neighbours_of, no_edge, Valid, apart, apart_from, all_apart, Sound}
use Rattle.graph.specs.Faults.{edge_fault, count_fault}
use Rattle.graph.specs.declared.edge.WeightedEdge.{WeightedEdge}
use Rattle.graph.specs.declared.fault.Fault.TheVariants.{NodeOutOfRange, OwnNode, WeightOutOfRange, EdgeTwice, WeightTwice, TooManyEdges}
use Rattle.graph.proofs.Edges.{valid_each}
use Rattle.graph.proofs.Push.{neighbours_append, neighbours_push, valid_push, separate_push, separate_back, degrees_push, faultless}

apart_from_front : (e : WeightedEdge) (xs ys : List WeightedEdge) → apart_from e (xs ++ ys) ≡ true → apart_from e xs ≡ true
unfolding apart_from
apart_from_front e [] ys h = refl
apart_from_front e (x ∷ xs) ys h = more (apart e x) (apart_from e (xs ++ ys)) (apart_from e xs) (apart_from_front e xs ys) h
  where
    more : (a b c : Bool) → (b ≡ true → c ≡ true) → (a && b) ≡ true → (a && c) ≡ true
    more a b c ih h = grind arith

separate_front : (xs ys : List WeightedEdge) → all_apart (xs ++ ys) ≡ true → all_apart xs ≡ true
unfolding all_apart
separate_front [] ys h = refl
separate_front (x ∷ xs) ys h = more (apart_from x (xs ++ ys)) (apart_from x xs) (all_apart (xs ++ ys)) (all_apart xs) (apart_from_front x xs ys) (separate_front xs ys) h
  where
    more : (a c b d : Bool) → (a ≡ true → c ≡ true) → (b ≡ true → d ≡ true) → (a && b) ≡ true → (c && d) ≡ true
    more a c b d p q h = grind arith

pub sound_front : (n : ℕ) (xs ys : List WeightedEdge) → Sound n (xs ++ ys) → Sound n xs
sound_front n xs ys s =
    record {
      some = s.some;
      few = s.few;
      valid = λ k h. let v = s.valid k (omega (arith, length-append xs ys)) in rw (get_or_append_left xs ys no_edge k h) at v;
      separate = separate_front xs ys s.separate;
      degrees = λ x. let d = s.degrees x in let e = ap length (neighbours_append xs ys x) in omega (arith, e, length-append (neighbours_of xs x) (neighbours_of ys x));
    }

pub sound_push : (n : ℕ) (es : List WeightedEdge) (e : WeightedEdge) → Sound n es → None ≡ edge_fault n es e → Sound n (es ++ e ∷ [])
sound_push n es e s h =
    let f = faultless n es e h in
    record {
      some = s.some;
      few = s.few;
      valid = valid_push n es e s.valid f.valid;
      separate = separate_push n es e (valid_each n es s.valid) s.separate f.new f.other;
      degrees = degrees_push n es e f s.degrees;
    }

pub sound_none : (n : ℕ) → None ≡ count_fault n → Sound n []
unfolding all_apart neighbours_of
sound_none n h = record { some = grind arith; few = grind arith; valid = λ k l. absurd (omega arith); separate = refl; degrees = λ x. omega arith }

seen_one : (e : WeightedEdge) (x : ℕ) → (e.a ≡ x) ⊎ (e.b ≡ x) → length (seen_from e x) ≡ 1
seen_one e x h = grind arith

-- an edge that leaves the list sound has no fault
pub no_fault : (n : ℕ) (es : List WeightedEdge) (e : WeightedEdge) → Sound n (es ++ e ∷ []) → edge_fault n es e ≡ None
no_fault n es e s =
    let b = separate_back es e s.separate in
    let v : Valid n e = subst (Valid n) (get_or_push es e no_edge (length es) refl) (s.valid (length es) (omega (arith, length_push es e))) in
    let da = s.degrees e.a in
    let db = s.degrees e.b in
    let pa = ap length (neighbours_push es e e.a) in
    let pb = ap length (neighbours_push es e e.b) in
    let la = length-append (neighbours_of es e.a) (seen_from e e.a) in
    let lb = length-append (neighbours_of es e.b) (seen_from e e.b) in
    let oa = seen_one e e.a (inl refl) in
    let ob = seen_one e e.b (inr refl) in
    clear n e.a e.b e.weight (weight_in es e.a e.b) (has_weight es e.weight) (length (neighbours_of es e.a)) (length (neighbours_of es e.b)) v b.1 b.2 (omega arith) (omega arith)
  where
    clear : (n a b w v : ℕ) (s : Bool) (k l : ℕ) → (a < n) × (b < n) × (a ≡ b → ⊥) × (1 ≤ w) × (w ≤ 1000000) → v ≡ 0 → s ≡ false → k < 16 → l < 16 →
        cond (not (ltb a n && ltb b n)) (Some NodeOutOfRange)
        (cond (eqb a b) (Some OwnNode)
        (cond (not (leb 1 w && leb w 1000000)) (Some WeightOutOfRange)
        (cond (leb 1 v) (Some EdgeTwice)
        (cond s (Some WeightTwice)
        (cond (leb 16 k || leb 16 l) (Some TooManyEdges) None))))) ≡ None
    clear n a b w v s k l p q r t u = grind arith
