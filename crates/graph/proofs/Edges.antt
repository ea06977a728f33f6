-- Lists of edges: their weights are those of a graph, neighbours are what the edges say, and what one more edge does.
use Rattle.std.proofs.Common.{◌≡◌, ℕ, ◌+◌, ◌<◌, ◌≤◌, Bool, true, false, cond, ◌&&◌, eqb, ◌⊎◌, List, [], ◌∷◌, ◌++◌, length, get_or, Some, Option, refl, ◌∙◌, arith, length-append}
use Rattle.std.specs.List.{AllByRecursion as All, find}
use Rattle.std.specs.Option.{option_map}
use Rattle.std.proofs.lemmas.List.{get_or-append-add}
use Rattle.std.proofs.ByRecursion.{All-append, All-from_get_or, All-get_or}
use Rattle.graph.specs.Graph.{Weights}
use Rattle.graph.specs.Edges.{between, weight_in, graph_from, seen_from, neighbours_of, no_edge, Valid, apart, apart_from, all_apart, AllValid}
use Rattle.graph.specs.Lists.{some_weight}
use Rattle.graph.specs.declared.edge.WeightedEdge.{WeightedEdge}
use Rattle.graph.specs.declared.edge.Neighbour.{Neighbour}

-- no neighbour, as past the end of a list
abbrev pub nobody : Neighbour
nobody = record { node = 0; weight = 0 }

all_and : {X : Type 0} (P Q R : X → Type 0) → ((x : X) → P x → Q x → R x) → (xs : List X) → All P xs → All Q xs → All R xs
all_and P Q R f [] p q = tt
all_and P Q R f (x ∷ xs) p q = (f x p.0 q.0, all_and P Q R f xs p.1 q.1)

pub valid_each : (n : ℕ) (es : List WeightedEdge) → AllValid n es → All (Valid n) es
valid_each n es h = All-from_get_or (Valid n) es no_edge h

-- weights, one edge at a time

pub weight_found : (e : WeightedEdge) (es : List WeightedEdge) (a b : ℕ) → between e a b ≡ true → weight_in (e ∷ es) a b ≡ e.weight
unfolding weight_in
weight_found e es a b h = rw h

pub weight_past : (e : WeightedEdge) (es : List WeightedEdge) (a b : ℕ) → between e a b ≡ false → weight_in (e ∷ es) a b ≡ weight_in es a b
unfolding weight_in
weight_past e es a b h = rw h

pub weight_none : (a b : ℕ) → weight_in [] a b ≡ 0
unfolding weight_in
weight_none a b = refl

-- The first edge between two nodes has the weight, if there is one.
pub weight_of_found : (n : ℕ) (es : List WeightedEdge) → All (Valid n) es → (a b : ℕ) →
    option_map (λ (e : WeightedEdge). e.weight) (find (λ e. between e a b) es) ≡ some_weight (weight_in es a b)
unfolding weight_in
weight_of_found n [] v a b = refl
weight_of_found n (e ∷ es) v a b = one e (find (λ e. between e a b) es) (weight_in es a b) v.0.3 (weight_of_found n es v.1 a b)
  where
    one : (e : WeightedEdge) (f : Option WeightedEdge) (w : ℕ) → 1 ≤ e.weight → option_map (λ (e : WeightedEdge). e.weight) f ≡ some_weight w →
        option_map (λ (e : WeightedEdge). e.weight) (cond (between e a b) (Some e) f) ≡ some_weight (cond (between e a b) e.weight w)
    one e f w l ih = grind (arith, ih)

between_back : (e : WeightedEdge) (a b : ℕ) → between e a b ≡ between e b a
between_back e a b = grind arith

pub weight_both : (es : List WeightedEdge) (a b : ℕ) → weight_in es a b ≡ weight_in es b a
unfolding weight_in
weight_both [] a b = refl
weight_both (e ∷ es) a b = rw (between_back e a b, weight_both es a b)

pub weight_own : (n : ℕ) (es : List WeightedEdge) → All (Valid n) es → (a : ℕ) → weight_in es a a ≡ 0
unfolding weight_in
weight_own n [] v a = refl
weight_own n (e ∷ es) v a = own e (weight_in es a a) a v.0.2 (weight_own n es v.1 a)
  where
    own : (e : WeightedEdge) (w a : ℕ) → (e.a ≡ e.b → ⊥) → w ≡ 0 → cond (between e a a) e.weight w ≡ 0
    own e w a ne z = grind arith

weight_other : (e : WeightedEdge) (es : List WeightedEdge) → apart_from e es ≡ true → (c d : ℕ) → 1 ≤ weight_in es c d → weight_in es c d ≡ e.weight → ⊥
unfolding weight_in apart_from
weight_other e [] h c d l q = omega arith
weight_other e (f ∷ fs) h c d l q = more e f (weight_in fs c d) (apart_from e fs) (weight_other e fs) c d h l q
  where
    more : (e f : WeightedEdge) (w : ℕ) (s : Bool) → (s ≡ true → (c d : ℕ) → 1 ≤ weight_in fs c d → weight_in fs c d ≡ e.weight → ⊥) → (c d : ℕ) →
        (apart e f && s) ≡ true → 1 ≤ cond (between f c d) f.weight (weight_in fs c d) → cond (between f c d) f.weight (weight_in fs c d) ≡ e.weight → ⊥
    more e f w s ih c d h l q = grind (arith, ih)

abbrev Same : (a b c d : ℕ) → Type 0
Same a b c d = ((a ≡ c) × (b ≡ d)) ⊎ ((a ≡ d) × (b ≡ c))

weights_differ : (es : List WeightedEdge) → all_apart es ≡ true → (a b c d : ℕ) → 1 ≤ weight_in es a b → 1 ≤ weight_in es c d → weight_in es a b ≡ weight_in es c d → Same a b c d
unfolding weight_in all_apart
weights_differ [] h a b c d l m q = absurd (omega arith)
weights_differ (e ∷ es) h a b c d l m q =
    more (weight_in es a b) (weight_in es c d) (apart_from e es) (all_apart es) (weight_other e es) (λ p. weights_differ es p a b c d) h l m q
  where
    more : (w v : ℕ) (s t : Bool) → (s ≡ true → (c d : ℕ) → 1 ≤ weight_in es c d → weight_in es c d ≡ e.weight → ⊥) →
        (t ≡ true → 1 ≤ weight_in es a b → 1 ≤ weight_in es c d → weight_in es a b ≡ weight_in es c d → Same a b c d) → (s && t) ≡ true →
        1 ≤ cond (between e a b) e.weight (weight_in es a b) → 1 ≤ cond (between e c d) e.weight (weight_in es c d) →
        cond (between e a b) e.weight (weight_in es a b) ≡ cond (between e c d) e.weight (weight_in es c d) → Same a b c d
    more w v s t o ih h l m q = grind (arith, ih, o)

-- The graph of a sound list has weights as a graph's have to be.
pub sound_weights : (n : ℕ) (es : List WeightedEdge) → AllValid n es → all_apart es ≡ true → Weights (graph_from n es)
sound_weights n es v s =
    record {
      both = weight_both es;
      own = weight_own n es (valid_each n es v);
      differ = λ a b c d l m q. weights_differ es s a b c d l.2 m.2 q;
    }

-- neighbours

seen_apart : (e f : WeightedEdge) (x : ℕ) → apart e f ≡ true → (s t : Bool) → eqb f.a x ≡ s → eqb f.b x ≡ t →
    All (λ (p : Neighbour). between e x p.node ≡ false) (cond s (record { node = f.b; weight = f.weight } ∷ []) (cond t (record { node = f.a; weight = f.weight } ∷ []) []))
seen_apart e f x h true t p q = (grind arith, tt)
seen_apart e f x h false true p q = (grind arith, tt)
seen_apart e f x h false false p q = tt

apart_head : (e f : WeightedEdge) (fs : List WeightedEdge) → apart_from e (f ∷ fs) ≡ true → (apart e f ≡ true) × (apart_from e fs ≡ true)
unfolding apart_from
apart_head e f fs h = grind arith

pub apart_parts : (e : WeightedEdge) (es : List WeightedEdge) → all_apart (e ∷ es) ≡ true → (apart_from e es ≡ true) × (all_apart es ≡ true)
unfolding all_apart
apart_parts e es h = grind arith

pub neighbours_apart : (e : WeightedEdge) (es : List WeightedEdge) (x : ℕ) → apart_from e es ≡ true → All (λ (p : Neighbour). between e x p.node ≡ false) (neighbours_of es x)
unfolding neighbours_of
neighbours_apart e [] x h = tt
neighbours_apart e (f ∷ fs) x h =
    let k = apart_head e f fs h in
    All-append (λ (p : Neighbour). between e x p.node ≡ false) (seen_from f x) (neighbours_of fs x)
    (seen_apart e f x k.0 (eqb f.a x) (eqb f.b x) refl refl) (neighbours_apart e fs x k.1)

-- what a neighbour says is so
pub record Truly (n : ℕ) (es : List WeightedEdge) (x : ℕ) (p : Neighbour) : Type 0 where
  pub weighs : weight_in es x p.node ≡ p.weight
  pub inside : p.node < n
  pub low : 1 ≤ p.weight
  pub high : p.weight ≤ 1000000

seen_truly : (n : ℕ) (e : WeightedEdge) (es : List WeightedEdge) (x : ℕ) → Valid n e → (s t : Bool) → eqb e.a x ≡ s → eqb e.b x ≡ t →
    All (Truly n (e ∷ es) x) (cond s (record { node = e.b; weight = e.weight } ∷ []) (cond t (record { node = e.a; weight = e.weight } ∷ []) []))
seen_truly n e es x v true t p q = (record { weighs = weight_found e es x e.b (grind arith); inside = v.1; low = v.3; high = v.4 }, tt)
seen_truly n e es x v false true p q = (record { weighs = weight_found e es x e.a (grind arith); inside = v.0; low = v.3; high = v.4 }, tt)
seen_truly n e es x v false false p q = tt

neighbours_truly : (n : ℕ) (es : List WeightedEdge) (x : ℕ) → All (Valid n) es → all_apart es ≡ true → All (Truly n es x) (neighbours_of es x)
unfolding neighbours_of
neighbours_truly n [] x v s = tt
neighbours_truly n (e ∷ es) x v s =
    let k = apart_parts e es s in
    All-append (Truly n (e ∷ es) x) (seen_from e x) (neighbours_of es x) (seen_truly n e es x v.0 (eqb e.a x) (eqb e.b x) refl refl)
    (all_and (λ p. between e x p.node ≡ false) (Truly n es x) (Truly n (e ∷ es) x)
    (λ p o t. record { weighs = weight_past e es x p.node o ∙ t.weighs; inside = t.inside; low = t.low; high = t.high }) (neighbours_of es x) (neighbours_apart e es x k.0)
    (neighbours_truly n es x v.1 k.1))

-- Each neighbour that a node has is one by an edge of that weight.
pub neighbour_truly : (n : ℕ) (es : List WeightedEdge) (x : ℕ) → AllValid n es → all_apart es ≡ true → (i : ℕ) → i < length (neighbours_of es x) →
    Truly n es x (get_or (neighbours_of es x) i nobody)
neighbour_truly n es x v s i h = All-get_or (Truly n es x) (neighbours_of es x) i nobody h (neighbours_truly n es x (valid_each n es v) s)

-- some place of a list of neighbours has the node y
abbrev pub Somewhere : List Neighbour → ℕ → Type 0
Somewhere ps y = (i : ℕ) × (i < length ps) × ((get_or ps i nobody).node ≡ y)

seen_found : (e : WeightedEdge) (x y : ℕ) (rest : List Neighbour) → between e x y ≡ true → (s t : Bool) → eqb e.a x ≡ s → eqb e.b x ≡ t →
    Somewhere (cond s (record { node = e.b; weight = e.weight } ∷ []) (cond t (record { node = e.a; weight = e.weight } ∷ []) []) ++ rest) y
seen_found e x y rest h true t p q = (0, omega arith, grind arith)
seen_found e x y rest h false true p q = (0, omega arith, grind arith)
seen_found e x y rest h false false p q = absurd (grind arith)

further : (ps qs : List Neighbour) (y : ℕ) → Somewhere qs y → Somewhere (ps ++ qs) y
further ps qs y w = (length ps + w.0, simp length-append (omega (arith, w.1)), rw get_or-append-add w.2)

-- Every edge at a node is among its neighbours.
pub neighbour_found : (es : List WeightedEdge) (x y : ℕ) → 1 ≤ weight_in es x y → Somewhere (neighbours_of es x) y
unfolding neighbours_of
neighbour_found [] x y h = absurd (omega (arith, weight_none x y))
neighbour_found (e ∷ es) x y h = by (neighbour_found es x y) (between e x y) refl
  where
    by : (1 ≤ weight_in es x y → Somewhere (neighbours_of es x) y) → (s : Bool) → between e x y ≡ s → Somewhere (seen_from e x ++ neighbours_of es x) y
    by ih true q = seen_found e x y (neighbours_of es x) q (eqb e.a x) (eqb e.b x) refl refl
    by ih false q = further (seen_from e x) (neighbours_of es x) y (ih (rw (weight_past e es x y q) at h))

-- a node out of range has none
pub neighbours_outside : (n : ℕ) (es : List WeightedEdge) → All (Valid n) es → (x : ℕ) → n ≤ x → neighbours_of es x ≡ []
unfolding neighbours_of
neighbours_outside n [] v x h = refl
neighbours_outside n (e ∷ es) v x h = simp (neighbours_outside n es v.1 x h) (out e v.0.0 v.0.1)
  where
    out : (e : WeightedEdge) → e.a < n → e.b < n → seen_from e x ++ [] ≡ []
    out e p q = grind arith
