-- A search over lighter edges sees exactly what they join.
use Rattle.std.proofs.Common.{◌≡◌, ℕ, zero, suc, ◌+◌, ◌<◌, ◌≤◌, Bool, true, false, cond, not, ◌⊎◌, List, [], ◌∷◌, length, get_or, set, take, replicate, Decides, sym, refl, ap, ◌∙◌, inl, inr, arith, length-take-le}
use Rattle.std.proofs.lemmas.List.{length-set, get_or-set_same, get_or-set_other, get_or-replicate, get_or_past, length-replicate, get_or-take}
use Rattle.std.specs.List.{AllByRecursion as All, list_all}
use Rattle.std.proofs.lemmas.List.Elements.{All-get_or, All-from_get_or}
use Rattle.std.proofs.lemmas.List.Sums.{AllPass-from_list_all, list_all-from_AllPass}
use Rattle.std.proofs.lemmas.Bool.{cases_eq, cases_lt, both_ways, false≢true, not-true, not_from_false}
use Rattle.graph.specs.Graph.{Graph, Edge, Joined, Belongs, Connected}
use Rattle.graph.specs.Reach.{Seen, Visited}
use Rattle.graph.specs.Edges.{between, weight_in, neighbours_of, graph_from, Valid, AllValid, all_apart}
use Rattle.graph.specs.declared.edge.WeightedEdge.{WeightedEdge}
use Rattle.graph.specs.declared.edge.Neighbour.{Neighbour}
use Rattle.graph.proofs.Paths.{joined_then, joined_back}
use Rattle.graph.proofs.Edges.{nobody, Truly, neighbour_truly, neighbour_found, sound_weights, valid_each}

-- how many nodes are not seen yet
unfoldable pub unseen : List Bool → ℕ
unseen [] = 0
unseen (b ∷ bs) = cond b 0 1 + unseen bs

pub unseen_le : (s t : List Bool) → length s ≡ length t → ((x : ℕ) → Seen s x → Seen t x) → unseen t ≤ unseen s
unfolding unseen
unseen_le [] [] e h = omega arith
unseen_le [] (b ∷ t) e h = absurd (omega arith)
unseen_le (a ∷ s) [] e h = absurd (omega arith)
unseen_le (a ∷ s) (b ∷ t) e h = more a b (h 0) (unseen_le s t (omega arith) (λ x p. h (suc x) p))
  where
    more : (a b : Bool) → (a ≡ true → b ≡ true) → unseen t ≤ unseen s → cond b 0 1 + unseen t ≤ cond a 0 1 + unseen s
    more a b k ih = grind arith

pub unseen_set : (s : List Bool) (i : ℕ) → i < length s → get_or s i false ≡ false → unseen (set s i true) < unseen s
unfolding unseen
unseen_set [] i l h = absurd (omega arith)
unseen_set (a ∷ s) zero l h = rw h (omega arith)
unseen_set (a ∷ s) (suc i) l h = let k = unseen_set s i (omega arith) h in omega arith

-- what the search from a node has done after some of its neighbours: s as it began, with the node itself seen, and t now
pub record Searching (g : Graph) (under at : ℕ) (s t : List Bool) : Type 0 where
  pub kept : (x : ℕ) → Seen s x → Seen t x
  pub joined : (x : ℕ) → Seen t x → Seen s x ⊎ Joined g under at x
  pub closed : (x y : ℕ) → Seen t x → Seen s x ⊎ (Edge g x y → g.weight x y < under → Seen t y)

-- the first k neighbours, where lighter, are seen
abbrev pub Sought : List Neighbour → ℕ → ℕ → List Bool → Type 0
Sought ns under k t = (i : ℕ) → i < k → (get_or ns i nobody).weight < under → Seen t (get_or ns i nobody).node

module _ (g : Graph) (under at : ℕ) where
  pub search_goes_on : (n : ℕ) (s t r : List Bool) → Edge g at n → g.weight at n < under → Searching g under at s t → Visited g under n t r → Searching g under at s r
  search_goes_on n s t r e l a v =
      record {
        kept = λ x p. v.kept x (a.kept x p);
        joined = λ x p. elim (v.joined x p) [ inl q ↦ a.joined x q | inr j ↦ inr (Joined.over n e l j) ];
        closed = λ x y p. elim (v.closed x y p) [
          | inl q ↦ elim (a.closed x y q) [ inl o ↦ inl o | inr f ↦ inr (λ d k. v.kept y (f d k)) ]
          | inr f ↦ inr f
        ];
      }

  only_at : (s : List Bool) (x : ℕ) → Seen (set s at true) x → Seen s x ⊎ (x ≡ at)
  only_at s x p = elim (cases_eq x at) [ inl e ↦ inr e | inr n ↦ inl (rw (get_or-set_other s at x true false n) at p) ]

  set_keeps : (s : List Bool) (x : ℕ) → at < length s → Seen s x → Seen (set s at true) x
  set_keeps s x l p =
      elim (cases_eq x at) [ inl e ↦ rw e (get_or-set_same s at true false l) | inr n ↦ rw (get_or-set_other s at x true false n) p ]

  -- with all neighbours sought the search from the node is done
  pub search_ends : (s t : List Bool) → at < length s → Searching g under at (set s at true) t → ((y : ℕ) → Edge g at y → g.weight at y < under → Seen t y) → Visited g under at s t
  search_ends s t l a h =
      record {
        kept = λ x p. a.kept x (set_keeps s x l p);
        here = a.kept at (get_or-set_same s at true false l);
        joined = λ x p. elim (a.joined x p) [
          | inl q ↦ elim (only_at s x q) [ inl o ↦ inl o | inr e ↦ inr (rw e Joined.here) ]
          | inr j ↦ inr j
        ];
        closed = λ x y p. elim (a.closed x y p) [
          | inl q ↦ elim (only_at s x q) [ inl o ↦ inl o | inr e ↦ inr (λ d k. h y (rw e at d) (rw e at k)) ]
          | inr f ↦ inr f
        ];
      }

pub sought_more : (ns : List Neighbour) (under k : ℕ) (t r : List Bool) → Sought ns under k t → ((x : ℕ) → Seen t x → Seen r x) →
    ((get_or ns k nobody).weight < under → Seen r (get_or ns k nobody).node) → Sought ns under (k + 1) r
sought_more ns under k t r a h f i l w =
    elim (cases_eq i k) [ inl e ↦ rw e (f (rw e at w)) | inr d ↦ h (get_or ns i nobody).node (a i (omega arith) w) ]

-- a call for a neighbour has fewer nodes left
pub fewer_left : (g : Graph) (under at : ℕ) (s t : List Bool) → at < length s → length t ≡ length s → get_or s at false ≡ false → Searching g under at (set s at true) t → unseen t < unseen s
fewer_left g under at s t l e f a =
    let m = unseen_le (set s at true) t (length-set s at true ∙ sym e) a.kept in
    let k = unseen_set s at l f in
    omega arith

-- the neighbours that a node is given are those by its edges
module _ (n : ℕ) (es : List WeightedEdge) (valid : AllValid n es) (separate : all_apart es ≡ true) (at : ℕ) (ns : List Neighbour) (same : ns ≡ neighbours_of es at) where
  pub truly : (i : ℕ) → i < length ns → Truly n es at (get_or ns i nobody)
  truly i h = rw same (neighbour_truly n es at valid separate i (rw same at h))

  pub edge_to : at < n → (i : ℕ) → i < length ns → Edge (graph_from n es) at (get_or ns i nobody).node
  edge_to l i h = let t = truly i h in (l, t.inside, omega (arith, t.weighs, t.low))

  pub all_sought : (under k : ℕ) (t : List Bool) → length ns ≤ k → Sought (neighbours_of es at) under k t → (y : ℕ) → Edge (graph_from n es) at y → weight_in es at y < under → Seen t y
  all_sought under k t l a y e w =
      let f = neighbour_found es at y e.2 in
      let h = rw (sym same) at f.1 in
      let r = neighbour_truly n es at valid separate f.0 f.1 in
      let z : weight_in es at (get_or (neighbours_of es at) f.0 nobody).node ≡ weight_in es at y = ap (λ v. weight_in es at v) f.2 in
      rw f.2 at (a f.0 (omega arith) (omega (arith, z, r.weighs)))

-- one turn: a neighbour that is lighter and was not seen is visited, and any other is passed over
pub turn_visits : (g : Graph) (under at k : ℕ) (ns : List Neighbour) (s t r : List Bool) → Edge g at (get_or ns k nobody).node → g.weight at (get_or ns k nobody).node < under →
    Searching g under at s t → Sought ns under k t → Visited g under (get_or ns k nobody).node t r → Searching g under at s r × Sought ns under (k + 1) r
turn_visits g under at k ns s t r e l a b v =
    (search_goes_on g under at (get_or ns k nobody).node s t r e l a v, sought_more ns under k t r b v.kept (λ _. v.here))

pub turn_passes : (g : Graph) (under at k : ℕ) (ns : List Neighbour) (s t r : List Bool) → r ≡ t → ((get_or ns k nobody).weight < under → Seen t (get_or ns k nobody).node) →
    Searching g under at s t → Sought ns under k t → Searching g under at s r × Sought ns under (k + 1) r
turn_passes g under at k ns s t r e h a b = rw e (a, sought_more ns under k t t b (λ x p. p) h)

pub decides_no : (P : Type 0) → (P → ⊥) → Decides false P
decides_no P f = (λ e. absurd (false≢true e), λ p. absurd (f p))

-- what is joined is one node, or has an edge at either end
pub joined_inside : (g : Graph) {u a b : ℕ} → Joined g u a b → (a ≡ b) ⊎ ((a < g.count) × (b < g.count))
joined_inside g Joined.here = inl refl
joined_inside g (Joined.over {a} b l k r) = elim (joined_inside g r) [ inl e ↦ inr (l.0, rw (sym e) l.1) | inr p ↦ inr (l.0, p.1) ]

pub none_seen : (n x : ℕ) → get_or (replicate n false) x false ≡ false
none_seen n x =
    elim (cases_lt x n) [
      | inl l ↦ get_or-replicate n x false false l
      | inr l ↦ get_or_past (replicate n false) x false (rw (length-replicate n false) l)
    ]

-- A search that begins with nothing seen sees exactly what is joined.
module _ (g : Graph) (u a n : ℕ) (t : List Bool) (v : Visited g u a (replicate n false) t) where
  old : (x : ℕ) → Seen (replicate n false) x → ⊥
  old x p = both_ways (get_or (replicate n false) x false) (none_seen n x) p

  on : (x y : ℕ) → Seen t x → Edge g x y → g.weight x y < u → Seen t y
  on x y p e l = elim (v.closed x y p) [ inl q ↦ absurd (old x q) | inr f ↦ f e l ]

  reaches : {x y : ℕ} → Joined g u x y → Seen t x → Seen t y
  reaches Joined.here p = p
  reaches (Joined.over {a = x} y l k r) p = reaches r (on x y p l k)

  pub seen_joined : (b : ℕ) → Seen t b → Joined g u a b
  seen_joined b p = elim (v.joined b p) [ inl q ↦ absurd (old b q) | inr j ↦ j ]

  pub joined_seen : (b : ℕ) → Joined g u a b → Seen t b
  joined_seen b j = reaches j v.here

-- where all edges are lighter than m, what is joined at all is joined under m
under_all : (g : Graph) (m : ℕ) → ((a b : ℕ) → g.weight a b < m) → {u a b : ℕ} → Joined g u a b → Joined g m a b
under_all g m h Joined.here = Joined.here
under_all g m h (Joined.over {a} b l k r) = Joined.over b l (h a b) (under_all g m h r)

weight_high : (n : ℕ) (es : List WeightedEdge) → All (Valid n) es → (a b : ℕ) → weight_in es a b ≤ 1000000
unfolding weight_in
weight_high n [] v a b = omega arith
weight_high n (e ∷ es) v a b = high e (weight_in es a b) v.0.4 (weight_high n es v.1 a b)
  where
    high : (e : WeightedEdge) (w : ℕ) → e.weight ≤ 1000000 → w ≤ 1000000 → cond (between e a b) e.weight w ≤ 1000000
    high e w p q = grind arith

weight_inside : (n : ℕ) (es : List WeightedEdge) → All (Valid n) es → (a b : ℕ) → 1 ≤ weight_in es a b → (a < n) × (b < n)
unfolding weight_in
weight_inside n [] v a b h = absurd (omega arith)
weight_inside n (e ∷ es) v a b h = inside e (weight_in es a b) v.0 (weight_inside n es v.1 a b) h
  where
    inside : (e : WeightedEdge) (w : ℕ) → Valid n e → (1 ≤ w → (a < n) × (b < n)) → 1 ≤ cond (between e a b) e.weight w → (a < n) × (b < n)
    inside e w p ih h = grind (arith, ih)

module _ (n : ℕ) (es : List WeightedEdge) (valid : AllValid n es) where
  pub edge_from_weight : (a b : ℕ) → 1 ≤ weight_in es a b → Edge (graph_from n es) a b
  edge_from_weight a b h = let p = weight_inside n es (valid_each n es valid) a b h in (p.0, p.1, h)

  pub belongs_decides : (a b w : ℕ) (r : Bool) → w ≡ weight_in es a b → 1 ≤ w → Decides r (Joined (graph_from n es) w a b) → Decides (not r) (Belongs (graph_from n es) a b)
  belongs_decides a b w r e h d =
      let f : Decides r (Joined (graph_from n es) (weight_in es a b) a b) = rw e at d in
      (λ t. (edge_from_weight a b (rw e at h), λ j. both_ways r (not-true r t) (f.1 j)), λ p. not_from_false r (isnt r (λ t. p.1 (f.0 t))))
    where
      isnt : (r : Bool) → (r ≡ true → ⊥) → r ≡ false
      isnt r f = grind arith

  module _ (separate : all_apart es ≡ true) (some : 1 ≤ n) (m : ℕ) (large : 1000000 < m) (t : List Bool) (v : Visited (graph_from n es) m 0 (replicate 256 false) t) where
    pub connected_if : ((x : ℕ) → x < n → Seen t x) → Connected (graph_from n es)
    connected_if h a b p q =
        let j = seen_joined (graph_from n es) m 0 256 t v in
        (m, joined_then (graph_from n es) (joined_back (graph_from n es) (sound_weights n es valid separate) (j a (h a p))) (j b (h b q)))

    pub connected_then : Connected (graph_from n es) → (x : ℕ) → x < n → Seen t x
    connected_then c x p =
        let w = c 0 x some p in
        joined_seen (graph_from n es) m 0 256 t v x
        (under_all (graph_from n es) m (λ a b. let k = weight_high n es (valid_each n es valid) a b in omega arith) w.1)

-- the nodes in front are all seen exactly if each of them is
module _ (t : List Bool) (n : ℕ) (l : n ≤ length t) where
  pub all_seen_then : list_all (λ b. b) (take n t) ≡ true → (x : ℕ) → x < n → Seen t x
  all_seen_then h x p =
      let long : x < length (take n t) = omega (arith, length-take-le n t l) in
      rw get_or-take at (All-get_or (λ b. b ≡ true) (take n t) x false long (AllPass-from_list_all (λ b. b) (take n t) h))

  pub all_seen_if : ((x : ℕ) → x < n → Seen t x) → list_all (λ b. b) (take n t) ≡ true
  all_seen_if h =
      list_all-from_AllPass (λ b. b) (take n t)
      (All-from_get_or (λ b. b ≡ true) (take n t) false (λ x p. let q : x < n = omega (arith, p, length-take-le n t l) in rw get_or-take (h x q)))
