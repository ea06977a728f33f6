-- A sound list of edges as a valley: every edge of a node has a place of its own, and the stations are made after it. That its weights are a graph's is `weights` of the crate graph.
use Rattle.std.proofs.Common.{◌≡◌, ℕ, zero, suc, ◌<◌, ◌≤◌, Bool, true, false, cond, eqb, ◌⊎◌, List, [], ◌∷◌, ◌++◌, map, length, get_or, sym, refl, ap, ◌∙◌, inl, inr, arith}
use mathlib.Core.List.{map-map}
use Rattle.std.specs.List.{AllByRecursion as All}
use Rattle.std.proofs.lemmas.List.{length-map, length-append, get_or-map, get_or_append_left, get_or_push}
use Rattle.std.proofs.ByRecursion.{All-get_or, All-from_get_or, All-map, All-weaker}
use Rattle.std.proofs.lemmas.Bool.{cases_lt}
use Rattle.graph.specs.declared.edge.WeightedEdge.{WeightedEdge}
use Rattle.graph.specs.declared.edge.Neighbour.{Neighbour}
use Rattle.graph.specs.Edges.{between, weight_in, graph_from, neighbours_of, all_apart, Sound}
use Rattle.graph.proofs.Edges.{nobody, Truly, apart_parts, neighbours_apart, neighbour_truly, neighbour_found}
use Rattle.protocol.specs.Net.{neighbour, Placed}
use Rattle.node.specs.Rules.{fresh}
use Rattle.node.proofs.Within.{fresh_fit}
use Rattle.link.specs.Ends.{new_end}
use Rattle.station.specs.State.{no_link}
use Rattle.station.specs.Making.{fresh_state}
use Rattle.network.specs.Network.{no_state, state_in, fresh_states}
use Rattle.network.specs.Theorem.{near_of}
use Rattle.network.proofs.Fitting.{LinkRoom, Room, node_room}

-- no number stands at two places
abbrev Once : List ℕ → Type 0
Once xs = (k l : ℕ) → k < length xs → l < length xs → get_or xs k 0 ≡ get_or xs l 0 → k ≡ l

once_more : (x : ℕ) (xs : List ℕ) → All (λ y. x ≡ y → ⊥) xs → Once xs → Once (x ∷ xs)
once_more x xs a o zero zero h g e = refl
once_more x xs a o zero (suc l) h g e = absurd (All-get_or (λ y. x ≡ y → ⊥) xs l 0 (omega arith) a e)
once_more x xs a o (suc k) zero h g e = absurd (All-get_or (λ y. x ≡ y → ⊥) xs k 0 (omega arith) a (sym e))
once_more x xs a o (suc k) (suc l) h g e = ap suc (o k l (omega arith) (omega arith) e)

-- the other end of an edge is none of the neighbours by edges that are apart from it
others_differ : (e : WeightedEdge) (x y : ℕ) (ns : List Neighbour) → between e x y ≡ true → All (λ (p : Neighbour). between e x p.node ≡ false) ns → All (λ z. y ≡ z → ⊥) (map (λ n. n.node) ns)
others_differ e x y ns b a = All-map (λ z. y ≡ z → ⊥) (λ n. n.node) ns (All-weaker (λ p. between e x p.node ≡ false) (λ p. y ≡ p.node → ⊥) (λ p f g. differs p.node f g) ns a)
  where
    differs : (z : ℕ) → between e x z ≡ false → y ≡ z → ⊥
    differs z f g = grind arith

near_once : (es : List WeightedEdge) → all_apart es ≡ true → (x : ℕ) → Once (near_of es x)
unfolding neighbours_of
near_once [] s x = λ k l h. absurd (omega arith)
near_once (e ∷ es) s x =
    let k = apart_parts e es s in
    seen (eqb e.a x) (eqb e.b x) refl refl (neighbours_apart e es x k.0) (near_once es k.1 x)
  where
    seen : (s t : Bool) → eqb e.a x ≡ s → eqb e.b x ≡ t → All (λ (p : Neighbour). between e x p.node ≡ false) (neighbours_of es x) → Once (near_of es x) →
        Once (map (λ n. n.node) (cond s (record { node = e.b; weight = e.weight } ∷ []) (cond t (record { node = e.a; weight = e.weight } ∷ []) []) ++ neighbours_of es x))
    seen true t p q a o = once_more e.b (near_of es x) (others_differ e x e.b (neighbours_of es x) (grind arith) a) o
    seen false true p q a o = once_more e.a (near_of es x) (others_differ e x e.a (neighbours_of es x) (grind arith) a) o
    seen false false p q a o = o

-- numbers that stand with each neighbour are those that are looked up by its node
looked_up : (f : ℕ → ℕ) (ns : List Neighbour) → All (λ (p : Neighbour). f p.node ≡ p.weight) ns → map (λ n. n.weight) ns ≡ map f (map (λ n. n.node) ns)
looked_up f [] a = refl
looked_up f (p ∷ ns) a = rw (a.0, looked_up f ns a.1)

-- THE STATIONS AS THEY ARE MADE: so many, each with its own number.
pub made_long : (es : List WeightedEdge) (n : ℕ) → length (fresh_states es n) ≡ n
unfolding fresh_states
made_long es zero = refl
made_long es (suc n) = length-append (fresh_states es n) (fresh_state n (neighbours_of es n) ∷ []) ∙ (let h = made_long es n in omega arith)

pub made_state : (es : List WeightedEdge) (n i : ℕ) → i < n → state_in (fresh_states es n) i ≡ fresh_state i (neighbours_of es i)
unfolding fresh_states
made_state es zero i h = absurd (omega arith)
made_state es (suc n) i h = by (made_long es n) (made_state es n i) (cases_lt i n)
  where
    by : length (fresh_states es n) ≡ n → (i < n → state_in (fresh_states es n) i ≡ fresh_state i (neighbours_of es i)) → (i < n) ⊎ (n ≤ i) →
        state_in (fresh_states es n ++ (fresh_state n (neighbours_of es n) ∷ [])) i ≡ fresh_state i (neighbours_of es i)
    by long ih (inl l) = get_or_append_left (fresh_states es n) (fresh_state n (neighbours_of es n) ∷ []) no_state i (omega arith) ∙ ih l
    by long ih (inr l) = (let e : i ≡ n = omega arith in rw e (get_or_push (fresh_states es n) (fresh_state n (neighbours_of es n)) no_state n long))

-- a link for each neighbour, over which nothing was sent
pub made_links : (es : List WeightedEdge) (i : ℕ) → (fresh_state i (neighbours_of es i)).links ≡ map new_end (near_of es i)
made_links es i = sym (map-map new_end (λ n. n.node) (neighbours_of es i))

-- what the neighbour at a place is: a node of the valley, over an edge of a weight from 1 to 1,000,000
pub record Nearby (n : ℕ) (es : List WeightedEdge) (i j : ℕ) : Type 0 where
  pub inside : j < n
  pub small : j < 256
  pub low : 1 ≤ weight_in es i j
  pub high : weight_in es i j ≤ 1000000

module _ (n : ℕ) (es : List WeightedEdge) (s : Sound n es) where
  truly_at : (i k : ℕ) → k < length (near_of es i) → Truly n es i (get_or (neighbours_of es i) k nobody)
  truly_at i k h = neighbour_truly n es i s.valid s.separate k (rw length-map at h)

  node_at : (i k : ℕ) → k < length (near_of es i) → neighbour (near_of es) i k ≡ (get_or (neighbours_of es i) k nobody).node
  node_at i k h = get_or-map (λ n. n.node) (neighbours_of es i) k nobody 0 (rw length-map at h)

  pub nearby : (i k : ℕ) → k < length (near_of es i) → Nearby n es i (neighbour (near_of es) i k)
  nearby i k h = rw (node_at i k h) (told (truly_at i k h) s.few)
    where
      told : {p : Neighbour} → Truly n es i p → n ≤ 256 → Nearby n es i p.node
      told t few = record { inside = t.inside; small = omega (arith, t.inside); low = rw t.weighs t.low; high = rw t.weighs t.high }

  found_at : (i j : ℕ) → 1 ≤ weight_in es i j → (k : ℕ) × (k < length (near_of es i)) × (neighbour (near_of es) i k ≡ j)
  found_at i j h =
      let w = neighbour_found es i j h in
      let l : w.0 < length (near_of es i) = rw length-map w.1 in
      (w.0, l, node_at i w.0 l ∙ w.2)

  -- every edge of a node has just one place, and there are at most sixteen
  pub places : Placed (graph_from n es) (near_of es)
  places =
      record {
        few = λ i. rw length-map (s.degrees i);
        real = λ i k h l. (let b = nearby i k l in (h, b.inside, b.low));
        every = λ i j e. found_at i j e.2;
        once = λ i. near_once es s.separate i;
      }

  -- the node of a station is that of the protocol's start
  pub made_node : (i : ℕ) → (fresh_state i (neighbours_of es i)).node ≡ fresh (map ((graph_from n es).weight i) (near_of es i))
  made_node i =
      ap fresh (looked_up (weight_in es i) (neighbours_of es i) (All-from_get_or (λ p. weight_in es i p.node ≡ p.weight) (neighbours_of es i) nobody (λ k h. (neighbour_truly n es i s.valid s.separate k h).weighs)))

  -- a station as it is made has room on a page
  pub made_room : (i : ℕ) → i < n → Room (fresh_state i (neighbours_of es i))
  made_room i h =
      record {
        number = omega (arith, s.few);
        edges = length-map (neighbours_of es i) (λ n. n.weight) ∙ sym (length-map (neighbours_of es i) (λ n. new_end n.node));
        few = rw (length-map (neighbours_of es i) (λ n. new_end n.node)) (s.degrees i);
        node = node_room (fresh ws) ((fresh_fit ws).1 weigh) ((fresh_fit ws).0 (rw (length-map (neighbours_of es i) (λ n. n.weight)) (s.degrees i))) (omega arith);
        links = λ k l. (let l : k < length (neighbours_of es i) = rw (length-map (neighbours_of es i) (λ n. new_end n.node)) at l in
            rw (get_or-map (λ n. new_end n.node) (neighbours_of es i) k nobody no_link l) (new_room _ (let t = truly k l in omega (arith, t.inside, s.few))));
      }
    where
      ws : List ℕ
      ws = map (λ n. n.weight) (neighbours_of es i)

      truly : (k : ℕ) → k < length (neighbours_of es i) → Truly n es i (get_or (neighbours_of es i) k nobody)
      truly k l = neighbour_truly n es i s.valid s.separate k l

      weigh : (k : ℕ) → k < length ws → 1 ≤ get_or ws k 0
      weigh k l =
          let l : k < length (neighbours_of es i) = rw (length-map (neighbours_of es i) (λ n. n.weight)) at l in
          rw (get_or-map (λ n. n.weight) (neighbours_of es i) k nobody 0 l) (truly k l).low

      new_room : (j : ℕ) → j < 256 → LinkRoom (new_end j)
      new_room j h = record { neighbour = h; outbox = omega arith; inbox = omega arith; numbers = omega arith; outbox_fits = λ m w. elim w [ ]; inbox_fits = λ m w. elim w [ ] }
