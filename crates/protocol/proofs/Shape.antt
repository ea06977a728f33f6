-- A node that stands in a graph: its places are its edges there. What is done at its places is done at its neighbours.
use Rattle.std.proofs.Common.{◌≡◌, ℕ, suc, ◌<◌, ◌≤◌, Bool, true, false, cond, ◌&&◌, eqb, ◌⊎◌, List, [], ◌∷◌, length, get_or, set, Some, None, Option, sym, refl, ap, ◌∙◌, inl, inr, arith}
use Rattle.node.proofs.Lightest.{lightest_none, lightest_picked, lightest_least}
use Rattle.std.proofs.lemmas.Bool.Decides.{eqb_tells}
use Rattle.graph.specs.declared.mark.Mark.{Mark}
use Rattle.graph.specs.declared.mark.Mark.TheVariants.{Basic, Branch, Rejected}
use Rattle.node.specs.declared.state.Node.{Node}
use Rattle.node.specs.declared.state.Best.{Best}
use Rattle.node.specs.Rules.{is_basic, lighter, is_edge, has_edge, mark_of, weight_of, lightest, has_basic}
use Rattle.node.specs.Laws.{Within, There}
use Rattle.graph.specs.Graph.{Graph, Edge}
use Rattle.protocol.proofs.Deed.{opens, Picks, Nobody}
use Rattle.protocol.proofs.Held.{Held, marking, rejecting, bettering}
use Rattle.protocol.proofs.Lift.{mark_at, toward, best_to, held_of, Once, mark_at_lem, mark_set}
use Rattle.node.specs.Rules as rules
use Rattle.node.specs.declared.state.Best.TheVariants as best

-- the places of node i, and what stands there
pub record Shape (g : Graph) (i : ℕ) (near : List ℕ) (n : Node) : Type 0 where
  pub within : Within n
  pub edges : n.edges ≡ length near
  pub once : Once near
  pub weigh : (k : ℕ) → k < length near → weight_of n k ≡ g.weight i (get_or near k 0)
  pub real : (k : ℕ) → k < length near → Edge g i (get_or near k 0)
  pub every : (j : ℕ) → Edge g i j → (k : ℕ) × (k < length near) × (get_or near k 0 ≡ j)

-- who has no place has no mark
pub mark_none : (near : List ℕ) (ms : List Mark) (b : ℕ) → ((k : ℕ) → k < length near → get_or near k 0 ≡ b → ⊥) → mark_at near ms b ≡ Basic
mark_none [] ms b h = refl
mark_none (a ∷ near) [] b h = refl
mark_none (a ∷ near) (m ∷ ms) b h =
    let d = h 0 (omega arith) in
    let f : eqb a b ≡ false = grind arith in
    rw f (mark_none near ms b (λ k p e. h (suc k) (omega arith) e))

module _ (g : Graph) (i : ℕ) (near : List ℕ) (n : Node) (s : Shape g i near n) where
  abbrev nb : ℕ → ℕ
  nb k = get_or near k 0

  abbrev h : Held
  h = held_of near n

  pub few : length near ≤ 16
  few = let w = s.within.few in let e = s.edges in omega arith

  room : length near ≤ length n.marks
  room = let w = s.within.mark_places in let f = few in omega arith

  pub inside_of : (k : ℕ) → has_edge n k ≡ true → k < length near
  inside_of k e = let d = s.edges in grind arith

  pub there : (k : ℕ) → k < length near → has_edge n k ≡ true
  there k l = let d = s.edges in let f = few in grind arith

  -- two places are one exactly if their neighbours are
  pub same_place : (k l : ℕ) → k < length near → l < length near → eqb (nb k) (nb l) ≡ eqb k l
  same_place k l p q = elim (eqb_tells k l) [ inl u ↦ grind arith | inr u ↦ let o = s.once k l p q in grind arith ]

  pub marked : (k : ℕ) → k < length near → h.mark (nb k) ≡ mark_of n k
  marked k l = mark_at_lem near n.marks k s.once l room

  -- a mark is set
  pub held_branching : (k : ℕ) → k < length near → held_of near (rules.branching k n) ≡ marking (nb k) Branch h
  held_branching k l =
      λ p. record { status = n.status; mark = λ j. mark_set near n.marks k Branch s.once l room j p; level = n.level; name = n.name; find_count = n.find_count; parent = h.parent; best = h.best; best_weight = h.best_weight; testing = h.testing; halted = n.halted }

  rejected_at : (k : ℕ) → k < length near → (j : ℕ) → mark_at near (cond (is_basic (mark_of n k)) (set n.marks k Rejected) n.marks) j ≡ cond (eqb j (nb k) && is_basic (h.mark j)) Rejected (h.mark j)
  rejected_at k l j = go (is_basic (mark_of n k)) refl (eqb_tells j (nb k))
    where
      here : (b : Bool) → is_basic (mark_of n k) ≡ b → j ≡ nb k → is_basic (h.mark j) ≡ b
      here b e u = ap (λ x. is_basic (h.mark x)) u ∙ ap is_basic (marked k l) ∙ e

      go : (b : Bool) → is_basic (mark_of n k) ≡ b → ((eqb j (nb k) ≡ true) × (j ≡ nb k)) ⊎ ((eqb j (nb k) ≡ false) × (j ≡ nb k → ⊥)) →
          mark_at near (cond b (set n.marks k Rejected) n.marks) j ≡ cond (eqb j (nb k) && is_basic (h.mark j)) Rejected (h.mark j)
      go true e (inl u) = mark_set near n.marks k Rejected s.once l room j ∙ rw (u.0, here true e u.1)
      go true e (inr u) = mark_set near n.marks k Rejected s.once l room j ∙ rw u.0
      go false e (inl u) = rw (u.0, here false e u.1)
      go false e (inr u) = rw u.0

  pub held_rejecting : (k : ℕ) → k < length near → held_of near (rules.rejecting k n) ≡ rejecting (nb k) h
  held_rejecting k l =
      λ p. record { status = n.status; mark = λ j. rejected_at k l j p; level = n.level; name = n.name; find_count = n.find_count; parent = h.parent; best = h.best; best_weight = h.best_weight; testing = h.testing; halted = n.halted }

  better_to : (k : ℕ) (w : Option ℕ) (b : Best) → best_to near (rules.better_by k w b) ≡ cond (lighter w (rules.best_weight b)) (Some (nb k)) (best_to near b)
  better_to k None b = refl
  better_to k (Some w) best.Nothing = refl
  better_to k (Some w) (best.Over l v) = grind arith

  better_weight : (k : ℕ) (w : Option ℕ) (b : Best) → rules.best_weight (rules.better_by k w b) ≡ cond (lighter w (rules.best_weight b)) w (rules.best_weight b)
  better_weight k None b = refl
  better_weight k (Some w) best.Nothing = refl
  better_weight k (Some w) (best.Over l v) = grind arith

  pub held_bettering : (k : ℕ) (w : Option ℕ) → held_of near (rules.bettering k w n) ≡ bettering (nb k) w h
  held_bettering k w =
      λ p. record { status = n.status; mark = h.mark; level = n.level; name = n.name; find_count = n.find_count; parent = h.parent; best = better_to k w n.best p; best_weight = better_weight k w n.best p; testing = h.testing; halted = n.halted }

  -- the lightest edge of those that are picked
  pub picks_any : (k : ℕ) → lightest n (has_edge n) 16 ≡ Some k → (k < length near) × Picks g i (λ j. true) (nb k)
  picks_any k e =
      let p = lightest_picked n (has_edge n) 16 k e in
      let l : k < length near = inside_of k (grind arith) in
      (l, record { inside = (s.real k l).1; line = (s.real k l).2; picked = refl; least = λ y a b c. least y (s.every y ((s.real k l).0, a, b)) })
    where
      least : (y : ℕ) → (m : ℕ) × (m < length near) × (nb m ≡ y) → g.weight i (nb k) ≤ g.weight i y
      least y (m, q, u) =
          let p = lightest_picked n (has_edge n) 16 k e in
          let l : k < length near = inside_of k (grind arith) in
          let o = few in
          let t = there m q in
          let z = lightest_least n (has_edge n) 16 k m e (omega arith) (grind arith) in
          rw (← u, ← s.weigh k l, ← s.weigh m q) z

  -- the lightest basic edge
  pub picks_basic : (k : ℕ) → lightest n (has_basic n) 16 ≡ Some k → (k < length near) × Picks g i (opens h) (nb k)
  picks_basic k e =
      let p = lightest_picked n (has_basic n) 16 k e in
      let l : k < length near = inside_of k (grind arith) in
      let m = marked k l in
      (l, record { inside = (s.real k l).1; line = (s.real k l).2; picked = rw m (grind arith); least = λ y a b c. least y c (s.every y ((s.real k l).0, a, b)) })
    where
      least : (y : ℕ) → is_basic (h.mark y) ≡ true → (m : ℕ) × (m < length near) × (nb m ≡ y) → g.weight i (nb k) ≤ g.weight i y
      least y c (m, q, u) =
          let p = lightest_picked n (has_basic n) 16 k e in
          let l : k < length near = inside_of k (grind arith) in
          let o = few in
          let t = there m q in
          let d : is_basic (mark_of n m) ≡ true = ap is_basic (sym (marked m q)) ∙ ap (λ x. is_basic (h.mark x)) u ∙ c in
          let z = lightest_least n (has_basic n) 16 k m e (omega arith) (grind arith) in
          rw (← u, ← s.weigh k l, ← s.weigh m q) z

  -- no basic edge, and no edge at all
  pub nobody_basic : lightest n (has_basic n) 16 ≡ None → i < g.count → Nobody g i (opens h)
  nobody_basic e inside = record { nobody = λ y a b c. none y c (s.every y (inside, a, b)) }
    where
      none : (y : ℕ) → is_basic (h.mark y) ≡ true → (m : ℕ) × (m < length near) × (nb m ≡ y) → ⊥
      none y c (m, q, u) =
          let o = few in
          let t = there m q in
          let d : is_basic (mark_of n m) ≡ true = ap is_basic (sym (marked m q)) ∙ ap (λ x. is_basic (h.mark x)) u ∙ c in
          let z = lightest_none n (has_basic n) 16 e m (omega arith) in
          grind arith

  pub nobody_any : lightest n (has_edge n) 16 ≡ None → i < g.count → Nobody g i (λ j. true)
  nobody_any e inside = record { nobody = λ y a b c. none y (s.every y (inside, a, b)) }
    where
      none : (y : ℕ) → (m : ℕ) × (m < length near) × (nb m ≡ y) → ⊥
      none y (m, q, u) =
          let o = few in
          let t = there m q in
          let z = lightest_none n (has_edge n) 16 e m (omega arith) in
          grind arith

  -- is it this edge, by place and by neighbour
  pub is_place : (o : Option ℕ) (k : ℕ) → There n o → k < length near → is_edge o k ≡ is_edge (toward near o) (nb k)
  is_place None k t l = refl
  is_place (Some m) k t l = sym (same_place m k (inside_of m t) l)
