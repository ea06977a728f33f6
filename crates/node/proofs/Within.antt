-- A node stays within its edges, and so does what it sends; so is a node as it is made.
use Rattle.std.proofs.Common.{◌≡◌, ℕ, ◌-◌, ◌<◌, ◌≤◌, true, false, ◌⊎◌, List, length, get_or, set, replicate, Some, None, Option, refl, ◌∙◌, inl, inr, arith, length-append, length-set}
use native.Mathlib.Decide.{dec_lt}
use lib.ListN.{length-replicate}
use Rattle.std.proofs.lemmas.List.{get_or-replicate, get_or_past, get_or_append_left}
use Rattle.message.specs.declared.messages.Message.{Message}
use Rattle.graph.specs.declared.mark.Mark.{Mark}
use Rattle.graph.specs.declared.mark.Mark.TheVariants.{Basic, Branch, Rejected}
use Rattle.node.specs.declared.state.Best.{Best}
use Rattle.node.specs.declared.state.Node.{Node}
use Rattle.node.specs.declared.state.Turn.{Turn}
use Rattle.node.specs.Rules.{is_basic, has_edge, mark_of, fresh}
use Rattle.node.specs.Laws.{There, best_edge, Within, Sound, WithinEdges, FreshFit}
use Rattle.node.proofs.Lightest.{lightest_edge}
use Rattle.node.proofs.Sent.{after_set}
use Rattle.node.proofs.Took as took
use Rattle.node.proofs.Took.{Woke, awake, alone, by_waking, by_message, stepped}
use Rattle.node.proofs.After.{MarksAfter, BestAfter, TestingAfter, After, after}
use Rattle.node.proofs.Goes.{Goes, absorbs, merges, onwards, accepting, denying, asks, tells, passes, connects, goes, goes_length, woken_goes, woken_length}

-- an edge of n is one of a node with as many
there : (n o : Node) (e : Option ℕ) → o.edges ≡ n.edges → There n e → There o e
there n o None h t = t
there n o (Some k) h t = rw h t

found_there : (n : Node) (e : Option ℕ) (k : ℕ) → There n e → e ≡ Some k → has_edge n k ≡ true
found_there n e k t h = rw h at t

beyond_set : (n : Node) (i : ℕ) (a : Mark) → has_edge n i ≡ true → ((k : ℕ) → has_edge n k ≡ false → is_basic (mark_of n k) ≡ true) → (k : ℕ) → has_edge n k ≡ false → is_basic (get_or (set n.marks i a) k Basic) ≡ true
beyond_set n i a e h k b = let s = after_set n.marks i k a Basic in let g = h k b in grind arith

-- a node with n's edges that speaks of n's edges alone
within : (n o : Node) → Within n → o.edges ≡ n.edges → o.weights ≡ n.weights → length o.marks ≡ 16 → There n o.parent → There n (best_edge o.best) → There n o.testing →
    ((k : ℕ) → has_edge n k ≡ false → is_basic (mark_of o k) ≡ true) → Within o
within n o w e v l p b t h =
    record {
      few = rw e w.few;
      weight_places = rw v w.weight_places;
      mark_places = l;
      parent_there = there n o o.parent e p;
      best_there = there n o (best_edge o.best) e b;
      testing_there = there n o o.testing e t;
      basic_beyond = λ k g. h k (rw e at g);
    }

module _ (n : Node) (w : Within n) where
  woken_within : (t : Turn) → Woke n t → Within t.node
  woken_within _ (awake a) = w
  woken_within t (alone a b) = within n t.node w refl refl w.mark_places w.parent_there w.best_there w.testing_there w.basic_beyond
  woken_within t (took.connects k a b) =
      within n t.node w refl refl (length-set n.marks k Branch ∙ w.mark_places) w.parent_there w.best_there w.testing_there (beyond_set n k Branch (lightest_edge n k b).0 w.basic_beyond)

  module _ (j : ℕ) (m : Message) (j-there : has_edge n j ≡ true) where
    parent_within : (p : Option ℕ) → (p ≡ n.parent) ⊎ (p ≡ Some j) → There n p
    parent_within p (inl e) = rw e w.parent_there
    parent_within p (inr e) = rw e j-there

    best_within : (b : Best) → BestAfter n j m b → There n (best_edge b)
    best_within b (inl e) = rw e w.best_there
    best_within b (inr (inl e)) = rw e tt
    best_within b (inr (inr (v, e, h))) = rw e j-there

    testing_within : (e : Option ℕ) → TestingAfter n e → There n e
    testing_within e (inl h) = rw h w.testing_there
    testing_within e (inr (inl h)) = rw h tt
    testing_within e (inr (inr (k, h, there))) = rw h there

    branch_there : (i : ℕ) → (i ≡ j) ⊎ (best_edge n.best ≡ Some i) → has_edge n i ≡ true
    branch_there i (inl e) = rw e j-there
    branch_there i (inr e) = found_there n (best_edge n.best) i w.best_there e

    marks_within : (ms : List Mark) → MarksAfter n j ms → (length ms ≡ 16) × ((k : ℕ) → has_edge n k ≡ false → is_basic (get_or ms k Basic) ≡ true)
    marks_within ms (inl e) = (rw e w.mark_places, rw e w.basic_beyond)
    marks_within ms (inr (inl (i, h, e))) = (rw e (length-set n.marks i Branch ∙ w.mark_places), rw e (beyond_set n i Branch (branch_there i h) w.basic_beyond))
    marks_within ms (inr (inr (h, e))) = (rw e (length-set n.marks j Rejected ∙ w.mark_places), rw e (beyond_set n j Rejected j-there w.basic_beyond))

    after_within : (o : Node) → After n j m o → Within o
    after_within o a =
        let ms = marks_within o.marks a.marks in
        within n o w a.edges a.weights ms.0 (parent_within o.parent a.parent) (best_within o.best a.best) (testing_within o.testing a.testing) ms.1

    goes_within : (t : Turn) → t.node.edges ≡ n.edges → Within t.node → (k : ℕ) (x : Message) → Goes n j m t k x → has_edge n k ≡ true
    goes_within t e v k _ (absorbs a p) = rw a j-there
    goes_within t e v k _ (merges a b) = rw a j-there
    goes_within t e v k _ (onwards l f p a b) = grind arith
    goes_within t e v k _ (accepting a) = rw a j-there
    goes_within t e v k _ (denying a) = rw a j-there
    goes_within t e v k _ (asks a b) = rw e at a.0
    goes_within t e v k _ (tells a) = rw e at (found_there t.node t.node.parent k v.parent_there a)
    goes_within t e v k _ (passes a) = found_there n (best_edge n.best) k w.best_there a
    goes_within t e v k _ (connects a) = found_there n (best_edge n.best) k w.best_there a

pub within_edges : WithinEdges
within_edges n t s w = elim (stepped n t s) [
  | by_waking v ↦ (woken_within n w t v, woken_length n t v, λ k x h. (woken_goes n t v k x h).1)
  | by_message j m c ↦
      let a = after n j m t c.did in
      let v = after_within n w j m c.there t.node a in
      (v, goes_length n j m t c.did, λ k x h. goes_within n w j m c.there t a.edges v k x (goes n j m t c.did k x h))
]

all_basic : (k : ℕ) → is_basic (get_or (replicate 16 Basic) k Basic) ≡ true
all_basic k = elim (dec_lt k 16) [ yes h ↦ rw (get_or-replicate 16 k Basic Basic h) | no h ↦ rw (get_or_past (replicate 16 Basic) k Basic (omega arith)) ]

fresh_within : (ws : List ℕ) → length ws ≤ 16 → Within (fresh ws)
fresh_within ws h =
    record {
      few = h;
      weight_places = simp (length-append, length-replicate) (omega arith);
      mark_places = refl;
      parent_there = tt;
      best_there = tt;
      testing_there = tt;
      basic_beyond = λ k g. all_basic k;
    }

fresh_sound : (ws : List ℕ) → ((k : ℕ) → k < length ws → 1 ≤ get_or ws k 0) → Sound (fresh ws)
fresh_sound ws h =
    record {
      low = omega arith;
      best_weighs = refl;
      edges_weigh = λ k e. let l : k < length ws = grind arith in rw (get_or_append_left ws (replicate (16 - length ws) 0) 0 k l) (h k l);
    }

pub fresh_fit : FreshFit
fresh_fit ws = (fresh_within ws, fresh_sound ws)
