-- What is sent: tests of the lightest basic edge alone, initiates that go on, and nothing that has no bytes.
use Rattle.std.proofs.Common.{◌≡◌, ℕ, ◌≤◌, true, Some, refl, subst, inl, inr, arith}
use Rattle.message.specs.declared.messages.Message.{Message}
use Rattle.message.specs.declared.messages.Message.TheVariants.{Connect, Initiate, Test, Accept, Reject, Report, Change}
use Rattle.message.specs.Bytes.{fits, weighs}
use Rattle.node.specs.declared.state.Best.{Best}
use Rattle.node.specs.declared.state.Node.{Node}
use Rattle.node.specs.declared.state.Turn.{Turn}
use Rattle.node.specs.Rules.{has_edge, weight_of, best_weight}
use Rattle.node.specs.Laws.{level_after, LightestBasic, TestsLightest, Sound, SendsFit}
use Rattle.node.proofs.Took as took
use Rattle.node.proofs.Took.{Woke, awake, alone, Came, by_waking, by_message, stepped}
use Rattle.node.proofs.After.{BestAfter, after}
use Rattle.node.proofs.Goes.{Goes, absorbs, merges, onwards, accepting, denying, asks, tells, passes, connects, goes, woken_goes}

module _ (n : Node) (j : ℕ) (m : Message) (t : Turn) (k : ℕ) where
  a_test : (x : Message) (l f : ℕ) → Goes n j m t k x → x ≡ Test l f → LightestBasic t.node k × (t.node.testing ≡ Some k) × (l ≡ t.node.level) × (f ≡ t.node.name)
  a_test _ l f (absorbs a p) e = grind arith
  a_test _ l f (merges a b) e = grind arith
  a_test _ l f (onwards l' f' p a b) e = grind arith
  a_test _ l f (accepting a) e = grind arith
  a_test _ l f (denying a) e = grind arith
  a_test _ l f (asks a b) e = (a, b, cc, cc)
  a_test _ l f (tells a) e = grind arith
  a_test _ l f (passes a) e = grind arith
  a_test _ l f (connects a) e = grind arith

  a_fit : (x : Message) → fits m ≡ true → n.level ≤ 8 → t.node.level ≤ 8 → weighs (best_weight t.node.best) ≡ true → Goes n j m t k x → fits x ≡ true
  a_fit _ f l o w (absorbs a p) = grind arith
  a_fit _ f l o w (merges a b) = grind arith
  a_fit _ f l o w (onwards l' f' p a b) = subst (λ y. fits y ≡ true) a f
  a_fit _ f l o w (accepting a) = refl
  a_fit _ f l o w (denying a) = refl
  a_fit _ f l o w (asks a b) = grind arith
  a_fit _ f l o w (tells a) = w
  a_fit _ f l o w (passes a) = refl
  a_fit _ f l o w (connects a) = grind arith

pub tests_lightest : TestsLightest
tests_lightest n t k l f s h = elim (stepped n t s) [
  | by_waking w ↦ let c = woken_goes n t w k (Test l f) h in let z : ◌≡◌ {A = ℕ} 0 1 = let e = c.0 in cc in absurd (omega arith)
  | by_message j m c ↦ a_test n j m t k (Test l f) l f (goes n j m t c.did k (Test l f) h) refl
]

low_level : (m : Message) (l : ℕ) → fits m ≡ true → l ≤ 8 → level_after m l ≤ 8
low_level (Connect l) was f h = h
low_level (Initiate l g p) was f h = grind arith
low_level (Test l g) was f h = h
low_level Accept was f h = h
low_level Reject was f h = h
low_level (Report w) was f h = h
low_level Change was f h = h

some_best : (n : Node) (j : ℕ) (m : Message) (b : Best) → fits m ≡ true → 1 ≤ weight_of n j → weighs (best_weight n.best) ≡ true → BestAfter n j m b → weighs (best_weight b) ≡ true
some_best n j m b f w h (inl e) = rw e h
some_best n j m b f w h (inr (inl e)) = rw e refl
some_best n j m b f w h (inr (inr (v, e, inl i))) = rw e (grind arith)
some_best n j m b f w h (inr (inr (v, e, inr i))) = let g : fits (Report (Some v)) ≡ true = rw i at f in rw e g

-- the edges and their weights stay
weights_stay : (n o : Node) → o.edges ≡ n.edges → o.weights ≡ n.weights → ((k : ℕ) → has_edge n k ≡ true → 1 ≤ weight_of n k) → (k : ℕ) → has_edge o k ≡ true → 1 ≤ weight_of o k
weights_stay n o e w h = rw (e, w) h

woken_sound : (n : Node) (t : Turn) → Woke n t → Sound n → Sound t.node
woken_sound n _ (awake a) s = s
woken_sound n _ (alone a b) s = record { low = omega arith; best_weighs = s.best_weighs; edges_weigh = s.edges_weigh }
woken_sound n _ (took.connects k a b) s = record { low = omega arith; best_weighs = s.best_weighs; edges_weigh = s.edges_weigh }

came_sound : (n : Node) (j : ℕ) (m : Message) (t : Turn) → Came n j m t → Sound n → Sound t.node
came_sound n j m t c s =
    let a = after n j m t c.did in
    record {
      low = rw a.level (low_level m n.level c.fit s.low);
      best_weighs = some_best n j m t.node.best c.fit (s.edges_weigh j c.there) s.best_weighs a.best;
      edges_weigh = weights_stay n t.node a.edges a.weights s.edges_weigh;
    }

pub sends_fit : SendsFit
sends_fit n t s h = elim (stepped n t s) [
  | by_waking w ↦ (woken_sound n t w h, λ k x e. let c = woken_goes n t w k x e in rw c.0 refl)
  | by_message j m c ↦ let o = came_sound n j m t c h in (o, λ k x e. a_fit n j m t k x c.fit h.low o.low o.best_weighs (goes n j m t c.did k x e))
]
