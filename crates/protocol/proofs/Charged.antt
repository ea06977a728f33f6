-- Few messages, from the invariants.
use Rattle.std.proofs.Common.{◌≡◌, ℕ, zero, suc, ◌+◌, ◌*◌, ◌^◌, ◌<◌, ◌≤◌, ◌⊎◌, refl, ap, ◌∙◌, subst, inl, inr, arith}
use native.Mathlib.Decide.{dec_lt}
use Rattle.std.proofs.lemmas.Bool.Decides.{eqb_tells}
use Rattle.node.specs.declared.state.Status.TheVariants.{Sleeping}
use Rattle.graph.specs.Graph.{Graph, Edge, Weights}
use Rattle.protocol.proofs.Asleep.{asleep, isolated, Alones}
use Rattle.protocol.proofs.Base.{Good}
use Rattle.protocol.proofs.Edges.{Rest, Edges, first, next}
use Rattle.protocol.proofs.Few.{Kept, asleep_or, kept_step, empty, kept_start, few_messages}
use Rattle.protocol.proofs.Frame.{start, Lifted, Event}
use Rattle.protocol.proofs.Ghost.{Ghost, View, view}
use Rattle.protocol.proofs.Mode.{Sane}
use Rattle.protocol.proofs.Purse.{Purse}
use Rattle.protocol.proofs.Questions.{Talks}
use Rattle.protocol.proofs.Replies.{replies_of}
use Rattle.protocol.proofs.Sizes.{Sizes, level_bound}
use Rattle.protocol.specs.Count.{edge_count}

-- every message that was sent is charged to some purse
pub record Charged (t : Graph) (n : Lifted) (γ : Ghost) : Type 0 where
  pub purses : ℕ → Purse
  pub kept : Kept t n γ purses

-- at first nothing was sent
pub charged_start : (t : Graph) → Charged t start first
charged_start t = record { purses = empty; kept = kept_start t first }

-- a node has an edge, or none to the first k nodes
some_edge : (t : Graph) (a : ℕ) → a < t.count → (k : ℕ) → k ≤ t.count → ((y : ℕ) × Edge t a y) ⊎ ((y : ℕ) → y < k → Edge t a y → ⊥)
some_edge t a l zero h = inr (λ y u e. omega arith)
some_edge t a l (suc k) h = elim (dec_lt 0 (t.weight a k)) [
  | yes u ↦ inl (k, (l, omega arith, omega arith))
  | no u ↦ elim (some_edge t a l k (omega arith)) [ inl e ↦ inl e | inr f ↦ inr (λ y v e. elim (eqb_tells y k) [ inl z ↦ none u z.1 e | inr z ↦ f y (less z.1 v) e ]) ]
]
  where
    less : {y : ℕ} → (y ≡ k → ⊥) → y < suc k → y < k
    less d v = grind arith

    none : {y : ℕ} → (0 < t.weight a k → ⊥) → y ≡ k → Edge t a y → ⊥
    none u z e = u (subst (λ x. 1 ≤ t.weight a x) z e.2)

module _ (t : Graph) (weights : Weights t) where
  -- THE THEOREM: each step charges what it sends
  pub charged_step : (n m : Lifted) (γ : Ghost) → Good t n → Rest t n γ → Edges t n γ → Talks t n γ → Alones t n γ → Charged t n γ → (v : Event t n m) → Charged t m (next γ v)
  charged_step n m γ G R E W S C v = let k = kept_step t weights n m γ G R E (replies_of t weights n γ G E W S) v C.purses C.kept in record { purses = k.0; kept = k.1 }

  module _ (n : Lifted) (γ : Ghost) (sane : (a y : ℕ) → Edge t a y → Sane y (view n γ a)) (S : Alones t n γ) where
    -- no node is above its fragment's level, one without an edge neither
    low : (a : ℕ) → a < t.count → (n.held a).level ≤ (γ.fragment (γ.own a).label).level
    low a l = elim (some_edge t a l t.count (omega arith)) [ inl e ↦ (sane a e.0 e.1).low | inr f ↦ alone (λ y e. f y e.1 e) (asleep_or (n.held a).status) ]
      where
        none : (V : View) → view n γ a ≡ V → V.held.level ≡ 0 → (n.held a).level ≤ (γ.fragment (γ.own a).label).level
        none V e z = let o : (n.held a).level ≡ 0 = ap (λ v. v.held.level) e ∙ z in omega arith

        alone : ((y : ℕ) → Edge t a y → ⊥) → ((n.held a).status ≡ Sleeping) ⊎ ((n.held a).status ≡ Sleeping → ⊥) → (n.held a).level ≤ (γ.fragment (γ.own a).label).level
        alone f (inl u) = none (asleep a) (S.sleepers a u).made refl
        alone f (inr u) = none (isolated a) (S.hermits a u f).made refl

  -- THE THEOREM: where there are fewer than 2 ^ (k + 1) nodes, five messages for each node and each of k + 1 levels, and two for each edge, are never exceeded
  pub few : (n : Lifted) (γ : Ghost) → Good t n → ((a y : ℕ) → Edge t a y → Sane y (view n γ a)) → Edges t n γ → Talks t n γ → Alones t n γ → Sizes t γ → Charged t n γ → (k : ℕ) → t.count < 2 ^ suc k → n.count ≤ 5 * (t.count * (k + 1)) + 2 * edge_count t
  few n γ G sane E W S Z C k c = few_messages t weights n γ C.purses k G sane E (replies_of t weights n γ G E W S) C.kept (low n γ sane S) (level_bound t γ Z k c)
