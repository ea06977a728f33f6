-- Whether nodes are joined by lighter edges is computed right, and so it is decided whether an edge belongs.
use Rattle.std.proofs.Common.{◌≡◌, ℕ, zero, suc, ◌<◌, Bool, true, false, T, ◌⊎◌, inl, inr, arith}
use native.Mathlib.Decide.{dec_lt}
use lib.Dec.{eqb_refl}
use Rattle.graph.specs.Graph.{Graph, Edge, Joined, Belongs}
use Rattle.graph.specs.Theorems.{Decided, lighter, joined_by}
use Rattle.graph.proofs.Paths.{joined_then}

module _ (g : Graph) (u : ℕ) where
  abbrev Via : ℕ → ℕ → ℕ → Type 0
  Via k a b = T (joined_by g u k a b)

  edge_in : (a b : ℕ) → Edge g a b → g.weight a b < u → T (lighter g u a b)
  edge_in a b l k = grind arith

  edge_out : (a b : ℕ) → T (lighter g u a b) → Edge g a b × (g.weight a b < u)
  edge_out a b e = grind arith

  -- the clauses of joined_by, as facts
  first : (a b : ℕ) → Via zero a b → (a ≡ b) ⊎ T (lighter g u a b)
  unfolding joined_by
  first a b h = grind arith

  keep : (k a b : ℕ) → Via k a b → Via (suc k) a b
  unfolding joined_by
  keep k a b h = grind arith

  ways : (k a b : ℕ) → Via (suc k) a b → Via k a b ⊎ (Via k a k × Via k k b)
  unfolding joined_by
  ways k a b h = grind arith

  pub sound : (k a b : ℕ) → Via k a b → Joined g u a b
  sound zero a b h =
      elim (first a b h) [ inl e ↦ rw e Joined.here | inr e ↦ let p = edge_out a b e in Joined.over b p.0 p.1 Joined.here ]
  sound (suc k) a b h =
      elim (ways k a b h) [ inl p ↦ sound k a b p | inr p ↦ joined_then g (sound k a k p.0) (sound k k b p.1) ]

  through_more : (k : ℕ) → ((a c b : ℕ) → c < k → Via k a c → Via k c b → Via k a b) →
      (a c b : ℕ) → c < suc k → Via (suc k) a c → Via (suc k) c b → Via (suc k) a b
  unfolding joined_by
  through_more k ih a c b h p q = grind (arith, ih)

  through : (k a c b : ℕ) → c < k → Via k a c → Via k c b → Via k a b
  through zero a c b h p q = absurd (omega arith)
  through (suc k) a c b h p q = through_more k (λ x y z. through k x y z) a c b h p q

  stay : (k a : ℕ) → Via k a a
  unfolding joined_by
  stay zero a = grind (arith, eqb_refl)
  stay (suc k) a = keep k a a (stay k a)

  edge : (k a b : ℕ) → T (lighter g u a b) → Via k a b
  unfolding joined_by
  edge zero a b h = grind arith
  edge (suc k) a b h = keep k a b (edge k a b h)

  pub complete : {a b : ℕ} → Joined g u a b → Via g.count a b
  complete (Joined.here {a}) = stay g.count a
  complete (Joined.over {a} {c} b l k r) = through g.count a b c l.1 (edge g.count a b (edge_in a b l k)) (complete r)

-- nodes are joined by lighter edges, or not
pub joined_or_not : (g : Graph) (u a b : ℕ) → Dec (Joined g u a b)
joined_or_not g u a b = go (joined_by g u g.count a b) (sound g u g.count a b) (complete g u)
  where
    go : (s : Bool) → (T s → Joined g u a b) → (Joined g u a b → T s) → Dec (Joined g u a b)
    go true p q = yes (p tt)
    go false p q = no q

edge_or_not : (g : Graph) (a b : ℕ) → Dec (Edge g a b)
edge_or_not g a b =
    elim (dec_lt a g.count) [
      | yes p ↦ elim (dec_lt b g.count) [
        | yes q ↦ elim (dec_lt 0 (g.weight a b)) [ yes r ↦ yes (p, q, omega arith) | no r ↦ no (λ e. r (omega arith)) ]
        | no q ↦ no (λ e. q e.1)
      ]
      | no p ↦ no (λ e. p e.0)
    ]

pub belongs_or_not : (g : Graph) (a b : ℕ) → Dec (Belongs g a b)
belongs_or_not g a b =
    elim (edge_or_not g a b) [
      | yes e ↦ elim (joined_or_not g (g.weight a b) a b) [ yes j ↦ no (λ w. w.1 j) | no n ↦ yes (e, n) ]
      | no n ↦ no (λ w. n w.0)
    ]

pub decided : Decided
decided g = (λ u a b. (sound g u g.count a b, λ j. complete g u j), λ a b. belongs_or_not g a b)
