-- Edges inside a fragment. Who had one label has one label after a step: labels only grow together.
use Rattle.std.proofs.Common.{◌≡◌, ℕ, Bool, true, false, cond, ◌⊎◌, sym, refl, ap, ◌∙◌, inl, inr}
use Rattle.graph.specs.Graph.{Graph, Edge, Weights}
use Rattle.protocol.proofs.Ghost.{Turn, Ghost, View, moves, stepped}

-- the label that a turn gives to those of label l
abbrev pub relabel : Turn → View → View → ℕ → ℕ
relabel u A J l = cond (moves u A J l) A.own.label l

-- some edge of weight f has both its ends under label l
pub record InsideEdge (t : Graph) (γ : Ghost) (f l : ℕ) : Type 0 where
  pub this : ℕ
  pub that : ℕ
  pub edge : Edge t this that
  pub weight : t.weight this that ≡ f
  pub here : (γ.own this).label ≡ l
  pub there : (γ.own that).label ≡ l

-- what was inside stays inside
pub coarsen : {t : Graph} {γ : Ghost} (u : Turn) (i : ℕ) (A J : View) {f l : ℕ} → InsideEdge t γ f l → InsideEdge t (stepped u i A J γ) f (relabel u A J l)
coarsen u i A J w = record { this = w.this; that = w.that; edge = w.edge; weight = w.weight; here = ap (relabel u A J) w.here; there = ap (relabel u A J) w.there }

-- A keeps its label
pub relabel_own : (u : Turn) (A J : View) → relabel u A J A.own.label ≡ A.own.label
relabel_own u A J = same (moves u A J A.own.label) A.own.label
  where
    same : (b : Bool) (k : ℕ) → cond b k k ≡ k
    same true k = refl
    same false k = refl

-- two edges of one weight are one edge, so whoever carries its weight is of one fragment
pub one_fragment : {t : Graph} {γ : Ghost} {f l k : ℕ} → Weights t → InsideEdge t γ f l → InsideEdge t γ f k → l ≡ k
one_fragment {t} {γ} {f} {l} {k} weights v w = go (weights.differ v.this v.that w.this w.that v.edge w.edge (v.weight ∙ sym w.weight))
  where
    go : ((v.this ≡ w.this) × (v.that ≡ w.that)) ⊎ ((v.this ≡ w.that) × (v.that ≡ w.this)) → l ≡ k
    go (inl e) = sym v.here ∙ ap (λ z. (γ.own z).label) e.0 ∙ w.here
    go (inr e) = sym v.here ∙ ap (λ z. (γ.own z).label) e.0 ∙ w.there
