-- The lightest edge out of a set of nodes belongs.
use Rattle.std.proofs.Common.{◌≡◌, ℕ, ◌<◌, ◌≤◌, Bool, true, false, refl, not-le_of_lt}
use borrow.Author.Tests.{both_ways}
use Rattle.graph.specs.Graph.{Graph, Edge, Joined}
use Rattle.graph.specs.Theorems.{Cut}

-- over edges lighter than all that leave the set, no way leaves it
module _ (g : Graph) (S : ℕ → Bool) (u : ℕ) (h : (a b : ℕ) → Edge g a b → S a ≡ true → S b ≡ false → u ≤ g.weight a b) where
  one_step : (a b : ℕ) → Edge g a b → g.weight a b < u → S a ≡ true → (s : Bool) → S b ≡ s → S b ≡ true
  one_step a b l k p true e = e
  one_step a b l k p false e = absurd (not-le_of_lt k (h a b l p e))

  pub stays_in : {a b : ℕ} → Joined g u a b → S a ≡ true → S b ≡ true
  stays_in Joined.here p = p
  stays_in (Joined.over {a} b l k r) p = stays_in r (one_step a b l k p (S b) refl)

pub cut : Cut
cut g S x y l p q h = (l, λ j. both_ways (S y) q (stays_in g S (g.weight x y) h j p))
