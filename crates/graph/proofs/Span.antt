-- Nodes that can be joined at all are joined by edges that belong.
use Rattle.std.proofs.Common.{ℕ, zero, suc, arith}
use Rattle.graph.specs.Graph.{Graph, Joined}
use Rattle.graph.specs.Theorems.{Spanned, Span}
use Rattle.graph.proofs.Paths.{joined_more}
use Rattle.graph.proofs.Decide.{joined_or_not}

module _ (g : Graph) where
  pub spanned_then : {a b c : ℕ} → Spanned g a b → Spanned g b c → Spanned g a c
  spanned_then Spanned.here q = q
  spanned_then (Spanned.over b p r) q = Spanned.over b p (spanned_then r q)

  lifted : (v : ℕ) → ((a b : ℕ) → Joined g v a b → Spanned g a b) → {a b : ℕ} → Joined g (suc v) a b → Spanned g a b
  lifted v ih Joined.here = Spanned.here
  lifted v ih (Joined.over {a} b l k r) =
      let w = lifted v ih r in
      elim (joined_or_not g (g.weight a b) a b) [
        | yes j ↦ spanned_then (ih a b (joined_more g (omega arith) j)) w
        | no n ↦ Spanned.over b (l, n) w
      ]

  spanned : (u : ℕ) → {a b : ℕ} → Joined g u a b → Spanned g a b
  spanned zero Joined.here = Spanned.here
  spanned zero (Joined.over b l k r) = absurd (omega arith)
  spanned (suc v) j = lifted v (λ x y p. spanned v p) j

pub span : Span
span g u a b j = spanned g u j
