-- Six bytes spell `unsure`.
use Rattle.std.proofs.Common.{◌≡◌, ◌≤◌, ◌<◌, ℕ, List, [], ◌∷◌, length, get_or, Some, rules, arith}
use Rattle.graph.specs.MarkLines.{mark_word}
use Rattle.graph.specs.declared.mark.Mark.TheVariants.{Basic}
use Rattle.graph.proofs.mark_file.mark_of.Goals as goal

unsure_spelled : (w : List ℕ) → 6 ≤ length w → length w < 7 → get_or w 0 0 ≡ 117 → get_or w 1 0 ≡ 110 → get_or w 2 0 ≡ 115 → get_or w 3 0 ≡ 117 → get_or w 4 0 ≡ 114 →
    get_or w 5 0 ≡ 101 → Some Basic ≡ mark_word w
unsure_spelled [] l m p q r s t u = absurd (omega arith)
unsure_spelled (a ∷ []) l m p q r s t u = absurd (omega arith)
unsure_spelled (a ∷ b ∷ []) l m p q r s t u = absurd (omega arith)
unsure_spelled (a ∷ b ∷ c ∷ []) l m p q r s t u = absurd (omega arith)
unsure_spelled (a ∷ b ∷ c ∷ d ∷ []) l m p q r s t u = absurd (omega arith)
unsure_spelled (a ∷ b ∷ c ∷ d ∷ e ∷ []) l m p q r s t u = absurd (omega arith)
unsure_spelled (a ∷ b ∷ c ∷ d ∷ e ∷ f ∷ []) l m p q r s t u = rw (p, q, r, s, t, u)
unsure_spelled (a ∷ b ∷ c ∷ d ∷ e ∷ f ∷ g ∷ gs) l m p q r s t u = absurd (omega arith)

pub returns-in-unsure : goal.returns-in-unsure
returns-in-unsure c = search (rules, unsure_spelled)
