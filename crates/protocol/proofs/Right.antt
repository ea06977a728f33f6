-- Every mark is right: a branch belongs to the lightest net, and a rejected edge does not.
use Rattle.std.proofs.Common.{◌≡◌, ℕ, List, sym, ◌∙◌, inl, inr, arith}
use Rattle.message.specs.declared.messages.Message.{Message}
use Rattle.graph.specs.declared.mark.Mark.{Mark}
use Rattle.graph.specs.declared.mark.Mark.TheVariants.{Basic, Branch, Rejected}
use Rattle.graph.specs.Graph.{Graph, Edge, Weights, Belongs}
use Rattle.graph.specs.Theorems.{Other, Detour}
use Rattle.graph.proofs.Cycle.{cycle}
use Rattle.protocol.proofs.Belonging.{Belonging}
use Rattle.protocol.proofs.Edges.{Edges}
use Rattle.protocol.proofs.Frame.{Lifted}
use Rattle.protocol.proofs.Ghost.{Ghost, View}
use Rattle.protocol.proofs.Inside.{Inside, itself, via, Insides}
use Rattle.protocol.proofs.Mode.{tells, Free, Mode, free, offered, offers, crossing, took, taken, merged, ahead, behind, core, told, above, below}

-- what a node's marks say of its edges is so
abbrev pub Right : Graph → Lifted → Type 0
Right t n = (a b : ℕ) → Edge t a b → ((n.held a).mark b ≡ Branch → Belongs t a b) × ((n.held a).mark b ≡ Rejected → Belongs t a b → ⊥)

not_basic : {k : Mark} → k ≡ Basic → k ≡ Rejected → ⊥
not_basic e f = grind arith

not_branch : {k : Mark} → k ≡ Branch → k ≡ Rejected → ⊥
not_branch e f = grind arith

-- a rejected edge is free: no branch at either end, and its ends are of one fragment
pub rejected_free : {x y w : ℕ} {A B : View} {p q : List Message} → Mode x y w A B p q → A.held.mark y ≡ Rejected → Free x y w A B p q
rejected_free (free v) e = v
rejected_free (offered v) e = absurd (not_basic v.mark_a e)
rejected_free (offers v) e = absurd (not_branch v.mark_b e)
rejected_free (crossing v) e = absurd (not_branch v.mark_a e)
rejected_free (took v) e = absurd (not_branch v.joint.mark_a e)
rejected_free (taken v) e = absurd (not_branch v.joint.mark_b e)
rejected_free (merged v) e = absurd (not_branch v.joint.mark_a e)
rejected_free (ahead v) e = absurd (not_branch v.joint.mark_a e)
rejected_free (behind v) e = absurd (not_branch v.joint.mark_b e)
rejected_free (core v) e = absurd (not_branch v.mark_a e)
rejected_free (tells v) e = absurd (not_branch v.mark_a e)
rejected_free (told v) e = absurd (not_branch v.mark_b e)
rejected_free (above v) e = absurd (not_branch v.mark_a e)
rejected_free (below v) e = absurd (not_branch v.mark_b e)

-- a way over branches inside a fragment does not take an edge that one end has rejected
pub detour : {t : Graph} {n : Lifted} {γ : Ghost} {a b : ℕ} → Belonging t n → (n.held a).mark b ≡ Rejected → {x y : ℕ} → Inside t n γ x y → Detour t a b x y
detour H e itself = Detour.here
detour {n = n} {a = a} {b} H e {x} (via k c p) = Detour.over k (H x k c.mine) other (detour H e p)
  where
    other : Other a b x k
    other (inl u) = not_branch (sym (λ z. (n.held (u.0 z)).mark (u.1 z)) ∙ c.mine) e
    other (inr u) = not_branch (sym (λ z. (n.held (u.1 z)).mark (u.0 z)) ∙ c.theirs) e

-- THE THEOREM: where branches belong and fragments are joined by branches, every mark is right
pub right : (t : Graph) → Weights t → (n : Lifted) (γ : Ghost) → Edges t n γ → Insides t n γ → Belonging t n → Right t n
right t weights n γ E I H a b l = (H a b, rejected)
  where
    rejected : (n.held a).mark b ≡ Rejected → Belongs t a b → ⊥
    rejected e = (cycle t weights a b l (detour H e (I a b l.0 l.1 ((rejected_free (E a b l) e).rejected_a e)))).1
