-- What stays: the edges and their weights, branches and decided marks, and the level but for initiates.
use Rattle.std.proofs.Common.{◌≡◌, ℕ, Bool, true, false, cond, List, get_or, set, Some, None, Option, refl, inl, inr, arith}
use Rattle.graph.specs.declared.mark.Mark.{Mark}
use Rattle.graph.specs.declared.mark.Mark.TheVariants.{Basic, Branch, Rejected}
use Rattle.node.specs.declared.state.Node.{Node}
use Rattle.node.specs.declared.state.Turn.{Turn}
use Rattle.node.specs.Rules.{is_basic, is_branch, is_sleeping, silent, turn, mark_of, lightest, woken_by, has_edge}
use Rattle.node.specs.Laws.{Steps, MarksStay, LevelKept}
use Rattle.node.proofs.Sent.{after_set}
use Rattle.node.proofs.Took.{Woke, awake, alone, connects, came, by_waking, by_message, stepped}
use Rattle.node.proofs.After.{MarksAfter, after}

-- how one mark may follow another
abbrev Follows : Mark → Mark → Type 0
Follows a b = (is_basic a ≡ false → is_basic b ≡ false) × (is_branch a ≡ true → is_branch b ≡ true)

same : (a : Mark) → Follows a a
same a = (λ h. h, λ h. h)

becomes_branch : (ms : List Mark) (i k : ℕ) → Follows (get_or ms k Basic) (get_or (set ms i Branch) k Basic)
becomes_branch ms i k = let a = after_set ms i k Branch Basic in grind arith

becomes_rejected : (ms : List Mark) (i k : ℕ) → is_basic (get_or ms i Basic) ≡ true → Follows (get_or ms k Basic) (get_or (set ms i Rejected) k Basic)
becomes_rejected ms i k h = let a = after_set ms i k Rejected Basic in grind arith

marks_follow : (n : Node) (j : ℕ) (ms : List Mark) (k : ℕ) → MarksAfter n j ms → Follows (mark_of n k) (get_or ms k Basic)
marks_follow n j ms k (inl e) = rw e (same (mark_of n k))
marks_follow n j ms k (inr (inl (i, w, e))) = rw e (becomes_branch n.marks i k)
marks_follow n j ms k (inr (inr (h, e))) = rw e (becomes_rejected n.marks j k h)

woken_follow : (n : Node) (t : Turn) (k : ℕ) → Woke n t → Follows (mark_of n k) (mark_of t.node k)
woken_follow n _ k (awake a) = same (mark_of n k)
woken_follow n _ k (alone a b) = same (mark_of n k)
woken_follow n _ k (connects i a b) = becomes_branch n.marks i k

pub marks_stay : MarksStay
marks_stay n t k s = elim (stepped n t s) [
  | by_waking w ↦ woken_follow n t k w
  | by_message j m c ↦ marks_follow n j t.node.marks k (after n j m t c.did).marks
]

pub level_kept : LevelKept
level_kept n = (woken (is_sleeping n.status) (lightest n (has_edge n) 16), λ t j m e. (after n j m t (came n j m t e).did).level)
  where
    woken : (b : Bool) (w : Option ℕ) → (cond b (woken_by w n) (turn n silent)).node.level ≡ cond b 0 n.level
    woken true None = refl
    woken true (Some k) = refl
    woken false w = refl

pub edges_stay : (n : Node) (t : Turn) → Steps n t → (t.node.edges ≡ n.edges) × (t.node.weights ≡ n.weights)
edges_stay n t s = elim (stepped n t s)
    [ by_waking w ↦ woken_edges n t w | by_message j m c ↦ let a = after n j m t c.did in (a.edges, a.weights) ]
  where
    woken_edges : (n : Node) (t : Turn) → Woke n t → (t.node.edges ≡ n.edges) × (t.node.weights ≡ n.weights)
    woken_edges n _ (awake a) = (refl, refl)
    woken_edges n _ (alone a b) = (refl, refl)
    woken_edges n _ (connects k a b) = (refl, refl)
