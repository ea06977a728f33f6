-- Two ends of an edge with nothing but what is put off under way between them.
use Rattle.std.proofs.Common.{◌≡◌, ℕ, ◌<◌, Bool, true, false, not, ◌&&◌, ◌||◌, ◌⊎◌, List, [], ◌∷◌, Some, sym, refl, ◌∙◌, subst, inl, inr, arith}
use Rattle.message.specs.declared.messages.Message.{Message}
use Rattle.message.specs.declared.messages.Message.TheVariants.{Connect, Test, Accept, Reject, Report}
use Rattle.node.specs.declared.state.Status.{Status}
use Rattle.node.specs.declared.state.Status.TheVariants.{Sleeping, Find, Found}
use Rattle.graph.specs.declared.mark.Mark.TheVariants.{Basic, Branch}
use Rattle.node.specs.Rules.{is_branch, is_find}
use Rattle.protocol.proofs.Awaits.{is_parent, awaits, branch_is, awaits_parent, awaits_here}
use Rattle.protocol.proofs.Chain.{down_low}
use Rattle.protocol.proofs.Ghost.{View}
use Rattle.protocol.proofs.Held.{Held}
use Rattle.protocol.proofs.Mode.{tells, busy, calls, Connecting, Told, Core, Child, Mode, free, offered, offers, crossing, took, taken, merged, ahead, behind, core, told, above, below}
use Rattle.protocol.proofs.Queues.{Has}
use Rattle.protocol.proofs.Talk.{still, asking, yes', no', Talk, both, crossed, left}
use Rattle.protocol.proofs.Underway.{Calm, begins_not, begins_next, changes_not, not_busy}
use Rattle.protocol.proofs.Wait.{full, waited}

-- nothing to begin is under way to a child: its level is its parent's, and nobody calls it to a search
pub child_even : {x y w : ℕ} {A B : View} {p q : List Message} → Calm p → Child x y w A B p q → B.held.level ≡ A.held.level
child_even {x} {y} {w} {A} {B} {p} c v = ((down_low x w A.held.level A.held.name A.held.status B.held B.own.reported p v.down).2 (not_busy p c.begins)).0

child_quiet : {x y w : ℕ} {A B : View} {p q : List Message} → Calm p → Child x y w A B p q → calls p ≡ false
child_quiet {x} {y} {w} {A} {B} {p} c v = ((down_low x w A.held.level A.held.name A.held.status B.held B.own.reported p v.down).2 (not_busy p c.begins)).2

-- over a branch inside a fragment levels are equal
pub even : {x y w : ℕ} {A B : View} {p q : List Message} → Calm p → Calm q → A.held.mark y ≡ Branch → A.own.label ≡ B.own.label → Mode x y w A B p q → A.held.level ≡ B.held.level
even c d m s (free v) = absurd (v.mark_a m)
even c d m s (offered v) = absurd (v.differ s)
even c d m s (offers v) = absurd (v.differ (sym s))
even c d m s (crossing v) = absurd (v.differ s)
even c d m s (took v) = v.levels
even c d m s (taken v) = sym v.levels
even c d m s (merged v) = v.levels
even c d m s (ahead v) = absurd (begins_not c v.out)
even c d m s (behind v) = absurd (begins_not d v.out)
even c d m s (core v) = v.levels
even c d m s (tells v) = v.levels
even c d m s (told v) = sym v.levels
even {x} {y} {w} {A} {B} {p} {q} c d m s (above v) = sym (child_even c v)
even {x} {y} {w} {A} {B} {p} {q} c d m s (below v) = child_even d v

-- and two that lead up to each other are a core
pub core_of : {x y w : ℕ} {A B : View} {p q : List Message} → Calm p → Calm q → A.held.mark y ≡ Branch → A.own.label ≡ B.own.label → A.own.up ≡ Some y → B.own.up ≡ Some x → Mode x y w A B p q → Core x y w A B p q
core_of c d m s a b (free v) = absurd (v.mark_a m)
core_of c d m s a b (offered v) = absurd (v.differ s)
core_of c d m s a b (offers v) = absurd (v.differ (sym s))
core_of c d m s a b (crossing v) = absurd (v.differ s)
core_of c d m s a b (took v) = absurd (begins_next c v.out)
core_of c d m s a b (taken v) = absurd (begins_next d v.out)
core_of c d m s a b (merged v) = absurd (begins_not c v.out)
core_of c d m s a b (ahead v) = absurd (begins_not c v.out)
core_of c d m s a b (behind v) = absurd (begins_not d v.out)
core_of c d m s a b (core v) = v
core_of c d m s a b (tells v) = absurd (changes_not c v.out)
core_of c d m s a b (told v) = absurd (changes_not d v.out)
core_of c d m s a b (above v) = absurd (v.up_a a)
core_of c d m s a b (below v) = absurd (v.up_a b)

-- a connect over an edge that is basic at its other end
pub connects : {x y w : ℕ} {A B : View} {p q : List Message} {l : ℕ} → p ≡ Connect l ∷ [] → B.held.mark x ≡ Basic → Mode x y w A B p q → Connecting y x w B A q p
connects e m (free v) = absurd (let o = v.out in grind arith)
connects e m (offered v) = absurd (let o = v.out in grind arith)
connects e m (offers v) = v
connects e m (crossing v) = absurd (let o = v.mark_b in grind arith)
connects e m (took v) = absurd (let o = v.joint.mark_b in grind arith)
connects e m (taken v) = absurd (let o = v.joint.mark_a in grind arith)
connects e m (merged v) = absurd (let o = v.joint.mark_b in grind arith)
connects e m (ahead v) = absurd (let o = v.joint.mark_b in grind arith)
connects e m (behind v) = absurd (let o = v.joint.mark_a in grind arith)
connects e m (core v) = absurd (let o = v.mark_b in grind arith)
connects e m (tells v) = absurd (let o = v.mark_b in grind arith)
connects e m (told v) = absurd (let o = v.mark_a in grind arith)
connects e m (above v) = absurd (let o = v.mark_b in grind arith)
connects e m (below v) = absurd (let o = v.mark_a in grind arith)

-- A asks B, and what is under way between them is put off: B is of a lower level
pub unanswered : {x y : ℕ} {A B : View} {T S U R : List Message} → A.held.testing ≡ Some y → ((k f : ℕ) → Has T (Test k f) → B.held.level < k) → (Has S Accept → ⊥) → (Has S Reject → ⊥) → ((k f : ℕ) → Has U (Test k f) → A.held.level < k) → Talk x y A B T S U R → B.held.level < A.held.level
unanswered e a b c d (both (still v) z) = absurd (v.testing e)
unanswered {A = A} e a b c d (both (asking v) z) = a A.held.level A.held.name (subst (λ r. Has r (Test A.held.level A.held.name)) (sym v.out) (inl refl))
unanswered e a b c d (both (yes' v) z) = absurd (b (subst (λ r. Has r Accept) (sym v.back) (inl refl)))
unanswered e a b c d (both (no' v) z) = absurd (c (subst (λ r. Has r Reject) (sym v.back) (inl refl)))
unanswered {A = A} e a b c d (crossed v) = absurd (let h = d A.held.level A.held.name (subst (λ r. Has r (Test A.held.level A.held.name)) (sym v.asked) (inl refl)) in omega arith)
unanswered e a b c d (left v) = absurd (v.theirs e)

-- who has reported over the core, with no report under way, was heard
pub told_all : (A B : View) {p : List Message} → Told A B p → A.own.reported ≡ true → (Has p (Report A.held.best_weight) → ⊥) → p ≡ []
told_all A B (inl h) r n = h.0
told_all A B (inr (inl h)) r n = absurd (n (subst (λ z. Has z (Report A.held.best_weight)) (sym h.0) (inl refl)))
told_all A B (inr (inr h)) r n = h.0

and_left : (a b : Bool) → (a && b) ≡ true → a ≡ true
and_left true b e = refl
and_left false b e = e

find_is : (S : Status) → is_find S ≡ true → S ≡ Find
find_is Sleeping e = absurd (grind arith)
find_is Find e = refl
find_is Found e = absurd (grind arith)

why : (a b c d : Bool) → (a || (b || (c && d))) ≡ true → (a ≡ true) ⊎ ((b ≡ true) ⊎ (d ≡ true))
why true b c d e = inl refl
why false true c d e = inr (inl refl)
why false false true d e = inr (inr e)
why false false false d e = absurd (grind arith)

-- whom a node waits for: a branch of it, not its parent, and it seeks, unless a word to begin or a report is under way
pub record Awaited (y : ℕ) (h : Held) (S : Status) (p q : List Message) : Type 0 where
  pub mark : h.mark y ≡ Branch
  pub other : h.parent ≡ Some y → ⊥
  pub why : (calls p ≡ true) ⊎ ((full q ≡ true) ⊎ (S ≡ Find))

pub awaited_so : (y : ℕ) (h : Held) (S : Status) (p q : List Message) → awaits y h S p q ≡ true → Awaited y h S p q
awaited_so y h S p q e = record { mark = m; other = o; why = elim (why (calls p) (full q) (not (busy p)) (is_find S) (sym (awaits_here y h S p q m o) ∙ e)) [ inl a ↦ inl a | inr z ↦ elim z [ inl a ↦ inr (inl a) | inr a ↦ inr (inr (find_is S a)) ] ] }
  where
    m : h.mark y ≡ Branch
    m = branch_is (h.mark y) (and_left (is_branch (h.mark y)) (not (is_parent h.parent y) && waited p q S) e)

    o : h.parent ≡ Some y → ⊥
    o u = let f = awaits_parent y h S p q u in grind arith

-- with nothing to begin under way, a child that is waited for seeks, or its report is under way
pub child_seeks : {x y w : ℕ} {A B : View} {p q : List Message} → Calm p → Child x y w A B p q → (Has q (Report B.held.best_weight) → ⊥) → Awaited y A.held B.held.status p q → B.held.status ≡ Find
child_seeks {x} {y} {w} {A} {B} {p} {q} c v n a = go a.why
  where
    report : (q ≡ []) ⊎ ((q ≡ Report B.held.best_weight ∷ []) × (busy p ≡ false) × (B.own.reported ≡ true) × (B.own.in_search ≡ true) × (B.held.parent ≡ Some x) × (A.held.level ≡ A.fragment.level) × (A.held.status ≡ Find)) → full q ≡ true → ⊥
    report (inl e) f = grind arith
    report (inr e) f = n (subst (λ z. Has z (Report B.held.best_weight)) (sym e.0) (inl refl))

    go : (calls p ≡ true) ⊎ ((full q ≡ true) ⊎ (B.held.status ≡ Find)) → B.held.status ≡ Find
    go (inl e) = absurd (let u = child_quiet c v in grind arith)
    go (inr (inl e)) = absurd (report v.back e)
    go (inr (inr e)) = e
