-- A node that is awake stays awake, and one that is woken is.
use Rattle.std.proofs.Common.{◌≡◌, ℕ, zero, suc, ◌+◌, true, false, cond, List, Some, None, Option, refl, ap, ◌∙◌, arith}
use Rattle.message.specs.declared.messages.Phase.TheVariants as phase
use Rattle.message.specs.declared.messages.Message.{Message}
use Rattle.message.specs.declared.messages.Message.TheVariants.{Connect, Initiate, Change}
use Rattle.node.specs.declared.state.Node.{Node}
use Rattle.node.specs.declared.state.Turn.{Turn}
use Rattle.node.specs.Rules.{Sends, is_branch, is_sleeping, mark_of, weight_of, silent, sending, turn, lightest, wakes, reports, testing, tests_by, tests, changes, branching, branches_but, onward, joining, rejecting, bettering, heard, has_basic}
use Rattle.node.proofs.Sent.{silent_over}
use Rattle.node.proofs.Took as took
use Rattle.node.proofs.Took.{Woke, woke, awake, alone, Took, absorbed, merged, joined_finding, joined_found, accepts, rejects, tests_on, accepted, rejected, heard_child, changed_by, settled, changed}
use Rattle.link.specs.Ends.{End}
use Rattle.station.specs.State.{State, gave_at, gave_below, acted, woken}

abbrev pub Up : Node → Type 0
Up n = is_sleeping n.status ≡ false

reports_up_lem : (n : Node) (s : Sends) → Up n → Up (reports n s).node
reports_up_lem n s u = grind arith

tests_up : (n : Node) (s : Sends) → Up n → Up (tests n s).node
tests_up n s u = by (lightest n (has_basic n) 16)
  where
    by : (w : Option ℕ) → Up (tests_by w n s).node
    by None = reports_up_lem (testing None n) s u
    by (Some j) = u

changes_up : (k : ℕ) (n : Node) → Up n → Up (changes k n).node
changes_up k n u = elim (is_branch (mark_of n k)) as (λ b. Up (cond b (turn n (sending k Change silent)) (turn (branching k n) (sending k (Connect n.level) silent))).node) [ true ↦ u | false ↦ u ]

pub took_up : (n : Node) (j : ℕ) (m : Message) (t : Turn) → Took n j m t → Up n → Up t.node
took_up n j _ _ (absorbed l a b) u = u
took_up n j _ _ (merged l a b c) u = u
took_up n j _ _ (joined_finding l f a) u = tests_up (joining j l f phase.Find (n.find_count + branches_but n j 16) n) (onward n j (Initiate l f phase.Find) 16) refl
took_up n j _ _ (joined_found l f) u = refl
took_up n j _ _ (accepts l f a b) u = u
took_up n j _ _ (rejects l f a b c) u = u
took_up n j _ _ (tests_on l f a b c) u = tests_up (rejecting j n) silent u
took_up n j _ _ (accepted a) u = reports_up_lem (bettering j (Some (weight_of n j)) (testing None n)) silent u
took_up n j _ _ (rejected a) u = tests_up (rejecting j n) silent u
took_up n j _ _ (heard_child w a) u = reports_up_lem (bettering j w (heard n)) silent u
took_up n j _ _ (changed_by w k v a b c d) u = changes_up k n u
took_up n j _ _ (settled w a b c) u = u
took_up n j _ _ (changed k v a) u = changes_up k n u

woke_up : (n : Node) (t : Turn) → Woke n t → Up t.node
woke_up n _ (awake a) = a
woke_up n _ (alone a b) = refl
woke_up n _ (took.connects k a b) = refl

pub wakes_up : (n : Node) → Up (wakes n).node
wakes_up n = woke_up n (wakes n) (woke n (wakes n) refl)

-- who says nothing gives nothing, so that a station that is awake is not changed by waking
gave_silent : (es : List End) (n : ℕ) → gave_below silent es n ≡ es
unfolding gave_below
gave_silent es zero = refl
gave_silent es (suc n) = ap (λ o. gave_at n o (gave_below silent es n)) (silent_over n) ∙ gave_silent es n

wakes_awake : (n : Node) → Up n → wakes n ≡ turn n silent
wakes_awake n u = rw u

pub woken_awake : (s : State) → Up s.node → woken s ≡ s
woken_awake s u = ap (λ t. acted t s) (wakes_awake s.node u) ∙ (λ p. record { number = s.number; node = s.node; links = gave_silent s.links 16 p })
