-- What testing, reporting and changing root come to, case by case.
use Rattle.std.proofs.Common.{◌≡◌, ℕ, Bool, true, false, cond, not, ◌&&◌, eqb, is_some, Some, None, Option, refl, arith}
use Rattle.message.specs.declared.messages.Message.TheVariants.{Connect, Test, Report, Change}
use Rattle.node.specs.declared.state.Node.{Node}
use Rattle.node.specs.declared.state.Turn.{Turn}
use Rattle.node.specs.Rules.{Sends, is_branch, mark_of, best_weight, silent, sending, sending_to, turn, lightest, found, reports, testing, tests_by, tests, branching, changes, has_basic}

pub data Reported (n : Node) (s : Sends) : Turn → Type 0 where
  reported : n.find_count ≡ 0 → n.testing ≡ None → Reported n s (turn (found n) (sending_to n.parent (Report (best_weight n.best)) s))
  waiting : (eqb n.find_count 0 && not (is_some n.testing)) ≡ false → Reported n s (turn n s)

pub data Tested (n : Node) (s : Sends) : Turn → Type 0 where
  asked : (k : ℕ) → lightest n (has_basic n) 16 ≡ Some k → Tested n s (turn (testing (Some k) n) (sending k (Test n.level n.name) s))
  nothing_basic : {t : Turn} → lightest n (has_basic n) 16 ≡ None → Reported (testing None n) s t → Tested n s t

pub data Changed (k : ℕ) (n : Node) : Turn → Type 0 where
  passed : is_branch (mark_of n k) ≡ true → Changed k n (turn n (sending k Change silent))
  connected : is_branch (mark_of n k) ≡ false → Changed k n (turn (branching k n) (sending k (Connect n.level) silent))

module _ (n : Node) (s : Sends) where
  ready : (e : Option ℕ) → n.testing ≡ e → (b : Bool) → (eqb n.find_count 0 && not (is_some e)) ≡ b →
      Reported n s (cond b (turn (found n) (sending_to n.parent (Report (best_weight n.best)) s)) (turn n s))
  ready None h true e = reported (grind arith) h
  ready (Some k) h true e = absurd (grind arith)
  ready e h false b = waiting (rw h b)

  pub reports_cases : Reported n s (reports n s)
  reports_cases = ready n.testing refl (eqb n.find_count 0 && not (is_some n.testing)) refl

module _ (n : Node) (s : Sends) where
  asking : (w : Option ℕ) → lightest n (has_basic n) 16 ≡ w → Tested n s (tests_by w n s)
  asking None e = nothing_basic e (reports_cases (testing None n) s)
  asking (Some k) e = asked k e

  pub tests_cases : Tested n s (tests n s)
  tests_cases = asking (lightest n (has_basic n) 16) refl

module _ (k : ℕ) (n : Node) where
  towards : (b : Bool) → is_branch (mark_of n k) ≡ b → Changed k n (cond b (turn n (sending k Change silent)) (turn (branching k n) (sending k (Connect n.level) silent)))
  towards true e = passed e
  towards false e = connected e

  pub changes_cases : Changed k n (changes k n)
  changes_cases = towards (is_branch (mark_of n k)) refl
