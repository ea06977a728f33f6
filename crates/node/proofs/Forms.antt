-- What testing, reporting and changing root leave as it was, and what they send.
use Rattle.std.proofs.Common.{◌≡◌, ℕ, Bool, true, false, cond, ◌⊎◌, length, Some, None, Option, refl, inl, inr, arith, length-set}
use Rattle.message.specs.declared.messages.Message.{Message}
use Rattle.message.specs.declared.messages.Message.TheVariants.{Connect, Test, Report, Change}
use Rattle.node.specs.declared.state.Node.{Node}
use Rattle.node.specs.declared.state.Turn.{Turn}
use Rattle.node.specs.Rules.{Sends, is_branch, mark_of, best_weight, silent, sending, sending_to, turn, lightest, reports, testing, tests_by, tests, branching, changes, has_basic}
use Rattle.node.specs.Laws.{sent_over, LightestBasic}
use Rattle.node.proofs.Lightest.{lightest_basic}
use Rattle.node.proofs.Sent.{sent_only, one_sent}

-- o is n but for its status and for what it tests
pub record Alike (n o : Node) : Type 0 where
  pub edges : o.edges ≡ n.edges
  pub weights : o.weights ≡ n.weights
  pub marks : o.marks ≡ n.marks
  pub level : o.level ≡ n.level
  pub name : o.name ≡ n.name
  pub count : o.find_count ≡ n.find_count
  pub parent : o.parent ≡ n.parent
  pub best : o.best ≡ n.best
  pub halted : o.halted ≡ n.halted

-- a message of this turn went before, or is the report to the parent
abbrev pub Told : Node → Sends → ℕ → Message → Type 0
Told n s k x = (sent_over s k ≡ Some x) ⊎ ((n.parent ≡ Some k) × (x ≡ Report (best_weight n.best)))

told : (n : Node) (s : Sends) (k : ℕ) (x : Message) (p : Option ℕ) → n.parent ≡ p → sent_over (sending_to p (Report (best_weight n.best)) s) k ≡ Some x → Told n s k x
told n s k x None e h = inl h
told n s k x (Some j) e h = let a = sent_only s j k (Report (best_weight n.best)) x h in grind arith

told_length : (p : Option ℕ) (m : Message) (s : Sends) → length (sending_to p m s) ≡ length s
told_length None m s = refl
told_length (Some j) m s = length-set s j (Some m)

module _ (n : Node) (s : Sends) where
  pub reports_alike : Alike n (reports n s).node
  reports_alike = grind arith

  pub reports_testing : (reports n s).node.testing ≡ n.testing
  reports_testing = grind arith

  pub reports_length : length (reports n s).sends ≡ length s
  reports_length = let l = told_length n.parent (Report (best_weight n.best)) s in grind arith

  pub reports_told : (k : ℕ) (x : Message) → sent_over (reports n s).sends k ≡ Some x → Told n s k x
  reports_told k x h = grind (arith, told n s k x n.parent refl)

-- a message of this turn went before, is the test of the lightest basic edge, or is the report to the parent
abbrev pub Asked : Node → Sends → Turn → ℕ → Message → Type 0
Asked n s t k x =
    (sent_over s k ≡ Some x) ⊎ (LightestBasic t.node k × (t.node.testing ≡ Some k) × (x ≡ Test n.level n.name)) ⊎
    ((n.parent ≡ Some k) × (x ≡ Report (best_weight n.best)))

asked : (n : Node) (s : Sends) (w : Option ℕ) → lightest n (has_basic n) 16 ≡ w → (k : ℕ) (x : Message) → sent_over (tests_by w n s).sends k ≡ Some x → Asked n s (tests_by w n s) k x
asked n s None e k x h = elim (reports_told (testing None n) s k x h) [ inl a ↦ inl a | inr b ↦ inr (inr b) ]
asked n s (Some i) e k x h =
    elim (sent_only s i k (Test n.level n.name) x h) [ inl a ↦ inr (inl (lightest_basic n k (grind arith), grind arith, grind arith)) | inr b ↦ inl b ]

tests_by_alike : (n : Node) (s : Sends) (w : Option ℕ) → Alike n (tests_by w n s).node × ((tests_by w n s).node.testing ≡ w) × (length (tests_by w n s).sends ≡ length s)
tests_by_alike n s None =
    let a = reports_alike (testing None n) s in
    (record { edges = a.edges; weights = a.weights; marks = a.marks; level = a.level; name = a.name; count = a.count; parent = a.parent; best = a.best; halted = a.halted }, reports_testing (testing None n) s, reports_length (testing None n) s)
tests_by_alike n s (Some i) = (record { edges = refl; weights = refl; marks = refl; level = refl; name = refl; count = refl; parent = refl; best = refl; halted = refl }, refl, length-set s i (Some (Test n.level n.name)))

module _ (n : Node) (s : Sends) where
  pub tests_alike : Alike n (tests n s).node
  tests_alike = (tests_by_alike n s (lightest n (has_basic n) 16)).0

  pub tests_testing : (tests n s).node.testing ≡ lightest n (has_basic n) 16
  tests_testing = (tests_by_alike n s (lightest n (has_basic n) 16)).1

  pub tests_length : length (tests n s).sends ≡ length s
  tests_length = (tests_by_alike n s (lightest n (has_basic n) 16)).2

  pub tests_asked : (k : ℕ) (x : Message) → sent_over (tests n s).sends k ≡ Some x → Asked n s (tests n s) k x
  tests_asked = asked n s (lightest n (has_basic n) 16) refl

changed : (b : Bool) (i : ℕ) (n o : Node) (k : ℕ) (x : Message) → sent_over (cond b (turn n (sending i Change silent)) (turn o (sending i (Connect n.level) silent))).sends k ≡ Some x →
    (k ≡ i) × ((x ≡ Change) ⊎ (x ≡ Connect n.level))
changed true i n o k x h = let a = one_sent i k Change x h in (a.0, inl (cc))
changed false i n o k x h = let a = one_sent i k (Connect n.level) x h in (a.0, inr (cc))

module _ (i : ℕ) (n : Node) where
  pub changes_length : length (changes i n).sends ≡ 16
  changes_length = let a = length-set silent i (Some Change) in let b = length-set silent i (Some (Connect n.level)) in grind arith

  pub changes_sent : (k : ℕ) (x : Message) → sent_over (changes i n).sends k ≡ Some x → (k ≡ i) × ((x ≡ Change) ⊎ (x ≡ Connect n.level))
  changes_sent = changed (is_branch (mark_of n i)) i n (branching i n)
