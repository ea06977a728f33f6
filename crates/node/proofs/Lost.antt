-- An initiate goes on over every other branch, and what the node sends besides is put over other edges.
use Rattle.std.proofs.Common.{◌≡◌, ℕ, ◌+◌, Bool, true, false, cond, ◌&&◌, eqb, length, Some, None, Option, refl, inl, inr, arith}
use Rattle.std.proofs.lemmas.Bool.Decides.{eqb_tells}
use Rattle.message.specs.declared.messages.Phase.{Phase}
use Rattle.message.specs.declared.messages.Phase.TheVariants as phase
use Rattle.message.specs.declared.messages.Message.{Message}
use Rattle.message.specs.declared.messages.Message.TheVariants.{Initiate, Test, Report}
use Rattle.node.specs.declared.state.Node.{Node}
use Rattle.node.specs.declared.state.Turn.{Turn}
use Rattle.node.specs.Rules.{Sends, is_basic, has_edge, mark_of, sending, turn, goes_on, lightest, found, testing, tests_by, branches_but, onward, joining, has_basic}
use Rattle.node.specs.Laws.{sent_over, Besides, NothingLost}
use Rattle.node.proofs.Sent.{sent_over_lem, onward_at, onward_length}
use Rattle.node.proofs.Lightest.{lightest_basic}
use Rattle.node.proofs.Took.{Took, joined_finding, joined_found, came}

module _ (n : Node) (j l f k : ℕ) (p : Phase) where
  -- what is over k is the initiate, if it goes on there, else something beside it
  abbrev Kept : Option Message → Type 0
  Kept x = (goes_on n j k ≡ true → x ≡ Some (Initiate l f p)) × (goes_on n j k ≡ false → Besides n j l f k x)

  passed : (x : Option Message) → x ≡ cond (goes_on n j k) (Some (Initiate l f p)) None → Kept x
  passed x e = (λ h. grind arith, λ h. inl (grind arith))

  no_both : (i : ℕ) → is_basic (mark_of n i) ≡ true → k ≡ i → goes_on n j k ≡ true → ⊥
  no_both i b e g = grind arith

  -- a test over a basic edge
  with_test : (x y : Option Message) (i : ℕ) → is_basic (mark_of n i) ≡ true → y ≡ cond (eqb k i) (Some (Test l f)) x → Kept x → Kept y
  with_test x y i b e h = elim (eqb_tells k i) [ inl a ↦ (λ g. absurd (no_both i b a.1 g), λ g. inr (inl (grind arith, grind arith))) | inr a ↦ (λ g. let q = h.0 g in grind arith, λ g. let r : y ≡ x = grind arith in rw r (h.1 g)) ]

  -- a report over the edge that the initiate came by
  with_report : (x y : Option Message) → y ≡ cond (eqb k j) (Some (Report None)) x → Kept x → Kept y
  with_report x y e h = elim (eqb_tells k j) [ inl a ↦ (λ g. absurd (grind arith), λ g. inr (inr (a.1, grind arith))) | inr a ↦ (λ g. let q = h.0 g in grind arith, λ g. let r : y ≡ x = grind arith in rw r (h.1 g)) ]

  reporting : (b : Bool) (o q : Node) (s : Sends) → has_edge n j ≡ true → length s ≡ 16 → Kept (sent_over s k) → Kept (sent_over (cond b (turn o (sending j (Report None) s)) (turn q s)).sends k)
  reporting true o q s e h kept = with_report (sent_over s k) (sent_over (sending j (Report None) s) k) (sent_over_lem s j k (Report None) (grind arith)) kept
  reporting false o q s e h kept = kept

  finding : (c : ℕ) (s : Sends) (w : Option ℕ) → lightest (joining j l f p c n) (has_basic (joining j l f p c n)) 16 ≡ w → has_edge n j ≡ true → length s ≡ 16 → Kept (sent_over s k) →
      Kept (sent_over (tests_by w (joining j l f p c n) s).sends k)
  finding c s None e there h kept = reporting (eqb c 0 && true) (found (testing None (joining j l f p c n))) (testing None (joining j l f p c n)) s there h kept
  finding c s (Some i) e there h kept =
      let b = lightest_basic (joining j l f p c n) i e in
      with_test (sent_over s k) (sent_over (sending i (Test l f) s) k) i b.1 (sent_over_lem s i k (Test l f) (let g = b.0 in grind arith)) kept

lost : (n : Node) (j k l f : ℕ) (p : Phase) (t : Turn) → has_edge n j ≡ true → Took n j (Initiate l f p) t → Kept n j l f k p (sent_over t.sends k)
lost n j k l f phase.Find t there (joined_finding _ _ a) =
    let m = Initiate l f phase.Find in
    let c = n.find_count + branches_but n j 16 in
    finding n j l f k phase.Find c (onward n j m 16) (lightest (joining j l f phase.Find c n) (has_basic (joining j l f phase.Find c n)) 16) refl there (onward_length n j m 16) (passed n j l f k phase.Find (sent_over (onward n j m 16) k) (onward_at n j m k))
lost n j k l f phase.Found t there (joined_found _ _) = passed n j l f k phase.Found (sent_over (onward n j (Initiate l f phase.Found) 16) k) (onward_at n j (Initiate l f phase.Found) k)

pub nothing_lost : NothingLost
nothing_lost n t j k l f p e = let c = came n j (Initiate l f p) t e in lost n j k l f p t c.there c.did
