-- Where each message that a node sends comes from, and over which edge it goes.
use Rattle.std.proofs.Common.{◌≡◌, ℕ, ◌+◌, ◌<◌, Bool, true, false, cond, length, Some, None, Option, sym, refl, ◌∙◌, subst, inl, inr, arith, length-set}
use Rattle.message.specs.declared.messages.Phase.{Phase}
use Rattle.message.specs.declared.messages.Phase.TheVariants as phase
use Rattle.message.specs.declared.messages.Message.{Message}
use Rattle.message.specs.declared.messages.Message.TheVariants.{Connect, Initiate, Test, Accept, Reject, Report, Change}
use Rattle.node.specs.declared.state.Best.TheVariants as best
use Rattle.node.specs.declared.state.Node.{Node}
use Rattle.node.specs.declared.state.Turn.{Turn}
use Rattle.node.specs.Rules.{Sends, has_edge, weight_of, best_weight, silent, sending, phase_of, goes_on, reports, testing, tests, changes, branches_but, onward, joining, rejecting, bettering, heard}
use Rattle.node.specs.Laws.{sent_over, best_edge, LightestBasic}
use Rattle.node.proofs.Sent.{one_sent, silent_over, onward_at, onward_length}
use Rattle.node.proofs.Forms.{reports_alike, reports_length, reports_told, tests_alike, tests_length, tests_asked, changes_length, changes_sent}
use Rattle.node.proofs.Lightest.{lightest_edge}
use Rattle.node.proofs.Took as took
use Rattle.node.proofs.Took.{Woke, awake, alone, Took, absorbed, merged, joined_finding, joined_found, accepts, rejects, tests_on, accepted, rejected, heard_child, changed_by, settled, changed}

-- what goes over edge k when the message m from edge j has led to t: back to j an initiate for a fragment that joins, or the answer to a test;
-- an initiate onwards; a test; a report to the parent; or the word towards the best edge
pub data Goes (n : Node) (j : ℕ) (m : Message) (t : Turn) (k : ℕ) : Message → Type 0 where
  absorbs : k ≡ j → (p : Phase) → Goes n j m t k (Initiate n.level n.name p)
  merges : k ≡ j → n.level < 8 → Goes n j m t k (Initiate (n.level + 1) (weight_of n j) phase.Find)
  onwards : (l f : ℕ) (p : Phase) → m ≡ Initiate l f p → goes_on n j k ≡ true → Goes n j m t k (Initiate l f p)
  accepting : k ≡ j → Goes n j m t k Accept
  denying : k ≡ j → Goes n j m t k Reject
  asks : LightestBasic t.node k → t.node.testing ≡ Some k → Goes n j m t k (Test t.node.level t.node.name)
  tells : t.node.parent ≡ Some k → Goes n j m t k (Report (best_weight t.node.best))
  passes : best_edge n.best ≡ Some k → Goes n j m t k Change
  connects : best_edge n.best ≡ Some k → Goes n j m t k (Connect n.level)

module _ (n : Node) (j : ℕ) (m : Message) (t : Turn) (k : ℕ) where
  -- one message over one edge
  goes_one : (i : ℕ) (y x : Message) → (k ≡ i → Goes n j m t k y) → sent_over (sending i y silent) k ≡ Some x → Goes n j m t k x
  goes_one i y x g h = let o = one_sent i k y x h in subst (Goes n j m t k) o.1 (g o.0)

  goes_none : (x : Message) → sent_over silent k ≡ Some x → Goes n j m t k x
  goes_none x h = let z : ◌≡◌ {A = Option Message} None (Some x) = sym (silent_over k) ∙ h in let y : ◌≡◌ {A = ℕ} 0 1 = cc in absurd (omega arith)

  goes_on_lem : (l f : ℕ) (p : Phase) → m ≡ Initiate l f p → (x : Message) → sent_over (onward n j (Initiate l f p) 16) k ≡ Some x → Goes n j m t k x
  goes_on_lem l f p i x h = go (goes_on n j k) refl (sym (onward_at n j (Initiate l f p) k) ∙ h)
    where
      go : (b : Bool) → goes_on n j k ≡ b → cond b (Some (Initiate l f p)) None ≡ Some x → Goes n j m t k x
      go true e h = let y : Initiate l f p ≡ x = cc in subst (Goes n j m t k) y (onwards l f p i e)
      go false e h = let y : ◌≡◌ {A = ℕ} 0 1 = cc in absurd (omega arith)

  goes_changes : (i v : ℕ) → n.best ≡ best.Over i v → (x : Message) → sent_over (changes i n).sends k ≡ Some x → Goes n j m t k x
  goes_changes i v e x h =
      let c = changes_sent i n k x h in
      let b : best_edge n.best ≡ Some k = rw (e, c.0) in
      elim c.1 [ inl a ↦ rw a (passes b) | inr a ↦ rw a (connects b) ]

module _ (n : Node) (j : ℕ) (m : Message) (o : Node) (s : Sends) (k : ℕ) where
  goes_reports : ((x : Message) → sent_over s k ≡ Some x → Goes n j m (reports o s) k x) → (x : Message) → sent_over (reports o s).sends k ≡ Some x → Goes n j m (reports o s) k x
  goes_reports g x h =
      let a = reports_alike o s in
      elim (reports_told o s k x h)
      [ inl b ↦ g x b | inr b ↦ let r : Report (best_weight (reports o s).node.best) ≡ x = rw a.best (sym b.1) in subst (Goes n j m (reports o s) k) r (tells (a.parent ∙ b.0)) ]

  goes_tests : ((x : Message) → sent_over s k ≡ Some x → Goes n j m (tests o s) k x) → (x : Message) → sent_over (tests o s).sends k ≡ Some x → Goes n j m (tests o s) k x
  goes_tests g x h =
      let a = tests_alike o s in
      elim (tests_asked o s k x h) [
        | inl b ↦ g x b
        | inr (inl b) ↦ let r : Test (tests o s).node.level (tests o s).node.name ≡ x = rw (a.level, a.name) (sym b.2) in subst (Goes n j m (tests o s) k) r (asks b.0 b.1)
        | inr (inr b) ↦ let r : Report (best_weight (tests o s).node.best) ≡ x = rw a.best (sym b.1) in subst (Goes n j m (tests o s) k) r (tells (a.parent ∙ b.0))
      ]

module _ (n : Node) (j : ℕ) where
  pub goes : (m : Message) (t : Turn) → Took n j m t → (k : ℕ) (x : Message) → sent_over t.sends k ≡ Some x → Goes n j m t k x
  goes m t (absorbed l a b) k x h = goes_one n j m t k j (Initiate n.level n.name (phase_of n.status)) x (λ e. absorbs e (phase_of n.status)) h
  goes m t (merged l a b c) k x h = goes_one n j m t k j (Initiate (n.level + 1) (weight_of n j) phase.Find) x (λ e. merges e c) h
  goes m t (joined_finding l f a) k x h =
      goes_tests n j m (joining j l f phase.Find (n.find_count + branches_but n j 16) n) (onward n j m 16) k (goes_on_lem n j m t k l f phase.Find refl) x h
  goes m t (joined_found l f) k x h = goes_on_lem n j m t k l f phase.Found refl x h
  goes m t (accepts l f a b) k x h = goes_one n j m t k j Accept x accepting h
  goes m t (rejects l f a b c) k x h = goes_one n j m t k j Reject x denying h
  goes m t (tests_on l f a b c) k x h = goes_tests n j m (rejecting j n) silent k (goes_none n j m t k) x h
  goes m t (accepted a) k x h = goes_reports n j m (bettering j (Some (weight_of n j)) (testing None n)) silent k (goes_none n j m t k) x h
  goes m t (rejected a) k x h = goes_tests n j m (rejecting j n) silent k (goes_none n j m t k) x h
  goes m t (heard_child w a) k x h = goes_reports n j m (bettering j w (heard n)) silent k (goes_none n j m t k) x h
  goes m t (changed_by w i v a b c d) k x h = goes_changes n j m t k i v d x h
  goes m t (settled w a b c) k x h = goes_none n j m t k x h
  goes m t (changed i v a) k x h = goes_changes n j m t k i v a x h

  -- there are always sixteen places
  pub goes_length : (m : Message) (t : Turn) → Took n j m t → length t.sends ≡ 16
  goes_length m t (absorbed l a b) = length-set silent j (Some (Initiate n.level n.name (phase_of n.status)))
  goes_length m t (merged l a b c) = length-set silent j (Some (Initiate (n.level + 1) (weight_of n j) phase.Find))
  goes_length m t (joined_finding l f a) =
      tests_length (joining j l f phase.Find (n.find_count + branches_but n j 16) n) (onward n j m 16) ∙ onward_length n j m 16
  goes_length m t (joined_found l f) = onward_length n j m 16
  goes_length m t (accepts l f a b) = length-set silent j (Some Accept)
  goes_length m t (rejects l f a b c) = length-set silent j (Some Reject)
  goes_length m t (tests_on l f a b c) = tests_length (rejecting j n) silent
  goes_length m t (accepted a) = reports_length (bettering j (Some (weight_of n j)) (testing None n)) silent
  goes_length m t (rejected a) = tests_length (rejecting j n) silent
  goes_length m t (heard_child w a) = reports_length (bettering j w (heard n)) silent
  goes_length m t (changed_by w i v a b c d) = changes_length i n
  goes_length m t (settled w a b c) = refl
  goes_length m t (changed i v a) = changes_length i n

-- waking sends nothing but connect 0, over an edge that is there
pub woken_goes : (n : Node) (t : Turn) → Woke n t → (k : ℕ) (x : Message) → sent_over t.sends k ≡ Some x → (x ≡ Connect 0) × (has_edge n k ≡ true)
woken_goes n t (awake a) k x h = let z = silent_over k in grind arith
woken_goes n t (alone a b) k x h = let z = silent_over k in grind arith
woken_goes n t (took.connects i a b) k x h = let o = one_sent i k (Connect 0) x h in let p = lightest_edge n i b in (cc, rw o.0 p.0)

pub woken_length : (n : Node) (t : Turn) → Woke n t → length t.sends ≡ 16
woken_length n t (awake a) = refl
woken_length n t (alone a b) = refl
woken_length n t (took.connects i a b) = length-set silent i (Some (Connect 0))
