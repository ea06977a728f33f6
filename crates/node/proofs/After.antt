-- What a message that is taken can change in a node, and what the node can send.
use Rattle.std.proofs.Common.{◌≡◌, ℕ, ◌+◌, true, false, cond, ◌⊎◌, List, set, Some, None, Option, sym, refl, ◌∙◌, inl, inr, arith}
use Rattle.message.specs.declared.messages.Phase.TheVariants as phase
use Rattle.message.specs.declared.messages.Message.{Message}
use Rattle.message.specs.declared.messages.Message.TheVariants.{Connect, Initiate, Test, Accept, Reject, Report, Change}
use Rattle.graph.specs.declared.mark.Mark.{Mark}
use Rattle.graph.specs.declared.mark.Mark.TheVariants.{Branch, Rejected}
use Rattle.node.specs.declared.state.Best.{Best}
use Rattle.node.specs.declared.state.Best.TheVariants as best
use Rattle.node.specs.declared.state.Node.{Node}
use Rattle.node.specs.declared.state.Turn.{Turn}
use Rattle.node.specs.Rules.{Sends, is_basic, is_branch, has_edge, mark_of, weight_of, best_weight, lighter, silent, sending, turn, lightest, reports, testing, tests, changes, branching, branches_but, onward, joining, rejecting, better_by, bettering, heard, has_basic}
use Rattle.node.specs.Laws.{best_edge, level_after}
use Rattle.node.proofs.Lightest.{lightest_basic}
use Rattle.node.proofs.Forms.{Alike, reports_alike, reports_testing, tests_alike, tests_testing}
use Rattle.node.proofs.Took.{Took, absorbed, merged, joined_finding, joined_found, accepts, rejects, tests_on, accepted, rejected, heard_child, changed_by, settled, changed}

-- the marks: as they were; an edge more is a branch, the message's or the best; or the message's edge, that was basic, is rejected
abbrev pub MarksAfter : Node → ℕ → List Mark → Type 0
MarksAfter n j ms =
    (ms ≡ n.marks) ⊎ ((i : ℕ) × ((i ≡ j) ⊎ (best_edge n.best ≡ Some i)) × (ms ≡ set n.marks i Branch)) ⊎
    ((is_basic (mark_of n j) ≡ true) × (ms ≡ set n.marks j Rejected))

-- the best: as it was, none, or over the message's edge, by its own weight or by that which is reported
abbrev pub BestAfter : Node → ℕ → Message → Best → Type 0
BestAfter n j m b = (b ≡ n.best) ⊎ (b ≡ best.Nothing) ⊎ ((w : ℕ) × (b ≡ best.Over j w) × ((w ≡ weight_of n j) ⊎ (m ≡ Report (Some w))))

-- the edge that is tested: as it was, none, or one that is there
abbrev pub TestingAfter : Node → Option ℕ → Type 0
TestingAfter n e = (e ≡ n.testing) ⊎ (e ≡ None) ⊎ ((k : ℕ) × (e ≡ Some k) × (has_edge n k ≡ true))

pub record After (n : Node) (j : ℕ) (m : Message) (o : Node) : Type 0 where
  pub edges : o.edges ≡ n.edges
  pub weights : o.weights ≡ n.weights
  pub level : o.level ≡ level_after m n.level
  pub parent : (o.parent ≡ n.parent) ⊎ (o.parent ≡ Some j)
  pub testing : TestingAfter n o.testing
  pub marks : MarksAfter n j o.marks
  pub best : BestAfter n j m o.best

rejecting_marks : (n : Node) (j : ℕ) → MarksAfter n j (rejecting j n).marks
rejecting_marks n j = grind arith

better : (n : Node) (j : ℕ) (m : Message) (w : Option ℕ) → ((v : ℕ) → w ≡ Some v → (v ≡ weight_of n j) ⊎ (m ≡ Report (Some v))) → BestAfter n j m (better_by j w n.best)
better n j m None h = inl refl
better n j m (Some v) h =
    elim (lighter (Some v) (best_weight n.best)) as (λ b. BestAfter n j m (cond b (best.Over j v) n.best)) [ true ↦ inr (inr (v, refl, h v refl)) | false ↦ inl refl ]

module _ (n : Node) (j : ℕ) where
  -- testing or reporting on top
  alike : (m : Message) (b o : Node) → After n j m b → Alike b o → TestingAfter n o.testing → After n j m o
  alike m b o x a t =
      record { edges = a.edges ∙ x.edges; weights = a.weights ∙ x.weights; level = a.level ∙ x.level; parent = rw a.parent x.parent; testing = t; marks = rw a.marks x.marks; best = rw a.best x.best }

  testing_after : (o : Node) (w : Option ℕ) → o.edges ≡ n.edges → lightest o (has_basic o) 16 ≡ w → TestingAfter n w
  testing_after o None h e = inr (inl refl)
  testing_after o (Some k) h e = let p = (lightest_basic o k e).0 in inr (inr (k, refl, rw h at p))

  tested : (m : Message) (b : Node) (s : Sends) → After n j m b → After n j m (tests b s).node
  tested m b s x = alike m b (tests b s).node x (tests_alike b s) (rw (tests_testing b s) (testing_after b (lightest b (has_basic b) 16) x.edges refl))

  reported : (m : Message) (b : Node) (s : Sends) → After n j m b → After n j m (reports b s).node
  reported m b s x = alike m b (reports b s).node x (reports_alike b s) (rw (reports_testing b s) x.testing)

  untouched : (m : Message) → level_after m n.level ≡ n.level → After n j m n
  untouched m h = record { edges = refl; weights = refl; level = sym h; parent = inl refl; testing = inl refl; marks = inl refl; best = inl refl }

  rejecting_after : (m : Message) → level_after m n.level ≡ n.level → After n j m (rejecting j n)
  rejecting_after m h = record { edges = refl; weights = refl; level = sym h; parent = inl refl; testing = inl refl; marks = rejecting_marks n j; best = inl refl }

  changes_after : (m : Message) (k v : ℕ) → level_after m n.level ≡ n.level → n.best ≡ best.Over k v → After n j m (changes k n).node
  changes_after m k v h e =
      elim (is_branch (mark_of n k)) as (λ b. After n j m (cond b (turn n (sending k Change silent)) (turn (branching k n) (sending k (Connect n.level) silent))).node) [
        | true ↦ untouched m h
        | false ↦ record { edges = refl; weights = refl; level = sym h; parent = inl refl; testing = inl refl; marks = inr (inl (k, inr (rw e), refl)); best = inl refl }
      ]

  pub after : (m : Message) (t : Turn) → Took n j m t → After n j m t.node
  after _ _ (absorbed l a b) = record { edges = refl; weights = refl; level = refl; parent = inl refl; testing = inl refl; marks = inr (inl (j, inl refl, refl)); best = inl refl }
  after _ _ (merged l a b c) = untouched (Connect l) refl
  after _ _ (joined_finding l f a) =
      tested (Initiate l f phase.Find) (joining j l f phase.Find (n.find_count + branches_but n j 16) n) (onward n j (Initiate l f phase.Find) 16)
      (record { edges = refl; weights = refl; level = refl; parent = inr refl; testing = inl refl; marks = inl refl; best = inr (inl refl) })
  after _ _ (joined_found l f) = record { edges = refl; weights = refl; level = refl; parent = inr refl; testing = inl refl; marks = inl refl; best = inr (inl refl) }
  after _ _ (accepts l f a b) = untouched (Test l f) refl
  after _ _ (rejects l f a b c) = rejecting_after (Test l f) refl
  after _ _ (tests_on l f a b c) = tested (Test l f) (rejecting j n) silent (rejecting_after (Test l f) refl)
  after _ _ (accepted a) =
      reported Accept (bettering j (Some (weight_of n j)) (testing None n)) silent
      (record { edges = refl; weights = refl; level = refl; parent = inl refl; testing = inr (inl refl); marks = inl refl; best = better n j Accept (Some (weight_of n j)) (λ v e. inl (cc)) })
  after _ _ (rejected a) = tested Reject (rejecting j n) silent (rejecting_after Reject refl)
  after _ _ (heard_child w a) =
      reported (Report w) (bettering j w (heard n)) silent
      (record { edges = refl; weights = refl; level = refl; parent = inl refl; testing = inl refl; marks = inl refl; best = better n j (Report w) w (λ v e. inr (cc)) })
  after _ _ (changed_by w k v a b c d) = changes_after (Report w) k v refl d
  after _ _ (settled w a b c) = record { edges = refl; weights = refl; level = refl; parent = inl refl; testing = inl refl; marks = inl refl; best = inl refl }
  after _ _ (changed k v a) = changes_after Change k v refl a
