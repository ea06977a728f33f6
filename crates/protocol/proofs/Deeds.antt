-- What each deed does to the edges of the node that acts.
use Rattle.std.proofs.Common.{◌≡◌, ℕ, zero, suc, ◌+◌, ◌-◌, ◌<◌, ◌≤◌, true, false, cond, not, ◌&&◌, eqb, ◌⊎◌, List, [], ◌∷◌, ◌++◌, Some, None, Option, sym, refl, ap, ◌∙◌, subst, inl, inr, append-nil, arith}
use Rattle.std.proofs.lemmas.Bool.Decides.{eqb_tells}
use Rattle.message.specs.declared.messages.Message.{Message}
use Rattle.message.specs.declared.messages.Message.TheVariants.{Connect, Initiate, Test, Accept, Reject, Report, Change}
use Rattle.message.specs.declared.messages.Phase.{Phase}
use Rattle.node.specs.declared.state.Status.{Status}
use Rattle.node.specs.declared.state.Status.TheVariants.{Sleeping, Find, Found}
use Rattle.graph.specs.declared.mark.Mark.{Mark}
use Rattle.graph.specs.declared.mark.Mark.TheVariants.{Basic, Branch, Rejected}
use Rattle.node.specs.Rules.{is_branch, is_find, phase_of, status_of, lighter}
use Rattle.graph.specs.Graph.{Graph}
use Rattle.protocol.proofs.Absorb.{over_absorb, over_merge}
use Rattle.protocol.proofs.Begin.{over_begin, beside_begin}
use Rattle.protocol.proofs.Control.{control1, control, control-++}
use Rattle.protocol.proofs.Deed.{woke, got, one, Deed, Alone, WokeTo, Absorbs, Merges, Begins, Searches-ask, Searches-report, Searches-wait, Accepts, Rejects, Crosses-ask, Crosses-report, Crosses-wait, Accepted-report, Accepted-wait, Rejected-ask, Rejected-report, Rejected-wait, Hears-report, Hears-wait, Decides-passes, Decides-joins, Halts, Rests, Changed-passes, Changed-joins}
use Rattle.protocol.proofs.Else.{Labels, Apart, else_absorb, else_merge, else_again, else_end, else_idle}
use Rattle.protocol.proofs.Outs.{out_to, out_to-++, out_to_onward}
use Rattle.protocol.proofs.Ghost.{Least, undecided, decided, View, idle, report, turn, follow, acted}
use Rattle.protocol.proofs.Heads.{head_absorb, head_merge, head_begin, head_turn, head_end, head_change, head_hears}
use Rattle.protocol.proofs.Held.{Send, Held, put, marking, rejecting, testing_now, finding, counting, hearing, bettering, branches_but, joining, onward, send_to, woken_held}
use Rattle.protocol.proofs.Mode.{calls, Mode, Sane}
use Rattle.protocol.proofs.Search.{tuned, Marks, tunes, tunes0, reports_in, reports_out, hears_wait, hears_report, wake_to, wake_else}
use Rattle.protocol.proofs.Turn.{Best, over_decide, over_change, pass_decide, join_decide, beside_decide, pass_change, join_change, beside_change, over_end, over_rest}
use Rattle.message.specs.declared.messages.Phase.TheVariants as phase

eqb_self : (y : ℕ) → eqb y y ≡ true
eqb_self y = grind arith

eqb_other : (k y : ℕ) → (k ≡ y → ⊥) → eqb k y ≡ false
eqb_other k y d = grind arith

pub to_self : (y : ℕ) (m : Message) → out_to y (one y m) ≡ m ∷ []
to_self y m = rw (eqb_self y)

pub to_other : (y k : ℕ) (m : Message) → (k ≡ y → ⊥) → out_to y (one k m) ≡ []
to_other y k m d = rw (eqb_other k y d)

pub test_none : (y k l f : ℕ) → control (out_to y (one k (Test l f))) ≡ []
test_none y k l f = grind arith

pub onward_self : (h : Held) (y l f : ℕ) (s : Phase) (n : ℕ) (os : List Send) → control (out_to y (onward h y (Initiate l f s) n ++ os)) ≡ control (out_to y os)
onward_self h y l f s n os = rw (out_to-++, control-++, out_to_onward) (grind arith)

onward_other : (h : Held) (y j l f : ℕ) (s : Phase) (n : ℕ) (os : List Send) → y < n → (y ≡ j → ⊥) → control (out_to y (onward h j (Initiate l f s) n ++ os)) ≡ cond (is_branch (h.mark y)) (Initiate l f s ∷ []) [] ++ control (out_to y os)
onward_other h y j l f s n os i d = rw (out_to-++, control-++, out_to_onward) (grind arith)

none_laid : (h : Held) (j n y : ℕ) → branches_but h j n ≡ 0 → y < n → (y ≡ j → ⊥) → h.mark y ≡ Branch → ⊥
unfolding branches_but
none_laid h j zero y e l d m = omega arith
none_laid h j (suc n) y e l d m = let ih = none_laid h j n y in less_laid h j n y (branches_but h j n) e (λ a b. ih a b d m) l d m
  where
    less_laid : (h : Held) (j n y r : ℕ) → cond (is_branch (h.mark n) && not (eqb n j)) 1 0 + r ≡ 0 → (r ≡ 0 → y < n → ⊥) → y < suc n → (y ≡ j → ⊥) → h.mark y ≡ Branch → ⊥
    less_laid h j n y r e f l d m = elim (eqb_tells y n) [ inl u ↦ grind arith | inr u ↦ grind arith ]

-- nobody over that edge is waited for: who is there below A has reported, of nothing lighter
abbrev pub Quiet : ℕ → ℕ → View → View → List Message → List Message → Type 0
Quiet x y A B p q =
    (A.held.parent ≡ Some y → ⊥) → A.held.mark y ≡ Branch → (calls p ≡ false) × (q ≡ []) × (B.held.parent ≡ Some x → B.held.level ≡ A.held.level → B.held.status ≡ Find → ⊥) × (lighter B.held.best_weight A.held.best_weight ≡ false)

-- what is used of the other invariants: of node i that acts (A) and of node y (B)
pub record Knows (t : Graph) (i y : ℕ) (A B : View) (p q : List Message) : Type 0 where
  pub inside : y < t.count
  pub mine : Sane y A
  pub theirs : Sane i B
  pub same : A.own.label ≡ B.own.label → A.fragment ≡ B.fragment
  pub long : A.held.best ≡ None → A.held.best_weight ≡ None
  pub inner : (k : ℕ) → A.own.changed ≡ false → A.held.level ≡ A.fragment.level → A.held.best ≡ Some k → A.held.parent ≡ Some k → ⊥
  pub best : A.own.changed ≡ false → A.held.level ≡ A.fragment.level → A.held.best ≡ Some y → Best i y (t.weight i y) A B
  pub asks : (A.held.testing ≡ None) ⊎ (A.held.status ≡ Find)
  pub quiet : A.held.find_count ≡ 0 → A.held.status ≡ Find → Quiet i y A B p q

-- and of the message and where it came from (J)
abbrev pub Suits : Message → View → View → Type 0
Suits (Connect l) A J = Unit {0}
Suits (Initiate l f s) A J = Unit {0}
Suits (Test l f) A J = f ≡ A.held.name → A.own.label ≡ J.own.label
Suits Accept A J = A.held.status ≡ Find
Suits Reject A J = (A.held.status ≡ Find) × (A.own.label ≡ J.own.label)
Suits (Report r) A J = Unit {0}
Suits Change A J = Unit {0}

ruled_here : (A B : View) (y : ℕ) → A.own.label ≡ B.own.label → Marks y (rejecting y A.held).mark A B
ruled_here A B y e = go (A.held.mark y) refl
  where
    go : (m : Mark) → A.held.mark y ≡ m → Marks y (rejecting y A.held).mark A B
    go Basic u = inr (grind arith)
    go Branch u = inl (grind arith)
    go Rejected u = inl (grind arith)

ruled_else : (h : Held) (y j : ℕ) → (y ≡ j → ⊥) → (rejecting j h).mark y ≡ h.mark y
ruled_else h y j d = grind arith

way_tells : (w : Option ℕ) (y : ℕ) → (w ≡ Some y) ⊎ (w ≡ Some y → ⊥)
way_tells None y = inr (λ e. grind arith)
way_tells (Some k) y = elim (eqb_tells k y) [ inl u ↦ inl (ap Some u.1) | inr u ↦ inr (λ e. u.1 (grind arith)) ]

send_else : (w : Option ℕ) (y : ℕ) (m : Message) → (w ≡ Some y → ⊥) → out_to y (send_to w m) ≡ []
send_else None y m d = refl
send_else (Some k) y m d = to_other y k m (λ e. d (ap Some e))

reporting : {x y w : ℕ} {A B : View} {p q : List Message} (m : ℕ → Mark) (n : ℕ) (b : Option ℕ) (z : Option ℕ) (k : Option ℕ) (J : View) → Sane y A → Sane x B → Marks y m A B → (A.own.label ≡ B.own.label → A.fragment ≡ B.fragment) → A.held.status ≡ Find → Quiet x y A B p q → lighter A.held.best_weight z ≡ false →
    Mode x y w A B p q → Mode x y w (acted report (tuned Found m n b z k A.held) A J) (follow report A J B) (p ++ control (out_to y (send_to A.held.parent (Report z)))) q
reporting {x} {y} {w} {A} {B} {p} {q} m n b z k J sa sb mk same st qu le e = go (way_tells A.held.parent y)
  where
    go : (A.held.parent ≡ Some y) ⊎ (A.held.parent ≡ Some y → ⊥) → Mode x y w (acted report (tuned Found m n b z k A.held) A J) (follow report A J B) (p ++ control (out_to y (send_to A.held.parent (Report z)))) q
    go (inl i) = let f : out_to y (send_to A.held.parent (Report z)) ≡ Report z ∷ [] = rw i (to_self y (Report z)) in rw f (reports_in m n b z k J sa sb mk same st i e)
    go (inr i) = rw (send_else A.held.parent y (Report z) i, append-nil) (reports_out m n b z k J sa sb mk same st i (qu i) le e)

laid_else : (h : Held) (k y : ℕ) → (y ≡ k → ⊥) → (marking k Branch h).mark y ≡ h.mark y
laid_else h k y d = grind arith

laid_here : (h : Held) (y : ℕ) → put y Branch h.mark y ≡ Branch
laid_here h y = grind arith

resting : {x y w : ℕ} {A B : View} (J : View) {p q : List Message} → (A.own.label ≡ B.own.label → A.fragment ≡ B.fragment) → Mode x y w A B p q → Mode x y w (acted idle A.held A J) (follow idle A J B) p q
resting {A = A} {B} J same e = else_idle A J (λ u. refl) (λ u. sym (same (sym u))) e

asking : {w : (Option ℕ)} {s : Status} {j : ℕ} → (w ≡ None) ⊎ (s ≡ Find) → w ≡ Some j → s ≡ Find
asking a e = grind arith

-- what a node knows of does not grow heavier
not_lighter : (r : Option ℕ) → lighter r r ≡ false
not_lighter None = refl
not_lighter (Some r) = grind arith

no_heavier : (w r : Option ℕ) → lighter r (cond (lighter w r) w r) ≡ false
no_heavier None r = not_lighter r
no_heavier (Some w) None = refl
no_heavier (Some w) (Some r) = grind arith

just_heard : (w r : Option ℕ) → lighter w (cond (lighter w r) w r) ≡ false
just_heard None r = refl
just_heard (Some w) None = grind arith
just_heard (Some w) (Some r) = grind arith

-- the edge that the message came by
pub acts_over : {t : Graph} {i y : ℕ} {A B : View} {m : Message} {g : Held} {os : List Send} {p q : List Message} → Knows t i y A B p q → (A.held.status ≡ Sleeping → ⊥) → Suits m A B → (d : Deed t i A.held (got y m) g os) → Mode i y (t.weight i y) A B p (control1 m ++ q) →
    Mode i y (t.weight i y) (acted (turn d) g A B) (follow (turn d) A B B) (p ++ control (out_to y os)) q
acts_over {t} {i} {y} {A} {B} {p = p} {q} k1 aw ft (Absorbs {l} c1) e = rw (to_self y (Initiate A.held.level A.held.name (phase_of A.held.status))) (over_absorb k1.mine aw c1 e)
acts_over {t} {i} {y} {A} {B} {p = p} {q} k1 aw ft (Merges {l} c1 c2) e = rw (to_self y (Initiate (A.held.level + 1) (t.weight i y) phase.Find)) (over_merge k1.mine k1.same c1 c2 e)
acts_over {t} {i} {y} {A} {B} {p = p} {q} k1 aw ft (Begins {l} {f} {s} c1) e = rw (onward_self A.held y l f s t.count []) (over_begin (status_of s) (joining t y l f s A.held).find_count (joining t y l f s A.held).testing (eqb (t.weight i y) f) false k1.theirs k1.same (inl (refl, refl)) e)
acts_over {t} {i} {y} {A} {B} {p = p} {q} k1 aw ft (Searches-ask {l} {f} k c1) e = rw (onward_self A.held y l f phase.Find t.count (one k (Test l f)), test_none y k l f) (over_begin Find (joining t y l f phase.Find A.held).find_count (Some k) (eqb (t.weight i y) f) false k1.theirs k1.same (inl (refl, refl)) e)
acts_over {t} {i} {y} {A} {B} {p = p} {q} k1 aw ft (Searches-report {l} {f} c1 c2 c3) e = rw (onward_self A.held y l f phase.Find t.count (one y (Report None)), to_self y (Report None)) (over_begin Found (joining t y l f phase.Find A.held).find_count None (eqb (t.weight i y) f) true k1.theirs k1.same (inr (refl, refl, refl)) e)
acts_over {t} {i} {y} {A} {B} {p = p} {q} k1 aw ft (Searches-wait {l} {f} c1 c2) e = rw (onward_self A.held y l f phase.Find t.count []) (over_begin Find (joining t y l f phase.Find A.held).find_count None (eqb (t.weight i y) f) false k1.theirs k1.same (inl (refl, refl)) e)
acts_over {t} {i} {y} {A} {B} {p = p} {q} k1 aw ft (Accepts {l} {f} c1 c2) e = rw (to_self y Accept, append-nil) (tunes A.held.status A.held.mark A.held.find_count A.held.best A.held.best_weight A.held.testing B k1.mine (inr (refl, refl, refl)) (inl refl) k1.same e)
acts_over {t} {i} {y} {A} {B} {p = p} {q} k1 aw ft (Rejects {l} {f} c1 c2 c3) e = rw (to_self y Reject, append-nil) (tunes (rejecting y A.held).status (rejecting y A.held).mark (rejecting y A.held).find_count (rejecting y A.held).best (rejecting y A.held).best_weight (rejecting y A.held).testing B k1.mine (inr (refl, refl, refl)) (ruled_here A B y (ft c2)) k1.same e)
acts_over {t} {i} {y} {A} {B} {p = p} {q} k1 aw ft (Crosses-ask {l} {f} k c1 c2 c3 c4) e = rw (test_none y k A.held.level A.held.name, append-nil) (tunes (testing_now (Some k) (rejecting y A.held)).status (testing_now (Some k) (rejecting y A.held)).mark (testing_now (Some k) (rejecting y A.held)).find_count (testing_now (Some k) (rejecting y A.held)).best (testing_now (Some k) (rejecting y A.held)).best_weight (testing_now (Some k) (rejecting y A.held)).testing B k1.mine (inr (refl, refl, refl)) (ruled_here A B y (ft c2)) k1.same e)
acts_over {t} {i} {y} {A} {B} {p = p} {q} k1 aw ft (Crosses-report {l} {f} c1 c2 c3 c4 c5 c6) e = reporting (finding (testing_now None (rejecting y A.held))).mark (finding (testing_now None (rejecting y A.held))).find_count (finding (testing_now None (rejecting y A.held))).best (finding (testing_now None (rejecting y A.held))).best_weight (finding (testing_now None (rejecting y A.held))).testing B k1.mine k1.theirs (ruled_here A B y (ft c2)) k1.same (asking k1.asks c3) (k1.quiet c5 (asking k1.asks c3)) (not_lighter A.held.best_weight) e
acts_over {t} {i} {y} {A} {B} {p = p} {q} k1 aw ft (Crosses-wait {l} {f} c1 c2 c3 c4 c5) e = rw append-nil (tunes (testing_now None (rejecting y A.held)).status (testing_now None (rejecting y A.held)).mark (testing_now None (rejecting y A.held)).find_count (testing_now None (rejecting y A.held)).best (testing_now None (rejecting y A.held)).best_weight (testing_now None (rejecting y A.held)).testing B k1.mine (inr (refl, refl, refl)) (ruled_here A B y (ft c2)) k1.same e)
acts_over {t} {i} {y} {A} {B} {p = p} {q} k1 aw ft (Accepted-report c1 c2) e = reporting (finding (bettering y (Some (t.weight i y)) (testing_now None A.held))).mark (finding (bettering y (Some (t.weight i y)) (testing_now None A.held))).find_count (finding (bettering y (Some (t.weight i y)) (testing_now None A.held))).best (finding (bettering y (Some (t.weight i y)) (testing_now None A.held))).best_weight (finding (bettering y (Some (t.weight i y)) (testing_now None A.held))).testing B k1.mine k1.theirs (inl refl) k1.same (ft) (k1.quiet c1 ft) (no_heavier (Some (t.weight i y)) A.held.best_weight) e
acts_over {t} {i} {y} {A} {B} {p = p} {q} k1 aw ft (Accepted-wait c1) e = rw append-nil (tunes (bettering y (Some (t.weight i y)) (testing_now None A.held)).status (bettering y (Some (t.weight i y)) (testing_now None A.held)).mark (bettering y (Some (t.weight i y)) (testing_now None A.held)).find_count (bettering y (Some (t.weight i y)) (testing_now None A.held)).best (bettering y (Some (t.weight i y)) (testing_now None A.held)).best_weight (bettering y (Some (t.weight i y)) (testing_now None A.held)).testing B k1.mine (inl (ft, ft)) (inl refl) k1.same e)
acts_over {t} {i} {y} {A} {B} {p = p} {q} k1 aw ft (Rejected-ask k c1) e = rw (test_none y k A.held.level A.held.name, append-nil) (tunes (testing_now (Some k) (rejecting y A.held)).status (testing_now (Some k) (rejecting y A.held)).mark (testing_now (Some k) (rejecting y A.held)).find_count (testing_now (Some k) (rejecting y A.held)).best (testing_now (Some k) (rejecting y A.held)).best_weight (testing_now (Some k) (rejecting y A.held)).testing B k1.mine (inr (refl, refl, refl)) (ruled_here A B y ft.1) k1.same e)
acts_over {t} {i} {y} {A} {B} {p = p} {q} k1 aw ft (Rejected-report c1 c2 c3) e = reporting (finding (testing_now None (rejecting y A.held))).mark (finding (testing_now None (rejecting y A.held))).find_count (finding (testing_now None (rejecting y A.held))).best (finding (testing_now None (rejecting y A.held))).best_weight (finding (testing_now None (rejecting y A.held))).testing B k1.mine k1.theirs (ruled_here A B y ft.1) k1.same ft.0 (k1.quiet c2 ft.0) (not_lighter A.held.best_weight) e
acts_over {t} {i} {y} {A} {B} {p = p} {q} k1 aw ft (Rejected-wait c1 c2) e = rw append-nil (tunes (testing_now None (rejecting y A.held)).status (testing_now None (rejecting y A.held)).mark (testing_now None (rejecting y A.held)).find_count (testing_now None (rejecting y A.held)).best (testing_now None (rejecting y A.held)).best_weight (testing_now None (rejecting y A.held)).testing B k1.mine (inr (refl, refl, refl)) (ruled_here A B y ft.1) k1.same e)
acts_over {t} {i} {y} {A} {B} {p = p} {q} k1 aw ft (Hears-report {w} c1 c2 c3) e = rw (send_else A.held.parent y (Report (bettering y w (hearing A.held)).best_weight) c1, append-nil) (hears_report (bettering y w (hearing A.held)).find_count (bettering y w (hearing A.held)).best (bettering y w (hearing A.held)).best_weight (bettering y w (hearing A.held)).testing k1.mine k1.theirs c1 (just_heard w A.held.best_weight) e)
acts_over {t} {i} {y} {A} {B} {p = p} {q} k1 aw ft (Hears-wait {w} c1 c2) e = rw append-nil (hears_wait (bettering y w (hearing A.held)).find_count (bettering y w (hearing A.held)).best (bettering y w (hearing A.held)).best_weight (bettering y w (hearing A.held)).testing k1.mine k1.theirs c1 e)
acts_over {t} {i} {y} {A} {B} {p = p} {q} k1 aw ft (Decides-passes {w} k c1 c2 c3 c4 c5) e = let d = head_turn k1.mine c1 c2 c3 e in let n : k ≡ y → ⊥ = λ u. k1.inner k d.still d.current c4 (c1 ∙ ap Some (sym u)) in rw (to_other y k Change n, append-nil) (over_decide k A.held.mark refl k1.mine k1.theirs n c1 c2 c3 e)
acts_over {t} {i} {y} {A} {B} {p = p} {q} k1 aw ft (Decides-joins {w} k c1 c2 c3 c4 c5) e = let d = head_turn k1.mine c1 c2 c3 e in let n : k ≡ y → ⊥ = λ u. k1.inner k d.still d.current c4 (c1 ∙ ap Some (sym u)) in rw (to_other y k (Connect A.held.level) n, append-nil) (over_decide k (marking k Branch A.held).mark (laid_else A.held k y (λ u. n (sym u))) k1.mine k1.theirs n c1 c2 c3 e)
acts_over {t} {i} {y} {A} {B} {p = p} {q} k1 aw ft (Halts {w} c1 c2 c3 c4) e = rw append-nil (over_end k1.mine k1.theirs c1 c2 c3 c4 e)
acts_over {t} {i} {y} {A} {B} {p = p} {q} k1 aw ft (Rests {w} c1 c2 c3 c4) e = rw append-nil (resting B k1.same (over_rest k1.mine k1.theirs c1 c2 c3 e))
acts_over {t} {i} {y} {A} {B} {p = p} {q} k1 aw ft (Changed-passes k c1 c2) e = let d = head_change k1.same e in let n : k ≡ y → ⊥ = λ u. k1.inner k d.still d.current c1 (d.parent ∙ ap Some (sym u)) in rw (to_other y k Change n, append-nil) (over_change k A.held.mark refl k1.mine k1.theirs k1.same n e)
acts_over {t} {i} {y} {A} {B} {p = p} {q} k1 aw ft (Changed-joins k c1 c2) e = let d = head_change k1.same e in let n : k ≡ y → ⊥ = λ u. k1.inner k d.still d.current c1 (d.parent ∙ ap Some (sym u)) in rw (to_other y k (Connect A.held.level) n, append-nil) (over_change k (marking k Branch A.held).mark (laid_else A.held k y (λ u. n (sym u))) k1.mine k1.theirs k1.same n e)

away : {i j y : ℕ} → (i ≡ j → ⊥) → (y ≡ j → ⊥) → Apart i y i j
away a b = (λ u v. a u, λ u v. b u)

stale : {a b c : ℕ} → a < b → b ≤ c → a ≡ c → ⊥
stale p q e = omega arith

none_waits : (a b : ℕ) → a + b ≡ 0 → b ≡ 0
none_waits a b e = omega arith

unlaid : {m : Mark} → (m ≡ Basic) ⊎ (m ≡ Branch) → (m ≡ Branch → ⊥) → m ≡ Basic
unlaid (inl u) f = u
unlaid (inr u) f = absurd (f u)

calm_end : {s : Status} {l : Least} {z : Option ℕ} → (s ≡ Find → l ≡ undecided) → l ≡ decided z → s ≡ Find → ⊥
calm_end f e u = grind arith

-- the other edges
pub acts_beside : {t : Graph} {i y j : ℕ} {A B J : View} {m : Message} {g : Held} {os : List Send} {p q pj qj : List Message} → Knows t i y A B p q → Knows t i j A J pj qj → Suits m A J → (i ≡ j → ⊥) → (y ≡ j → ⊥) → (t.weight i y ≡ t.weight i j → ⊥) → Labels A B A J →
    ((r : Option ℕ) → m ≡ Report r → (A.held.parent ≡ Some j → ⊥) → A.held.find_count - 1 ≡ 0 → Quiet i y A B p q) → Mode i j (t.weight i j) A J pj (control1 m ++ qj) → (d : Deed t i A.held (got j m) g os) → Mode i y (t.weight i y) A B p q →
    Mode i y (t.weight i y) (acted (turn d) g A J) (follow (turn d) A J B) (p ++ control (out_to y os)) q
acts_beside {t} {i} {y} {j} {A} {B} {J} {p = p} {q} k1 kj ft ij ne nw lab late ej (Absorbs {l} c1) e = let nj : j ≡ y → ⊥ = λ u. ne (sym u) in let a = head_absorb c1 ej in rw (to_other y j (Initiate A.held.level A.held.name (phase_of A.held.status)) nj, append-nil) (tunes0 (marking j Branch A.held).mark (counting (cond (is_find A.held.status) 1 0) A.held).find_count A.held.testing A.held.halted (laid_else A.held j y ne) (else_absorb lab k1.mine k1.theirs nw (away ij ne) k1.mine.low a.low a.current a.least a.sends a.gets a.differ e))
acts_beside {t} {i} {y} {j} {A} {B} {J} {p = p} {q} k1 kj ft ij ne nw lab late ej (Merges {l} c1 c2) e = let nj : j ≡ y → ⊥ = λ u. ne (sym u) in rw (to_other y j (Initiate (A.held.level + 1) (t.weight i j) phase.Find) nj, append-nil) (elim (head_merge c1 c2 ej) [ inl a ↦ else_merge lab k1.mine k1.theirs nw (away ij ne) a.current_a a.least_a a.levels a.current a.least a.sends a.gets a.sends_a a.gets_a a.differ e | inr u ↦ else_again (t.weight i j) lab u e ])
acts_beside {t} {i} {y} {j} {A} {B} {J} {p = p} {q} k1 kj ft ij ne nw lab late ej (Begins {l} {f} {s} c1) e = let nj : j ≡ y → ⊥ = λ u. ne (sym u) in let b = head_begin kj.theirs kj.same ej in rw (onward_other A.held y j l f s t.count [] k1.inside ne, append-nil) (beside_begin l f s (status_of s) j (joining t j l f s A.held).find_count A.held.testing (eqb (t.weight i j) f) false J k1.mine k1.theirs k1.same b.up ne b.rises b.top (inl refl) (inl (refl, refl)) b.now b.asked e)
acts_beside {t} {i} {y} {j} {A} {B} {J} {p = p} {q} k1 kj ft ij ne nw lab late ej (Searches-ask {l} {f} k c1) e = let nj : j ≡ y → ⊥ = λ u. ne (sym u) in let b = head_begin kj.theirs kj.same ej in rw (onward_other A.held y j l f phase.Find t.count (one k (Test l f)) k1.inside ne, test_none y k l f, append-nil) (beside_begin l f phase.Find Find j (joining t j l f phase.Find A.held).find_count (Some k) (eqb (t.weight i j) f) false J k1.mine k1.theirs k1.same b.up ne b.rises b.top (inl refl) (inl (refl, refl)) b.now b.asked e)
acts_beside {t} {i} {y} {j} {A} {B} {J} {p = p} {q} k1 kj ft ij ne nw lab late ej (Searches-report {l} {f} c1 c2 c3) e = let nj : j ≡ y → ⊥ = λ u. ne (sym u) in let b = head_begin kj.theirs kj.same ej in rw (onward_other A.held y j l f phase.Find t.count (one j (Report None)) k1.inside ne, to_other y j (Report None) nj, append-nil) (beside_begin l f phase.Find Found j (joining t j l f phase.Find A.held).find_count None (eqb (t.weight i j) f) true J k1.mine k1.theirs k1.same b.up ne b.rises b.top (inr (none_laid A.held j t.count y (none_waits A.held.find_count (branches_but A.held j t.count) c2) k1.inside ne)) (inr (refl, refl, refl)) b.now b.asked e)
acts_beside {t} {i} {y} {j} {A} {B} {J} {p = p} {q} k1 kj ft ij ne nw lab late ej (Searches-wait {l} {f} c1 c2) e = let nj : j ≡ y → ⊥ = λ u. ne (sym u) in let b = head_begin kj.theirs kj.same ej in rw (onward_other A.held y j l f phase.Find t.count [] k1.inside ne, append-nil) (beside_begin l f phase.Find Find j (joining t j l f phase.Find A.held).find_count None (eqb (t.weight i j) f) false J k1.mine k1.theirs k1.same b.up ne b.rises b.top (inl refl) (inl (refl, refl)) b.now b.asked e)
acts_beside {t} {i} {y} {j} {A} {B} {J} {p = p} {q} k1 kj ft ij ne nw lab late ej (Accepts {l} {f} c1 c2) e = let nj : j ≡ y → ⊥ = λ u. ne (sym u) in rw (to_other y j Accept nj, append-nil) (tunes A.held.status A.held.mark A.held.find_count A.held.best A.held.best_weight A.held.testing J k1.mine (inr (refl, refl, refl)) (inl refl) k1.same e)
acts_beside {t} {i} {y} {j} {A} {B} {J} {p = p} {q} k1 kj ft ij ne nw lab late ej (Rejects {l} {f} c1 c2 c3) e = let nj : j ≡ y → ⊥ = λ u. ne (sym u) in rw (to_other y j Reject nj, append-nil) (tunes (rejecting j A.held).status (rejecting j A.held).mark (rejecting j A.held).find_count (rejecting j A.held).best (rejecting j A.held).best_weight (rejecting j A.held).testing J k1.mine (inr (refl, refl, refl)) (inl (ruled_else A.held y j ne)) k1.same e)
acts_beside {t} {i} {y} {j} {A} {B} {J} {p = p} {q} k1 kj ft ij ne nw lab late ej (Crosses-ask {l} {f} k c1 c2 c3 c4) e = let nj : j ≡ y → ⊥ = λ u. ne (sym u) in rw (test_none y k A.held.level A.held.name, append-nil) (tunes (testing_now (Some k) (rejecting j A.held)).status (testing_now (Some k) (rejecting j A.held)).mark (testing_now (Some k) (rejecting j A.held)).find_count (testing_now (Some k) (rejecting j A.held)).best (testing_now (Some k) (rejecting j A.held)).best_weight (testing_now (Some k) (rejecting j A.held)).testing J k1.mine (inr (refl, refl, refl)) (inl (ruled_else A.held y j ne)) k1.same e)
acts_beside {t} {i} {y} {j} {A} {B} {J} {p = p} {q} k1 kj ft ij ne nw lab late ej (Crosses-report {l} {f} c1 c2 c3 c4 c5 c6) e = let nj : j ≡ y → ⊥ = λ u. ne (sym u) in reporting (finding (testing_now None (rejecting j A.held))).mark (finding (testing_now None (rejecting j A.held))).find_count (finding (testing_now None (rejecting j A.held))).best (finding (testing_now None (rejecting j A.held))).best_weight (finding (testing_now None (rejecting j A.held))).testing J k1.mine k1.theirs (inl (ruled_else A.held y j ne)) k1.same (asking k1.asks c3) (k1.quiet c5 (asking k1.asks c3)) (not_lighter A.held.best_weight) e
acts_beside {t} {i} {y} {j} {A} {B} {J} {p = p} {q} k1 kj ft ij ne nw lab late ej (Crosses-wait {l} {f} c1 c2 c3 c4 c5) e = let nj : j ≡ y → ⊥ = λ u. ne (sym u) in rw append-nil (tunes (testing_now None (rejecting j A.held)).status (testing_now None (rejecting j A.held)).mark (testing_now None (rejecting j A.held)).find_count (testing_now None (rejecting j A.held)).best (testing_now None (rejecting j A.held)).best_weight (testing_now None (rejecting j A.held)).testing J k1.mine (inr (refl, refl, refl)) (inl (ruled_else A.held y j ne)) k1.same e)
acts_beside {t} {i} {y} {j} {A} {B} {J} {p = p} {q} k1 kj ft ij ne nw lab late ej (Accepted-report c1 c2) e = let nj : j ≡ y → ⊥ = λ u. ne (sym u) in reporting (finding (bettering j (Some (t.weight i j)) (testing_now None A.held))).mark (finding (bettering j (Some (t.weight i j)) (testing_now None A.held))).find_count (finding (bettering j (Some (t.weight i j)) (testing_now None A.held))).best (finding (bettering j (Some (t.weight i j)) (testing_now None A.held))).best_weight (finding (bettering j (Some (t.weight i j)) (testing_now None A.held))).testing J k1.mine k1.theirs (inl refl) k1.same (ft) (k1.quiet c1 ft) (no_heavier (Some (t.weight i j)) A.held.best_weight) e
acts_beside {t} {i} {y} {j} {A} {B} {J} {p = p} {q} k1 kj ft ij ne nw lab late ej (Accepted-wait c1) e = let nj : j ≡ y → ⊥ = λ u. ne (sym u) in rw append-nil (tunes (bettering j (Some (t.weight i j)) (testing_now None A.held)).status (bettering j (Some (t.weight i j)) (testing_now None A.held)).mark (bettering j (Some (t.weight i j)) (testing_now None A.held)).find_count (bettering j (Some (t.weight i j)) (testing_now None A.held)).best (bettering j (Some (t.weight i j)) (testing_now None A.held)).best_weight (bettering j (Some (t.weight i j)) (testing_now None A.held)).testing J k1.mine (inl (ft, ft)) (inl refl) k1.same e)
acts_beside {t} {i} {y} {j} {A} {B} {J} {p = p} {q} k1 kj ft ij ne nw lab late ej (Rejected-ask k c1) e = let nj : j ≡ y → ⊥ = λ u. ne (sym u) in rw (test_none y k A.held.level A.held.name, append-nil) (tunes (testing_now (Some k) (rejecting j A.held)).status (testing_now (Some k) (rejecting j A.held)).mark (testing_now (Some k) (rejecting j A.held)).find_count (testing_now (Some k) (rejecting j A.held)).best (testing_now (Some k) (rejecting j A.held)).best_weight (testing_now (Some k) (rejecting j A.held)).testing J k1.mine (inr (refl, refl, refl)) (inl (ruled_else A.held y j ne)) k1.same e)
acts_beside {t} {i} {y} {j} {A} {B} {J} {p = p} {q} k1 kj ft ij ne nw lab late ej (Rejected-report c1 c2 c3) e = let nj : j ≡ y → ⊥ = λ u. ne (sym u) in reporting (finding (testing_now None (rejecting j A.held))).mark (finding (testing_now None (rejecting j A.held))).find_count (finding (testing_now None (rejecting j A.held))).best (finding (testing_now None (rejecting j A.held))).best_weight (finding (testing_now None (rejecting j A.held))).testing J k1.mine k1.theirs (inl (ruled_else A.held y j ne)) k1.same ft.0 (k1.quiet c2 ft.0) (not_lighter A.held.best_weight) e
acts_beside {t} {i} {y} {j} {A} {B} {J} {p = p} {q} k1 kj ft ij ne nw lab late ej (Rejected-wait c1 c2) e = let nj : j ≡ y → ⊥ = λ u. ne (sym u) in rw append-nil (tunes (testing_now None (rejecting j A.held)).status (testing_now None (rejecting j A.held)).mark (testing_now None (rejecting j A.held)).find_count (testing_now None (rejecting j A.held)).best (testing_now None (rejecting j A.held)).best_weight (testing_now None (rejecting j A.held)).testing J k1.mine (inr (refl, refl, refl)) (inl (ruled_else A.held y j ne)) k1.same e)
acts_beside {t} {i} {y} {j} {A} {B} {J} {p = p} {q} k1 kj ft ij ne nw lab late ej (Hears-report {w} c1 c2 c3) e = let nj : j ≡ y → ⊥ = λ u. ne (sym u) in let st = head_hears c1 ej in reporting (finding (bettering j w (hearing A.held))).mark (finding (bettering j w (hearing A.held))).find_count (finding (bettering j w (hearing A.held))).best (finding (bettering j w (hearing A.held))).best_weight (finding (bettering j w (hearing A.held))).testing J k1.mine k1.theirs (inl refl) k1.same (st) (late w refl c1 c2) (no_heavier w A.held.best_weight) e
acts_beside {t} {i} {y} {j} {A} {B} {J} {p = p} {q} k1 kj ft ij ne nw lab late ej (Hears-wait {w} c1 c2) e = let nj : j ≡ y → ⊥ = λ u. ne (sym u) in let st = head_hears c1 ej in rw append-nil (tunes (bettering j w (hearing A.held)).status (bettering j w (hearing A.held)).mark (bettering j w (hearing A.held)).find_count (bettering j w (hearing A.held)).best (bettering j w (hearing A.held)).best_weight (bettering j w (hearing A.held)).testing J k1.mine (inl (st, st)) (inl refl) k1.same e)
acts_beside {t} {i} {y} {j} {A} {B} {J} {p = p} {q} k1 kj ft ij ne nw lab late ej (Decides-passes {w} k c1 c2 c3 c4 c5) e = let nj : j ≡ y → ⊥ = λ u. ne (sym u) in let d = head_turn kj.mine c1 c2 c3 ej in elim (eqb_tells k y) [ inl u ↦ rw (u.1, to_self y Change) (pass_decide j J k1.mine k1.theirs k1.same (k1.best d.still d.current (c4 ∙ ap Some u.1)) d.up c1 d.still d.current (c4 ∙ ap Some u.1) c2 (λ z. grind arith) (subst (λ z. A.held.mark z ≡ Branch) u.1 c5) d.in_search e) | inr u ↦ rw (to_other y k Change u.1, append-nil) (beside_decide k j A.held.mark J refl k1.same d.up ne (λ z. u.1 (sym z)) e) ]
acts_beside {t} {i} {y} {j} {A} {B} {J} {p = p} {q} k1 kj ft ij ne nw lab late ej (Decides-joins {w} k c1 c2 c3 c4 c5) e = let nj : j ≡ y → ⊥ = λ u. ne (sym u) in let d = head_turn kj.mine c1 c2 c3 ej in elim (eqb_tells k y) [ inl u ↦ rw (u.1, to_self y (Connect A.held.level)) (let b = k1.best d.still d.current (c4 ∙ ap Some u.1) in join_decide J b d.current (unlaid b.mark (subst (λ z. A.held.mark z ≡ Branch → ⊥) u.1 c5)) e) | inr u ↦ rw (to_other y k (Connect A.held.level) u.1, append-nil) (beside_decide k j (marking k Branch A.held).mark J (laid_else A.held k y (λ z. u.1 (sym z))) k1.same d.up ne (λ z. u.1 (sym z)) e) ]
acts_beside {t} {i} {y} {j} {A} {B} {J} {p = p} {q} k1 kj ft ij ne nw lab late ej (Halts {w} c1 c2 c3 c4) e = let nj : j ≡ y → ⊥ = λ u. ne (sym u) in let d = head_end kj.mine c1 c2 c3 c4 ej in rw append-nil (tunes0 A.held.mark A.held.find_count A.held.testing true refl (else_end lab k1.mine k1.theirs nw d.least d.name e))
acts_beside {t} {i} {y} {j} {A} {B} {J} {p = p} {q} k1 kj ft ij ne nw lab late ej (Rests {w} c1 c2 c3 c4) e = let nj : j ≡ y → ⊥ = λ u. ne (sym u) in rw append-nil (resting J k1.same e)
acts_beside {t} {i} {y} {j} {A} {B} {J} {p = p} {q} k1 kj ft ij ne nw lab late ej (Changed-passes k c1 c2) e = let nj : j ≡ y → ⊥ = λ u. ne (sym u) in let d = head_change kj.same ej in elim (eqb_tells k y) [ inl u ↦ rw (u.1, to_self y Change) (pass_change j J k1.mine k1.theirs k1.same (k1.best d.still d.current (c1 ∙ ap Some u.1)) d.up d.parent d.still d.current (c1 ∙ ap Some u.1) (calm_end k1.mine.find_undecided d.least) d.finite (subst (λ z. A.held.mark z ≡ Branch) u.1 c2) d.in_search d.least e) | inr u ↦ rw (to_other y k Change u.1, append-nil) (beside_change k j A.held.mark J refl k1.same d.up ne (λ z. u.1 (sym z)) e) ]
acts_beside {t} {i} {y} {j} {A} {B} {J} {p = p} {q} k1 kj ft ij ne nw lab late ej (Changed-joins k c1 c2) e = let nj : j ≡ y → ⊥ = λ u. ne (sym u) in let d = head_change kj.same ej in elim (eqb_tells k y) [ inl u ↦ rw (u.1, to_self y (Connect A.held.level)) (let b = k1.best d.still d.current (c1 ∙ ap Some u.1) in join_change J b d.current (unlaid b.mark (subst (λ z. A.held.mark z ≡ Branch → ⊥) u.1 c2)) d.least e) | inr u ↦ rw (to_other y k (Connect A.held.level) u.1, append-nil) (beside_change k j (marking k Branch A.held).mark J (laid_else A.held k y (λ z. u.1 (sym z))) k1.same d.up ne (λ z. u.1 (sym z)) e) ]

-- who wakes knows of nothing yet, and is alone in its fragment
pub record Fresh (y : ℕ) (A B : View) : Type 0 where
  pub level : A.held.level ≡ 0
  pub fragment : A.fragment.level ≡ 0
  pub mark : A.held.mark y ≡ Basic
  pub differ : A.own.label ≡ B.own.label → ⊥

pub acts_wake : {t : Graph} {i y : ℕ} {A B : View} {g : Held} {os : List Send} {p q : List Message} (J : View) → Fresh y A B → (d : Deed t i A.held woke g os) → Mode i y (t.weight i y) A B p q → Mode i y (t.weight i y) (acted (turn d) g A J) (follow (turn d) A J B) (p ++ control (out_to y os)) q
acts_wake {t} {i} {y} {A} {B} J f (Alone c1) e = rw append-nil (wake_else i i None None (woken_held true A.held.mark A.held) J refl refl f.level f.mark f.differ e)
acts_wake {t} {i} {y} {A} {B} J f (WokeTo k c1) e = elim (eqb_tells k y) [ inl u ↦ rw (u.1, to_self y (Connect 0)) (wake_to true (woken_held A.held.halted (put y Branch A.held.mark) A.held) J (laid_here A.held y) refl f.fragment f.level f.mark f.differ e) | inr u ↦ rw (to_other y k (Connect 0) u.1, append-nil) (wake_else i k (Some k) (Some (t.weight i k)) (woken_held A.held.halted (put k Branch A.held.mark) A.held) J (laid_else A.held k y (λ z. u.1 (sym z))) refl f.level f.mark f.differ e) ]
