-- Every step keeps the questions.
use Rattle.std.proofs.Common.{◌≡◌, ℕ, ◌+◌, ◌≤◌, true, T, eqb, ◌⊎◌, List, [], ◌∷◌, ◌++◌, Some, None, Option, sym, refl, ap, ◌∙◌, subst, inl, inr, append-nil, arith}
use Rattle.std.proofs.lemmas.Bool.Decides.{eqb_tells}
use Rattle.message.specs.declared.messages.Message.{Message}
use Rattle.message.specs.declared.messages.Message.TheVariants.{Connect, Initiate, Test, Accept, Reject, Report, Change}
use Rattle.message.specs.declared.messages.Phase.{Phase}
use Rattle.node.specs.declared.state.Status.{Status}
use Rattle.node.specs.declared.state.Status.TheVariants.{Sleeping, Find}
use Rattle.graph.specs.declared.mark.Mark.{Mark}
use Rattle.graph.specs.declared.mark.Mark.TheVariants.{Basic, Branch, Rejected}
use Rattle.node.specs.Rules.{is_basic, phase_of}
use Rattle.graph.specs.Graph.{Graph}
use Rattle.protocol.proofs.Control.{control1}
use Rattle.protocol.proofs.Deed.{woke, got, one, Deed, Alone, WokeTo, Absorbs, Merges, Begins, Searches-ask, Searches-report, Searches-wait, Accepts, Rejects, Crosses-ask, Crosses-report, Crosses-wait, Accepted-report, Accepted-wait, Rejected-ask, Rejected-report, Rejected-wait, Hears-report, Hears-wait, Decides-passes, Decides-joins, Halts, Rests, Changed-passes, Changed-joins}
use Rattle.protocol.proofs.Deeds.{to_self, to_other, Knows, Suits, Fresh}
use Rattle.protocol.proofs.Else.{Labels}
use Rattle.protocol.proofs.Ghost.{View, turn, follow, acted}
use Rattle.protocol.proofs.Heads.{head_absorb, head_merge, head_begin, head_turn, head_change}
use Rattle.protocol.proofs.Held.{Send, Held, rejecting, testing_now, hearing, bettering, onward, send_to}
use Rattle.protocol.proofs.Mode.{Mode}
use Rattle.protocol.proofs.Outs.{out_to, out_to-++, out_to_onward}
use Rattle.protocol.proofs.Talk.{still, asks1, replies1, asks, replies, asks-++, replies-++, Ask, asking, yes', no', Talk, both, crossed, left, Peers, keep, asks_seeks, over_accepts, over_rejects, over_crosses, over_yes, over_no, newly, lays, rises', is_offered, over_absorb, is_merging, over_merge, apart_absorb, apart_merge}
use Rattle.message.specs.declared.messages.Phase.TheVariants as phase

-- what is sent
tst_one : (y k : ℕ) (m : Message) → asks1 m ≡ [] → asks (out_to y (one k m)) ≡ []
tst_one y k m e = grind arith

ans_one : (y k : ℕ) (m : Message) → replies1 m ≡ [] → replies (out_to y (one k m)) ≡ []
ans_one y k m e = grind arith

tst_else : (y k : ℕ) (m : Message) → (k ≡ y → ⊥) → asks (out_to y (one k m)) ≡ []
tst_else y k m d = ap asks (to_other y k m d)

ans_else : (y k : ℕ) (m : Message) → (k ≡ y → ⊥) → replies (out_to y (one k m)) ≡ []
ans_else y k m d = ap replies (to_other y k m d)

tst_report : (y : ℕ) (w : Option ℕ) (r : Option ℕ) → asks (out_to y (send_to w (Report r))) ≡ []
tst_report y None r = refl
tst_report y (Some k) r = tst_one y k (Report r) refl

ans_report : (y : ℕ) (w : Option ℕ) (r : Option ℕ) → replies (out_to y (send_to w (Report r))) ≡ []
ans_report y None r = refl
ans_report y (Some k) r = ans_one y k (Report r) refl

tst_onward : (h : Held) (j l f : ℕ) (s : Phase) (n y : ℕ) (os : List Send) → asks (out_to y (onward h j (Initiate l f s) n ++ os)) ≡ asks (out_to y os)
tst_onward h j l f s n y os = rw (out_to-++, asks-++, out_to_onward) (grind arith)

ans_onward : (h : Held) (j l f : ℕ) (s : Phase) (n y : ℕ) (os : List Send) → replies (out_to y (onward h j (Initiate l f s) n ++ os)) ≡ replies (out_to y os)
ans_onward h j l f s n y os = rw (out_to-++, replies-++, out_to_onward) (grind arith)

silent : {x y : ℕ} {A B : View} {T T1 S U R R1 : List Message} → T1 ≡ [] → R1 ≡ [] → Talk x y A B T S U R → Talk x y A B (T ++ T1) S U (R ++ R1)
silent {T = T} {R = R} e f t = let a = append-nil T in let b = append-nil R in rw (e, f, a, b) t

says : {x y : ℕ} {A B : View} {T T1 S U R1 : List Message} (R : List Message) (m : Message) → T1 ≡ [] → R1 ≡ m ∷ [] → Talk x y A B T S U (R ++ (m ∷ [])) → Talk x y A B (T ++ T1) S U (R ++ R1)
says {T = T} R m e f t = let a = append-nil T in rw (e, f, a) t

puts : {x y : ℕ} {A B : View} {T1 S U R R1 : List Message} (T : List Message) (m : Message) → T1 ≡ m ∷ [] → R1 ≡ [] → Talk x y A B (T ++ (m ∷ [])) S U R → Talk x y A B (T ++ T1) S U (R ++ R1)
puts {R = R} T m e f t = let a = append-nil R in rw (e, f, a) t

not_asking : {h : (Option ℕ)} {s : Status} {y : ℕ} → (h ≡ None) ⊎ (s ≡ Find) → (s ≡ Find → ⊥) → h ≡ Some y → ⊥
not_asking a b c = b (asks_seeks a c)

picked : (h : Held) (y k : ℕ) → is_basic ((rejecting y h).mark k) ≡ true → k ≡ y → ⊥
picked h y k e d = grind arith

open_else : (h : Held) (j k : ℕ) → is_basic ((rejecting j h).mark k) ≡ true → h.mark k ≡ Basic
open_else h j k e = grind arith

open_is : (m : Mark) → is_basic m ≡ true → m ≡ Basic
open_is Basic e = refl
open_is Branch e = absurd (grind arith)
open_is Rejected e = absurd (grind arith)

-- over the edge that the message came by
pub talk_over : {t : Graph} {i y : ℕ} {A B : View} {m : Message} {g : Held} {os : List Send} {p q T S U R : List Message} → Knows t i y A B p q → Peers i y A B → Suits m A B → (d : Deed t i A.held (got y m) g os) → Mode i y (t.weight i y) A B p (control1 m ++ q) →
    Talk i y A B T (replies1 m ++ S) (asks1 m ++ U) R → Talk i y (acted (turn d) g A B) (follow (turn d) A B B) (T ++ asks (out_to y os)) S U (R ++ replies (out_to y os))
talk_over {t} {i} {y} {A} {B} {p = p} {q} {T} {S} {U} {R} k0 k1 ft (Absorbs {l} c1) e tk = let o = is_offered c1 e in silent (tst_one y y (Initiate A.held.level A.held.name (phase_of A.held.status)) refl) (ans_one y y (Initiate A.held.level A.held.name (phase_of A.held.status)) refl) (over_absorb k1 (head_absorb c1 e).low (grind arith) refl refl refl refl refl refl o tk)
talk_over {t} {i} {y} {A} {B} {p = p} {q} {T} {S} {U} {R} k0 k1 ft (Merges {l} c1 c2) e tk = let o = is_merging c1 c2 e in silent (tst_one y y (Initiate (A.held.level + 1) (t.weight i y) phase.Find) refl) (ans_one y y (Initiate (A.held.level + 1) (t.weight i y) phase.Find) refl) (over_merge k1 o.0 o.1 o.2 o.3 refl refl tk)
talk_over {t} {i} {y} {A} {B} {p = p} {q} {T} {S} {U} {R} k0 k1 ft (Begins {l} {f} {s} c1) e tk = let b = head_begin {l = l} {f = f} {s = s} k1.theirs k1.same e in let st : A.held.level ≡ A.fragment.level → ⊥ = λ u. let r = b.rises in let o = b.top in grind arith in let lv : A.held.level ≤ l = let r = b.rises in grind arith in silent (tst_onward A.held y l f s t.count y [] ∙ refl) (ans_onward A.held y l f s t.count y [] ∙ refl) (rises' k1 st e refl lv refl (not_asking k1.asks_a (λ u. st (k1.mine.find_current u))) (grind arith) tk)
talk_over {t} {i} {y} {A} {B} {p = p} {q} {T} {S} {U} {R} k0 k1 ft (Searches-ask {l} {f} k c1) e tk = let b = head_begin {l = l} {f = f} {s = phase.Find} k1.theirs k1.same e in let st : A.held.level ≡ A.fragment.level → ⊥ = λ u. let r = b.rises in let o = b.top in grind arith in let lv : A.held.level ≤ l = let r = b.rises in grind arith in let ne : k ≡ y → ⊥ = λ u. let z = open_is (A.held.mark k) c1.picked in let o = b.branch in grind arith in silent (tst_onward A.held y l f phase.Find t.count y (one k (Test l f)) ∙ tst_else y k (Test l f) ne) (ans_onward A.held y l f phase.Find t.count y (one k (Test l f)) ∙ ans_else y k (Test l f) ne) (rises' k1 st e refl lv refl (λ u. ne (grind arith)) (grind arith) tk)
talk_over {t} {i} {y} {A} {B} {p = p} {q} {T} {S} {U} {R} k0 k1 ft (Searches-report {l} {f} c1 c2 c3) e tk = let b = head_begin {l = l} {f = f} {s = phase.Find} k1.theirs k1.same e in let st : A.held.level ≡ A.fragment.level → ⊥ = λ u. let r = b.rises in let o = b.top in grind arith in let lv : A.held.level ≤ l = let r = b.rises in grind arith in silent (tst_onward A.held y l f phase.Find t.count y (one y (Report None)) ∙ tst_one y y (Report None) refl) (ans_onward A.held y l f phase.Find t.count y (one y (Report None)) ∙ ans_one y y (Report None) refl) (rises' k1 st e refl lv refl (λ u. grind arith) (grind arith) tk)
talk_over {t} {i} {y} {A} {B} {p = p} {q} {T} {S} {U} {R} k0 k1 ft (Searches-wait {l} {f} c1 c2) e tk = let b = head_begin {l = l} {f = f} {s = phase.Find} k1.theirs k1.same e in let st : A.held.level ≡ A.fragment.level → ⊥ = λ u. let r = b.rises in let o = b.top in grind arith in let lv : A.held.level ≤ l = let r = b.rises in grind arith in silent (tst_onward A.held y l f phase.Find t.count y [] ∙ refl) (ans_onward A.held y l f phase.Find t.count y [] ∙ refl) (rises' k1 st e refl lv refl (λ u. grind arith) (grind arith) tk)
talk_over {t} {i} {y} {A} {B} {p = p} {q} {T} {S} {U} {R} k0 k1 ft (Accepts {l} {f} c1 c2) e tk = says R Accept (tst_one y y Accept refl) (ap replies (to_self y Accept)) (over_accepts k1 (grind arith) (grind arith) c1 c2 e tk)
talk_over {t} {i} {y} {A} {B} {p = p} {q} {T} {S} {U} {R} k0 k1 ft (Rejects {l} {f} c1 c2 c3) e tk = says R Reject (tst_one y y Reject refl) (ap replies (to_self y Reject)) (over_rejects k1 (grind arith) (grind arith) ft c2 c3 e tk)
talk_over {t} {i} {y} {A} {B} {p = p} {q} {T} {S} {U} {R} k0 k1 ft (Crosses-ask {l} {f} k c1 c2 c3 c4) e tk = let pk = picked A.held y k c4.picked in silent (tst_else y k (Test A.held.level A.held.name) pk) (ans_else y k (Test A.held.level A.held.name) pk) (over_crosses k1 (grind arith) (grind arith) ft c1 c2 c3 e tk)
talk_over {t} {i} {y} {A} {B} {p = p} {q} {T} {S} {U} {R} k0 k1 ft (Crosses-report {l} {f} c1 c2 c3 c4 c5 c6) e tk = silent (tst_report y A.held.parent A.held.best_weight) (ans_report y A.held.parent A.held.best_weight) (over_crosses k1 (grind arith) (grind arith) ft c1 c2 c3 e tk)
talk_over {t} {i} {y} {A} {B} {p = p} {q} {T} {S} {U} {R} k0 k1 ft (Crosses-wait {l} {f} c1 c2 c3 c4 c5) e tk = silent refl refl (over_crosses k1 (grind arith) (grind arith) ft c1 c2 c3 e tk)
talk_over {t} {i} {y} {A} {B} {p = p} {q} {T} {S} {U} {R} k0 k1 ft (Accepted-report c1 c2) e tk = silent (tst_report y A.held.parent (bettering y (Some (t.weight i y)) (testing_now None A.held)).best_weight) (ans_report y A.held.parent (bettering y (Some (t.weight i y)) (testing_now None A.held)).best_weight) (over_yes (λ u. grind arith) refl refl refl (grind arith) e tk)
talk_over {t} {i} {y} {A} {B} {p = p} {q} {T} {S} {U} {R} k0 k1 ft (Accepted-wait c1) e tk = silent refl refl (over_yes (λ u. grind arith) refl refl refl (grind arith) e tk)
talk_over {t} {i} {y} {A} {B} {p = p} {q} {T} {S} {U} {R} k0 k1 ft (Rejected-ask k c1) e tk = let pk = picked A.held y k c1.picked in silent (tst_else y k (Test A.held.level A.held.name) pk) (ans_else y k (Test A.held.level A.held.name) pk) (over_no (grind arith) (grind arith) tk)
talk_over {t} {i} {y} {A} {B} {p = p} {q} {T} {S} {U} {R} k0 k1 ft (Rejected-report c1 c2 c3) e tk = silent (tst_report y A.held.parent A.held.best_weight) (ans_report y A.held.parent A.held.best_weight) (over_no (grind arith) (grind arith) tk)
talk_over {t} {i} {y} {A} {B} {p = p} {q} {T} {S} {U} {R} k0 k1 ft (Rejected-wait c1 c2) e tk = silent refl refl (over_no (grind arith) (grind arith) tk)
talk_over {t} {i} {y} {A} {B} {p = p} {q} {T} {S} {U} {R} k0 k1 ft (Hears-report {w} c1 c2 c3) e tk = silent (tst_report y A.held.parent (bettering y w (hearing A.held)).best_weight) (ans_report y A.held.parent (bettering y w (hearing A.held)).best_weight) (keep (record { a = grind arith; b = grind arith; same = λ u. grind arith; differ_a = λ u1 u2 u3 u4. grind arith; differ_b = λ u1 u2 u3 u4. grind arith }) tk)
talk_over {t} {i} {y} {A} {B} {p = p} {q} {T} {S} {U} {R} k0 k1 ft (Hears-wait {w} c1 c2) e tk = silent refl refl (keep (record { a = grind arith; b = grind arith; same = λ u. grind arith; differ_a = λ u1 u2 u3 u4. grind arith; differ_b = λ u1 u2 u3 u4. grind arith }) tk)
talk_over {t} {i} {y} {A} {B} {p = p} {q} {T} {S} {U} {R} k0 k1 ft (Decides-passes {w} k c1 c2 c3 c4 c5) e tk = let nt : A.held.testing ≡ Some y → ⊥ = not_asking k1.asks_a c2 in let inw : A.held.parent ≡ Some y = c1 in silent (tst_one y k (Change) refl) (ans_one y k (Change) refl) (keep (record { a = record { mark = refl; level = grind arith; mine = inl (nt, nt); left = inr (refl, refl) }; b = grind arith; same = λ u. grind arith; differ_a = λ u1 u2 u3 u4. grind arith; differ_b = λ u1 u2 u3 u4. grind arith }) tk)
talk_over {t} {i} {y} {A} {B} {p = p} {q} {T} {S} {U} {R} k0 k1 ft (Decides-joins {w} k c1 c2 c3 c4 c5) e tk = let nt : A.held.testing ≡ Some y → ⊥ = not_asking k1.asks_a c2 in let inw : A.held.parent ≡ Some y = c1 in let ld = k1.mine.parent_branch inw in let ky : y ≡ k → ⊥ = λ u. c5 (subst (λ z. A.held.mark z ≡ Branch) u ld) in silent (tst_one y k (Connect A.held.level) refl) (ans_one y k (Connect A.held.level) refl) (keep (record { a = record { mark = grind arith; level = grind arith; mine = inl (nt, nt); left = inr (refl, refl) }; b = grind arith; same = λ u. grind arith; differ_a = λ u1 u2 u3 u4. grind arith; differ_b = λ u1 u2 u3 u4. grind arith }) tk)
talk_over {t} {i} {y} {A} {B} {p = p} {q} {T} {S} {U} {R} k0 k1 ft (Halts {w} c1 c2 c3 c4) e tk = silent refl refl (keep (record { a = grind arith; b = grind arith; same = λ u. grind arith; differ_a = λ u1 u2 u3 u4. grind arith; differ_b = λ u1 u2 u3 u4. grind arith }) tk)
talk_over {t} {i} {y} {A} {B} {p = p} {q} {T} {S} {U} {R} k0 k1 ft (Rests {w} c1 c2 c3 c4) e tk = silent refl refl (keep (record { a = grind arith; b = grind arith; same = λ u. grind arith; differ_a = λ u1 u2 u3 u4. grind arith; differ_b = λ u1 u2 u3 u4. grind arith }) tk)
talk_over {t} {i} {y} {A} {B} {p = p} {q} {T} {S} {U} {R} k0 k1 ft (Changed-passes k c1 c2) e tk = let h = head_change k1.same e in let nt : A.held.testing ≡ Some y → ⊥ = not_asking k1.asks_a (λ u. let a = k1.mine.find_undecided u in let b = h.least in grind arith) in let inw : A.held.parent ≡ Some y = h.parent in silent (tst_one y k (Change) refl) (ans_one y k (Change) refl) (keep (record { a = record { mark = refl; level = grind arith; mine = inl (nt, nt); left = inr (refl, refl) }; b = grind arith; same = λ u. grind arith; differ_a = λ u1 u2 u3 u4. grind arith; differ_b = λ u1 u2 u3 u4. grind arith }) tk)
talk_over {t} {i} {y} {A} {B} {p = p} {q} {T} {S} {U} {R} k0 k1 ft (Changed-joins k c1 c2) e tk = let h = head_change k1.same e in let nt : A.held.testing ≡ Some y → ⊥ = not_asking k1.asks_a (λ u. let a = k1.mine.find_undecided u in let b = h.least in grind arith) in let inw : A.held.parent ≡ Some y = h.parent in let ld = k1.mine.parent_branch inw in let ky : y ≡ k → ⊥ = λ u. c2 (subst (λ z. A.held.mark z ≡ Branch) u ld) in silent (tst_one y k (Connect A.held.level) refl) (ans_one y k (Connect A.held.level) refl) (keep (record { a = record { mark = grind arith; level = grind arith; mine = inl (nt, nt); left = inr (refl, refl) }; b = grind arith; same = λ u. grind arith; differ_a = λ u1 u2 u3 u4. grind arith; differ_b = λ u1 u2 u3 u4. grind arith }) tk)

abbrev pub Asked : ℕ → Message → Held → Type 0
Asked j (Connect l) h = Unit {0}
Asked j (Initiate l f s) h = Unit {0}
Asked j (Test l f) h = Unit {0}
Asked j Accept h = h.testing ≡ Some j
Asked j Reject h = h.testing ≡ Some j
Asked j (Report r) h = Unit {0}
Asked j Change h = Unit {0}

-- only who asks is answered
ask_answer : {x y : ℕ} {A B : View} {T S : List Message} (m : Message) → Ask x y A B T (m ∷ S) → A.held.testing ≡ Some y
ask_answer m (still v) = absurd (let o = v.back in grind arith)
ask_answer m (asking v) = v.testing
ask_answer m (yes' v) = v.testing
ask_answer m (no' v) = v.testing

talk_answer : {x y : ℕ} {A B : View} {T S U R : List Message} (m : Message) → Talk x y A B T (m ∷ S) U R → A.held.testing ≡ Some y
talk_answer m (both a b) = ask_answer m a
talk_answer m (crossed v) = v.testing
talk_answer m (left v) = absurd (let o = v.said in grind arith)

pub talk_asked : {x y : ℕ} {A B : View} {T U R : List Message} (S : List Message) (m : Message) → Talk x y A B T (replies1 m ++ S) U R → Asked y m A.held
talk_asked S (Connect l) w = tt
talk_asked S (Initiate l f s) w = tt
talk_asked S (Test l f) w = tt
talk_asked S Accept w = talk_answer Accept w
talk_asked S Reject w = talk_answer Reject w
talk_asked S (Report r) w = tt
talk_asked S Change w = tt

tst_here : (y k l f : ℕ) → k ≡ y → asks (out_to y (one k (Test l f))) ≡ Test l f ∷ []
tst_here y k l f e = grind arith

-- over the other edges of node i
pub talk_beside : {t : Graph} {i y j : ℕ} {A B J : View} {m : Message} {g : Held} {os : List Send} {p q pj qj T S U R : List Message} → Knows t i y A B p q → Peers i y A B → Knows t i j A J pj qj → Asked j m A.held → (y ≡ j → ⊥) → Labels A B A J → Mode i j (t.weight i j) A J pj (control1 m ++ qj) → (d : Deed t i A.held (got j m) g os) → Mode i y (t.weight i y) A B p q →
    Talk i y A B T S U R → Talk i y (acted (turn d) g A J) (follow (turn d) A J B) (T ++ asks (out_to y os)) S U (R ++ replies (out_to y os))
talk_beside {t} {i} {y} {j} {A} {B} {J} {p = p} {q} {pj} {qj} {T} {S} {U} {R} k0 k1 kj aj ne lab ej (Absorbs {l} c1) e tk = let nj : j ≡ y → ⊥ = λ u. ne (sym u) in let a = head_absorb c1 ej in silent (tst_one y j (Initiate A.held.level A.held.name (phase_of A.held.status)) refl) (ans_one y j (Initiate A.held.level A.held.name (phase_of A.held.status)) refl) (keep (record { a = grind arith; b = grind arith; same = λ u. grind arith; differ_a = λ u1 u2 u3 u4. apart_absorb A B A J (k1.mine.find_current (asks_seeks k1.asks_a u1)) (k1.mine.find_undecided (asks_seeks k1.asks_a u1)) k1.theirs.low (λ z. refl) lab.aj lab.bj k1.mine.low a.low a.current a.least u2 u3 u4; differ_b = λ u1 u2 u3 u4. apart_absorb B A A J (k1.theirs.find_current (asks_seeks k1.asks_b u1)) (k1.theirs.find_undecided (asks_seeks k1.asks_b u1)) k1.mine.low lab.bc lab.bj lab.aj k1.mine.low a.low a.current a.least u2 (λ z. u3 (sym z)) (sym u4) }) tk)
talk_beside {t} {i} {y} {j} {A} {B} {J} {p = p} {q} {pj} {qj} {T} {S} {U} {R} k0 k1 kj aj ne lab ej (Merges {l} c1 c2) e tk = let nj : j ≡ y → ⊥ = λ u. ne (sym u) in silent (tst_one y j (Initiate (A.held.level + 1) (t.weight i j) phase.Find) refl) (ans_one y j (Initiate (A.held.level + 1) (t.weight i j) phase.Find) refl) (elim (head_merge c1 c2 ej) [ inl a ↦ keep (record { a = grind arith; b = grind arith; same = λ u. grind arith; differ_a = λ u1 u2 u3 u4. (let z = k1.mine.find_undecided (asks_seeks k1.asks_a u1) in let o = a.least_a in grind arith); differ_b = λ u1 u2 u3 u4. apart_merge (t.weight i j) B A A J (k1.theirs.find_undecided (asks_seeks k1.asks_b u1)) lab.bc lab.bj a.least_a a.least (λ z. u3 (sym z)) (sym u4) }) tk | inr o ↦ let oe : eqb A.own.label J.own.label ≡ true = grind arith in keep (record { a = grind arith; b = grind arith; same = λ u. grind arith; differ_a = λ u1 u2 u3 u4. grind arith; differ_b = λ u1 u2 u3 u4. grind arith }) tk ])
talk_beside {t} {i} {y} {j} {A} {B} {J} {p = p} {q} {pj} {qj} {T} {S} {U} {R} k0 k1 kj aj ne lab ej (Begins {l} {f} {s} c1) e tk = let nj : j ≡ y → ⊥ = λ u. ne (sym u) in let b = head_begin {l = l} {f = f} {s = s} kj.theirs kj.same ej in let st : A.held.level ≡ A.fragment.level → ⊥ = λ u. let r = b.rises in let o = b.top in grind arith in let lv : A.held.level ≤ l = let r = b.rises in grind arith in let nt : A.held.testing ≡ Some y → ⊥ = not_asking k1.asks_a (λ u. st (k1.mine.find_current u)) in silent (tst_onward A.held j l f s t.count y [] ∙ refl) (ans_onward A.held j l f s t.count y [] ∙ refl) (rises' k1 st e refl lv refl nt (grind arith) tk)
talk_beside {t} {i} {y} {j} {A} {B} {J} {p = p} {q} {pj} {qj} {T} {S} {U} {R} k0 k1 kj aj ne lab ej (Searches-ask {l} {f} k c1) e tk = let nj : j ≡ y → ⊥ = λ u. ne (sym u) in let b = head_begin {l = l} {f = f} {s = phase.Find} kj.theirs kj.same ej in let st : A.held.level ≡ A.fragment.level → ⊥ = λ u. let r = b.rises in let o = b.top in grind arith in let lv : A.held.level ≤ l = let r = b.rises in grind arith in let nt : A.held.testing ≡ Some y → ⊥ = not_asking k1.asks_a (λ u. st (k1.mine.find_current u)) in elim (eqb_tells k y) [ inl u ↦ let mk : A.held.mark y ≡ Basic = subst (λ z. A.held.mark z ≡ Basic) u.1 (open_is (A.held.mark k) c1.picked) in puts T (Test l f) (tst_onward A.held j l f phase.Find t.count y (one k (Test l f)) ∙ tst_here y k l f u.1) (ans_onward A.held j l f phase.Find t.count y (one k (Test l f)) ∙ ans_one y k (Test l f) refl) (newly nt mk refl lv refl (ap Some u.1) (λ z. ne (grind arith)) (grind arith) tk) | inr u ↦ silent (tst_onward A.held j l f phase.Find t.count y (one k (Test l f)) ∙ tst_else y k (Test l f) u.1) (ans_onward A.held j l f phase.Find t.count y (one k (Test l f)) ∙ ans_one y k (Test l f) refl) (rises' k1 st e refl lv refl (λ z. u.1 (grind arith)) (grind arith) tk) ]
talk_beside {t} {i} {y} {j} {A} {B} {J} {p = p} {q} {pj} {qj} {T} {S} {U} {R} k0 k1 kj aj ne lab ej (Searches-report {l} {f} c1 c2 c3) e tk = let nj : j ≡ y → ⊥ = λ u. ne (sym u) in let b = head_begin {l = l} {f = f} {s = phase.Find} kj.theirs kj.same ej in let st : A.held.level ≡ A.fragment.level → ⊥ = λ u. let r = b.rises in let o = b.top in grind arith in let lv : A.held.level ≤ l = let r = b.rises in grind arith in let nt : A.held.testing ≡ Some y → ⊥ = not_asking k1.asks_a (λ u. st (k1.mine.find_current u)) in silent (tst_onward A.held j l f phase.Find t.count y (one j (Report None)) ∙ tst_one y j (Report None) refl) (ans_onward A.held j l f phase.Find t.count y (one j (Report None)) ∙ ans_one y j (Report None) refl) (rises' k1 st e refl lv refl (λ u. grind arith) (grind arith) tk)
talk_beside {t} {i} {y} {j} {A} {B} {J} {p = p} {q} {pj} {qj} {T} {S} {U} {R} k0 k1 kj aj ne lab ej (Searches-wait {l} {f} c1 c2) e tk = let nj : j ≡ y → ⊥ = λ u. ne (sym u) in let b = head_begin {l = l} {f = f} {s = phase.Find} kj.theirs kj.same ej in let st : A.held.level ≡ A.fragment.level → ⊥ = λ u. let r = b.rises in let o = b.top in grind arith in let lv : A.held.level ≤ l = let r = b.rises in grind arith in let nt : A.held.testing ≡ Some y → ⊥ = not_asking k1.asks_a (λ u. st (k1.mine.find_current u)) in silent (tst_onward A.held j l f phase.Find t.count y [] ∙ refl) (ans_onward A.held j l f phase.Find t.count y [] ∙ refl) (rises' k1 st e refl lv refl (λ u. grind arith) (grind arith) tk)
talk_beside {t} {i} {y} {j} {A} {B} {J} {p = p} {q} {pj} {qj} {T} {S} {U} {R} k0 k1 kj aj ne lab ej (Accepts {l} {f} c1 c2) e tk = let nj : j ≡ y → ⊥ = λ u. ne (sym u) in silent (tst_else y j Accept nj) (ans_else y j Accept nj) (keep (record { a = grind arith; b = grind arith; same = λ u. grind arith; differ_a = λ u1 u2 u3 u4. grind arith; differ_b = λ u1 u2 u3 u4. grind arith }) tk)
talk_beside {t} {i} {y} {j} {A} {B} {J} {p = p} {q} {pj} {qj} {T} {S} {U} {R} k0 k1 kj aj ne lab ej (Rejects {l} {f} c1 c2 c3) e tk = let nj : j ≡ y → ⊥ = λ u. ne (sym u) in silent (tst_else y j Reject nj) (ans_else y j Reject nj) (keep (record { a = grind arith; b = grind arith; same = λ u. grind arith; differ_a = λ u1 u2 u3 u4. grind arith; differ_b = λ u1 u2 u3 u4. grind arith }) tk)
talk_beside {t} {i} {y} {j} {A} {B} {J} {p = p} {q} {pj} {qj} {T} {S} {U} {R} k0 k1 kj aj ne lab ej (Crosses-ask {l} {f} k c1 c2 c3 c4) e tk = let nj : j ≡ y → ⊥ = λ u. ne (sym u) in let tj : A.held.testing ≡ Some j = c3 in let nt : A.held.testing ≡ Some y → ⊥ = λ u. nj (grind arith) in elim (eqb_tells k y) [ inl u ↦ let mk : A.held.mark y ≡ Basic = subst (λ z. A.held.mark z ≡ Basic) u.1 (open_else A.held j k c4.picked) in puts T (Test A.held.level A.held.name) (tst_here y k A.held.level A.held.name u.1) (ans_one y k (Test A.held.level A.held.name) refl) (newly nt mk (grind arith) (grind arith) refl (ap Some u.1) (λ z. let o = k1.mine.up_branch z in grind arith) (grind arith) tk) | inr u ↦ silent (tst_else y k (Test A.held.level A.held.name) u.1) (ans_else y k (Test A.held.level A.held.name) u.1) (keep (record { a = record { mark = grind arith; level = grind arith; mine = inl (nt, λ z. u.1 (grind arith)); left = inr (refl, refl) }; b = grind arith; same = λ u. grind arith; differ_a = λ u1 u2 u3 u4. grind arith; differ_b = λ u1 u2 u3 u4. grind arith }) tk) ]
talk_beside {t} {i} {y} {j} {A} {B} {J} {p = p} {q} {pj} {qj} {T} {S} {U} {R} k0 k1 kj aj ne lab ej (Crosses-report {l} {f} c1 c2 c3 c4 c5 c6) e tk = let nj : j ≡ y → ⊥ = λ u. ne (sym u) in let tj : A.held.testing ≡ Some j = c3 in let nt : A.held.testing ≡ Some y → ⊥ = λ u. nj (grind arith) in silent (tst_report y A.held.parent A.held.best_weight) (ans_report y A.held.parent A.held.best_weight) (keep (record { a = record { mark = grind arith; level = grind arith; mine = inl (nt, λ u. grind arith); left = inr (refl, refl) }; b = grind arith; same = λ u. grind arith; differ_a = λ u1 u2 u3 u4. grind arith; differ_b = λ u1 u2 u3 u4. grind arith }) tk)
talk_beside {t} {i} {y} {j} {A} {B} {J} {p = p} {q} {pj} {qj} {T} {S} {U} {R} k0 k1 kj aj ne lab ej (Crosses-wait {l} {f} c1 c2 c3 c4 c5) e tk = let nj : j ≡ y → ⊥ = λ u. ne (sym u) in let tj : A.held.testing ≡ Some j = c3 in let nt : A.held.testing ≡ Some y → ⊥ = λ u. nj (grind arith) in silent refl refl (keep (record { a = record { mark = grind arith; level = grind arith; mine = inl (nt, λ u. grind arith); left = inr (refl, refl) }; b = grind arith; same = λ u. grind arith; differ_a = λ u1 u2 u3 u4. grind arith; differ_b = λ u1 u2 u3 u4. grind arith }) tk)
talk_beside {t} {i} {y} {j} {A} {B} {J} {p = p} {q} {pj} {qj} {T} {S} {U} {R} k0 k1 kj aj ne lab ej (Accepted-report c1 c2) e tk = let nj : j ≡ y → ⊥ = λ u. ne (sym u) in let tj : A.held.testing ≡ Some j = aj in let nt : A.held.testing ≡ Some y → ⊥ = λ u. nj (grind arith) in silent (tst_report y A.held.parent (bettering j (Some (t.weight i j)) (testing_now None A.held)).best_weight) (ans_report y A.held.parent (bettering j (Some (t.weight i j)) (testing_now None A.held)).best_weight) (keep (record { a = record { mark = grind arith; level = grind arith; mine = inl (nt, λ u. grind arith); left = inr (refl, refl) }; b = grind arith; same = λ u. grind arith; differ_a = λ u1 u2 u3 u4. grind arith; differ_b = λ u1 u2 u3 u4. grind arith }) tk)
talk_beside {t} {i} {y} {j} {A} {B} {J} {p = p} {q} {pj} {qj} {T} {S} {U} {R} k0 k1 kj aj ne lab ej (Accepted-wait c1) e tk = let nj : j ≡ y → ⊥ = λ u. ne (sym u) in let tj : A.held.testing ≡ Some j = aj in let nt : A.held.testing ≡ Some y → ⊥ = λ u. nj (grind arith) in silent refl refl (keep (record { a = record { mark = grind arith; level = grind arith; mine = inl (nt, λ u. grind arith); left = inr (refl, refl) }; b = grind arith; same = λ u. grind arith; differ_a = λ u1 u2 u3 u4. grind arith; differ_b = λ u1 u2 u3 u4. grind arith }) tk)
talk_beside {t} {i} {y} {j} {A} {B} {J} {p = p} {q} {pj} {qj} {T} {S} {U} {R} k0 k1 kj aj ne lab ej (Rejected-ask k c1) e tk = let nj : j ≡ y → ⊥ = λ u. ne (sym u) in let tj : A.held.testing ≡ Some j = aj in let nt : A.held.testing ≡ Some y → ⊥ = λ u. nj (grind arith) in elim (eqb_tells k y) [ inl u ↦ let mk : A.held.mark y ≡ Basic = subst (λ z. A.held.mark z ≡ Basic) u.1 (open_else A.held j k c1.picked) in puts T (Test A.held.level A.held.name) (tst_here y k A.held.level A.held.name u.1) (ans_one y k (Test A.held.level A.held.name) refl) (newly nt mk (grind arith) (grind arith) refl (ap Some u.1) (λ z. let o = k1.mine.up_branch z in grind arith) (grind arith) tk) | inr u ↦ silent (tst_else y k (Test A.held.level A.held.name) u.1) (ans_else y k (Test A.held.level A.held.name) u.1) (keep (record { a = record { mark = grind arith; level = grind arith; mine = inl (nt, λ z. u.1 (grind arith)); left = inr (refl, refl) }; b = grind arith; same = λ u. grind arith; differ_a = λ u1 u2 u3 u4. grind arith; differ_b = λ u1 u2 u3 u4. grind arith }) tk) ]
talk_beside {t} {i} {y} {j} {A} {B} {J} {p = p} {q} {pj} {qj} {T} {S} {U} {R} k0 k1 kj aj ne lab ej (Rejected-report c1 c2 c3) e tk = let nj : j ≡ y → ⊥ = λ u. ne (sym u) in let tj : A.held.testing ≡ Some j = aj in let nt : A.held.testing ≡ Some y → ⊥ = λ u. nj (grind arith) in silent (tst_report y A.held.parent A.held.best_weight) (ans_report y A.held.parent A.held.best_weight) (keep (record { a = record { mark = grind arith; level = grind arith; mine = inl (nt, λ u. grind arith); left = inr (refl, refl) }; b = grind arith; same = λ u. grind arith; differ_a = λ u1 u2 u3 u4. grind arith; differ_b = λ u1 u2 u3 u4. grind arith }) tk)
talk_beside {t} {i} {y} {j} {A} {B} {J} {p = p} {q} {pj} {qj} {T} {S} {U} {R} k0 k1 kj aj ne lab ej (Rejected-wait c1 c2) e tk = let nj : j ≡ y → ⊥ = λ u. ne (sym u) in let tj : A.held.testing ≡ Some j = aj in let nt : A.held.testing ≡ Some y → ⊥ = λ u. nj (grind arith) in silent refl refl (keep (record { a = record { mark = grind arith; level = grind arith; mine = inl (nt, λ u. grind arith); left = inr (refl, refl) }; b = grind arith; same = λ u. grind arith; differ_a = λ u1 u2 u3 u4. grind arith; differ_b = λ u1 u2 u3 u4. grind arith }) tk)
talk_beside {t} {i} {y} {j} {A} {B} {J} {p = p} {q} {pj} {qj} {T} {S} {U} {R} k0 k1 kj aj ne lab ej (Hears-report {w} c1 c2 c3) e tk = let nj : j ≡ y → ⊥ = λ u. ne (sym u) in silent (tst_report y A.held.parent (bettering j w (hearing A.held)).best_weight) (ans_report y A.held.parent (bettering j w (hearing A.held)).best_weight) (keep (record { a = grind arith; b = grind arith; same = λ u. grind arith; differ_a = λ u1 u2 u3 u4. grind arith; differ_b = λ u1 u2 u3 u4. grind arith }) tk)
talk_beside {t} {i} {y} {j} {A} {B} {J} {p = p} {q} {pj} {qj} {T} {S} {U} {R} k0 k1 kj aj ne lab ej (Hears-wait {w} c1 c2) e tk = let nj : j ≡ y → ⊥ = λ u. ne (sym u) in silent refl refl (keep (record { a = grind arith; b = grind arith; same = λ u. grind arith; differ_a = λ u1 u2 u3 u4. grind arith; differ_b = λ u1 u2 u3 u4. grind arith }) tk)
talk_beside {t} {i} {y} {j} {A} {B} {J} {p = p} {q} {pj} {qj} {T} {S} {U} {R} k0 k1 kj aj ne lab ej (Decides-passes {w} k c1 c2 c3 c4 c5) e tk = let nj : j ≡ y → ⊥ = λ u. ne (sym u) in let h = head_turn kj.mine c1 c2 c3 ej in let nt : A.held.testing ≡ Some y → ⊥ = not_asking k1.asks_a c2 in silent (tst_one y k (Change) refl) (ans_one y k (Change) refl) (keep (record { a = record { mark = refl; level = grind arith; mine = inl (nt, nt); left = inr (refl, refl) }; b = grind arith; same = λ u. grind arith; differ_a = λ u1 u2 u3 u4. grind arith; differ_b = λ u1 u2 u3 u4. grind arith }) tk)
talk_beside {t} {i} {y} {j} {A} {B} {J} {p = p} {q} {pj} {qj} {T} {S} {U} {R} k0 k1 kj aj ne lab ej (Decides-joins {w} k c1 c2 c3 c4 c5) e tk = let nj : j ≡ y → ⊥ = λ u. ne (sym u) in let h = head_turn kj.mine c1 c2 c3 ej in let nt : A.held.testing ≡ Some y → ⊥ = not_asking k1.asks_a c2 in silent (tst_one y k (Connect A.held.level) refl) (ans_one y k (Connect A.held.level) refl) (elim (eqb_tells k y) [ inl u ↦ let bs = k0.best h.still h.current (c4 ∙ ap Some u.1) in let nl : A.held.mark y ≡ Branch → ⊥ = subst (λ z. A.held.mark z ≡ Branch → ⊥) u.1 c5 in let mk : A.held.mark y ≡ Basic = let z = bs.mark in grind arith in lays nt mk (grind arith) (grind arith) refl nt (grind arith) tk | inr u ↦ keep (record { a = record { mark = grind arith; level = grind arith; mine = inl (nt, nt); left = inr (refl, refl) }; b = grind arith; same = λ u. grind arith; differ_a = λ u1 u2 u3 u4. grind arith; differ_b = λ u1 u2 u3 u4. grind arith }) tk ])
talk_beside {t} {i} {y} {j} {A} {B} {J} {p = p} {q} {pj} {qj} {T} {S} {U} {R} k0 k1 kj aj ne lab ej (Halts {w} c1 c2 c3 c4) e tk = let nj : j ≡ y → ⊥ = λ u. ne (sym u) in silent refl refl (keep (record { a = grind arith; b = grind arith; same = λ u. grind arith; differ_a = λ u1 u2 u3 u4. grind arith; differ_b = λ u1 u2 u3 u4. grind arith }) tk)
talk_beside {t} {i} {y} {j} {A} {B} {J} {p = p} {q} {pj} {qj} {T} {S} {U} {R} k0 k1 kj aj ne lab ej (Rests {w} c1 c2 c3 c4) e tk = let nj : j ≡ y → ⊥ = λ u. ne (sym u) in silent refl refl (keep (record { a = grind arith; b = grind arith; same = λ u. grind arith; differ_a = λ u1 u2 u3 u4. grind arith; differ_b = λ u1 u2 u3 u4. grind arith }) tk)
talk_beside {t} {i} {y} {j} {A} {B} {J} {p = p} {q} {pj} {qj} {T} {S} {U} {R} k0 k1 kj aj ne lab ej (Changed-passes k c1 c2) e tk = let nj : j ≡ y → ⊥ = λ u. ne (sym u) in let h = head_change kj.same ej in let nt : A.held.testing ≡ Some y → ⊥ = not_asking k1.asks_a (λ u. let a = k1.mine.find_undecided u in let b = h.least in grind arith) in silent (tst_one y k (Change) refl) (ans_one y k (Change) refl) (keep (record { a = record { mark = refl; level = grind arith; mine = inl (nt, nt); left = inr (refl, refl) }; b = grind arith; same = λ u. grind arith; differ_a = λ u1 u2 u3 u4. grind arith; differ_b = λ u1 u2 u3 u4. grind arith }) tk)
talk_beside {t} {i} {y} {j} {A} {B} {J} {p = p} {q} {pj} {qj} {T} {S} {U} {R} k0 k1 kj aj ne lab ej (Changed-joins k c1 c2) e tk = let nj : j ≡ y → ⊥ = λ u. ne (sym u) in let h = head_change kj.same ej in let nt : A.held.testing ≡ Some y → ⊥ = not_asking k1.asks_a (λ u. let a = k1.mine.find_undecided u in let b = h.least in grind arith) in silent (tst_one y k (Connect A.held.level) refl) (ans_one y k (Connect A.held.level) refl) (elim (eqb_tells k y) [ inl u ↦ let bs = k0.best h.still h.current (c1 ∙ ap Some u.1) in let nl : A.held.mark y ≡ Branch → ⊥ = subst (λ z. A.held.mark z ≡ Branch → ⊥) u.1 c2 in let mk : A.held.mark y ≡ Basic = let z = bs.mark in grind arith in lays nt mk (grind arith) (grind arith) refl nt (grind arith) tk | inr u ↦ keep (record { a = record { mark = grind arith; level = grind arith; mine = inl (nt, nt); left = inr (refl, refl) }; b = grind arith; same = λ u. grind arith; differ_a = λ u1 u2 u3 u4. grind arith; differ_b = λ u1 u2 u3 u4. grind arith }) tk ])

-- over an edge that node i is no end of
pub talk_far : {t : Graph} {i j x y : ℕ} {A B C J : View} {m : Message} {g : Held} {os : List Send} {pj qj T S U R : List Message} → Knows t i j C J pj qj → Peers x y A B → Labels A B C J → Mode i j (t.weight i j) C J pj (control1 m ++ qj) → (d : Deed t i C.held (got j m) g os) →
    Talk x y A B T S U R → Talk x y (follow (turn d) C J A) (follow (turn d) C J B) T S U R
talk_far {t} {i} {j} {x} {y} {A} {B} {C} {J} kj k1 lab ej (Absorbs {l} c1) tk = let a = head_absorb c1 ej in keep (record { a = grind arith; b = grind arith; same = λ u. grind arith; differ_a = λ u1 u2 u3 u4. apart_absorb A B C J (k1.mine.find_current (asks_seeks k1.asks_a u1)) (k1.mine.find_undecided (asks_seeks k1.asks_a u1)) k1.theirs.low lab.ac lab.aj lab.bj kj.mine.low a.low a.current a.least u2 u3 u4; differ_b = λ u1 u2 u3 u4. apart_absorb B A C J (k1.theirs.find_current (asks_seeks k1.asks_b u1)) (k1.theirs.find_undecided (asks_seeks k1.asks_b u1)) k1.mine.low lab.bc lab.bj lab.aj kj.mine.low a.low a.current a.least u2 (λ z. u3 (sym z)) (sym u4) }) tk
talk_far {t} {i} {j} {x} {y} {A} {B} {C} {J} kj k1 lab ej (Merges {l} c1 c2) tk = elim (head_merge c1 c2 ej) [ inl a ↦ keep (record { a = grind arith; b = grind arith; same = λ u. grind arith; differ_a = λ u1 u2 u3 u4. apart_merge (t.weight i j) A B C J (k1.mine.find_undecided (asks_seeks k1.asks_a u1)) lab.ac lab.aj a.least_a a.least u3 u4; differ_b = λ u1 u2 u3 u4. apart_merge (t.weight i j) B A C J (k1.theirs.find_undecided (asks_seeks k1.asks_b u1)) lab.bc lab.bj a.least_a a.least (λ z. u3 (sym z)) (sym u4) }) tk | inr o ↦ let oe : eqb C.own.label J.own.label ≡ true = grind arith in keep (record { a = grind arith; b = grind arith; same = λ u. grind arith; differ_a = λ u1 u2 u3 u4. grind arith; differ_b = λ u1 u2 u3 u4. grind arith }) tk ]
talk_far {t} {i} {j} {x} {y} {A} {B} {C} {J} kj k1 lab ej (Begins {l} {f} {s} c1) tk = keep (record { a = grind arith; b = grind arith; same = λ u. grind arith; differ_a = λ u1 u2 u3 u4. grind arith; differ_b = λ u1 u2 u3 u4. grind arith }) tk
talk_far {t} {i} {j} {x} {y} {A} {B} {C} {J} kj k1 lab ej (Searches-ask {l} {f} k c1) tk = keep (record { a = grind arith; b = grind arith; same = λ u. grind arith; differ_a = λ u1 u2 u3 u4. grind arith; differ_b = λ u1 u2 u3 u4. grind arith }) tk
talk_far {t} {i} {j} {x} {y} {A} {B} {C} {J} kj k1 lab ej (Searches-report {l} {f} c1 c2 c3) tk = keep (record { a = grind arith; b = grind arith; same = λ u. grind arith; differ_a = λ u1 u2 u3 u4. grind arith; differ_b = λ u1 u2 u3 u4. grind arith }) tk
talk_far {t} {i} {j} {x} {y} {A} {B} {C} {J} kj k1 lab ej (Searches-wait {l} {f} c1 c2) tk = keep (record { a = grind arith; b = grind arith; same = λ u. grind arith; differ_a = λ u1 u2 u3 u4. grind arith; differ_b = λ u1 u2 u3 u4. grind arith }) tk
talk_far {t} {i} {j} {x} {y} {A} {B} {C} {J} kj k1 lab ej (Accepts {l} {f} c1 c2) tk = keep (record { a = grind arith; b = grind arith; same = λ u. grind arith; differ_a = λ u1 u2 u3 u4. grind arith; differ_b = λ u1 u2 u3 u4. grind arith }) tk
talk_far {t} {i} {j} {x} {y} {A} {B} {C} {J} kj k1 lab ej (Rejects {l} {f} c1 c2 c3) tk = keep (record { a = grind arith; b = grind arith; same = λ u. grind arith; differ_a = λ u1 u2 u3 u4. grind arith; differ_b = λ u1 u2 u3 u4. grind arith }) tk
talk_far {t} {i} {j} {x} {y} {A} {B} {C} {J} kj k1 lab ej (Crosses-ask {l} {f} k c1 c2 c3 c4) tk = keep (record { a = grind arith; b = grind arith; same = λ u. grind arith; differ_a = λ u1 u2 u3 u4. grind arith; differ_b = λ u1 u2 u3 u4. grind arith }) tk
talk_far {t} {i} {j} {x} {y} {A} {B} {C} {J} kj k1 lab ej (Crosses-report {l} {f} c1 c2 c3 c4 c5 c6) tk = keep (record { a = grind arith; b = grind arith; same = λ u. grind arith; differ_a = λ u1 u2 u3 u4. grind arith; differ_b = λ u1 u2 u3 u4. grind arith }) tk
talk_far {t} {i} {j} {x} {y} {A} {B} {C} {J} kj k1 lab ej (Crosses-wait {l} {f} c1 c2 c3 c4 c5) tk = keep (record { a = grind arith; b = grind arith; same = λ u. grind arith; differ_a = λ u1 u2 u3 u4. grind arith; differ_b = λ u1 u2 u3 u4. grind arith }) tk
talk_far {t} {i} {j} {x} {y} {A} {B} {C} {J} kj k1 lab ej (Accepted-report c1 c2) tk = keep (record { a = grind arith; b = grind arith; same = λ u. grind arith; differ_a = λ u1 u2 u3 u4. grind arith; differ_b = λ u1 u2 u3 u4. grind arith }) tk
talk_far {t} {i} {j} {x} {y} {A} {B} {C} {J} kj k1 lab ej (Accepted-wait c1) tk = keep (record { a = grind arith; b = grind arith; same = λ u. grind arith; differ_a = λ u1 u2 u3 u4. grind arith; differ_b = λ u1 u2 u3 u4. grind arith }) tk
talk_far {t} {i} {j} {x} {y} {A} {B} {C} {J} kj k1 lab ej (Rejected-ask k c1) tk = keep (record { a = grind arith; b = grind arith; same = λ u. grind arith; differ_a = λ u1 u2 u3 u4. grind arith; differ_b = λ u1 u2 u3 u4. grind arith }) tk
talk_far {t} {i} {j} {x} {y} {A} {B} {C} {J} kj k1 lab ej (Rejected-report c1 c2 c3) tk = keep (record { a = grind arith; b = grind arith; same = λ u. grind arith; differ_a = λ u1 u2 u3 u4. grind arith; differ_b = λ u1 u2 u3 u4. grind arith }) tk
talk_far {t} {i} {j} {x} {y} {A} {B} {C} {J} kj k1 lab ej (Rejected-wait c1 c2) tk = keep (record { a = grind arith; b = grind arith; same = λ u. grind arith; differ_a = λ u1 u2 u3 u4. grind arith; differ_b = λ u1 u2 u3 u4. grind arith }) tk
talk_far {t} {i} {j} {x} {y} {A} {B} {C} {J} kj k1 lab ej (Hears-report {w} c1 c2 c3) tk = keep (record { a = grind arith; b = grind arith; same = λ u. grind arith; differ_a = λ u1 u2 u3 u4. grind arith; differ_b = λ u1 u2 u3 u4. grind arith }) tk
talk_far {t} {i} {j} {x} {y} {A} {B} {C} {J} kj k1 lab ej (Hears-wait {w} c1 c2) tk = keep (record { a = grind arith; b = grind arith; same = λ u. grind arith; differ_a = λ u1 u2 u3 u4. grind arith; differ_b = λ u1 u2 u3 u4. grind arith }) tk
talk_far {t} {i} {j} {x} {y} {A} {B} {C} {J} kj k1 lab ej (Decides-passes {w} k c1 c2 c3 c4 c5) tk = keep (record { a = grind arith; b = grind arith; same = λ u. grind arith; differ_a = λ u1 u2 u3 u4. grind arith; differ_b = λ u1 u2 u3 u4. grind arith }) tk
talk_far {t} {i} {j} {x} {y} {A} {B} {C} {J} kj k1 lab ej (Decides-joins {w} k c1 c2 c3 c4 c5) tk = keep (record { a = grind arith; b = grind arith; same = λ u. grind arith; differ_a = λ u1 u2 u3 u4. grind arith; differ_b = λ u1 u2 u3 u4. grind arith }) tk
talk_far {t} {i} {j} {x} {y} {A} {B} {C} {J} kj k1 lab ej (Halts {w} c1 c2 c3 c4) tk = keep (record { a = grind arith; b = grind arith; same = λ u. grind arith; differ_a = λ u1 u2 u3 u4. grind arith; differ_b = λ u1 u2 u3 u4. grind arith }) tk
talk_far {t} {i} {j} {x} {y} {A} {B} {C} {J} kj k1 lab ej (Rests {w} c1 c2 c3 c4) tk = keep (record { a = grind arith; b = grind arith; same = λ u. grind arith; differ_a = λ u1 u2 u3 u4. grind arith; differ_b = λ u1 u2 u3 u4. grind arith }) tk
talk_far {t} {i} {j} {x} {y} {A} {B} {C} {J} kj k1 lab ej (Changed-passes k c1 c2) tk = keep (record { a = grind arith; b = grind arith; same = λ u. grind arith; differ_a = λ u1 u2 u3 u4. grind arith; differ_b = λ u1 u2 u3 u4. grind arith }) tk
talk_far {t} {i} {j} {x} {y} {A} {B} {C} {J} kj k1 lab ej (Changed-joins k c1 c2) tk = keep (record { a = grind arith; b = grind arith; same = λ u. grind arith; differ_a = λ u1 u2 u3 u4. grind arith; differ_b = λ u1 u2 u3 u4. grind arith }) tk

-- who wakes asks nobody
pub talk_wake : {t : Graph} {i y : ℕ} {A B : View} {g : Held} {os : List Send} {T S U R : List Message} (J : View) → A.held.status ≡ Sleeping → Fresh y A B → Peers i y A B → (d : Deed t i A.held woke g os) → Talk i y A B T S U R → Talk i y (acted (turn d) g A J) (follow (turn d) A J B) (T ++ asks (out_to y os)) S U (R ++ replies (out_to y os))
talk_wake {t} {i} {y} {A} {B} J a f k1 (Alone c1) tk = let nt : A.held.testing ≡ Some y → ⊥ = not_asking k1.asks_a (λ u. grind arith) in let lv = f.level in let mk = f.mark in silent refl refl (keep (record { a = record { mark = refl; level = grind arith; mine = inl (nt, nt); left = inl (λ u. grind arith) }; b = grind arith; same = λ u. u; differ_a = λ u1 u2 u3 u4. u3 u4; differ_b = λ u1 u2 u3 u4. u3 u4 }) tk)
talk_wake {t} {i} {y} {A} {B} J a f k1 (WokeTo k c1) tk = let nt : A.held.testing ≡ Some y → ⊥ = not_asking k1.asks_a (λ u. grind arith) in let lv = f.level in let mk = f.mark in silent (tst_one y k (Connect 0) refl) (ans_one y k (Connect 0) refl) (elim (eqb_tells k y) [ inl u ↦ lays nt mk (grind arith) (grind arith) refl nt (grind arith) tk | inr u ↦ keep (record { a = record { mark = grind arith; level = grind arith; mine = inl (nt, nt); left = inl (λ z. grind arith) }; b = grind arith; same = λ u. u; differ_a = λ u1 u2 u3 u4. u3 u4; differ_b = λ u1 u2 u3 u4. u3 u4 }) tk ])

pub talk_wake_far : {t : Graph} {i x y : ℕ} {A B : View} (C J : View) {g : Held} {os : List Send} {T S U R : List Message} → (d : Deed t i C.held woke g os) → Talk x y A B T S U R → Talk x y (follow (turn d) C J A) (follow (turn d) C J B) T S U R
talk_wake_far C J (Alone c1) tk = keep (record { a = grind arith; b = grind arith; same = λ u. grind arith; differ_a = λ u1 u2 u3 u4. grind arith; differ_b = λ u1 u2 u3 u4. grind arith }) tk
talk_wake_far C J (WokeTo k c1) tk = keep (record { a = grind arith; b = grind arith; same = λ u. grind arith; differ_a = λ u1 u2 u3 u4. grind arith; differ_b = λ u1 u2 u3 u4. grind arith }) tk

-- a question is the only one of its queue
ask_alone : {x y : ℕ} {A B : View} {T S : List Message} {l f : ℕ} → Ask x y A B (Test l f ∷ T) S → T ≡ []
ask_alone (still v) = absurd (let o = v.out in grind arith)
ask_alone (asking v) = let o = v.out in grind arith
ask_alone (yes' v) = absurd (let o = v.out in grind arith)
ask_alone (no' v) = absurd (let o = v.out in grind arith)

pub talk_alone : {x y : ℕ} {A B : View} {T S U R : List Message} {l f : ℕ} → Talk x y A B T S (Test l f ∷ U) R → U ≡ []
talk_alone (both a b) = ask_alone b
talk_alone (crossed v) = let o = v.asked in grind arith
talk_alone (left v) = absurd (let o = v.out in grind arith)

-- WHO ASKS SEEKS (of N2): kept by every deed
pub seeks_acts : {t : Graph} {i j : ℕ} {A J : View} {m : Message} {g : Held} {os : List Send} {p q : List Message} → Knows t i j A J p q → (A.held.testing ≡ None) ⊎ (A.held.status ≡ Find) → Asked j m A.held → Mode i j (t.weight i j) A J p (control1 m ++ q) → (d : Deed t i A.held (got j m) g os) → (g.testing ≡ None) ⊎ (g.status ≡ Find)
seeks_acts {t} {i} {j} {A} {J} kj a aj ej (Absorbs {l} c1) = grind arith
seeks_acts {t} {i} {j} {A} {J} kj a aj ej (Merges {l} c1 c2) = grind arith
seeks_acts {t} {i} {j} {A} {J} kj a aj ej (Begins {l} {f} {s} c1) = let b = head_begin {l = l} {f = f} {s = s} kj.theirs kj.same ej in let z = kj.mine.find_current in grind arith
seeks_acts {t} {i} {j} {A} {J} kj a aj ej (Searches-ask {l} {f} k c1) = grind arith
seeks_acts {t} {i} {j} {A} {J} kj a aj ej (Searches-report {l} {f} c1 c2 c3) = grind arith
seeks_acts {t} {i} {j} {A} {J} kj a aj ej (Searches-wait {l} {f} c1 c2) = grind arith
seeks_acts {t} {i} {j} {A} {J} kj a aj ej (Accepts {l} {f} c1 c2) = grind arith
seeks_acts {t} {i} {j} {A} {J} kj a aj ej (Rejects {l} {f} c1 c2 c3) = grind arith
seeks_acts {t} {i} {j} {A} {J} kj a aj ej (Crosses-ask {l} {f} k c1 c2 c3 c4) = grind arith
seeks_acts {t} {i} {j} {A} {J} kj a aj ej (Crosses-report {l} {f} c1 c2 c3 c4 c5 c6) = grind arith
seeks_acts {t} {i} {j} {A} {J} kj a aj ej (Crosses-wait {l} {f} c1 c2 c3 c4 c5) = grind arith
seeks_acts {t} {i} {j} {A} {J} kj a aj ej (Accepted-report c1 c2) = grind arith
seeks_acts {t} {i} {j} {A} {J} kj a aj ej (Accepted-wait c1) = grind arith
seeks_acts {t} {i} {j} {A} {J} kj a aj ej (Rejected-ask k c1) = grind arith
seeks_acts {t} {i} {j} {A} {J} kj a aj ej (Rejected-report c1 c2 c3) = grind arith
seeks_acts {t} {i} {j} {A} {J} kj a aj ej (Rejected-wait c1 c2) = grind arith
seeks_acts {t} {i} {j} {A} {J} kj a aj ej (Hears-report {w} c1 c2 c3) = grind arith
seeks_acts {t} {i} {j} {A} {J} kj a aj ej (Hears-wait {w} c1 c2) = grind arith
seeks_acts {t} {i} {j} {A} {J} kj a aj ej (Decides-passes {w} k c1 c2 c3 c4 c5) = grind arith
seeks_acts {t} {i} {j} {A} {J} kj a aj ej (Decides-joins {w} k c1 c2 c3 c4 c5) = grind arith
seeks_acts {t} {i} {j} {A} {J} kj a aj ej (Halts {w} c1 c2 c3 c4) = grind arith
seeks_acts {t} {i} {j} {A} {J} kj a aj ej (Rests {w} c1 c2 c3 c4) = grind arith
seeks_acts {t} {i} {j} {A} {J} kj a aj ej (Changed-passes k c1 c2) = grind arith
seeks_acts {t} {i} {j} {A} {J} kj a aj ej (Changed-joins k c1 c2) = grind arith

pub seeks_wakes : {t : Graph} {i : ℕ} {h g : Held} {os : List Send} → h.status ≡ Sleeping → (h.testing ≡ None) ⊎ (h.status ≡ Find) → Deed t i h woke g os → (g.testing ≡ None) ⊎ (g.status ≡ Find)
seeks_wakes a b (Alone c1) = grind arith
seeks_wakes a b (WokeTo k c1) = grind arith
