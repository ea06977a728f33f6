-- What a node knows of the best edge that it has found, and how far a turn reaches.
use Rattle.std.proofs.Common.{◌≡◌, ℕ, ◌<◌, ◌≤◌, true, false, List, ◌∷◌, ◌++◌, Some, None, refl, inl, inr, arith}
use Rattle.std.proofs.lemmas.Bool.Decides.{eqb_tells}
use Rattle.message.specs.declared.messages.Message.{Message}
use Rattle.message.specs.declared.messages.Message.TheVariants.{Connect, Initiate, Test, Accept, Reject, Report, Change}
use Rattle.graph.specs.declared.mark.Mark.TheVariants.{Basic}
use Rattle.node.specs.Rules.{lighter}
use Rattle.graph.specs.Graph.{Graph, Edge}
use Rattle.protocol.proofs.Base.{Local}
use Rattle.protocol.proofs.Control.{control1}
use Rattle.protocol.proofs.Deed.{woke, got, Deed, Alone, WokeTo, Absorbs, Merges, Begins, Searches-ask, Searches-report, Searches-wait, Accepts, Rejects, Crosses-ask, Crosses-report, Crosses-wait, Accepted-report, Accepted-wait, Rejected-ask, Rejected-report, Rejected-wait, Hears-report, Hears-wait, Decides-passes, Decides-joins, Halts, Rests, Changed-passes, Changed-joins}
use Rattle.protocol.proofs.Deeds.{Knows, Suits}
use Rattle.protocol.proofs.Ghost.{Turn, View, absorb, merge, turn, moves, fragments, follow, acted}
use Rattle.protocol.proofs.Heads.{head_absorb, head_merge, head_begin, head_hears}
use Rattle.protocol.proofs.Held.{Send, Held}
use Rattle.protocol.proofs.Mode.{Mode}
use Rattle.protocol.proofs.Talk.{replies1, still, asking, yes', no', Talk, both, crossed, left}

-- node i has an edge to k. finite: a best edge has a weight; lightest: who searches and asks nobody has no basic edge lighter than its best one; late: who is not asked in the search has none
pub record Choice (t : Graph) (i k : ℕ) (A : View) : Type 0 where
  pub finite : A.held.best ≡ Some k → A.held.best_weight ≡ None → ⊥
  pub lightest : A.held.level ≡ A.fragment.level → A.own.in_search ≡ true → A.held.testing ≡ None → 1 ≤ A.held.level → A.held.mark k ≡ Basic → lighter (Some (t.weight i k)) A.held.best_weight ≡ false
  pub late : A.held.level ≡ A.fragment.level → A.own.in_search ≡ false → 1 ≤ A.held.level → A.held.best ≡ None

-- what an accept from y means to A, which takes it: A asked y, and the edge leads out
abbrev pub Answered : ℕ → Message → View → View → Type 0
Answered y (Connect l) A J = Unit {0}
Answered y (Initiate l f s) A J = Unit {0}
Answered y (Test l f) A J = Unit {0}
Answered y Accept A J = (A.held.testing ≡ Some y) × (A.held.mark y ≡ Basic) × (A.own.label ≡ J.own.label → ⊥) × (A.held.level ≤ J.held.level)
Answered y Reject A J = Unit {0}
Answered y (Report w) A J = Unit {0}
Answered y Change A J = Unit {0}

talk_accept : {x y : ℕ} {A B : View} {T S U R : List Message} → Talk x y A B T (Accept ∷ S) U R → Answered y Accept A B
talk_accept (both (still v) u) = absurd (grind arith)
talk_accept (both (asking v) u) = absurd (grind arith)
talk_accept (both (yes' v) u) = (v.testing, v.mark, v.differ, v.levels)
talk_accept (both (no' v) u) = absurd (grind arith)
talk_accept (crossed v) = absurd (grind arith)
talk_accept (left v) = absurd (grind arith)

pub talk_answered : {x y : ℕ} {A B : View} {T U R : List Message} (S : List Message) (m : Message) → Talk x y A B T (replies1 m ++ S) U R → Answered y m A B
talk_answered S (Connect l) w = tt
talk_answered S (Initiate l f s) w = tt
talk_answered S (Test l f) w = tt
talk_answered S Accept w = talk_accept w
talk_answered S Reject w = tt
talk_answered S (Report r) w = tt
talk_answered S Change w = tt

-- how far a turn of C on what J sent reaches: it moves a fragment, or two, or nobody
pub data Spread (C J : View) : Turn → Type 0 where
  absorbing : C.held.level ≤ C.fragment.level → J.held.level < C.held.level → J.held.level ≡ J.fragment.level → (C.own.label ≡ J.own.label → ⊥) → Spread C J absorb
  merging : (z : ℕ) → C.held.level ≡ C.fragment.level → J.held.level ≡ C.held.level → J.held.level ≡ J.fragment.level → (C.own.label ≡ J.own.label → ⊥) → Spread C J (merge z)
  again : (z : ℕ) → C.own.label ≡ J.own.label → Spread C J (merge z)
  calm : {u : Turn} → (fragments u C J).level ≡ C.fragment.level → ((l : ℕ) → moves u C J l ≡ false) → Spread C J u

pub spreads : {t : Graph} {i j : ℕ} {C J : View} {m : Message} {g : Held} {os : List Send} {p q : List Message} → Knows t i j C J p q → Mode i j (t.weight i j) C J p (control1 m ++ q) → (d : Deed t i C.held (got j m) g os) → Spread C J (turn d)
spreads {t} {i} {j} kj e (Absorbs {l} c1) = let a = head_absorb c1 e in absorbing kj.mine.low a.low a.current a.differ
spreads {t} {i} {j} kj e (Merges {l} c1 c2) = elim (head_merge c1 c2 e) [ inl a ↦ merging (t.weight i j) a.current_a a.levels a.current a.differ | inr u ↦ again (t.weight i j) u ]
spreads {t} {i} {j} kj e (Begins {l} {f} {s} c1) = calm refl (λ z. refl)
spreads {t} {i} {j} kj e (Searches-ask {l} {f} k c1) = calm refl (λ z. refl)
spreads {t} {i} {j} kj e (Searches-report {l} {f} c1 c2 c3) = calm refl (λ z. refl)
spreads {t} {i} {j} kj e (Searches-wait {l} {f} c1 c2) = calm refl (λ z. refl)
spreads {t} {i} {j} kj e (Accepts {l} {f} c1 c2) = calm refl (λ z. refl)
spreads {t} {i} {j} kj e (Rejects {l} {f} c1 c2 c3) = calm refl (λ z. refl)
spreads {t} {i} {j} kj e (Crosses-ask {l} {f} k c1 c2 c3 c4) = calm refl (λ z. refl)
spreads {t} {i} {j} kj e (Crosses-report {l} {f} c1 c2 c3 c4 c5 c6) = calm refl (λ z. refl)
spreads {t} {i} {j} kj e (Crosses-wait {l} {f} c1 c2 c3 c4 c5) = calm refl (λ z. refl)
spreads {t} {i} {j} kj e (Accepted-report c1 c2) = calm refl (λ z. refl)
spreads {t} {i} {j} kj e (Accepted-wait c1) = calm refl (λ z. refl)
spreads {t} {i} {j} kj e (Rejected-ask k c1) = calm refl (λ z. refl)
spreads {t} {i} {j} kj e (Rejected-report c1 c2 c3) = calm refl (λ z. refl)
spreads {t} {i} {j} kj e (Rejected-wait c1 c2) = calm refl (λ z. refl)
spreads {t} {i} {j} kj e (Hears-report {w} c1 c2 c3) = calm refl (λ z. refl)
spreads {t} {i} {j} kj e (Hears-wait {w} c1 c2) = calm refl (λ z. refl)
spreads {t} {i} {j} kj e (Decides-passes {w} k c1 c2 c3 c4 c5) = calm refl (λ z. refl)
spreads {t} {i} {j} kj e (Decides-joins {w} k c1 c2 c3 c4 c5) = calm refl (λ z. refl)
spreads {t} {i} {j} kj e (Halts {w} c1 c2 c3 c4) = calm refl (λ z. refl)
spreads {t} {i} {j} kj e (Rests {w} c1 c2 c3 c4) = calm refl (λ z. refl)
spreads {t} {i} {j} kj e (Changed-passes k c1 c2) = calm refl (λ z. refl)
spreads {t} {i} {j} kj e (Changed-joins k c1 c2) = calm refl (λ z. refl)

pub spreads_wake : {t : Graph} {i : ℕ} {C J : View} {g : Held} {os : List Send} → (d : Deed t i C.held woke g os) → Spread C J (turn d)
spreads_wake (Alone c1) = calm refl (λ z. refl)
spreads_wake (WokeTo k c1) = calm refl (λ z. refl)

-- the node that acts
pub choice_acts : {t : Graph} {i j y : ℕ} {A J : View} {m : Message} {g : Held} {os : List Send} {p q : List Message} → Knows t i j A J p q → Suits m A J → Answered j m A J → Edge t i y → Local t i j y A.held → Mode i j (t.weight i j) A J p (control1 m ++ q) → (d : Deed t i A.held (got j m) g os) → Choice t i y A → Choice t i y (acted (turn d) g A J)
choice_acts {t} {i} {j} {y} {A} {J} kj ft an lk lo e (Absorbs {l} c1) v = let a = head_absorb c1 e in record { finite = λ u1 u2. grind arith; lightest = λ u1 u2 u3 u4 u5. grind arith; late = λ u1 u2 u3. grind arith }
choice_acts {t} {i} {j} {y} {A} {J} kj ft an lk lo e (Merges {l} c1 c2) v = elim (head_merge c1 c2 e) [ inl a ↦ record { finite = λ u1 u2. grind arith; lightest = λ u1 u2 u3 u4 u5. grind arith; late = λ u1 u2 u3. grind arith } | inr u ↦ record { finite = λ u1 u2. grind arith; lightest = λ u1 u2 u3 u4 u5. grind arith; late = λ u1 u2 u3. grind arith } ]
choice_acts {t} {i} {j} {y} {A} {J} kj ft an lk lo e (Begins {l} {f} {s} c1) v = let a = head_begin kj.theirs kj.same e in record { finite = λ u1 u2. grind arith; lightest = λ u1 u2 u3 u4 u5. grind arith; late = λ u1 u2 u3. grind arith }
choice_acts {t} {i} {j} {y} {A} {J} kj ft an lk lo e (Searches-ask {l} {f} k c1) v = record { finite = λ u1 u2. grind arith; lightest = λ u1 u2 u3 u4 u5. grind arith; late = λ u1 u2 u3. grind arith }
choice_acts {t} {i} {j} {y} {A} {J} kj ft an lk lo e (Searches-report {l} {f} c1 c2 c3) v = let a = c1.nobody y lk.1 lk.2 in record { finite = λ u1 u2. grind arith; lightest = λ u1 u2 u3 u4 u5. grind arith; late = λ u1 u2 u3. grind arith }
choice_acts {t} {i} {j} {y} {A} {J} kj ft an lk lo e (Searches-wait {l} {f} c1 c2) v = let a = c1.nobody y lk.1 lk.2 in record { finite = λ u1 u2. grind arith; lightest = λ u1 u2 u3 u4 u5. grind arith; late = λ u1 u2 u3. grind arith }
choice_acts {t} {i} {j} {y} {A} {J} kj ft an lk lo e (Accepts {l} {f} c1 c2) v = record { finite = λ u1 u2. grind arith; lightest = λ u1 u2 u3 u4 u5. grind arith; late = λ u1 u2 u3. grind arith }
choice_acts {t} {i} {j} {y} {A} {J} kj ft an lk lo e (Rejects {l} {f} c1 c2 c3) v = record { finite = λ u1 u2. grind arith; lightest = λ u1 u2 u3 u4 u5. grind arith; late = λ u1 u2 u3. grind arith }
choice_acts {t} {i} {j} {y} {A} {J} kj ft an lk lo e (Crosses-ask {l} {f} k c1 c2 c3 c4) v = record { finite = λ u1 u2. grind arith; lightest = λ u1 u2 u3 u4 u5. grind arith; late = λ u1 u2 u3. grind arith }
choice_acts {t} {i} {j} {y} {A} {J} kj ft an lk lo e (Crosses-report {l} {f} c1 c2 c3 c4 c5 c6) v = let a = c4.nobody y lk.1 lk.2 in record { finite = λ u1 u2. grind arith; lightest = λ u1 u2 u3 u4 u5. grind arith; late = λ u1 u2 u3. grind arith }
choice_acts {t} {i} {j} {y} {A} {J} kj ft an lk lo e (Crosses-wait {l} {f} c1 c2 c3 c4 c5) v = let a = c4.nobody y lk.1 lk.2 in record { finite = λ u1 u2. grind arith; lightest = λ u1 u2 u3 u4 u5. grind arith; late = λ u1 u2 u3. grind arith }
choice_acts {t} {i} {j} {y} {A} {J} kj ft an lk lo e (Accepted-report c1 c2) v = let a = kj.mine.find_in_search ft in record { finite = λ u1 u2. grind arith; lightest = λ u1 u2 u3 u4 u5. let le = lo.least an.0 u5 lk in grind arith; late = λ u1 u2 u3. grind arith }
choice_acts {t} {i} {j} {y} {A} {J} kj ft an lk lo e (Accepted-wait c1) v = let a = kj.mine.find_in_search ft in record { finite = λ u1 u2. grind arith; lightest = λ u1 u2 u3 u4 u5. let le = lo.least an.0 u5 lk in grind arith; late = λ u1 u2 u3. grind arith }
choice_acts {t} {i} {j} {y} {A} {J} kj ft an lk lo e (Rejected-ask k c1) v = record { finite = λ u1 u2. grind arith; lightest = λ u1 u2 u3 u4 u5. grind arith; late = λ u1 u2 u3. grind arith }
choice_acts {t} {i} {j} {y} {A} {J} kj ft an lk lo e (Rejected-report c1 c2 c3) v = let a = c1.nobody y lk.1 lk.2 in record { finite = λ u1 u2. grind arith; lightest = λ u1 u2 u3 u4 u5. grind arith; late = λ u1 u2 u3. grind arith }
choice_acts {t} {i} {j} {y} {A} {J} kj ft an lk lo e (Rejected-wait c1 c2) v = let a = c1.nobody y lk.1 lk.2 in record { finite = λ u1 u2. grind arith; lightest = λ u1 u2 u3 u4 u5. grind arith; late = λ u1 u2 u3. grind arith }
choice_acts {t} {i} {j} {y} {A} {J} kj ft an lk lo e (Hears-report {w} c1 c2 c3) v = let a = kj.mine.find_in_search (head_hears c1 e) in record { finite = λ u1 u2. grind arith; lightest = λ u1 u2 u3 u4 u5. grind arith; late = λ u1 u2 u3. grind arith }
choice_acts {t} {i} {j} {y} {A} {J} kj ft an lk lo e (Hears-wait {w} c1 c2) v = let a = kj.mine.find_in_search (head_hears c1 e) in record { finite = λ u1 u2. grind arith; lightest = λ u1 u2 u3 u4 u5. grind arith; late = λ u1 u2 u3. grind arith }
choice_acts {t} {i} {j} {y} {A} {J} kj ft an lk lo e (Decides-passes {w} k c1 c2 c3 c4 c5) v = record { finite = λ u1 u2. grind arith; lightest = λ u1 u2 u3 u4 u5. grind arith; late = λ u1 u2 u3. grind arith }
choice_acts {t} {i} {j} {y} {A} {J} kj ft an lk lo e (Decides-joins {w} k c1 c2 c3 c4 c5) v = record { finite = λ u1 u2. grind arith; lightest = λ u1 u2 u3 u4 u5. grind arith; late = λ u1 u2 u3. grind arith }
choice_acts {t} {i} {j} {y} {A} {J} kj ft an lk lo e (Halts {w} c1 c2 c3 c4) v = record { finite = λ u1 u2. grind arith; lightest = λ u1 u2 u3 u4 u5. grind arith; late = λ u1 u2 u3. grind arith }
choice_acts {t} {i} {j} {y} {A} {J} kj ft an lk lo e (Rests {w} c1 c2 c3 c4) v = record { finite = λ u1 u2. grind arith; lightest = λ u1 u2 u3 u4 u5. grind arith; late = λ u1 u2 u3. grind arith }
choice_acts {t} {i} {j} {y} {A} {J} kj ft an lk lo e (Changed-passes k c1 c2) v = record { finite = λ u1 u2. grind arith; lightest = λ u1 u2 u3 u4 u5. grind arith; late = λ u1 u2 u3. grind arith }
choice_acts {t} {i} {j} {y} {A} {J} kj ft an lk lo e (Changed-joins k c1 c2) v = record { finite = λ u1 u2. grind arith; lightest = λ u1 u2 u3 u4 u5. grind arith; late = λ u1 u2 u3. grind arith }

pub choice_wake : {t : Graph} {i y : ℕ} {A : View} (J : View) {g : Held} {os : List Send} → (d : Deed t i A.held woke g os) → Choice t i y A → Choice t i y (acted (turn d) g A J)
choice_wake J (Alone c1) v = record { finite = λ u1 u2. grind arith; lightest = λ u1 u2 u3 u4 u5. grind arith; late = λ u1 u2 u3. grind arith }
choice_wake J (WokeTo k c1) v = record { finite = λ u1 u2. grind arith; lightest = λ u1 u2 u3 u4 u5. grind arith; late = λ u1 u2 u3. grind arith }

-- the others: C acts, J sent
pub choice_far : {t : Graph} {i y : ℕ} {A : View} {u : Turn} (C J : View) → (A.own.label ≡ C.own.label → A.fragment ≡ C.fragment) → (A.own.label ≡ J.own.label → A.fragment ≡ J.fragment) → A.held.level ≤ A.fragment.level → Spread C J u → Choice t i y A → Choice t i y (follow u C J A)
choice_far {A = A} C J ac aj lo (absorbing c l k d) v = elim (eqb_tells A.own.label J.own.label) [ inl o ↦ let f = aj o.1 in record { finite = v.finite; lightest = λ u1 u2 u3 u4 u5. grind arith; late = λ u1 u2 u3. grind arith } | inr o ↦ record { finite = v.finite; lightest = λ u1 u2 u3 u4 u5. grind arith; late = λ u1 u2 u3. grind arith } ]
choice_far {A = A} C J ac aj lo (merging z c l k d) v = elim (eqb_tells A.own.label J.own.label) [ inl o ↦ let f = aj o.1 in record { finite = v.finite; lightest = λ u1 u2 u3 u4 u5. grind arith; late = λ u1 u2 u3. grind arith } | inr o ↦ elim (eqb_tells A.own.label C.own.label) [ inl p ↦ let f = ac p.1 in record { finite = v.finite; lightest = λ u1 u2 u3 u4 u5. grind arith; late = λ u1 u2 u3. grind arith } | inr p ↦ record { finite = v.finite; lightest = λ u1 u2 u3 u4 u5. grind arith; late = λ u1 u2 u3. grind arith } ] ]
choice_far {A = A} C J ac aj lo (again z e) v = record { finite = v.finite; lightest = λ u1 u2 u3 u4 u5. grind arith; late = λ u1 u2 u3. grind arith }
choice_far {A = A} C J ac aj lo (calm f m) v = let n = m A.own.label in record { finite = v.finite; lightest = λ u1 u2 u3 u4 u5. grind arith; late = λ u1 u2 u3. grind arith }
