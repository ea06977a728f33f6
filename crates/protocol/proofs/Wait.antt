-- Who is waited for goes on to be waited for until its report is taken.
use Rattle.std.proofs.Common.{◌≡◌, ℕ, zero, suc, ◌+◌, ◌<◌, Bool, true, false, cond, not, ◌&&◌, ◌||◌, List, [], ◌∷◌, ◌++◌, Some, None, sym, refl, inl, inr, append-nil, arith}
use Rattle.std.proofs.lemmas.Bool.Decides.{eqb_tells}
use Rattle.message.specs.declared.messages.Message.{Message}
use Rattle.message.specs.declared.messages.Message.TheVariants.{Test, Accept, Reject, Report}
use Rattle.node.specs.declared.state.Status.{Status}
use Rattle.node.specs.declared.state.Status.TheVariants.{Sleeping, Find}
use Rattle.node.specs.Rules.{is_find}
use Rattle.graph.specs.Graph.{Graph}
use Rattle.protocol.proofs.Chain.{chain_low, down_low}
use Rattle.protocol.proofs.Control.{control1, control}
use Rattle.protocol.proofs.Deed.{got, one, Deed, Absorbs, Merges, Begins, Searches-ask, Searches-report, Searches-wait, Accepts, Rejects, Crosses-ask, Crosses-report, Crosses-wait, Accepted-report, Accepted-wait, Rejected-ask, Rejected-report, Rejected-wait, Hears-report, Hears-wait, Decides-passes, Decides-joins, Halts, Rests, Changed-passes, Changed-joins}
use Rattle.protocol.proofs.Deeds.{to_self, test_none, onward_self, Knows, Suits}
use Rattle.protocol.proofs.Ghost.{View}
use Rattle.protocol.proofs.Held.{Send, Held, testing_now, bettering, send_to}
use Rattle.protocol.proofs.Mode.{busy, calls, Child}
use Rattle.protocol.proofs.Outs.{out_to}
use Rattle.message.specs.declared.messages.Phase.TheVariants as phase

abbrev pub full : List Message → Bool
full [] = false
full (m ∷ q) = true

-- A waits for B: it has still to ask it, or B seeks, or its report is under way
abbrev pub waited : List Message → List Message → Status → Bool
waited p q S = calls p || (full q || (not (busy p) && is_find S))

full_more : (p : List Message) (m : Message) → full (p ++ (m ∷ [])) ≡ true
full_more [] m = refl
full_more (x ∷ p) m = refl

-- counting
unfoldable pub count : (ℕ → Bool) → ℕ → ℕ
count f zero = 0
count f (suc n) = cond (f n) 1 0 + count f n

pub count_none : (f : ℕ → Bool) (n k : ℕ) → count f n ≡ 0 → k < n → f k ≡ false
unfolding count
count_none f zero k e l = absurd (omega arith)
count_none f (suc n) k e l = elim (eqb_tells k n) [ inl u ↦ rw u.1 (grind arith) | inr u ↦ count_none f n k (grind arith) (grind arith) ]

pub count_same : (f g : ℕ → Bool) (n : ℕ) → ((k : ℕ) → k < n → f k ≡ g k) → count f n ≡ count g n
unfolding count
count_same f g zero h = refl
count_same f g (suc n) h = let ih = count_same f g n (λ k l. h k (grind arith)) in let e = h n (grind arith) in grind arith

-- one more at j
pub count_more : (f g : ℕ → Bool) (n j : ℕ) → j < n → f j ≡ false → g j ≡ true → ((k : ℕ) → k < n → (k ≡ j → ⊥) → f k ≡ g k) → count g n ≡ count f n + 1
unfolding count
count_more f g zero j l a b h = absurd (omega arith)
count_more f g (suc n) j l a b h = elim (eqb_tells j n) [
  | inl u ↦ let fn : f n ≡ false = rw (← u.1) a in let gn : g n ≡ true = rw (← u.1) b in let e = count_same f g n (λ k m. h k (grind arith) (λ z. grind arith)) in grind arith
  | inr u ↦ let ih = count_more f g n j (grind arith) a b (λ k m d. h k (grind arith) d) in let e = h n (grind arith) (λ z. u.1 (sym z)) in grind arith
]

notbusy : (b : Bool) → (b ≡ true → ⊥) → b ≡ false
notbusy true f = absurd (f refl)
notbusy false f = refl

-- node i acts on what y sent, and y, above it, seeks
pub still_waited : {t : Graph} {i y w : ℕ} {A B : View} {m : Message} {g : Held} {os : List Send} {p q : List Message} → Knows t i y A B p q → (A.held.status ≡ Sleeping → ⊥) → Suits m A B → (d : Deed t i A.held (got y m) g os) → B.held.status ≡ Find → Child y i w B A (control1 m ++ q) p →
    waited (control1 m ++ q) p A.held.status ≡ waited q (p ++ control (out_to y os)) g.status
still_waited {t} {i} {y} {w} {A} {B} {p = p} {q} k1 aw ft (Absorbs {l} c1) st0 v = absurd v.down
still_waited {t} {i} {y} {w} {A} {B} {p = p} {q} k1 aw ft (Merges {l} c1 c2) st0 v = absurd v.down
still_waited {t} {i} {y} {w} {A} {B} {p = p} {q} k1 aw ft (Begins {l} {f} {s} c1) st0 v = let cl = chain_low B.held.level B.held.name B.held.status l f q v.down.2 in let e0 : p ≡ [] = grind arith in rw (onward_self A.held y l f s t.count [], e0) (grind arith)
still_waited {t} {i} {y} {w} {A} {B} {p = p} {q} k1 aw ft (Searches-ask {l} {f} k c1) st0 v = let cl = chain_low B.held.level B.held.name B.held.status l f q v.down.2 in let e0 : p ≡ [] = grind arith in rw (onward_self A.held y l f phase.Find t.count (one k (Test l f)), test_none y k l f, e0) (grind arith)
still_waited {t} {i} {y} {w} {A} {B} {p = p} {q} k1 aw ft (Searches-report {l} {f} c1 c2 c3) st0 v = let cl = chain_low B.held.level B.held.name B.held.status l f q v.down.2 in let e0 : p ≡ [] = grind arith in rw (onward_self A.held y l f phase.Find t.count (one y (Report None)), to_self y (Report None), e0) (grind arith)
still_waited {t} {i} {y} {w} {A} {B} {p = p} {q} k1 aw ft (Searches-wait {l} {f} c1 c2) st0 v = let cl = chain_low B.held.level B.held.name B.held.status l f q v.down.2 in let e0 : p ≡ [] = grind arith in rw (onward_self A.held y l f phase.Find t.count [], e0) (grind arith)
still_waited {t} {i} {y} {w} {A} {B} {p = p} {q} k1 aw ft (Accepts {l} {f} c1 c2) st0 v = rw (to_self y Accept, append-nil) (grind arith)
still_waited {t} {i} {y} {w} {A} {B} {p = p} {q} k1 aw ft (Rejects {l} {f} c1 c2 c3) st0 v = rw (to_self y Reject, append-nil) (grind arith)
still_waited {t} {i} {y} {w} {A} {B} {p = p} {q} k1 aw ft (Crosses-ask {l} {f} k c1 c2 c3 c4) st0 v = rw (test_none y k A.held.level A.held.name, append-nil) (grind arith)
still_waited {t} {i} {y} {w} {A} {B} {p = p} {q} k1 aw ft (Crosses-report {l} {f} c1 c2 c3 c4 c5 c6) st0 v = let a = k1.asks in let st : A.held.status ≡ Find = grind arith in let low = down_low y w B.held.level B.held.name B.held.status A.held A.own.reported q v.down in let n1 = k1.mine in let i1 : A.held.parent ≡ Some y = grind arith in let cu : busy q ≡ false = notbusy (busy q) (λ u. grind arith) in let o : out_to y (send_to A.held.parent (Report A.held.best_weight)) ≡ Report A.held.best_weight ∷ [] = rw i1 (to_self y (Report A.held.best_weight)) in rw o (let fm = full_more p (Report A.held.best_weight) in grind arith)
still_waited {t} {i} {y} {w} {A} {B} {p = p} {q} k1 aw ft (Crosses-wait {l} {f} c1 c2 c3 c4 c5) st0 v = rw append-nil (grind arith)
still_waited {t} {i} {y} {w} {A} {B} {p = p} {q} k1 aw ft (Accepted-report c1 c2) st0 v = let st : A.held.status ≡ Find = ft in let low = down_low y w B.held.level B.held.name B.held.status A.held A.own.reported q v.down in let n1 = k1.mine in let i1 : A.held.parent ≡ Some y = grind arith in let cu : busy q ≡ false = notbusy (busy q) (λ u. grind arith) in let o : out_to y (send_to A.held.parent (Report (bettering y (Some (t.weight i y)) (testing_now None A.held)).best_weight)) ≡ Report (bettering y (Some (t.weight i y)) (testing_now None A.held)).best_weight ∷ [] = rw i1 (to_self y (Report (bettering y (Some (t.weight i y)) (testing_now None A.held)).best_weight)) in rw o (let fm = full_more p (Report (bettering y (Some (t.weight i y)) (testing_now None A.held)).best_weight) in grind arith)
still_waited {t} {i} {y} {w} {A} {B} {p = p} {q} k1 aw ft (Accepted-wait c1) st0 v = rw append-nil (grind arith)
still_waited {t} {i} {y} {w} {A} {B} {p = p} {q} k1 aw ft (Rejected-ask k c1) st0 v = rw (test_none y k A.held.level A.held.name, append-nil) (grind arith)
still_waited {t} {i} {y} {w} {A} {B} {p = p} {q} k1 aw ft (Rejected-report c1 c2 c3) st0 v = let st : A.held.status ≡ Find = ft.0 in let low = down_low y w B.held.level B.held.name B.held.status A.held A.own.reported q v.down in let n1 = k1.mine in let i1 : A.held.parent ≡ Some y = grind arith in let cu : busy q ≡ false = notbusy (busy q) (λ u. grind arith) in let o : out_to y (send_to A.held.parent (Report A.held.best_weight)) ≡ Report A.held.best_weight ∷ [] = rw i1 (to_self y (Report A.held.best_weight)) in rw o (let fm = full_more p (Report A.held.best_weight) in grind arith)
still_waited {t} {i} {y} {w} {A} {B} {p = p} {q} k1 aw ft (Rejected-wait c1 c2) st0 v = rw append-nil (grind arith)
still_waited {t} {i} {y} {w = x} {A} {B} {p = p} {q} k1 aw ft (Hears-report {w} c1 c2 c3) st0 v = absurd (let o = v.down.0.parent in grind arith)
still_waited {t} {i} {y} {w = x} {A} {B} {p = p} {q} k1 aw ft (Hears-wait {w} c1 c2) st0 v = absurd (let o = v.down.0.parent in grind arith)
still_waited {t} {i} {y} {w = x} {A} {B} {p = p} {q} k1 aw ft (Decides-passes {w} k c1 c2 c3 c4 c5) st0 v = absurd (let o = v.down.0.lighter in grind arith)
still_waited {t} {i} {y} {w = x} {A} {B} {p = p} {q} k1 aw ft (Decides-joins {w} k c1 c2 c3 c4 c5) st0 v = absurd (let o = v.down.0.lighter in grind arith)
still_waited {t} {i} {y} {w = x} {A} {B} {p = p} {q} k1 aw ft (Halts {w} c1 c2 c3 c4) st0 v = absurd (let o = v.down.0.lighter in grind arith)
still_waited {t} {i} {y} {w = x} {A} {B} {p = p} {q} k1 aw ft (Rests {w} c1 c2 c3 c4) st0 v = rw append-nil (grind arith)
still_waited {t} {i} {y} {w} {A} {B} {p = p} {q} k1 aw ft (Changed-passes k c1 c2) st0 v = absurd v.down
still_waited {t} {i} {y} {w} {A} {B} {p = p} {q} k1 aw ft (Changed-joins k c1 c2) st0 v = absurd v.down
