-- What every message that was sent is charged to.
use Rattle.std.proofs.Common.{◌≡◌, ℕ, zero, suc, ◌+◌, ◌<◌, ◌≤◌, Bool, true, false, cond, not, ◌&&◌, eqb, ltb, leb, ◌⊎◌, List, [], ◌∷◌, ◌++◌, length, Some, None, Option, refl, arith, length-append}
use Rattle.message.specs.declared.messages.Message.{Message}
use Rattle.message.specs.declared.messages.Message.TheVariants.{Connect, Initiate, Test, Accept, Reject, Report, Change}
use Rattle.node.specs.declared.state.Status.TheVariants.{Sleeping, Find}
use Rattle.graph.specs.declared.mark.Mark.{Mark}
use Rattle.graph.specs.declared.mark.Mark.TheVariants.{Basic, Branch, Rejected}
use Rattle.node.specs.Rules.{is_branch, lighter}
use Rattle.graph.specs.Graph.{Graph, Edge}
use Rattle.protocol.proofs.Deed.{woke, In, got, Deed, Alone, WokeTo, Absorbs, Merges, Begins, Searches-ask, Searches-report, Searches-wait, Accepts, Rejects, Crosses-ask, Crosses-report, Crosses-wait, Accepted-report, Accepted-wait, Rejected-ask, Rejected-report, Rejected-wait, Hears-report, Hears-wait, Decides-passes, Decides-joins, Halts, Rests, Changed-passes, Changed-joins}
use Rattle.protocol.proofs.Frame.{Awake}
use Rattle.protocol.proofs.Ghost.{Own, View, turn, mine}
use Rattle.protocol.proofs.Held.{Send, Held, is_none, rejecting, testing_now, hearing, bettering, joining, onward, send_to}
use Rattle.protocol.proofs.Outs.{out_to, out_to-++, out_to_onward}
use Rattle.protocol.proofs.Sum.{sum, sum_zero, at, sum_one}
use Rattle.message.specs.declared.messages.Phase.TheVariants as phase

-- spent: what was charged at levels that are over; accepted: an accept was taken at this level; waste: how many of its questions over an edge that had become a branch were refused
pub record Purse : Type 0 where
  pub spent : ℕ
  pub accepted : Bool
  pub waste : ℕ → ℕ

abbrev pub bit : Bool → ℕ
bit b = cond b 1 0

abbrev pub is_ruled : Mark → Bool
is_ruled Basic = false
is_ruled Branch = false
is_ruled Rejected = true

-- what a message under way is charged as, by the mark of the edge at the node that sent it
abbrev pub weigh : Mark → Message → ℕ
weigh m (Connect l) = 0
weigh m (Initiate l f s) = 1
weigh m (Test l f) = 0
weigh m Accept = 1
weigh m Reject = bit (is_branch m)
weigh m (Report w) = 0
weigh m Change = 0

abbrev pub load : Mark → List Message → ℕ
load m [] = 0
load m (x ∷ q) = weigh m x + load m q

abbrev pub is_reject : Message → ℕ
is_reject (Connect l) = 0
is_reject (Initiate l f s) = 0
is_reject (Test l f) = 0
is_reject Accept = 0
is_reject Reject = 1
is_reject (Report w) = 0
is_reject Change = 0

abbrev pub rejects : List Message → ℕ
rejects [] = 0
rejects (x ∷ q) = is_reject x + rejects q

pub load-++ : (m : Mark) (p q : List Message) → load m (p ++ q) ≡ load m p + load m q
load-++ m [] q = omega arith
load-++ m (x ∷ p) q = let ih = load-++ m p q in omega arith

weigh_laid : (x : Message) → weigh Branch x ≡ weigh Basic x + is_reject x
weigh_laid (Connect l) = refl
weigh_laid (Initiate l f s) = refl
weigh_laid (Test l f) = refl
weigh_laid Accept = refl
weigh_laid Reject = refl
weigh_laid (Report w) = refl
weigh_laid Change = refl

weigh_ruled : (x : Message) → weigh Rejected x ≡ weigh Basic x
weigh_ruled (Connect l) = refl
weigh_ruled (Initiate l f s) = refl
weigh_ruled (Test l f) = refl
weigh_ruled Accept = refl
weigh_ruled Reject = refl
weigh_ruled (Report w) = refl
weigh_ruled Change = refl

pub load_laid : (q : List Message) → load Branch q ≡ load Basic q + rejects q
load_laid [] = refl
load_laid (x ∷ q) = let ih = load_laid q in let e = weigh_laid x in omega arith

pub load_ruled : (q : List Message) → load Rejected q ≡ load Basic q
load_ruled [] = refl
load_ruled (x ∷ q) = let ih = load_ruled q in let e = weigh_ruled x in omega arith

-- what one end of an edge is charged: its mark, its waste, and what is under way from it
abbrev pub cell : Mark → ℕ → List Message → ℕ
cell m w q = bit (is_ruled m) + (w + w) + load m q

-- what a node is charged at its present level, but for what is under way to it; and with what is over
abbrev pub due : Held → Own → Purse → ℕ
due h o p = bit (ltb 0 h.level) + bit p.accepted + bit p.accepted + bit o.reported + bit o.changed + cond (is_none h.testing) 0 1

abbrev pub paid : Held → Own → Purse → ℕ
paid h o p = p.spent + due h o p

-- by how much the end at k of the acting node rises; and all of its ends
abbrev pub gain : {t : Graph} {i : ℕ} {h g : Held} {inp : In} {os : List Send} → Deed t i h inp g os → ℕ → ℕ
gain {t} {i} {h} (Alone c1) z = 0
gain {t} {i} {h} (WokeTo k c1) z = 0
gain {t} {i} {h} (Absorbs {j} {l} c1) z = at j 1 z
gain {t} {i} {h} (Merges {j} {l} c1 c2) z = at j 1 z
gain {t} {i} {h} (Begins {j} {l} {f} {s} c1) z = bit (is_branch (h.mark z) && not (eqb z j))
gain {t} {i} {h} (Searches-ask {j} {l} {f} k c1) z = bit (is_branch (h.mark z) && not (eqb z j))
gain {t} {i} {h} (Searches-report {j} {l} {f} c1 c2 c3) z = bit (is_branch (h.mark z) && not (eqb z j))
gain {t} {i} {h} (Searches-wait {j} {l} {f} c1 c2) z = bit (is_branch (h.mark z) && not (eqb z j))
gain {t} {i} {h} (Accepts {j} {l} {f} c1 c2) z = at j 1 z
gain {t} {i} {h} (Rejects {j} {l} {f} c1 c2 c3) z = at j 1 z
gain {t} {i} {h} (Crosses-ask {j} {l} {f} k c1 c2 c3 c4) z = at j 1 z
gain {t} {i} {h} (Crosses-report {j} {l} {f} c1 c2 c3 c4 c5 c6) z = at j 1 z
gain {t} {i} {h} (Crosses-wait {j} {l} {f} c1 c2 c3 c4 c5) z = at j 1 z
gain {t} {i} {h} (Accepted-report {j} c1 c2) z = 0
gain {t} {i} {h} (Accepted-wait {j} c1) z = 0
gain {t} {i} {h} (Rejected-ask {j} k c1) z = at j (cond (is_branch (h.mark j)) 2 1) z
gain {t} {i} {h} (Rejected-report {j} c1 c2 c3) z = at j (cond (is_branch (h.mark j)) 2 1) z
gain {t} {i} {h} (Rejected-wait {j} c1 c2) z = at j (cond (is_branch (h.mark j)) 2 1) z
gain {t} {i} {h} (Hears-report {j} {w} c1 c2 c3) z = 0
gain {t} {i} {h} (Hears-wait {j} {w} c1 c2) z = 0
gain {t} {i} {h} (Decides-passes {j} {w} k c1 c2 c3 c4 c5) z = 0
gain {t} {i} {h} (Decides-joins {j} {w} k c1 c2 c3 c4 c5) z = 0
gain {t} {i} {h} (Halts {j} {w} c1 c2 c3 c4) z = 0
gain {t} {i} {h} (Rests {j} {w} c1 c2 c3 c4) z = 0
gain {t} {i} {h} (Changed-passes {j} k c1 c2) z = 0
gain {t} {i} {h} (Changed-joins {j} k c1 c2) z = 0

abbrev pub gains : {t : Graph} {i : ℕ} {h g : Held} {inp : In} {os : List Send} → Deed t i h inp g os → ℕ
gains {t} {i} {h} (Alone c1) = 0
gains {t} {i} {h} (WokeTo k c1) = 0
gains {t} {i} {h} (Absorbs {j} {l} c1) = 1
gains {t} {i} {h} (Merges {j} {l} c1 c2) = 1
gains {t} {i} {h} (Begins {j} {l} {f} {s} c1) = length (onward h j (Initiate l f s) t.count)
gains {t} {i} {h} (Searches-ask {j} {l} {f} k c1) = length (onward h j (Initiate l f phase.Find) t.count)
gains {t} {i} {h} (Searches-report {j} {l} {f} c1 c2 c3) = length (onward h j (Initiate l f phase.Find) t.count)
gains {t} {i} {h} (Searches-wait {j} {l} {f} c1 c2) = length (onward h j (Initiate l f phase.Find) t.count)
gains {t} {i} {h} (Accepts {j} {l} {f} c1 c2) = 1
gains {t} {i} {h} (Rejects {j} {l} {f} c1 c2 c3) = 1
gains {t} {i} {h} (Crosses-ask {j} {l} {f} k c1 c2 c3 c4) = 1
gains {t} {i} {h} (Crosses-report {j} {l} {f} c1 c2 c3 c4 c5 c6) = 1
gains {t} {i} {h} (Crosses-wait {j} {l} {f} c1 c2 c3 c4 c5) = 1
gains {t} {i} {h} (Accepted-report {j} c1 c2) = 0
gains {t} {i} {h} (Accepted-wait {j} c1) = 0
gains {t} {i} {h} (Rejected-ask {j} k c1) = cond (is_branch (h.mark j)) 2 1
gains {t} {i} {h} (Rejected-report {j} c1 c2 c3) = cond (is_branch (h.mark j)) 2 1
gains {t} {i} {h} (Rejected-wait {j} c1 c2) = cond (is_branch (h.mark j)) 2 1
gains {t} {i} {h} (Hears-report {j} {w} c1 c2 c3) = 0
gains {t} {i} {h} (Hears-wait {j} {w} c1 c2) = 0
gains {t} {i} {h} (Decides-passes {j} {w} k c1 c2 c3 c4 c5) = 0
gains {t} {i} {h} (Decides-joins {j} {w} k c1 c2 c3 c4 c5) = 0
gains {t} {i} {h} (Halts {j} {w} c1 c2 c3 c4) = 0
gains {t} {i} {h} (Rests {j} {w} c1 c2 c3 c4) = 0
gains {t} {i} {h} (Changed-passes {j} k c1 c2) = 0
gains {t} {i} {h} (Changed-joins {j} k c1 c2) = 0

-- the purse afterwards; o is the ghost of the node before
abbrev pub booked : {t : Graph} {i : ℕ} {h g : Held} {inp : In} {os : List Send} → Deed t i h inp g os → Own → Purse → Purse
booked {t} {i} {h} (Alone c1) o p = p
booked {t} {i} {h} (WokeTo k c1) o p = p
booked {t} {i} {h} (Absorbs {j} {l} c1) o p = p
booked {t} {i} {h} (Merges {j} {l} c1 c2) o p = p
booked {t} {i} {h} (Begins {j} {l} {f} {s} c1) o p = record { spent = paid h o p; accepted = false; waste = p.waste }
booked {t} {i} {h} (Searches-ask {j} {l} {f} k c1) o p = record { spent = paid h o p; accepted = false; waste = p.waste }
booked {t} {i} {h} (Searches-report {j} {l} {f} c1 c2 c3) o p = record { spent = paid h o p; accepted = false; waste = p.waste }
booked {t} {i} {h} (Searches-wait {j} {l} {f} c1 c2) o p = record { spent = paid h o p; accepted = false; waste = p.waste }
booked {t} {i} {h} (Accepts {j} {l} {f} c1 c2) o p = p
booked {t} {i} {h} (Rejects {j} {l} {f} c1 c2 c3) o p = p
booked {t} {i} {h} (Crosses-ask {j} {l} {f} k c1 c2 c3 c4) o p = p
booked {t} {i} {h} (Crosses-report {j} {l} {f} c1 c2 c3 c4 c5 c6) o p = p
booked {t} {i} {h} (Crosses-wait {j} {l} {f} c1 c2 c3 c4 c5) o p = p
booked {t} {i} {h} (Accepted-report {j} c1 c2) o p = record { spent = p.spent; accepted = true; waste = p.waste }
booked {t} {i} {h} (Accepted-wait {j} c1) o p = record { spent = p.spent; accepted = true; waste = p.waste }
booked {t} {i} {h} (Rejected-ask {j} k c1) o p = record { spent = p.spent; accepted = p.accepted; waste = λ z. p.waste z + cond (eqb z j && is_branch (h.mark j)) 1 0 }
booked {t} {i} {h} (Rejected-report {j} c1 c2 c3) o p = record { spent = p.spent; accepted = p.accepted; waste = λ z. p.waste z + cond (eqb z j && is_branch (h.mark j)) 1 0 }
booked {t} {i} {h} (Rejected-wait {j} c1 c2) o p = record { spent = p.spent; accepted = p.accepted; waste = λ z. p.waste z + cond (eqb z j && is_branch (h.mark j)) 1 0 }
booked {t} {i} {h} (Hears-report {j} {w} c1 c2 c3) o p = p
booked {t} {i} {h} (Hears-wait {j} {w} c1 c2) o p = p
booked {t} {i} {h} (Decides-passes {j} {w} k c1 c2 c3 c4 c5) o p = p
booked {t} {i} {h} (Decides-joins {j} {w} k c1 c2 c3 c4 c5) o p = p
booked {t} {i} {h} (Halts {j} {w} c1 c2 c3 c4) o p = p
booked {t} {i} {h} (Rests {j} {w} c1 c2 c3 c4) o p = p
booked {t} {i} {h} (Changed-passes {j} k c1 c2) o p = p
booked {t} {i} {h} (Changed-joins {j} k c1 c2) o p = p

-- what the other invariants give of the message that is taken from j, where M is the mark of the edge at j's end
abbrev pub Owes : ℕ → Message → Mark → ℕ → Held → Own → Type 0
Owes j (Connect l) M L h o = l < h.level → h.mark j ≡ Basic
Owes j (Initiate l f s) M L h o = (h.level < l) × (h.testing ≡ None)
Owes j (Test l f) M L h o = (h.mark j ≡ Rejected → ⊥) × (h.testing ≡ Some j → (h.mark j ≡ Basic) × (o.reported ≡ false))
Owes j Accept M L h o = (h.testing ≡ Some j) × (o.reported ≡ false)
Owes j Reject M L h o = (h.testing ≡ Some j) × (o.reported ≡ false) × (((h.mark j ≡ Basic) × (M ≡ Rejected)) ⊎ ((h.mark j ≡ Branch) × (M ≡ Branch)))
Owes j (Report w) M L h o = ((h.parent ≡ Some j → ⊥) → o.reported ≡ false) × (h.parent ≡ Some j → (h.status ≡ Find → ⊥) → lighter h.best_weight w ≡ true → (o.changed ≡ false) × (h.level ≡ L))
Owes j Change M L h o = (o.changed ≡ false) × (h.level ≡ L)

abbrev pub OwesIn : In → Mark → ℕ → Held → Own → Type 0
OwesIn woke M L h o = (o.changed ≡ false) × (h.level ≡ 0)
OwesIn (got j m) M L h o = Owes j m M L h o

abbrev pub weigh_in : In → Mark → ℕ
weigh_in woke M = 0
weigh_in (got j m) M = weigh M m

-- of each of its edges: no reject is under way from an end that is basic; what it would join by is not rejected out; sleeping it is basic of all
pub record Clean (k L : ℕ) (h : Held) (o : Own) (q : List Message) : Type 0 where
  pub refuses : h.mark k ≡ Basic → rejects q ≡ 0
  pub best : o.changed ≡ false → h.level ≡ L → h.best ≡ Some k → h.mark k ≡ Rejected → ⊥
  pub sleeps : h.status ≡ Sleeping → h.mark k ≡ Basic

-- an end that was basic
to_laid : (M : Mark) (w : ℕ) (q : List Message) → M ≡ Basic → (M ≡ Basic → rejects q ≡ 0) → cell M w q ≤ cell Branch w q
to_laid M w q e r = let a = load_laid q in let z = r e in rw e (omega arith)

to_ruled : (M : Mark) (w : ℕ) (q : List Message) → M ≡ Basic → cell M w q + 1 ≤ cell Rejected w q
to_ruled M w q e = let a = load_ruled q in rw e (omega arith)

more : (m : Mark) (w : ℕ) (q : List Message) (x : Message) → cell m w (q ++ (x ∷ [])) ≡ cell m w q + weigh m x
more m w q x = let e = load-++ m q (x ∷ []) in omega arith

-- each end of the acting node rises by its gain
pub row : {t : Graph} {i : ℕ} {h g : Held} {inp : In} {os : List Send} (d : Deed t i h inp g os) (M : Mark) (L : ℕ) (o : Own) (p : Purse) → Awake h inp → OwesIn inp M L h o → (k : ℕ) (q : List Message) → k < t.count → Clean k L h o q →
    cell (h.mark k) (p.waste k) q + gain d k ≤ cell (g.mark k) ((booked d o p).waste k) (q ++ out_to k os)
row {t} {i} {h} (Alone c1) M L o p aw ow k q lt cl = let a = load_laid q in let b = load_ruled q in rw load-++ (grind (arith, out_to-++, out_to_onward))
row {t} {i} {h} (WokeTo y c1) M L o p aw ow k q lt cl = let a = load_laid q in let b = load_ruled q in rw load-++ (grind (arith, out_to-++, out_to_onward))
row {t} {i} {h} (Absorbs {j} {l} c1) M L o p aw ow k q lt cl = let a = load_laid q in let b = load_ruled q in rw load-++ (grind (arith, out_to-++, out_to_onward))
row {t} {i} {h} (Merges {j} {l} c1 c2) M L o p aw ow k q lt cl = let a = load_laid q in let b = load_ruled q in rw load-++ (grind (arith, out_to-++, out_to_onward))
row {t} {i} {h} (Begins {j} {l} {f} {s} c1) M L o p aw ow k q lt cl = rw (load-++, out_to-++, out_to_onward, load-++) (grind arith)
row {t} {i} {h} (Searches-ask {j} {l} {f} y c1) M L o p aw ow k q lt cl = rw (load-++, out_to-++, out_to_onward, load-++) (grind arith)
row {t} {i} {h} (Searches-report {j} {l} {f} c1 c2 c3) M L o p aw ow k q lt cl = rw (load-++, out_to-++, out_to_onward, load-++) (grind arith)
row {t} {i} {h} (Searches-wait {j} {l} {f} c1 c2) M L o p aw ow k q lt cl = rw (load-++, out_to-++, out_to_onward, load-++) (grind arith)
row {t} {i} {h} (Accepts {j} {l} {f} c1 c2) M L o p aw ow k q lt cl = let a = load_laid q in let b = load_ruled q in rw load-++ (grind (arith, out_to-++, out_to_onward))
row {t} {i} {h} (Rejects {j} {l} {f} c1 c2 c3) M L o p aw ow k q lt cl = let a = load_laid q in let b = load_ruled q in rw load-++ (grind (arith, out_to-++, out_to_onward))
row {t} {i} {h} (Crosses-ask {j} {l} {f} y c1 c2 c3 c4) M L o p aw ow k q lt cl = let a = load_laid q in let b = load_ruled q in rw load-++ (grind (arith, out_to-++, out_to_onward))
row {t} {i} {h} (Crosses-report {j} {l} {f} c1 c2 c3 c4 c5 c6) M L o p aw ow k q lt cl = let a = load_laid q in let b = load_ruled q in rw load-++ (grind (arith, out_to-++, out_to_onward))
row {t} {i} {h} (Crosses-wait {j} {l} {f} c1 c2 c3 c4 c5) M L o p aw ow k q lt cl = let a = load_laid q in let b = load_ruled q in rw load-++ (grind (arith, out_to-++, out_to_onward))
row {t} {i} {h} (Accepted-report {j} c1 c2) M L o p aw ow k q lt cl = let a = load_laid q in let b = load_ruled q in rw load-++ (grind (arith, out_to-++, out_to_onward))
row {t} {i} {h} (Accepted-wait {j} c1) M L o p aw ow k q lt cl = let a = load_laid q in let b = load_ruled q in rw load-++ (grind (arith, out_to-++, out_to_onward))
row {t} {i} {h} (Rejected-ask {j} y c1) M L o p aw ow k q lt cl = let a = load_laid q in let b = load_ruled q in rw load-++ (grind (arith, out_to-++, out_to_onward))
row {t} {i} {h} (Rejected-report {j} c1 c2 c3) M L o p aw ow k q lt cl = let a = load_laid q in let b = load_ruled q in rw load-++ (grind (arith, out_to-++, out_to_onward))
row {t} {i} {h} (Rejected-wait {j} c1 c2) M L o p aw ow k q lt cl = let a = load_laid q in let b = load_ruled q in rw load-++ (grind (arith, out_to-++, out_to_onward))
row {t} {i} {h} (Hears-report {j} {w} c1 c2 c3) M L o p aw ow k q lt cl = let a = load_laid q in let b = load_ruled q in rw load-++ (grind (arith, out_to-++, out_to_onward))
row {t} {i} {h} (Hears-wait {j} {w} c1 c2) M L o p aw ow k q lt cl = let a = load_laid q in let b = load_ruled q in rw load-++ (grind (arith, out_to-++, out_to_onward))
row {t} {i} {h} (Decides-passes {j} {w} y c1 c2 c3 c4 c5) M L o p aw ow k q lt cl = let a = load_laid q in let b = load_ruled q in rw load-++ (grind (arith, out_to-++, out_to_onward))
row {t} {i} {h} (Decides-joins {j} {w} y c1 c2 c3 c4 c5) M L o p aw ow k q lt cl = let a = load_laid q in let b = load_ruled q in rw load-++ (grind (arith, out_to-++, out_to_onward))
row {t} {i} {h} (Halts {j} {w} c1 c2 c3 c4) M L o p aw ow k q lt cl = let a = load_laid q in let b = load_ruled q in rw load-++ (grind (arith, out_to-++, out_to_onward))
row {t} {i} {h} (Rests {j} {w} c1 c2 c3 c4) M L o p aw ow k q lt cl = let a = load_laid q in let b = load_ruled q in rw load-++ (grind (arith, out_to-++, out_to_onward))
row {t} {i} {h} (Changed-passes {j} y c1 c2) M L o p aw ow k q lt cl = let a = load_laid q in let b = load_ruled q in rw load-++ (grind (arith, out_to-++, out_to_onward))
row {t} {i} {h} (Changed-joins {j} y c1 c2) M L o p aw ow k q lt cl = let a = load_laid q in let b = load_ruled q in rw load-++ (grind (arith, out_to-++, out_to_onward))

send_one : (w : Option ℕ) (x : Message) → length (send_to w x) ≤ 1
send_one None x = omega arith
send_one (Some j) x = omega arith

-- the books balance
pub balance : {t : Graph} {i : ℕ} (A J : View) {inp : In} {g : Held} {os : List Send} (d : Deed t i A.held inp g os) (M : Mark) (L : ℕ) (p : Purse) → OwesIn inp M L A.held A.own → (p.accepted ≡ true → A.held.testing ≡ None) →
    length os + paid A.held A.own p + weigh_in inp M ≤ paid g (mine (turn d) A J) (booked d A.own p) + gains d
balance {t} {i} A J (Alone c1) M L p ow ac = (grind arith)
balance {t} {i} A J (WokeTo y c1) M L p ow ac = (grind arith)
balance {t} {i} A J (Absorbs {j} {l} c1) M L p ow ac = (grind arith)
balance {t} {i} A J (Merges {j} {l} c1 c2) M L p ow ac = (grind arith)
balance {t} {i} A J (Begins {j} {l} {f} {s} c1) M L p ow ac = rw (length-append) (grind arith)
balance {t} {i} A J (Searches-ask {j} {l} {f} y c1) M L p ow ac = rw (length-append) (grind arith)
balance {t} {i} A J (Searches-report {j} {l} {f} c1 c2 c3) M L p ow ac = let so = send_one (testing_now None (joining t j l f phase.Find A.held)).parent (Report (testing_now None (joining t j l f phase.Find A.held)).best_weight) in rw (length-append) (grind arith)
balance {t} {i} A J (Searches-wait {j} {l} {f} c1 c2) M L p ow ac = rw (length-append) (grind arith)
balance {t} {i} A J (Accepts {j} {l} {f} c1 c2) M L p ow ac = (grind arith)
balance {t} {i} A J (Rejects {j} {l} {f} c1 c2 c3) M L p ow ac = (grind arith)
balance {t} {i} A J (Crosses-ask {j} {l} {f} y c1 c2 c3 c4) M L p ow ac = (grind arith)
balance {t} {i} A J (Crosses-report {j} {l} {f} c1 c2 c3 c4 c5 c6) M L p ow ac = let so = send_one (testing_now None (rejecting j A.held)).parent (Report (testing_now None (rejecting j A.held)).best_weight) in (grind arith)
balance {t} {i} A J (Crosses-wait {j} {l} {f} c1 c2 c3 c4 c5) M L p ow ac = (grind arith)
balance {t} {i} A J (Accepted-report {j} c1 c2) M L p ow ac = let so = send_one (bettering j (Some (t.weight i j)) (testing_now None A.held)).parent (Report (bettering j (Some (t.weight i j)) (testing_now None A.held)).best_weight) in (grind arith)
balance {t} {i} A J (Accepted-wait {j} c1) M L p ow ac = (grind arith)
balance {t} {i} A J (Rejected-ask {j} y c1) M L p ow ac = (grind arith)
balance {t} {i} A J (Rejected-report {j} c1 c2 c3) M L p ow ac = let so = send_one (testing_now None (rejecting j A.held)).parent (Report (testing_now None (rejecting j A.held)).best_weight) in (grind arith)
balance {t} {i} A J (Rejected-wait {j} c1 c2) M L p ow ac = (grind arith)
balance {t} {i} A J (Hears-report {j} {w} c1 c2 c3) M L p ow ac = let so = send_one (bettering j w (hearing A.held)).parent (Report (bettering j w (hearing A.held)).best_weight) in (grind arith)
balance {t} {i} A J (Hears-wait {j} {w} c1 c2) M L p ow ac = (grind arith)
balance {t} {i} A J (Decides-passes {j} {w} y c1 c2 c3 c4 c5) M L p ow ac = (grind arith)
balance {t} {i} A J (Decides-joins {j} {w} y c1 c2 c3 c4 c5) M L p ow ac = (grind arith)
balance {t} {i} A J (Halts {j} {w} c1 c2 c3 c4) M L p ow ac = (grind arith)
balance {t} {i} A J (Rests {j} {w} c1 c2 c3 c4) M L p ow ac = (grind arith)
balance {t} {i} A J (Changed-passes {j} y c1 c2) M L p ow ac = (grind arith)
balance {t} {i} A J (Changed-joins {j} y c1 c2) M L p ow ac = (grind arith)

-- all gains together
sum_onward : (h : Held) (j : ℕ) (m : Message) (n : ℕ) → sum (λ z. bit (is_branch (h.mark z) && not (eqb z j))) n ≡ length (onward h j m n)
unfolding sum onward
sum_onward h j m zero = refl
sum_onward h j m (suc n) = next (is_branch (h.mark n) && not (eqb n j)) n m (onward h j m n) (sum_onward h j m n)
  where
    next : (b : Bool) (n : ℕ) (m : Message) (r : List Send) {v : ℕ} → v ≡ length r → bit b + v ≡ length (cond b (record { over = n; message = m } ∷ []) [] ++ r)
    next true n m r e = omega arith
    next false n m r e = omega arith

abbrev pub FromIn : Graph → In → Type 0
FromIn t woke = Unit {0}
FromIn t (got j m) = j < t.count

pub gain_sum : {t : Graph} {i : ℕ} {h g : Held} {inp : In} {os : List Send} (d : Deed t i h inp g os) → FromIn t inp → sum (gain d) t.count ≡ gains d
gain_sum {t} {i} {h} (Alone c1) l0 = sum_zero (λ z. 0) t.count (λ a b. refl)
gain_sum {t} {i} {h} (WokeTo k c1) l0 = sum_zero (λ z. 0) t.count (λ a b. refl)
gain_sum {t} {i} {h} (Absorbs {j} {l} c1) l0 = sum_one j 1 t.count l0
gain_sum {t} {i} {h} (Merges {j} {l} c1 c2) l0 = sum_one j 1 t.count l0
gain_sum {t} {i} {h} (Begins {j} {l} {f} {s} c1) l0 = sum_onward h j (Initiate l f s) t.count
gain_sum {t} {i} {h} (Searches-ask {j} {l} {f} k c1) l0 = sum_onward h j (Initiate l f phase.Find) t.count
gain_sum {t} {i} {h} (Searches-report {j} {l} {f} c1 c2 c3) l0 = sum_onward h j (Initiate l f phase.Find) t.count
gain_sum {t} {i} {h} (Searches-wait {j} {l} {f} c1 c2) l0 = sum_onward h j (Initiate l f phase.Find) t.count
gain_sum {t} {i} {h} (Accepts {j} {l} {f} c1 c2) l0 = sum_one j 1 t.count l0
gain_sum {t} {i} {h} (Rejects {j} {l} {f} c1 c2 c3) l0 = sum_one j 1 t.count l0
gain_sum {t} {i} {h} (Crosses-ask {j} {l} {f} k c1 c2 c3 c4) l0 = sum_one j 1 t.count l0
gain_sum {t} {i} {h} (Crosses-report {j} {l} {f} c1 c2 c3 c4 c5 c6) l0 = sum_one j 1 t.count l0
gain_sum {t} {i} {h} (Crosses-wait {j} {l} {f} c1 c2 c3 c4 c5) l0 = sum_one j 1 t.count l0
gain_sum {t} {i} {h} (Accepted-report {j} c1 c2) l0 = sum_zero (λ z. 0) t.count (λ a b. refl)
gain_sum {t} {i} {h} (Accepted-wait {j} c1) l0 = sum_zero (λ z. 0) t.count (λ a b. refl)
gain_sum {t} {i} {h} (Rejected-ask {j} k c1) l0 = sum_one j (cond (is_branch (h.mark j)) 2 1) t.count l0
gain_sum {t} {i} {h} (Rejected-report {j} c1 c2 c3) l0 = sum_one j (cond (is_branch (h.mark j)) 2 1) t.count l0
gain_sum {t} {i} {h} (Rejected-wait {j} c1 c2) l0 = sum_one j (cond (is_branch (h.mark j)) 2 1) t.count l0
gain_sum {t} {i} {h} (Hears-report {j} {w} c1 c2 c3) l0 = sum_zero (λ z. 0) t.count (λ a b. refl)
gain_sum {t} {i} {h} (Hears-wait {j} {w} c1 c2) l0 = sum_zero (λ z. 0) t.count (λ a b. refl)
gain_sum {t} {i} {h} (Decides-passes {j} {w} k c1 c2 c3 c4 c5) l0 = sum_zero (λ z. 0) t.count (λ a b. refl)
gain_sum {t} {i} {h} (Decides-joins {j} {w} k c1 c2 c3 c4 c5) l0 = sum_zero (λ z. 0) t.count (λ a b. refl)
gain_sum {t} {i} {h} (Halts {j} {w} c1 c2 c3 c4) l0 = sum_zero (λ z. 0) t.count (λ a b. refl)
gain_sum {t} {i} {h} (Rests {j} {w} c1 c2 c3 c4) l0 = sum_zero (λ z. 0) t.count (λ a b. refl)
gain_sum {t} {i} {h} (Changed-passes {j} k c1 c2) l0 = sum_zero (λ z. 0) t.count (λ a b. refl)
gain_sum {t} {i} {h} (Changed-joins {j} k c1 c2) l0 = sum_zero (λ z. 0) t.count (λ a b. refl)

abbrev pub five : ℕ → ℕ
five n = n + n + n + n + n

-- what the purse itself keeps to
pub record Fair (h : Held) (p : Purse) : Type 0 where
  pub once : p.accepted ≡ true → h.testing ≡ None
  pub bound : p.spent ≤ five h.level

pub due_5 : (h : Held) (o : Own) (p : Purse) → Fair h p → due h o p ≤ 5
due_5 h o p f = let a = f.once in grind arith

pub fair : {t : Graph} {i : ℕ} {h g : Held} {inp : In} {os : List Send} (d : Deed t i h inp g os) (M : Mark) (L : ℕ) (o : Own) (p : Purse) → OwesIn inp M L h o → Fair h p → Fair g (booked d o p)
fair {t} {i} {h} (Alone c1) M L o p ow v = grind arith
fair {t} {i} {h} (WokeTo k c1) M L o p ow v = grind arith
fair {t} {i} {h} (Absorbs {j} {l} c1) M L o p ow v = grind arith
fair {t} {i} {h} (Merges {j} {l} c1 c2) M L o p ow v = grind arith
fair {t} {i} {h} (Begins {j} {l} {f} {s} c1) M L o p ow v = let ph = due_5 h o p v in record { once = λ e. grind arith; bound = omega arith }
fair {t} {i} {h} (Searches-ask {j} {l} {f} k c1) M L o p ow v = let ph = due_5 h o p v in record { once = λ e. grind arith; bound = omega arith }
fair {t} {i} {h} (Searches-report {j} {l} {f} c1 c2 c3) M L o p ow v = let ph = due_5 h o p v in record { once = λ e. grind arith; bound = omega arith }
fair {t} {i} {h} (Searches-wait {j} {l} {f} c1 c2) M L o p ow v = let ph = due_5 h o p v in record { once = λ e. grind arith; bound = omega arith }
fair {t} {i} {h} (Accepts {j} {l} {f} c1 c2) M L o p ow v = grind arith
fair {t} {i} {h} (Rejects {j} {l} {f} c1 c2 c3) M L o p ow v = grind arith
fair {t} {i} {h} (Crosses-ask {j} {l} {f} k c1 c2 c3 c4) M L o p ow v = grind arith
fair {t} {i} {h} (Crosses-report {j} {l} {f} c1 c2 c3 c4 c5 c6) M L o p ow v = grind arith
fair {t} {i} {h} (Crosses-wait {j} {l} {f} c1 c2 c3 c4 c5) M L o p ow v = grind arith
fair {t} {i} {h} (Accepted-report {j} c1 c2) M L o p ow v = grind arith
fair {t} {i} {h} (Accepted-wait {j} c1) M L o p ow v = grind arith
fair {t} {i} {h} (Rejected-ask {j} k c1) M L o p ow v = grind arith
fair {t} {i} {h} (Rejected-report {j} c1 c2 c3) M L o p ow v = grind arith
fair {t} {i} {h} (Rejected-wait {j} c1 c2) M L o p ow v = grind arith
fair {t} {i} {h} (Hears-report {j} {w} c1 c2 c3) M L o p ow v = grind arith
fair {t} {i} {h} (Hears-wait {j} {w} c1 c2) M L o p ow v = grind arith
fair {t} {i} {h} (Decides-passes {j} {w} k c1 c2 c3 c4 c5) M L o p ow v = grind arith
fair {t} {i} {h} (Decides-joins {j} {w} k c1 c2 c3 c4 c5) M L o p ow v = grind arith
fair {t} {i} {h} (Halts {j} {w} c1 c2 c3 c4) M L o p ow v = grind arith
fair {t} {i} {h} (Rests {j} {w} c1 c2 c3 c4) M L o p ow v = grind arith
fair {t} {i} {h} (Changed-passes {j} k c1 c2) M L o p ow v = grind arith
fair {t} {i} {h} (Changed-joins {j} k c1 c2) M L o p ow v = grind arith

abbrev pub Comes : Graph → ℕ → In → Type 0
Comes t i woke = Unit {0}
Comes t i (got j m) = Edge t i j

-- no gain but over edges
pub gain_line : {t : Graph} {i : ℕ} {h g : Held} {inp : In} {os : List Send} (d : Deed t i h inp g os) → Comes t i inp → (k : ℕ) → (is_branch (h.mark k) ≡ true → Edge t i k) → leb 1 (t.weight i k) ≡ false → gain d k ≡ 0
gain_line {t} {i} {h} (Alone c1) cm k ll e = grind arith
gain_line {t} {i} {h} (WokeTo y c1) cm k ll e = grind arith
gain_line {t} {i} {h} (Absorbs {j} {l} c1) cm k ll e = grind arith
gain_line {t} {i} {h} (Merges {j} {l} c1 c2) cm k ll e = grind arith
gain_line {t} {i} {h} (Begins {j} {l} {f} {s} c1) cm k ll e = grind arith
gain_line {t} {i} {h} (Searches-ask {j} {l} {f} y c1) cm k ll e = grind arith
gain_line {t} {i} {h} (Searches-report {j} {l} {f} c1 c2 c3) cm k ll e = grind arith
gain_line {t} {i} {h} (Searches-wait {j} {l} {f} c1 c2) cm k ll e = grind arith
gain_line {t} {i} {h} (Accepts {j} {l} {f} c1 c2) cm k ll e = grind arith
gain_line {t} {i} {h} (Rejects {j} {l} {f} c1 c2 c3) cm k ll e = grind arith
gain_line {t} {i} {h} (Crosses-ask {j} {l} {f} y c1 c2 c3 c4) cm k ll e = grind arith
gain_line {t} {i} {h} (Crosses-report {j} {l} {f} c1 c2 c3 c4 c5 c6) cm k ll e = grind arith
gain_line {t} {i} {h} (Crosses-wait {j} {l} {f} c1 c2 c3 c4 c5) cm k ll e = grind arith
gain_line {t} {i} {h} (Accepted-report {j} c1 c2) cm k ll e = grind arith
gain_line {t} {i} {h} (Accepted-wait {j} c1) cm k ll e = grind arith
gain_line {t} {i} {h} (Rejected-ask {j} y c1) cm k ll e = grind arith
gain_line {t} {i} {h} (Rejected-report {j} c1 c2 c3) cm k ll e = grind arith
gain_line {t} {i} {h} (Rejected-wait {j} c1 c2) cm k ll e = grind arith
gain_line {t} {i} {h} (Hears-report {j} {w} c1 c2 c3) cm k ll e = grind arith
gain_line {t} {i} {h} (Hears-wait {j} {w} c1 c2) cm k ll e = grind arith
gain_line {t} {i} {h} (Decides-passes {j} {w} y c1 c2 c3 c4 c5) cm k ll e = grind arith
gain_line {t} {i} {h} (Decides-joins {j} {w} y c1 c2 c3 c4 c5) cm k ll e = grind arith
gain_line {t} {i} {h} (Halts {j} {w} c1 c2 c3 c4) cm k ll e = grind arith
gain_line {t} {i} {h} (Rests {j} {w} c1 c2 c3 c4) cm k ll e = grind arith
gain_line {t} {i} {h} (Changed-passes {j} y c1 c2) cm k ll e = grind arith
gain_line {t} {i} {h} (Changed-joins {j} y c1 c2) cm k ll e = grind arith
