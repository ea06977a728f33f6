-- What the other invariants give to the books.
use Rattle.std.proofs.Common.{◌≡◌, ℕ, ◌+◌, ◌<◌, ◌≤◌, Bool, true, false, cond, leb, ◌⊎◌, List, [], ◌∷◌, ◌++◌, Some, None, Option, sym, refl, ap, inl, inr, arith}
use native.Mathlib.Decide.{dec_lt}
use Rattle.message.specs.declared.messages.Message.{Message}
use Rattle.message.specs.declared.messages.Message.TheVariants.{Connect, Initiate, Test, Accept, Reject, Report, Change}
use Rattle.message.specs.declared.messages.Phase.{Phase}
use Rattle.node.specs.declared.state.Status.{Status}
use Rattle.node.specs.declared.state.Status.TheVariants.{Sleeping, Find}
use Rattle.graph.specs.declared.mark.Mark.{Mark}
use Rattle.graph.specs.declared.mark.Mark.TheVariants.{Basic, Branch, Rejected}
use Rattle.node.specs.Rules.{lighter}
use Rattle.graph.specs.Graph.{Graph, Edge, Weights}
use Rattle.protocol.proofs.Books.{is_init, inits, inits_to}
use Rattle.protocol.proofs.Control.{control1, control}
use Rattle.protocol.proofs.Deed.{woke, In, got, Deed, Alone, WokeTo, Absorbs, Merges, Begins, Searches-ask, Searches-report, Searches-wait, Accepts, Rejects, Crosses-ask, Crosses-report, Crosses-wait, Accepted-report, Accepted-wait, Rejected-ask, Rejected-report, Rejected-wait, Hears-report, Hears-wait, Decides-passes, Decides-joins, Halts, Rests, Changed-passes, Changed-joins}
use Rattle.protocol.proofs.Edges.{Edges}
use Rattle.protocol.proofs.Frame.{Lifted, Awake}
use Rattle.protocol.proofs.Ghost.{Own, Ghost, View, view}
use Rattle.protocol.proofs.Held.{Send, Held}
use Rattle.protocol.proofs.Mode.{tells, Chain, Down, Mode, free, offered, offers, crossing, took, taken, merged, ahead, behind, core, told, above, below, Sane}
use Rattle.protocol.proofs.Purse.{Purse, bit, is_ruled, booked, Owes, OwesIn}
use Rattle.protocol.proofs.Sum.{sum, sum_zero, sum_only}
use Rattle.message.specs.declared.messages.Phase.TheVariants as phase

chain_inits : (L F : ℕ) (S : Status) (l f : ℕ) (p : List Message) → Chain L F S l f p → l + inits p ≤ L
chain_inits L F S l f [] c = grind arith
chain_inits L F S l f (Connect k ∷ p) c = absurd c
chain_inits L F S l f (Test k n ∷ p) c = absurd c
chain_inits L F S l f (Accept ∷ p) c = absurd c
chain_inits L F S l f (Reject ∷ p) c = absurd c
chain_inits L F S l f (Report r ∷ p) c = absurd c
chain_inits L F S l f (Change ∷ p) c = absurd c
chain_inits L F S l f (Initiate k n s ∷ p) c = let ih = chain_inits L F S k n p c.2 in let o = c.0 in omega arith

down_inits : (x w L F : ℕ) (S : Status) (h : Held) (e : Bool) (p : List Message) → Down x w L F S h e p → h.level + inits p ≤ L
down_inits x w L F S h e [] c = chain_inits L F S h.level h.name [] c
down_inits x w L F S h e (Connect k ∷ p) c = absurd c
down_inits x w L F S h e (Test k n ∷ p) c = absurd c
down_inits x w L F S h e (Accept ∷ p) c = absurd c
down_inits x w L F S h e (Reject ∷ p) c = absurd c
down_inits x w L F S h e (Change ∷ p) c = absurd c
down_inits x w L F S h e (Initiate k n z ∷ p) c = chain_inits L F S h.level h.name (Initiate k n z ∷ p) c
down_inits x w L F S h e (Report r ∷ p) c = let k = chain_inits L F S h.level h.name p c.1 in omega arith

inits1 : (m : Message) (q : List Message) → inits (control1 m ++ q) ≡ is_init m + inits q
inits1 (Connect l) q = refl
inits1 (Initiate l f s) q = refl
inits1 (Test l f) q = grind arith
inits1 Accept q = grind arith
inits1 Reject q = grind arith
inits1 (Report w) q = refl
inits1 Change q = refl

pub inits_ctl : (q : List Message) → inits (control q) ≡ inits q
inits_ctl [] = refl
inits_ctl (m ∷ q) = let ih = inits_ctl q in let e = inits1 m (control q) in omega arith

half : (r : Bool) (b L k n : ℕ) (z : Option ℕ) (S : Phase) → b + 1 ≤ L → b + inits (Initiate k n S ∷ cond r (Report z ∷ []) []) ≤ L
half true b L k n z S l = l
half false b L k n z S l = l

-- words to begin come by the edge up alone, and no more of them than levels are wanting
pub edge_inits : {x y w : ℕ} {A B : View} {p q : List Message} → Mode x y w A B p q → Sane x B → Sane y A → (A.own.label ≡ B.own.label → A.fragment ≡ B.fragment) → (B.held.level + inits p ≤ B.fragment.level) × ((inits p ≡ 0) ⊎ (B.own.up ≡ Some x))
edge_inits {x} {y} {w} {A} {B} {p} {q} (free v) sb sa same = let lo = sb.low in rw v.out (omega arith, inl refl)
edge_inits {x} {y} {w} {A} {B} {p} {q} (offered v) sb sa same = let lo = sb.low in rw v.out (omega arith, inl refl)
edge_inits {x} {y} {w} {A} {B} {p} {q} (offers v) sb sa same = let lo = sb.low in rw v.back (omega arith, inl refl)
edge_inits {x} {y} {w} {A} {B} {p} {q} (crossing v) sb sa same = let lo = sb.low in rw v.out (omega arith, inl refl)
edge_inits {x} {y} {w} {A} {B} {p} {q} (took v) sb sa same = let lo = sb.low in let e : A.fragment.level ≡ B.fragment.level = ap (λ r. r.level) (same v.joint.same) in let ls = v.levels in let ss = v.stale in rw v.out (omega arith, inr v.joint.up_b)
edge_inits {x} {y} {w} {A} {B} {p} {q} (taken v) sb sa same = let lo = sb.low in rw v.back (omega arith, inl refl)
edge_inits {x} {y} {w} {A} {B} {p} {q} (merged v) sb sa same = let lo = sb.low in let e : A.fragment.level ≡ B.fragment.level = ap (λ r. r.level) (same v.joint.same) in let ls = v.levels in let ss = v.stale in rw v.out (omega arith, inr v.joint.up_b)
edge_inits {x} {y} {w} {A} {B} {p} {q} (ahead v) sb sa same = let lo = sb.low in let e : A.fragment.level ≡ B.fragment.level = ap (λ r. r.level) (same v.joint.same) in let ls = v.levels in let ss = v.current_a in rw v.out (half A.own.reported B.held.level B.fragment.level A.held.level w A.held.best_weight phase.Find (omega arith), inr v.joint.up_b)
edge_inits {x} {y} {w} {A} {B} {p} {q} (behind v) sb sa same = let lo = sb.low in rw v.back (omega arith, inl refl)
edge_inits {x} {y} {w} {A} {B} {p} {q} (core v) sb sa same = let lo = sb.low in elim v.out [ inl e ↦ rw e.0 (omega arith, inl refl) | inr (inl e) ↦ rw e.0 (omega arith, inl refl) | inr (inr e) ↦ rw e.0 (omega arith, inl refl) ]
edge_inits {x} {y} {w} {A} {B} {p} {q} (tells v) sb sa same = let lo = sb.low in rw v.out (omega arith, inl refl)
edge_inits {x} {y} {w} {A} {B} {p} {q} (told v) sb sa same = let lo = sb.low in rw v.back (omega arith, inl refl)
edge_inits {x} {y} {w} {A} {B} {p} {q} (above v) sb sa same = let d = down_inits x w A.held.level A.held.name A.held.status B.held B.own.reported p v.down in let lo = sa.low in let e : A.fragment.level ≡ B.fragment.level = ap (λ r. r.level) (same v.same) in (omega arith, inr v.up_b)
edge_inits {x} {y} {w} {A} {B} {p} {q} (below v) sb sa same = elim v.back [ inl e ↦ rw e (let lo = sb.low in (omega arith, inl refl)) | inr e ↦ rw e.0 (let lo = sb.low in (omega arith, inl refl)) ]

-- what the questions give of a message
abbrev pub Asked : ℕ → Message → Mark → Held → Type 0
Asked j (Connect l) M h = Unit {0}
Asked j (Initiate l f s) M h = Unit {0}
Asked j (Test l f) M h = (h.mark j ≡ Rejected → ⊥) × (h.testing ≡ Some j → h.mark j ≡ Basic)
Asked j Accept M h = h.testing ≡ Some j
Asked j Reject M h = (h.testing ≡ Some j) × (((h.mark j ≡ Basic) × (M ≡ Rejected)) ⊎ ((h.mark j ≡ Branch) × (M ≡ Branch)))
Asked j (Report w) M h = Unit {0}
Asked j Change M h = Unit {0}

owes_connect : {i j w : ℕ} {A J : View} {p q : List Message} {l : ℕ} → Mode i j w A J p (Connect l ∷ q) → l < A.held.level → A.held.mark j ≡ Basic
owes_connect (free v) u = grind arith
owes_connect (offered v) u = grind arith
owes_connect (offers v) u = grind arith
owes_connect (crossing v) u = grind arith
owes_connect (took v) u = grind arith
owes_connect (taken v) u = grind arith
owes_connect (merged v) u = grind arith
owes_connect (ahead v) u = grind arith
owes_connect (behind v) u = grind arith
owes_connect (core v) u = grind arith
owes_connect (tells v) u = grind arith
owes_connect (told v) u = grind arith
owes_connect (above v) u = grind arith
owes_connect (below v) u = grind arith

owes_init : {i j w : ℕ} {A J : View} {p q : List Message} {l f : ℕ} {s : Phase} → Mode i j w A J p (Initiate l f s ∷ q) → Sane j A → (A.own.label ≡ J.own.label → A.fragment ≡ J.fragment) → A.held.level < l
owes_init (free v) sa same = grind arith
owes_init (offered v) sa same = grind arith
owes_init (offers v) sa same = grind arith
owes_init (crossing v) sa same = grind arith
owes_init (took v) sa same = grind arith
owes_init (taken v) sa same = grind arith
owes_init (merged v) sa same = grind arith
owes_init (ahead v) sa same = grind arith
owes_init (behind v) sa same = grind arith
owes_init (core v) sa same = grind arith
owes_init (tells v) sa same = grind arith
owes_init (told v) sa same = grind arith
owes_init (above v) sa same = grind arith
owes_init (below v) sa same = grind arith

owes_report : {i j w : ℕ} {A J : View} {p q : List Message} {r : Option ℕ} → Mode i j w A J p (Report r ∷ q) → Sane j A → (A.held.parent ≡ Some j → ⊥) → A.own.reported ≡ false
owes_report (free v) sa u = grind arith
owes_report (offered v) sa u = grind arith
owes_report (offers v) sa u = grind arith
owes_report (crossing v) sa u = grind arith
owes_report (took v) sa u = grind arith
owes_report (taken v) sa u = grind arith
owes_report (merged v) sa u = grind arith
owes_report (ahead v) sa u = grind arith
owes_report (behind v) sa u = grind arith
owes_report (core v) sa u = grind arith
owes_report (tells v) sa u = grind arith
owes_report (told v) sa u = grind arith
owes_report (above v) sa u = grind arith
owes_report (below v) sa u = grind arith

owes_turn : {i j w : ℕ} {A J : View} {p q : List Message} {r : Option ℕ} → Mode i j w A J p (Report r ∷ q) → Sane j A → (A.own.label ≡ J.own.label → A.fragment ≡ J.fragment) → A.held.parent ≡ Some j → (A.held.status ≡ Find → ⊥) → lighter A.held.best_weight r ≡ true → (A.own.changed ≡ false) × (A.held.level ≡ A.fragment.level)
owes_turn (free v) sa same u st le = grind arith
owes_turn (offered v) sa same u st le = grind arith
owes_turn (offers v) sa same u st le = grind arith
owes_turn (crossing v) sa same u st le = grind arith
owes_turn (took v) sa same u st le = grind arith
owes_turn (taken v) sa same u st le = grind arith
owes_turn (merged v) sa same u st le = grind arith
owes_turn (ahead v) sa same u st le = grind arith
owes_turn (behind v) sa same u st le = grind arith
owes_turn (core v) sa same u st le = grind arith
owes_turn (tells v) sa same u st le = grind arith
owes_turn (told v) sa same u st le = grind arith
owes_turn (above v) sa same u st le = grind arith
owes_turn (below v) sa same u st le = grind arith

owes_change : {i j w : ℕ} {A J : View} {p q : List Message} → Mode i j w A J p (Change ∷ q) → (A.own.label ≡ J.own.label → A.fragment ≡ J.fragment) → (A.own.changed ≡ false) × (A.held.level ≡ A.fragment.level)
owes_change (free v) same = grind arith
owes_change (offered v) same = grind arith
owes_change (offers v) same = grind arith
owes_change (crossing v) same = grind arith
owes_change (took v) same = grind arith
owes_change (taken v) same = grind arith
owes_change (merged v) same = grind arith
owes_change (ahead v) same = grind arith
owes_change (behind v) same = grind arith
owes_change (core v) same = grind arith
owes_change (tells v) same = grind arith
owes_change (told v) same = grind arith
owes_change (above v) same = grind arith
owes_change (below v) same = grind arith

-- a node that asks seeks
asks_reported : {j : ℕ} {A : View} → Sane j A → (A.held.testing ≡ None) ⊎ (A.held.status ≡ Find) → (k : ℕ) → A.held.testing ≡ Some k → A.own.reported ≡ false
asks_reported sa (inl e) k f = grind arith
asks_reported sa (inr e) k f = sa.find_reported e

not_asking : {j : ℕ} {A : View} {l : ℕ} → Sane j A → (A.held.testing ≡ None) ⊎ (A.held.status ≡ Find) → l ≤ A.fragment.level → A.held.level < l → A.held.testing ≡ None
not_asking sa (inl e) u v = e
not_asking sa (inr e) u v = let z = sa.find_current e in absurd (omega arith)

-- all that is owed, but for what the questions give
pub owes : {i j w : ℕ} {A J : View} {p : List Message} (q : List Message) (m : Message) (M : Mark) → Mode i j w A J p (control1 m ++ q) → Mode j i w J A (control1 m ++ q) p → Sane j A → Sane i J → (A.own.label ≡ J.own.label → A.fragment ≡ J.fragment) → (A.held.testing ≡ None) ⊎ (A.held.status ≡ Find) → Asked j m M A.held → Owes j m M A.fragment.level A.held A.own
owes q (Connect l) M e r sa sj same ak d = owes_connect e
owes {A = A} q (Initiate l f s) M e r sa sj same ak d =
    (owes_init e sa same, idle_at ak)
  where
    idle_at : (A.held.testing ≡ None) ⊎ (A.held.status ≡ Find) → A.held.testing ≡ None
    idle_at (inl e) = e
    idle_at (inr z) = let c = sa.find_current z in let n = (edge_inits r sa sj (λ z. sym (same (sym z)))).0 in absurd (omega arith)
owes {j = j} {A} q (Test l f) M e r sa sj same ak d = (d.0, λ u. (d.1 u, asks_reported {A = A} sa ak j u))
owes {j = j} {A} q Accept M e r sa sj same ak d = (d, asks_reported {A = A} sa ak j d)
owes {j = j} {A} q Reject M e r sa sj same ak d = (d.0, asks_reported {A = A} sa ak j d.0, d.1)
owes q (Report w) M e r sa sj same ak d = (λ u. owes_report e sa u, λ u v z. owes_turn e sa same u v z)
owes q Change M e r sa sj same ak d = owes_change e same

-- a node's level with the words to begin that are under way to it
pub levels : {t : Graph} (weights : Weights t) (n : Lifted) (γ : Ghost) → Edges t n γ → ((a y : ℕ) → Edge t a y → Sane y (view n γ a)) → (a : ℕ) → a < t.count → (n.held a).level ≤ (γ.fragment (γ.own a).label).level → (n.held a).level + sum (inits_to t n a) t.count ≤ (γ.fragment (γ.own a).label).level
levels {t} weights n γ E R a l lo = go (γ.own a).up refl
  where
    turned : (b : ℕ) → b < t.count → leb 1 (t.weight b a) ≡ true → Edge t b a
    turned b k h = (k, l, grind arith)

    at_line : (b : ℕ) → Edge t b a → ((n.held a).level + inits (n.way b a) ≤ (γ.fragment (γ.own a).label).level) × ((inits (n.way b a) ≡ 0) ⊎ ((γ.own a).up ≡ Some b))
    at_line b k = let e = edge_inits (E b a k) (R a b (k.1, k.0, rw (weights.both a b) k.2)) (R b a k) (λ z. ap γ.fragment z) in rw inits_ctl at e

    none_of : (w : Option ℕ) → (γ.own a).up ≡ w → (b : ℕ) → b < t.count → (w ≡ Some b → ⊥) → inits_to t n a b ≡ 0
    none_of w e b k f = by (leb 1 (t.weight b a)) refl
      where
        by : (s : Bool) → leb 1 (t.weight b a) ≡ s → cond s (inits (n.way b a)) 0 ≡ 0
        by true h = elim (at_line b (turned b k h)).1 [ inl z ↦ z | inr z ↦ absurd (f (rw e at z)) ]
        by false h = refl

    few : (b : ℕ) → b < t.count → (n.held a).level + inits_to t n a b ≤ (γ.fragment (γ.own a).label).level
    few b k = by (leb 1 (t.weight b a)) refl
      where
        by : (s : Bool) → leb 1 (t.weight b a) ≡ s → (n.held a).level + cond s (inits (n.way b a)) 0 ≤ (γ.fragment (γ.own a).label).level
        by true h = (at_line b (turned b k h)).0
        by false h = omega arith

    go : (w : Option ℕ) → (γ.own a).up ≡ w → (n.held a).level + sum (inits_to t n a) t.count ≤ (γ.fragment (γ.own a).label).level
    go None e = let z = sum_zero (inits_to t n a) t.count (λ b k. none_of None e b k (λ u. grind arith)) in omega arith
    go (Some b) e = elim (dec_lt b t.count) [
      | yes k ↦ let o = few b k in let z = sum_only (inits_to t n a) b (inits_to t n a b) t.count k (omega arith) (λ c m f. none_of (Some b) e c m (λ u. grind arith)) in omega arith
      | no k ↦ let z = sum_zero (inits_to t n a) t.count (λ c m. none_of (Some b) e c m (λ u. grind arith)) in omega arith
    ]

-- the two ends of an edge together: at most one question was wasted on it, and then it is a branch and nobody asks about it any more
pub record Two (i j : ℕ) (h k : Held) (v w : ℕ) : Type 0 where
  pub holds : ((v ≡ 0) × (w ≡ 0)) ⊎ ((v + w ≡ 1) × (h.mark j ≡ Branch) × (k.mark i ≡ Branch) × (h.testing ≡ Some j → ⊥) × (k.testing ≡ Some i → ⊥))

pub two_flip : {i j : ℕ} {h k : Held} {v w : ℕ} → Two i j h k v w → Two j i k h w v
two_flip u = record { holds = elim u.holds [ inl e ↦ inl (e.1, e.0) | inr e ↦ inr (omega arith, e.2, e.1, e.4, e.3) ] }

-- of the node that is at the other end of a reject over a branch edge: it doesn't ask back
abbrev pub Back : In → ℕ → ℕ → Held → Held → Type 0
Back woke i y h k = Unit {0}
Back (got j (Connect l)) i y h k = Unit {0}
Back (got j (Initiate l f s)) i y h k = Unit {0}
Back (got j (Test l f)) i y h k = Unit {0}
Back (got j Accept) i y h k = Unit {0}
Back (got j Reject) i y h k = j ≡ y → h.mark j ≡ Branch → k.testing ≡ Some i → ⊥
Back (got j (Report r)) i y h k = Unit {0}
Back (got j Change) i y h k = Unit {0}

abbrev pub Mate : In → ℕ → ℕ → Mark → Mark → Type 0
Mate woke i y M K = Unit {0}
Mate (got j m) i y M K = j ≡ y → M ≡ K

pub two_act : {t : Graph} {i : ℕ} {h g : Held} {inp : In} {os : List Send} (d : Deed t i h inp g os) (y : ℕ) (M : Mark) (L : ℕ) (k : Held) (o : Own) (p : Purse) (w : ℕ) → OwesIn inp M L h o → Mate inp i y M (k.mark i) → Back inp i y h k → (h.status ≡ Sleeping → h.testing ≡ None) → Awake h inp → Two i y h k (p.waste y) w → Two i y g k ((booked d o p).waste y) w
two_act {t} {i} {h} (Alone c1) y M L k o p x ow mt bk sl aw u = let e = u.holds in record { holds = grind arith }
two_act {t} {i} {h} (WokeTo z c1) y M L k o p x ow mt bk sl aw u = let e = u.holds in record { holds = grind arith }
two_act {t} {i} {h} (Absorbs {j} {l} c1) y M L k o p x ow mt bk sl aw u = let e = u.holds in record { holds = grind arith }
two_act {t} {i} {h} (Merges {j} {l} c1 c2) y M L k o p x ow mt bk sl aw u = let e = u.holds in record { holds = grind arith }
two_act {t} {i} {h} (Begins {j} {l} {f} {s} c1) y M L k o p x ow mt bk sl aw u = let e = u.holds in record { holds = grind arith }
two_act {t} {i} {h} (Searches-ask {j} {l} {f} z c1) y M L k o p x ow mt bk sl aw u = let e = u.holds in record { holds = grind arith }
two_act {t} {i} {h} (Searches-report {j} {l} {f} c1 c2 c3) y M L k o p x ow mt bk sl aw u = let e = u.holds in record { holds = grind arith }
two_act {t} {i} {h} (Searches-wait {j} {l} {f} c1 c2) y M L k o p x ow mt bk sl aw u = let e = u.holds in record { holds = grind arith }
two_act {t} {i} {h} (Accepts {j} {l} {f} c1 c2) y M L k o p x ow mt bk sl aw u = let e = u.holds in record { holds = grind arith }
two_act {t} {i} {h} (Rejects {j} {l} {f} c1 c2 c3) y M L k o p x ow mt bk sl aw u = let e = u.holds in record { holds = grind arith }
two_act {t} {i} {h} (Crosses-ask {j} {l} {f} z c1 c2 c3 c4) y M L k o p x ow mt bk sl aw u = let e = u.holds in record { holds = grind arith }
two_act {t} {i} {h} (Crosses-report {j} {l} {f} c1 c2 c3 c4 c5 c6) y M L k o p x ow mt bk sl aw u = let e = u.holds in record { holds = grind arith }
two_act {t} {i} {h} (Crosses-wait {j} {l} {f} c1 c2 c3 c4 c5) y M L k o p x ow mt bk sl aw u = let e = u.holds in record { holds = grind arith }
two_act {t} {i} {h} (Accepted-report {j} c1 c2) y M L k o p x ow mt bk sl aw u = let e = u.holds in record { holds = grind arith }
two_act {t} {i} {h} (Accepted-wait {j} c1) y M L k o p x ow mt bk sl aw u = let e = u.holds in record { holds = grind arith }
two_act {t} {i} {h} (Rejected-ask {j} z c1) y M L k o p x ow mt bk sl aw u = let e = u.holds in record { holds = grind arith }
two_act {t} {i} {h} (Rejected-report {j} c1 c2 c3) y M L k o p x ow mt bk sl aw u = let e = u.holds in record { holds = grind arith }
two_act {t} {i} {h} (Rejected-wait {j} c1 c2) y M L k o p x ow mt bk sl aw u = let e = u.holds in record { holds = grind arith }
two_act {t} {i} {h} (Hears-report {j} {w} c1 c2 c3) y M L k o p x ow mt bk sl aw u = let e = u.holds in record { holds = grind arith }
two_act {t} {i} {h} (Hears-wait {j} {w} c1 c2) y M L k o p x ow mt bk sl aw u = let e = u.holds in record { holds = grind arith }
two_act {t} {i} {h} (Decides-passes {j} {w} z c1 c2 c3 c4 c5) y M L k o p x ow mt bk sl aw u = let e = u.holds in record { holds = grind arith }
two_act {t} {i} {h} (Decides-joins {j} {w} z c1 c2 c3 c4 c5) y M L k o p x ow mt bk sl aw u = let e = u.holds in record { holds = grind arith }
two_act {t} {i} {h} (Halts {j} {w} c1 c2 c3 c4) y M L k o p x ow mt bk sl aw u = let e = u.holds in record { holds = grind arith }
two_act {t} {i} {h} (Rests {j} {w} c1 c2 c3 c4) y M L k o p x ow mt bk sl aw u = let e = u.holds in record { holds = grind arith }
two_act {t} {i} {h} (Changed-passes {j} z c1 c2) y M L k o p x ow mt bk sl aw u = let e = u.holds in record { holds = grind arith }
two_act {t} {i} {h} (Changed-joins {j} z c1 c2) y M L k o p x ow mt bk sl aw u = let e = u.holds in record { holds = grind arith }

pub two_bound : (a b : Mark) (v w : ℕ) → ((v ≡ 0) × (w ≡ 0)) ⊎ ((v + w ≡ 1) × (a ≡ Branch) × (b ≡ Branch)) → (bit (is_ruled a) + (v + v)) + (bit (is_ruled b) + (w + w)) ≤ 2
two_bound a b v w (inl e) = grind arith
two_bound a b v w (inr e) = grind arith
