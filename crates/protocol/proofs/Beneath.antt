-- What a step of a node is to the node above it, which waits for it or has heard it.
use Rattle.std.proofs.Common.{◌≡◌, ℕ, ◌+◌, Bool, ◌⊎◌, List, [], ◌∷◌, ◌++◌, Some, None, Option, refl, ap, ◌∙◌, inl, inr, append-nil, arith}
use Rattle.message.specs.declared.messages.Message.{Message}
use Rattle.message.specs.declared.messages.Message.TheVariants.{Connect, Initiate, Test, Accept, Reject, Report, Change}
use Rattle.node.specs.declared.state.Status.{Status}
use Rattle.node.specs.declared.state.Status.TheVariants.{Find}
use Rattle.node.specs.Rules.{phase_of}
use Rattle.graph.specs.Graph.{Graph}
use Rattle.protocol.proofs.Awaits.{HeardFrom, no_control}
use Rattle.protocol.proofs.Chain.{bool, down_low}
use Rattle.protocol.proofs.Control.{control1, control}
use Rattle.protocol.proofs.Deed.{got, Deed, Absorbs, Merges, Begins, Searches-ask, Searches-report, Searches-wait, Accepts, Rejects, Crosses-ask, Crosses-report, Crosses-wait, Accepted-report, Accepted-wait, Rejected-ask, Rejected-report, Rejected-wait, Hears-report, Hears-wait, Decides-passes, Decides-joins, Halts, Rests, Changed-passes, Changed-joins}
use Rattle.protocol.proofs.Deeds.{to_self, to_other, test_none, Knows, Suits}
use Rattle.protocol.proofs.Outs.{out_to}
use Rattle.protocol.proofs.Ghost.{View, turn, mine}
use Rattle.protocol.proofs.Heads.{head_begin, head_turn, head_change, head_hears}
use Rattle.protocol.proofs.Held.{Send, Held, send_to}
use Rattle.protocol.proofs.Mode.{busy, Child, Mode, Sane}
use Rattle.protocol.proofs.Wait.{waited}
use Rattle.message.specs.declared.messages.Phase.TheVariants as phase

-- node h goes on as it was, for all that y sees of it, or reports to y; e and e': whether it has reported, before and after
pub data Below (y : ℕ) (h : Held) (e : Bool) (g : Held) (e' : Bool) (os : List Send) : Type 0 where
  steady : g.status ≡ h.status → g.level ≡ h.level → g.name ≡ h.name → (h.status ≡ Find) ⊎ (g.best_weight ≡ h.best_weight) → e' ≡ e → control (out_to y os) ≡ [] → Below y h e g e' os
  reports_up : (r : Option ℕ) → h.status ≡ Find → control (out_to y os) ≡ Report r ∷ [] → Below y h e g e' os

sent_up : {y : ℕ} {A : View} (r : Option ℕ) → Sane y A → A.held.status ≡ Find → A.own.up ≡ Some y → control (out_to y (send_to A.held.parent (Report r))) ≡ Report r ∷ []
sent_up {y} {A} r s f u = let e : A.held.parent ≡ Some y = grind arith in rw e (ap control (to_self y (Report r)))

tested : {w : Option ℕ} {s : Status} {j : ℕ} → (w ≡ None) ⊎ (s ≡ Find) → w ≡ Some j → s ≡ Find
tested a e = grind arith

-- it takes a message from another node than y
pub below_beside : {t : Graph} {i y j : ℕ} {A J : View} {m : Message} {g : Held} {os : List Send} {p q : List Message} → Knows t i j A J p q → Suits m A J → Sane y A → A.own.up ≡ Some y → (j ≡ y → ⊥) → Mode i j (t.weight i j) A J p (control1 m ++ q) → (d : Deed t i A.held (got j m) g os) → Below y A.held A.own.reported g (mine (turn d) A J).reported os
below_beside {t} {i} {y} {j} {A} {J} {p = p} {q} kj ft sa u n e (Absorbs {l} c1) = steady refl refl refl (inr refl) refl (ap control (to_other y j (Initiate A.held.level A.held.name (phase_of A.held.status)) n))
below_beside {t} {i} {y} {j} {A} {J} {p = p} {q} kj ft sa u n e (Merges {l} c1 c2) = steady refl refl refl (inr refl) refl (ap control (to_other y j (Initiate (A.held.level + 1) (t.weight i j) phase.Find) n))
below_beside {t} {i} {y} {j} {A} {J} {p = p} {q} kj ft sa u n e (Begins {l} {f} {s} c1) = absurd (let b = head_begin kj.theirs kj.same e in grind arith)
below_beside {t} {i} {y} {j} {A} {J} {p = p} {q} kj ft sa u n e (Searches-ask {l} {f} k c1) = absurd (let b = head_begin kj.theirs kj.same e in grind arith)
below_beside {t} {i} {y} {j} {A} {J} {p = p} {q} kj ft sa u n e (Searches-report {l} {f} c1 c2 c3) = absurd (let b = head_begin kj.theirs kj.same e in grind arith)
below_beside {t} {i} {y} {j} {A} {J} {p = p} {q} kj ft sa u n e (Searches-wait {l} {f} c1 c2) = absurd (let b = head_begin kj.theirs kj.same e in grind arith)
below_beside {t} {i} {y} {j} {A} {J} {p = p} {q} kj ft sa u n e (Accepts {l} {f} c1 c2) = steady refl refl refl (inr refl) refl (no_control y j Accept refl)
below_beside {t} {i} {y} {j} {A} {J} {p = p} {q} kj ft sa u n e (Rejects {l} {f} c1 c2 c3) = steady refl refl refl (inr refl) refl (no_control y j Reject refl)
below_beside {t} {i} {y} {j} {A} {J} {p = p} {q} kj ft sa u n e (Crosses-ask {l} {f} k c1 c2 c3 c4) = steady refl refl refl (inr refl) refl (test_none y k A.held.level A.held.name)
below_beside {t} {i} {y} {j} {A} {J} {p = p} {q} kj ft sa u n e (Crosses-report {l} {f} c1 c2 c3 c4 c5 c6) = let f = tested kj.asks c3 in reports_up _ f (sent_up _ sa f u)
below_beside {t} {i} {y} {j} {A} {J} {p = p} {q} kj ft sa u n e (Crosses-wait {l} {f} c1 c2 c3 c4 c5) = steady refl refl refl (inr refl) refl refl
below_beside {t} {i} {y} {j} {A} {J} {p = p} {q} kj ft sa u n e (Accepted-report c1 c2) = let f = ft in reports_up _ f (sent_up _ sa f u)
below_beside {t} {i} {y} {j} {A} {J} {p = p} {q} kj ft sa u n e (Accepted-wait c1) = steady refl refl refl (inl ft) refl refl
below_beside {t} {i} {y} {j} {A} {J} {p = p} {q} kj ft sa u n e (Rejected-ask k c1) = steady refl refl refl (inr refl) refl (test_none y k A.held.level A.held.name)
below_beside {t} {i} {y} {j} {A} {J} {p = p} {q} kj ft sa u n e (Rejected-report c1 c2 c3) = let f = ft.0 in reports_up _ f (sent_up _ sa f u)
below_beside {t} {i} {y} {j} {A} {J} {p = p} {q} kj ft sa u n e (Rejected-wait c1 c2) = steady refl refl refl (inr refl) refl refl
below_beside {t} {i} {y} {j} {A} {J} {p = p} {q} kj ft sa u n e (Hears-report {w} c1 c2 c3) = let f = head_hears c1 e in reports_up _ f (sent_up _ sa f u)
below_beside {t} {i} {y} {j} {A} {J} {p = p} {q} kj ft sa u n e (Hears-wait {w} c1 c2) = steady refl refl refl (inl (head_hears c1 e)) refl refl
below_beside {t} {i} {y} {j} {A} {J} {p = p} {q} kj ft sa u n e (Decides-passes {w} k c1 c2 c3 c4 c5) = absurd (let b = head_turn kj.mine c1 c2 c3 e in grind arith)
below_beside {t} {i} {y} {j} {A} {J} {p = p} {q} kj ft sa u n e (Decides-joins {w} k c1 c2 c3 c4 c5) = absurd (let b = head_turn kj.mine c1 c2 c3 e in grind arith)
below_beside {t} {i} {y} {j} {A} {J} {p = p} {q} kj ft sa u n e (Halts {w} c1 c2 c3 c4) = steady refl refl refl (inr refl) refl refl
below_beside {t} {i} {y} {j} {A} {J} {p = p} {q} kj ft sa u n e (Rests {w} c1 c2 c3 c4) = steady refl refl refl (inr refl) refl refl
below_beside {t} {i} {y} {j} {A} {J} {p = p} {q} kj ft sa u n e (Changed-passes k c1 c2) = absurd (let b = head_change kj.same e in grind arith)
below_beside {t} {i} {y} {j} {A} {J} {p = p} {q} kj ft sa u n e (Changed-joins k c1 c2) = absurd (let b = head_change kj.same e in grind arith)

-- it takes one from y, which is no word of a search, and does not seek
pub below_over : {t : Graph} {i y : ℕ} {A B : View} {m : Message} {g : Held} {os : List Send} {p q : List Message} → Knows t i y A B p q → Suits m A B → (A.held.status ≡ Find → ⊥) → control1 m ≡ [] → (d : Deed t i A.held (got y m) g os) → Below y A.held A.own.reported g (mine (turn d) A B).reported os
below_over {t} {i} {y} {A} {B} {p = p} {q} k1 ft n z (Absorbs {l} c1) = absurd (grind arith)
below_over {t} {i} {y} {A} {B} {p = p} {q} k1 ft n z (Merges {l} c1 c2) = absurd (grind arith)
below_over {t} {i} {y} {A} {B} {p = p} {q} k1 ft n z (Begins {l} {f} {s} c1) = absurd (grind arith)
below_over {t} {i} {y} {A} {B} {p = p} {q} k1 ft n z (Searches-ask {l} {f} k c1) = absurd (grind arith)
below_over {t} {i} {y} {A} {B} {p = p} {q} k1 ft n z (Searches-report {l} {f} c1 c2 c3) = absurd (grind arith)
below_over {t} {i} {y} {A} {B} {p = p} {q} k1 ft n z (Searches-wait {l} {f} c1 c2) = absurd (grind arith)
below_over {t} {i} {y} {A} {B} {p = p} {q} k1 ft n z (Accepts {l} {f} c1 c2) = steady refl refl refl (inr refl) refl (no_control y y Accept refl)
below_over {t} {i} {y} {A} {B} {p = p} {q} k1 ft n z (Rejects {l} {f} c1 c2 c3) = steady refl refl refl (inr refl) refl (no_control y y Reject refl)
below_over {t} {i} {y} {A} {B} {p = p} {q} k1 ft n z (Crosses-ask {l} {f} k c1 c2 c3 c4) = absurd (n (tested k1.asks c3))
below_over {t} {i} {y} {A} {B} {p = p} {q} k1 ft n z (Crosses-report {l} {f} c1 c2 c3 c4 c5 c6) = absurd (n (tested k1.asks c3))
below_over {t} {i} {y} {A} {B} {p = p} {q} k1 ft n z (Crosses-wait {l} {f} c1 c2 c3 c4 c5) = absurd (n (tested k1.asks c3))
below_over {t} {i} {y} {A} {B} {p = p} {q} k1 ft n z (Accepted-report c1 c2) = absurd (n ft)
below_over {t} {i} {y} {A} {B} {p = p} {q} k1 ft n z (Accepted-wait c1) = absurd (n ft)
below_over {t} {i} {y} {A} {B} {p = p} {q} k1 ft n z (Rejected-ask k c1) = absurd (n ft.0)
below_over {t} {i} {y} {A} {B} {p = p} {q} k1 ft n z (Rejected-report c1 c2 c3) = absurd (n ft.0)
below_over {t} {i} {y} {A} {B} {p = p} {q} k1 ft n z (Rejected-wait c1 c2) = absurd (n ft.0)
below_over {t} {i} {y} {A} {B} {p = p} {q} k1 ft n z (Hears-report {w} c1 c2 c3) = absurd (grind arith)
below_over {t} {i} {y} {A} {B} {p = p} {q} k1 ft n z (Hears-wait {w} c1 c2) = absurd (grind arith)
below_over {t} {i} {y} {A} {B} {p = p} {q} k1 ft n z (Decides-passes {w} k c1 c2 c3 c4 c5) = absurd (grind arith)
below_over {t} {i} {y} {A} {B} {p = p} {q} k1 ft n z (Decides-joins {w} k c1 c2 c3 c4 c5) = absurd (grind arith)
below_over {t} {i} {y} {A} {B} {p = p} {q} k1 ft n z (Halts {w} c1 c2 c3 c4) = absurd (grind arith)
below_over {t} {i} {y} {A} {B} {p = p} {q} k1 ft n z (Rests {w} c1 c2 c3 c4) = absurd (grind arith)
below_over {t} {i} {y} {A} {B} {p = p} {q} k1 ft n z (Changed-passes k c1 c2) = absurd (grind arith)
below_over {t} {i} {y} {A} {B} {p = p} {q} k1 ft n z (Changed-joins k c1 c2) = absurd (grind arith)

-- it is waited for as before
pub still_beside : {y i w : ℕ} {A B : View} {g : Held} {e' : Bool} {os : List Send} {p q : List Message} → Sane y A → Sane i B → (A.own.label ≡ B.own.label → A.fragment ≡ B.fragment) → Child y i w B A q p → Below y A.held A.own.reported g e' os → waited q p A.held.status ≡ waited q (p ++ control (out_to y os)) g.status
still_beside {y} {i} {w} {A} {B} {p = p} {q} s sb same v (steady a l n b r o) = rw (a, o, append-nil)
still_beside {y} {i} {w} {A} {B} {p = p} {q} s sb same v (reports_up r f o) =
    let low = down_low y w B.held.level B.held.name B.held.status A.held A.own.reported q v.down in
    let e : p ≡ [] = grind arith in
    rw (o, e) (elim (bool (busy q)) [ inl z ↦ absurd (grind arith) | inr z ↦ grind arith ])

-- who has been heard goes on to have been heard
pub heard_beside : {y : ℕ} {b h g : Held} {e e' : Bool} {os : List Send} {p q : List Message} → (h.status ≡ Find → ⊥) → HeardFrom b h e q p → Below y h e g e' os → HeardFrom b g e' q (p ++ control (out_to y os))
heard_beside d v (steady a l n b r o) = record { out = v.out; back = rw (o, append-nil) v.back; level = l ∙ v.level; name = n ∙ v.name; reported = r ∙ v.reported; best = elim b [ inl f ↦ absurd (d f) | inr u ↦ rw u v.best ] }
heard_beside d v (reports_up r f o) = absurd (d f)

-- nothing is under way, so the message was no word of a search
pub none_of : (m : Message) (q : List Message) → control1 m ++ q ≡ [] → (control1 m ≡ []) × (q ≡ [])
none_of (Connect l) q e = absurd (grind arith)
none_of (Initiate l f s) q e = absurd (grind arith)
none_of (Test l f) q e = (refl, e)
none_of Accept q e = (refl, e)
none_of Reject q e = (refl, e)
none_of (Report r) q e = absurd (grind arith)
none_of Change q e = absurd (grind arith)

pub heard_over : {t : Graph} {i y : ℕ} {A B : View} {b : Held} {m : Message} {g : Held} {os : List Send} {p q : List Message} → Knows t i y A B p q → Suits m A B → (A.held.status ≡ Find → ⊥) → (d : Deed t i A.held (got y m) g os) → HeardFrom b A.held A.own.reported (control1 m ++ q) p → HeardFrom b g (mine (turn d) A B).reported q (p ++ control (out_to y os))
heard_over {b = b} {m} {q = q} k1 ft n d v = let z = none_of m q v.out in heard_beside n (record { out = z.1; back = v.back; level = v.level; name = v.name; reported = v.reported; best = v.best }) (below_over k1 ft n z.0 d)
