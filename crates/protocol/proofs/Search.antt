-- Questions, answers and reports of those below.
use Rattle.std.proofs.Common.{◌≡◌, ℕ, Bool, true, false, ◌⊎◌, List, [], ◌∷◌, ◌++◌, Some, Option, refl, inl, inr, arith}
use Rattle.message.specs.declared.messages.Message.{Message}
use Rattle.message.specs.declared.messages.Message.TheVariants.{Connect, Initiate, Test, Accept, Reject, Report, Change}
use Rattle.node.specs.declared.state.Status.{Status}
use Rattle.node.specs.declared.state.Status.TheVariants.{Find, Found}
use Rattle.graph.specs.declared.mark.Mark.{Mark}
use Rattle.graph.specs.declared.mark.Mark.TheVariants.{Basic, Branch, Rejected}
use Rattle.node.specs.Rules.{lighter}
use Rattle.protocol.proofs.Chain.{bool, down_low, down_state}
use Rattle.protocol.proofs.Ghost.{View, idle, starts, report, follow, acted}
use Rattle.protocol.proofs.Held.{Held}
use Rattle.protocol.proofs.Mode.{tells, busy, calls, Old, Down, Child, Mode, free, offered, offers, crossing, took, taken, merged, ahead, behind, core, told, above, below, Sane}
use Rattle.message.specs.declared.messages.Phase.TheVariants as phase

abbrev pub tuned : Status → (ℕ → Mark) → ℕ → (Option ℕ) → Option ℕ → (Option ℕ) → Held → Held
tuned s m n b z k h = record { status = s; mark = m; level = h.level; name = h.name; find_count = n; parent = h.parent; best = b; best_weight = z; testing = k; halted = h.halted }

abbrev pub tuned0 : (ℕ → Mark) → ℕ → (Option ℕ) → Bool → Held → Held
tuned0 m n k d h = record { status = h.status; mark = m; level = h.level; name = h.name; find_count = n; parent = h.parent; best = h.best; best_weight = h.best_weight; testing = k; halted = d }

abbrev pub rehoused : Held → View → View
rehoused g A = record { held = g; own = A.own; fragment = A.fragment }

-- an edge is left as it is, or rejected out inside a fragment
abbrev pub Marks : ℕ → (ℕ → Mark) → View → View → Type 0
Marks y m A B = (m y ≡ A.held.mark y) ⊎ ((m y ≡ Rejected) × (A.held.mark y ≡ Basic) × (A.own.label ≡ B.own.label))

-- it seeks and may have heard of a better edge, or only asks or answers
abbrev pub Seeking : Status → (Option ℕ) → Option ℕ → Held → Type 0
Seeking s b z h = ((h.status ≡ Find) × (s ≡ Find)) ⊎ ((s ≡ h.status) × (b ≡ h.best) × (z ≡ h.best_weight))

old_tuned : (s : Status) (m : ℕ → Mark) (n : ℕ) (b : Option ℕ) (z : Option ℕ) (k : Option ℕ) (h : Held) (e : Bool) (y w : ℕ) (r : Option ℕ) → Seeking s b z h → (h.status ≡ Find → e ≡ false) → Old y w h e r → Old y w (tuned s m n b z k h) e r
old_tuned s m n b z k h e y w r f g c = record { parent = c.parent; name = c.name; still = grind arith; reported = c.reported; lighter = grind arith }

down_tuned : (s : Status) (m : ℕ → Mark) (n : ℕ) (b : Option ℕ) (z : Option ℕ) (k : Option ℕ) (h : Held) (e : Bool) (y w L F : ℕ) (S : Status) (q : List Message) → Seeking s b z h → (h.status ≡ Find → e ≡ false) → Down y w L F S h e q → Down y w L F S (tuned s m n b z k h) e q
down_tuned s m n b z k h e y w L F S [] f1 g c = c
down_tuned s m n b z k h e y w L F S (Connect l ∷ q) f1 g c = absurd c
down_tuned s m n b z k h e y w L F S (Test l f ∷ q) f1 g c = absurd c
down_tuned s m n b z k h e y w L F S (Accept ∷ q) f1 g c = absurd c
down_tuned s m n b z k h e y w L F S (Reject ∷ q) f1 g c = absurd c
down_tuned s m n b z k h e y w L F S (Change ∷ q) f1 g c = absurd c
down_tuned s m n b z k h e y w L F S (Initiate l f a ∷ q) f1 g c = c
down_tuned s m n b z k h e y w L F S (Report r ∷ q) f1 g c = (old_tuned s m n b z k h e y w r f1 g c.0, c.1)

-- what a node below hears changes nothing in what it is told, unless it reports
under : {x y w : ℕ} {A B : View} {p q : List Message} (s : Status) (m : ℕ → Mark) (n : ℕ) (b : Option ℕ) (z : Option ℕ) (k : Option ℕ) (J : View) → Sane y A → Seeking s b z A.held → Marks y m A B → (A.own.label ≡ B.own.label → A.fragment ≡ B.fragment) → Child y x w B A q p → Child y x w (follow idle A J B) (acted idle (tuned s m n b z k A.held) A J) q p
under {x} {y} {w} {A} {B} {p} {q} s m n b z k J sa f mk same v =
    let low = down_low y w B.held.level B.held.name B.held.status A.held A.own.reported q v.down in
    record { mark_a = grind arith; mark_b = grind arith; same = grind arith; up_a = v.up_a; up_b = v.up_b; down = down_tuned s m n b z k A.held A.own.reported y w B.held.level B.held.name B.held.status q f sa.find_reported v.down; back = grind arith; asked = λ u h. grind arith; finds = grind arith; spent = v.spent; rank = grind arith; alike = grind arith; calmer = λ u. grind arith; heard = λ u h z. grind arith }

pub tunes : {x y w : ℕ} {A B : View} {p q : List Message} (s : Status) (m : ℕ → Mark) (n : ℕ) (b : Option ℕ) (z : Option ℕ) (k : Option ℕ) (J : View) → Sane y A → Seeking s b z A.held → Marks y m A B → (A.own.label ≡ B.own.label → A.fragment ≡ B.fragment) →
    Mode x y w A B p q → Mode x y w (acted idle (tuned s m n b z k A.held) A J) (follow idle A J B) p q
tunes {x} {y} {w} {A} {B} {p} {q} s m n b z k J sa f mk same (free v) = free (record { mark_a = grind arith; mark_b = grind arith; out = grind arith; back = grind arith; rejected_a = grind arith; rejected_b = grind arith })
tunes {x} {y} {w} {A} {B} {p} {q} s m n b z k J sa f mk same (offered v) = offered (record { mark_a = grind arith; mark_b = grind arith; out = grind arith; back = grind arith; differ = grind arith; up_b = grind arith; changed_b = grind arith; current_b = grind arith; least_b = grind arith; levels = grind arith; sends_b = grind arith; gets_b = grind arith })
tunes {x} {y} {w} {A} {B} {p} {q} s m n b z k J sa f mk same (offers v) = offers (record { mark_a = grind arith; mark_b = grind arith; out = grind arith; back = grind arith; differ = grind arith; up_b = grind arith; changed_b = grind arith; current_b = grind arith; least_b = grind arith; levels = grind arith; sends_b = grind arith; gets_b = grind arith })
tunes {x} {y} {w} {A} {B} {p} {q} s m n b z k J sa f mk same (crossing v) = crossing (record { mark_a = grind arith; mark_b = grind arith; out = grind arith; back = grind arith; differ = grind arith; up_a = grind arith; up_b = grind arith; changed_a = grind arith; changed_b = grind arith; current_a = grind arith; current_b = grind arith; least_a = grind arith; least_b = grind arith; levels = grind arith; sends_a = grind arith; gets_a = grind arith; sends_b = grind arith; gets_b = grind arith })
tunes {x} {y} {w} {A} {B} {p} {q} s m n b z k J sa f mk same (took v) = took (record { joint = grind arith; out = grind arith; back = grind arith; changed_a = grind arith; changed_b = grind arith; levels = grind arith; stale = grind arith })
tunes {x} {y} {w} {A} {B} {p} {q} s m n b z k J sa f mk same (taken v) = taken (record { joint = grind arith; out = grind arith; back = grind arith; changed_a = grind arith; changed_b = grind arith; levels = grind arith; stale = grind arith })
tunes {x} {y} {w} {A} {B} {p} {q} s m n b z k J sa f mk same (merged v) = merged (record { joint = grind arith; out = grind arith; back = grind arith; changed_a = grind arith; changed_b = grind arith; levels = grind arith; stale = grind arith })
tunes {x} {y} {w} {A} {B} {p} {q} s m n b z k J sa f mk same (ahead v) = ahead (record { joint = grind arith; out = grind arith; back = grind arith; parent_a = grind arith; name_a = grind arith; changed_a = grind arith; changed_b = grind arith; levels = grind arith; current_a = grind arith })
tunes {x} {y} {w} {A} {B} {p} {q} s m n b z k J sa f mk same (behind v) = behind (record { joint = grind arith; out = grind arith; back = grind arith; parent_a = grind arith; name_a = grind arith; changed_a = grind arith; changed_b = grind arith; levels = grind arith; current_a = grind arith })
tunes {x} {y} {w} {A} {B} {p} {q} s m n b z k J sa f mk same (core v) = core (record { mark_a = grind arith; mark_b = grind arith; same = grind arith; up_a = grind arith; up_b = grind arith; in_search_a = grind arith; in_search_b = grind arith; parent_a = grind arith; parent_b = grind arith; changed_a = grind arith; changed_b = grind arith; levels = grind arith; name_a = grind arith; name_b = grind arith; current_a = grind arith; out = grind arith; back = grind arith; least = grind arith })
tunes {x} {y} {w} {A} {B} {p} {q} s m n b z k J sa f mk same (tells v) = tells (record { mark_a = grind arith; mark_b = grind arith; same = grind arith; out = grind arith; back = grind arith; up_a = grind arith; up_b = grind arith; changed_a = grind arith; changed_b = grind arith; best_a = grind arith; parent_b = grind arith; levels = grind arith; names = grind arith; current_a = grind arith; least_a = grind arith; least_b = grind arith; finite = grind arith; sends = grind arith; gets = grind arith; in_search_a = grind arith; in_search_b = grind arith })
tunes {x} {y} {w} {A} {B} {p} {q} s m n b z k J sa f mk same (told v) = told (record { mark_a = grind arith; mark_b = grind arith; same = grind arith; out = grind arith; back = grind arith; up_a = grind arith; up_b = grind arith; changed_a = grind arith; changed_b = grind arith; best_a = grind arith; parent_b = grind arith; levels = grind arith; names = grind arith; current_a = grind arith; least_a = grind arith; least_b = grind arith; finite = grind arith; sends = grind arith; gets = grind arith; in_search_a = grind arith; in_search_b = grind arith })
tunes {x} {y} {w} {A} {B} {p} {q} s m n b z k J sa f mk same (above v) = above (record { mark_a = grind arith; mark_b = grind arith; same = grind arith; up_a = grind arith; up_b = grind arith; down = down_state x w A.held.level A.held.name A.held.status s B.held B.own.reported p v.down (inr (grind arith)); back = grind arith; asked = λ u h. grind arith; finds = grind arith; spent = grind arith; rank = grind arith; alike = grind arith; calmer = λ u. grind arith; heard = λ u h z. grind arith })
tunes {x} {y} {w} {A} {B} {p} {q} s m n b z k J sa f mk same (below v) = below (under s m n b z k J sa f mk same v)

down_tuned0 : (m : ℕ → Mark) (n : ℕ) (k : Option ℕ) (d : Bool) (h : Held) (e : Bool) (y w L F : ℕ) (S : Status) (q : List Message) → Down y w L F S h e q → Down y w L F S (tuned0 m n k d h) e q
down_tuned0 m n k d h e y w L F S [] c = c
down_tuned0 m n k d h e y w L F S (Connect l ∷ q) c = absurd c
down_tuned0 m n k d h e y w L F S (Test l f ∷ q) c = absurd c
down_tuned0 m n k d h e y w L F S (Accept ∷ q) c = absurd c
down_tuned0 m n k d h e y w L F S (Reject ∷ q) c = absurd c
down_tuned0 m n k d h e y w L F S (Change ∷ q) c = absurd c
down_tuned0 m n k d h e y w L F S (Initiate l f a ∷ q) c = c
down_tuned0 m n k d h e y w L F S (Report r ∷ q) c = (record { parent = c.0.parent; name = c.0.name; still = c.0.still; reported = c.0.reported; lighter = c.0.lighter }, c.1)

under0 : {x y w : ℕ} {A B : View} {p q : List Message} (m : ℕ → Mark) (n : ℕ) (k : Option ℕ) (d : Bool) → m y ≡ A.held.mark y → Child y x w B A q p → Child y x w B (rehoused (tuned0 m n k d A.held) A) q p
under0 {x} {y} {w} {A} {B} {p} {q} m n k d mk v =
    record { mark_a = v.mark_a; mark_b = grind arith; same = v.same; up_a = v.up_a; up_b = v.up_b; down = down_tuned0 m n k d A.held A.own.reported y w B.held.level B.held.name B.held.status q v.down; back = v.back; asked = v.asked; finds = v.finds; spent = v.spent; rank = v.rank; alike = v.alike; calmer = v.calmer; heard = v.heard }

pub tunes0 : {x y w : ℕ} {A B : View} {p q : List Message} (m : ℕ → Mark) (n : ℕ) (k : Option ℕ) (d : Bool) → m y ≡ A.held.mark y →
    Mode x y w A B p q → Mode x y w (rehoused (tuned0 m n k d A.held) A) B p q
tunes0 {x} {y} {w} {A} {B} {p} {q} m n k d mk (free v) = free (record { mark_a = grind arith; mark_b = grind arith; out = grind arith; back = grind arith; rejected_a = grind arith; rejected_b = grind arith })
tunes0 {x} {y} {w} {A} {B} {p} {q} m n k d mk (offered v) = offered (record { mark_a = grind arith; mark_b = grind arith; out = grind arith; back = grind arith; differ = grind arith; up_b = grind arith; changed_b = grind arith; current_b = grind arith; least_b = grind arith; levels = grind arith; sends_b = grind arith; gets_b = grind arith })
tunes0 {x} {y} {w} {A} {B} {p} {q} m n k d mk (offers v) = offers (record { mark_a = grind arith; mark_b = grind arith; out = grind arith; back = grind arith; differ = grind arith; up_b = grind arith; changed_b = grind arith; current_b = grind arith; least_b = grind arith; levels = grind arith; sends_b = grind arith; gets_b = grind arith })
tunes0 {x} {y} {w} {A} {B} {p} {q} m n k d mk (crossing v) = crossing (record { mark_a = grind arith; mark_b = grind arith; out = grind arith; back = grind arith; differ = grind arith; up_a = grind arith; up_b = grind arith; changed_a = grind arith; changed_b = grind arith; current_a = grind arith; current_b = grind arith; least_a = grind arith; least_b = grind arith; levels = grind arith; sends_a = grind arith; gets_a = grind arith; sends_b = grind arith; gets_b = grind arith })
tunes0 {x} {y} {w} {A} {B} {p} {q} m n k d mk (took v) = took (record { joint = grind arith; out = grind arith; back = grind arith; changed_a = grind arith; changed_b = grind arith; levels = grind arith; stale = grind arith })
tunes0 {x} {y} {w} {A} {B} {p} {q} m n k d mk (taken v) = taken (record { joint = grind arith; out = grind arith; back = grind arith; changed_a = grind arith; changed_b = grind arith; levels = grind arith; stale = grind arith })
tunes0 {x} {y} {w} {A} {B} {p} {q} m n k d mk (merged v) = merged (record { joint = grind arith; out = grind arith; back = grind arith; changed_a = grind arith; changed_b = grind arith; levels = grind arith; stale = grind arith })
tunes0 {x} {y} {w} {A} {B} {p} {q} m n k d mk (ahead v) = ahead (record { joint = grind arith; out = grind arith; back = grind arith; parent_a = grind arith; name_a = grind arith; changed_a = grind arith; changed_b = grind arith; levels = grind arith; current_a = grind arith })
tunes0 {x} {y} {w} {A} {B} {p} {q} m n k d mk (behind v) = behind (record { joint = grind arith; out = grind arith; back = grind arith; parent_a = grind arith; name_a = grind arith; changed_a = grind arith; changed_b = grind arith; levels = grind arith; current_a = grind arith })
tunes0 {x} {y} {w} {A} {B} {p} {q} m n k d mk (core v) = core (record { mark_a = grind arith; mark_b = grind arith; same = grind arith; up_a = grind arith; up_b = grind arith; in_search_a = grind arith; in_search_b = grind arith; parent_a = grind arith; parent_b = grind arith; changed_a = grind arith; changed_b = grind arith; levels = grind arith; name_a = grind arith; name_b = grind arith; current_a = grind arith; out = grind arith; back = grind arith; least = grind arith })
tunes0 {x} {y} {w} {A} {B} {p} {q} m n k d mk (tells v) = tells (record { mark_a = grind arith; mark_b = grind arith; same = grind arith; out = grind arith; back = grind arith; up_a = grind arith; up_b = grind arith; changed_a = grind arith; changed_b = grind arith; best_a = grind arith; parent_b = grind arith; levels = grind arith; names = grind arith; current_a = grind arith; least_a = grind arith; least_b = grind arith; finite = grind arith; sends = grind arith; gets = grind arith; in_search_a = grind arith; in_search_b = grind arith })
tunes0 {x} {y} {w} {A} {B} {p} {q} m n k d mk (told v) = told (record { mark_a = grind arith; mark_b = grind arith; same = grind arith; out = grind arith; back = grind arith; up_a = grind arith; up_b = grind arith; changed_a = grind arith; changed_b = grind arith; best_a = grind arith; parent_b = grind arith; levels = grind arith; names = grind arith; current_a = grind arith; least_a = grind arith; least_b = grind arith; finite = grind arith; sends = grind arith; gets = grind arith; in_search_a = grind arith; in_search_b = grind arith })
tunes0 {x} {y} {w} {A} {B} {p} {q} m n k d mk (above v) = above (record { mark_a = grind arith; mark_b = grind arith; same = grind arith; up_a = grind arith; up_b = grind arith; down = v.down; back = grind arith; asked = v.asked; finds = grind arith; spent = grind arith; rank = grind arith; alike = grind arith; calmer = λ u. grind arith; heard = λ u h z. grind arith })
tunes0 {x} {y} {w} {A} {B} {p} {q} m n k d mk (below v) = below (under0 m n k d mk v)

idle_queue : (b : Bool) → (b ≡ true → ⊥) → b ≡ false
idle_queue true f = absurd (f refl)
idle_queue false f = refl

-- the report parent
pub reports_in : {x y w : ℕ} {A B : View} {p q : List Message} (m : ℕ → Mark) (n : ℕ) (b : Option ℕ) (z : Option ℕ) (k : Option ℕ) (J : View) → Sane y A → Sane x B → Marks y m A B → (A.own.label ≡ B.own.label → A.fragment ≡ B.fragment) → A.held.status ≡ Find → A.held.parent ≡ Some y →
    Mode x y w A B p q → Mode x y w (acted report (tuned Found m n b z k A.held) A J) (follow report A J B) (p ++ (Report z ∷ [])) q
reports_in {x} {y} {w} {A} {B} {p} {q} m n b z k J sa sb mk same st i (free v) = absurd (grind arith)
reports_in {x} {y} {w} {A} {B} {p} {q} m n b z k J sa sb mk same st i (offered v) = absurd (grind arith)
reports_in {x} {y} {w} {A} {B} {p} {q} m n b z k J sa sb mk same st i (offers v) = absurd (grind arith)
reports_in {x} {y} {w} {A} {B} {p} {q} m n b z k J sa sb mk same st i (crossing v) = absurd (grind arith)
reports_in {x} {y} {w} {A} {B} {p} {q} m n b z k J sa sb mk same st i (took v) = absurd (grind arith)
reports_in {x} {y} {w} {A} {B} {p} {q} m n b z k J sa sb mk same st i (taken v) = absurd (grind arith)
reports_in {x} {y} {w} {A} {B} {p} {q} m n b z k J sa sb mk same st i (merged v) = absurd (grind arith)
reports_in {x} {y} {w} {A} {B} {p} {q} m n b z k J sa sb mk same st i (ahead v) = let e : A.own.reported ≡ false = grind arith in let o : p ≡ Initiate A.held.level w phase.Find ∷ [] = grind arith in ahead (rw o (record { joint = grind arith; out = grind arith; back = grind arith; parent_a = grind arith; name_a = grind arith; changed_a = grind arith; changed_b = grind arith; levels = grind arith; current_a = grind arith }))
reports_in {x} {y} {w} {A} {B} {p} {q} m n b z k J sa sb mk same st i (behind v) = absurd (grind arith)
reports_in {x} {y} {w} {A} {B} {p} {q} m n b z k J sa sb mk same st i (core v) = let e : A.own.reported ≡ false = grind arith in let o : p ≡ [] = grind arith in core (rw o (record { mark_a = grind arith; mark_b = grind arith; same = grind arith; up_a = grind arith; up_b = grind arith; in_search_a = grind arith; in_search_b = grind arith; parent_a = grind arith; parent_b = grind arith; changed_a = grind arith; changed_b = grind arith; levels = grind arith; name_a = grind arith; name_b = grind arith; current_a = grind arith; out = grind arith; back = grind arith; least = grind arith }))
reports_in {x} {y} {w} {A} {B} {p} {q} m n b z k J sa sb mk same st i (tells v) = absurd (grind arith)
reports_in {x} {y} {w} {A} {B} {p} {q} m n b z k J sa sb mk same st i (told v) = absurd (grind arith)
reports_in {x} {y} {w} {A} {B} {p} {q} m n b z k J sa sb mk same st i (above v) = absurd (grind arith)
reports_in {x} {y} {w} {A} {B} {p} {q} m n b z k J sa sb mk same st i (below v) = let low = down_low y w B.held.level B.held.name B.held.status A.held A.own.reported q v.down in let e : A.own.reported ≡ false = grind arith in let o : p ≡ [] = grind arith in let nb : busy q ≡ false = idle_queue (busy q) (λ u. grind arith) in let o2 : q ≡ [] = grind arith in below (rw (o, o2) (record { mark_a = grind arith; mark_b = grind arith; same = grind arith; up_a = grind arith; up_b = grind arith; down = (grind arith, grind arith); back = grind arith; asked = λ u h. grind arith; finds = grind arith; spent = grind arith; rank = grind arith; alike = grind arith; calmer = λ u. grind arith; heard = λ u h z. grind arith }))

calmed : {x l : ℕ} {B : View} → Sane x B → ((B.held.parent ≡ Some x → B.held.level ≡ l → B.held.status ≡ Find → ⊥)) → B.held.level ≡ l → (B.held.parent ≡ Some x) ⊎ (B.own.changed ≡ true) → B.held.status ≡ Find → ⊥
calmed sb a e (inl i) h = a i e h
calmed sb a e (inr c) h = grind arith

-- over the other edges: nobody there is waited for
pub reports_out : {x y w : ℕ} {A B : View} {p q : List Message} (m : ℕ → Mark) (n : ℕ) (b : Option ℕ) (z : Option ℕ) (k : Option ℕ) (J : View) → Sane y A → Sane x B → Marks y m A B → (A.own.label ≡ B.own.label → A.fragment ≡ B.fragment) → A.held.status ≡ Find → (A.held.parent ≡ Some y → ⊥) →
    (A.held.mark y ≡ Branch → (calls p ≡ false) × (q ≡ []) × (B.held.parent ≡ Some x → B.held.level ≡ A.held.level → B.held.status ≡ Find → ⊥) × (lighter B.held.best_weight A.held.best_weight ≡ false)) → lighter A.held.best_weight z ≡ false →
    Mode x y w A B p q → Mode x y w (acted report (tuned Found m n b z k A.held) A J) (follow report A J B) p q
reports_out {x} {y} {w} {A} {B} {p} {q} m n b z k J sa sb mk same st i aw le (free v) = free (record { mark_a = grind arith; mark_b = grind arith; out = grind arith; back = grind arith; rejected_a = grind arith; rejected_b = grind arith })
reports_out {x} {y} {w} {A} {B} {p} {q} m n b z k J sa sb mk same st i aw le (offered v) = offered (record { mark_a = grind arith; mark_b = grind arith; out = grind arith; back = grind arith; differ = grind arith; up_b = grind arith; changed_b = grind arith; current_b = grind arith; least_b = grind arith; levels = grind arith; sends_b = grind arith; gets_b = grind arith })
reports_out {x} {y} {w} {A} {B} {p} {q} m n b z k J sa sb mk same st i aw le (offers v) = absurd (grind arith)
reports_out {x} {y} {w} {A} {B} {p} {q} m n b z k J sa sb mk same st i aw le (crossing v) = absurd (grind arith)
reports_out {x} {y} {w} {A} {B} {p} {q} m n b z k J sa sb mk same st i aw le (took v) = absurd (grind arith)
reports_out {x} {y} {w} {A} {B} {p} {q} m n b z k J sa sb mk same st i aw le (taken v) = absurd (grind arith)
reports_out {x} {y} {w} {A} {B} {p} {q} m n b z k J sa sb mk same st i aw le (merged v) = absurd (grind arith)
reports_out {x} {y} {w} {A} {B} {p} {q} m n b z k J sa sb mk same st i aw le (ahead v) = absurd (grind arith)
reports_out {x} {y} {w} {A} {B} {p} {q} m n b z k J sa sb mk same st i aw le (behind v) = absurd (grind arith)
reports_out {x} {y} {w} {A} {B} {p} {q} m n b z k J sa sb mk same st i aw le (core v) = absurd (grind arith)
reports_out {x} {y} {w} {A} {B} {p} {q} m n b z k J sa sb mk same st i aw le (tells v) = absurd (grind arith)
reports_out {x} {y} {w} {A} {B} {p} {q} m n b z k J sa sb mk same st i aw le (told v) = absurd (grind arith)
reports_out {x} {y} {w} {A} {B} {p} {q} m n b z k J sa sb mk same st i aw le (above v) = let a = aw v.mark_a in let low = down_low x w A.held.level A.held.name A.held.status B.held B.own.reported p v.down in above (record { mark_a = grind arith; mark_b = grind arith; same = grind arith; up_a = grind arith; up_b = grind arith; down = down_state x w A.held.level A.held.name A.held.status Found B.held B.own.reported p v.down (inl a.0); back = grind arith; asked = λ u h. grind arith; finds = elim v.finds [ inl u ↦ inl u | inr u ↦ elim (bool (busy p)) [ inl g ↦ inl g | inr g ↦ inr (λ h. absurd (calmed sb a.2 (low.2 g).0 u.1 h), u.1) ] ]; spent = grind arith; rank = grind arith; alike = grind arith; calmer = λ u. grind arith; heard = λ u h z. grind arith })
reports_out {x} {y} {w} {A} {B} {p} {q} m n b z k J sa sb mk same st i aw le (below v) = absurd (grind arith)

-- a report of one below, and others are waited for
pub hears_wait : {x y w : ℕ} {A B : View} {p q : List Message} {r : Option ℕ} (n : ℕ) (b : Option ℕ) (z : Option ℕ) (k : Option ℕ) → Sane y A → Sane x B → (A.held.parent ≡ Some y → ⊥) → Mode x y w A B p (Report r ∷ q) → Mode x y w (acted idle (tuned A.held.status A.held.mark n b z k A.held) A B) (follow idle A B B) p q
hears_wait {x} {y} {w} {A} {B} {p} {q} {r} n b z k sa sb i (free v) = absurd (grind arith)
hears_wait {x} {y} {w} {A} {B} {p} {q} {r} n b z k sa sb i (offered v) = absurd (grind arith)
hears_wait {x} {y} {w} {A} {B} {p} {q} {r} n b z k sa sb i (offers v) = absurd (grind arith)
hears_wait {x} {y} {w} {A} {B} {p} {q} {r} n b z k sa sb i (crossing v) = absurd (grind arith)
hears_wait {x} {y} {w} {A} {B} {p} {q} {r} n b z k sa sb i (took v) = absurd (grind arith)
hears_wait {x} {y} {w} {A} {B} {p} {q} {r} n b z k sa sb i (taken v) = absurd (grind arith)
hears_wait {x} {y} {w} {A} {B} {p} {q} {r} n b z k sa sb i (merged v) = absurd (grind arith)
hears_wait {x} {y} {w} {A} {B} {p} {q} {r} n b z k sa sb i (ahead v) = absurd (grind arith)
hears_wait {x} {y} {w} {A} {B} {p} {q} {r} n b z k sa sb i (behind v) = absurd (grind arith)
hears_wait {x} {y} {w} {A} {B} {p} {q} {r} n b z k sa sb i (core v) = absurd (grind arith)
hears_wait {x} {y} {w} {A} {B} {p} {q} {r} n b z k sa sb i (tells v) = absurd (grind arith)
hears_wait {x} {y} {w} {A} {B} {p} {q} {r} n b z k sa sb i (told v) = absurd (grind arith)
hears_wait {x} {y} {w} {A} {B} {p} {q} {r} n b z k sa sb i (above v) = above (record { mark_a = grind arith; mark_b = grind arith; same = grind arith; up_a = grind arith; up_b = grind arith; down = v.down; back = grind arith; asked = λ u h. grind arith; finds = grind arith; spent = grind arith; rank = grind arith; alike = grind arith; calmer = λ u. grind arith; heard = λ u h z. grind arith })
hears_wait {x} {y} {w} {A} {B} {p} {q} {r} n b z k sa sb i (below v) = absurd (grind arith)

-- and nobody else
pub hears_report : {x y w : ℕ} {A B : View} {p q : List Message} {r : Option ℕ} (n : ℕ) (b : Option ℕ) (z : Option ℕ) (k : Option ℕ) → Sane y A → Sane x B → (A.held.parent ≡ Some y → ⊥) → lighter r z ≡ false → Mode x y w A B p (Report r ∷ q) → Mode x y w (acted report (tuned Found A.held.mark n b z k A.held) A B) (follow report A B B) p q
hears_report {x} {y} {w} {A} {B} {p} {q} {r} n b z k sa sb i le (free v) = absurd (grind arith)
hears_report {x} {y} {w} {A} {B} {p} {q} {r} n b z k sa sb i le (offered v) = absurd (grind arith)
hears_report {x} {y} {w} {A} {B} {p} {q} {r} n b z k sa sb i le (offers v) = absurd (grind arith)
hears_report {x} {y} {w} {A} {B} {p} {q} {r} n b z k sa sb i le (crossing v) = absurd (grind arith)
hears_report {x} {y} {w} {A} {B} {p} {q} {r} n b z k sa sb i le (took v) = absurd (grind arith)
hears_report {x} {y} {w} {A} {B} {p} {q} {r} n b z k sa sb i le (taken v) = absurd (grind arith)
hears_report {x} {y} {w} {A} {B} {p} {q} {r} n b z k sa sb i le (merged v) = absurd (grind arith)
hears_report {x} {y} {w} {A} {B} {p} {q} {r} n b z k sa sb i le (ahead v) = absurd (grind arith)
hears_report {x} {y} {w} {A} {B} {p} {q} {r} n b z k sa sb i le (behind v) = absurd (grind arith)
hears_report {x} {y} {w} {A} {B} {p} {q} {r} n b z k sa sb i le (core v) = absurd (grind arith)
hears_report {x} {y} {w} {A} {B} {p} {q} {r} n b z k sa sb i le (tells v) = absurd (grind arith)
hears_report {x} {y} {w} {A} {B} {p} {q} {r} n b z k sa sb i le (told v) = absurd (grind arith)
hears_report {x} {y} {w} {A} {B} {p} {q} {r} n b z k sa sb i le (above v) = let low = down_low x w A.held.level A.held.name A.held.status B.held B.own.reported p v.down in let nb : busy p ≡ false = grind arith in above (record { mark_a = grind arith; mark_b = grind arith; same = grind arith; up_a = grind arith; up_b = grind arith; down = down_state x w A.held.level A.held.name A.held.status Found B.held B.own.reported p v.down (inl (low.2 nb).2); back = grind arith; asked = λ u h. grind arith; finds = grind arith; spent = grind arith; rank = grind arith; alike = grind arith; calmer = λ u. grind arith; heard = λ u h z. grind arith })
hears_report {x} {y} {w} {A} {B} {p} {q} {r} n b z k sa sb i le (below v) = absurd (grind arith)

unsure_is : (m : Mark) → (m ≡ Branch → ⊥) → (m ≡ Rejected → ⊥) → m ≡ Basic
unsure_is Basic a b = refl
unsure_is Branch a b = absurd (a refl)
unsure_is Rejected a b = absurd (b refl)

-- waking, over the edge that it lays
pub wake_to : {x y w : ℕ} {A B : View} {p q : List Message} (d : Bool) (g : Held) (J : View) → g.mark y ≡ Branch → g.level ≡ 0 → A.fragment.level ≡ 0 → A.held.level ≡ 0 → A.held.mark y ≡ Basic → (A.own.label ≡ B.own.label → ⊥) → Mode x y w A B p q → Mode x y w (acted (starts x y (Some y) (Some w)) g A J) (follow (starts x y (Some y) (Some w)) A J B) (p ++ (Connect 0 ∷ [])) q
wake_to {x} {y} {w} {A} {B} {p} {q} d g J m l pl hl a e (free v) = let u : B.held.mark x ≡ Basic = unsure_is (B.held.mark x) v.mark_b (λ u. e (v.rejected_b u)) in offers (rw v.out (record { mark_a = grind arith; mark_b = grind arith; out = grind arith; back = grind arith; differ = λ u. grind arith; up_b = grind arith; changed_b = grind arith; current_b = grind arith; least_b = grind arith; levels = grind arith; sends_b = grind arith; gets_b = grind arith }))
wake_to {x} {y} {w} {A} {B} {p} {q} d g J m l pl hl a e (offered v) = crossing (rw v.out (record { mark_a = grind arith; mark_b = grind arith; out = grind arith; back = grind arith; differ = λ u. grind arith; up_a = grind arith; up_b = grind arith; changed_a = grind arith; changed_b = grind arith; current_a = grind arith; current_b = grind arith; least_a = grind arith; least_b = grind arith; levels = grind arith; sends_a = grind arith; gets_a = grind arith; sends_b = grind arith; gets_b = grind arith }))
wake_to {x} {y} {w} {A} {B} {p} {q} d g J m l pl hl a e (offers v) = absurd (grind arith)
wake_to {x} {y} {w} {A} {B} {p} {q} d g J m l pl hl a e (crossing v) = absurd (grind arith)
wake_to {x} {y} {w} {A} {B} {p} {q} d g J m l pl hl a e (took v) = absurd (grind arith)
wake_to {x} {y} {w} {A} {B} {p} {q} d g J m l pl hl a e (taken v) = absurd (grind arith)
wake_to {x} {y} {w} {A} {B} {p} {q} d g J m l pl hl a e (merged v) = absurd (grind arith)
wake_to {x} {y} {w} {A} {B} {p} {q} d g J m l pl hl a e (ahead v) = absurd (grind arith)
wake_to {x} {y} {w} {A} {B} {p} {q} d g J m l pl hl a e (behind v) = absurd (grind arith)
wake_to {x} {y} {w} {A} {B} {p} {q} d g J m l pl hl a e (core v) = absurd (grind arith)
wake_to {x} {y} {w} {A} {B} {p} {q} d g J m l pl hl a e (tells v) = absurd (grind arith)
wake_to {x} {y} {w} {A} {B} {p} {q} d g J m l pl hl a e (told v) = absurd (grind arith)
wake_to {x} {y} {w} {A} {B} {p} {q} d g J m l pl hl a e (above v) = absurd (grind arith)
wake_to {x} {y} {w} {A} {B} {p} {q} d g J m l pl hl a e (below v) = absurd (grind arith)

-- and over the others
pub wake_else : {x y w : ℕ} {A B : View} {p q : List Message} (me b : ℕ) (k : Option ℕ) (z : Option ℕ) (g : Held) (J : View) → g.mark y ≡ A.held.mark y → g.level ≡ 0 → A.held.level ≡ 0 → A.held.mark y ≡ Basic → (A.own.label ≡ B.own.label → ⊥) → Mode x y w A B p q → Mode x y w (acted (starts me b k z) g A J) (follow (starts me b k z) A J B) p q
wake_else {x} {y} {w} {A} {B} {p} {q} me b k z g J m l hl a e (free v) = free (record { mark_a = grind arith; mark_b = grind arith; out = grind arith; back = grind arith; rejected_a = grind arith; rejected_b = grind arith })
wake_else {x} {y} {w} {A} {B} {p} {q} me b k z g J m l hl a e (offered v) = offered (record { mark_a = grind arith; mark_b = grind arith; out = grind arith; back = grind arith; differ = λ u. grind arith; up_b = grind arith; changed_b = grind arith; current_b = grind arith; least_b = grind arith; levels = grind arith; sends_b = grind arith; gets_b = grind arith })
wake_else {x} {y} {w} {A} {B} {p} {q} me b k z g J m l hl a e (offers v) = absurd (grind arith)
wake_else {x} {y} {w} {A} {B} {p} {q} me b k z g J m l hl a e (crossing v) = absurd (grind arith)
wake_else {x} {y} {w} {A} {B} {p} {q} me b k z g J m l hl a e (took v) = absurd (grind arith)
wake_else {x} {y} {w} {A} {B} {p} {q} me b k z g J m l hl a e (taken v) = absurd (grind arith)
wake_else {x} {y} {w} {A} {B} {p} {q} me b k z g J m l hl a e (merged v) = absurd (grind arith)
wake_else {x} {y} {w} {A} {B} {p} {q} me b k z g J m l hl a e (ahead v) = absurd (grind arith)
wake_else {x} {y} {w} {A} {B} {p} {q} me b k z g J m l hl a e (behind v) = absurd (grind arith)
wake_else {x} {y} {w} {A} {B} {p} {q} me b k z g J m l hl a e (core v) = absurd (grind arith)
wake_else {x} {y} {w} {A} {B} {p} {q} me b k z g J m l hl a e (tells v) = absurd (grind arith)
wake_else {x} {y} {w} {A} {B} {p} {q} me b k z g J m l hl a e (told v) = absurd (grind arith)
wake_else {x} {y} {w} {A} {B} {p} {q} me b k z g J m l hl a e (above v) = absurd (grind arith)
wake_else {x} {y} {w} {A} {B} {p} {q} me b k z g J m l hl a e (below v) = absurd (grind arith)
