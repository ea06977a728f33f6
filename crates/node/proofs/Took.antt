-- What came of a waking or of a message, a case for each row of the rules: what the node did, why the message has to wait, or why it is turned away.
use Rattle.std.proofs.Common.{◌≡◌, ℕ, ◌+◌, ◌<◌, ◌≤◌, Bool, true, false, cond, ◌&&◌, eqb, ltb, leb, Some, None, Option, refl, subst, inl, inr, arith}
use Rattle.message.specs.declared.refusals.Refusal.{Refusal}
use Rattle.message.specs.declared.refusals.Refusal.TheVariants.{NoSuchEdge, OutOfPlace}
use Rattle.message.specs.declared.messages.Phase.TheVariants as phase
use Rattle.message.specs.declared.messages.Message.{Message}
use Rattle.message.specs.declared.messages.Message.TheVariants.{Connect, Initiate, Test, Accept, Reject, Report, Change}
use Rattle.message.specs.Bytes.{fits}
use Rattle.node.specs.declared.state.Best.{Best}
use Rattle.node.specs.declared.state.Best.TheVariants as best
use Rattle.node.specs.declared.state.Node.{Node}
use Rattle.node.specs.declared.state.Turn.{Turn}
use Rattle.node.specs.declared.state.Taking.{Taking}
use Rattle.node.specs.declared.state.Taking.TheVariants.{Taken, Deferred, Refused}
use Rattle.node.specs.Rules.{is_basic, is_find, is_sleeping, has_edge, mark_of, weight_of, is_edge, best_weight, lighter, silent, sending, turn, phase_of, lightest, woken_by, wakes, reports, testing, tests, changes, absorbing, branches_but, onward, joining, rejecting, bettering, heard, changes_by, halting, decides, takes_awake, takes}
use Rattle.node.specs.Laws.{Steps, UntakenUnchanged}

-- what waking comes to
pub data Woke (n : Node) : Turn → Type 0 where
  awake : is_sleeping n.status ≡ false → Woke n (turn n silent)
  alone : is_sleeping n.status ≡ true → lightest n (has_edge n) 16 ≡ None → Woke n (woken_by None n)
  connects : (k : ℕ) → is_sleeping n.status ≡ true → lightest n (has_edge n) 16 ≡ Some k → Woke n (woken_by (Some k) n)

-- what the message that came over j comes to, if it is taken
pub data Took (n : Node) (j : ℕ) : Message → Turn → Type 0 where
  absorbed : (l : ℕ) → l < n.level → (is_find n.status && eqb n.find_count 255) ≡ false → Took n j (Connect l) (turn (absorbing j n) (sending j (Initiate n.level n.name (phase_of n.status)) silent))
  merged : (l : ℕ) → n.level ≤ l → is_basic (mark_of n j) ≡ false → n.level < 8 → Took n j (Connect l) (turn n (sending j (Initiate (n.level + 1) (weight_of n j) phase.Find) silent))
  joined_finding : (l f : ℕ) → n.find_count + branches_but n j 16 ≤ 255 → Took n j (Initiate l f phase.Find) (tests (joining j l f phase.Find (n.find_count + branches_but n j 16) n) (onward n j (Initiate l f phase.Find) 16))
  joined_found : (l f : ℕ) → Took n j (Initiate l f phase.Found) (turn (joining j l f phase.Found n.find_count n) (onward n j (Initiate l f phase.Found) 16))
  accepts : (l f : ℕ) → l ≤ n.level → eqb f n.name ≡ false → Took n j (Test l f) (turn n (sending j Accept silent))
  rejects : (l f : ℕ) → l ≤ n.level → f ≡ n.name → is_edge n.testing j ≡ false → Took n j (Test l f) (turn (rejecting j n) (sending j Reject silent))
  tests_on : (l f : ℕ) → l ≤ n.level → f ≡ n.name → is_edge n.testing j ≡ true → Took n j (Test l f) (tests (rejecting j n) silent)
  accepted : is_edge n.testing j ≡ true → Took n j Accept (reports (bettering j (Some (weight_of n j)) (testing None n)) silent)
  rejected : is_edge n.testing j ≡ true → Took n j Reject (tests (rejecting j n) silent)
  heard_child : (w : Option ℕ) → is_edge n.parent j ≡ false → Took n j (Report w) (reports (bettering j w (heard n)) silent)
  changed_by : (w : Option ℕ) (k v : ℕ) → is_edge n.parent j ≡ true → is_find n.status ≡ false → lighter (best_weight n.best) w ≡ true → n.best ≡ best.Over k v → Took n j (Report w) (changes k n)
  settled : (w : Option ℕ) → is_edge n.parent j ≡ true → is_find n.status ≡ false → lighter (best_weight n.best) w ≡ false → Took n j (Report w) (turn (halting w n) silent)
  changed : (k v : ℕ) → n.best ≡ best.Over k v → Took n j Change (changes k n)

-- why a message has to wait
pub data Waits (n : Node) (j : ℕ) : Message → Type 0 where
  sleeps : (m : Message) → is_sleeping n.status ≡ true → Waits n j m
  not_lower : (l : ℕ) → n.level ≤ l → is_basic (mark_of n j) ≡ true → Waits n j (Connect l)
  higher : (l f : ℕ) → n.level < l → Waits n j (Test l f)
  finding : (w : Option ℕ) → is_edge n.parent j ≡ true → is_find n.status ≡ true → Waits n j (Report w)

-- why a message is turned away
pub data Turned (n : Node) (j : ℕ) : Message → Refusal → Type 0 where
  no_edge : (m : Message) → has_edge n j ≡ false → Turned n j m NoSuchEdge
  unfit : (m : Message) → fits m ≡ false → Turned n j m OutOfPlace
  full : (l : ℕ) → is_find n.status ≡ true → n.find_count ≡ 255 → Turned n j (Connect l) OutOfPlace
  at_top : (l : ℕ) → is_basic (mark_of n j) ≡ false → 8 ≤ n.level → Turned n j (Connect l) OutOfPlace
  too_many : (l f : ℕ) → 255 < n.find_count + branches_but n j 16 → Turned n j (Initiate l f phase.Find) OutOfPlace
  accept_unasked : is_edge n.testing j ≡ false → Turned n j Accept OutOfPlace
  reject_unasked : is_edge n.testing j ≡ false → Turned n j Reject OutOfPlace
  no_best : n.best ≡ best.Nothing → Turned n j Change OutOfPlace

-- what a message comes to at n: it is taken, or, for a reason, leaves the node as it was
data On (P : Turn → Type 0) (D : Type 0) (R : Refusal → Type 0) (n : Node) : Taking → Type 0 where
  taken : {t : Turn} → P t → On P D R n (Taken t)
  deferred : D → On P D R n (Deferred n)
  refused : {r : Refusal} → R r → On P D R n (Refused n r)

module _ {P : Turn → Type 0} {D : Type 0} {R : Refusal → Type 0} {n : Node} where
  at : {t : Turn} → On P D R n (Taken t) → P t
  at (taken p) = p

  at_deferred : {o : Node} → On P D R n (Deferred o) → (o ≡ n) × D
  at_deferred (deferred d) = (refl, d)

  at_refused : {o : Node} {r : Refusal} → On P D R n (Refused o r) → (o ≡ n) × R r
  at_refused (refused x) = (refl, x)

  on_cond : (b : Bool) {x y : Taking} → (b ≡ true → On P D R n x) → (b ≡ false → On P D R n y) → On P D R n (cond b x y)
  on_cond true f g = f refl
  on_cond false f g = g refl

  on_map : {Q : Turn → Type 0} {x : Taking} → ((t : Turn) → P t → Q t) → On P D R n x → On Q D R n x
  on_map f (taken {t} p) = taken (f t p)
  on_map f (deferred d) = deferred d
  on_map f (refused r) = refused r

  on_change : (b : Best) → ((k v : ℕ) → b ≡ best.Over k v → P (changes k n)) → (b ≡ best.Nothing → R OutOfPlace) → On P D R n (changes_by b n)
  on_change best.Nothing f g = refused (g refl)
  on_change (best.Over k v) f g = taken (f k v refl)

abbrev OnRules : Node → ℕ → Message → Taking → Type 0
OnRules n j m = On (Took n j m) (Waits n j m) (Turned n j m) n

-- what is lighter than something is there
something : (w : Option ℕ) (b : Best) → lighter (best_weight b) w ≡ true → b ≡ best.Nothing → ⊥
something w b h e = grind arith

on_decides : (n : Node) (j : ℕ) (w : Option ℕ) → is_edge n.parent j ≡ true → is_find n.status ≡ false → OnRules n j (Report w) (decides w n)
on_decides n j w p s =
    on_cond (lighter (best_weight n.best) w) (λ h. on_change n.best (λ k v e. changed_by w k v p s h e) (λ e. absurd (something w n.best h e)))
    (λ h. taken (settled w p s h))

on_awake : (n : Node) (j : ℕ) (m : Message) → OnRules n j m (takes_awake j m n)
on_awake n j (Connect l) =
    on_cond (ltb l n.level)
    (λ a. on_cond (is_find n.status && eqb n.find_count 255) (λ b. refused (full l (grind arith) (grind arith))) (λ b. taken (absorbed l (grind arith) b)))
    (λ a. on_cond (is_basic (mark_of n j)) (λ b. deferred (not_lower l (grind arith) b))
    (λ b. on_cond (leb 8 n.level) (λ c. refused (at_top l b (grind arith))) (λ c. taken (merged l (grind arith) b (grind arith)))))
on_awake n j (Initiate l f phase.Find) =
    on_cond (ltb 255 (n.find_count + branches_but n j 16)) (λ a. refused (too_many l f (grind arith))) (λ a. taken (joined_finding l f (grind arith)))
on_awake n j (Initiate l f phase.Found) = taken (joined_found l f)
on_awake n j (Test l f) =
    on_cond (ltb n.level l) (λ a. deferred (higher l f (grind arith)))
    (λ a. on_cond (eqb f n.name)
    (λ b. on_cond (is_edge n.testing j) (λ c. taken (tests_on l f (grind arith) (grind arith) c)) (λ c. taken (rejects l f (grind arith) (grind arith) c)))
    (λ b. taken (accepts l f (grind arith) b)))
on_awake n j Accept = on_cond (is_edge n.testing j) (λ a. taken (accepted a)) (λ a. refused (accept_unasked a))
on_awake n j Reject = on_cond (is_edge n.testing j) (λ a. taken (rejected a)) (λ a. refused (reject_unasked a))
on_awake n j (Report w) =
    on_cond (is_edge n.parent j) (λ a. on_cond (is_find n.status) (λ b. deferred (finding w a b)) (λ b. on_decides n j w a b)) (λ a. taken (heard_child w a))
on_awake n j Change = on_change n.best (λ k v e. changed k v e) (λ e. no_best e)

-- a message that is taken came over an edge that is there, fits, and found the node awake
pub record Came (n : Node) (j : ℕ) (m : Message) (t : Turn) : Type 0 where
  pub there : has_edge n j ≡ true
  pub fit : fits m ≡ true
  pub wakeful : is_sleeping n.status ≡ false
  pub did : Took n j m t

abbrev OnMessage : Node → ℕ → Message → Taking → Type 0
OnMessage n j m = On (Came n j m) (Waits n j m) (Turned n j m) n

on_takes : (n : Node) (j : ℕ) (m : Message) → OnMessage n j m (takes j m n)
on_takes n j m =
    on_cond (has_edge n j)
    (λ a. on_cond (fits m)
    (λ b. on_cond (is_sleeping n.status) (λ c. deferred (sleeps m c)) (λ c. on_map (λ t p. record { there = a; fit = b; wakeful = c; did = p }) (on_awake n j m)))
    (λ b. refused (unfit m b)))
    (λ a. refused (no_edge m a))

pub came : (n : Node) (j : ℕ) (m : Message) (t : Turn) → takes j m n ≡ Taken t → Came n j m t
came n j m t e = at (subst (OnMessage n j m) e (on_takes n j m))

pub why_deferred : (n o : Node) (j : ℕ) (m : Message) → takes j m n ≡ Deferred o → (o ≡ n) × Waits n j m
why_deferred n o j m e = at_deferred (subst (OnMessage n j m) e (on_takes n j m))

pub why_refused : (n o : Node) (j : ℕ) (m : Message) (r : Refusal) → takes j m n ≡ Refused o r → (o ≡ n) × Turned n j m r
why_refused n o j m r e = at_refused (subst (OnMessage n j m) e (on_takes n j m))

pub untaken_unchanged : UntakenUnchanged
untaken_unchanged n o j m = (λ e. (why_deferred n o j m e).0, λ r e. (why_refused n o j m r e).0)

woken : (n : Node) (b : Bool) (w : Option ℕ) → is_sleeping n.status ≡ b → lightest n (has_edge n) 16 ≡ w → Woke n (cond b (woken_by w n) (turn n silent))
woken n true None a e = alone a e
woken n true (Some k) a e = connects k a e
woken n false w a e = awake a

pub woke : (n : Node) (t : Turn) → wakes n ≡ t → Woke n t
woke n t e = subst (Woke n) e (woken n (is_sleeping n.status) (lightest n (has_edge n) 16) refl refl)

-- a step is a waking, or a message that was taken
pub data Stepped (n : Node) (t : Turn) : Type 0 where
  by_waking : Woke n t → Stepped n t
  by_message : (j : ℕ) (m : Message) → Came n j m t → Stepped n t

pub stepped : (n : Node) (t : Turn) → Steps n t → Stepped n t
stepped n t (inl e) = by_waking (woke n t e)
stepped n t (inr (j, m, e)) = by_message j m (came n j m t e)
