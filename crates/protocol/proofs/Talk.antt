-- Questions about an edge, and their answers.
use Rattle.std.proofs.Common.{◌≡◌, ℕ, ◌<◌, ◌≤◌, true, false, T, eqb, ◌⊎◌, List, [], ◌∷◌, ◌++◌, Some, None, Option, sym, refl, inl, inr, append_assoc, append-nil, arith}
use Rattle.std.proofs.lemmas.Bool.Decides.{eqb_tells}
use Rattle.message.specs.declared.messages.Message.{Message}
use Rattle.message.specs.declared.messages.Message.TheVariants.{Connect, Initiate, Test, Accept, Reject, Report, Change}
use Rattle.node.specs.declared.state.Status.{Status}
use Rattle.node.specs.declared.state.Status.TheVariants.{Find}
use Rattle.graph.specs.declared.mark.Mark.{Mark}
use Rattle.graph.specs.declared.mark.Mark.TheVariants.{Basic, Branch, Rejected}
use Rattle.protocol.proofs.Ghost.{undecided, decided, View, absorb, merge, follow}
use Rattle.protocol.proofs.Mode.{tells, Connecting, Mode, free, offered, offers, crossing, took, taken, merged, ahead, behind, core, told, above, below, Sane}

-- What is under way of questions and their answers over an edge.
-- ask1, tells1: a message if it is a question, or an answer
abbrev pub asks1 : Message → List Message
asks1 (Connect l) = []
asks1 (Initiate l f s) = []
asks1 (Test l f) = Test l f ∷ []
asks1 Accept = []
asks1 Reject = []
asks1 (Report w) = []
asks1 Change = []

abbrev pub replies1 : Message → List Message
replies1 (Connect l) = []
replies1 (Initiate l f s) = []
replies1 (Test l f) = []
replies1 Accept = Accept ∷ []
replies1 Reject = Reject ∷ []
replies1 (Report w) = []
replies1 Change = []

abbrev pub asks : List Message → List Message
asks [] = []
asks (m ∷ q) = asks1 m ++ asks q

abbrev pub replies : List Message → List Message
replies [] = []
replies (m ∷ q) = replies1 m ++ replies q

pub asks-++ : (p q : List Message) → asks (p ++ q) ≡ asks p ++ asks q
asks-++ [] q = refl
asks-++ (m ∷ p) q = let ih = asks-++ p q in rw ih (sym (append_assoc (asks1 m) (asks p) (asks q)))

pub replies-++ : (p q : List Message) → replies (p ++ q) ≡ replies p ++ replies q
replies-++ [] q = refl
replies-++ (m ∷ p) q = let ih = replies-++ p q in rw ih (sym (append_assoc (replies1 m) (replies p) (replies q)))

pub asks_off : (m : Message) (front back : List Message) → (asks1 m ≡ []) ⊎ (asks (front ++ back) ≡ []) → asks (front ++ (m ∷ back)) ≡ asks (m ∷ (front ++ back))
asks_off m [] back h = refl
asks_off m (x ∷ front) back (inl e) = let ih = asks_off m front back (inl e) in grind arith
asks_off m (x ∷ front) back (inr e) = let k = alone x (front ++ back) e in let ih = asks_off m front back (inr k.1) in rw (ih, k.0, k.1, append-nil)
  where
    alone : (x : Message) (q : List Message) → asks1 x ++ asks q ≡ [] → (asks1 x ≡ []) × (asks q ≡ [])
    alone x q e = grind arith

pub replies_off : (m : Message) (front back : List Message) → replies1 m ≡ [] → replies (front ++ (m ∷ back)) ≡ replies (m ∷ (front ++ back))
replies_off m [] back h = refl
replies_off m (x ∷ front) back e = let ih = replies_off m front back e in grind arith

-- A is node x, B node y; an edge that y has rejected out and x has not is asked about
abbrev pub Whole : ℕ → ℕ → View → View → Type 0
Whole x y A B = (B.held.mark x ≡ Rejected → ⊥) ⊎ (A.held.mark y ≡ Basic → ⊥)

-- does A ask B? T: the questions under way from A to B, S: the answers from B to A
pub record Still (x y : ℕ) (A B : View) (T S : List Message) : Type 0 where
  pub testing : A.held.testing ≡ Some y → ⊥
  pub out : T ≡ []
  pub back : S ≡ []
  pub whole : Whole x y A B

pub record Asking (x y : ℕ) (A B : View) (T S : List Message) : Type 0 where
  pub testing : A.held.testing ≡ Some y
  pub out : T ≡ Test A.held.level A.held.name ∷ []
  pub back : S ≡ []
  pub mark : A.held.mark y ≡ Rejected → ⊥
  pub up : A.own.up ≡ Some y → ⊥
  pub whole : Whole x y A B

pub record Yes (x y : ℕ) (A B : View) (T S : List Message) : Type 0 where
  pub testing : A.held.testing ≡ Some y
  pub out : T ≡ []
  pub back : S ≡ Accept ∷ []
  pub mark : A.held.mark y ≡ Basic
  pub differ : A.own.label ≡ B.own.label → ⊥
  pub levels : A.held.level ≤ B.held.level

pub record No (x y : ℕ) (A B : View) (T S : List Message) : Type 0 where
  pub testing : A.held.testing ≡ Some y
  pub out : T ≡ []
  pub back : S ≡ Reject ∷ []
  pub mark : A.held.mark y ≡ Rejected → ⊥
  pub up : A.own.up ≡ Some y → ⊥
  pub theirs : B.held.mark x ≡ Basic → ⊥
  pub same : A.own.label ≡ B.own.label

pub data Ask (x y : ℕ) (A B : View) (T S : List Message) : Type 0 where
  still : Still x y A B T S → Ask x y A B T S
  asking : Asking x y A B T S → Ask x y A B T S
  yes' : Yes x y A B T S → Ask x y A B T S
  no' : No x y A B T S → Ask x y A B T S

-- both asked, and B has rejected the edge out on A's question: its own is A's answer. U: the questions from B, R: the answers from A
pub record Cross (x y : ℕ) (A B : View) (T S U R : List Message) : Type 0 where
  pub testing : A.held.testing ≡ Some y
  pub theirs : B.held.testing ≡ Some x → ⊥
  pub out : T ≡ []
  pub back : S ≡ []
  pub asked : U ≡ Test A.held.level A.held.name ∷ []
  pub said : R ≡ []
  pub mark_a : A.held.mark y ≡ Basic
  pub mark_b : B.held.mark x ≡ Rejected
  pub levels : A.held.level ≡ B.held.level
  pub names : A.held.name ≡ B.held.name

pub data Talk (x y : ℕ) (A B : View) (T S U R : List Message) : Type 0 where
  both : Ask x y A B T S → Ask y x B A U R → Talk x y A B T S U R
  crossed : Cross x y A B T S U R → Talk x y A B T S U R
  left : Cross y x B A U R T S → Talk x y A B T S U R

pub turned_talk : {x y : ℕ} {A B : View} {T S U R : List Message} → Talk x y A B T S U R → Talk y x B A U R T S
turned_talk (both a b) = both b a
turned_talk (crossed v) = left v
turned_talk (left v) = crossed v

-- what is used of the other invariants, of both ends
pub record Peers (x y : ℕ) (A B : View) : Type 0 where
  pub mine : Sane y A
  pub theirs : Sane x B
  pub same : A.own.label ≡ B.own.label → A.fragment ≡ B.fragment
  pub asks_a : (A.held.testing ≡ None) ⊎ (A.held.status ≡ Find)
  pub asks_b : (B.held.testing ≡ None) ⊎ (B.held.status ≡ Find)

-- A becomes A': as far as y is concerned
pub record Side (y : ℕ) (A A' : View) : Type 0 where
  pub mark : A'.held.mark y ≡ A.held.mark y
  pub level : A.held.level ≤ A'.held.level
  pub mine : ((A.held.testing ≡ Some y → ⊥) × (A'.held.testing ≡ Some y → ⊥)) ⊎ ((A'.held.testing ≡ A.held.testing) × (A'.held.level ≡ A.held.level) × (A'.held.name ≡ A.held.name) × (A'.own.up ≡ A.own.up))
  pub left : (A.held.mark y ≡ Rejected → ⊥) ⊎ ((A'.held.level ≡ A.held.level) × (A'.held.name ≡ A.held.name))

pub record Kept (x y : ℕ) (A B A' B' : View) : Type 0 where
  pub a : Side y A A'
  pub b : Side x B B'
  pub same : A.own.label ≡ B.own.label → A'.own.label ≡ B'.own.label
  pub differ_a : A.held.testing ≡ Some y → A.held.level ≤ B.held.level → (A.own.label ≡ B.own.label → ⊥) → A'.own.label ≡ B'.own.label → ⊥
  pub differ_b : B.held.testing ≡ Some x → B.held.level ≤ A.held.level → (A.own.label ≡ B.own.label → ⊥) → A'.own.label ≡ B'.own.label → ⊥

keep_ask : {x y : ℕ} {A B A' B' : View} {T S : List Message} → Side y A A' → Side x B B' → (A.own.label ≡ B.own.label → A'.own.label ≡ B'.own.label) → (A.held.testing ≡ Some y → A.held.level ≤ B.held.level → (A.own.label ≡ B.own.label → ⊥) → A'.own.label ≡ B'.own.label → ⊥) → Ask x y A B T S → Ask x y A' B' T S
keep_ask a b s d (still v) = still (grind arith)
keep_ask a b s d (asking v) = asking (grind arith)
keep_ask a b s d (yes' v) = yes' (record { testing = grind arith; out = v.out; back = v.back; mark = grind arith; differ = d v.testing v.levels v.differ; levels = grind arith })
keep_ask a b s d (no' v) = no' (record { testing = grind arith; out = v.out; back = v.back; mark = grind arith; up = grind arith; theirs = grind arith; same = s v.same })

keep_cross : {x y : ℕ} {A B A' B' : View} {T S U R : List Message} → Side y A A' → Side x B B' → Cross x y A B T S U R → Cross x y A' B' T S U R
keep_cross a b v = grind arith

pub keep : {x y : ℕ} {A B A' B' : View} {T S U R : List Message} → Kept x y A B A' B' → Talk x y A B T S U R → Talk x y A' B' T S U R
keep k (both u v) = both (keep_ask k.a k.b k.same k.differ_a u) (keep_ask k.b k.a (λ e. sym (k.same (sym e))) (λ t l d e. k.differ_b t l (λ z. d (sym z)) (sym e)) v)
keep k (crossed v) = crossed (keep_cross k.a k.b v)
keep k (left v) = left (keep_cross k.b k.a v)

-- nothing changes
pub record Same (y : ℕ) (A A' : View) : Type 0 where
  pub testing : A'.held.testing ≡ A.held.testing
  pub mark : A'.held.mark y ≡ A.held.mark y
  pub level : A'.held.level ≡ A.held.level
  pub name : A'.held.name ≡ A.held.name
  pub up : A'.own.up ≡ A.own.up
  pub label : A'.own.label ≡ A.own.label

-- A no heavier asks y; it rules the edge out unless it is a branch
pub record Rules (y : ℕ) (A A' : View) : Type 0 where
  pub testing : A'.held.testing ≡ Some y → ⊥
  pub Rejected : A.held.mark y ≡ Basic → A'.held.mark y ≡ Rejected
  pub kept : (A.held.mark y ≡ Basic → ⊥) → A'.held.mark y ≡ A.held.mark y
  pub level : A'.held.level ≡ A.held.level
  pub name : A'.held.name ≡ A.held.name
  pub label : A'.own.label ≡ A.own.label

same_side : {y : ℕ} {A A' : View} → Same y A A' → Side y A A'
same_side s = grind arith

pub mark_is : (m : Mark) → (m ≡ Branch → ⊥) → (m ≡ Rejected → ⊥) → m ≡ Basic
mark_is Basic a b = refl
mark_is Branch a b = absurd (a refl)
mark_is Rejected a b = absurd (b refl)

-- who asks over a branch edge asks what hangs below it
pub hangs : {x y w : ℕ} {A B : View} {p q : List Message} → A.held.mark y ≡ Branch → (A.own.up ≡ Some y → ⊥) → Mode x y w A B p q → (A.own.label ≡ B.own.label) × (B.own.up ≡ Some x)
hangs a b (free v) = absurd (grind arith)
hangs a b (offered v) = absurd (grind arith)
hangs a b (offers v) = absurd (grind arith)
hangs a b (crossing v) = absurd (grind arith)
hangs a b (took v) = absurd (grind arith)
hangs a b (taken v) = absurd (grind arith)
hangs a b (merged v) = absurd (grind arith)
hangs a b (ahead v) = absurd (grind arith)
hangs a b (behind v) = absurd (grind arith)
hangs a b (core v) = absurd (grind arith)
hangs a b (tells v) = absurd (grind arith)
hangs a b (told v) = absurd (grind arith)
hangs a b (above v) = grind arith
hangs a b (below v) = absurd (grind arith)

pub hangs_back : {x y w : ℕ} {A B : View} {p q : List Message} → B.held.mark x ≡ Branch → (B.own.up ≡ Some x → ⊥) → Mode x y w A B p q → (A.own.label ≡ B.own.label) × (A.own.up ≡ Some y)
hangs_back a b (free v) = absurd (grind arith)
hangs_back a b (offered v) = absurd (grind arith)
hangs_back a b (offers v) = absurd (grind arith)
hangs_back a b (crossing v) = absurd (grind arith)
hangs_back a b (took v) = absurd (grind arith)
hangs_back a b (taken v) = absurd (grind arith)
hangs_back a b (merged v) = absurd (grind arith)
hangs_back a b (ahead v) = absurd (grind arith)
hangs_back a b (behind v) = absurd (grind arith)
hangs_back a b (core v) = absurd (grind arith)
hangs_back a b (tells v) = absurd (grind arith)
hangs_back a b (told v) = absurd (grind arith)
hangs_back a b (above v) = absurd (grind arith)
hangs_back a b (below v) = grind arith

pub inner : {x y w : ℕ} {A B : View} {p q : List Message} → (A.held.mark y ≡ Rejected) ⊎ (B.held.mark x ≡ Rejected) → Mode x y w A B p q → A.own.label ≡ B.own.label
inner a (free v) = elim a [ inl u ↦ v.rejected_a u | inr u ↦ v.rejected_b u ]
inner a (offered v) = absurd (grind arith)
inner a (offers v) = absurd (grind arith)
inner a (crossing v) = absurd (grind arith)
inner a (took v) = absurd (grind arith)
inner a (taken v) = absurd (grind arith)
inner a (merged v) = absurd (grind arith)
inner a (ahead v) = absurd (grind arith)
inner a (behind v) = absurd (grind arith)
inner a (core v) = absurd (grind arith)
inner a (tells v) = absurd (grind arith)
inner a (told v) = absurd (grind arith)
inner a (above v) = absurd (grind arith)
inner a (below v) = absurd (grind arith)

pub asks_seeks : {w : (Option ℕ)} {s : Status} {y : ℕ} → (w ≡ None) ⊎ (s ≡ Find) → w ≡ Some y → s ≡ Find
asks_seeks a b = grind arith

-- who asks and is not above the other in its fragment is answered by its own name
named : {x y : ℕ} {A B : View} → Peers x y A B → B.held.testing ≡ Some x → B.held.level ≤ A.held.level → A.own.label ≡ B.own.label → (B.held.name ≡ A.held.name) × (B.held.level ≡ A.held.level)
named {x} {y} {A} {B} k t l e = let s = asks_seeks k.asks_b t in let c = k.theirs.find_current s in let d = k.same e in let a = k.mine.low in let n = k.mine.name in let o = k.theirs.name c in (grind arith, grind arith)

pub over_accepts : {x y w l f : ℕ} {A B A' B' : View} {p q T S U R : List Message} → Peers x y A B → Same y A A' → Same x B B' → l ≤ A.held.level → (f ≡ A.held.name → ⊥) → Mode x y w A B p q → Talk x y A B T S (Test l f ∷ U) R → Talk x y A' B' T S U (R ++ (Accept ∷ []))
over_accepts k sa sb c d e (both a (still v)) = absurd (let o = v.out in grind arith)
over_accepts {x} {y} {A = A} {B} k sa sb c d e (both a (asking v)) =
    let l1 : B.held.level ≤ A.held.level = let o = v.out in grind arith in
    let f1 : B.held.name ≡ A.held.name → ⊥ = let o = v.out in λ u. grind arith in
    let df : A.own.label ≡ B.own.label → ⊥ = λ u. f1 (named k v.testing l1 u).0 in
    both (keep_ask (same_side sa) (same_side sb) (λ u. grind arith) (λ u1 u2 u3 u4. grind arith) a)
    (yes' (record { testing = grind arith; out = let o = v.out in grind arith; back = let o = v.back in grind arith; mark = let z = mark_is (B.held.mark x) (λ u. df (hangs_back u v.up e).0) v.mark in grind arith; differ = λ u. grind arith; levels = grind arith }))
over_accepts k sa sb c d e (both a (yes' v)) = absurd (let o = v.out in grind arith)
over_accepts k sa sb c d e (both a (no' v)) = absurd (let o = v.out in grind arith)
over_accepts k sa sb c d e (crossed v) = absurd (let o = v.asked in grind arith)
over_accepts k sa sb c d e (left v) = absurd (let o = v.out in grind arith)

pub over_rejects : {x y w l f : ℕ} {A B A' B' : View} {p q T S U R : List Message} → Peers x y A B → Rules y A A' → Same x B B' → (f ≡ A.held.name → A.own.label ≡ B.own.label) → f ≡ A.held.name → (A.held.testing ≡ Some y → ⊥) → Mode x y w A B p q → Talk x y A B T S (Test l f ∷ U) R → Talk x y A' B' T S U (R ++ (Reject ∷ []))
over_rejects k sa sb n c d e (both (still u) (asking v)) =
    both (still (record { testing = sa.testing; out = u.out; back = u.back; whole = inr (grind arith) }))
    (no' (record { testing = grind arith; out = let o = v.out in grind arith; back = let o = v.back in grind arith; mark = grind arith; up = grind arith; theirs = grind arith; same = let z = n c in grind arith }))
over_rejects k sa sb n c d e (both (asking u) v) = absurd (d u.testing)
over_rejects k sa sb n c d e (both (yes' u) v) = absurd (d u.testing)
over_rejects k sa sb n c d e (both (no' u) v) = absurd (d u.testing)
over_rejects k sa sb n c d e (both (still u) (still v)) = absurd (let o = v.out in grind arith)
over_rejects k sa sb n c d e (both (still u) (yes' v)) = absurd (let o = v.out in grind arith)
over_rejects k sa sb n c d e (both (still u) (no' v)) = absurd (let o = v.out in grind arith)
over_rejects k sa sb n c d e (crossed v) = absurd (d v.testing)
over_rejects k sa sb n c d e (left v) = absurd (let o = v.out in grind arith)

pub over_crosses : {x y w l f : ℕ} {A B A' B' : View} {p q T S U R : List Message} → Peers x y A B → Rules y A A' → Same x B B' → (f ≡ A.held.name → A.own.label ≡ B.own.label) → l ≤ A.held.level → f ≡ A.held.name → A.held.testing ≡ Some y → Mode x y w A B p q → Talk x y A B T S (Test l f ∷ U) R → Talk x y A' B' T S U R
over_crosses {x} {y} {A = A} {B} k sa sb n l c d e (both (asking u) (asking v)) =
    let l1 : B.held.level ≤ A.held.level = let o = v.out in grind arith in
    let lv = named k v.testing l1 (n c) in
    let ma : A.held.mark y ≡ Basic = mark_is (A.held.mark y) (λ z. v.up (hangs z u.up e).1) u.mark in
    let mb : B.held.mark x ≡ Basic = mark_is (B.held.mark x) (λ z. u.up (hangs_back z v.up e).1) v.mark in
    left (record { testing = grind arith; theirs = sa.testing; out = let o = v.out in grind arith; back = v.back; asked = let o = u.out in grind arith; said = u.back; mark_a = grind arith; mark_b = grind arith; levels = grind arith; names = grind arith })
over_crosses k sa sb n l c d e (both (still u) v) = absurd (u.testing d)
over_crosses k sa sb n l c d e (both (yes' u) v) = absurd (u.differ (n c))
over_crosses {x} {y} {A = A} {B} k sa sb n l c d e (both (no' u) (asking v)) = absurd (let mb = mark_is (B.held.mark x) (λ z. u.up (hangs_back z v.up e).1) v.mark in u.theirs mb)
over_crosses k sa sb n l c d e (both (no' u) (still v)) = absurd (let o = v.out in grind arith)
over_crosses k sa sb n l c d e (both (no' u) (yes' v)) = absurd (let o = v.out in grind arith)
over_crosses k sa sb n l c d e (both (no' u) (no' v)) = absurd (let o = v.out in grind arith)
over_crosses k sa sb n l c d e (both (asking u) (still v)) = absurd (let o = v.out in grind arith)
over_crosses k sa sb n l c d e (both (asking u) (yes' v)) = absurd (let o = v.out in grind arith)
over_crosses k sa sb n l c d e (both (asking u) (no' v)) = absurd (let o = v.out in grind arith)
over_crosses k sa sb n l c d e (crossed v) = both (still (record { testing = sa.testing; out = v.out; back = v.back; whole = inr (grind arith) })) (still (record { testing = grind arith; out = let o = v.asked in grind arith; back = v.said; whole = inr (grind arith) }))
over_crosses k sa sb n l c d e (left v) = absurd (v.theirs d)

-- A takes B's yes
pub over_yes : {x y w : ℕ} {A B A' B' : View} {p q T S U R : List Message} → (A'.held.testing ≡ Some y → ⊥) → A'.held.mark y ≡ A.held.mark y → A'.held.level ≡ A.held.level → A'.own.label ≡ A.own.label → Same x B B' → Mode x y w A B p q → Talk x y A B T (Accept ∷ S) U R → Talk x y A' B' T S U R
over_yes {x} {y} {A = A} {B} a b c d sb e (both (yes' u) v) = both (still (record { testing = a; out = u.out; back = let o = u.back in grind arith; whole = inl (λ z. u.differ (inner (inr (grind arith)) e)) })) (theirs b c d sb v)
  where
    theirs : {x y : ℕ} {A B A' B' : View} {U R : List Message} → A'.held.mark y ≡ A.held.mark y → A'.held.level ≡ A.held.level → A'.own.label ≡ A.own.label → Same x B B' → Ask y x B A U R → Ask y x B' A' U R
    theirs a b c s (still v) = still (grind arith)
    theirs a b c s (asking v) = asking (grind arith)
    theirs a b c s (yes' v) = yes' (grind arith)
    theirs a b c s (no' v) = no' (grind arith)
over_yes a b c d sb e (both (still u) v) = absurd (let o = u.back in grind arith)
over_yes a b c d sb e (both (asking u) v) = absurd (let o = u.back in grind arith)
over_yes a b c d sb e (both (no' u) v) = absurd (let o = u.back in grind arith)
over_yes a b c d sb e (crossed v) = absurd (let o = v.back in grind arith)
over_yes a b c d sb e (left v) = absurd (let o = v.said in grind arith)

-- A takes B's no
rules_theirs : {x y : ℕ} {A B A' B' : View} {U R : List Message} → Rules y A A' → (B.held.mark x ≡ Basic → ⊥) → Same x B B' → Ask y x B A U R → Ask y x B' A' U R
rules_theirs r n s (still v) = still (record { testing = grind arith; out = v.out; back = v.back; whole = inr (grind arith) })
rules_theirs r n s (asking v) = asking (record { testing = grind arith; out = grind arith; back = v.back; mark = grind arith; up = grind arith; whole = inr (grind arith) })
rules_theirs r n s (yes' v) = absurd (n v.mark)
rules_theirs {x} {y} {A} {B} {A'} {B'} r n s (no' v) = no' (record { testing = grind arith; out = v.out; back = v.back; mark = grind arith; up = grind arith; theirs = let z = r.kept v.theirs in grind arith; same = grind arith })

pub over_no : {x y : ℕ} {A B A' B' : View} {T S U R : List Message} → Rules y A A' → Same x B B' → Talk x y A B T (Reject ∷ S) U R → Talk x y A' B' T S U R
over_no {x} {y} {A} {B} {A'} {B'} sa sb (both (no' u) v) = both (still (record { testing = sa.testing; out = u.out; back = let o = u.back in grind arith; whole = inr (ruledout (A.held.mark y) refl sa) })) (rules_theirs sa u.theirs sb v)
  where
    ruledout : {y : ℕ} {A A' : View} (m : Mark) → A.held.mark y ≡ m → Rules y A A' → A'.held.mark y ≡ Basic → ⊥
    ruledout Basic e r = λ z. grind arith
    ruledout Branch e r = λ z. grind arith
    ruledout Rejected e r = λ z. grind arith
over_no sa sb (both (still u) v) = absurd (let o = u.back in grind arith)
over_no sa sb (both (asking u) v) = absurd (let o = u.back in grind arith)
over_no sa sb (both (yes' u) v) = absurd (let o = u.back in grind arith)
over_no sa sb (crossed v) = absurd (let o = v.back in grind arith)
over_no sa sb (left v) = absurd (let o = v.said in grind arith)

-- B's question as A changes: the edge keeps its mark at A, or is a branch there
theirs_keep : {x y : ℕ} {A B A' B' : View} {U R : List Message} → (A'.held.mark y ≡ A.held.mark y) ⊎ (A'.held.mark y ≡ Branch) → A.held.level ≤ A'.held.level → A'.own.label ≡ A.own.label → Same x B B' → Ask y x B A U R → Ask y x B' A' U R
theirs_keep a b c s (still v) = still (record { testing = grind arith; out = v.out; back = v.back; whole = grind arith })
theirs_keep a b c s (asking v) = asking (record { testing = grind arith; out = grind arith; back = v.back; mark = grind arith; up = grind arith; whole = grind arith })
theirs_keep a b c s (yes' v) = yes' (grind arith)
theirs_keep a b c s (no' v) = no' (record { testing = grind arith; out = v.out; back = v.back; mark = grind arith; up = grind arith; theirs = grind arith; same = grind arith })

-- A begins to ask
pub newly : {x y : ℕ} {A B A' B' : View} {T S U R : List Message} → (A.held.testing ≡ Some y → ⊥) → A.held.mark y ≡ Basic → A'.held.mark y ≡ A.held.mark y → A.held.level ≤ A'.held.level → A'.own.label ≡ A.own.label → A'.held.testing ≡ Some y → (A'.own.up ≡ Some y → ⊥) → Same x B B' →
    Talk x y A B T S U R → Talk x y A' B' (T ++ (Test A'.held.level A'.held.name ∷ [])) S U R
newly n u m l e t p s (both (still a) b) = both (asking (record { testing = t; out = let o = a.out in grind arith; back = a.back; mark = grind arith; up = p; whole = let z = a.whole in grind arith })) (theirs_keep (inl m) l e s b)
newly n u m l e t p s (both (asking a) b) = absurd (n a.testing)
newly n u m l e t p s (both (yes' a) b) = absurd (n a.testing)
newly n u m l e t p s (both (no' a) b) = absurd (n a.testing)
newly n u m l e t p s (crossed v) = absurd (n v.testing)
newly n u m l e t p s (left v) = absurd (let z = v.mark_b in grind arith)

-- A lays the edge and does not ask
pub lays : {x y : ℕ} {A B A' B' : View} {T S U R : List Message} → (A.held.testing ≡ Some y → ⊥) → A.held.mark y ≡ Basic → A'.held.mark y ≡ Branch → A.held.level ≤ A'.held.level → A'.own.label ≡ A.own.label → (A'.held.testing ≡ Some y → ⊥) → Same x B B' →
    Talk x y A B T S U R → Talk x y A' B' T S U R
lays n u m l e t s (both (still a) b) = both (still (record { testing = t; out = a.out; back = a.back; whole = inr (grind arith) })) (theirs_keep (inr m) l e s b)
lays n u m l e t s (both (asking a) b) = absurd (n a.testing)
lays n u m l e t s (both (yes' a) b) = absurd (n a.testing)
lays n u m l e t s (both (no' a) b) = absurd (n a.testing)
lays n u m l e t s (crossed v) = absurd (n v.testing)
lays n u m l e t s (left v) = absurd (let z = v.mark_b in grind arith)

-- A, stale, begins at a higher level and does not ask
pub rises' : {x y w : ℕ} {A B A' B' : View} {p q T S U R : List Message} → Peers x y A B → (A.held.level ≡ A.fragment.level → ⊥) → Mode x y w A B p q → A'.held.mark y ≡ A.held.mark y → A.held.level ≤ A'.held.level → A'.own.label ≡ A.own.label → (A'.held.testing ≡ Some y → ⊥) → Same x B B' →
    Talk x y A B T S U R → Talk x y A' B' T S U R
rises' k n e m l lb t s (both (still a) b) = both (still (record { testing = t; out = a.out; back = a.back; whole = let z = a.whole in grind arith })) (theirs_keep (inl m) l lb s b)
rises' k n e m l lb t s (both (asking a) b) = absurd (n (k.mine.find_current (asks_seeks k.asks_a a.testing)))
rises' k n e m l lb t s (both (yes' a) b) = absurd (n (k.mine.find_current (asks_seeks k.asks_a a.testing)))
rises' k n e m l lb t s (both (no' a) b) = absurd (n (k.mine.find_current (asks_seeks k.asks_a a.testing)))
rises' k n e m l lb t s (crossed a) = absurd (n (k.mine.find_current (asks_seeks k.asks_a a.testing)))
rises' k n e m l lb t s (left v) = absurd (let c = k.theirs.find_current (asks_seeks k.asks_b v.testing) in let o = k.same (inner (inl v.mark_b) e) in let z = v.levels in n (grind arith))

-- A takes the connect of B, which is below it
pub is_offered : {x y w l : ℕ} {A B : View} {p q : List Message} → l < A.held.level → Mode x y w A B p (Connect l ∷ q) → Connecting x y w A B p (Connect l ∷ q)
is_offered c (free v) = absurd (grind arith)
is_offered c (offered v) = v
is_offered c (offers v) = absurd (grind arith)
is_offered c (crossing v) = absurd (grind arith)
is_offered c (took v) = absurd (grind arith)
is_offered c (taken v) = absurd (grind arith)
is_offered c (merged v) = absurd (grind arith)
is_offered c (ahead v) = absurd (grind arith)
is_offered c (behind v) = absurd (grind arith)
is_offered c (core v) = absurd (grind arith)
is_offered c (tells v) = absurd (grind arith)
is_offered c (told v) = absurd (grind arith)
is_offered c (above v) = absurd (grind arith)
is_offered c (below v) = absurd (grind arith)

pub over_absorb : {x y w l : ℕ} {A B A' B' : View} {p q T S U R : List Message} → Peers x y A B → B.held.level < A.held.level → A'.held.mark y ≡ Branch → A'.held.testing ≡ A.held.testing → A'.held.level ≡ A.held.level → A'.held.name ≡ A.held.name → A'.own.up ≡ A.own.up →
    B'.held.mark x ≡ B.held.mark x → B'.held.testing ≡ B.held.testing → Connecting x y w A B p (Connect l ∷ q) → Talk x y A B T S U R → Talk x y A' B' T S U R
over_absorb {x} {y} {A = A} {B} {A'} {B'} {T = T} {S} {U} {R} k l a1 a2 a3 a4 a5 b1 b2 c (both u v) = both (go u) (back v)
  where
    nt : B.held.testing ≡ Some x → ⊥
    nt e = let z = k.theirs.find_changed (asks_seeks k.asks_b e) in let o = c.changed_b in grind arith

    go : Ask x y A B T S → Ask x y A' B' T S
    go (still a) = still (record { testing = grind arith; out = a.out; back = a.back; whole = inr (grind arith) })
    go (asking a) = asking (record { testing = grind arith; out = let o = a.out in grind arith; back = a.back; mark = grind arith; up = grind arith; whole = inr (grind arith) })
    go (yes' a) = absurd (let o = a.levels in grind arith)
    go (no' a) = absurd (c.differ a.same)

    back : Ask y x B A U R → Ask y x B' A' U R
    back (still b) = still (record { testing = λ z. nt (grind arith); out = b.out; back = b.back; whole = inl (grind arith) })
    back (asking b) = absurd (nt b.testing)
    back (yes' b) = absurd (nt b.testing)
    back (no' b) = absurd (nt b.testing)
over_absorb k l a1 a2 a3 a4 a5 b1 b2 c (crossed v) = absurd (let o = v.mark_b in let z = c.mark_b in grind arith)
over_absorb k l a1 a2 a3 a4 a5 b1 b2 c (left v) = absurd (let o = v.mark_b in let z = c.mark_a in grind arith)

-- A takes the connect of B, at its own level: nobody asks
pub is_merging : {x y w l : ℕ} {A B : View} {p q : List Message} → A.held.level ≤ l → (A.held.mark y ≡ Basic → ⊥) → Mode x y w A B p (Connect l ∷ q) → (A.own.changed ≡ true) × (B.own.changed ≡ true) × (A.held.mark y ≡ Branch) × (B.held.mark x ≡ Branch)
is_merging c d (free v) = absurd (grind arith)
is_merging c d (offered v) = absurd (grind arith)
is_merging c d (offers v) = absurd (grind arith)
is_merging c d (crossing v) = grind arith
is_merging c d (took v) = absurd (grind arith)
is_merging c d (taken v) = grind arith
is_merging c d (merged v) = absurd (grind arith)
is_merging c d (ahead v) = absurd (grind arith)
is_merging c d (behind v) = absurd (grind arith)
is_merging c d (core v) = absurd (grind arith)
is_merging c d (tells v) = absurd (grind arith)
is_merging c d (told v) = absurd (grind arith)
is_merging c d (above v) = absurd (grind arith)
is_merging c d (below v) = absurd (grind arith)

pub over_merge : {x y : ℕ} {A B A' B' : View} {T S U R : List Message} → Peers x y A B → A.own.changed ≡ true → B.own.changed ≡ true → A'.held.mark y ≡ Branch → B'.held.mark x ≡ Branch → A'.held.testing ≡ A.held.testing → B'.held.testing ≡ B.held.testing → Talk x y A B T S U R → Talk x y A' B' T S U R
over_merge {x} {y} {A} {B} {A'} {B'} {T} {S} {U} {R} k a b c d e f w = go w
  where
    na : A.held.testing ≡ Some y → ⊥
    na e = let z = k.mine.find_changed (asks_seeks k.asks_a e) in grind arith

    nb : B.held.testing ≡ Some x → ⊥
    nb e = let z = k.theirs.find_changed (asks_seeks k.asks_b e) in grind arith

    go : Talk x y A B T S U R → Talk x y A' B' T S U R
    go (both (still u) (still v)) = both (still (record { testing = λ z. na (grind arith); out = u.out; back = u.back; whole = inr (grind arith) })) (still (record { testing = λ z. nb (grind arith); out = v.out; back = v.back; whole = inr (grind arith) }))
    go (both (asking u) v) = absurd (na u.testing)
    go (both (yes' u) v) = absurd (na u.testing)
    go (both (no' u) v) = absurd (na u.testing)
    go (both (still u) (asking v)) = absurd (nb v.testing)
    go (both (still u) (yes' v)) = absurd (nb v.testing)
    go (both (still u) (no' v)) = absurd (nb v.testing)
    go (crossed v) = absurd (na v.testing)
    go (left v) = absurd (nb v.testing)

-- LABELS THAT DIFFER STAY DIFFERENT: A seeks, and B is not below it; C acts, J sent
pub apart_absorb : {z : Option ℕ} (A B C J : View) → A.held.level ≡ A.fragment.level → A.fragment.least ≡ undecided → B.held.level ≤ B.fragment.level → (A.own.label ≡ C.own.label → A.fragment ≡ C.fragment) → (A.own.label ≡ J.own.label → A.fragment ≡ J.fragment) → (B.own.label ≡ J.own.label → B.fragment ≡ J.fragment) →
    C.held.level ≤ C.fragment.level → J.held.level < C.held.level → J.held.level ≡ J.fragment.level → J.fragment.least ≡ decided z → A.held.level ≤ B.held.level → (A.own.label ≡ B.own.label → ⊥) → (follow absorb C J A).own.label ≡ (follow absorb C J B).own.label → ⊥
apart_absorb A B C J c k b ac aj bj cl jl jc f l d e = go (eqb_tells A.own.label J.own.label) (eqb_tells B.own.label J.own.label)
  where
    go : ((eqb A.own.label J.own.label ≡ true) × (A.own.label ≡ J.own.label)) ⊎ ((eqb A.own.label J.own.label ≡ false) × (A.own.label ≡ J.own.label → ⊥)) → ((eqb B.own.label J.own.label ≡ true) × (B.own.label ≡ J.own.label)) ⊎ ((eqb B.own.label J.own.label ≡ false) × (B.own.label ≡ J.own.label → ⊥)) → ⊥
    go (inl u) v = let o = aj u.1 in grind arith
    go (inr u) (inl v) = let o = bj v.1 in let ac1 : A.own.label ≡ C.own.label = grind arith in let z = ac ac1 in grind arith
    go (inr u) (inr v) = d (grind arith)

pub apart_merge : {z z' : Option ℕ} (w : ℕ) (A B C J : View) → A.fragment.least ≡ undecided → (A.own.label ≡ C.own.label → A.fragment ≡ C.fragment) → (A.own.label ≡ J.own.label → A.fragment ≡ J.fragment) → C.fragment.least ≡ decided z → J.fragment.least ≡ decided z' → (A.own.label ≡ B.own.label → ⊥) → (follow (merge w) C J A).own.label ≡ (follow (merge w) C J B).own.label → ⊥
apart_merge w A B C J k ac aj f h d e = go (eqb_tells A.own.label J.own.label) (eqb_tells A.own.label C.own.label)
  where
    go : ((eqb A.own.label J.own.label ≡ true) × (A.own.label ≡ J.own.label)) ⊎ ((eqb A.own.label J.own.label ≡ false) × (A.own.label ≡ J.own.label → ⊥)) → ((eqb A.own.label C.own.label ≡ true) × (A.own.label ≡ C.own.label)) ⊎ ((eqb A.own.label C.own.label ≡ false) × (A.own.label ≡ C.own.label → ⊥)) → ⊥
    go (inl u) v = let o = aj u.1 in grind arith
    go (inr u) (inl v) = let o = ac v.1 in grind arith
    go (inr u) (inr v) = d (grind arith)
