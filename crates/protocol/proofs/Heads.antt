-- What the message at the head says of both ends.
use Rattle.std.proofs.Common.{◌≡◌, ℕ, ◌<◌, ◌≤◌, true, false, ◌⊎◌, List, [], ◌∷◌, Some, inl, inr, arith, None, Option}
use Rattle.message.specs.declared.messages.Message.{Message}
use Rattle.message.specs.declared.messages.Message.TheVariants.{Connect, Initiate, Report, Change}
use Rattle.message.specs.declared.messages.Phase.{Phase}
use Rattle.node.specs.declared.state.Status.TheVariants.{Find}
use Rattle.graph.specs.declared.mark.Mark.TheVariants.{Basic, Branch}
use Rattle.node.specs.Rules.{is_finding, lighter}
use Rattle.protocol.proofs.Chain.{bool, chain_low}
use Rattle.protocol.proofs.Ghost.{undecided, decided, View}
use Rattle.protocol.proofs.Mode.{tells, busy, Child, Mode, free, offered, offers, crossing, took, taken, merged, ahead, behind, core, told, above, below, Sane}
use Rattle.message.specs.declared.messages.Phase.TheVariants as phase

pub record Absorbing (i j z : ℕ) (A B : View) : Type 0 where
  pub sends : B.fragment.sends ≡ j
  pub gets : B.fragment.gets ≡ i
  pub low : B.held.level < A.held.level
  pub current : B.held.level ≡ B.fragment.level
  pub least : B.fragment.least ≡ decided (Some z)
  pub differ : A.own.label ≡ B.own.label → ⊥

pub head_absorb : {x y w : ℕ} {A B : View} {p q : List Message} {l : ℕ} → l < A.held.level → Mode x y w A B p (Connect l ∷ q) → Absorbing x y w A B
head_absorb c (free v) = absurd (grind arith)
head_absorb c (offered v) = grind arith
head_absorb c (offers v) = absurd (grind arith)
head_absorb c (crossing v) = absurd (grind arith)
head_absorb c (took v) = absurd (grind arith)
head_absorb c (taken v) = absurd (grind arith)
head_absorb c (merged v) = absurd (grind arith)
head_absorb c (ahead v) = absurd (grind arith)
head_absorb c (behind v) = absurd (grind arith)
head_absorb c (core v) = absurd (grind arith)
head_absorb c (tells v) = absurd (grind arith)
head_absorb c (told v) = absurd (grind arith)
head_absorb c (above v) = absurd (grind arith)
head_absorb c (below v) = absurd (grind arith)

pub record Merging (i j z : ℕ) (A B : View) : Type 0 where
  pub sends : B.fragment.sends ≡ j
  pub gets : B.fragment.gets ≡ i
  pub sends_a : A.fragment.sends ≡ i
  pub gets_a : A.fragment.gets ≡ j
  pub current_a : A.held.level ≡ A.fragment.level
  pub least_a : A.fragment.least ≡ decided (Some z)
  pub levels : B.held.level ≡ A.held.level
  pub current : B.held.level ≡ B.fragment.level
  pub least : B.fragment.least ≡ decided (Some z)
  pub differ : A.own.label ≡ B.own.label → ⊥

pub head_merge : {x y w : ℕ} {A B : View} {p q : List Message} {l : ℕ} → A.held.level ≤ l → (A.held.mark y ≡ Basic → ⊥) → Mode x y w A B p (Connect l ∷ q) → Merging x y w A B ⊎ (A.own.label ≡ B.own.label)
head_merge c d (free v) = absurd (grind arith)
head_merge c d (offered v) = absurd (grind arith)
head_merge c d (offers v) = absurd (grind arith)
head_merge c d (crossing v) = inl (grind arith)
head_merge c d (took v) = absurd (grind arith)
head_merge c d (taken v) = inr (grind arith)
head_merge c d (merged v) = absurd (grind arith)
head_merge c d (ahead v) = absurd (grind arith)
head_merge c d (behind v) = absurd (grind arith)
head_merge c d (core v) = absurd (grind arith)
head_merge c d (tells v) = absurd (grind arith)
head_merge c d (told v) = absurd (grind arith)
head_merge c d (above v) = absurd (grind arith)
head_merge c d (below v) = absurd (grind arith)

pub record Beginning (j l f : ℕ) (s : Phase) (A : View) : Type 0 where
  pub branch : A.held.mark j ≡ Branch
  pub name : l ≡ A.fragment.level → f ≡ A.fragment.name
  pub undecided : s ≡ phase.Find → A.fragment.least ≡ undecided
  pub up : A.own.up ≡ Some j
  pub rises : A.held.level < l
  pub top : l ≤ A.fragment.level
  pub now : s ≡ phase.Find → l ≡ A.fragment.level
  pub asked : l ≡ A.fragment.level → A.own.in_search ≡ is_finding s

pub head_begin : {x y w : ℕ} {A B : View} {p q : List Message} {l f : ℕ} {s : Phase} → Sane x B → (A.own.label ≡ B.own.label → A.fragment ≡ B.fragment) → Mode x y w A B p (Initiate l f s ∷ q) → Beginning y l f s A
head_begin {x} {y} {w} {A} {B} {p} {q} {l} {f} {s} sb same (free v) = absurd (grind arith)
head_begin {x} {y} {w} {A} {B} {p} {q} {l} {f} {s} sb same (offered v) = absurd (grind arith)
head_begin {x} {y} {w} {A} {B} {p} {q} {l} {f} {s} sb same (offers v) = absurd (grind arith)
head_begin {x} {y} {w} {A} {B} {p} {q} {l} {f} {s} sb same (crossing v) = absurd (grind arith)
head_begin {x} {y} {w} {A} {B} {p} {q} {l} {f} {s} sb same (took v) = absurd (grind arith)
head_begin {x} {y} {w} {A} {B} {p} {q} {l} {f} {s} sb same (taken v) = absurd (grind arith)
head_begin {x} {y} {w} {A} {B} {p} {q} {l} {f} {s} sb same (merged v) = grind arith
head_begin {x} {y} {w} {A} {B} {p} {q} {l} {f} {s} sb same (ahead v) = absurd (grind arith)
head_begin {x} {y} {w} {A} {B} {p} {q} {l} {f} {s} sb same (behind v) = grind arith
head_begin {x} {y} {w} {A} {B} {p} {q} {l} {f} {s} sb same (core v) = absurd (grind arith)
head_begin {x} {y} {w} {A} {B} {p} {q} {l} {f} {s} sb same (tells v) = absurd (grind arith)
head_begin {x} {y} {w} {A} {B} {p} {q} {l} {f} {s} sb same (told v) = absurd (grind arith)
head_begin {x} {y} {w} {A} {B} {p} {q} {l} {f} {s} sb same (above v) = absurd (grind arith)
head_begin {x} {y} {w} {A} {B} {p} {q} {l} {f} {s} sb same (below v) = let cl = chain_low B.held.level B.held.name B.held.status l f q v.down.2 in record { branch = v.mark_b; name = λ u. name cl u (bool (busy q)) v; undecided = λ u. grind arith; up = grind arith; rises = grind arith; top = grind arith; now = λ u. grind arith; asked = λ u. go cl u (bool (busy q)) v }
  where
    name : (l ≤ B.held.level) × (busy q ≡ true → l < B.held.level) × (busy q ≡ false → (q ≡ []) × (l ≡ B.held.level) × (f ≡ B.held.name)) → l ≡ A.fragment.level → (busy q ≡ true) ⊎ (busy q ≡ false) → Child y x w B A (Initiate l f s ∷ q) p → f ≡ A.fragment.name
    name c u (inl b) v = absurd (grind arith)
    name c u (inr b) v = grind arith

    go : (l ≤ B.held.level) × (busy q ≡ true → l < B.held.level) × (busy q ≡ false → (q ≡ []) × (l ≡ B.held.level) × (f ≡ B.held.name)) → l ≡ A.fragment.level → (busy q ≡ true) ⊎ (busy q ≡ false) → Child y x w B A (Initiate l f s ∷ q) p → A.own.in_search ≡ is_finding s
    go c u (inl b) v = grind arith
    go c u (inr b) v = grind arith

pub record Deciding (j z : ℕ) (A : View) : Type 0 where
  pub in_search : A.own.in_search ≡ true
  pub up : A.own.up ≡ Some j
  pub still : A.own.changed ≡ false
  pub current : A.held.level ≡ A.fragment.level
  pub least : A.fragment.least ≡ undecided
  pub name : A.fragment.name ≡ z

pub head_turn : {x y w : ℕ} {A B : View} {p q : List Message} {r : Option ℕ} → Sane y A → A.held.parent ≡ Some y → (A.held.status ≡ Find → ⊥) → lighter A.held.best_weight r ≡ true → Mode x y w A B p (Report r ∷ q) → Deciding y w A
head_turn n a b c (free v) = absurd (grind arith)
head_turn n a b c (offered v) = absurd (grind arith)
head_turn n a b c (offers v) = absurd (grind arith)
head_turn n a b c (crossing v) = absurd (grind arith)
head_turn n a b c (took v) = absurd (grind arith)
head_turn n a b c (taken v) = absurd (grind arith)
head_turn n a b c (merged v) = absurd (grind arith)
head_turn n a b c (ahead v) = absurd (grind arith)
head_turn n a b c (behind v) = absurd (grind arith)
head_turn n a b c (core v) = grind arith
head_turn n a b c (tells v) = absurd (grind arith)
head_turn n a b c (told v) = absurd (grind arith)
head_turn n a b c (above v) = absurd (grind arith)
head_turn n a b c (below v) = absurd (grind arith)

pub record Ending (z : ℕ) (A : View) : Type 0 where
  pub current : A.held.level ≡ A.fragment.level
  pub least : (A.fragment.least ≡ undecided) ⊎ (A.fragment.least ≡ decided None)
  pub name : A.fragment.name ≡ z

pub head_end : {x y w : ℕ} {A B : View} {p q : List Message} {r : Option ℕ} → Sane y A → A.held.parent ≡ Some y → (A.held.status ≡ Find → ⊥) → A.held.best_weight ≡ None → r ≡ None → Mode x y w A B p (Report r ∷ q) → Ending w A
head_end n a b c d (free v) = absurd (grind arith)
head_end n a b c d (offered v) = absurd (grind arith)
head_end n a b c d (offers v) = absurd (grind arith)
head_end n a b c d (crossing v) = absurd (grind arith)
head_end n a b c d (took v) = absurd (grind arith)
head_end n a b c d (taken v) = absurd (grind arith)
head_end n a b c d (merged v) = absurd (grind arith)
head_end n a b c d (ahead v) = absurd (grind arith)
head_end n a b c d (behind v) = absurd (grind arith)
head_end n a b c d (core v) = grind arith
head_end n a b c d (tells v) = absurd (grind arith)
head_end n a b c d (told v) = absurd (grind arith)
head_end n a b c d (above v) = absurd (grind arith)
head_end n a b c d (below v) = absurd (grind arith)

pub record Changing (i j : ℕ) (A : View) : Type 0 where
  pub in_search : A.own.in_search ≡ true
  pub sends : A.fragment.sends ≡ j
  pub gets : A.fragment.gets ≡ i
  pub up : A.own.up ≡ Some j
  pub parent : A.held.parent ≡ Some j
  pub still : A.own.changed ≡ false
  pub current : A.held.level ≡ A.fragment.level
  pub least : A.fragment.least ≡ decided A.held.best_weight
  pub finite : A.held.best_weight ≡ None → ⊥

pub head_change : {x y w : ℕ} {A B : View} {p q : List Message} → (A.own.label ≡ B.own.label → A.fragment ≡ B.fragment) → Mode x y w A B p (Change ∷ q) → Changing x y A
head_change same (free v) = absurd (grind arith)
head_change same (offered v) = absurd (grind arith)
head_change same (offers v) = absurd (grind arith)
head_change same (crossing v) = absurd (grind arith)
head_change same (took v) = absurd (grind arith)
head_change same (taken v) = absurd (grind arith)
head_change same (merged v) = absurd (grind arith)
head_change same (ahead v) = absurd (grind arith)
head_change same (behind v) = absurd (grind arith)
head_change same (core v) = absurd (grind arith)
head_change same (tells v) = absurd (grind arith)
head_change same (told v) = grind arith
head_change same (above v) = absurd (grind arith)
head_change same (below v) = absurd (grind arith)

pub head_hears : {x y w : ℕ} {A B : View} {p q : List Message} {r : Option ℕ} → (A.held.parent ≡ Some y → ⊥) → Mode x y w A B p (Report r ∷ q) → A.held.status ≡ Find
head_hears a (free v) = absurd (grind arith)
head_hears a (offered v) = absurd (grind arith)
head_hears a (offers v) = absurd (grind arith)
head_hears a (crossing v) = absurd (grind arith)
head_hears a (took v) = absurd (grind arith)
head_hears a (taken v) = absurd (grind arith)
head_hears a (merged v) = absurd (grind arith)
head_hears a (ahead v) = absurd (grind arith)
head_hears a (behind v) = absurd (grind arith)
head_hears a (core v) = absurd (grind arith)
head_hears a (tells v) = absurd (grind arith)
head_hears a (told v) = absurd (grind arith)
head_hears a (above v) = grind arith
head_hears a (below v) = absurd (grind arith)

-- a message that is put off stands alone
pub alone_connect : {x y w : ℕ} {A B : View} {p q : List Message} {l : ℕ} → A.held.mark y ≡ Basic → Mode x y w A B p (Connect l ∷ q) → q ≡ []
alone_connect a (free v) = absurd (grind arith)
alone_connect a (offered v) = grind arith
alone_connect a (offers v) = absurd (grind arith)
alone_connect a (crossing v) = absurd (grind arith)
alone_connect a (took v) = absurd (grind arith)
alone_connect a (taken v) = absurd (grind arith)
alone_connect a (merged v) = absurd (grind arith)
alone_connect a (ahead v) = absurd (grind arith)
alone_connect a (behind v) = absurd (grind arith)
alone_connect a (core v) = absurd (grind arith)
alone_connect a (tells v) = absurd (grind arith)
alone_connect a (told v) = absurd (grind arith)
alone_connect a (above v) = absurd (grind arith)
alone_connect a (below v) = absurd (grind arith)

pub alone_report : {x y w : ℕ} {A B : View} {p q : List Message} {r : Option ℕ} → A.held.parent ≡ Some y → A.held.status ≡ Find → Mode x y w A B p (Report r ∷ q) → q ≡ []
alone_report a b (free v) = absurd (grind arith)
alone_report a b (offered v) = absurd (grind arith)
alone_report a b (offers v) = absurd (grind arith)
alone_report a b (crossing v) = absurd (grind arith)
alone_report a b (took v) = absurd (grind arith)
alone_report a b (taken v) = absurd (grind arith)
alone_report a b (merged v) = absurd (grind arith)
alone_report a b (ahead v) = absurd (grind arith)
alone_report a b (behind v) = absurd (grind arith)
alone_report a b (core v) = grind arith
alone_report a b (tells v) = absurd (grind arith)
alone_report a b (told v) = absurd (grind arith)
alone_report a b (above v) = grind arith
alone_report a b (below v) = absurd (grind arith)
