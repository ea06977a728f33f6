-- What a turn elsewhere does to an edge: labels that differ stay different.
use Rattle.std.proofs.Common.{◌≡◌, ℕ, ◌<◌, ◌≤◌, Bool, true, false, eqb, ◌⊎◌, List, Option, ap, inl, inr, arith, None, Some}
use Rattle.std.proofs.lemmas.Bool.Decides.{eqb_tells}
use Rattle.message.specs.declared.messages.Message.{Message}
use Rattle.node.specs.declared.state.Status.TheVariants.{Find}
use Rattle.protocol.proofs.Ghost.{undecided, decided, View, idle, starts, absorb, merge, begin, report, decide, change, end, follow}
use Rattle.protocol.proofs.Mode.{tells, Connecting, Crossing, Changing, Heard, Mode, free, offered, offers, crossing, took, taken, merged, ahead, behind, core, told, above, below, Sane}

-- C acts, J sent; labels that are equal mean one fragment
pub record Labels (A B C J : View) : Type 0 where
  pub ab : A.own.label ≡ B.own.label → A.fragment ≡ B.fragment
  pub ac : A.own.label ≡ C.own.label → A.fragment ≡ C.fragment
  pub aj : A.own.label ≡ J.own.label → A.fragment ≡ J.fragment
  pub bc : B.own.label ≡ C.own.label → B.fragment ≡ C.fragment
  pub bj : B.own.label ≡ J.own.label → B.fragment ≡ J.fragment

-- the edge from x to y is not the one between i and j
abbrev pub Apart : ℕ → ℕ → ℕ → ℕ → Type 0
Apart x y i j = (x ≡ j → y ≡ i → ⊥) × (y ≡ j → x ≡ i → ⊥)

absorb_offered : {x y w : ℕ} {A B : View} (C J : View) {p q : List Message} → (B.own.label ≡ J.own.label → ⊥) → (A.own.label ≡ J.own.label → B.own.label ≡ C.own.label → ⊥) → (B.own.label ≡ C.own.label → B.fragment ≡ C.fragment) → Connecting x y w A B p q → Connecting x y w (follow absorb C J A) (follow absorb C J B) p q
absorb_offered C J a b c v = record { mark_a = v.mark_a; mark_b = v.mark_b; out = v.out; back = v.back; differ = λ u. grind arith; up_b = v.up_b; changed_b = v.changed_b; current_b = grind arith; least_b = grind arith; levels = v.levels; sends_b = grind arith; gets_b = grind arith }

absorb_crossing : {x y w : ℕ} {A B : View} (C J : View) {p q : List Message} → (A.own.label ≡ J.own.label → ⊥) → (B.own.label ≡ J.own.label → ⊥) → (A.own.label ≡ C.own.label → A.fragment ≡ C.fragment) → (B.own.label ≡ C.own.label → B.fragment ≡ C.fragment) → Crossing x y w A B p q → Crossing x y w (follow absorb C J A) (follow absorb C J B) p q
absorb_crossing C J a b c d v = record { mark_a = v.mark_a; mark_b = v.mark_b; out = v.out; back = v.back; differ = λ u. grind arith; up_a = v.up_a; up_b = v.up_b; changed_a = v.changed_a; changed_b = v.changed_b; current_a = grind arith; current_b = grind arith; least_a = grind arith; least_b = grind arith; levels = v.levels; sends_a = grind arith; gets_a = grind arith; sends_b = grind arith; gets_b = grind arith }

absorb_telling : {x y w : ℕ} {A B : View} (C J : View) {p q : List Message} → (A.own.label ≡ J.own.label → ⊥) → (A.own.label ≡ C.own.label → A.fragment ≡ C.fragment) → Changing x y w A B p q → Changing x y w (follow absorb C J A) (follow absorb C J B) p q
absorb_telling C J a b v = record { mark_a = v.mark_a; mark_b = v.mark_b; same = grind arith; out = v.out; back = v.back; up_a = v.up_a; up_b = v.up_b; changed_a = v.changed_a; changed_b = v.changed_b; best_a = v.best_a; parent_b = v.parent_b; levels = v.levels; names = v.names; current_a = grind arith; least_a = grind arith; least_b = v.least_b; finite = v.finite; sends = grind arith; gets = grind arith; in_search_a = grind arith; in_search_b = grind arith }

merge_heard : (z : ℕ) (A B C J : View) → ((A.own.label ≡ J.own.label) ⊎ (A.own.label ≡ C.own.label) → A.held.level ≤ C.held.level) → A.own.label ≡ B.own.label → (C.own.label ≡ J.own.label → ⊥) → (A.held.level ≡ A.fragment.level → A.own.reported ≡ true → B.own.in_search ≡ true → (B.held.level ≡ B.fragment.level) × Heard A B) →
    (follow (merge z) C J A).held.level ≡ (follow (merge z) C J A).fragment.level → A.own.reported ≡ true → (follow (merge z) C J B).own.in_search ≡ true → (B.held.level ≡ (follow (merge z) C J B).fragment.level) × Heard A B
merge_heard z A B C J low e d h u r t = go (eqb_tells A.own.label J.own.label) (eqb_tells A.own.label C.own.label)
  where
    go : ((eqb A.own.label J.own.label ≡ true) × (A.own.label ≡ J.own.label)) ⊎ ((eqb A.own.label J.own.label ≡ false) × (A.own.label ≡ J.own.label → ⊥)) → ((eqb A.own.label C.own.label ≡ true) × (A.own.label ≡ C.own.label)) ⊎ ((eqb A.own.label C.own.label ≡ false) × (A.own.label ≡ C.own.label → ⊥)) → (B.held.level ≡ (follow (merge z) C J B).fragment.level) × Heard A B
    go (inl a) b = absurd (let o = low (inl a.1) in grind arith)
    go (inr a) (inl b) = absurd (let o = low (inr b.1) in grind arith)
    go (inr a) (inr b) = grind arith

merge_crossing : {x y w : ℕ} (z : ℕ) {A B : View} (C J : View) {p q : List Message} → (A.own.label ≡ J.own.label → ⊥) → (A.own.label ≡ C.own.label → ⊥) → (B.own.label ≡ J.own.label → ⊥) → (B.own.label ≡ C.own.label → ⊥) → Crossing x y w A B p q → Crossing x y w (follow (merge z) C J A) (follow (merge z) C J B) p q
merge_crossing z C J a b c d v = record { mark_a = v.mark_a; mark_b = v.mark_b; out = v.out; back = v.back; differ = λ u. grind arith; up_a = v.up_a; up_b = v.up_b; changed_a = v.changed_a; changed_b = v.changed_b; current_a = grind arith; current_b = grind arith; least_a = grind arith; least_b = grind arith; levels = v.levels; sends_a = grind arith; gets_a = grind arith; sends_b = grind arith; gets_b = grind arith }

merge_offered : {x y w : ℕ} (z : ℕ) {A B : View} (C J : View) {p q : List Message} → (B.own.label ≡ J.own.label → ⊥) → (B.own.label ≡ C.own.label → ⊥) → Connecting x y w A B p q → Connecting x y w (follow (merge z) C J A) (follow (merge z) C J B) p q
merge_offered z C J a b v = record { mark_a = v.mark_a; mark_b = v.mark_b; out = v.out; back = v.back; differ = λ u. grind arith; up_b = v.up_b; changed_b = v.changed_b; current_b = grind arith; least_b = grind arith; levels = v.levels; sends_b = grind arith; gets_b = grind arith }

-- z is how long the edge of the connect is
pub else_absorb : {x y w z i j : ℕ} {A B C J : View} {p q : List Message} → Labels A B C J → Sane y A → Sane x B → (w ≡ z → ⊥) → Apart x y i j → C.held.level ≤ C.fragment.level → J.held.level < C.held.level → J.held.level ≡ J.fragment.level → J.fragment.least ≡ decided (Some z) → J.fragment.sends ≡ j → J.fragment.gets ≡ i → (C.own.label ≡ J.own.label → ⊥) →
    Mode x y w A B p q → Mode x y w (follow absorb C J A) (follow absorb C J B) p q
else_absorb {x} {y} {w} {z} {i} {j} {A} {B} {C} {J} {p} {q} n a b d m c l k f js jg e (free v) = free (grind arith)
else_absorb {x} {y} {w} {z} {i} {j} {A} {B} {C} {J} {p} {q} n a b d m c l k f js jg e (offered v) = offered (absorb_offered C J (λ u. grind arith) (λ u h. grind arith) n.bc v)
else_absorb {x} {y} {w} {z} {i} {j} {A} {B} {C} {J} {p} {q} n a b d m c l k f js jg e (offers v) = offers (absorb_offered C J (λ u. grind arith) (λ u h. grind arith) n.ac v)
else_absorb {x} {y} {w} {z} {i} {j} {A} {B} {C} {J} {p} {q} n a b d m c l k f js jg e (crossing v) = crossing (absorb_crossing C J (λ u. grind arith) (λ u. grind arith) n.ac n.bc v)
else_absorb {x} {y} {w} {z} {i} {j} {A} {B} {C} {J} {p} {q} n a b d m c l k f js jg e (took v) = took (grind arith)
else_absorb {x} {y} {w} {z} {i} {j} {A} {B} {C} {J} {p} {q} n a b d m c l k f js jg e (taken v) = taken (grind arith)
else_absorb {x} {y} {w} {z} {i} {j} {A} {B} {C} {J} {p} {q} n a b d m c l k f js jg e (merged v) = merged (grind arith)
else_absorb {x} {y} {w} {z} {i} {j} {A} {B} {C} {J} {p} {q} n a b d m c l k f js jg e (ahead v) = ahead (grind arith)
else_absorb {x} {y} {w} {z} {i} {j} {A} {B} {C} {J} {p} {q} n a b d m c l k f js jg e (behind v) = behind (grind arith)
else_absorb {x} {y} {w} {z} {i} {j} {A} {B} {C} {J} {p} {q} n a b d m c l k f js jg e (core v) = core (grind arith)
else_absorb {x} {y} {w} {z} {i} {j} {A} {B} {C} {J} {p} {q} n a b d m c l k f js jg e (tells v) = tells (absorb_telling C J (λ u. grind arith) n.ac v)
else_absorb {x} {y} {w} {z} {i} {j} {A} {B} {C} {J} {p} {q} n a b d m c l k f js jg e (told v) = told (absorb_telling C J (λ u. grind arith) n.bc v)
else_absorb {x} {y} {w} {z} {i} {j} {A} {B} {C} {J} {p} {q} n a b d m c l k f js jg e (above v) = elim (eqb_tells A.own.label J.own.label) [ inl t ↦ let eb : eqb B.own.label J.own.label ≡ true = grind arith in let lt : A.held.level < C.fragment.level = grind arith in let sk : A.held.status ≡ Find → ⊥ = λ u. grind arith in let tk : B.held.status ≡ Find → ⊥ = λ u. grind arith in above (record { mark_a = grind arith; mark_b = grind arith; same = grind arith; up_a = grind arith; up_b = grind arith; down = v.down; back = grind arith; asked = λ u h. grind arith; finds = grind arith; spent = grind arith; rank = grind arith; alike = grind arith; calmer = λ u. grind arith; heard = λ u h z. grind arith }) | inr t ↦ let eb : eqb B.own.label J.own.label ≡ false = grind arith in above (record { mark_a = grind arith; mark_b = grind arith; same = grind arith; up_a = grind arith; up_b = grind arith; down = v.down; back = grind arith; asked = λ u h. grind arith; finds = grind arith; spent = grind arith; rank = grind arith; alike = grind arith; calmer = λ u. grind arith; heard = λ u h z. let o = v.heard (grind arith) h (grind arith) in (grind arith, o.1) }) ]
else_absorb {x} {y} {w} {z} {i} {j} {A} {B} {C} {J} {p} {q} n a b d m c l k f js jg e (below v) = elim (eqb_tells B.own.label J.own.label) [ inl t ↦ let eb : eqb A.own.label J.own.label ≡ true = grind arith in let lt : B.held.level < C.fragment.level = grind arith in let sk : B.held.status ≡ Find → ⊥ = λ u. grind arith in let tk : A.held.status ≡ Find → ⊥ = λ u. grind arith in below (record { mark_a = grind arith; mark_b = grind arith; same = grind arith; up_a = grind arith; up_b = grind arith; down = v.down; back = grind arith; asked = λ u h. grind arith; finds = grind arith; spent = grind arith; rank = grind arith; alike = grind arith; calmer = λ u. grind arith; heard = λ u h z. grind arith }) | inr t ↦ let eb : eqb A.own.label J.own.label ≡ false = grind arith in below (record { mark_a = grind arith; mark_b = grind arith; same = grind arith; up_a = grind arith; up_b = grind arith; down = v.down; back = grind arith; asked = λ u h. grind arith; finds = grind arith; spent = grind arith; rank = grind arith; alike = grind arith; calmer = λ u. grind arith; heard = λ u h z. let o = v.heard (grind arith) h (grind arith) in (grind arith, o.1) }) ]

-- the first of the two connects of one level
pub else_merge : {x y w z i j : ℕ} {A B C J : View} {p q : List Message} → Labels A B C J → Sane y A → Sane x B → (w ≡ z → ⊥) → Apart x y i j → C.held.level ≡ C.fragment.level → C.fragment.least ≡ decided (Some z) → J.held.level ≡ C.held.level → J.held.level ≡ J.fragment.level → J.fragment.least ≡ decided (Some z) → J.fragment.sends ≡ j → J.fragment.gets ≡ i → C.fragment.sends ≡ i → C.fragment.gets ≡ j → (C.own.label ≡ J.own.label → ⊥) →
    Mode x y w A B p q → Mode x y w (follow (merge z) C J A) (follow (merge z) C J B) p q
else_merge {x} {y} {w} {z} {i} {j} {A} {B} {C} {J} {p} {q} n a b d m c f l k o js jg cs cg e (free v) = free (grind arith)
else_merge {x} {y} {w} {z} {i} {j} {A} {B} {C} {J} {p} {q} n a b d m c f l k o js jg cs cg e (offered v) = offered (merge_offered z C J (λ u. grind arith) (λ u. grind arith) v)
else_merge {x} {y} {w} {z} {i} {j} {A} {B} {C} {J} {p} {q} n a b d m c f l k o js jg cs cg e (offers v) = offers (merge_offered z C J (λ u. grind arith) (λ u. grind arith) v)
else_merge {x} {y} {w} {z} {i} {j} {A} {B} {C} {J} {p} {q} n a b d m c f l k o js jg cs cg e (crossing v) = crossing (merge_crossing z C J (λ u. grind arith) (λ u. grind arith) (λ u. grind arith) (λ u. grind arith) v)
else_merge {x} {y} {w} {z} {i} {j} {A} {B} {C} {J} {p} {q} n a b d m c f l k o js jg cs cg e (took v) = took (grind arith)
else_merge {x} {y} {w} {z} {i} {j} {A} {B} {C} {J} {p} {q} n a b d m c f l k o js jg cs cg e (taken v) = taken (grind arith)
else_merge {x} {y} {w} {z} {i} {j} {A} {B} {C} {J} {p} {q} n a b d m c f l k o js jg cs cg e (merged v) = merged (grind arith)
else_merge {x} {y} {w} {z} {i} {j} {A} {B} {C} {J} {p} {q} n a b d m c f l k o js jg cs cg e (ahead v) = ahead (grind arith)
else_merge {x} {y} {w} {z} {i} {j} {A} {B} {C} {J} {p} {q} n a b d m c f l k o js jg cs cg e (behind v) = behind (grind arith)
else_merge {x} {y} {w} {z} {i} {j} {A} {B} {C} {J} {p} {q} n a b d m c f l k o js jg cs cg e (core v) = core (grind arith)
else_merge {x} {y} {w} {z} {i} {j} {A} {B} {C} {J} {p} {q} n a b d m c f l k o js jg cs cg e (tells v) = tells (grind arith)
else_merge {x} {y} {w} {z} {i} {j} {A} {B} {C} {J} {p} {q} n a b d m c f l k o js jg cs cg e (told v) = told (grind arith)
else_merge {x} {y} {w} {z} {i} {j} {A} {B} {C} {J} {p} {q} n a b d m c f l k o js jg cs cg e (above v) = above (record { mark_a = grind arith; mark_b = grind arith; same = grind arith; up_a = grind arith; up_b = grind arith; down = v.down; back = grind arith; asked = λ u h. grind arith; finds = grind arith; spent = grind arith; rank = grind arith; alike = grind arith; calmer = λ u. grind arith; heard = merge_heard z A B C J (λ u. grind arith) v.same e v.heard })
else_merge {x} {y} {w} {z} {i} {j} {A} {B} {C} {J} {p} {q} n a b d m c f l k o js jg cs cg e (below v) = below (record { mark_a = grind arith; mark_b = grind arith; same = grind arith; up_a = grind arith; up_b = grind arith; down = v.down; back = grind arith; asked = λ u h. grind arith; finds = grind arith; spent = grind arith; rank = grind arith; alike = grind arith; calmer = λ u. grind arith; heard = merge_heard z B A C J (λ u. grind arith) v.same e v.heard })

-- the second
pub else_again : {x y w : ℕ} (z : ℕ) {A B C J : View} {p q : List Message} → Labels A B C J → C.own.label ≡ J.own.label → Mode x y w A B p q → Mode x y w (follow (merge z) C J A) (follow (merge z) C J B) p q
else_again {x} {y} {w} z {A} {B} {C} {J} {p} {q} n e (free v) = free (grind arith)
else_again {x} {y} {w} z {A} {B} {C} {J} {p} {q} n e (offered v) = offered (grind arith)
else_again {x} {y} {w} z {A} {B} {C} {J} {p} {q} n e (offers v) = offers (grind arith)
else_again {x} {y} {w} z {A} {B} {C} {J} {p} {q} n e (crossing v) = crossing (grind arith)
else_again {x} {y} {w} z {A} {B} {C} {J} {p} {q} n e (took v) = took (grind arith)
else_again {x} {y} {w} z {A} {B} {C} {J} {p} {q} n e (taken v) = taken (grind arith)
else_again {x} {y} {w} z {A} {B} {C} {J} {p} {q} n e (merged v) = merged (grind arith)
else_again {x} {y} {w} z {A} {B} {C} {J} {p} {q} n e (ahead v) = ahead (grind arith)
else_again {x} {y} {w} z {A} {B} {C} {J} {p} {q} n e (behind v) = behind (grind arith)
else_again {x} {y} {w} z {A} {B} {C} {J} {p} {q} n e (core v) = core (grind arith)
else_again {x} {y} {w} z {A} {B} {C} {J} {p} {q} n e (tells v) = tells (grind arith)
else_again {x} {y} {w} z {A} {B} {C} {J} {p} {q} n e (told v) = told (grind arith)
else_again {x} {y} {w} z {A} {B} {C} {J} {p} {q} n e (above v) = above (record { mark_a = grind arith; mark_b = grind arith; same = grind arith; up_a = grind arith; up_b = grind arith; down = v.down; back = grind arith; asked = λ u h. grind arith; finds = grind arith; spent = grind arith; rank = grind arith; alike = grind arith; calmer = λ u. grind arith; heard = λ u h z. let o = v.heard (grind arith) h (grind arith) in (grind arith, o.1) })
else_again {x} {y} {w} z {A} {B} {C} {J} {p} {q} n e (below v) = below (record { mark_a = grind arith; mark_b = grind arith; same = grind arith; up_a = grind arith; up_b = grind arith; down = v.down; back = grind arith; asked = λ u h. grind arith; finds = grind arith; spent = grind arith; rank = grind arith; alike = grind arith; calmer = λ u. grind arith; heard = λ u h z. let o = v.heard (grind arith) h (grind arith) in (grind arith, o.1) })

pub else_decide : {x y w z : ℕ} (me k : ℕ) {A B C J : View} {p q : List Message} → Labels A B C J → Sane y A → Sane x B → (w ≡ z → ⊥) → C.fragment.least ≡ undecided → C.fragment.name ≡ z →
    Mode x y w A B p q → Mode x y w (follow (decide me k) C J A) (follow (decide me k) C J B) p q
else_decide {x} {y} {w} {z} me k {A} {B} {C} {J} {p} {q} n a b d e f (free v) = free (grind arith)
else_decide {x} {y} {w} {z} me k {A} {B} {C} {J} {p} {q} n a b d e f (offered v) = offered (grind arith)
else_decide {x} {y} {w} {z} me k {A} {B} {C} {J} {p} {q} n a b d e f (offers v) = offers (grind arith)
else_decide {x} {y} {w} {z} me k {A} {B} {C} {J} {p} {q} n a b d e f (crossing v) = crossing (grind arith)
else_decide {x} {y} {w} {z} me k {A} {B} {C} {J} {p} {q} n a b d e f (took v) = took (grind arith)
else_decide {x} {y} {w} {z} me k {A} {B} {C} {J} {p} {q} n a b d e f (taken v) = taken (grind arith)
else_decide {x} {y} {w} {z} me k {A} {B} {C} {J} {p} {q} n a b d e f (merged v) = merged (grind arith)
else_decide {x} {y} {w} {z} me k {A} {B} {C} {J} {p} {q} n a b d e f (ahead v) = ahead (grind arith)
else_decide {x} {y} {w} {z} me k {A} {B} {C} {J} {p} {q} n a b d e f (behind v) = behind (grind arith)
else_decide {x} {y} {w} {z} me k {A} {B} {C} {J} {p} {q} n a b d e f (core v) = core (grind arith)
else_decide {x} {y} {w} {z} me k {A} {B} {C} {J} {p} {q} n a b d e f (tells v) = tells (grind arith)
else_decide {x} {y} {w} {z} me k {A} {B} {C} {J} {p} {q} n a b d e f (told v) = told (grind arith)
else_decide {x} {y} {w} {z} me k {A} {B} {C} {J} {p} {q} n a b d e f (above v) = above (record { mark_a = grind arith; mark_b = grind arith; same = grind arith; up_a = grind arith; up_b = grind arith; down = v.down; back = grind arith; asked = λ u h. grind arith; finds = grind arith; spent = grind arith; rank = grind arith; alike = grind arith; calmer = λ u. grind arith; heard = λ u h z. let o = v.heard (grind arith) h (grind arith) in (grind arith, o.1) })
else_decide {x} {y} {w} {z} me k {A} {B} {C} {J} {p} {q} n a b d e f (below v) = below (record { mark_a = grind arith; mark_b = grind arith; same = grind arith; up_a = grind arith; up_b = grind arith; down = v.down; back = grind arith; asked = λ u h. grind arith; finds = grind arith; spent = grind arith; rank = grind arith; alike = grind arith; calmer = λ u. grind arith; heard = λ u h z. let o = v.heard (grind arith) h (grind arith) in (grind arith, o.1) })

pub else_end : {x y w z : ℕ} {A B C J : View} {p q : List Message} → Labels A B C J → Sane y A → Sane x B → (w ≡ z → ⊥) → (C.fragment.least ≡ undecided) ⊎ (C.fragment.least ≡ decided None) → C.fragment.name ≡ z →
    Mode x y w A B p q → Mode x y w (follow end C J A) (follow end C J B) p q
else_end {x} {y} {w} {z} {A} {B} {C} {J} {p} {q} n a b d e f (free v) = free (grind arith)
else_end {x} {y} {w} {z} {A} {B} {C} {J} {p} {q} n a b d e f (offered v) = offered (grind arith)
else_end {x} {y} {w} {z} {A} {B} {C} {J} {p} {q} n a b d e f (offers v) = offers (grind arith)
else_end {x} {y} {w} {z} {A} {B} {C} {J} {p} {q} n a b d e f (crossing v) = crossing (grind arith)
else_end {x} {y} {w} {z} {A} {B} {C} {J} {p} {q} n a b d e f (took v) = took (grind arith)
else_end {x} {y} {w} {z} {A} {B} {C} {J} {p} {q} n a b d e f (taken v) = taken (grind arith)
else_end {x} {y} {w} {z} {A} {B} {C} {J} {p} {q} n a b d e f (merged v) = merged (grind arith)
else_end {x} {y} {w} {z} {A} {B} {C} {J} {p} {q} n a b d e f (ahead v) = ahead (grind arith)
else_end {x} {y} {w} {z} {A} {B} {C} {J} {p} {q} n a b d e f (behind v) = behind (grind arith)
else_end {x} {y} {w} {z} {A} {B} {C} {J} {p} {q} n a b d e f (core v) = core (grind arith)
else_end {x} {y} {w} {z} {A} {B} {C} {J} {p} {q} n a b d e f (tells v) = tells (grind arith)
else_end {x} {y} {w} {z} {A} {B} {C} {J} {p} {q} n a b d e f (told v) = told (grind arith)
else_end {x} {y} {w} {z} {A} {B} {C} {J} {p} {q} n a b d e f (above v) = above (record { mark_a = grind arith; mark_b = grind arith; same = grind arith; up_a = grind arith; up_b = grind arith; down = v.down; back = grind arith; asked = λ u h. grind arith; finds = grind arith; spent = grind arith; rank = grind arith; alike = grind arith; calmer = λ u. grind arith; heard = λ u h z. let o = v.heard (grind arith) h (grind arith) in (grind arith, o.1) })
else_end {x} {y} {w} {z} {A} {B} {C} {J} {p} {q} n a b d e f (below v) = below (record { mark_a = grind arith; mark_b = grind arith; same = grind arith; up_a = grind arith; up_b = grind arith; down = v.down; back = grind arith; asked = λ u h. grind arith; finds = grind arith; spent = grind arith; rank = grind arith; alike = grind arith; calmer = λ u. grind arith; heard = λ u h z. let o = v.heard (grind arith) h (grind arith) in (grind arith, o.1) })

-- who wakes is alone in its fragment
pub else_starts : {x y w : ℕ} (me b : ℕ) (k : Option ℕ) (z : Option ℕ) {A B : View} (C J : View) {p q : List Message} → (A.own.label ≡ C.own.label → ⊥) → (B.own.label ≡ C.own.label → ⊥) → Mode x y w A B p q → Mode x y w (follow (starts me b k z) C J A) (follow (starts me b k z) C J B) p q
else_starts {x} {y} {w} me b k z {A} {B} C J {p} {q} a0 b0 (free v) = free (grind arith)
else_starts {x} {y} {w} me b k z {A} {B} C J {p} {q} a0 b0 (offered v) = offered (grind arith)
else_starts {x} {y} {w} me b k z {A} {B} C J {p} {q} a0 b0 (offers v) = offers (grind arith)
else_starts {x} {y} {w} me b k z {A} {B} C J {p} {q} a0 b0 (crossing v) = crossing (grind arith)
else_starts {x} {y} {w} me b k z {A} {B} C J {p} {q} a0 b0 (took v) = took (grind arith)
else_starts {x} {y} {w} me b k z {A} {B} C J {p} {q} a0 b0 (taken v) = taken (grind arith)
else_starts {x} {y} {w} me b k z {A} {B} C J {p} {q} a0 b0 (merged v) = merged (grind arith)
else_starts {x} {y} {w} me b k z {A} {B} C J {p} {q} a0 b0 (ahead v) = ahead (grind arith)
else_starts {x} {y} {w} me b k z {A} {B} C J {p} {q} a0 b0 (behind v) = behind (grind arith)
else_starts {x} {y} {w} me b k z {A} {B} C J {p} {q} a0 b0 (core v) = core (grind arith)
else_starts {x} {y} {w} me b k z {A} {B} C J {p} {q} a0 b0 (tells v) = tells (grind arith)
else_starts {x} {y} {w} me b k z {A} {B} C J {p} {q} a0 b0 (told v) = told (grind arith)
else_starts {x} {y} {w} me b k z {A} {B} C J {p} {q} a0 b0 (above v) = above (record { mark_a = grind arith; mark_b = grind arith; same = grind arith; up_a = grind arith; up_b = grind arith; down = v.down; back = grind arith; asked = λ u h. grind arith; finds = grind arith; spent = grind arith; rank = grind arith; alike = grind arith; calmer = λ u. grind arith; heard = λ u h z. let o = v.heard (grind arith) h (grind arith) in (grind arith, o.1) })
else_starts {x} {y} {w} me b k z {A} {B} C J {p} {q} a0 b0 (below v) = below (record { mark_a = grind arith; mark_b = grind arith; same = grind arith; up_a = grind arith; up_b = grind arith; down = v.down; back = grind arith; asked = λ u h. grind arith; finds = grind arith; spent = grind arith; rank = grind arith; alike = grind arith; calmer = λ u. grind arith; heard = λ u h z. let o = v.heard (grind arith) h (grind arith) in (grind arith, o.1) })

pub else_idle : {x y w : ℕ} {A B : View} (C J : View) {p q : List Message} → (A.own.label ≡ C.own.label → A.fragment ≡ C.fragment) → (B.own.label ≡ C.own.label → B.fragment ≡ C.fragment) → Mode x y w A B p q → Mode x y w (follow idle C J A) (follow idle C J B) p q
else_idle {x} {y} {w} {A} {B} C J {p} {q} n o (free v) = free (grind arith)
else_idle {x} {y} {w} {A} {B} C J {p} {q} n o (offered v) = offered (grind arith)
else_idle {x} {y} {w} {A} {B} C J {p} {q} n o (offers v) = offers (grind arith)
else_idle {x} {y} {w} {A} {B} C J {p} {q} n o (crossing v) = crossing (grind arith)
else_idle {x} {y} {w} {A} {B} C J {p} {q} n o (took v) = took (grind arith)
else_idle {x} {y} {w} {A} {B} C J {p} {q} n o (taken v) = taken (grind arith)
else_idle {x} {y} {w} {A} {B} C J {p} {q} n o (merged v) = merged (grind arith)
else_idle {x} {y} {w} {A} {B} C J {p} {q} n o (ahead v) = ahead (grind arith)
else_idle {x} {y} {w} {A} {B} C J {p} {q} n o (behind v) = behind (grind arith)
else_idle {x} {y} {w} {A} {B} C J {p} {q} n o (core v) = core (grind arith)
else_idle {x} {y} {w} {A} {B} C J {p} {q} n o (tells v) = tells (grind arith)
else_idle {x} {y} {w} {A} {B} C J {p} {q} n o (told v) = told (grind arith)
else_idle {x} {y} {w} {A} {B} C J {p} {q} n o (above v) = above (record { mark_a = grind arith; mark_b = grind arith; same = grind arith; up_a = grind arith; up_b = grind arith; down = v.down; back = grind arith; asked = λ u h. grind arith; finds = grind arith; spent = grind arith; rank = grind arith; alike = grind arith; calmer = λ u. grind arith; heard = λ u h z. grind arith })
else_idle {x} {y} {w} {A} {B} C J {p} {q} n o (below v) = below (record { mark_a = grind arith; mark_b = grind arith; same = grind arith; up_a = grind arith; up_b = grind arith; down = v.down; back = grind arith; asked = λ u h. grind arith; finds = grind arith; spent = grind arith; rank = grind arith; alike = grind arith; calmer = λ u. grind arith; heard = λ u h z. grind arith })

pub else_begin : {x y w : ℕ} (j : ℕ) (c r : Bool) {A B : View} (C J : View) {p q : List Message} → (A.own.label ≡ C.own.label → A.fragment ≡ C.fragment) → (B.own.label ≡ C.own.label → B.fragment ≡ C.fragment) → Mode x y w A B p q → Mode x y w (follow (begin j c r) C J A) (follow (begin j c r) C J B) p q
else_begin {x} {y} {w} j c r {A} {B} C J {p} {q} n o (free v) = free (grind arith)
else_begin {x} {y} {w} j c r {A} {B} C J {p} {q} n o (offered v) = offered (grind arith)
else_begin {x} {y} {w} j c r {A} {B} C J {p} {q} n o (offers v) = offers (grind arith)
else_begin {x} {y} {w} j c r {A} {B} C J {p} {q} n o (crossing v) = crossing (grind arith)
else_begin {x} {y} {w} j c r {A} {B} C J {p} {q} n o (took v) = took (grind arith)
else_begin {x} {y} {w} j c r {A} {B} C J {p} {q} n o (taken v) = taken (grind arith)
else_begin {x} {y} {w} j c r {A} {B} C J {p} {q} n o (merged v) = merged (grind arith)
else_begin {x} {y} {w} j c r {A} {B} C J {p} {q} n o (ahead v) = ahead (grind arith)
else_begin {x} {y} {w} j c r {A} {B} C J {p} {q} n o (behind v) = behind (grind arith)
else_begin {x} {y} {w} j c r {A} {B} C J {p} {q} n o (core v) = core (grind arith)
else_begin {x} {y} {w} j c r {A} {B} C J {p} {q} n o (tells v) = tells (grind arith)
else_begin {x} {y} {w} j c r {A} {B} C J {p} {q} n o (told v) = told (grind arith)
else_begin {x} {y} {w} j c r {A} {B} C J {p} {q} n o (above v) = above (record { mark_a = grind arith; mark_b = grind arith; same = grind arith; up_a = grind arith; up_b = grind arith; down = v.down; back = grind arith; asked = λ u h. grind arith; finds = grind arith; spent = grind arith; rank = grind arith; alike = grind arith; calmer = λ u. grind arith; heard = λ u h z. grind arith })
else_begin {x} {y} {w} j c r {A} {B} C J {p} {q} n o (below v) = below (record { mark_a = grind arith; mark_b = grind arith; same = grind arith; up_a = grind arith; up_b = grind arith; down = v.down; back = grind arith; asked = λ u h. grind arith; finds = grind arith; spent = grind arith; rank = grind arith; alike = grind arith; calmer = λ u. grind arith; heard = λ u h z. grind arith })

pub else_report : {x y w : ℕ} {A B : View} (C J : View) {p q : List Message} → (A.own.label ≡ C.own.label → A.fragment ≡ C.fragment) → (B.own.label ≡ C.own.label → B.fragment ≡ C.fragment) → Mode x y w A B p q → Mode x y w (follow report C J A) (follow report C J B) p q
else_report {x} {y} {w} {A} {B} C J {p} {q} n o (free v) = free (grind arith)
else_report {x} {y} {w} {A} {B} C J {p} {q} n o (offered v) = offered (grind arith)
else_report {x} {y} {w} {A} {B} C J {p} {q} n o (offers v) = offers (grind arith)
else_report {x} {y} {w} {A} {B} C J {p} {q} n o (crossing v) = crossing (grind arith)
else_report {x} {y} {w} {A} {B} C J {p} {q} n o (took v) = took (grind arith)
else_report {x} {y} {w} {A} {B} C J {p} {q} n o (taken v) = taken (grind arith)
else_report {x} {y} {w} {A} {B} C J {p} {q} n o (merged v) = merged (grind arith)
else_report {x} {y} {w} {A} {B} C J {p} {q} n o (ahead v) = ahead (grind arith)
else_report {x} {y} {w} {A} {B} C J {p} {q} n o (behind v) = behind (grind arith)
else_report {x} {y} {w} {A} {B} C J {p} {q} n o (core v) = core (grind arith)
else_report {x} {y} {w} {A} {B} C J {p} {q} n o (tells v) = tells (grind arith)
else_report {x} {y} {w} {A} {B} C J {p} {q} n o (told v) = told (grind arith)
else_report {x} {y} {w} {A} {B} C J {p} {q} n o (above v) = above (record { mark_a = grind arith; mark_b = grind arith; same = grind arith; up_a = grind arith; up_b = grind arith; down = v.down; back = grind arith; asked = λ u h. grind arith; finds = grind arith; spent = grind arith; rank = grind arith; alike = grind arith; calmer = λ u. grind arith; heard = λ u h z. grind arith })
else_report {x} {y} {w} {A} {B} C J {p} {q} n o (below v) = below (record { mark_a = grind arith; mark_b = grind arith; same = grind arith; up_a = grind arith; up_b = grind arith; down = v.down; back = grind arith; asked = λ u h. grind arith; finds = grind arith; spent = grind arith; rank = grind arith; alike = grind arith; calmer = λ u. grind arith; heard = λ u h z. grind arith })

pub else_change : {x y w i j : ℕ} (me k : ℕ) {A B : View} (C J : View) {p q : List Message} → (A.own.label ≡ C.own.label → A.fragment ≡ C.fragment) → (B.own.label ≡ C.own.label → B.fragment ≡ C.fragment) → Apart x y i j → C.fragment.sends ≡ j → C.fragment.gets ≡ i → Mode x y w A B p q → Mode x y w (follow (change me k) C J A) (follow (change me k) C J B) p q
else_change {x} {y} {w} {i} {j} me k {A} {B} C J {p} {q} n o ap cs cg (free v) = free (grind arith)
else_change {x} {y} {w} {i} {j} me k {A} {B} C J {p} {q} n o ap cs cg (offered v) = offered (grind arith)
else_change {x} {y} {w} {i} {j} me k {A} {B} C J {p} {q} n o ap cs cg (offers v) = offers (grind arith)
else_change {x} {y} {w} {i} {j} me k {A} {B} C J {p} {q} n o ap cs cg (crossing v) = crossing (grind arith)
else_change {x} {y} {w} {i} {j} me k {A} {B} C J {p} {q} n o ap cs cg (took v) = took (grind arith)
else_change {x} {y} {w} {i} {j} me k {A} {B} C J {p} {q} n o ap cs cg (taken v) = taken (grind arith)
else_change {x} {y} {w} {i} {j} me k {A} {B} C J {p} {q} n o ap cs cg (merged v) = merged (grind arith)
else_change {x} {y} {w} {i} {j} me k {A} {B} C J {p} {q} n o ap cs cg (ahead v) = ahead (grind arith)
else_change {x} {y} {w} {i} {j} me k {A} {B} C J {p} {q} n o ap cs cg (behind v) = behind (grind arith)
else_change {x} {y} {w} {i} {j} me k {A} {B} C J {p} {q} n o ap cs cg (core v) = core (grind arith)
else_change {x} {y} {w} {i} {j} me k {A} {B} C J {p} {q} n o ap cs cg (tells v) = tells (grind arith)
else_change {x} {y} {w} {i} {j} me k {A} {B} C J {p} {q} n o ap cs cg (told v) = told (grind arith)
else_change {x} {y} {w} {i} {j} me k {A} {B} C J {p} {q} n o ap cs cg (above v) = above (record { mark_a = grind arith; mark_b = grind arith; same = grind arith; up_a = grind arith; up_b = grind arith; down = v.down; back = grind arith; asked = λ u h. grind arith; finds = grind arith; spent = grind arith; rank = grind arith; alike = grind arith; calmer = λ u. grind arith; heard = λ u h z. grind arith })
else_change {x} {y} {w} {i} {j} me k {A} {B} C J {p} {q} n o ap cs cg (below v) = below (record { mark_a = grind arith; mark_b = grind arith; same = grind arith; up_a = grind arith; up_b = grind arith; down = v.down; back = grind arith; asked = λ u h. grind arith; finds = grind arith; spent = grind arith; rank = grind arith; alike = grind arith; calmer = λ u. grind arith; heard = λ u h z. grind arith })
