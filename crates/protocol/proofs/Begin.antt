-- A word to begin, over the edge that it came by and over the others.
use Rattle.std.proofs.Common.{◌≡◌, ℕ, ◌<◌, ◌≤◌, Bool, true, false, cond, ◌⊎◌, List, [], ◌∷◌, ◌++◌, Some, None, Option, refl, inl, inr, arith}
use Rattle.message.specs.declared.messages.Message.{Message}
use Rattle.message.specs.declared.messages.Message.TheVariants.{Initiate, Report}
use Rattle.message.specs.declared.messages.Phase.{Phase}
use Rattle.node.specs.declared.state.Status.{Status}
use Rattle.node.specs.declared.state.Status.TheVariants.{Find, Found}
use Rattle.graph.specs.declared.mark.Mark.TheVariants.{Branch}
use Rattle.node.specs.Rules.{is_branch, status_of, is_finding}
use Rattle.protocol.proofs.Chain.{bool, busy_more, calls_more, chain_low, down_low, down_calm, down_more, chain_down}
use Rattle.protocol.proofs.Ghost.{begin, View, follow, acted}
use Rattle.protocol.proofs.Held.{Held}
use Rattle.protocol.proofs.Mode.{tells, busy, Child, Mode, free, offered, offers, crossing, took, taken, merged, ahead, behind, core, told, above, below, Sane}
use Rattle.message.specs.declared.messages.Phase.TheVariants as phase

-- the node afterwards, whatever it asks or waits for
abbrev pub started : ℕ → ℕ → ℕ → Status → ℕ → (Option ℕ) → Held → Held
started y l f s n k h = record { status = s; mark = h.mark; level = l; name = f; find_count = n; parent = Some y; best = None; best_weight = None; testing = k; halted = h.halted }

-- it begins as it is told, or has nothing to seek and reports at once
abbrev pub Starting : Phase → Status → Bool → Type 0
Starting s S r = ((S ≡ status_of s) × (r ≡ false)) ⊎ ((s ≡ phase.Find) × (S ≡ Found) × (r ≡ true))

pub over_begin : {x y w : ℕ} {A B : View} {p q : List Message} {l f : ℕ} {s : Phase} (S : Status) (n : ℕ) (k : Option ℕ) (c r : Bool) → Sane x B → (A.own.label ≡ B.own.label → A.fragment ≡ B.fragment) → Starting s S r → Mode x y w A B p (Initiate l f s ∷ q) →
    Mode x y w (acted (begin y c r) (started y l f S n k A.held) A B) (follow (begin y c r) A B B) (p ++ cond r (Report None ∷ []) []) q
over_begin {x} {y} {w} {A} {B} {p} {q} {l} {f} {s} S n k c r b same g (free v) = absurd (grind arith)
over_begin {x} {y} {w} {A} {B} {p} {q} {l} {f} {s} S n k c r b same g (offered v) = absurd (grind arith)
over_begin {x} {y} {w} {A} {B} {p} {q} {l} {f} {s} S n k c r b same g (offers v) = absurd (grind arith)
over_begin {x} {y} {w} {A} {B} {p} {q} {l} {f} {s} S n k c r b same g (crossing v) = absurd (grind arith)
over_begin {x} {y} {w} {A} {B} {p} {q} {l} {f} {s} S n k c r b same g (took v) = absurd (grind arith)
over_begin {x} {y} {w} {A} {B} {p} {q} {l} {f} {s} S n k c r b same g (taken v) = absurd (grind arith)
over_begin {x} {y} {w} {A} {B} {p} {q} {l} {f} {s} S n k c r b same g (merged v) = ahead (rw v.out (record { joint = grind arith; out = grind arith; back = grind arith; parent_a = refl; name_a = grind arith; changed_a = refl; changed_b = grind arith; levels = grind arith; current_a = grind arith }))
over_begin {x} {y} {w} {A} {B} {p} {q} {l} {f} {s} S n k c r b same g (ahead v) = absurd (grind arith)
over_begin {x} {y} {w} {A} {B} {p} {q} {l} {f} {s} S n k c r b same g (behind v) = core (rw v.back (record { mark_a = grind arith; mark_b = grind arith; same = grind arith; up_a = refl; up_b = grind arith; in_search_a = grind arith; in_search_b = grind arith; parent_a = refl; parent_b = grind arith; changed_a = refl; changed_b = grind arith; levels = grind arith; name_a = grind arith; name_b = grind arith; current_a = grind arith; out = grind arith; back = grind arith; least = grind arith }))
over_begin {x} {y} {w} {A} {B} {p} {q} {l} {f} {s} S n k c r b same g (core v) = absurd (grind arith)
over_begin {x} {y} {w} {A} {B} {p} {q} {l} {f} {s} S n k c r b same g (tells v) = absurd (grind arith)
over_begin {x} {y} {w} {A} {B} {p} {q} {l} {f} {s} S n k c r b same g (told v) = absurd (grind arith)
over_begin {x} {y} {w} {A} {B} {p} {q} {l} {f} {s} S n k c r b same g (above v) = absurd (grind arith)
over_begin {x} {y} {w} {A} {B} {p} {q} {l} {f} {s} S n k c r b same g (below v) = let cl = chain_low B.held.level B.held.name B.held.status l f q v.down.2 in let e : p ≡ [] = grind arith in let b2 : busy q ≡ true → is_finding s ≡ false = grind arith in below (rw e (record { mark_a = grind arith; mark_b = grind arith; same = grind arith; up_a = grind arith; up_b = refl; down = chain_down y w B.held.level B.held.name B.held.status (started y l f S n k A.held) r q v.down.2; back = grind arith; asked = λ u h. grind arith; finds = grind arith; spent = elim (bool (busy q)) [ inl u ↦ inl u | inr u ↦ inr (inl (cl.2 u).0) ]; rank = grind arith; alike = grind arith; calmer = λ u. grind arith; heard = λ u h z. grind arith }))

-- over an edge to one below: it is passed on
passed : {x z w : ℕ} {A B : View} {p q : List Message} (l f : ℕ) (s : Phase) (S : Status) (j n : ℕ) (k : Option ℕ) (c r : Bool) (J : View) → (A.held.status ≡ Find → ⊥) → (z ≡ j → ⊥) → A.held.level < l → l ≤ A.fragment.level → (A.own.label ≡ B.own.label → A.fragment ≡ B.fragment) →
    r ≡ false → S ≡ status_of s → (l ≡ A.fragment.level → A.own.in_search ≡ is_finding s) →
    Child x z w A B p q → Child x z w (acted (begin j c r) (started j l f S n k A.held) A J) (follow (begin j c r) A J B) (p ++ (Initiate l f s ∷ [])) q
passed {x} {z} {w} {A} {B} {p} {q} l f s S j n k c r J calm d lt top same e g now v =
    let still = down_calm x w A.held.level A.held.name A.held.status B.held B.own.reported p v.down calm in
    let low = down_low x w A.held.level A.held.name A.held.status B.held B.own.reported p v.down in
    let bm = busy_more p l f s in let cm = calls_more p l f s in
    record {
      mark_a = v.mark_a;
      mark_b = v.mark_b;
      same = grind arith;
      up_a = λ u. grind arith;
      up_b = grind arith;
      down = down_more x w A.held.level A.held.name A.held.status l f S s B.held B.own.reported p v.down still lt (λ u. grind arith);
      back = grind arith;
      asked = λ u h. grind arith;
      finds = inl bm;
      spent = inl bm;
      rank = grind arith;
      alike = grind arith;
      calmer = λ u. grind arith;
      heard = λ u h z. grind arith;
    }

-- over another edge z: it is passed on if that is a branch
pub beside_begin : {x z w : ℕ} {A B : View} {p q : List Message} (l f : ℕ) (s : Phase) (S : Status) (j n : ℕ) (k : Option ℕ) (c r : Bool) (J : View) → Sane z A → Sane x B → (A.own.label ≡ B.own.label → A.fragment ≡ B.fragment) → A.own.up ≡ Some j → (z ≡ j → ⊥) → A.held.level < l → l ≤ A.fragment.level →
    (r ≡ false) ⊎ (A.held.mark z ≡ Branch → ⊥) → Starting s S r → (s ≡ phase.Find → l ≡ A.fragment.level) → (l ≡ A.fragment.level → A.own.in_search ≡ is_finding s) →
    Mode x z w A B p q → Mode x z w (acted (begin j c r) (started j l f S n k A.held) A J) (follow (begin j c r) A J B) (p ++ cond (is_branch (A.held.mark z)) (Initiate l f s ∷ []) []) q
beside_begin {x} {z} {w} {A} {B} {p} {q} l f s S j n k c r J sa sb same up d lt top e g cu now (free v) = free (rw v.out (record { mark_a = grind arith; mark_b = grind arith; out = grind arith; back = grind arith; rejected_a = grind arith; rejected_b = grind arith }))
beside_begin {x} {z} {w} {A} {B} {p} {q} l f s S j n k c r J sa sb same up d lt top e g cu now (offered v) = offered (rw v.out (record { mark_a = grind arith; mark_b = grind arith; out = grind arith; back = grind arith; differ = grind arith; up_b = grind arith; changed_b = grind arith; current_b = grind arith; least_b = grind arith; levels = grind arith; sends_b = grind arith; gets_b = grind arith }))
beside_begin {x} {z} {w} {A} {B} {p} {q} l f s S j n k c r J sa sb same up d lt top e g cu now (offers v) = absurd (grind arith)
beside_begin {x} {z} {w} {A} {B} {p} {q} l f s S j n k c r J sa sb same up d lt top e g cu now (crossing v) = absurd (grind arith)
beside_begin {x} {z} {w} {A} {B} {p} {q} l f s S j n k c r J sa sb same up d lt top e g cu now (took v) = absurd (grind arith)
beside_begin {x} {z} {w} {A} {B} {p} {q} l f s S j n k c r J sa sb same up d lt top e g cu now (taken v) = absurd (grind arith)
beside_begin {x} {z} {w} {A} {B} {p} {q} l f s S j n k c r J sa sb same up d lt top e g cu now (merged v) = absurd (grind arith)
beside_begin {x} {z} {w} {A} {B} {p} {q} l f s S j n k c r J sa sb same up d lt top e g cu now (ahead v) = absurd (grind arith)
beside_begin {x} {z} {w} {A} {B} {p} {q} l f s S j n k c r J sa sb same up d lt top e g cu now (behind v) = absurd (grind arith)
beside_begin {x} {z} {w} {A} {B} {p} {q} l f s S j n k c r J sa sb same up d lt top e g cu now (core v) = absurd (grind arith)
beside_begin {x} {z} {w} {A} {B} {p} {q} l f s S j n k c r J sa sb same up d lt top e g cu now (tells v) = absurd (grind arith)
beside_begin {x} {z} {w} {A} {B} {p} {q} l f s S j n k c r J sa sb same up d lt top e g cu now (told v) = absurd (grind arith)
beside_begin {x} {z} {w} {A} {B} {p} {q} l f s S j n k c r J sa sb same up d lt top e g cu now (above v) = above (rw v.mark_a (passed l f s S j n k c r J (λ u. grind arith) d lt top same (grind arith) (grind arith) now v))
beside_begin {x} {z} {w} {A} {B} {p} {q} l f s S j n k c r J sa sb same up d lt top e g cu now (below v) = absurd (grind arith)
