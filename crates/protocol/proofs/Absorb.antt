-- A connect of a lower level, or of the same: over the edge that it came by.
use Rattle.std.proofs.Common.{◌≡◌, ℕ, ◌+◌, ◌<◌, ◌≤◌, cond, List, [], ◌∷◌, ◌++◌, refl, arith}
use Rattle.message.specs.declared.messages.Message.{Message}
use Rattle.message.specs.declared.messages.Message.TheVariants.{Connect, Initiate}
use Rattle.node.specs.declared.state.Status.TheVariants.{Sleeping}
use Rattle.graph.specs.declared.mark.Mark.TheVariants.{Basic, Branch}
use Rattle.node.specs.Rules.{is_find, phase_of}
use Rattle.protocol.proofs.Ghost.{View, absorb, merge, follow, acted}
use Rattle.protocol.proofs.Held.{Held, marking, counting}
use Rattle.protocol.proofs.Mode.{tells, Mode, free, offered, offers, crossing, took, taken, merged, ahead, behind, core, told, above, below, Sane}
use Rattle.message.specs.declared.messages.Phase.TheVariants as phase

abbrev absorbed : ℕ → Held → Held
absorbed y h = counting (cond (is_find h.status) 1 0) (marking y Branch h)

pub over_absorb : {x y w : ℕ} {A B : View} {p q : List Message} {l : ℕ} → Sane y A → (A.held.status ≡ Sleeping → ⊥) → l < A.held.level → Mode x y w A B p (Connect l ∷ q) →
    Mode x y w (acted absorb (absorbed y A.held) A B) (follow absorb A B B) (p ++ (Initiate A.held.level A.held.name (phase_of A.held.status) ∷ [])) q
over_absorb {x} {y} {w} {A} {B} {p} {q} {l} n a k (free v) = absurd (grind arith)
over_absorb {x} {y} {w} {A} {B} {p} {q} {l} n a k (offered v) = above (rw v.out (record { mark_a = grind arith; mark_b = grind arith; same = grind arith; up_a = grind arith; up_b = grind arith; down = (grind arith, λ z. (refl, grind arith), (refl, refl)); back = grind arith; asked = λ c b. grind arith; finds = grind arith; spent = grind arith; rank = grind arith; alike = grind arith; calmer = λ u. grind arith; heard = λ u h z. grind arith }))
over_absorb {x} {y} {w} {A} {B} {p} {q} {l} n a k (offers v) = absurd (grind arith)
over_absorb {x} {y} {w} {A} {B} {p} {q} {l} n a k (crossing v) = absurd (grind arith)
over_absorb {x} {y} {w} {A} {B} {p} {q} {l} n a k (took v) = absurd (grind arith)
over_absorb {x} {y} {w} {A} {B} {p} {q} {l} n a k (taken v) = absurd (grind arith)
over_absorb {x} {y} {w} {A} {B} {p} {q} {l} n a k (merged v) = absurd (grind arith)
over_absorb {x} {y} {w} {A} {B} {p} {q} {l} n a k (ahead v) = absurd (grind arith)
over_absorb {x} {y} {w} {A} {B} {p} {q} {l} n a k (behind v) = absurd (grind arith)
over_absorb {x} {y} {w} {A} {B} {p} {q} {l} n a k (core v) = absurd (grind arith)
over_absorb {x} {y} {w} {A} {B} {p} {q} {l} n a k (tells v) = absurd (grind arith)
over_absorb {x} {y} {w} {A} {B} {p} {q} {l} n a k (told v) = absurd (grind arith)
over_absorb {x} {y} {w} {A} {B} {p} {q} {l} n a k (above v) = absurd (grind arith)
over_absorb {x} {y} {w} {A} {B} {p} {q} {l} n a k (below v) = absurd (grind arith)

pub over_merge : {x y w : ℕ} {A B : View} {p q : List Message} {l : ℕ} → Sane y A → (A.own.label ≡ B.own.label → A.fragment ≡ B.fragment) → A.held.level ≤ l → (A.held.mark y ≡ Basic → ⊥) → Mode x y w A B p (Connect l ∷ q) →
    Mode x y w (acted (merge w) A.held A B) (follow (merge w) A B B) (p ++ (Initiate (A.held.level + 1) w phase.Find ∷ [])) q
over_merge {x} {y} {w} {A} {B} {p} {q} {l} n same a k (free v) = absurd (grind arith)
over_merge {x} {y} {w} {A} {B} {p} {q} {l} n same a k (offered v) = absurd (grind arith)
over_merge {x} {y} {w} {A} {B} {p} {q} {l} n same a k (offers v) = absurd (grind arith)
over_merge {x} {y} {w} {A} {B} {p} {q} {l} n same a k (crossing v) = took (rw v.out (record { joint = grind arith; out = grind arith; back = grind arith; changed_a = grind arith; changed_b = grind arith; levels = grind arith; stale = grind arith }))
over_merge {x} {y} {w} {A} {B} {p} {q} {l} n same a k (took v) = absurd (grind arith)
over_merge {x} {y} {w} {A} {B} {p} {q} {l} n same a k (taken v) = merged (rw v.back (record { joint = grind arith; out = grind arith; back = grind arith; changed_a = grind arith; changed_b = grind arith; levels = grind arith; stale = grind arith }))
over_merge {x} {y} {w} {A} {B} {p} {q} {l} n same a k (merged v) = absurd (grind arith)
over_merge {x} {y} {w} {A} {B} {p} {q} {l} n same a k (ahead v) = absurd (grind arith)
over_merge {x} {y} {w} {A} {B} {p} {q} {l} n same a k (behind v) = absurd (grind arith)
over_merge {x} {y} {w} {A} {B} {p} {q} {l} n same a k (core v) = absurd (grind arith)
over_merge {x} {y} {w} {A} {B} {p} {q} {l} n same a k (tells v) = absurd (grind arith)
over_merge {x} {y} {w} {A} {B} {p} {q} {l} n same a k (told v) = absurd (grind arith)
over_merge {x} {y} {w} {A} {B} {p} {q} {l} n same a k (above v) = absurd (grind arith)
over_merge {x} {y} {w} {A} {B} {p} {q} {l} n same a k (below v) = absurd (grind arith)
