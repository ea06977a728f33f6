-- A report over the core, and the word to change.
use Rattle.std.proofs.Common.{◌≡◌, ℕ, ◌≤◌, Bool, true, false, ◌⊎◌, List, [], ◌∷◌, ◌++◌, Some, refl, inl, inr, arith, None, Option}
use Rattle.message.specs.declared.messages.Message.{Message}
use Rattle.message.specs.declared.messages.Message.TheVariants.{Connect, Report, Change}
use Rattle.node.specs.declared.state.Status.{Status}
use Rattle.node.specs.declared.state.Status.TheVariants.{Sleeping, Find, Found}
use Rattle.graph.specs.declared.mark.Mark.{Mark}
use Rattle.graph.specs.declared.mark.Mark.TheVariants.{Basic, Branch, Rejected}
use Rattle.node.specs.Rules.{lighter}
use Rattle.protocol.proofs.Chain.{bool, chain_low, down_low, chain_down}
use Rattle.protocol.proofs.Ghost.{decided, View, decide, change, end, follow, acted}
use Rattle.protocol.proofs.Held.{Held, marking, halting}
use Rattle.protocol.proofs.Mode.{tells, busy, Down, Told, Mode, free, offered, offers, crossing, took, taken, merged, ahead, behind, core, told, above, below, Sane}

-- of A's best edge, which leads to k: B is node k
pub record Best (x k w : ℕ) (A B : View) : Type 0 where
  pub mark : (A.held.mark k ≡ Basic) ⊎ (A.held.mark k ≡ Branch)
  pub parent : A.held.parent ≡ Some k → ⊥
  pub out : A.held.mark k ≡ Basic → (A.held.best_weight ≡ Some w) × (A.own.label ≡ B.own.label → ⊥) × (A.held.level ≤ B.held.level)
  pub on : A.held.mark k ≡ Branch → (B.held.parent ≡ Some x) × (B.own.reported ≡ true) × (B.own.changed ≡ false) × (B.held.level ≡ A.held.level) × (B.held.name ≡ A.held.name) × (B.held.best_weight ≡ A.held.best_weight)

-- g is the node with the edge to k a branch, or the node as it was
abbrev pub alike : Held → Held → (ℕ → Mark) → Held
alike h g m = record { status = h.status; mark = m; level = h.level; name = h.name; find_count = h.find_count; parent = h.parent; best = h.best; best_weight = h.best_weight; testing = h.testing; halted = h.halted }

unsure_is : (m : Mark) → (m ≡ Branch → ⊥) → (m ≡ Rejected → ⊥) → m ≡ Basic
unsure_is Basic a b = refl
unsure_is Branch a b = absurd (a refl)
unsure_is Rejected a b = absurd (b refl)

-- the report that A has sent before it decides is no heavier of use
old_report : {x w : ℕ} (A B : View) {p : List Message} → Sane x B → A.own.reported ≡ true → B.own.reported ≡ true → lighter A.held.best_weight B.held.best_weight ≡ true → B.held.parent ≡ Some x → B.held.name ≡ w → A.held.name ≡ w → A.held.level ≡ B.held.level →
    Told A B p → Down x w A.held.level A.held.name A.held.status B.held B.own.reported p × (busy p ≡ false)
old_report A B b r o l i n m e (inl (u, z)) = absurd (grind arith)
old_report A B b r o l i n m e (inr (inl (u, z))) = rw u ((record { parent = i; name = n; still = waken b.find_reported b.sleeping_reported o; reported = o; lighter = l }, (grind arith, grind arith)), refl)
  where
    waken : {h : Status} {r : Bool} → (h ≡ Find → r ≡ false) → (h ≡ Sleeping → r ≡ false) → r ≡ true → h ≡ Found
    waken a b c = grind arith
old_report A B b r o l i n m e (inr (inr (u, z, y, x))) = rw u ((grind arith, grind arith), refl)

-- m: the marks afterwards, the same at y
pub over_decide : {x y w : ℕ} {A B : View} {p q : List Message} {r : Option ℕ} (k : ℕ) (m : ℕ → Mark) → m y ≡ A.held.mark y → Sane y A → Sane x B → (k ≡ y → ⊥) → A.held.parent ≡ Some y → (A.held.status ≡ Find → ⊥) → lighter A.held.best_weight r ≡ true → Mode x y w A B p (Report r ∷ q) →
    Mode x y w (acted (decide x k) (alike A.held A.held m) A B) (follow (decide x k) A B B) p q
over_decide {x} {y} {w} {A} {B} {p} {q} {r} k m mm sa sb d i st le (free v) = absurd (grind arith)
over_decide {x} {y} {w} {A} {B} {p} {q} {r} k m mm sa sb d i st le (offered v) = absurd (grind arith)
over_decide {x} {y} {w} {A} {B} {p} {q} {r} k m mm sa sb d i st le (offers v) = absurd (grind arith)
over_decide {x} {y} {w} {A} {B} {p} {q} {r} k m mm sa sb d i st le (crossing v) = absurd (grind arith)
over_decide {x} {y} {w} {A} {B} {p} {q} {r} k m mm sa sb d i st le (took v) = absurd (grind arith)
over_decide {x} {y} {w} {A} {B} {p} {q} {r} k m mm sa sb d i st le (taken v) = absurd (grind arith)
over_decide {x} {y} {w} {A} {B} {p} {q} {r} k m mm sa sb d i st le (merged v) = absurd (grind arith)
over_decide {x} {y} {w} {A} {B} {p} {q} {r} k m mm sa sb d i st le (ahead v) = absurd (grind arith)
over_decide {x} {y} {w} {A} {B} {p} {q} {r} k m mm sa sb d i st le (behind v) = absurd (grind arith)
over_decide {x} {y} {w} {A} {B} {p} {q} {r} k m mm sa sb d i st le (core v) = let r_a : A.own.reported ≡ true = grind arith in let r_b : B.own.reported ≡ true = grind arith in let le : lighter A.held.best_weight B.held.best_weight ≡ true = grind arith in let dn = old_report A B sb r_a r_b le v.parent_b v.name_b v.name_a v.levels v.out in above (record { mark_a = grind arith; mark_b = v.mark_b; same = grind arith; up_a = λ u. grind arith; up_b = v.up_b; down = dn.0; back = grind arith; asked = λ u h. grind arith; finds = grind arith; spent = inr (inr refl); rank = grind arith; alike = grind arith; calmer = λ u. grind arith; heard = λ u h z. grind arith })
over_decide {x} {y} {w} {A} {B} {p} {q} {r} k m mm sa sb d i st le (tells v) = absurd (grind arith)
over_decide {x} {y} {w} {A} {B} {p} {q} {r} k m mm sa sb d i st le (told v) = absurd (grind arith)
over_decide {x} {y} {w} {A} {B} {p} {q} {r} k m mm sa sb d i st le (above v) = absurd (grind arith)
over_decide {x} {y} {w} {A} {B} {p} {q} {r} k m mm sa sb d i st le (below v) = absurd (grind arith)

pub over_change : {x y w : ℕ} {A B : View} {p q : List Message} (k : ℕ) (m : ℕ → Mark) → m y ≡ A.held.mark y → Sane y A → Sane x B → (A.own.label ≡ B.own.label → A.fragment ≡ B.fragment) → (k ≡ y → ⊥) → Mode x y w A B p (Change ∷ q) →
    Mode x y w (acted (change x k) (alike A.held A.held m) A B) (follow (change x k) A B B) p q
over_change {x} {y} {w} {A} {B} {p} {q} k m mm sa sb same d (free v) = absurd (grind arith)
over_change {x} {y} {w} {A} {B} {p} {q} k m mm sa sb same d (offered v) = absurd (grind arith)
over_change {x} {y} {w} {A} {B} {p} {q} k m mm sa sb same d (offers v) = absurd (grind arith)
over_change {x} {y} {w} {A} {B} {p} {q} k m mm sa sb same d (crossing v) = absurd (grind arith)
over_change {x} {y} {w} {A} {B} {p} {q} k m mm sa sb same d (took v) = absurd (grind arith)
over_change {x} {y} {w} {A} {B} {p} {q} k m mm sa sb same d (taken v) = absurd (grind arith)
over_change {x} {y} {w} {A} {B} {p} {q} k m mm sa sb same d (merged v) = absurd (grind arith)
over_change {x} {y} {w} {A} {B} {p} {q} k m mm sa sb same d (ahead v) = absurd (grind arith)
over_change {x} {y} {w} {A} {B} {p} {q} k m mm sa sb same d (behind v) = absurd (grind arith)
over_change {x} {y} {w} {A} {B} {p} {q} k m mm sa sb same d (core v) = absurd (grind arith)
over_change {x} {y} {w} {A} {B} {p} {q} k m mm sa sb same d (tells v) = absurd (grind arith)
over_change {x} {y} {w} {A} {B} {p} {q} k m mm sa sb same d (told v) = above (rw v.back (record { mark_a = grind arith; mark_b = grind arith; same = grind arith; up_a = λ u. grind arith; up_b = grind arith; down = (grind arith, grind arith); back = grind arith; asked = λ u h. grind arith; finds = grind arith; spent = grind arith; rank = grind arith; alike = grind arith; calmer = λ u. grind arith; heard = λ u h z. grind arith }))
over_change {x} {y} {w} {A} {B} {p} {q} k m mm sa sb same d (above v) = absurd (grind arith)
over_change {x} {y} {w} {A} {B} {p} {q} k m mm sa sb same d (below v) = absurd (grind arith)

-- over the best edge, which is a branch
pub pass_decide : {x k w : ℕ} {A B : View} {p q : List Message} (j : ℕ) (J : View) → Sane k A → Sane x B → (A.own.label ≡ B.own.label → A.fragment ≡ B.fragment) → Best x k w A B → A.own.up ≡ Some j → A.held.parent ≡ Some j → A.own.changed ≡ false → A.held.level ≡ A.fragment.level → A.held.best ≡ Some k → (A.held.status ≡ Find → ⊥) → (A.held.best_weight ≡ None → ⊥) → A.held.mark k ≡ Branch → A.own.in_search ≡ true →
    Mode x k w A B p q → Mode x k w (acted (decide x k) A.held A J) (follow (decide x k) A J B) (p ++ (Change ∷ [])) q
pass_decide {x} {k} {w} {A} {B} {p} {q} j J sa sb same b up i ch cu be st fi l sr (free v) = absurd (grind arith)
pass_decide {x} {k} {w} {A} {B} {p} {q} j J sa sb same b up i ch cu be st fi l sr (offered v) = absurd (grind arith)
pass_decide {x} {k} {w} {A} {B} {p} {q} j J sa sb same b up i ch cu be st fi l sr (offers v) = absurd (grind arith)
pass_decide {x} {k} {w} {A} {B} {p} {q} j J sa sb same b up i ch cu be st fi l sr (crossing v) = absurd (grind arith)
pass_decide {x} {k} {w} {A} {B} {p} {q} j J sa sb same b up i ch cu be st fi l sr (took v) = absurd (grind arith)
pass_decide {x} {k} {w} {A} {B} {p} {q} j J sa sb same b up i ch cu be st fi l sr (taken v) = absurd (grind arith)
pass_decide {x} {k} {w} {A} {B} {p} {q} j J sa sb same b up i ch cu be st fi l sr (merged v) = absurd (grind arith)
pass_decide {x} {k} {w} {A} {B} {p} {q} j J sa sb same b up i ch cu be st fi l sr (ahead v) = absurd (grind arith)
pass_decide {x} {k} {w} {A} {B} {p} {q} j J sa sb same b up i ch cu be st fi l sr (behind v) = absurd (grind arith)
pass_decide {x} {k} {w} {A} {B} {p} {q} j J sa sb same b up i ch cu be st fi l sr (core v) = absurd (grind arith)
pass_decide {x} {k} {w} {A} {B} {p} {q} j J sa sb same b up i ch cu be st fi l sr (tells v) = absurd (grind arith)
pass_decide {x} {k} {w} {A} {B} {p} {q} j J sa sb same b up i ch cu be st fi l sr (told v) = absurd (grind arith)
pass_decide {x} {k} {w} {A} {B} {p} {q} j J sa sb same b up i ch cu be st fi l sr (above v) = let low = down_low x w A.held.level A.held.name A.held.status B.held B.own.reported p v.down in let e : p ≡ [] = grind arith in tells (rw e (record { mark_a = grind arith; mark_b = grind arith; same = grind arith; out = refl; back = grind arith; up_a = refl; up_b = grind arith; changed_a = refl; changed_b = grind arith; best_a = grind arith; parent_b = grind arith; levels = grind arith; names = grind arith; current_a = grind arith; least_a = grind arith; least_b = grind arith; finite = grind arith; sends = grind arith; gets = grind arith; in_search_a = grind arith; in_search_b = grind arith }))
pass_decide {x} {k} {w} {A} {B} {p} {q} j J sa sb same b up i ch cu be st fi l sr (below v) = absurd (grind arith)

-- over the best edge, which nobody has a branch or only the other end
pub join_decide : {x k w : ℕ} {A B : View} {p q : List Message} (J : View) → Best x k w A B → A.held.level ≡ A.fragment.level → A.held.mark k ≡ Basic →
    Mode x k w A B p q → Mode x k w (acted (decide x k) (marking k Branch A.held) A J) (follow (decide x k) A J B) (p ++ (Connect A.held.level ∷ [])) q
join_decide {x} {k} {w} {A} {B} {p} {q} J b cu l (free v) = let f = b.out l in let u : B.held.mark x ≡ Basic = unsure_is (B.held.mark x) v.mark_b (λ z. f.1 (v.rejected_b z)) in offers (rw v.out (record { mark_a = u; mark_b = grind arith; out = v.back; back = refl; differ = λ z. f.1 (grind arith); up_b = refl; changed_b = refl; current_b = grind arith; least_b = grind arith; levels = grind arith; sends_b = grind arith; gets_b = grind arith }))
join_decide {x} {k} {w} {A} {B} {p} {q} J b cu l (offered v) = let f = b.out l in crossing (rw v.out (record { mark_a = grind arith; mark_b = v.mark_b; out = refl; back = v.back; differ = λ z. f.1 (grind arith); up_a = refl; up_b = v.up_b; changed_a = refl; changed_b = v.changed_b; current_a = grind arith; current_b = grind arith; least_a = grind arith; least_b = grind arith; levels = grind arith; sends_a = grind arith; gets_a = grind arith; sends_b = grind arith; gets_b = grind arith }))
join_decide {x} {k} {w} {A} {B} {p} {q} J b cu l (offers v) = absurd (grind arith)
join_decide {x} {k} {w} {A} {B} {p} {q} J b cu l (crossing v) = absurd (grind arith)
join_decide {x} {k} {w} {A} {B} {p} {q} J b cu l (took v) = absurd (grind arith)
join_decide {x} {k} {w} {A} {B} {p} {q} J b cu l (taken v) = absurd (grind arith)
join_decide {x} {k} {w} {A} {B} {p} {q} J b cu l (merged v) = absurd (grind arith)
join_decide {x} {k} {w} {A} {B} {p} {q} J b cu l (ahead v) = absurd (grind arith)
join_decide {x} {k} {w} {A} {B} {p} {q} J b cu l (behind v) = absurd (grind arith)
join_decide {x} {k} {w} {A} {B} {p} {q} J b cu l (core v) = absurd (grind arith)
join_decide {x} {k} {w} {A} {B} {p} {q} J b cu l (tells v) = absurd (grind arith)
join_decide {x} {k} {w} {A} {B} {p} {q} J b cu l (told v) = absurd (grind arith)
join_decide {x} {k} {w} {A} {B} {p} {q} J b cu l (above v) = absurd (grind arith)
join_decide {x} {k} {w} {A} {B} {p} {q} J b cu l (below v) = absurd (grind arith)

-- over an edge z that is neither
pub beside_decide : {x z w : ℕ} {A B : View} {p q : List Message} (k j : ℕ) (m : ℕ → Mark) (J : View) → m z ≡ A.held.mark z → (A.own.label ≡ B.own.label → A.fragment ≡ B.fragment) → A.own.up ≡ Some j → (z ≡ j → ⊥) → (z ≡ k → ⊥) → Mode x z w A B p q → Mode x z w (acted (decide x k) (alike A.held A.held m) A J) (follow (decide x k) A J B) p q
beside_decide {x} {z} {w} {A} {B} {p} {q} k j m J mm same up d e (free v) = free (record { mark_a = grind arith; mark_b = grind arith; out = grind arith; back = grind arith; rejected_a = grind arith; rejected_b = grind arith })
beside_decide {x} {z} {w} {A} {B} {p} {q} k j m J mm same up d e (offered v) = offered (record { mark_a = grind arith; mark_b = grind arith; out = grind arith; back = grind arith; differ = grind arith; up_b = grind arith; changed_b = grind arith; current_b = grind arith; least_b = grind arith; levels = grind arith; sends_b = grind arith; gets_b = grind arith })
beside_decide {x} {z} {w} {A} {B} {p} {q} k j m J mm same up d e (offers v) = absurd (grind arith)
beside_decide {x} {z} {w} {A} {B} {p} {q} k j m J mm same up d e (crossing v) = absurd (grind arith)
beside_decide {x} {z} {w} {A} {B} {p} {q} k j m J mm same up d e (took v) = absurd (grind arith)
beside_decide {x} {z} {w} {A} {B} {p} {q} k j m J mm same up d e (taken v) = absurd (grind arith)
beside_decide {x} {z} {w} {A} {B} {p} {q} k j m J mm same up d e (merged v) = absurd (grind arith)
beside_decide {x} {z} {w} {A} {B} {p} {q} k j m J mm same up d e (ahead v) = absurd (grind arith)
beside_decide {x} {z} {w} {A} {B} {p} {q} k j m J mm same up d e (behind v) = absurd (grind arith)
beside_decide {x} {z} {w} {A} {B} {p} {q} k j m J mm same up d e (core v) = absurd (grind arith)
beside_decide {x} {z} {w} {A} {B} {p} {q} k j m J mm same up d e (tells v) = absurd (grind arith)
beside_decide {x} {z} {w} {A} {B} {p} {q} k j m J mm same up d e (told v) = absurd (grind arith)
beside_decide {x} {z} {w} {A} {B} {p} {q} k j m J mm same up d e (above v) = above (record { mark_a = grind arith; mark_b = grind arith; same = grind arith; up_a = λ u. grind arith; up_b = grind arith; down = v.down; back = grind arith; asked = λ u h. grind arith; finds = grind arith; spent = inr (inr refl); rank = grind arith; alike = grind arith; calmer = λ u. grind arith; heard = λ u h z. grind arith })
beside_decide {x} {z} {w} {A} {B} {p} {q} k j m J mm same up d e (below v) = absurd (grind arith)

-- over the best edge, which is a branch
pub pass_change : {x k w : ℕ} {A B : View} {p q : List Message} (j : ℕ) (J : View) → Sane k A → Sane x B → (A.own.label ≡ B.own.label → A.fragment ≡ B.fragment) → Best x k w A B → A.own.up ≡ Some j → A.held.parent ≡ Some j → A.own.changed ≡ false → A.held.level ≡ A.fragment.level → A.held.best ≡ Some k → (A.held.status ≡ Find → ⊥) → (A.held.best_weight ≡ None → ⊥) → A.held.mark k ≡ Branch → A.own.in_search ≡ true → A.fragment.least ≡ decided A.held.best_weight →
    Mode x k w A B p q → Mode x k w (acted (change x k) A.held A J) (follow (change x k) A J B) (p ++ (Change ∷ [])) q
pass_change {x} {k} {w} {A} {B} {p} {q} j J sa sb same b up i ch cu be st fi l sr lf (free v) = absurd (grind arith)
pass_change {x} {k} {w} {A} {B} {p} {q} j J sa sb same b up i ch cu be st fi l sr lf (offered v) = absurd (grind arith)
pass_change {x} {k} {w} {A} {B} {p} {q} j J sa sb same b up i ch cu be st fi l sr lf (offers v) = absurd (grind arith)
pass_change {x} {k} {w} {A} {B} {p} {q} j J sa sb same b up i ch cu be st fi l sr lf (crossing v) = absurd (grind arith)
pass_change {x} {k} {w} {A} {B} {p} {q} j J sa sb same b up i ch cu be st fi l sr lf (took v) = absurd (grind arith)
pass_change {x} {k} {w} {A} {B} {p} {q} j J sa sb same b up i ch cu be st fi l sr lf (taken v) = absurd (grind arith)
pass_change {x} {k} {w} {A} {B} {p} {q} j J sa sb same b up i ch cu be st fi l sr lf (merged v) = absurd (grind arith)
pass_change {x} {k} {w} {A} {B} {p} {q} j J sa sb same b up i ch cu be st fi l sr lf (ahead v) = absurd (grind arith)
pass_change {x} {k} {w} {A} {B} {p} {q} j J sa sb same b up i ch cu be st fi l sr lf (behind v) = absurd (grind arith)
pass_change {x} {k} {w} {A} {B} {p} {q} j J sa sb same b up i ch cu be st fi l sr lf (core v) = absurd (grind arith)
pass_change {x} {k} {w} {A} {B} {p} {q} j J sa sb same b up i ch cu be st fi l sr lf (tells v) = absurd (grind arith)
pass_change {x} {k} {w} {A} {B} {p} {q} j J sa sb same b up i ch cu be st fi l sr lf (told v) = absurd (grind arith)
pass_change {x} {k} {w} {A} {B} {p} {q} j J sa sb same b up i ch cu be st fi l sr lf (above v) = let low = down_low x w A.held.level A.held.name A.held.status B.held B.own.reported p v.down in let e : p ≡ [] = grind arith in tells (rw e (record { mark_a = grind arith; mark_b = grind arith; same = grind arith; out = refl; back = grind arith; up_a = refl; up_b = grind arith; changed_a = refl; changed_b = grind arith; best_a = grind arith; parent_b = grind arith; levels = grind arith; names = grind arith; current_a = grind arith; least_a = grind arith; least_b = grind arith; finite = grind arith; sends = grind arith; gets = grind arith; in_search_a = grind arith; in_search_b = grind arith }))
pass_change {x} {k} {w} {A} {B} {p} {q} j J sa sb same b up i ch cu be st fi l sr lf (below v) = absurd (grind arith)

-- over the best edge, which nobody has a branch or only the other end
pub join_change : {x k w : ℕ} {A B : View} {p q : List Message} (J : View) → Best x k w A B → A.held.level ≡ A.fragment.level → A.held.mark k ≡ Basic → A.fragment.least ≡ decided A.held.best_weight →
    Mode x k w A B p q → Mode x k w (acted (change x k) (marking k Branch A.held) A J) (follow (change x k) A J B) (p ++ (Connect A.held.level ∷ [])) q
join_change {x} {k} {w} {A} {B} {p} {q} J b cu l lf (free v) = let f = b.out l in let u : B.held.mark x ≡ Basic = unsure_is (B.held.mark x) v.mark_b (λ z. f.1 (v.rejected_b z)) in offers (rw v.out (record { mark_a = u; mark_b = grind arith; out = v.back; back = refl; differ = λ z. f.1 (grind arith); up_b = refl; changed_b = refl; current_b = grind arith; least_b = grind arith; levels = grind arith; sends_b = grind arith; gets_b = grind arith }))
join_change {x} {k} {w} {A} {B} {p} {q} J b cu l lf (offered v) = let f = b.out l in crossing (rw v.out (record { mark_a = grind arith; mark_b = v.mark_b; out = refl; back = v.back; differ = λ z. f.1 (grind arith); up_a = refl; up_b = v.up_b; changed_a = refl; changed_b = v.changed_b; current_a = grind arith; current_b = grind arith; least_a = grind arith; least_b = grind arith; levels = grind arith; sends_a = grind arith; gets_a = grind arith; sends_b = grind arith; gets_b = grind arith }))
join_change {x} {k} {w} {A} {B} {p} {q} J b cu l lf (offers v) = absurd (grind arith)
join_change {x} {k} {w} {A} {B} {p} {q} J b cu l lf (crossing v) = absurd (grind arith)
join_change {x} {k} {w} {A} {B} {p} {q} J b cu l lf (took v) = absurd (grind arith)
join_change {x} {k} {w} {A} {B} {p} {q} J b cu l lf (taken v) = absurd (grind arith)
join_change {x} {k} {w} {A} {B} {p} {q} J b cu l lf (merged v) = absurd (grind arith)
join_change {x} {k} {w} {A} {B} {p} {q} J b cu l lf (ahead v) = absurd (grind arith)
join_change {x} {k} {w} {A} {B} {p} {q} J b cu l lf (behind v) = absurd (grind arith)
join_change {x} {k} {w} {A} {B} {p} {q} J b cu l lf (core v) = absurd (grind arith)
join_change {x} {k} {w} {A} {B} {p} {q} J b cu l lf (tells v) = absurd (grind arith)
join_change {x} {k} {w} {A} {B} {p} {q} J b cu l lf (told v) = absurd (grind arith)
join_change {x} {k} {w} {A} {B} {p} {q} J b cu l lf (above v) = absurd (grind arith)
join_change {x} {k} {w} {A} {B} {p} {q} J b cu l lf (below v) = absurd (grind arith)

-- over an edge z that is neither
pub beside_change : {x z w : ℕ} {A B : View} {p q : List Message} (k j : ℕ) (m : ℕ → Mark) (J : View) → m z ≡ A.held.mark z → (A.own.label ≡ B.own.label → A.fragment ≡ B.fragment) → A.own.up ≡ Some j → (z ≡ j → ⊥) → (z ≡ k → ⊥) → Mode x z w A B p q → Mode x z w (acted (change x k) (alike A.held A.held m) A J) (follow (change x k) A J B) p q
beside_change {x} {z} {w} {A} {B} {p} {q} k j m J mm same up d e (free v) = free (record { mark_a = grind arith; mark_b = grind arith; out = grind arith; back = grind arith; rejected_a = grind arith; rejected_b = grind arith })
beside_change {x} {z} {w} {A} {B} {p} {q} k j m J mm same up d e (offered v) = offered (record { mark_a = grind arith; mark_b = grind arith; out = grind arith; back = grind arith; differ = grind arith; up_b = grind arith; changed_b = grind arith; current_b = grind arith; least_b = grind arith; levels = grind arith; sends_b = grind arith; gets_b = grind arith })
beside_change {x} {z} {w} {A} {B} {p} {q} k j m J mm same up d e (offers v) = absurd (grind arith)
beside_change {x} {z} {w} {A} {B} {p} {q} k j m J mm same up d e (crossing v) = absurd (grind arith)
beside_change {x} {z} {w} {A} {B} {p} {q} k j m J mm same up d e (took v) = absurd (grind arith)
beside_change {x} {z} {w} {A} {B} {p} {q} k j m J mm same up d e (taken v) = absurd (grind arith)
beside_change {x} {z} {w} {A} {B} {p} {q} k j m J mm same up d e (merged v) = absurd (grind arith)
beside_change {x} {z} {w} {A} {B} {p} {q} k j m J mm same up d e (ahead v) = absurd (grind arith)
beside_change {x} {z} {w} {A} {B} {p} {q} k j m J mm same up d e (behind v) = absurd (grind arith)
beside_change {x} {z} {w} {A} {B} {p} {q} k j m J mm same up d e (core v) = absurd (grind arith)
beside_change {x} {z} {w} {A} {B} {p} {q} k j m J mm same up d e (tells v) = absurd (grind arith)
beside_change {x} {z} {w} {A} {B} {p} {q} k j m J mm same up d e (told v) = absurd (grind arith)
beside_change {x} {z} {w} {A} {B} {p} {q} k j m J mm same up d e (above v) = above (record { mark_a = grind arith; mark_b = grind arith; same = grind arith; up_a = λ u. grind arith; up_b = grind arith; down = v.down; back = grind arith; asked = λ u h. grind arith; finds = grind arith; spent = inr (inr refl); rank = grind arith; alike = grind arith; calmer = λ u. grind arith; heard = λ u h z. grind arith })
beside_change {x} {z} {w} {A} {B} {p} {q} k j m J mm same up d e (below v) = absurd (grind arith)

pub over_end : {x y w : ℕ} {A B : View} {p q : List Message} {r : Option ℕ} → Sane y A → Sane x B → A.held.parent ≡ Some y → (A.held.status ≡ Find → ⊥) → A.held.best_weight ≡ None → r ≡ None → Mode x y w A B p (Report r ∷ q) →
    Mode x y w (acted end (halting A.held) A B) (follow end A B B) p q
over_end {x} {y} {w} {A} {B} {p} {q} {r} sa sb i st e f (free v) = absurd (grind arith)
over_end {x} {y} {w} {A} {B} {p} {q} {r} sa sb i st e f (offered v) = absurd (grind arith)
over_end {x} {y} {w} {A} {B} {p} {q} {r} sa sb i st e f (offers v) = absurd (grind arith)
over_end {x} {y} {w} {A} {B} {p} {q} {r} sa sb i st e f (crossing v) = absurd (grind arith)
over_end {x} {y} {w} {A} {B} {p} {q} {r} sa sb i st e f (took v) = absurd (grind arith)
over_end {x} {y} {w} {A} {B} {p} {q} {r} sa sb i st e f (taken v) = absurd (grind arith)
over_end {x} {y} {w} {A} {B} {p} {q} {r} sa sb i st e f (merged v) = absurd (grind arith)
over_end {x} {y} {w} {A} {B} {p} {q} {r} sa sb i st e f (ahead v) = absurd (grind arith)
over_end {x} {y} {w} {A} {B} {p} {q} {r} sa sb i st e f (behind v) = absurd (grind arith)
over_end {x} {y} {w} {A} {B} {p} {q} {r} sa sb i st e f (core v) = let r_a : A.own.reported ≡ true = grind arith in core (record { mark_a = grind arith; mark_b = grind arith; same = grind arith; up_a = grind arith; up_b = grind arith; in_search_a = grind arith; in_search_b = grind arith; parent_a = grind arith; parent_b = grind arith; changed_a = grind arith; changed_b = grind arith; levels = grind arith; name_a = grind arith; name_b = grind arith; current_a = grind arith; out = grind arith; back = grind arith; least = grind arith })
over_end {x} {y} {w} {A} {B} {p} {q} {r} sa sb i st e f (tells v) = absurd (grind arith)
over_end {x} {y} {w} {A} {B} {p} {q} {r} sa sb i st e f (told v) = absurd (grind arith)
over_end {x} {y} {w} {A} {B} {p} {q} {r} sa sb i st e f (above v) = absurd (grind arith)
over_end {x} {y} {w} {A} {B} {p} {q} {r} sa sb i st e f (below v) = absurd (grind arith)

pub over_rest : {x y w : ℕ} {A B : View} {p q : List Message} {r : Option ℕ} → Sane y A → Sane x B → A.held.parent ≡ Some y → (A.held.status ≡ Find → ⊥) → lighter A.held.best_weight r ≡ false → Mode x y w A B p (Report r ∷ q) →
    Mode x y w A B p q
over_rest {x} {y} {w} {A} {B} {p} {q} {r} sa sb i st le (free v) = absurd (grind arith)
over_rest {x} {y} {w} {A} {B} {p} {q} {r} sa sb i st le (offered v) = absurd (grind arith)
over_rest {x} {y} {w} {A} {B} {p} {q} {r} sa sb i st le (offers v) = absurd (grind arith)
over_rest {x} {y} {w} {A} {B} {p} {q} {r} sa sb i st le (crossing v) = absurd (grind arith)
over_rest {x} {y} {w} {A} {B} {p} {q} {r} sa sb i st le (took v) = absurd (grind arith)
over_rest {x} {y} {w} {A} {B} {p} {q} {r} sa sb i st le (taken v) = absurd (grind arith)
over_rest {x} {y} {w} {A} {B} {p} {q} {r} sa sb i st le (merged v) = absurd (grind arith)
over_rest {x} {y} {w} {A} {B} {p} {q} {r} sa sb i st le (ahead v) = absurd (grind arith)
over_rest {x} {y} {w} {A} {B} {p} {q} {r} sa sb i st le (behind v) = absurd (grind arith)
over_rest {x} {y} {w} {A} {B} {p} {q} {r} sa sb i st le (core v) = let r_a : A.own.reported ≡ true = grind arith in core (record { mark_a = grind arith; mark_b = grind arith; same = grind arith; up_a = grind arith; up_b = grind arith; in_search_a = grind arith; in_search_b = grind arith; parent_a = grind arith; parent_b = grind arith; changed_a = grind arith; changed_b = grind arith; levels = grind arith; name_a = grind arith; name_b = grind arith; current_a = grind arith; out = grind arith; back = grind arith; least = grind arith })
over_rest {x} {y} {w} {A} {B} {p} {q} {r} sa sb i st le (tells v) = absurd (grind arith)
over_rest {x} {y} {w} {A} {B} {p} {q} {r} sa sb i st le (told v) = absurd (grind arith)
over_rest {x} {y} {w} {A} {B} {p} {q} {r} sa sb i st le (above v) = absurd (grind arith)
over_rest {x} {y} {w} {A} {B} {p} {q} {r} sa sb i st le (below v) = let cl = chain_low B.held.level B.held.name B.held.status A.held.level A.held.name q v.down.1 in below (record { mark_a = v.mark_a; mark_b = v.mark_b; same = v.same; up_a = v.up_a; up_b = v.up_b; down = chain_down y w B.held.level B.held.name B.held.status A.held A.own.reported q v.down.1; back = v.back; asked = v.asked; finds = v.finds; spent = elim (bool (busy q)) [ inl u ↦ inl u | inr u ↦ inr (inl (cl.2 u).0) ]; rank = v.rank; alike = v.alike; calmer = v.calmer; heard = v.heard })
