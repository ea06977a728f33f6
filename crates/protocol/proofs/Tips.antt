-- The two ends of a core never have best edges of one weight: each leads, down its own side, to an edge out of the fragment.
use Rattle.std.proofs.Common.{◌≡◌, ℕ, zero, suc, ◌+◌, ◌<◌, ◌≤◌, max, Bool, true, false, ◌⊎◌, List, Some, None, Option, sym, refl, ap, ◌∙◌, subst, inl, inr, arith}
use native.Mathlib.Decide.{ℕ_discrete}
use Rattle.message.specs.declared.messages.Message.{Message}
use Rattle.graph.specs.declared.mark.Mark.TheVariants.{Branch}
use Rattle.graph.specs.Graph.{Graph, Edge, Weights}
use Rattle.protocol.proofs.Base.{Good}
use Rattle.protocol.proofs.Bests.{Bests}
use Rattle.protocol.proofs.Edges.{Edges}
use Rattle.protocol.proofs.Frame.{Lifted}
use Rattle.protocol.proofs.Ghost.{Ghost, View, view}
use Rattle.protocol.proofs.Mode.{tells, Child, Mode, free, offered, offers, crossing, took, taken, merged, ahead, behind, core, told, above, below, Sane}
use Rattle.protocol.proofs.Turn.{Best}

-- going up d times from z leads to x, each time from one that its own parent does not lead up to
abbrev pub Under : Ghost → ℕ → ℕ → ℕ → Type 0
Under γ x zero z = z ≡ x
Under γ x (suc d) z = (y : ℕ) × (((γ.own z).up ≡ Some y) × ((γ.own y).up ≡ Some z → ⊥) × Under γ x d y)

some_one : {w : Option ℕ} {a b : ℕ} → w ≡ Some a → w ≡ Some b → a ≡ b
some_one e f = grind arith

-- nobody hangs below both of two that lead up to each other
meet : (γ : Ghost) (a b d e z : ℕ) → (γ.own a).up ≡ Some b → (γ.own b).up ≡ Some a → (a ≡ b → ⊥) → Under γ a d z → Under γ b e z → ⊥
meet γ a b zero zero z u v n p q = n (sym p ∙ q)
meet γ a b zero (suc e) z u v n p (y, (k, f, q)) =
    let s : y ≡ b = some_one (subst (λ x. (γ.own x).up ≡ Some y) p k) u in
    f (subst (λ x. (γ.own y).up ≡ Some x) (sym p) (subst (λ x. (γ.own x).up ≡ Some a) (sym s) v))
meet γ a b (suc d) zero z u v n (y, (k, f, p)) q =
    let s : y ≡ a = some_one (subst (λ x. (γ.own x).up ≡ Some y) q k) v in
    f (subst (λ x. (γ.own y).up ≡ Some x) (sym q) (subst (λ x. (γ.own x).up ≡ Some b) (sym s) u))
meet γ a b (suc d) (suc e) z u v n (y, (k, f, p)) (x, (l, g, q)) = meet γ a b d e y u v n p (subst (λ o. Under γ b e o) (some_one l k) q)

-- B hangs below A, which does not lead up to it
hangs : {x y w : ℕ} {A B : View} {p q : List Message} → A.held.mark y ≡ Branch → (A.own.up ≡ Some y → ⊥) → Mode x y w A B p q → Child x y w A B p q
hangs m u (free v) = absurd (v.mark_a m)
hangs m u (offered v) = absurd (let o = v.mark_a in grind arith)
hangs m u (offers v) = absurd (u v.up_b)
hangs m u (crossing v) = absurd (u v.up_a)
hangs m u (took v) = absurd (u v.joint.up_a)
hangs m u (taken v) = absurd (u v.joint.up_b)
hangs m u (merged v) = absurd (u v.joint.up_a)
hangs m u (ahead v) = absurd (u v.joint.up_a)
hangs m u (behind v) = absurd (u v.joint.up_b)
hangs m u (core v) = absurd (u v.up_a)
hangs m u (tells v) = absurd (u v.up_a)
hangs m u (told v) = absurd (u v.up_b)
hangs m u (above v) = v
hangs m u (below v) = absurd (u v.up_b)

-- a node that is current, has not changed, and knows of an edge of weight v
pub record Knower (n : Lifted) (γ : Ghost) (v x : ℕ) : Type 0 where
  pub unchanged : (γ.own x).changed ≡ false
  pub current : (n.held x).level ≡ (γ.fragment (γ.own x).label).level
  pub best : (n.held x).best_weight ≡ Some v

-- below x is the node z where that edge leads out
record Tip (t : Graph) (γ : Ghost) (v a : ℕ) : Type 0 where
  z : ℕ
  out : ℕ
  depth : ℕ
  under : Under γ a depth z
  edge : Edge t z out
  weight : t.weight z out ≡ v
  label : (γ.own z).label ≡ (γ.own a).label
  differ : (γ.own z).label ≡ (γ.own out).label → ⊥

-- who has not changed leads up to its parent
pub up_parent_lem : {b : Bool} {u p : Option ℕ} {k : ℕ} → (b ≡ true) ⊎ (u ≡ p) → b ≡ false → u ≡ Some k → p ≡ Some k
up_parent_lem (inl e) f g = absurd (grind arith)
up_parent_lem (inr e) f g = sym e ∙ g

weight_one : {o : Option ℕ} {v w : ℕ} → o ≡ Some v → o ≡ Some w → w ≡ v
weight_one a b = grind arith

-- a bound above the values of all nodes
pub top : (g : ℕ → ℕ) (n : ℕ) → (b : ℕ) × ((i : ℕ) → i < n → g i < b)
top g zero = (0, λ i h. absurd (omega arith))
top g (suc n) = let r = top g n in (max (suc (g n)) r.0, λ i h. elim (ℕ_discrete i n) [ yes e ↦ rw e (omega arith) | no e ↦ omega (arith, r.1 i (omega arith)) ])

module _ (t : Graph) (weights : Weights t) (n : Lifted) (γ : Ghost) (G : Good t n) (sane : (a y : ℕ) → Edge t a y → Sane y (view n γ a)) (E : Edges t n γ) (K : Bests t n γ) where
  points : (w : Option ℕ) (x : ℕ) → (n.held x).best ≡ w → (v : ℕ) → (n.held x).best_weight ≡ Some v → (k : ℕ) × ((n.held x).best ≡ Some k)
  points None x e v b = absurd (let l = (G.helds x x x).long e in grind arith)
  points (Some k) x e v b = (k, e)

  module _ (a v most : ℕ) (under_top : (x : ℕ) → x < t.count → (γ.own x).rank < most) where
    step : (f d x y : ℕ) → most ≤ (γ.own x).rank + suc f → Under γ a d x → (γ.own x).label ≡ (γ.own a).label → Knower n γ v x → (n.held x).best ≡ Some y →
        ((d y : ℕ) → most ≤ (γ.own y).rank + f → Under γ a d y → (γ.own y).label ≡ (γ.own a).label → Knower n γ v y → Tip t γ v a) → Tip t γ v a
    step f d x y h u l k b ih =
        elim best.mark [
          | inl m ↦ (let o = best.out m in record { z = x; out = y; depth = d; under = u; edge = edge; weight = weight_one k.best o.0; label = l; differ = o.1 })
          | inr m ↦ deep m
        ]
      where
        edge : Edge t x y
        edge = (G.helds x y y).best b

        best : Best x y (t.weight x y) (view n γ x) (view n γ y)
        best = K.leads x y edge k.unchanged k.current b

        deep : (n.held x).mark y ≡ Branch → Tip t γ v a
        deep m =
            let o = best.on m in
            let s = sane x y edge in
            let away : (γ.own x).up ≡ Some y → ⊥ = λ e. best.parent (up_parent_lem s.up_parent k.unchanged e) in
            let c = hangs m away (E x y edge) in
            let r = c.rank in
            ih (suc d) y (omega arith) (x, (c.up_b, away, u)) (sym c.same ∙ l)
            (record { unchanged = o.2; current = o.3 ∙ k.current ∙ ap (λ z. (γ.fragment z).level) c.same; best = o.5 ∙ k.best })

    tip : (f d x : ℕ) → most ≤ (γ.own x).rank + f → Under γ a d x → (γ.own x).label ≡ (γ.own a).label → Knower n γ v x → Tip t γ v a
    tip zero d x h u l k = let p = points (n.held x).best x refl v k.best in absurd (let e = under_top x ((G.helds x p.0 p.0).best p.1).0 in omega arith)
    tip (suc f) d x h u l k = let p = points (n.held x).best x refl v k.best in step f d x p.0 h u l k p.1 (λ e y g w m o. tip f e y g w m o)

  tip_of : (a v : ℕ) → Knower n γ v a → Tip t γ v a
  tip_of a v k = let b = top (λ x. (γ.own x).rank) t.count in tip a v b.0 b.1 b.0 0 a (omega arith) refl refl k

  -- two of one fragment that lead up to each other do not know of edges of one weight
  pub ends_differ : (a b v : ℕ) → (a ≡ b → ⊥) → (γ.own a).up ≡ Some b → (γ.own b).up ≡ Some a → (γ.own a).label ≡ (γ.own b).label → Knower n γ v a → Knower n γ v b → ⊥
  ends_differ a b v ne ua ub same ka kb = go (tip_of a v ka) (tip_of b v kb)
    where
      go : Tip t γ v a → Tip t γ v b → ⊥
      go p q = elim (weights.differ p.z p.out q.z q.out p.edge q.edge (p.weight ∙ sym q.weight)) [
        | inl e ↦ meet γ a b p.depth q.depth p.z ua ub ne p.under (subst (λ o. Under γ b q.depth o) (sym e.0) q.under)
        | inr e ↦ p.differ (p.label ∙ same ∙ sym q.label ∙ sym (ap (λ o. (γ.own o).label) e.1))
      ]
