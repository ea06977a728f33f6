-- A best edge that leads out goes on to lead out.
use Rattle.std.proofs.Common.{◌≡◌, ℕ, ◌<◌, ◌≤◌, false, eqb, Some, inl, inr, arith}
use Rattle.std.proofs.lemmas.Bool.Decides.{eqb_tells}
use Rattle.graph.specs.declared.mark.Mark.TheVariants.{Basic}
use Rattle.protocol.proofs.Else.{Labels}
use Rattle.protocol.proofs.Ghost.{View, absorb, merge, follow}
use Rattle.protocol.proofs.Mode.{Sane}
use Rattle.protocol.proofs.Turn.{Best}

abbrev pub Leads : ℕ → ℕ → ℕ → View → View → Type 0
Leads x y w A B = A.own.changed ≡ false → A.held.level ≡ A.fragment.level → A.held.best ≡ Some y → Best x y w A B

pub leads_absorb : {x y w : ℕ} {A B : View} (C J : View) → Labels A B C J → Sane y A → Sane x B → C.held.level ≤ C.fragment.level → J.held.level < C.held.level → J.held.level ≡ J.fragment.level → Leads x y w A B → Leads x y w (follow absorb C J A) (follow absorb C J B)
leads_absorb {x} {y} {w} {A} {B} C J n sa sb c l k v p q r = elim (eqb_tells A.own.label J.own.label) [ inl t ↦ absurd (let o : A.fragment ≡ J.fragment = n.aj t.1 in grind arith) | inr t ↦ (same t).0 ]
  where
    same : (eqb A.own.label J.own.label ≡ false) × (A.own.label ≡ J.own.label → ⊥) → Best x y w (follow absorb C J A) (follow absorb C J B) × Unit {0}
    same t = let cu : A.held.level ≡ A.fragment.level = grind arith in let b = v p cu r in
        (record { mark = b.mark; parent = b.parent; out = λ u. ((b.out u).0, apart b cu u, (b.out u).2); on = b.on }, tt)
      where
        apart : Best x y w A B → A.held.level ≡ A.fragment.level → A.held.mark y ≡ Basic → (follow absorb C J A).own.label ≡ (follow absorb C J B).own.label → ⊥
        apart b cu u h = let o = b.out u in elim (eqb_tells B.own.label J.own.label) [ inl z ↦ let f : B.fragment ≡ J.fragment = n.bj z.1 in let g : A.own.label ≡ C.own.label = grind arith in let i : A.fragment ≡ C.fragment = n.ac g in grind arith | inr z ↦ grind arith ]

pub leads_merge : {x y w : ℕ} (z : ℕ) {A B : View} (C J : View) → Labels A B C J → Sane y A → Sane x B → C.held.level ≡ C.fragment.level → J.held.level ≡ C.held.level → J.held.level ≡ J.fragment.level → (C.own.label ≡ J.own.label → ⊥) → Leads x y w A B → Leads x y w (follow (merge z) C J A) (follow (merge z) C J B)
leads_merge {x} {y} {w} z {A} {B} C J n sa sb c l k d v p q r = elim (eqb_tells A.own.label J.own.label) [ inl t ↦ absurd (let o : A.fragment ≡ J.fragment = n.aj t.1 in grind arith) | inr t ↦ elim (eqb_tells A.own.label C.own.label) [ inl s ↦ absurd (let o : A.fragment ≡ C.fragment = n.ac s.1 in grind arith) | inr s ↦ same t s ] ]
  where
    same : (eqb A.own.label J.own.label ≡ false) × (A.own.label ≡ J.own.label → ⊥) → (eqb A.own.label C.own.label ≡ false) × (A.own.label ≡ C.own.label → ⊥) → Best x y w (follow (merge z) C J A) (follow (merge z) C J B)
    same t s = let cu : A.held.level ≡ A.fragment.level = grind arith in let b = v p cu r in
        record { mark = b.mark; parent = b.parent; out = λ u. ((b.out u).0, (λ h. let o = b.out u in grind arith), (b.out u).2); on = b.on }
