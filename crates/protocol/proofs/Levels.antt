-- Levels are low: a fragment of level l has two to the power l nodes, and all of them can be joined.
use Rattle.std.proofs.Common.{◌≡◌, ℕ, zero, suc, ◌+◌, ◌^◌, ◌<◌, ◌≤◌, max, Bool, true, false, cond, eqb, ◌⊎◌, sym, inl, inr, arith}
use Rattle.std.proofs.lemmas.Bool.Decides.{eqb_tells}
use Rattle.graph.proofs.Paths.{joined_more}
use Rattle.graph.specs.Graph.{Graph, Joined}
use Rattle.protocol.proofs.Frame.{Lifted}
use Rattle.protocol.proofs.Ghost.{Ghost}
use Rattle.protocol.proofs.Inside.{Inside, itself, via, Insides}
use Rattle.protocol.proofs.Sizes.{is, Sizes}
use Rattle.protocol.proofs.Sum.{sum}
use Rattle.protocol.specs.Theorems.{members}
use Rattle.protocol.specs.Theorems.{members}

-- what is counted with weight 1 is no more than a set that holds it
size_members : (γ : Ghost) (l : ℕ) (C : ℕ → Bool) (c : ℕ) → ((x : ℕ) → x < c → (γ.own x).label ≡ l → C x ≡ true) → sum (λ a. is l (γ.own a).label) c ≤ members C c
unfolding sum members
size_members γ l C zero h = omega arith
size_members γ l C (suc c) h = let ih = size_members γ l C c (λ x q. h x (omega arith)) in one (eqb_tells (γ.own c).label l) ih
  where
    one : {a b : ℕ} → ((eqb (γ.own c).label l ≡ true) × ((γ.own c).label ≡ l)) ⊎ ((eqb (γ.own c).label l ≡ false) × ((γ.own c).label ≡ l → ⊥)) → a ≤ b → is l (γ.own c).label + a ≤ cond (C c) 1 0 + b
    one (inl u) e = let z = h c (omega arith) u.1 in rw (u.0, z) (omega arith)
    one (inr u) e = rw u.0 (omega arith)

-- nodes of one fragment can be joined
inside_joined : {t : Graph} {n : Lifted} {γ : Ghost} {a b : ℕ} → Inside t n γ a b → (u : ℕ) × Joined t u a b
inside_joined itself = (0, Joined.here)
inside_joined {t} (via {a} b e p) = let r = inside_joined p in (max (suc (t.weight a b)) r.0, Joined.over b e.edge (omega arith) (joined_more t (omega arith) r.1))

pub fragment_small : {t : Graph} {n : Lifted} {γ : Ghost} → Insides t n γ → Sizes t γ → (i : ℕ) → i < t.count → (C : ℕ → Bool) → ((x u : ℕ) → Joined t u i x → C x ≡ true) →
    2 ^ (γ.fragment (γ.own i).label).level ≤ members C t.count
fragment_small {t} {n} {γ} J S i lt C h =
    let z = size_members γ (γ.own i).label C t.count (λ x q e. let r = inside_joined (J i x lt q (sym e)) in h x r.0 r.1) in
    let y = S i lt in
    omega arith
