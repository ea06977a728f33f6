-- What a node sends from its places, as its neighbours get it; and how much that is.
use Rattle.std.proofs.Common.{◌≡◌, ℕ, zero, suc, ◌+◌, ◌<◌, ◌≤◌, true, false, cond, eqb, ◌⊎◌, List, [], ◌∷◌, length, get_or, None, sym, refl, ap, ◌∙◌, inl, inr, append-nil, arith, length-append}
use Rattle.std.proofs.lemmas.Bool.Decides.{eqb_tells}
use Rattle.node.specs.Rules.{Sends}
use Rattle.node.specs.Laws.{sent_over}
use Rattle.protocol.proofs.Held.{Send}
use Rattle.protocol.proofs.Lift.{Once, once_rest, once_head}
use Rattle.protocol.proofs.Outs.{out_to}
use Rattle.protocol.proofs.Sum.{sum, sum_zero, at, sum_one, sum_same, sum_add}
use Rattle.protocol.specs.Net.{given, over, messages}

-- who has no place gets nothing
pub over_none : (near : List ℕ) (s : Sends) (b : ℕ) → ((k : ℕ) → k < length near → get_or near k 0 ≡ b → ⊥) → over near s b ≡ []
over_none [] s b h = refl
over_none (a ∷ near) [] b h = refl
over_none (a ∷ near) (x ∷ s) b h =
    let d = h 0 (omega arith) in
    let f : eqb a b ≡ false = grind arith in
    rw f (over_none near s b (λ k p e. h (suc k) (omega arith) e))

-- the neighbour at a place gets what was sent there
pub over_at : (near : List ℕ) (s : Sends) (k : ℕ) → Once near → k < length near → over near s (get_or near k 0) ≡ given (sent_over s k)
over_at [] s k o p = absurd (omega arith)
over_at (a ∷ near) [] k o p = refl
over_at (a ∷ near) (x ∷ s) zero o p =
    let e : eqb a a ≡ true = grind arith in
    let z : over near s a ≡ [] = over_none near s a (λ k q h. once_head a near o k q (sym h)) in
    rw (e, z, append-nil)
over_at (a ∷ near) (x ∷ s) (suc k) o p =
    let h = once_head a near o k (omega arith) in
    let f : eqb a (get_or near k 0) ≡ false = grind arith in
    rw f (over_at near s k (once_rest a near o) (omega arith))

-- a neighbour has a place, or none
pub place : (near : List ℕ) (b : ℕ) → ((k : ℕ) × (k < length near) × (get_or near k 0 ≡ b)) ⊎ ((k : ℕ) → k < length near → get_or near k 0 ≡ b → ⊥)
place [] b = inr (λ k p e. omega arith)
place (a ∷ near) b = elim (eqb_tells a b) [
  | inl u ↦ inl (0, omega arith, u.1)
  | inr u ↦ elim (place near b) [ inl v ↦ inl (suc v.0, omega (arith, v.1), v.2) | inr v ↦ inr (λ k. later u v k) ]
]
  where
    later : (eqb a b ≡ false) × (a ≡ b → ⊥) → ((k : ℕ) → k < length near → get_or near k 0 ≡ b → ⊥) → (k : ℕ) → k < length (a ∷ near) → get_or (a ∷ near) k 0 ≡ b → ⊥
    later u v zero p e = u.1 e
    later u v (suc k) p e = v k (omega arith) e

-- nothing is sent from a place beyond the neighbours
abbrev pub Inside : List ℕ → Sends → Type 0
Inside near s = (k : ℕ) → length near ≤ k → sent_over s k ≡ None

messages_none : (s : Sends) → ((k : ℕ) → sent_over s k ≡ None) → messages s ≡ 0
messages_none [] h = refl
messages_none (x ∷ s) h = let z : x ≡ None = h 0 in let ih = messages_none s (λ k. h (suc k)) in rw z (omega arith)

-- all that the neighbours get is all that is sent
pub over_sum : (near : List ℕ) (s : Sends) (c : ℕ) → ((k : ℕ) → k < length near → get_or near k 0 < c) → Inside near s → sum (λ b. length (over near s b)) c ≡ messages s
over_sum [] s c h i = sum_zero (λ b. 0) c (λ k l. refl) ∙ sym (messages_none s (λ k. i k (omega arith)))
over_sum (a ∷ near) [] c h i = sum_zero (λ b. 0) c (λ k l. refl)
over_sum (a ∷ near) (x ∷ s) c h i =
    let ih = over_sum near s c (λ k p. h (suc k) (omega arith)) (λ k p. i (suc k) (omega arith)) in
    let one = sum_one a (length (given x)) c (h 0 (omega arith)) in
    let both = sum_add (at a (length (given x))) (λ b. length (over near s b)) c in
    let same = sum_same (λ b. length (over (a ∷ near) (x ∷ s) b)) (λ b. at a (length (given x)) b + length (over near s b)) c (λ b l. split b) in
    omega arith
  where
    split : (b : ℕ) → length (over (a ∷ near) (x ∷ s) b) ≡ at a (length (given x)) b + length (over near s b)
    split b = length-append (cond (eqb a b) (given x) []) (over near s b) ∙ ap (λ n. n + length (over near s b)) (pick (eqb_tells a b))
      where
        pick : ((eqb a b ≡ true) × (a ≡ b)) ⊎ ((eqb a b ≡ false) × (a ≡ b → ⊥)) → length (cond (eqb a b) (given x) []) ≡ at a (length (given x)) b
        pick (inl u) = let e : eqb b a ≡ true = grind arith in rw (u.0, e)
        pick (inr u) = let e : eqb b a ≡ false = grind arith in rw (u.0, e)

-- a list of sends, all to neighbours below c, is as long as what it puts on their edges
abbrev pub Below : ℕ → List Send → Type 0
Below c [] = Unit {0}
Below c (o ∷ os) = (o.over < c) × Below c os

pub outs_sum : (os : List Send) (c : ℕ) → Below c os → sum (λ b. length (out_to b os)) c ≡ length os
outs_sum [] c h = sum_zero (λ b. 0) c (λ k l. refl)
outs_sum (o ∷ os) c h =
    let ih = outs_sum os c h.1 in
    let one = sum_one o.over 1 c h.0 in
    let both = sum_add (at o.over 1) (λ b. length (out_to b os)) c in
    let same = sum_same (λ b. length (out_to b (o ∷ os))) (λ b. at o.over 1 b + length (out_to b os)) c (λ b l. pick b (eqb_tells o.over b)) in
    omega arith
  where
    pick : (b : ℕ) → ((eqb o.over b ≡ true) × (o.over ≡ b)) ⊎ ((eqb o.over b ≡ false) × (o.over ≡ b → ⊥)) → length (out_to b (o ∷ os)) ≡ at o.over 1 b + length (out_to b os)
    pick b (inl u) = let e : eqb b o.over ≡ true = grind arith in rw (u.0, e) (omega arith)
    pick b (inr u) = let e : eqb b o.over ≡ false = grind arith in rw (u.0, e) (omega arith)

-- so where each neighbour gets the same the number is the same
pub outs_count : (near : List ℕ) (s : Sends) (os : List Send) (c : ℕ) → ((k : ℕ) → k < length near → get_or near k 0 < c) → Inside near s → Below c os → ((b : ℕ) → out_to b os ≡ over near s b) → length os ≡ messages s
outs_count near s os c h i l e =
    sym (outs_sum os c l) ∙ sum_same (λ b. length (out_to b os)) (λ b. length (over near s b)) c (λ b k. ap length (e b)) ∙ over_sum near s c h i
