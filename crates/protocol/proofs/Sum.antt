-- Sums over nodes, and over pairs of them.
use Rattle.std.proofs.Common.{◌≡◌, ℕ, zero, suc, ◌+◌, ◌<◌, ◌≤◌, cond, eqb, sym, refl, inl, inr, arith}
use Rattle.std.proofs.lemmas.Bool.Decides.{eqb_tells}

unfoldable pub sum : (ℕ → ℕ) → ℕ → ℕ
sum f zero = 0
sum f (suc n) = f n + sum f n

-- what rises by p and falls by q at each place does so on the whole
pub sum_le : (f p g q : ℕ → ℕ) (n : ℕ) → ((k : ℕ) → k < n → f k + p k ≤ g k + q k) → sum f n + sum p n ≤ sum g n + sum q n
unfolding sum
sum_le f p g q zero h = omega arith
sum_le f p g q (suc n) h = let ih = sum_le f p g q n (λ k l. h k (omega arith)) in let e = h n (omega arith) in omega arith

pub sum_zero : (f : ℕ → ℕ) (n : ℕ) → ((k : ℕ) → k < n → f k ≡ 0) → sum f n ≡ 0
unfolding sum
sum_zero f zero h = refl
sum_zero f (suc n) h = let ih = sum_zero f n (λ k l. h k (omega arith)) in let e = h n (omega arith) in omega arith

abbrev pub at : ℕ → ℕ → ℕ → ℕ
at j c k = cond (eqb k j) c 0

sum_past : (j c n : ℕ) → n ≤ j → sum (at j c) n ≡ 0
sum_past j c n l = sum_zero (at j c) n (λ k m. grind arith)

-- c at j alone
pub sum_one : (j c n : ℕ) → j < n → sum (at j c) n ≡ c
unfolding sum
sum_one j c zero l = absurd (omega arith)
sum_one j c (suc n) l = elim (eqb_tells n j) [ inl u ↦ let e = sum_past j c n (omega arith) in grind arith | inr u ↦ let ih = sum_one j c n (omega arith) in grind arith ]

pub sum_same : (f g : ℕ → ℕ) (n : ℕ) → ((k : ℕ) → k < n → f k ≡ g k) → sum f n ≡ sum g n
unfolding sum
sum_same f g zero h = refl
sum_same f g (suc n) h = let ih = sum_same f g n (λ k l. h k (omega arith)) in let e = h n (omega arith) in omega arith

pub sum_add : (f g : ℕ → ℕ) (n : ℕ) → sum (λ k. f k + g k) n ≡ sum f n + sum g n
unfolding sum
sum_add f g zero = refl
sum_add f g (suc n) = let ih = sum_add f g n in omega arith

-- only one place counts
pub sum_only : (f : ℕ → ℕ) (u c n : ℕ) → u < n → f u ≤ c → ((k : ℕ) → k < n → (k ≡ u → ⊥) → f k ≡ 0) → sum f n ≤ c
sum_only f u c n l a h =
    let e = sum_le f (λ k. 0) (at u c) (λ k. 0) n (λ k m. elim (eqb_tells k u) [ inl v ↦ let z : f k ≤ c = rw v.1 a in grind arith | inr v ↦ let z = h k m v.1 in grind arith ]) in
    let o = sum_one u c n l in let z = sum_zero (λ k. 0) n (λ k m. refl) in omega arith

-- by rows and by columns
pub sum_swap : (f : ℕ → ℕ → ℕ) (n m : ℕ) → sum (λ a. sum (f a) m) n ≡ sum (λ b. sum (λ a. f a b) n) m
unfolding sum
sum_swap f zero m = sym (sum_zero (λ b. 0) m (λ k l. refl))
sum_swap f (suc n) m = let ih = sum_swap f n m in let e = sum_add (f n) (λ b. sum (λ a. f a b) n) m in omega arith

-- pairs: each two counted once
unfoldable pub pairs : (ℕ → ℕ → ℕ) → ℕ → ℕ
pairs e zero = 0
pairs e (suc n) = sum (e n) n + pairs e n

pub square : (e : ℕ → ℕ → ℕ) (n : ℕ) → ((a : ℕ) → e a a ≡ 0) → sum (λ a. sum (e a) n) n ≡ pairs (λ a b. e a b + e b a) n
unfolding sum pairs
square e zero d = refl
square e (suc n) d =
    let ih = square e n d in let z = d n in
    let a = sum_add (λ a. e a n) (λ a. sum (e a) n) n in let b = sum_add (e n) (λ b. e b n) n in omega arith

pub pairs_le : (f g : ℕ → ℕ → ℕ) (n : ℕ) → ((a b : ℕ) → a < n → b < n → f a b ≤ g a b) → pairs f n ≤ pairs g n
unfolding pairs
pairs_le f g zero h = omega arith
pairs_le f g (suc n) h =
    let ih = pairs_le f g n (λ a b l m. h a b (omega arith) (omega arith)) in
    let e = sum_le (f n) (λ k. 0) (g n) (λ k. 0) n (λ k l. let o = h n k (omega arith) (omega arith) in omega arith) in omega arith
