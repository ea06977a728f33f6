-- Bytes and their digits, one byte after the other.
use Rattle.std.proofs.Common.{◌≡◌, ℕ, zero, suc, ◌+◌, ◌*◌, ◌/◌, ◌%◌, ◌<◌, min, ◌==◌, Bool, true, ◌&&◌, inl, inr, List, [], ◌∷◌, ◌++◌, length, get_or, Some, None, Option, sym, refl, ap, ◌∙◌, arith}
use Rattle.std.proofs.lemmas.Bool.{and_parts, cases_lt, eqb-true}
use Rattle.hex.specs.Hex.{encode_lower, encode_with, lower_digits}
use Rattle.housebox.specs.Both.{both}
use Rattle.housebox.specs.Hex.{digit_of, digits_of, hex_of, value_of, byte_of, pair_of, bytes_of, Bytes, HexReturns, HexOnly}

-- ENCODING: the sixteen digits are those of the kit's crate
same_digits : ℕ → Bool
same_digits zero = true
same_digits (suc n) = (get_or lower_digits n 0 == digit_of n) && same_digits n

same_below : (n k : ℕ) → same_digits n ≡ true → k < n → get_or lower_digits k 0 ≡ digit_of k
unfolding same_digits
same_below zero k h lt = absurd (omega arith)
same_below (suc n) k h lt =
    let parts = and_parts (get_or lower_digits n 0 == digit_of n) (same_digits n) h in
    elim (cases_lt k n) [
      | inl below ↦ same_below n k parts.1 below
      | inr top ↦ (let e : k ≡ n = omega arith in rw e (eqb-true (get_or lower_digits n 0) (digit_of n) parts.0))
    ]

same_digit : (k : ℕ) → k < 16 → get_or lower_digits k 0 ≡ digit_of k
unfolding same_digits
same_digit k h = same_below 16 k refl h

pub lower_hex : (bs : List ℕ) → ((k : ℕ) → k < length bs → get_or bs k 0 < 256) → encode_lower bs ≡ hex_of bs
unfolding encode_with
lower_hex [] h = refl
lower_hex (b ∷ bs) h =
    let byte : b < 256 = h 0 (omega arith) in
    let high : b / 16 < 16 = omega arith in
    let low : b % 16 < 16 = omega arith in
    rw (same_digit (b / 16) high, same_digit (b % 16) low, lower_hex bs (λ k lt. h (suc k) (omega arith))) refl

-- DECODING: the next two digits, or the last one
two_digits : (ds rest : List ℕ) → length ds ≡ min 2 (length (ds ++ rest)) → 0 < length (ds ++ rest) → bytes_of (ds ++ rest) ≡ both (λ x xs. x ∷ xs) (pair_of ds) (bytes_of rest)
unfolding bytes_of
two_digits [] rest e h = absurd (omega arith)
two_digits (a ∷ []) [] e h = refl
two_digits (a ∷ []) (b ∷ rest) e h = absurd (omega arith)
two_digits (a ∷ b ∷ []) rest e h = refl
two_digits (a ∷ b ∷ c ∷ ds) rest e h = absurd (omega arith)

pub next_digits : (before ds rest : List ℕ) → before ≡ ds ++ rest → length ds ≡ min 2 (length before) → 0 < length before → bytes_of before ≡ both (λ x xs. x ∷ xs) (pair_of ds) (bytes_of rest)
next_digits before ds rest s e h = rw s (two_digits ds rest (rw s at e) (rw s at h))

pub no_digits : (rest : List ℕ) → length rest ≡ 0 → bytes_of rest ≡ Some []
unfolding bytes_of
no_digits [] h = refl
no_digits (a ∷ rest) h = absurd (omega arith)

-- THE LAWS
value_digit : (n : ℕ) → n < 16 → value_of (digit_of n) ≡ Some n
value_digit n h = grind arith

byte_digits : (b : ℕ) → b < 256 → byte_of (digit_of (b / 16)) (digit_of (b % 16)) ≡ Some b
byte_digits b h =
    let high : b / 16 < 16 = omega arith in
    let low : b % 16 < 16 = omega arith in
    let whole : 16 * (b / 16) + b % 16 ≡ b = omega arith in
    rw (value_digit (b / 16) high, value_digit (b % 16) low) (ap (λ n. Some n) whole)

pub returns_all : HexReturns
unfolding bytes_of Bytes
returns_all [] h = refl
returns_all (b ∷ bs) h = rw (byte_digits b h.0, returns_all bs h.1) refl

digit_value : (d n : ℕ) → value_of d ≡ Some n → (d ≡ digit_of n) × (n < 16)
digit_value d n e = grind arith

digits_both : (a b n : ℕ) (o p : Option ℕ) → value_of a ≡ o → value_of b ≡ p → both (λ h l. 16 * h + l) o p ≡ Some n → digits_of n ≡ a ∷ b ∷ []
digits_both a b n None p e f g = cc
digits_both a b n (Some h) None e f g = cc
digits_both a b n (Some h) (Some l) e f g =
    let high = digit_value a h e in
    let low = digit_value b l f in
    let whole : 16 * h + l ≡ n = cc in
    let q : n / 16 ≡ h = omega arith in
    let r : n % 16 ≡ l = omega arith in
    rw (q, r, high.0, low.0) refl

only_more : (o : Option ℕ) (p : Option (List ℕ)) (a b : ℕ) (rest bs : List ℕ) → byte_of a b ≡ o → ((ys : List ℕ) → p ≡ Some ys → rest ≡ hex_of ys) → both (λ x xs. x ∷ xs) o p ≡ Some bs → a ∷ b ∷ rest ≡ hex_of bs
only_more None p a b rest bs e ih g = cc
only_more (Some n) None a b rest bs e ih g = cc
only_more (Some n) (Some ys) a b rest bs e ih g =
    let whole : n ∷ ys ≡ bs = cc in
    let digits = digits_both a b n (value_of a) (value_of b) refl refl e in
    ap (λ z. a ∷ b ∷ z) (ih ys refl) ∙ (ap (λ z. z ++ hex_of ys) (sym digits) ∙ ap (λ z. hex_of z) whole)

pub only_all : HexOnly
unfolding bytes_of
only_all [] bs e = let n : [] ≡ bs = cc in ap (λ z. hex_of z) n
only_all (a ∷ []) bs e = cc
only_all (a ∷ b ∷ rest) bs e = only_more (byte_of a b) (bytes_of rest) a b rest bs refl (only_all rest) e
