-- Hexadecimal text: lower case, two digits a byte.
use Rattle.std.specs.Prelude.{◌≡◌, ℕ, ◌+◌, ◌-◌, ◌*◌, ◌/◌, ◌%◌, ◌<◌, cond, ◌&&◌, List, [], ◌∷◌, Some, None, Option, nat_le, nat_lt}
use Rattle.std.specs.List.{flat_map}
use Rattle.housebox.specs.Both.{both}

-- 0 to 9, then a to f
abbrev pub digit_of : ℕ → ℕ
digit_of n = cond (nat_lt n 10) (48 + n) (87 + n)

-- the high digit of a byte goes first
abbrev pub digits_of : ℕ → List ℕ
digits_of b = digit_of (b / 16) ∷ digit_of (b % 16) ∷ []

-- the text of some bytes
abbrev pub hex_of : List ℕ → List ℕ
hex_of bs = flat_map digits_of bs

-- what a digit stands for
abbrev pub value_of : ℕ → Option ℕ
value_of d = cond (nat_le 48 d && nat_le d 57) (Some (d - 48)) (cond (nat_le 97 d && nat_le d 102) (Some (d - 87)) None)

-- the byte of two digits
abbrev pub byte_of : ℕ → ℕ → Option ℕ
byte_of high low = both (λ h l. 16 * h + l) (value_of high) (value_of low)

-- the byte of just two digits
abbrev pub pair_of : List ℕ → Option ℕ
pair_of [] = None
pair_of (a ∷ []) = None
pair_of (a ∷ b ∷ []) = byte_of a b
pair_of (a ∷ b ∷ c ∷ rest) = None

-- the bytes of a text, if it has whole bytes and nothing else
unfoldable pub bytes_of : List ℕ → Option (List ℕ)
bytes_of [] = Some []
bytes_of (a ∷ []) = None
bytes_of (a ∷ b ∷ rest) = both (λ x xs. x ∷ xs) (byte_of a b) (bytes_of rest)

-- each is a byte
unfoldable pub Bytes : List ℕ → Type 0
Bytes [] = Unit {0}
Bytes (b ∷ bs) = (b < 256) × Bytes bs

-- what is encoded is decoded to itself
abbrev pub HexReturns : Type 0
HexReturns = (bs : List ℕ) → Bytes bs → bytes_of (hex_of bs) ≡ Some bs

-- what is decoded is the text of what comes of it
abbrev pub HexOnly : Type 0
HexOnly = (text bs : List ℕ) → bytes_of text ≡ Some bs → text ≡ hex_of bs
