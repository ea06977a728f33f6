-- Lines, words and numbers of a text of bytes.
use Rattle.std.specs.Prelude.{ℕ, ◌+◌, ◌-◌, ◌*◌, min, Bool, cond, not, ◌&&◌, ◌||◌, List, [], ◌∷◌, length, take, drop, Some, None, Option, ◌==◌, nat_le}
use Rattle.std.specs.List.{prefix_len}

-- a space, a tab or a carriage return
abbrev pub is_blank : ℕ → Bool
is_blank b = b == 32 || (b == 9 || b == 13)

-- a byte of a word
abbrev pub is_solid : ℕ → Bool
is_solid b = not (is_blank b)

-- a byte within a line
abbrev pub is_inline : ℕ → Bool
is_inline b = not (b == 10)

-- how many bytes at the front pass a test
abbrev pub front : (ℕ → Bool) → List ℕ → ℕ
front test bs = prefix_len test bs

-- the first line of a text, and what is behind it
abbrev pub line_of : List ℕ → List ℕ
line_of bs = take (front is_inline bs) bs

abbrev pub after_line : List ℕ → List ℕ
after_line bs = drop 1 (drop (front is_inline bs) bs)

abbrev pub after_blanks : List ℕ → List ℕ
after_blanks bs = drop (front is_blank bs) bs

-- the first word of a line, and what is behind it
abbrev pub word_of : List ℕ → List ℕ
word_of bs = take (front is_solid (after_blanks bs)) (after_blanks bs)

abbrev pub after_word : List ℕ → List ℕ
after_word bs = drop (front is_solid (after_blanks bs)) (after_blanks bs)

-- a number by its digits, after a value; one beyond 32 bits counts as the largest
unfoldable pub decimal : ℕ → List ℕ → Option ℕ
decimal v [] = Some v
decimal v (b ∷ bs) = cond (nat_le 48 b && nat_le b 57) (decimal (min (v * 10 + (b - 48)) 4294967295) bs) None

-- a word of digits as a number
abbrev pub number_of : List ℕ → Option ℕ
number_of w = cond (length w == 0) None (decimal 0 w)

-- the lines of a text
abbrev pub on_line : ℕ → List (List ℕ) → List (List ℕ)
on_line b [] = (b ∷ []) ∷ []
on_line b (l ∷ ls) = (b ∷ l) ∷ ls

unfoldable pub lines_of : List ℕ → List (List ℕ)
lines_of [] = []
lines_of (b ∷ bs) = cond (b == 10) ([] ∷ lines_of bs) (on_line b (lines_of bs))
