-- The lines of a text, one after the other.
use Rattle.std.proofs.Common.{◌≡◌, ℕ, suc, ◌+◌, ◌≤◌, Bool, true, false, cond, not, eqb, List, [], ◌∷◌, length, take, drop, refl, one-add, arith}
use Rattle.graph.specs.Text.{front, is_inline, line_of, after_line, lines_of, on_line}

-- one byte in front of a text, whose first line has n bytes
one_more_lem : (b n : ℕ) (ls : List (List ℕ)) (cs : List ℕ) → ls ≡ take n cs ∷ lines_of (drop 1 (drop n cs)) → (t : Bool) → eqb b 10 ≡ t →
    cond t ([] ∷ lines_of cs) (on_line b ls) ≡ take (cond (not t) (1 + n) 0) (b ∷ cs) ∷ lines_of (drop 1 (drop (cond (not t) (1 + n) 0) (b ∷ cs)))
one_more_lem b n ls cs p true e = refl
one_more_lem b n ls cs p false e = rw (p, one-add)

-- a text that goes on: its first line and the lines behind it
lines_first : (b : ℕ) (bs : List ℕ) → lines_of (b ∷ bs) ≡ line_of (b ∷ bs) ∷ lines_of (after_line (b ∷ bs))
unfolding lines_of
lines_first b [] = alone (eqb b 10) refl
  where
    alone : (t : Bool) → eqb b 10 ≡ t → cond t ([] ∷ []) ((b ∷ []) ∷ []) ≡ take (cond (not t) (1 + 0) 0) (b ∷ []) ∷ lines_of (drop 1 (drop (cond (not t) (1 + 0) 0) (b ∷ [])))
    alone true e = refl
    alone false e = refl
lines_first b (d ∷ ds) = one_more_lem b (front is_inline (d ∷ ds)) (lines_of (d ∷ ds)) (d ∷ ds) (lines_first d ds) (eqb b 10) refl

-- Of a text that is not at its end the first line comes first, and then the lines of what is behind it.
pub lines_more : (bs : List ℕ) → false ≡ eqb (length bs) 0 → lines_of bs ≡ line_of bs ∷ lines_of (after_line bs)
lines_more [] h = absurd (grind arith)
lines_more (b ∷ bs) h = lines_first b bs

pub lines_none : (bs : List ℕ) → true ≡ eqb (length bs) 0 → lines_of bs ≡ []
unfolding lines_of
lines_none [] h = refl
lines_none (b ∷ bs) h = absurd (grind arith)

-- there are no more lines than bytes
pub lines_few : (bs : List ℕ) → length (lines_of bs) ≤ length bs
unfolding lines_of
lines_few [] = omega arith
lines_few (b ∷ bs) = by (eqb b 10) (lines_of bs) (lines_few bs)
  where
    by : (t : Bool) (ls : List (List ℕ)) → length ls ≤ length bs → length (cond t ([] ∷ ls) (on_line b ls)) ≤ suc (length bs)
    by true ls h = omega (arith, h)
    by false [] h = omega arith
    by false (l ∷ ls) h = omega (arith, h)
