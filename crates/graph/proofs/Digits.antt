-- One digit of a number after the other.
use Rattle.std.proofs.Common.{◌≡◌, ℕ, ◌+◌, ◌-◌, ◌*◌, ◌<◌, ◌≤◌, min, true, false, cond, ◌&&◌, eqb, leb, List, length, get_or, drop, Some, None, Option, sym, ◌∙◌, arith}
use Rattle.std.proofs.lemmas.List.{at_drop_more, at_drop_all}
use Rattle.std.specs.Char.{is_ascii_digit}
use Rattle.graph.specs.Text.{decimal, number_of}

module _ (w : List ℕ) (i v : ℕ) where
  step : i < length w → decimal v (drop i w) ≡ cond (leb 48 (get_or w i 0) && leb (get_or w i 0) 57) (decimal (min (v * 10 + (get_or w i 0 - 48)) 4294967295) (drop (i + 1) w)) None
  unfolding decimal
  step h = at_drop_more (decimal v) w i 0 h

  pub no_digit : i < length w → false ≡ is_ascii_digit (get_or w i 0) → decimal v (drop i w) ≡ None
  no_digit h l = step h ∙ grind arith

  pub one_digit : (n : ℕ) → i < length w → true ≡ is_ascii_digit (get_or w i 0) → n ≡ min (v * 10 + (get_or w i 0 - 48)) 4294967295 → decimal v (drop i w) ≡ decimal n (drop (i + 1) w)
  one_digit n h l e = step h ∙ rw e (grind arith)

  pub no_more : length w ≤ i → decimal v (drop i w) ≡ Some v
  unfolding decimal
  no_more h = at_drop_all (decimal v) w i h

pub number_some : (w : List ℕ) (r : Option ℕ) → false ≡ eqb (length w) 0 → r ≡ decimal 0 w → r ≡ number_of w
number_some w r h e = rw (sym h) e
