-- The words behind the program's name.
use Rattle.std.specs.Prelude.{ℕ, Bool, cond, List, [], ◌∷◌, length, Some, None, vec_items, Option, ◌==◌, nat_lt}
use Rattle.std.specs.List.{position_or_len, before_first, after_first}
use Rattle.graph.specs.declared.edge.Neighbour.{Neighbour}
use Rattle.graph.specs.Text.{number_of}
use Rattle.housebox.specs.Both.{both}
use Rattle.housebox.specs.declared.arguments.Arguments.{Arguments}

abbrev pub is_colon : ℕ → Bool
is_colon b = b == 58

abbrev pub neighbour : ℕ → ℕ → Neighbour
neighbour j l = record { node = j; weight = l }

-- two words of digits
abbrev pub numbers_of : List ℕ → List ℕ → Option Neighbour
numbers_of j l = both neighbour (number_of j) (number_of l)

-- `J:L`: a neighbour and a length
abbrev pub neighbour_of : List ℕ → Option Neighbour
neighbour_of w = cond (nat_lt (position_or_len is_colon w) (length w)) (numbers_of (before_first is_colon w) (after_first is_colon w)) None

-- all of them, in order
unfoldable pub neighbours_of : List (List ℕ) → Option (List Neighbour)
neighbours_of [] = Some []
neighbours_of (w ∷ ws) = both (λ n ns. n ∷ ns) (neighbour_of w) (neighbours_of ws)

-- the house's own number, and its lines
pub record Given : Type 0 where
  pub number : ℕ
  pub neighbours : List Neighbour

-- what the code holds
abbrev pub given_by : Arguments → Given
given_by a = record { number = a.number; neighbours = vec_items a.neighbours }

abbrev pub given : ℕ → List Neighbour → Given
given i ns = record { number = i; neighbours = ns }

-- what the words say, if they are a number and then neighbours
abbrev pub given_of : List ℕ → List (List ℕ) → Option Given
given_of w ws = both given (number_of w) (neighbours_of ws)
