-- Lists of edges: which graph one is, the neighbours of a node, and when one is sound.
use Rattle.std.specs.Prelude.{◌≡◌, ℕ, ◌<◌, ◌≤◌, Bool, true, cond, not, ◌&&◌, ◌||◌, List, [], ◌∷◌, ◌++◌, length, ◌==◌, ◌≢◌, slice_index_or}
use Rattle.std.specs.List.{list_any}
use Rattle.arrayvec.specs.ArrayVec.{ArrayVec}
use Rattle.graph.specs.Graph.{Graph}
use Rattle.graph.specs.declared.edge.WeightedEdge.{WeightedEdge}
use Rattle.graph.specs.declared.edge.Neighbour.{Neighbour}

-- does an edge run between a and b, in either direction
abbrev pub between : WeightedEdge → ℕ → ℕ → Bool
between e a b = (e.a == a && e.b == b) || (e.a == b && e.b == a)

-- the weight of the first edge between a and b, 0 where there is none
unfoldable pub weight_in : List WeightedEdge → ℕ → ℕ → ℕ
weight_in [] a b = 0
weight_in (e ∷ es) a b = cond (between e a b) e.weight (weight_in es a b)

-- has some edge this weight
abbrev pub has_weight : List WeightedEdge → ℕ → Bool
has_weight es w = list_any (λ e. e.weight == w) es

-- the graph that a list of edges is
abbrev pub graph_from : ℕ → List WeightedEdge → Graph
graph_from n es = record { count = n; weight = weight_in es }

-- what an edge is to a node: a neighbour, if it ends there
abbrev pub seen_from : WeightedEdge → ℕ → List Neighbour
seen_from e x =
    cond (e.a == x) (record { node = e.b; weight = e.weight } ∷ [])
    (cond (e.b == x) (record { node = e.a; weight = e.weight } ∷ []) [])

-- the neighbours of a node, in the order of its edges
unfoldable pub neighbours_of : List WeightedEdge → ℕ → List Neighbour
neighbours_of [] x = []
neighbours_of (e ∷ es) x = seen_from e x ++ neighbours_of es x

-- no edge, as past the end of a list
abbrev pub no_edge : WeightedEdge
no_edge = record { a = 0; b = 0; weight = 0 }

-- an edge between two different nodes, of a weight from 1 to 1,000,000
abbrev pub Valid : ℕ → WeightedEdge → Type 0
Valid n e = (e.a < n) × (e.b < n) × (e.a ≢ e.b) × (1 ≤ e.weight) × (e.weight ≤ 1000000)

-- have two edges neither the same ends nor the same weight
abbrev pub apart : WeightedEdge → WeightedEdge → Bool
apart e f = not (between e f.a f.b) && not (e.weight == f.weight)

-- is an edge apart from each of a list
unfoldable pub apart_from : WeightedEdge → List WeightedEdge → Bool
apart_from e [] = true
apart_from e (f ∷ fs) = apart e f && apart_from e fs

-- are every two edges of a list apart
unfoldable pub all_apart : List WeightedEdge → Bool
all_apart [] = true
all_apart (e ∷ es) = apart_from e es && all_apart es

-- every edge of a list is valid
abbrev pub AllValid : ℕ → List WeightedEdge → Type 0
AllValid n es = (k : ℕ) → k < length es → Valid n (slice_index_or es k no_edge)

-- at most 16 edges at each node
abbrev pub FewEach : List WeightedEdge → Type 0
FewEach es = (x : ℕ) → length (neighbours_of es x) ≤ 16

-- 1 to 256 nodes, edges that are valid and apart, at most 16 at a node
pub record Sound (n : ℕ) (es : List WeightedEdge) : Type 0 where
  pub some : 1 ≤ n
  pub few : n ≤ 256
  pub valid : AllValid n es
  pub separate : all_apart es ≡ true
  pub degrees : FewEach es

-- a node without neighbours, as past the end of a list
abbrev pub alone : ArrayVec Neighbour
alone = record { items = [] }

-- beside each node stand its neighbours
pub record Beside (n : ℕ) (es : List WeightedEdge) (vs : List (ArrayVec Neighbour)) : Type 0 where
  pub places : length vs ≡ n
  pub held : (x : ℕ) → x < n → (slice_index_or vs x alone).items ≡ neighbours_of es x
