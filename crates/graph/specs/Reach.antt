-- What a search from a node leaves: the nodes that it has seen.
use Rattle.std.specs.Prelude.{◌≡◌, ℕ, ◌<◌, Bool, true, false, ◌⊎◌, List, slice_index_or}
use Rattle.graph.specs.Graph.{Graph, Edge, Joined}

-- a node is seen
abbrev pub Seen : List Bool → ℕ → Type 0
Seen s x = slice_index_or s x false ≡ true

-- from s to t: the node is seen, what is new is joined to it by lighter edges, and nothing that lighter edges join to what is new is left out
pub record Visited (g : Graph) (under at : ℕ) (s t : List Bool) : Type 0 where
  pub kept : (x : ℕ) → Seen s x → Seen t x
  pub here : Seen t at
  pub joined : (x : ℕ) → Seen t x → Seen s x ⊎ Joined g under at x
  pub closed : (x y : ℕ) → Seen t x → Seen s x ⊎ (Edge g x y → g.weight x y < under → Seen t y)
