-- What building a list of edges does, one edge at a time.
use Rattle.std.specs.Prelude.{◌≡◌, ℕ, ◌⊎◌, List, [], ◌∷◌, ◌++◌, length, Some, None, Ok, Err, Result, ◌≢◌, slice_index_or}
use Rattle.arrayvec.specs.ArrayVec.{ArrayVec}
use Rattle.graph.specs.Edges.{alone}
use Rattle.graph.specs.Faults.{count_fault, edge_fault}
use Rattle.graph.specs.Lists.{edges_of}
use Rattle.graph.specs.declared.edge.Neighbour.{Neighbour}
use Rattle.graph.specs.declared.edge.WeightedEdge.{WeightedEdge}
use Rattle.graph.specs.declared.edge_list.EdgeList.{EdgeList}
use Rattle.graph.specs.declared.fault.Fault.{Fault}
use Rattle.graph.specs.declared.fault.Fault.TheVariants.{NoMemory}

-- node i has one neighbour more, behind the others, and no other node changed
pub record Grows (vs ws : List (ArrayVec Neighbour)) (i : ℕ) (n : Neighbour) : Type 0 where
  pub long : length ws ≡ length vs
  pub more : (slice_index_or ws i alone).items ≡ (slice_index_or vs i alone).items ++ n ∷ []
  pub others : (x : ℕ) → (x ≢ i) → slice_index_or ws x alone ≡ slice_index_or vs x alone

-- a list of n nodes with no edges exactly if there are 1 to 256, but for want of memory
abbrev pub Started : ℕ → Result EdgeList Fault → Type 0
Started n (Ok l) = (count_fault n ≡ None) × (l.nodes ≡ n) × (edges_of l ≡ [])
Started n (Err f) = (count_fault n ≡ Some f) ⊎ (f ≡ NoMemory)

-- the edge stands behind the others exactly if it has no fault, but for want of memory; refused, it changes nothing
abbrev pub Added : EdgeList → EdgeList → WeightedEdge → Result (Unit {0}) Fault → Type 0
Added l m e (Ok u) = (edge_fault l.nodes (edges_of l) e ≡ None) × (m.nodes ≡ l.nodes) × (edges_of m ≡ edges_of l ++ e ∷ [])
Added l m e (Err f) = ((edge_fault l.nodes (edges_of l) e ≡ Some f) ⊎ (f ≡ NoMemory)) × (m.nodes ≡ l.nodes) × (edges_of m ≡ edges_of l)
