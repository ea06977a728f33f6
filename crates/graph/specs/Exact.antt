-- Which texts are accepted: exactly those that describe a sound list of edges.
use Rattle.std.specs.Prelude.{◌≡◌, ℕ, List, [], ◌∷◌}
use Rattle.graph.specs.Graph.{Weights}
use Rattle.graph.specs.Edges.{Sound, graph_from}
use Rattle.graph.specs.Items.{items_of}
use Rattle.graph.specs.Lists.{edges_of, graph_of}
use Rattle.graph.specs.Reading.{accepted, reading_of}
use Rattle.graph.specs.declared.edge.WeightedEdge.{WeightedEdge}
use Rattle.graph.specs.declared.edge_list.EdgeList.{EdgeList}
use Rattle.graph.specs.declared.item.Item.{Item}
use Rattle.graph.specs.declared.item.Item.TheVariants.{Blank, Houses, Line}

-- blank lines and these edges, in their order
pub data Listing : List Item → List WeightedEdge → Type 0 where
  none : Listing [] []
  blank : {is : List Item} {es : List WeightedEdge} → Listing is es → Listing (Blank ∷ is) es
  line : {is : List Item} {es : List WeightedEdge} (e : WeightedEdge) → Listing is es → Listing (Line e ∷ is) (e ∷ es)

-- blank lines, then so many houses, then these edges
pub data Describes : ℕ → List WeightedEdge → List Item → Type 0 where
  blank : {n : ℕ} {es : List WeightedEdge} {is : List Item} → Describes n es is → Describes n es (Blank ∷ is)
  houses : {es : List WeightedEdge} {is : List Item} (n : ℕ) → Listing is es → Describes n es (Houses n ∷ is)

-- A text is accepted as these nodes and edges exactly if it describes them and they are sound.
abbrev pub Exact : Type 0
Exact =
    (text : List ℕ) (n : ℕ) (es : List WeightedEdge) →
    (reading_of 0 (items_of text) ≡ accepted n es → Describes n es (items_of text) × Sound n es) ×
    (Describes n es (items_of text) → Sound n es → reading_of 0 (items_of text) ≡ accepted n es)

-- What is sound has weights as a graph's have to be.
abbrev pub SoundWeights : Type 0
SoundWeights = (n : ℕ) (es : List WeightedEdge) → Sound n es → Weights (graph_from n es)

-- Every list of edges that the code can hold is sound, and so its graph has such weights.
abbrev pub AlwaysSound : Type 0
AlwaysSound = (l : EdgeList) → Sound l.nodes (edges_of l) × Weights (graph_of l)
