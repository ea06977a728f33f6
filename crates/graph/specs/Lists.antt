-- What a list of edges, as the code holds it, stands for.
use Rattle.std.specs.Prelude.{ℕ, cond, List, vec_items, Option, Some, None, ◌==◌}
use Rattle.graph.specs.Graph.{Graph}
use Rattle.graph.specs.Edges.{graph_from}
use Rattle.graph.specs.declared.edge.WeightedEdge.{WeightedEdge}
use Rattle.graph.specs.declared.edge_list.EdgeList.{EdgeList}

-- its edges, in the order in which they came
abbrev pub edges_of : EdgeList → List WeightedEdge
edges_of l = vec_items l.edges

-- the graph that it is
abbrev pub graph_of : EdgeList → Graph
graph_of l = graph_from l.nodes (edges_of l)

-- a weight, where there is an edge
abbrev pub some_weight : ℕ → Option ℕ
some_weight w = cond (w == 0) None (Some w)
