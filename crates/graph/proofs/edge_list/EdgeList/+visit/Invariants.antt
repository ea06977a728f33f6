-- Fewer nodes are left unseen at each call; in the loop the neighbours passed are sought.
use Rattle.std.proofs.Common.{◌≡◌, length, vec_items}
use Rattle.graph.specs.Lists.{graph_of}
use Rattle.graph.specs.Edges.{neighbours_of}
use Rattle.graph.proofs.Search.{unseen, Searching, Sought}
use Rattle.graph.proofs.edge_list.EdgeList.+visit.Given as goal

abbrev pub decreases-visit : goal.decreases-visit
decreases-visit l = unseen l.seen.now

abbrev pub invariant-loop-n : goal.invariant-loop-n
invariant-loop-n l =
    Searching (graph_of l.self) l.under l.at l.initial.seen l.seen × Sought (neighbours_of (vec_items l.self.edges) l.at) l.under l.n-index l.seen × (length l.seen ≡ 256)
