-- A node out of range has none.
use Rattle.std.proofs.Common.{vec_items, sym, arith}
use Rattle.graph.proofs.Edges.{neighbours_outside, valid_each}
use Rattle.graph.proofs.edge_list.EdgeList.neighbours.Goals as goal

pub returns-in-None : goal.returns-in-None
returns-in-None c =
    let l = c.args.self.now in
    sym (neighbours_outside l.nodes (vec_items l.edges) (valid_each l.nodes (vec_items l.edges) l.sound.valid) c.args.node (grind (arith, l.beside.places, c.in-None.ensures.lookup)))
