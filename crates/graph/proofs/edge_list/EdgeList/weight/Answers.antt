-- The edge that is found has the weight.
use Rattle.std.proofs.Common.{vec_items, ◌∙◌}
use Rattle.graph.proofs.Edges.{weight_of_found, valid_each}
use Rattle.graph.proofs.edge_list.EdgeList.weight.Goals as goal

pub returns : goal.returns
returns c =
    let l = c.args.self.now in
    rw c.deref.ensures.value at c.weight_between.ensures ∙ weight_of_found l.nodes (vec_items l.edges) (valid_each l.nodes (vec_items l.edges) l.sound.valid) c.args.a c.args.b
