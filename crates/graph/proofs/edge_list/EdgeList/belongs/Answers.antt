-- An edge belongs exactly if its ends are not joined by lighter ones.
use Rattle.std.proofs.Common.{◌≡◌, ◌≤◌, vec_items, arith}
use Rattle.graph.specs.Edges.{weight_in}
use Rattle.graph.proofs.Search.{belongs_decides}
use Rattle.graph.proofs.edge_list.EdgeList.belongs.Goals as goal

pub returns : goal.returns
returns c =
    let l = c.args.self.now in
    let e : c.in-Some.weight ≡ weight_in (vec_items l.edges) c.args.a c.args.b = grind (arith, c.in-Some.ensures) in
    let p : 1 ≤ c.in-Some.weight = grind (arith, c.in-Some.ensures) in
    belongs_decides l.nodes (vec_items l.edges) l.sound.valid c.args.a c.args.b c.in-Some.weight c.joined.result e p c.joined.ensures
