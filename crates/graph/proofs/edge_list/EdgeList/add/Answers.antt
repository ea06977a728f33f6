-- The list is sound with the edge, since it has no fault.
use Rattle.std.proofs.Common.{◌≡◌, None, vec_items}
use Rattle.graph.specs.Faults.{edge_fault}
use Rattle.graph.proofs.Adjoin.{beside_push}
use Rattle.graph.proofs.Fronts.{sound_push}
use Rattle.graph.proofs.Push.{admitted, faultless}
use Rattle.graph.proofs.edge_list.EdgeList.add.Goals as goal

pub invariant_of-self-2-clause-sound : goal.invariant_of-self-2-clause-sound
invariant_of-self-2-clause-sound c =
    let l = c.args.self.now in
    let h : None ≡ edge_fault l.nodes (vec_items l.edges) c.args.e = admitted _ c.in_ok-admits.ensures in
    rw c.in_ok-push.ensures.items (sound_push l.nodes (vec_items l.edges) c.args.e l.sound h)

pub invariant_of-self-2-clause-beside : goal.invariant_of-self-2-clause-beside
invariant_of-self-2-clause-beside c =
    let l = c.args.self.now in
    let h : None ≡ edge_fault l.nodes (vec_items l.edges) c.args.e = admitted _ c.in_ok-admits.ensures in
    beside_push c.args.e (vec_items l.adjacent) (vec_items c.grow.new.adjacent) (vec_items c.grow-2.new.adjacent) (faultless l.nodes (vec_items l.edges) c.args.e h).valid.2
    c.grow.ensures c.grow-2.ensures l.nodes (vec_items l.edges) (vec_items c.push.new.self) c.in_ok-push.ensures.items l.beside
