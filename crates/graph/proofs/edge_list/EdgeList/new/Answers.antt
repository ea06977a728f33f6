-- With no edges all is sound, and no node has a neighbour.
use Rattle.std.proofs.Common.{◌≡◌, None, replicate, vec_items, ap, ◌∙◌, arith}
use Rattle.graph.specs.Faults.{count_fault}
use Rattle.graph.proofs.Adjoin.{beside_none, copied_none, empty_alone}
use Rattle.graph.proofs.Fronts.{sound_none}
use Rattle.graph.proofs.edge_list.EdgeList.new.Goals as goal

pub invariant_of-result-clause-sound : goal.invariant_of-result-clause-sound
invariant_of-result-clause-sound c =
    let h : None ≡ count_fault c.args.nodes = grind arith in
    rw c.new-3.ensures.items (sound_none c.args.nodes h)

pub invariant_of-result-clause-beside : goal.invariant_of-result-clause-beside
invariant_of-result-clause-beside c =
    beside_none c.args.nodes (vec_items c.new-3.result) (vec_items c.in_ok-adjacent.adjacent) c.new-3.ensures.items
    (c.in_ok-adjacent.ensures.items_if_clones_equal (λ y h. copied_none _ _ y c.new-2.ensures h) ∙ ap (replicate c.args.nodes) (empty_alone c.new-2.result c.new-2.ensures))
