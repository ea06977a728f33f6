-- A search from node 0 over all edges sees every node exactly if all can be joined.
use Rattle.std.proofs.Common.{vec_items, sym, ◌∙◌, arith}
use Rattle.graph.proofs.Search.{connected_if, connected_then, all_seen_then, all_seen_if}
use Rattle.graph.proofs.edge_list.EdgeList.connected.Goals as goal

pub returns : goal.returns
returns c =
    let l = c.args.self.now in
    let t = c.visit.new.seen in (
      λ h. connected_if l.nodes (vec_items l.edges) l.sound.valid l.sound.separate l.sound.some 4294967295 (omega arith) t c.visit.ensures
          (all_seen_then t l.nodes (omega (arith, l.sound.few, c.visit.array_long)) (sym c.all_seen.ensures ∙ h)),
      λ j. c.all_seen.ensures ∙ all_seen_if t l.nodes (omega (arith, l.sound.few, c.visit.array_long))
          (connected_then l.nodes (vec_items l.edges) l.sound.valid l.sound.separate l.sound.some 4294967295 (omega arith) t c.visit.ensures j),
    )
