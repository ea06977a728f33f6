-- Each neighbour is one by an edge, and a call for one has fewer nodes left.
use Rattle.std.proofs.Common.{◌≡◌, ℕ, ◌+◌, ◌<◌, Bool, true, List, get_or, set, vec_items, sym, subst, arith}
use Rattle.std.proofs.lemmas.Bool.{ltb-true, ltb-false}
use Rattle.graph.specs.Edges.{neighbours_of}
use Rattle.graph.specs.Lists.{graph_of}
use Rattle.graph.specs.Reach.{Visited}
use Rattle.graph.specs.declared.edge.Neighbour.{Neighbour}
use Rattle.graph.proofs.Edges.{nobody}
use Rattle.graph.proofs.Search.{unseen, Searching, Sought, truly, edge_to, all_sought, fewer_left, turn_visits, turn_passes, search_ends}
use Rattle.graph.proofs.edge_list.EdgeList.+visit.Goals as goal
use Rattle.graph.proofs.edge_list.EdgeList.+visit.Goals.{then-lighter+then-not-seen-n, else-lighter, else-lighter-via-then-lighter+else-not-seen-n, else-lighter-via-else-lighter}

pub bounds-seen-n : goal.bounds-seen-n
bounds-seen-n t c =
    let l = c.args.self.now in
    let r = truly l.nodes (vec_items l.edges) l.sound.valid l.sound.separate c.args.at c.neighbours-n-items.result.now c.neighbours-n-items.ensures c.loop-n.n-index c.loop-n-test.true in
    omega (arith, r.inside, l.sound.few)

pub visit-requires : goal.visit-requires
visit-requires t c =
    let l = c.args.self.now in
    let r = truly l.nodes (vec_items l.edges) l.sound.valid l.sound.separate c.args.at c.neighbours-n-items.result.now c.neighbours-n-items.ensures c.loop-n.n-index c.loop-n-test.true in
    let left : unseen c.loop-n.seen < unseen c.args.seen.now =
    fewer_left (graph_of l) c.args.under c.args.at c.args.seen.now c.loop-n.seen (omega (arith, c.requires.inside, l.sound.few, c.told-seen)) (omega (arith, c.told-seen, c.loop-n.invariant.2)) c.requires.fresh c.loop-n.invariant.0 in
    (subst (λ (n : ℕ). unseen c.loop-n.seen < n) c.decreases left, (r.inside, c.if-not-seen-n.true))

pub loop-n-preserved : goal.loop-n-preserved
loop-n-preserved t c =
    let l = c.args.self.now in
    let es = vec_items l.edges in
    let u = c.args.under in
    let i = c.loop-n.n-index in
    let ns = c.neighbours-n-items.result.now in
    let same : ns ≡ neighbours_of es c.args.at = c.neighbours-n-items.ensures in
    let s = set c.args.seen.now c.args.at true in
    let e = edge_to l.nodes es l.sound.valid l.sound.separate c.args.at ns same c.requires.inside i c.loop-n-test.true in
    let r = truly l.nodes es l.sound.valid l.sound.separate c.args.at ns same i c.loop-n-test.true in
    let sought : Sought ns u i c.loop-n.seen = subst (λ (ms : List Neighbour). Sought ms u i c.loop-n.seen) (sym same) c.loop-n.invariant.1 in
    let went : Searching (graph_of l) u c.args.at s c.if-lighter.seen × Sought ns u (i + 1) c.if-lighter.seen =
    elim c.if-lighter.branch [
      | then-lighter+then-not-seen-n w ↦
          turn_visits (graph_of l) u c.args.at i ns s c.loop-n.seen c.if-lighter.seen e
          (omega (arith, r.weighs, ltb-true (get_or ns i nobody).weight u (sym w.if-lighter.ensures)))
          c.loop-n.invariant.0 sought
          (subst (λ (z : List Bool). Visited (graph_of l) u (get_or ns i nobody).node c.loop-n.seen z) (sym w.seen-is) w.visit.ensures)
      | else-lighter w ↦
          turn_passes (graph_of l) u c.args.at i ns s c.loop-n.seen c.if-lighter.seen w.seen-is
          (λ h. elim w.else-lighter.branch [
            | else-lighter-via-then-lighter+else-not-seen-n v ↦ v.if-not-seen-n.false
            | else-lighter-via-else-lighter v ↦ absurd (omega (arith, ltb-false (get_or ns i nobody).weight u (sym v.if-lighter.ensures)))
          ])
          c.loop-n.invariant.0 sought
    ] in
    (went.0, subst (λ (ms : List Neighbour). Sought ms u (i + 1) c.if-lighter.seen) same went.1, c.if-lighter.array_long)

pub returns : goal.returns
returns t c =
    let l = c.args.self.now in
    search_ends (graph_of l) c.args.under c.args.at c.args.seen.now c.loop-n.seen (omega (arith, c.requires.inside, l.sound.few, c.told-seen)) c.loop-n.invariant.0
    (all_sought l.nodes (vec_items l.edges) l.sound.valid l.sound.separate c.args.at c.neighbours-n-items.result.now c.neighbours-n-items.ensures c.args.under c.loop-n.n-index c.loop-n.seen c.loop-n-test.false c.loop-n.invariant.1)
