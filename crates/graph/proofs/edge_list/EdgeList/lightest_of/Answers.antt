-- The chain gives the edges with their marks, of those the wrong ones, and of these the lightest.
use Rattle.std.proofs.Common.{List, map, subst, rules}
use Rattle.std.proofs.lemmas.Iterator.{YieldsList-from_slice, YieldsList-from_map}
use Rattle.std.proofs.lemmas.Iterator.Consumers.{YieldsList-from_enumerate, YieldsList-from_filter, YieldsList-at}
use Rattle.std.specs.List.{enumerate_from}
use borrow.Author.Tests.{tests}
use Rattle.graph.specs.Lists.{graph_of}
use Rattle.graph.specs.Marks.{Judged}
use Rattle.graph.specs.declared.mark.MarkedEdge.{MarkedEdge}
use Rattle.graph.proofs.Beside.{placed, by_places}
use Rattle.graph.proofs.Judge.{judged, lightest_found, wrong, found_wrong}
use Rattle.graph.proofs.edge_list.EdgeList.lightest_of.Goals as goal

pub returns : goal.returns
returns c =
    let g = graph_of c.args.self.now in
    let es = c.args.edges.now in
    let ms = c.args.marks.now in
    subst (λ (marked : List MarkedEdge). Judged g marked c.min_by_key.result) (by_places es ms)
    (judged g (map (placed ms) (enumerate_from 0 es)) c.min_by_key.result
    (lightest_found _ _ c.map-2.result _ c.min_by_key.result c.min_by_key.ensures.runs
    (YieldsList-from_map _ (λ m. m.edge)
    (YieldsList-at c.map-2.ensures.source
    (YieldsList-from_filter _ (wrong g)
    (YieldsList-at c.filter.ensures.source
    (YieldsList-from_map _ (placed ms)
    (YieldsList-at c.map.ensures.source
    (YieldsList-from_enumerate (YieldsList-at c.enumerate.ensures.source (YieldsList-from_slice es c.iter.ensures.rest)) c.enumerate.ensures.count))
    c.map.ensures.closure (λ x r q k. search (rules, tests))))
    c.filter.ensures.closure (λ x b q k. (search rules, let l = found_wrong g k.shown.now x k.shows b in search (rules, tests, l)))))
    c.map-2.ensures.closure (λ x r q k. search rules))
    (λ x n q k. search (rules, tests))))
