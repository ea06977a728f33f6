-- The chain gives the wrong edges, and of those the lightest.
use Rattle.std.proofs.Common.{rules}
use Rattle.std.proofs.lemmas.Iterator.{YieldsList-from_slice, YieldsList-from_map}
use Rattle.std.proofs.lemmas.Iterator.Consumers.{YieldsList-from_filter, YieldsList-at}
use borrow.Author.Tests.{tests}
use Rattle.graph.specs.Lists.{graph_of}
use Rattle.graph.proofs.Judge.{judged, lightest_found, wrong, found_at}
use Rattle.graph.proofs.edge_list.EdgeList.lightest_wrong.Goals as goal

pub returns : goal.returns
returns c =
    let g = graph_of c.args.self.now in
    judged g c.args.edges.now c.min_by_key.result
    (lightest_found _ _ c.map.result _ c.min_by_key.result c.min_by_key.ensures.runs
    (YieldsList-from_map _ (λ m. m.edge)
    (YieldsList-at c.map.ensures.source
    (YieldsList-from_filter _ (wrong g) (YieldsList-at c.filter.ensures.source (YieldsList-from_slice c.args.edges.now c.iter.ensures.rest))
    c.filter.ensures.closure (λ x b q k. (search rules, let l = found_at g k.shown.now x k.shows b in search (rules, tests, l)))))
    c.map.ensures.closure (λ x r q k. search rules))
    (λ x n q k. search (rules, tests)))
