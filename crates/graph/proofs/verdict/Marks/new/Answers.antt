-- The edges with no marks are the edges.
use Rattle.std.proofs.Common.{ap, ◌∙◌}
use Rattle.graph.specs.Lists.{edges_of}
use Rattle.graph.specs.Marks.{fresh}
use Rattle.graph.proofs.Judge.{edges_fresh, edges_in}
use Rattle.graph.proofs.verdict.Marks.new.Goals as goal

pub invariant_of-result : goal.invariant_of-result
invariant_of-result c = record { same = ap edges_in c.in_ok-edges.ensures ∙ ap (λ es. edges_in (fresh es)) c.edges.ensures ∙ edges_fresh (edges_of c.args.list.now) }
