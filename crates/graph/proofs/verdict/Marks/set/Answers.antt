-- A mark changes no edge.
use Rattle.std.proofs.Common.{vec_items, ap, ◌∙◌}
use Rattle.std.proofs.Math.Seq.{map-set_same}
use Rattle.graph.specs.declared.edge.WeightedEdge.{WeightedEdge}
use Rattle.graph.specs.declared.mark.MarkedEdge.{MarkedEdge}
use Rattle.graph.proofs.verdict.Marks.set.Goals as goal

pub invariant_of-self : goal.invariant_of-self
invariant_of-self c =
    let edge : MarkedEdge → WeightedEdge = λ m. m.edge in
    record {
      same =
          map-set_same edge (vec_items c.args.self.now.edges) c.in-Some.i c.set.new.self c.index_mut.result.now (ap edge c.set.ensures ∙ ap edge c.index_mut.ensures.value)
          ∙ c.args.self.now.same;
    }
