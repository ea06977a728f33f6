-- A search from one node sees the other exactly if they are joined.
use Rattle.std.proofs.Common.{refl, inl, inr, arith}
use Rattle.graph.specs.Graph.{Joined}
use Rattle.graph.specs.Lists.{graph_of}
use Rattle.graph.proofs.Search.{decides_no, joined_inside, none_seen, seen_joined, joined_seen}
use Rattle.graph.proofs.edge_list.EdgeList.joined.Goals as goal
use Rattle.graph.proofs.edge_list.EdgeList.joined.Goals.{then-a-self-via-then-a-self, then-a-self-via-else-a-self+then-b-self}

pub returns-then-a-b : goal.returns-then-a-b
returns-then-a-b c = (λ _. rw c.if-a-b.true Joined.here, λ _. refl)

pub returns-then-a-self : goal.returns-then-a-self
returns-then-a-self c =
    let g = graph_of c.args.self.now in
    decides_no (Joined g c.args.under c.args.a c.args.b) (λ j. elim (joined_inside g j) [
      | inl e ↦ c.if-a-b.false e
      | inr p ↦ elim c.then-a-self.branch [
        | then-a-self-via-then-a-self w ↦ omega (arith, w.if-a-self.true)
        | then-a-self-via-else-a-self+then-b-self w ↦ omega (arith, w.if-b-self.true)
      ]
    ])

pub visit-requires : goal.visit-requires
visit-requires c = record { inside = c.if-a-self.false; fresh = none_seen 256 c.args.a }

pub returns : goal.returns
returns c =
    let g = graph_of c.args.self.now in (
      seen_joined g c.args.under c.args.a 256 c.visit.new.seen c.visit.ensures c.args.b,
      joined_seen g c.args.under c.args.a 256 c.visit.new.seen c.visit.ensures c.args.b,
    )
