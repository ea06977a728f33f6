-- What is sent and counted so far is what the definition has of the edges passed.
use Rattle.std.proofs.Common.{◌≡◌, ◌≤◌}
use Rattle.node.specs.Rules.{onward, branches_but}
use Rattle.node.proofs.state.Node.pass_on.Given as goal

abbrev pub invariant-loop-edge : goal.invariant-loop-edge
invariant-loop-edge l =
    (l.sends ≡ onward l.self l.from l.message l.edge) × (l.count ≡ branches_but l.self l.from l.edge) × (l.count ≤ l.edge)
