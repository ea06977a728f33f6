-- One edge more, as the definition has it.
use Rattle.std.proofs.Common.{rules, ◌≡◌, refl, add-one, arith}
use Rattle.node.specs.Rules.{lightest}
use Rattle.node.proofs.state.Node.lightest.Goals as goal
use Rattle.node.proofs.state.Node.lightest.Goals.{then-picks, else-picks}

pub loop-edge-init : goal.loop-edge-init
unfolding lightest
loop-edge-init g c = λ p is. refl

pub loop-edge-preserved : goal.loop-edge-preserved
unfolding lightest
loop-edge-preserved g c = λ p is.
    let picked : c.picks.result ≡ p c.loop-edge.edge = is c.loop-edge.edge c.picks.result c.loop-edge-test.true c.picks.ensures in
    let before = c.loop-edge.invariant p is in
    rw add-one (elim c.if-picks.branch [ then-picks w ↦ search (rules, picked, before) | else-picks w ↦ search (rules, picked, before) ])

pub returns : goal.returns
returns g c = λ p is.
    let at : c.loop-edge.edge ≡ 16 = omega (arith, c.loop-edge-test.false, c.loop-edge.auto) in
    rw at at c.loop-edge.invariant p is
