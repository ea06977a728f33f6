-- One edge more, as the definitions have it.
use Rattle.std.proofs.Common.{add-one, rules}
use Rattle.node.specs.Rules.{onward, branches_but}
use Rattle.node.proofs.state.Node.pass_on.Goals as goal

pub loop-edge-init : goal.loop-edge-init
unfolding onward branches_but
loop-edge-init c = search rules

pub loop-edge-preserved : goal.loop-edge-preserved
unfolding onward branches_but
loop-edge-preserved c = rw add-one (search rules)
