-- Step by step, from a node as it is made.
use Rattle.node.proofs.Runs.{always_fit}
use Rattle.node.proofs.laws.always_fit.Goals as goal

pub returns : goal.returns
returns c = always_fit
