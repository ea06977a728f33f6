-- A node as it is made.
use Rattle.node.proofs.Within.{fresh_fit}
use Rattle.node.proofs.laws.fresh_fit.Goals as goal

pub returns : goal.returns
returns c = fresh_fit
