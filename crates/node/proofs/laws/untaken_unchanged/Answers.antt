-- By the rows of the rules.
use Rattle.node.proofs.Took.{untaken_unchanged}
use Rattle.node.proofs.laws.untaken_unchanged.Goals as goal

pub returns : goal.returns
returns c = untaken_unchanged
