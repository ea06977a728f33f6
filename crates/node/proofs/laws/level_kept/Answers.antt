-- The level after each message.
use Rattle.node.proofs.Stays.{level_kept}
use Rattle.node.proofs.laws.level_kept.Goals as goal

pub returns : goal.returns
returns c = level_kept
