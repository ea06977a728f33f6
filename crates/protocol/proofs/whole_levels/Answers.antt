use Rattle.protocol.proofs.Everywhere.{whole_levels}
use Rattle.protocol.proofs.whole_levels.Goals as goal

pub returns : goal.returns
returns c = whole_levels
