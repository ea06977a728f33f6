use Rattle.protocol.proofs.Reaches.{levels_low}
use Rattle.protocol.proofs.levels_low.Goals as goal

pub returns : goal.returns
returns c = levels_low
