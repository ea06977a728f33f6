use Rattle.protocol.proofs.Reaches.{always_right}
use Rattle.protocol.proofs.always_right.Goals as goal

pub returns : goal.returns
returns c = always_right
