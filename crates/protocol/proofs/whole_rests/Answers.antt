use Rattle.protocol.proofs.Everywhere.{whole_rests}
use Rattle.protocol.proofs.whole_rests.Goals as goal

pub returns : goal.returns
returns c = whole_rests
