use Rattle.protocol.proofs.Everywhere.{whole_ends}
use Rattle.protocol.proofs.whole_ends.Goals as goal

pub returns : goal.returns
returns c = whole_ends
