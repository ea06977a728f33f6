use Rattle.protocol.proofs.Arrives.{ends}
use Rattle.protocol.proofs.ends.Goals as goal

pub returns : goal.returns
returns c = ends
