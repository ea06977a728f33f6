use Rattle.protocol.proofs.Strays.{no_stray}
use Rattle.protocol.proofs.no_stray.Goals as goal

pub returns : goal.returns
returns c = no_stray
