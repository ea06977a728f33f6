use Rattle.protocol.proofs.Everywhere.{whole_main}
use Rattle.protocol.proofs.whole_main.Goals as goal

pub returns : goal.returns
returns c = whole_main
