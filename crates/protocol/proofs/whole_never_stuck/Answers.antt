use Rattle.protocol.proofs.Everywhere.{whole_never_stuck}
use Rattle.protocol.proofs.whole_never_stuck.Goals as goal

pub returns : goal.returns
returns c = whole_never_stuck
