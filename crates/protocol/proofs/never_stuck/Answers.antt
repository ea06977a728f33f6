use Rattle.protocol.proofs.Moving.{moving}
use Rattle.protocol.proofs.never_stuck.Goals as goal

pub returns : goal.returns
returns c = moving
