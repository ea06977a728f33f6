use Rattle.protocol.proofs.Rejections.{no_late_connect}
use Rattle.protocol.proofs.no_late_connect.Goals as goal

pub returns : goal.returns
returns c = no_late_connect
