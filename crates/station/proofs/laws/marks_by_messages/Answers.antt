-- The law is proved in proofs/Promises.antt.
use Rattle.station.proofs.Promises.{marks_by_messages}
use Rattle.station.proofs.laws.marks_by_messages.Goals as goal

pub returns : goal.returns
returns c = marks_by_messages
