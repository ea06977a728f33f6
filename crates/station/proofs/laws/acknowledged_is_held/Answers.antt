-- The law is proved in proofs/Promises.antt.
use Rattle.station.proofs.Promises.{acknowledged_is_held}
use Rattle.station.proofs.laws.acknowledged_is_held.Goals as goal

pub returns : goal.returns
returns c = acknowledged_is_held
