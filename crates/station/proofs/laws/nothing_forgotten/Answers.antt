-- The law is proved in proofs/Kept.antt.
use Rattle.station.proofs.Kept.{nothing_forgotten}
use Rattle.station.proofs.laws.nothing_forgotten.Goals as goal

pub returns : goal.returns
returns c = nothing_forgotten
