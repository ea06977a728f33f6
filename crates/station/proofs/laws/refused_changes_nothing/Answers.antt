-- The law is proved in proofs/Promises.antt.
use Rattle.station.proofs.Promises.{refused_changes_nothing}
use Rattle.station.proofs.laws.refused_changes_nothing.Goals as goal

pub returns : goal.returns
returns c = refused_changes_nothing
