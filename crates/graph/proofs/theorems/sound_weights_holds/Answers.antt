-- The theorem is proved in proofs/Accepts.antt.
use Rattle.graph.proofs.Accepts.{weights}
use Rattle.graph.proofs.theorems.sound_weights_holds.Goals as goal

pub returns : goal.returns
returns c = weights
