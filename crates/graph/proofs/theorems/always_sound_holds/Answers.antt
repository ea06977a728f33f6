-- The theorem is proved in proofs/Accepts.antt.
use Rattle.graph.proofs.Accepts.{always_sound}
use Rattle.graph.proofs.theorems.always_sound_holds.Goals as goal

pub returns : goal.returns
returns c = always_sound
