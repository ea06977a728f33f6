-- The theorem is proved in proofs/Decide.antt.
use Rattle.graph.proofs.Decide.{decided}
use Rattle.graph.proofs.theorems.decided_holds.Goals as goal

pub returns : goal.returns
returns c = decided
