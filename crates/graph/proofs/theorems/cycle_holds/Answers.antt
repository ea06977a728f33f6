-- The theorem is proved in proofs/Cycle.antt.
use Rattle.graph.proofs.Cycle.{cycle}
use Rattle.graph.proofs.theorems.cycle_holds.Goals as goal

pub returns : goal.returns
returns c = cycle
