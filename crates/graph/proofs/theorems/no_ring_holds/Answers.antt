-- The theorem is proved in proofs/Cycle.antt.
use Rattle.graph.proofs.Cycle.{no_ring}
use Rattle.graph.proofs.theorems.no_ring_holds.Goals as goal

pub returns : goal.returns
returns c = no_ring
