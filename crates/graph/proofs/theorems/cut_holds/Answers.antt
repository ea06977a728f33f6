-- The theorem is proved in proofs/Cut.antt.
use Rattle.graph.proofs.Cut.{cut}
use Rattle.graph.proofs.theorems.cut_holds.Goals as goal

pub returns : goal.returns
returns c = cut
