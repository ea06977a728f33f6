-- The theorem is proved in proofs/Accepts.antt.
use Rattle.graph.proofs.Accepts.{exact}
use Rattle.graph.proofs.theorems.exact_holds.Goals as goal

pub returns : goal.returns
returns c = exact
