use Rattle.network.proofs.Whole.{theorem}
use Rattle.network.proofs.theorem.boxes_together.Goals as goal

pub returns : goal.returns
returns c = theorem
