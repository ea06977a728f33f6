use Rattle.protocol.proofs.Spent.{few_moves}
use Rattle.protocol.proofs.few_moves.Goals as goal

pub returns : goal.returns
returns c = few_moves
