use Rattle.link.proofs.Direction.{taken_in_order}
use Rattle.link.proofs.laws.taken_in_order.Goals as goal

pub returns : goal.returns
returns c = taken_in_order
