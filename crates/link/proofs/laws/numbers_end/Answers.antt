use Rattle.link.proofs.Direction.{numbers_end}
use Rattle.link.proofs.laws.numbers_end.Goals as goal

pub returns : goal.returns
returns c = numbers_end
