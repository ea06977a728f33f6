-- Each message has an edge of its own.
use Rattle.node.proofs.Lost.{nothing_lost}
use Rattle.node.proofs.laws.nothing_lost.Goals as goal

pub returns : goal.returns
returns c = nothing_lost
