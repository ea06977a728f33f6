-- Each edge that is named comes from one that was there.
use Rattle.node.proofs.Within.{within_edges}
use Rattle.node.proofs.laws.within_edges.Goals as goal

pub returns : goal.returns
returns c = within_edges
