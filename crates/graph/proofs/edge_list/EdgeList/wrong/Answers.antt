-- What is not right is wrong.
use Rattle.graph.proofs.Judge.{not_decides}
use Rattle.graph.proofs.edge_list.EdgeList.wrong.Goals as goal

pub returns : goal.returns
returns c = record { decides = not_decides c.right.result c.right.ensures }
