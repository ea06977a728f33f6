-- Beyond the places there is nothing.
use Rattle.std.proofs.Common.{rules}
use Rattle.std.proofs.lemmas.List.{set_past}
use Rattle.node.proofs.state.Node.with_branch.Goals as goal

pub returns-else-edge-lt-SLOTS : goal.returns-else-edge-lt-SLOTS
returns-else-edge-lt-SLOTS c = search (rules, set_past)
