-- Step by step.
use Rattle.node.proofs.Runs.{marks_last}
use Rattle.node.proofs.laws.marks_last.Goals as goal

pub returns : goal.returns
returns c = marks_last
