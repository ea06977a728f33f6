use Rattle.protocol.proofs.Spent.{every_run_ends}
use Rattle.protocol.proofs.every_run_ends.Goals as goal

pub returns : goal.returns
returns c = every_run_ends
