use Rattle.protocol.proofs.Queued.{short_queues}
use Rattle.protocol.proofs.short_queues.Goals as goal

pub returns : goal.returns
returns c = short_queues
