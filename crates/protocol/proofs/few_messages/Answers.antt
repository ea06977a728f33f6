use Rattle.protocol.proofs.Reaches.{few_messages_sent}
use Rattle.protocol.proofs.few_messages.Goals as goal

pub returns : goal.returns
returns c = few_messages_sent
