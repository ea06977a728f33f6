use Rattle.message.proofs.Carried.{message_returns}
use Rattle.message.proofs.laws.message_returns.Goals as goal

pub returns : goal.returns
returns c = message_returns
