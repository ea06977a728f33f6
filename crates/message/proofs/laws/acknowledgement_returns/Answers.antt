use Rattle.message.proofs.Carried.{acknowledgement_returns}
use Rattle.message.proofs.laws.acknowledgement_returns.Goals as goal

pub returns : goal.returns
returns c = acknowledgement_returns
