use Rattle.message.proofs.Carried.{packet_returns}
use Rattle.message.proofs.laws.packet_returns.Goals as goal

pub returns : goal.returns
returns c = packet_returns
