use Rattle.message.proofs.Carried.{packet_only}
use Rattle.message.proofs.laws.packet_decoded_only.Goals as goal

pub returns : goal.returns
returns c = packet_only
