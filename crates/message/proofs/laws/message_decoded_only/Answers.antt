use Rattle.message.proofs.Decoded.{decoded_only}
use Rattle.message.proofs.laws.message_decoded_only.Goals as goal

pub returns : goal.returns
returns c = decoded_only
