use Rattle.message.proofs.Carried.{acknowledgement_only}
use Rattle.message.proofs.laws.acknowledgement_decoded_only.Goals as goal

pub returns : goal.returns
returns c = acknowledgement_only
