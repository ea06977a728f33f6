use Rattle.link.proofs.Delivery.{all_delivered}
use Rattle.link.proofs.laws.all_delivered.Goals as goal

pub returns : goal.returns
returns c = all_delivered
