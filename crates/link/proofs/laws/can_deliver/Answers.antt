use Rattle.link.proofs.Delivery.{can_deliver}
use Rattle.link.proofs.laws.can_deliver.Goals as goal

pub returns : goal.returns
returns c = can_deliver
