-- The law is proved in proofs/Rest.antt.
use Rattle.station.proofs.Rest.{inboxes_calm}
use Rattle.station.proofs.laws.inboxes_calm.Goals as goal

pub returns : goal.returns
returns c = inboxes_calm
