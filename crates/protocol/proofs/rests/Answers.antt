use Rattle.protocol.proofs.Complete.{rests_complete}
use Rattle.protocol.proofs.rests.Goals as goal

pub returns : goal.returns
returns c = rests_complete
