use Rattle.protocol.proofs.Complete.{complete}
use Rattle.protocol.proofs.main_theorem.Goals as goal

pub returns : goal.returns
returns c = complete
