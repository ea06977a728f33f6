-- Levels and weights stay in their range.
use Rattle.node.proofs.Fits.{sends_fit}
use Rattle.node.proofs.laws.sends_fit.Goals as goal

pub returns : goal.returns
returns c = sends_fit
