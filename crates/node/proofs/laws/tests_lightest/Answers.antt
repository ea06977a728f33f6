-- A test is sent by testing alone, and that looks for the lightest.
use Rattle.node.proofs.Fits.{tests_lightest}
use Rattle.node.proofs.laws.tests_lightest.Goals as goal

pub returns : goal.returns
returns c = tests_lightest
