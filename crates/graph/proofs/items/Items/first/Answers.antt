-- Blank items are passed over.
use Rattle.std.proofs.Common.{rules}
use borrow.Author.Tests.{tests}
use Rattle.graph.proofs.Readings.{sought}
use Rattle.graph.proofs.items.Items.first.Goals as goal

pub returns : goal.returns
returns c =
    sought _ _ (λ x q k. search (rules, tests)) (λ x q k. search (rules, tests)) c.args.self.now c.find.new.self c.find.result c.find.ensures.ran
