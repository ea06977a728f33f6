-- What `take_while` counts is the front that passes the test.
use Rattle.std.proofs.Common.{rules, ◌∙◌}
use Rattle.std.proofs.lemmas.Iterator.{YieldsList-from_slice}
use Rattle.std.proofs.lemmas.Iterator.Consumers.{count_from_yields_List, YieldsList-at}
use Rattle.std.proofs.lemmas.Iterator.Search.{YieldsList-from_take_while}
use Rattle.std.proofs.lemmas.List.Folds.{length-prefix_len}
use borrow.Author.Tests.{tests}
use Rattle.graph.proofs.text.front_of.Goals as goal

pub returns-clause-value : goal.returns-clause-value
returns-clause-value g c test computes =
    count_from_yields_List c.take_while.result c.count.result c.count.ensures.ran
    (YieldsList-from_take_while _ test (YieldsList-at c.take_while.ensures.source (YieldsList-from_slice c.args.text.now cc)) c.take_while.ensures.closure c.take_while.ensures.done (λ x b q k. search (rules, tests, computes))) ∙
    length-prefix_len test c.args.text.now
