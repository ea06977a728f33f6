-- There are as many ends as links.
use Rattle.std.proofs.Common.{rules}
use Rattle.std.proofs.lemmas.List.{length-map}
use Rattle.page.proofs.serving.serves.Goals as goal

pub returns-then-count-le-LINES : goal.returns-then-count-le-LINES
returns-then-count-le-LINES c = search (rules, length-map)

pub returns-else-count-le-LINES : goal.returns-else-count-le-LINES
returns-else-count-le-LINES c = search (rules, length-map)
