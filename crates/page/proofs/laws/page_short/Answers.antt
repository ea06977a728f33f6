use Rattle.page.proofs.PageReturns.{page_short}
use Rattle.page.proofs.laws.page_short.Goals as goal

pub returns : goal.returns
returns c = page_short
