use Rattle.page.proofs.PageReturns.{page_returns}
use Rattle.page.proofs.laws.page_returns.Goals as goal

pub returns : goal.returns
returns c = page_returns
