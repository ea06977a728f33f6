use Rattle.page.proofs.PageReturns.{page_read_only}
use Rattle.page.proofs.laws.page_read_only.Goals as goal

pub returns : goal.returns
returns c = page_read_only
