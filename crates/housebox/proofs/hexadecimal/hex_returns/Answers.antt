use Rattle.housebox.proofs.Digits.{returns_all}
use Rattle.housebox.proofs.hexadecimal.hex_returns.Goals as goal

pub returns : goal.returns
returns c = returns_all
