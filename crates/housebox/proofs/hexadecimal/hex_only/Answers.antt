use Rattle.housebox.proofs.Digits.{only_all}
use Rattle.housebox.proofs.hexadecimal.hex_only.Goals as goal

pub returns : goal.returns
returns c = only_all
