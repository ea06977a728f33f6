-- The digits that are left, after the value so far, give the number.
use Rattle.std.proofs.Common.{◌≡◌, drop}
use Rattle.graph.specs.Text.{decimal}
use Rattle.graph.proofs.text.number.Given as goal

abbrev pub invariant-loop-b : goal.invariant-loop-b
invariant-loop-b l = decimal l.value (drop l.b-index l.word) ≡ decimal 0 l.word
