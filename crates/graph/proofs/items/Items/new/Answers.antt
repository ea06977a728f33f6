-- There are no more lines than bytes.
use Rattle.std.proofs.Common.{length, ap, arith}
use Rattle.graph.specs.Text.{lines_of}
use Rattle.graph.proofs.Lines.{lines_few}
use Rattle.graph.proofs.items.Items.new.Goals as goal

pub invariant_of-result : goal.invariant_of-result
invariant_of-result c =
    let few = lines_few c.args.text.now in
    let same = ap (λ bs. length (lines_of bs)) c.new.ensures in
    record { countable = omega (arith, few, same) }
