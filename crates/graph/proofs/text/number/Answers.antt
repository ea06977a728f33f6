-- Each digit is taken at once; anything else is no number.
use Rattle.std.proofs.Common.{Some, None, sym, ◌∙◌, arith}
use Rattle.graph.proofs.Digits.{no_digit, one_digit, no_more, number_some}
use Rattle.graph.proofs.text.number.Goals as goal

pub returns-then-not-is_ascii_digit : goal.returns-then-not-is_ascii_digit
returns-then-not-is_ascii_digit c =
    let w = c.args.word.now in
    number_some w None c.if-is_empty.ensures (sym (no_digit w c.loop-b.b-index c.loop-b.value c.loop-b-test.true c.if-not-is_ascii_digit.ensures.value) ∙ c.loop-b.invariant)

pub loop-b-preserved : goal.loop-b-preserved
loop-b-preserved c =
    sym (one_digit c.args.word.now c.loop-b.b-index c.loop-b.value c.saturating_add-value.result c.loop-b-test.true c.if-not-is_ascii_digit.ensures.value
    (omega (arith, c.saturating_add-value.ensures, c.saturating_mul.ensures, c.from.ensures))) ∙ c.loop-b.invariant

pub returns : goal.returns
returns c =
    number_some c.args.word.now (Some c.loop-b.value) c.if-is_empty.ensures
    (sym (no_more c.args.word.now c.loop-b.b-index c.loop-b.value c.loop-b-test.false) ∙ c.loop-b.invariant)
