-- The first line comes first, and then the lines of what is behind it.
use Rattle.std.proofs.Common.{◌<◌, length, ap, rules, arith}
use Rattle.graph.specs.Text.{lines_of}
use Rattle.graph.proofs.Lines.{lines_none, lines_more}
use Rattle.graph.proofs.text.LinesIterator.next.Goals as goal

pub returns-then-at_end-clause-steps : goal.returns-then-at_end-clause-steps
returns-then-at_end-clause-steps c =
    let e = lines_none c.args.self.now.cursor.rest.now c.if-at_end.ensures in (e, e)

pub returns-clause-steps : goal.returns-clause-steps
returns-clause-steps c = rw (c.line.ensures.line, c.line.ensures.rest) (lines_more c.args.self.now.cursor.rest.now c.if-at_end.ensures)

pub returns-clause-goes : goal.returns-clause-goes
returns-clause-goes c =
    let l = ap length (lines_more c.args.self.now.cursor.rest.now c.if-at_end.ensures) in
    let m : length (lines_of c.line.new.self.rest.now) < length (lines_of c.args.self.now.cursor.rest.now) = omega (arith, l, ap (λ bs. length (lines_of bs)) c.line.ensures.rest) in
    search (rules, m)
