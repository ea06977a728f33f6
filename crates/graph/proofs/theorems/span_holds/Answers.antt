-- The theorem is proved in proofs/Span.antt.
use Rattle.graph.proofs.Span.{span}
use Rattle.graph.proofs.theorems.span_holds.Goals as goal

pub returns : goal.returns
returns c = span
