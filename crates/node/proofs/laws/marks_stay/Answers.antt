-- A mark never turns back, by what each step does to the marks.
use Rattle.node.proofs.Stays.{marks_stay}
use Rattle.node.proofs.laws.marks_stay.Goals as goal

pub returns : goal.returns
returns c = marks_stay
