-- The lines passed have set their marks.
use Rattle.std.proofs.Common.{◌≡◌, map}
use Rattle.graph.specs.MarkLines.{marks_after}
use Rattle.graph.proofs.verdict.Marks.take.Given as goal

abbrev pub invariant-loop-line : goal.invariant-loop-line
invariant-loop-line l = record {
  list : l.self.list.now ≡ l.initial.self.list.now;
  marks : l.self.edges.items ≡ marks_after l.initial.self.edges.items (map (λ line. line.now) l.yielded);
}
