-- The lines passed have set their marks, beside the edges as on the marked edges.
use Rattle.std.proofs.Common.{◌≡◌, length, map}
use Rattle.graph.specs.Lists.{edges_of}
use Rattle.graph.specs.Marks.{fresh, with_marks}
use Rattle.graph.specs.MarkLines.{marks_after}
use Rattle.graph.proofs.mark_file.judge.Given as goal

abbrev pub invariant-loop-text_line : goal.invariant-loop-text_line
invariant-loop-text_line l = record {
  places : length (edges_of l.list) ≡ length l.marks.items;
  marks : with_marks (edges_of l.list) l.marks.items ≡ marks_after (fresh (edges_of l.list)) (map (λ words. words.now) l.yielded);
}
