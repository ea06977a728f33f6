-- What is left, after the edges so far, reads as the whole does; fewer items are left at each turn.
use Rattle.std.proofs.Common.{◌≡◌, length}
use Rattle.graph.specs.Lists.{edges_of}
use Rattle.graph.specs.Reading.{edges_from}
use Rattle.graph.specs.Turns.{left_of, lines_in}
use Rattle.graph.proofs.valley_file.take_all.Given as goal

abbrev pub invariant-loop-item : goal.invariant-loop-item
invariant-loop-item l = record {
  reads : edges_from l.initial.list.nodes (edges_of l.initial.list) l.initial.items.line (left_of l.initial.items) ≡ edges_from l.list.nodes (edges_of l.list) l.items.line (left_of l.items);
  lines : lines_in l.items ≡ lines_in l.initial.items;
}

abbrev pub decreases-loop-item : goal.decreases-loop-item
decreases-loop-item l = length (left_of l.items)
