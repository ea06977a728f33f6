-- Marks of edges as text, and the verdict on them.
use Rattle.std.specs.Prelude.{ℕ, cond, not, ◌||◌, List, length, fold, Some, None, codes, Option, ◌==◌}
use Rattle.std.specs.Option.{option_map_or}
use Rattle.std.specs.Str.{bytes_eq}
use Rattle.graph.specs.Lists.{edges_of, graph_of}
use Rattle.graph.specs.Marks.{fresh, marked, Judged}
use Rattle.graph.specs.Text.{word_of, after_word, number_of, lines_of}
use Rattle.graph.specs.declared.edge.WeightedEdge.{WeightedEdge}
use Rattle.graph.specs.declared.edge_list.EdgeList.{EdgeList}
use Rattle.graph.specs.declared.mark.Mark.{Mark}
use Rattle.graph.specs.declared.mark.Mark.TheVariants.{Basic, Branch, Rejected}
use Rattle.graph.specs.declared.mark.MarkLine.{MarkLine}
use Rattle.graph.specs.declared.mark.MarkedEdge.{MarkedEdge}

-- the words for marks
abbrev pub mark_word : List ℕ → Option Mark
mark_word w =
    cond (bytes_eq w (codes "unsure")) (Some Basic) (cond (bytes_eq w (codes "laid")) (Some Branch) (cond (bytes_eq w (codes "ruled")) (Some Rejected) None))

-- two numbers and a mark
abbrev pub mark_or : Option ℕ → Option ℕ → Option Mark → Option MarkLine
mark_or None b m = None
mark_or (Some a) None m = None
mark_or (Some a) (Some b) None = None
mark_or (Some a) (Some b) (Some m) = Some (record { at = a; to = b; mark = m })

-- `mark A B WORD` with nothing behind it; bs is what is behind the first word w
abbrev pub mark_line_by : List ℕ → List ℕ → Option MarkLine
mark_line_by w bs =
    cond (not (bytes_eq w (codes "mark")) || not (length (word_of (after_word (after_word (after_word bs)))) == 0)) None
    (mark_or (number_of (word_of bs)) (number_of (word_of (after_word bs))) (mark_word (word_of (after_word (after_word bs)))))

abbrev pub mark_line_of : List ℕ → Option MarkLine
mark_line_of line = mark_line_by (word_of line) (after_word line)

-- the edges after a line
abbrev pub marked_by : List MarkedEdge → List ℕ → List MarkedEdge
marked_by ms line = option_map_or (marked ms) (mark_line_of line) ms

-- the edges after some lines
abbrev pub marks_after : List MarkedEdge → List (List ℕ) → List MarkedEdge
marks_after ms lines = fold marked_by ms lines

-- the verdict on the marks of a text: none is wrong, or this edge is the lightest that is
abbrev pub Verdict : EdgeList → List ℕ → Option WeightedEdge → Type 0
Verdict l text r = Judged (graph_of l) (marks_after (fresh (edges_of l)) (lines_of text)) r
