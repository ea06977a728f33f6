-- Marks of edges, and when they are those of the lightest net.
use Rattle.std.specs.Prelude.{◌≡◌, ℕ, ◌≤◌, Bool, cond, Decides, List, [], ◌∷◌, map, position, All, Any, Some, None, Option, ◌==◌, slice_index_or, slice_set}
use Rattle.graph.specs.Graph.{Graph, Belongs}
use Rattle.graph.specs.Edges.{between, no_edge}
use Rattle.graph.specs.declared.edge.WeightedEdge.{WeightedEdge}
use Rattle.graph.specs.declared.mark.Mark.{Mark}
use Rattle.graph.specs.declared.mark.Mark.TheVariants.{Basic, Branch, Rejected}
use Rattle.graph.specs.declared.mark.MarkLine.{MarkLine}
use Rattle.graph.specs.declared.mark.EndMarks.{EndMarks}
use Rattle.graph.specs.declared.mark.MarkedEdge.{MarkedEdge}

-- both ends have this mark
abbrev pub Both : EndMarks → Mark → Type 0
Both m k = (m.a ≡ k) × (m.b ≡ k)

-- an edge that belongs is a branch at both ends, and one that does not is rejected at both
abbrev pub Right : Graph → WeightedEdge → EndMarks → Type 0
Right g e m = (Belongs g e.a e.b → Both m Branch) × ((Belongs g e.a e.b → ⊥) → Both m Rejected)

-- an edge that nobody has decided on
abbrev pub undecided : WeightedEdge → MarkedEdge
undecided e = record { edge = e; ends = record { a = Basic; b = Basic } }

-- edges that nobody has decided on
abbrev pub fresh : List WeightedEdge → List MarkedEdge
fresh es = map undecided es

-- an edge is marked wrong
abbrev pub Wrong : Graph → MarkedEdge → Type 0
Wrong g m = Right g m.edge m.ends → ⊥

-- an answer tells whether an edge is marked wrong
pub record TellsWrong (g : Graph) (m : MarkedEdge) (b : Bool) : Type 0 where
  pub decides : Decides b (Wrong g m)

-- all edges are marked right, or this is the lightest that is not
abbrev pub Judged : Graph → List MarkedEdge → Option WeightedEdge → Type 0
Judged g ms None = All (λ m. Right g m.edge m.ends) ms
Judged g ms (Some e) = Any (λ m. (m.edge ≡ e) × Wrong g m) ms × All (λ m. Wrong g m → e.weight ≤ m.edge.weight) ms

-- an edge with a new mark at one end
abbrev pub with_mark : MarkedEdge → MarkLine → MarkedEdge
with_mark m l =
    record {
      edge = m.edge;
      ends = cond (m.edge.a == l.at) (record { a = l.mark; b = m.ends.b }) (record { a = m.ends.a; b = l.mark });
    }

-- the edges with a new mark at one place, if there is one
abbrev pub marked_at : List MarkedEdge → MarkLine → Option ℕ → List MarkedEdge
marked_at ms l None = ms
marked_at ms l (Some i) = slice_set ms i (with_mark (slice_index_or ms i (undecided no_edge)) l)

-- the edges with a new mark, on the first between its two nodes; where there is none nothing changes
abbrev pub marked : List MarkedEdge → MarkLine → List MarkedEdge
marked ms l = marked_at ms l (position (λ m. between m.edge l.at l.to) ms)

-- the marks of an edge that nobody has decided on
abbrev pub unmarked : EndMarks
unmarked = record { a = Basic; b = Basic }

-- the edges of a list, each with the marks at its place beside it; past the end of the marks nobody has decided
unfoldable pub with_marks : List WeightedEdge → List EndMarks → List MarkedEdge
with_marks [] ms = []
with_marks (e ∷ es) [] = undecided e ∷ with_marks es []
with_marks (e ∷ es) (m ∷ ms) = record { edge = e; ends = m } ∷ with_marks es ms

-- the marks with a new one at one place, if there is one
abbrev pub marks_with_at : List WeightedEdge → List EndMarks → MarkLine → Option ℕ → List EndMarks
marks_with_at es ms l None = ms
marks_with_at es ms l (Some i) = slice_set ms i (with_mark (record { edge = slice_index_or es i no_edge; ends = slice_index_or ms i unmarked }) l).ends

-- the marks beside a list with a new one, on its first edge between the two nodes; where there is none, or no place for its marks, nothing changes
abbrev pub marks_with : List WeightedEdge → List EndMarks → MarkLine → List EndMarks
marks_with es ms l = marks_with_at es ms l (position (λ e. between e l.at l.to) es)
