-- Reading a valley file: its items are taken one at a time, and the first that is at fault refuses the file.
use Rattle.std.specs.Prelude.{◌≡◌, ℕ, ◌+◌, ◌⊎◌, List, [], ◌∷◌, ◌++◌, length, Some, None, Ok, Err, Option, Result, codes}
use Rattle.std.specs.Fmt.{decimal}
use Rattle.message.specs.Refusals.{number_of}
use Rattle.message.specs.declared.refusals.Refusal.{Refusal as MessageRefusal}
use Rattle.graph.specs.Graph.{Connected}
use Rattle.graph.specs.Edges.{graph_from}
use Rattle.graph.specs.Faults.{count_fault, edge_fault, refusal_of, words_of}
use Rattle.graph.specs.Items.{items_of}
use Rattle.graph.specs.Lists.{edges_of, graph_of}
use Rattle.graph.specs.declared.edge.WeightedEdge.{WeightedEdge}
use Rattle.graph.specs.declared.edge_list.EdgeList.{EdgeList}
use Rattle.graph.specs.declared.fault.Fault.{Fault}
use Rattle.graph.specs.declared.fault.Fault.TheVariants.{NotUnderstood, NoCount, CountTwice, Apart, NoMemory}
use Rattle.graph.specs.declared.item.Item.{Item}
use Rattle.graph.specs.declared.item.Item.TheVariants.{Blank, Houses, Line, Unknown}
use Rattle.graph.specs.declared.valley_file.Refusal.{Refusal}

-- what comes of a file: so many nodes and these edges, or a line and what is wrong with it
pub data Reading : Type 0 where
  accepted : (n : ℕ) → List WeightedEdge → Reading
  refused : (line : ℕ) → Fault → Reading

-- why an item is refused after `houses`, if it is
abbrev pub item_fault : ℕ → List WeightedEdge → Item → Option Fault
item_fault n es Blank = None
item_fault n es (Houses m) = Some CountTwice
item_fault n es (Line e) = edge_fault n es e
item_fault n es Unknown = Some NotUnderstood

-- the edges after an item
abbrev pub after_item : List WeightedEdge → Item → List WeightedEdge
after_item es Blank = es
after_item es (Houses m) = es
after_item es (Line e) = es ++ e ∷ []
after_item es Unknown = es

-- on with the reading, unless there is a fault
abbrev pub unless : Option Fault → ℕ → Reading → Reading
unless None line r = r
unless (Some f) line r = refused line f

-- the rest of a file of n nodes, after these edges and so many lines
unfoldable pub edges_from : ℕ → List WeightedEdge → ℕ → List Item → Reading
edges_from n es line [] = accepted n es
edges_from n es line (i ∷ is) = unless (item_fault n es i) (line + 1) (edges_from n (after_item es i) (line + 1) is)

-- why an item is refused before `houses`, if it is
abbrev pub first_fault : Item → Option Fault
first_fault Blank = None
first_fault (Houses n) = count_fault n
first_fault (Line e) = Some NoCount
first_fault Unknown = Some NotUnderstood

-- on from an item: with the edges after `houses`, else in search of it
abbrev pub after_first : Item → ℕ → List Item → Reading → Reading
after_first Blank line is r = r
after_first (Houses n) line is r = edges_from n [] line is
after_first (Line e) line is r = r
after_first Unknown line is r = r

-- a file, after so many lines
unfoldable pub reading_of : ℕ → List Item → Reading
reading_of line [] = refused (line + 1) NoCount
reading_of line (i ∷ is) = unless (first_fault i) (line + 1) (after_first i (line + 1) is (reading_of (line + 1) is))

-- an item is taken exactly if it has no fault, but for want of memory; refused, it changes nothing
abbrev pub Taken : EdgeList → EdgeList → Item → Result (Unit {0}) Fault → Type 0
Taken l m i (Ok u) = (item_fault l.nodes (edges_of l) i ≡ None) × (m.nodes ≡ l.nodes) × (edges_of m ≡ after_item (edges_of l) i)
Taken l m i (Err f) = ((item_fault l.nodes (edges_of l) i ≡ Some f) ⊎ (f ≡ NoMemory)) × (m.nodes ≡ l.nodes) × (edges_of m ≡ edges_of l)

-- a reading was refused so, or memory was wanting
abbrev pub RefusedBy : Reading → Refusal → Type 0
RefusedBy r e = (r ≡ refused e.line e.fault) ⊎ (e.fault ≡ NoMemory)

-- a list of edges is what the text says and all its nodes can be joined; else the first fault, or, at the last line, that they cannot
abbrev pub Read : List ℕ → Result EdgeList Refusal → Type 0
Read text (Ok l) = (reading_of 0 (items_of text) ≡ accepted l.nodes (edges_of l)) × Connected (graph_of l)
Read text (Err e) =
    RefusedBy (reading_of 0 (items_of text)) e ⊎
    ((n : ℕ) × (es : List WeightedEdge) × (reading_of 0 (items_of text) ≡ accepted n es) × (Connected (graph_from n es) → ⊥) × (e.fault ≡ Apart) × (e.line ≡ length (items_of text)))

-- what a person is told of a refusal: its number and its line, or that memory is wanting
abbrev pub told_as : Option MessageRefusal → Refusal → List ℕ
told_as None r = words_of r.fault
told_as (Some n) r = codes "refused " ++ decimal (number_of n) ++ codes ": line " ++ decimal r.line ++ codes ": " ++ words_of r.fault

abbrev pub told_of : Refusal → List ℕ
told_of r = told_as (refusal_of r.fault) r
