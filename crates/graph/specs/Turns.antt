-- The items of a text, one at a time.
use Rattle.std.specs.Prelude.{◌≡◌, ◌≢◌, ℕ, ◌+◌, List, [], ◌∷◌, length, Some, None, Ok, Err, Option, Result}
use Rattle.std.specs.Option.{IfSome}
use Rattle.graph.specs.Items.{items_of}
use Rattle.graph.specs.Lists.{edges_of}
use Rattle.graph.specs.Reading.{accepted, reading_of, edges_from, RefusedBy}
use Rattle.graph.specs.declared.edge_list.EdgeList.{EdgeList}
use Rattle.graph.specs.declared.item.Item.{Item}
use Rattle.graph.specs.declared.item.Item.TheVariants.{Blank}
use Rattle.graph.specs.declared.items.Items.{Items}
use Rattle.graph.specs.declared.valley_file.Refusal.{Refusal}

-- the items that are left
abbrev pub left_of : Items → List Item
left_of s = items_of s.lines.cursor.rest.now

-- how many lines there are in all
abbrev pub lines_in : Items → ℕ
lines_in s = s.line + length (left_of s)

-- the next item and its line's number, or that none is left
abbrev pub Next : Items → Option Item → Items → Type 0
Next s None t = (left_of s ≡ []) × (left_of t ≡ []) × (t.line ≡ s.line)
Next s (Some i) t = (left_of s ≡ i ∷ left_of t) × (t.line ≡ s.line + 1)

-- blank items are passed over, and then comes r, which is not blank
pub record Sought (s : Items) (r : Option Item) (u : Items) : Type 0 where
  pub at : Items
  pub reads : reading_of s.line (left_of s) ≡ reading_of at.line (left_of at)
  pub lines : lines_in at ≡ lines_in s
  pub next : Next at r u
  pub solid : IfSome r (λ i. i ≢ Blank)

-- after `houses` the reading goes on with the edges
abbrev pub Opened : Items → Items → Result EdgeList Refusal → Type 0
Opened s t (Ok l) = (reading_of s.line (left_of s) ≡ edges_from l.nodes (edges_of l) t.line (left_of t)) × (lines_in t ≡ lines_in s)
Opened s t (Err e) = RefusedBy (reading_of s.line (left_of s)) e

-- all items are taken
abbrev pub AllTaken : EdgeList → EdgeList → Items → Items → Result (Unit {0}) Refusal → Type 0
AllTaken l m s t (Ok u) = (edges_from l.nodes (edges_of l) s.line (left_of s) ≡ accepted m.nodes (edges_of m)) × (t.line ≡ lines_in s)
AllTaken l m s t (Err e) = RefusedBy (edges_from l.nodes (edges_of l) s.line (left_of s)) e
