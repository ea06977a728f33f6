-- What the lines of a valley file say.
use Rattle.std.specs.Prelude.{ℕ, cond, ◌||◌, List, map, length, Some, None, codes, Option, ◌==◌, slice_index}
use Rattle.std.specs.Option.{option_map_or}
use Rattle.std.specs.Str.{bytes_eq}
use Rattle.graph.specs.Text.{word_of, after_word, number_of, lines_of}
use Rattle.graph.specs.declared.edge.WeightedEdge.{WeightedEdge}
use Rattle.graph.specs.declared.item.Item.{Item}
use Rattle.graph.specs.declared.item.Item.TheVariants.{Blank, Houses, Line, Unknown}

-- x, where nothing is left
abbrev pub ended : {X : Type 0} → List ℕ → X → Option X
ended end x = cond (length end == 0) (Some x) None

-- a number with nothing behind it
abbrev pub count_of : Option ℕ → List ℕ → Option ℕ
count_of None end = None
count_of (Some n) end = ended end n

abbrev pub count_behind : List ℕ → Option ℕ
count_behind bs = count_of (number_of (word_of bs)) (word_of (after_word bs))

-- three numbers with nothing behind them
abbrev pub edge_of : Option ℕ → Option ℕ → Option ℕ → List ℕ → Option WeightedEdge
edge_of None b w end = None
edge_of (Some a) None w end = None
edge_of (Some a) (Some b) None end = None
edge_of (Some a) (Some b) (Some w) end = ended end (record { a = a; b = b; weight = w })

abbrev pub edge_behind : List ℕ → Option WeightedEdge
edge_behind bs =
    edge_of (number_of (word_of bs)) (number_of (word_of (after_word bs))) (number_of (word_of (after_word (after_word bs)))) (word_of (after_word (after_word (after_word bs))))

-- by its first word w: nothing, or a comment, `houses` or `line`
abbrev pub item_by : List ℕ → List ℕ → Item
item_by w rest =
    cond (length w == 0 || slice_index w 0 == 35) Blank
    (cond (bytes_eq w (codes "houses")) (option_map_or Houses (count_behind rest) Unknown) (cond (bytes_eq w (codes "line")) (option_map_or Line (edge_behind rest) Unknown) Unknown))

-- what a line says
abbrev pub item_of : List ℕ → Item
item_of bs = item_by (word_of bs) (after_word bs)

-- what the lines of a text say, in order
abbrev pub items_of : List ℕ → List Item
items_of text = map item_of (lines_of text)
