-- Why a valley file or an edge is refused.
use Rattle.std.specs.Prelude.{ℕ, cond, not, ◌&&◌, ◌||◌, List, length, Some, None, Ok, Err, Option, Result, codes, ◌==◌, nat_le, nat_lt}
use Rattle.graph.specs.Edges.{weight_in, has_weight, neighbours_of}
use Rattle.message.specs.declared.refusals.Refusal.{Refusal}
use Rattle.message.specs.declared.refusals.Refusal.TheVariants.{UnsoundGraph}
use Rattle.graph.specs.declared.edge.WeightedEdge.{WeightedEdge}
use Rattle.graph.specs.declared.fault.Fault.{Fault}
use Rattle.graph.specs.declared.fault.Fault.TheVariants.{NotUnderstood, NoCount, CountTwice, CountOutOfRange, NodeOutOfRange, OwnNode, WeightOutOfRange, EdgeTwice, WeightTwice, TooManyEdges, Apart, NoMemory}

-- a bad valley file is one refusal; want of memory is none
abbrev pub refusal_of : Fault → Option Refusal
refusal_of NotUnderstood = Some UnsoundGraph
refusal_of NoCount = Some UnsoundGraph
refusal_of CountTwice = Some UnsoundGraph
refusal_of CountOutOfRange = Some UnsoundGraph
refusal_of NodeOutOfRange = Some UnsoundGraph
refusal_of OwnNode = Some UnsoundGraph
refusal_of WeightOutOfRange = Some UnsoundGraph
refusal_of EdgeTwice = Some UnsoundGraph
refusal_of WeightTwice = Some UnsoundGraph
refusal_of TooManyEdges = Some UnsoundGraph
refusal_of Apart = Some UnsoundGraph
refusal_of NoMemory = None

-- a number for each fault
abbrev pub code_of : Fault → ℕ
code_of NotUnderstood = 1
code_of NoCount = 2
code_of CountTwice = 3
code_of CountOutOfRange = 4
code_of NodeOutOfRange = 5
code_of OwnNode = 6
code_of WeightOutOfRange = 7
code_of EdgeTwice = 8
code_of WeightTwice = 9
code_of TooManyEdges = 10
code_of Apart = 11
code_of NoMemory = 12

-- what a person is told
abbrev pub words_of : Fault → List ℕ
words_of NotUnderstood = codes "neither `houses N` nor `line A B L`"
words_of NoCount = codes "`houses N` has to come first"
words_of CountTwice = codes "`houses N` stands here a second time"
words_of CountOutOfRange = codes "there have to be 1 to 256 houses"
words_of NodeOutOfRange = codes "there is no such house"
words_of OwnNode = codes "the line leads from a house to itself"
words_of WeightOutOfRange = codes "a length has to be 1 to 1000000"
words_of EdgeTwice = codes "these two houses have a line already"
words_of WeightTwice = codes "another line has the same length"
words_of TooManyEdges = codes "a house has more than 16 lines"
words_of Apart = codes "the houses can't all be joined"
words_of NoMemory = codes "out of memory"

-- why a number of nodes is refused, if it is
abbrev pub count_fault : ℕ → Option Fault
count_fault n = cond (nat_le 1 n && nat_le n 256) None (Some CountOutOfRange)

-- why an edge is refused after others, if it is: the first of these that applies
abbrev pub edge_fault : ℕ → List WeightedEdge → WeightedEdge → Option Fault
edge_fault n es e =
    cond (not (nat_lt e.a n && nat_lt e.b n)) (Some NodeOutOfRange)
    (cond (e.a == e.b) (Some OwnNode)
    (cond (not (nat_le 1 e.weight && nat_le e.weight 1000000)) (Some WeightOutOfRange)
    (cond (nat_le 1 (weight_in es e.a e.b)) (Some EdgeTwice)
    (cond (has_weight es e.weight) (Some WeightTwice)
    (cond (nat_le 16 (length (neighbours_of es e.a)) || nat_le 16 (length (neighbours_of es e.b))) (Some TooManyEdges) None)))))

-- what a function answers that has this fault to tell, if any
abbrev pub unless_fault : Option Fault → Result (Unit {0}) Fault
unless_fault None = Ok tt
unless_fault (Some f) = Err f
