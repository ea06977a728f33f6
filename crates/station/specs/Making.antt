-- A station as it is made, and which neighbours it can have.
use Rattle.std.specs.Prelude.{◌≡◌, ℕ, zero, suc, Bool, cond, ◌||◌, ◌⊎◌, List, map, length, take, Some, None, Ok, Err, Option, Result, ◌==◌, nat_le, nat_lt, slice_index_or}
use Rattle.std.specs.List.{list_any}
use Rattle.graph.specs.declared.edge.Neighbour.{Neighbour}
use Rattle.graph.specs.declared.fault.Fault.{Fault}
use Rattle.graph.specs.declared.fault.Fault.TheVariants.{NodeOutOfRange, OwnNode, WeightOutOfRange, EdgeTwice, WeightTwice, TooManyEdges, NoMemory}
use Rattle.node.specs.Rules.{fresh}
use Rattle.link.specs.Ends.{new_end}
use Rattle.station.specs.declared.state.Station.{Station}
use Rattle.station.specs.State.{State, state_of}

-- a sleeping node, and links over which nothing was sent
abbrev pub fresh_state : ℕ → List Neighbour → State
fresh_state i ns = record { number = i; node = fresh (map (λ n. n.weight) ns); links = map (λ n. new_end n.node) ns }

-- is this node among them, or this weight among those of the edges to them
abbrev pub is_among : List Neighbour → ℕ → Bool
is_among ns j = list_any (λ n. n.node == j) ns

abbrev pub weighs_among : List Neighbour → ℕ → Bool
weighs_among ns w = list_any (λ n. n.weight == w) ns

-- why a neighbour is refused behind others, if it is: the first of these that applies
abbrev pub neighbour_fault : ℕ → List Neighbour → Neighbour → Option Fault
neighbour_fault i earlier n =
    cond (nat_le 256 n.node) (Some NodeOutOfRange)
    (cond (n.node == i) (Some OwnNode)
    (cond (nat_lt n.weight 1 || nat_lt 1000000 n.weight) (Some WeightOutOfRange)
    (cond (is_among earlier n.node) (Some EdgeTwice)
    (cond (weighs_among earlier n.weight) (Some WeightTwice) None))))

abbrev pub or_else : Option Fault → Option Fault → Option Fault
or_else None other = other
or_else (Some f) other = Some f

abbrev pub nobody : Neighbour
nobody = record { node = 0; weight = 0 }

-- the first fault among the first k neighbours
unfoldable pub fault_below : ℕ → List Neighbour → ℕ → Option Fault
fault_below i ns zero = None
fault_below i ns (suc k) = or_else (fault_below i ns k) (neighbour_fault i (take k ns) (slice_index_or ns k nobody))

-- why a station is not made, if it isn't: its number or one of its neighbours
abbrev pub station_fault : ℕ → List Neighbour → Option Fault
station_fault i ns = cond (nat_le 256 i) (Some NodeOutOfRange) (cond (nat_lt 16 (length ns)) (Some TooManyEdges) (fault_below i ns (length ns)))

-- made exactly if there is no fault, but for want of memory
abbrev pub Made : ℕ → List Neighbour → Result Station Fault → Type 0
Made i ns (Ok s) = (station_fault i ns ≡ None) × (state_of s ≡ fresh_state i ns)
Made i ns (Err f) = (station_fault i ns ≡ Some f) ⊎ (f ≡ NoMemory)
