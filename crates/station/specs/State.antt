-- What a station holds: its number, the node, and one end of a link for each of the node's edges.
use Rattle.std.specs.Prelude.{ℕ, zero, suc, List, map, Some, None, vec_items, Option, ◌==◌, slice_index_or, slice_set}
use Rattle.std.specs.List.{position, position_or_len}
use Rattle.message.specs.declared.messages.Message.{Message}
use Rattle.node.specs.declared.state.Node.{Node}
use Rattle.node.specs.declared.state.Turn.{Turn}
use Rattle.node.specs.Rules.{Sends, wakes}
use Rattle.node.specs.Laws.{sent_over}
use Rattle.link.specs.Ends.{End, end_of, new_end, giving}
use Rattle.station.specs.declared.state.Station.{Station}

pub record State : Type 0 where
  pub number : ℕ
  pub node : Node
  pub links : List End

-- the state that the code holds
abbrev pub state_of : Station → State
state_of s = record { number = s.number; node = s.node; links = map end_of (vec_items s.links) }

-- no link, as past the end of a list
abbrev pub no_link : End
no_link = new_end 0

abbrev pub link_in : List End → ℕ → End
link_in links k = slice_index_or links k no_link

-- the link at a place
abbrev pub link_at : State → ℕ → End
link_at s k = link_in s.links k

abbrev pub with_link : ℕ → End → State → State
with_link k e s = record { number = s.number; node = s.node; links = slice_set s.links k e }

-- how many links at the front lead elsewhere
abbrev pub passed : List End → ℕ → ℕ
passed links j = position_or_len (λ e. e.neighbour == j) links

-- the place of the first link to a neighbour
abbrev pub place_of : List End → ℕ → Option ℕ
place_of links j = position (λ e. e.neighbour == j) links

-- a message that is sent goes into the outbox of its place
abbrev pub gave_at : ℕ → Option Message → List End → List End
gave_at k None links = links
gave_at k (Some m) links = slice_set links k (giving m (link_in links k))

abbrev pub give_at : ℕ → Option Message → State → State
give_at k o s = record { number = s.number; node = s.node; links = gave_at k o s.links }

-- the same for the first k places
unfoldable pub gave_below : Sends → List End → ℕ → List End
gave_below sends links zero = links
gave_below sends links (suc k) = gave_at k (sent_over sends k) (gave_below sends links k)

-- the node has done a turn: it is another node, and what it sends is to be handed over
abbrev pub acted : Turn → State → State
acted t s = record { number = s.number; node = t.node; links = gave_below t.sends s.links 16 }

-- a sleeping node wakes; one that is awake stays as it is
abbrev pub woken : State → State
woken s = acted (wakes s.node) s
