-- Stations by number, what an event does to them, and the copper between them, which loses, doubles, delays, reorders and damages.
use Rattle.std.specs.Prelude.{ℕ, zero, suc, ◌<◌, Bool, true, false, cond, List, [], ◌∷◌, ◌++◌, length, take, ◌==◌, slice_index_or, slice_set}
use Rattle.graph.specs.declared.edge.WeightedEdge.{WeightedEdge}
use Rattle.graph.specs.Edges.{neighbours_of}
use Rattle.message.specs.Bytes as message
use Rattle.message.specs.Bytes.{packet_bytes, acknowledgement_bytes}
use Rattle.link.specs.Copper.{PacketMayCome, AnswerMayCome}
use Rattle.station.specs.declared.outcome.Transmission.{Transmission}
use Rattle.station.specs.declared.outcome.Transmission.TheVariants.{Packet, Acknowledgement}
use Rattle.station.specs.State.{State}
use Rattle.station.specs.Events.{Did, on_wake, on_packet, on_acknowledgement}
use Rattle.station.specs.Making.{fresh_state}
use Rattle.page.specs.Page.{fits}
use Rattle.network.specs.declared.fate.Fate.{Fate}
use Rattle.network.specs.declared.fate.Fate.TheVariants.{Lost, Kept, Whole}

-- no station, as past the end of a list
abbrev pub no_state : State
no_state = fresh_state 0 []

abbrev pub state_in : List State → ℕ → State
state_in states i = slice_index_or states i no_state

-- wakes i: station i is woken, or tries again; comes i j bytes, comes_back i j bytes: to station i come bytes from j, as a packet and as an acknowledgement
pub data Event : Type 0 where
  wakes : (i : ℕ) → Event
  comes : (i j : ℕ) → List ℕ → Event
  comes_back : (i j : ℕ) → List ℕ → Event

-- the station to which it happens
abbrev pub station_of : Event → ℕ
station_of (wakes i) = i
station_of (comes i j bytes) = i
station_of (comes_back i j bytes) = i

-- what that station makes of it
abbrev pub did_by : Event → State → Did
did_by (wakes i) s = on_wake s
did_by (comes i j bytes) s = on_packet j bytes s
did_by (comes_back i j bytes) s = on_acknowledgement j bytes s

unfoldable pub doing : Event → List State → Did
doing e states = did_by e (state_in states (station_of e))

-- does the event stand: the power did not go before the new page was there, and that page is not too long
abbrev pub stands : Fate → Did → Bool
stands Lost d = false
stands (Kept k) d = fits d.state
stands Whole d = fits d.state

-- how much of what is sent goes out
abbrev pub goes_out : Fate → List Transmission → List Transmission
goes_out Lost sends = []
goes_out (Kept k) sends = take k sends
goes_out Whole sends = sends

-- THE EFFECT OF AN EVENT on the stations, and what goes over the copper.
abbrev pub states_after : Event → Fate → List State → List State
states_after e f states = elim (stands f (doing e states)) [ true ↦ slice_set states (station_of e) (doing e states).state | false ↦ states ]

abbrev pub sent_by : Event → Fate → List State → List Transmission
sent_by e f states = elim (stands f (doing e states)) [ true ↦ goes_out f (doing e states).sends | false ↦ [] ]

-- of these, the bytes of the packets to a neighbour, and of the acknowledgements; a message that has no bytes cannot be sent
unfoldable pub packets_to : ℕ → List Transmission → List (List ℕ)
packets_to j [] = []
packets_to j (Packet to p ∷ rest) = cond (to == j) (cond (message.fits p.message) (packet_bytes p ∷ packets_to j rest) (packets_to j rest)) (packets_to j rest)
packets_to j (Acknowledgement to a ∷ rest) = packets_to j rest

unfoldable pub answers_to : ℕ → List Transmission → List (List ℕ)
answers_to j [] = []
answers_to j (Packet to p ∷ rest) = answers_to j rest
answers_to j (Acknowledgement to a ∷ rest) = cond (to == j) (acknowledgement_bytes a ∷ answers_to j rest) (answers_to j rest)

-- the stations, and what no box holds, the history of the copper: packets i j: all bytes that i ever sent to j as packets; answers i j: all that j ever sent back to i as acknowledgements of these
pub record World : Type 0 where
  pub states : List State
  pub packets : ℕ → ℕ → List (List ℕ)
  pub answers : ℕ → ℕ → List (List ℕ)

abbrev pub happens : Event → Fate → World → World
happens e f w =
    record {
      states = states_after e f w.states;
      packets = λ a b. w.packets a b ++ cond (a == station_of e) (packets_to b (sent_by e f w.states)) [];
      answers = λ a b. w.answers a b ++ cond (b == station_of e) (answers_to a (sent_by e f w.states)) [];
    }

-- THE RULES OF THE COPPER. A station wakes at any time. What comes to it from j was sent to it by j, at any time before and however often it has come already, or it is damaged, and damage shows. What was sent and never comes is lost.
abbrev pub May : World → Event → Type 0
May w (wakes i) = i < length w.states
May w (comes i j bytes) = (i < length w.states) × PacketMayCome (w.packets j i) bytes
May w (comes_back i j bytes) = (i < length w.states) × AnswerMayCome (w.answers i j) bytes

-- every list of events, each with its fate
pub data After (w : World) : World → Type 0 where
  nothing : After w w
  next : {v : World} → After w v → (e : Event) (f : Fate) → May v e → After w (happens e f v)

-- every list of events during which the power does not go
pub data Onward (w : World) : World → Type 0 where
  nothing : Onward w w
  next : {v : World} → Onward w v → (e : Event) → May v e → Onward w (happens e Whole v)

-- the first n stations of a valley, as they are made: asleep, and nothing was sent
unfoldable pub fresh_states : List WeightedEdge → ℕ → List State
fresh_states es zero = []
fresh_states es (suc n) = fresh_states es n ++ (fresh_state n (neighbours_of es n) ∷ [])

abbrev pub start : ℕ → List WeightedEdge → World
start n es = record { states = fresh_states es n; packets = λ a b. []; answers = λ a b. [] }
