-- What a station does with each event: what becomes of it, what it sends, in order, and what it turns away.
use Rattle.std.specs.Prelude.{ℕ, zero, suc, Bool, true, false, cond, List, [], ◌∷◌, ◌++◌, length, Some, None, Ok, Err, vec_items, Option, Result}
use Rattle.message.specs.declared.refusals.Refusal.{Refusal}
use Rattle.message.specs.declared.refusals.Refusal.TheVariants.{NotNext, NotAwaited, NoSuchEdge}
use Rattle.message.specs.declared.packets.Packet.{Packet}
use Rattle.message.specs.declared.packets.Acknowledgement.{Acknowledgement}
use Rattle.message.specs.Bytes.{packet_of, acknowledgement_of}
use Rattle.link.specs.Ends.{End, oldest, is_next, received, is_awaited, settled, is_idle}
use Rattle.station.specs.declared.outcome.Transmission.{Transmission}
use Rattle.station.specs.declared.outcome.Transmission.TheVariants as transmission
use Rattle.station.specs.declared.outcome.Outcome.{Outcome}
use Rattle.station.specs.State.{State, state_of, link_in, link_at, with_link, place_of, woken}
use Rattle.station.specs.Work.{Progress, at_work}

pub record Did : Type 0 where
  pub state : State
  pub sends : List Transmission
  pub refusals : List Refusal

abbrev pub did_of : Outcome → Did
did_of o = record { state = state_of o.station; sends = vec_items o.sends; refusals = vec_items o.refusals }

abbrev pub packet_to : ℕ → Option Packet → List Transmission
packet_to j None = []
packet_to j (Some p) = transmission.Packet j p ∷ []

-- the oldest message of a link that is not acknowledged
abbrev pub oldest_to : End → List Transmission
oldest_to e = packet_to e.neighbour (oldest e)

-- what a packet is answered by: the last number taken
abbrev pub answer_to : End → Transmission
answer_to e = transmission.Acknowledgement e.neighbour (record { number = e.taken })

-- the oldest of each of the first n links that are picked, in order
unfoldable pub firsts : (ℕ → Bool) → List End → ℕ → List Transmission
firsts picks links zero = []
firsts picks links (suc n) = firsts picks links n ++ cond (picks n) (oldest_to (link_in links n)) []

-- any link
abbrev pub each : ℕ → Bool
each k = true

-- a link that had nothing to send before
abbrev pub idle_in : List End → ℕ → Bool
idle_in links k = is_idle (link_in links k)

-- turned away, and nothing changes
abbrev pub turned_away : Refusal → State → Did
turned_away r s = record { state = s; sends = []; refusals = r ∷ [] }

-- WAKING, or trying again: a sleeping node wakes; then the oldest message of each link goes out.
abbrev pub on_wake : State → Did
on_wake s = record { state = woken s; sends = firsts each (woken s).links (length (woken s).links); refusals = [] }

-- a packet that is the next is taken: it wakes a sleeper, and the inboxes are worked off
abbrev pub took : ℕ → Packet → State → Progress
took k p s = at_work (woken (with_link k (received p (link_at s k)) s))

-- the answer goes first, then the first packet of each link that had nothing to send before
abbrev pub answering : Transmission → State → Progress → Did
answering a s p = record { state = p.state; sends = a ∷ firsts (idle_in s.links) p.state.links (length p.state.links); refusals = p.refusals }

abbrev pub if_next : Bool → ℕ → Packet → State → Did
if_next true k p s = answering (answer_to (received p (link_at s k))) s (took k p s)
if_next false k p s = record { state = s; sends = answer_to (link_at s k) ∷ []; refusals = NotNext ∷ [] }

abbrev pub arrived : Packet → Option ℕ → State → Did
arrived p None s = turned_away NoSuchEdge s
arrived p (Some k) s = if_next (is_next (link_at s k).taken p.number) k p s

abbrev pub decoded : ℕ → Result Packet Refusal → State → Did
decoded j (Ok p) s = arrived p (place_of s.links j) s
decoded j (Err r) s = turned_away r s

-- what was read of bytes that came, and the place of the link over which it came: turned away for its form, or without such a link
abbrev pub over_link : {X : Type 0} → Result X Refusal → Option ℕ → Result (ℕ × X) Refusal
over_link (Err r) o = Err r
over_link (Ok x) None = Err NoSuchEdge
over_link (Ok x) (Some k) = Ok (k, x)

-- A PACKET from neighbour j: refused by 1 for its form, by 4 without such a link, by 2 if its number is not the next.
abbrev pub on_packet : ℕ → List ℕ → State → Did
on_packet j bytes s = decoded j (packet_of bytes) s

-- an acknowledgement that is waited for settles the oldest message, and the next one of its link goes out
abbrev pub if_awaited : Bool → ℕ → Acknowledgement → State → Did
if_awaited true k a s = record { state = with_link k (settled a (link_at s k)) s; sends = oldest_to (settled a (link_at s k)); refusals = [] }
if_awaited false k a s = turned_away NotAwaited s

abbrev pub acknowledged : Acknowledgement → Option ℕ → State → Did
acknowledged a None s = turned_away NoSuchEdge s
acknowledged a (Some k) s = if_awaited (is_awaited a (link_at s k)) k a s

abbrev pub decoded_answer : ℕ → Result Acknowledgement Refusal → State → Did
decoded_answer j (Ok a) s = acknowledged a (place_of s.links j) s
decoded_answer j (Err r) s = turned_away r s

-- AN ACKNOWLEDGEMENT from neighbour j: refused by 1 for its form, by 4 without such a link, by 3 if it is not waited for.
abbrev pub on_acknowledgement : ℕ → List ℕ → State → Did
on_acknowledgement j bytes s = decoded_answer j (acknowledgement_of bytes) s
