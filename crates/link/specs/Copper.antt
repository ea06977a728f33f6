-- One direction of a link over bad copper: who hands messages over, who takes them, and what the copper may do.
use Rattle.std.specs.Prelude.{◌≡◌, ℕ, suc, true, cond, ◌⊎◌, List, [], ◌∷◌, ◌++◌, Some, Ok, Err, Result}
use Rattle.message.specs.declared.refusals.Refusal.{Refusal}
use Rattle.message.specs.declared.refusals.Refusal.TheVariants.{Malformed}
use Rattle.message.specs.declared.messages.Message.{Message}
use Rattle.message.specs.declared.packets.Packet.{Packet}
use Rattle.message.specs.declared.packets.Acknowledgement.{Acknowledgement}
use Rattle.message.specs.Bytes.{fits, packet_bytes, packet_of, acknowledgement_bytes, acknowledgement_of}
use Rattle.message.specs.Laws.{ShortMessage}
use Rattle.link.specs.Ends.{End, new_end, giving, oldest, is_next, received, settled}

-- it stands somewhere in a list
pub data Was {A : Type 0} (x : A) : List A → Type 0 where
  first : {xs : List A} → Was x (x ∷ xs)
  later : {y : A} {xs : List A} → Was x xs → Was x (y ∷ xs)

-- THE COPPER'S RULE. History: all bytes that were ever sent that way. What comes was sent, at any time before and however often it has come already, or it is damaged, and damage shows: decoding refuses it.
abbrev pub PacketMayCome : List (List ℕ) → List ℕ → Type 0
PacketMayCome history bytes = Was bytes history ⊎ (packet_of bytes ≡ Err Malformed)

abbrev pub AnswerMayCome : List (List ℕ) → List ℕ → Type 0
AnswerMayCome history bytes = Was bytes history ⊎ (acknowledgement_of bytes ≡ Err Malformed)

-- what an end does with bytes that come as a packet, and with those that come as an acknowledgement
abbrev pub by_packet : Result Packet Refusal → End → End
by_packet (Ok p) e = received p e
by_packet (Err r) e = e

abbrev pub by_answer : Result Acknowledgement Refusal → End → End
by_answer (Ok a) e = settled a e
by_answer (Err r) e = e

-- what of a packet is taken
abbrev pub took_of : Result Packet Refusal → End → List Message
took_of (Ok p) e = cond (is_next e.taken p.number) (p.message ∷ []) []
took_of (Err r) e = []

-- from, to: the end that hands over and the end that takes. The rest no box holds: given, took: all messages ever given to the one and taken by the other, the oldest first; packets, answers: all bytes ever sent, forth and back
pub record Direction : Type 0 where
  pub from : End
  pub to : End
  pub given : List Message
  pub took : List Message
  pub packets : List (List ℕ)
  pub answers : List (List ℕ)

-- between nodes i and j, before anything was sent
abbrev pub unused : ℕ → ℕ → Direction
unused i j = record { from = new_end j; to = new_end i; given = []; took = []; packets = []; answers = [] }

-- the node has a message more to hand over
abbrev pub gave : Message → Direction → Direction
gave m d = record { from = giving m d.from; to = d.to; given = d.given ++ (m ∷ []); took = d.took; packets = d.packets; answers = d.answers }

-- a packet is sent, for the first time or again
abbrev pub sent : Packet → Direction → Direction
sent p d = record { from = d.from; to = d.to; given = d.given; took = d.took; packets = d.packets ++ (packet_bytes p ∷ []); answers = d.answers }

-- bytes come to the end that takes
abbrev pub came : List ℕ → Direction → Direction
came bytes d = record { from = d.from; to = by_packet (packet_of bytes) d.to; given = d.given; took = d.took ++ took_of (packet_of bytes) d.to; packets = d.packets; answers = d.answers }

-- it acknowledges the last number taken
abbrev pub answer_of : Direction → List ℕ
answer_of d = acknowledgement_bytes (record { number = d.to.taken })

abbrev pub answered : Direction → Direction
answered d = record { from = d.from; to = d.to; given = d.given; took = d.took; packets = d.packets; answers = d.answers ++ (answer_of d ∷ []) }

-- bytes come back to the end that hands over
abbrev pub came_back : List ℕ → Direction → Direction
came_back bytes d = record { from = by_answer (acknowledgement_of bytes) d.from; to = d.to; given = d.given; took = d.took; packets = d.packets; answers = d.answers }

-- the node takes or defers what waits in the inbox: other messages wait there then
abbrev pub worked : List Message → Direction → Direction
worked inbox d =
    record {
      from = d.from;
      to = record { neighbour = d.to.neighbour; acknowledged = d.to.acknowledged; outbox = d.to.outbox; taken = d.to.taken; inbox = inbox };
      given = d.given;
      took = d.took;
      packets = d.packets;
      answers = d.answers;
    }

-- WHAT MAY HAPPEN, in any order and as often as it likes. That nothing comes of what was sent is loss.
pub data Move : Direction → Direction → Type 0 where
  gives : (d : Direction) (m : Message) → fits m ≡ true → ShortMessage m → Move d (gave m d)
  sends : (d : Direction) (p : Packet) → oldest d.from ≡ Some p → Move d (sent p d)
  comes : (d : Direction) (bytes : List ℕ) → PacketMayCome d.packets bytes → Move d (came bytes d)
  answers : (d : Direction) → Move d (answered d)
  comes_back : (d : Direction) (bytes : List ℕ) → AnswerMayCome d.answers bytes → Move d (came_back bytes d)
  works : (d : Direction) (inbox : List Message) → Move d (worked inbox d)

-- some moves, one after another
pub data Moves : Direction → Direction → Type 0 where
  none : {d : Direction} → Moves d d
  more : {d e f : Direction} → Moves d e → Move e f → Moves d f

-- a delivery: the oldest message is sent, that packet comes, it is acknowledged, and that acknowledgement comes back; before, between and behind anything may happen
pub data Delivery (d : Direction) : Direction → Type 0 where
  delivery : {e f g h i : Direction} (p : Packet) → Moves d e → oldest e.from ≡ Some p → Moves (sent p e) f → Moves (came (packet_bytes p) f) g → Moves (answered g) h →
      Moves (came_back (answer_of g) h) i → Delivery d i

-- so many deliveries, one after another
pub data Deliveries : ℕ → Direction → Direction → Type 0 where
  none : {d : Direction} → Deliveries 0 d d
  more : {n : ℕ} {d e f : Direction} → Deliveries n d e → Delivery e f → Deliveries (suc n) d f
