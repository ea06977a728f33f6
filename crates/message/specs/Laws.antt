-- What the bytes promise: what is encoded is decoded to itself, and nothing else is decoded.
use Rattle.std.specs.Prelude.{◌≡◌, ℕ, ◌^◌, ◌<◌, true, List, length, Ok, slice_index, None, Some, Option}
use Rattle.message.specs.declared.messages.Message.{Message}
use Rattle.message.specs.declared.messages.Message.TheVariants.{Connect, Initiate, Test, Accept, Reject, Report, Change}
use Rattle.message.specs.declared.packets.Packet.{Packet}
use Rattle.message.specs.declared.packets.Acknowledgement.{Acknowledgement}
use Rattle.message.specs.Bytes.{fits, message_bytes, message_of, packet_bytes, packet_of, acknowledgement_bytes, acknowledgement_of}

-- a number of 32 bits
abbrev pub Short : ℕ → Type 0
Short n = n < 2 ^ 32

abbrev pub ShortOutgoing : Option ℕ → Type 0
ShortOutgoing None = Unit {0}
ShortOutgoing (Some w) = Short w

-- names and weights have 32 bits, as in the code's own type
abbrev pub ShortMessage : Message → Type 0
ShortMessage (Connect l) = Unit {0}
ShortMessage (Initiate l n p) = Short n
ShortMessage (Test l n) = Short n
ShortMessage Accept = Unit {0}
ShortMessage Reject = Unit {0}
ShortMessage (Report b) = ShortOutgoing b
ShortMessage Change = Unit {0}

-- each is a byte
abbrev pub Bytes : List ℕ → Type 0
Bytes bs = (k : ℕ) → k < length bs → slice_index bs k < 256

-- a message that fits is decoded to itself
abbrev pub MessageReturns : Type 0
MessageReturns = (m : Message) → ShortMessage m → fits m ≡ true → message_of (message_bytes m) ≡ Ok m

-- bytes that are decoded are the bytes of what comes of them, and of nothing else
abbrev pub MessageDecodedOnly : Type 0
MessageDecodedOnly = (bs : List ℕ) (m : Message) → Bytes bs → message_of bs ≡ Ok m → (bs ≡ message_bytes m) × (fits m ≡ true)

abbrev pub PacketReturns : Type 0
PacketReturns = (p : Packet) → Short p.number → ShortMessage p.message → fits p.message ≡ true → packet_of (packet_bytes p) ≡ Ok p

-- so damage is refused, or makes of a packet just what another one would be
abbrev pub PacketDecodedOnly : Type 0
PacketDecodedOnly = (bs : List ℕ) (p : Packet) → Bytes bs → packet_of bs ≡ Ok p → (bs ≡ packet_bytes p) × (fits p.message ≡ true)

abbrev pub AcknowledgementReturns : Type 0
AcknowledgementReturns = (a : Acknowledgement) → Short a.number → acknowledgement_of (acknowledgement_bytes a) ≡ Ok a

abbrev pub AcknowledgementDecodedOnly : Type 0
AcknowledgementDecodedOnly = (bs : List ℕ) (a : Acknowledgement) → Bytes bs → acknowledgement_of bs ≡ Ok a → bs ≡ acknowledgement_bytes a
