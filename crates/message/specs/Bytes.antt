-- The bytes of messages, packets and acknowledgements, high byte first.
use Rattle.std.specs.Prelude.{◌≡◌, ℕ, ◌+◌, ◌-◌, ◌*◌, ◌/◌, ◌%◌, Bool, true, false, cond, not, ◌&&◌, List, [], ◌∷◌, ◌++◌, length, take, drop, Ok, Err, sum, Result, ◌==◌, nat_le, slice_index, None, Some, Option}
use Rattle.message.specs.declared.refusals.Refusal.{Refusal}
use Rattle.message.specs.declared.refusals.Refusal.TheVariants.{Malformed}
use Rattle.message.specs.declared.messages.Phase.{Phase}
use Rattle.message.specs.declared.messages.Phase.TheVariants.{Find, Found}
use Rattle.message.specs.declared.messages.Message.{Message}
use Rattle.message.specs.declared.messages.Message.TheVariants.{Connect, Initiate, Test, Accept, Reject, Report, Change}
use Rattle.message.specs.declared.messages.Unsent.{Unsent}
use Rattle.message.specs.declared.messages.Unsent.TheVariants.{Memory, Unfit}
use Rattle.message.specs.declared.packets.Packet.{Packet}
use Rattle.message.specs.declared.packets.Acknowledgement.{Acknowledgement}

-- a number of 32 bits as four bytes
abbrev pub word : ℕ → List ℕ
word n = (n / 16777216 % 256) ∷ (n / 65536 % 256) ∷ (n / 256 % 256) ∷ (n % 256) ∷ []

-- the number that four bytes are, from the i-th on
abbrev pub word_at : List ℕ → ℕ → ℕ
word_at bs i = slice_index bs i * 16777216 + slice_index bs (i + 1) * 65536 + slice_index bs (i + 2) * 256 + slice_index bs (i + 3)

abbrev pub phase_byte : Phase → ℕ
phase_byte Find = 1
phase_byte Found = 2

-- the phase that a byte stands for
abbrev pub phase_of : ℕ → Result Phase Refusal
phase_of b = cond (b == 1) (Ok Find) (cond (b == 2) (Ok Found) (Err Malformed))

-- no weight is 0, so that 0 can stand for none
abbrev pub weight_or_zero : Option ℕ → ℕ
weight_or_zero None = 0
weight_or_zero (Some w) = w

-- a kind, and then the fields
abbrev pub message_bytes : Message → List ℕ
message_bytes (Connect l) = 1 ∷ l ∷ []
message_bytes (Initiate l n p) = 2 ∷ l ∷ (word n ++ (phase_byte p ∷ []))
message_bytes (Test l n) = 3 ∷ l ∷ word n
message_bytes Accept = 4 ∷ []
message_bytes Reject = 5 ∷ []
message_bytes (Report b) = 6 ∷ word (weight_or_zero b)
message_bytes Change = 7 ∷ []

-- a level is at most 8
abbrev pub low : ℕ → Bool
low l = nat_le l 8

abbrev pub weighs : Option ℕ → Bool
weighs None = true
weighs (Some w) = not (w == 0)

-- each field has its place in the bytes
abbrev pub fits : Message → Bool
fits (Connect l) = low l
fits (Initiate l n p) = low l
fits (Test l n) = low l
fits Accept = true
fits Reject = true
fits (Report b) = weighs b
fits Change = true

-- why something has no bytes: for want of memory only if it fits
abbrev pub WhyUnsent : Unsent → Bool → Type 0
WhyUnsent Memory ok = ok ≡ true
WhyUnsent Unfit ok = ok ≡ false

-- n bytes of a kind
abbrev pub kind : List ℕ → ℕ → ℕ → Bool
kind bs k n = length bs == n && slice_index bs 0 == k

abbrev pub outgoing_of : ℕ → Option ℕ
outgoing_of n = cond (n == 0) None (Some n)

-- the message that these bytes are, or that they are none
abbrev pub message_of : List ℕ → Result Message Refusal
message_of bs =
    cond (kind bs 1 2 && low (slice_index bs 1)) (Ok (Connect (slice_index bs 1)))
    (cond (kind bs 2 7 && low (slice_index bs 1))
    (cond (slice_index bs 6 == 1) (Ok (Initiate (slice_index bs 1) (word_at bs 2) Find))
    (cond (slice_index bs 6 == 2) (Ok (Initiate (slice_index bs 1) (word_at bs 2) Found)) (Err Malformed)))
    (cond (kind bs 3 6 && low (slice_index bs 1)) (Ok (Test (slice_index bs 1) (word_at bs 2)))
    (cond (kind bs 4 1) (Ok Accept)
    (cond (kind bs 5 1) (Ok Reject)
    (cond (kind bs 6 5) (Ok (Report (outgoing_of (word_at bs 1))))
    (cond (kind bs 7 1) (Ok Change) (Err Malformed)))))))

-- the sum of the bytes, cut to 16 bits
abbrev pub checksum_of : List ℕ → ℕ
checksum_of bs = sum bs % 65536

-- the bytes with their sum behind
abbrev pub sealed : List ℕ → List ℕ
sealed bs = bs ++ ((checksum_of bs / 256 % 256) ∷ (checksum_of bs % 256) ∷ [])

-- do the last two bytes say the sum of those before
abbrev pub is_sealed : List ℕ → Bool
is_sealed bs = checksum_of (take (length bs - 2) bs) == slice_index bs (length bs - 2) * 256 + slice_index bs (length bs - 1)

-- are they a kind, a number of four bytes, something more, and the sum of these
abbrev pub is_frame : ℕ → List ℕ → Bool
is_frame k bs = (nat_le 7 (length bs) && slice_index bs 0 == k) && is_sealed bs

-- what stands between the number and the sum
abbrev pub framed : List ℕ → List ℕ
framed bs = take (length bs - 2 - 5) (drop 5 bs)

abbrev pub packet_bytes : Packet → List ℕ
packet_bytes p = sealed (71 ∷ (word p.number ++ message_bytes p.message))

abbrev pub numbered : ℕ → Result Message Refusal → Result Packet Refusal
numbered n (Ok m) = Ok (record { number = n; message = m })
numbered n (Err e) = Err e

-- the packet that these bytes are, or that they are none
abbrev pub packet_of : List ℕ → Result Packet Refusal
packet_of bs =
    cond (nat_le 7 (length bs) && slice_index bs 0 == 71)
    (cond (is_sealed bs) (numbered (word_at bs 1) (message_of (take (length bs - 2 - 5) (drop 5 bs)))) (Err Malformed))
    (Err Malformed)

abbrev pub acknowledgement_bytes : Acknowledgement → List ℕ
acknowledgement_bytes a = sealed (72 ∷ word a.number)

-- the acknowledgement that these bytes are, or that they are none
abbrev pub acknowledgement_of : List ℕ → Result Acknowledgement Refusal
acknowledgement_of bs = cond (kind bs 72 7 && is_sealed bs) (Ok (record { number = word_at bs 1 })) (Err Malformed)
