-- Packets and acknowledgements come back from their bytes, and from no others.
use Rattle.std.proofs.Common.{◌≡◌, ℕ, ◌+◌, ◌-◌, ◌<◌, ◌≤◌, Bool, true, false, cond, ◌&&◌, eqb, leb, List, [], ◌∷◌, ◌++◌, length, get_or, take, drop, Ok, Err, Result, sym, refl, ap, ◌∙◌, arith, lit≤, length-append, length-take, get_or-drop, get_or-take, take-add, rules, None, Some}
use lib.Seq.{take-append_seam}
use Rattle.message.specs.declared.refusals.Refusal.{Refusal}
use Rattle.message.specs.declared.refusals.Refusal.TheVariants.{Malformed}
use Rattle.message.specs.declared.messages.Phase.TheVariants.{Find, Found}
use Rattle.message.specs.declared.messages.Message.{Message}
use Rattle.message.specs.declared.messages.Message.TheVariants.{Connect, Initiate, Test, Accept, Reject, Report, Change}
use Rattle.message.specs.declared.packets.Packet.{Packet}
use Rattle.message.specs.Bytes.{word, word_at, message_bytes, message_of, sealed, is_sealed, packet_bytes, numbered}
use Rattle.message.specs.Laws.{Bytes, MessageReturns, PacketReturns, PacketDecodedOnly, AcknowledgementReturns, AcknowledgementDecodedOnly}
use Rattle.message.proofs.Words.{word_back}
use Rattle.message.proofs.Decoded.{decoded_only}
use Rattle.message.proofs.Sealed.{seal, is_sealed_lem, sealed_back}

pub message_returns : MessageReturns
message_returns (Connect l) h f = search rules
message_returns (Initiate l n Find) h f = search rules
message_returns (Initiate l n Found) h f = search rules
message_returns (Test l n) h f = search rules
message_returns Accept h f = refl
message_returns Reject h f = refl
message_returns (Report None) h f = refl
message_returns (Report (Some w)) h f = search rules
message_returns Change h f = refl

some_bytes : (m : Message) → 1 ≤ length (message_bytes m)
some_bytes (Connect l) = lit≤ tt
some_bytes (Initiate l n p) = lit≤ tt
some_bytes (Test l n) = lit≤ tt
some_bytes Accept = lit≤ tt
some_bytes Reject = lit≤ tt
some_bytes (Report b) = lit≤ tt
some_bytes Change = lit≤ tt

-- the message behind five bytes and before the sum
body : (x n : ℕ) (m : Message) → take (length (sealed (x ∷ (word n ++ message_bytes m))) - 2 - 5) (drop 5 (sealed (x ∷ (word n ++ message_bytes m)))) ≡ message_bytes m
body x n m =
    let bs = x ∷ (word n ++ message_bytes m) in
    let k : length (sealed bs) - 2 - 5 ≡ length (message_bytes m) = omega (arith, length-append (message_bytes m) (seal bs)) in
    rw k (take-append_seam (message_bytes m) (seal bs))

pub packet_returns : PacketReturns
packet_returns p n s f =
    let bs = 71 ∷ (word p.number ++ message_bytes p.message) in
    let long : leb 7 (length (packet_bytes p)) ≡ true = let l = length-append (message_bytes p.message) (seal bs) in let o = some_bytes p.message in grind arith in
    let number : word_at (packet_bytes p) 1 ≡ p.number = search rules in
    simp (long, is_sealed_lem bs, body 71 p.number p.message, number, message_returns p.message s f)

-- what has to be so for a packet to come of it
opened : (long right : Bool) (n : ℕ) (r : Result Message Refusal) (p : Packet) → cond long (cond right (numbered n r) (Err Malformed)) (Err Malformed) ≡ Ok p →
    (long ≡ true) × (right ≡ true) × (r ≡ Ok p.message) × (n ≡ p.number)
opened true true n (Ok m) p e = (refl, refl, cc, cc)
opened true true n (Err x) p e = let z : ◌≡◌ {A = ℕ} 0 1 = cc in absurd (omega arith)
opened true false n r p e = let z : ◌≡◌ {A = ℕ} 0 1 = cc in absurd (omega arith)
opened false right n r p e = let z : ◌≡◌ {A = ℕ} 0 1 = cc in absurd (omega arith)

first_five : (bs : List ℕ) → 5 ≤ length bs → take 5 bs ≡ get_or bs 0 0 ∷ get_or bs 1 0 ∷ get_or bs 2 0 ∷ get_or bs 3 0 ∷ get_or bs 4 0 ∷ []
first_five [] h = absurd (omega arith)
first_five (a ∷ []) h = absurd (omega arith)
first_five (a ∷ b ∷ []) h = absurd (omega arith)
first_five (a ∷ b ∷ c ∷ []) h = absurd (omega arith)
first_five (a ∷ b ∷ c ∷ d ∷ []) h = absurd (omega arith)
first_five (a ∷ b ∷ c ∷ d ∷ e ∷ bs) h = refl

-- the first byte and the number before, whatever comes after
head_back : (bs : List ℕ) → Bytes bs → 5 ≤ length bs → take 5 bs ≡ get_or bs 0 0 ∷ word (word_at bs 1)
head_back bs h five =
    first_five bs five ∙ ap (λ r. get_or bs 0 0 ∷ r) (sym (word_back (get_or bs 1 0) (get_or bs 2 0) (get_or bs 3 0) (get_or bs 4 0) (h 1 (omega arith)) (h 2 (omega arith)) (h 3 (omega arith)) (h 4 (omega arith))))

bytes_inside : (bs : List ℕ) (k : ℕ) → Bytes bs → 5 + k ≤ length bs → Bytes (take k (drop 5 bs))
bytes_inside bs k h le j lt =
    let l : j < k = omega (arith, length-take k (drop 5 bs)) in
    rw (get_or-take, get_or-drop) (h (5 + j) (omega arith))

five_and_rest : (n : ℕ) → 7 ≤ n → (5 ≤ n) × (2 ≤ n) × (n - 2 ≡ 5 + (n - 2 - 5)) × (5 + (n - 2 - 5) ≤ n)
five_and_rest n h = (omega arith, omega arith, omega arith, omega arith)

headed : (n x : ℕ) → (leb 7 n && eqb x 71) ≡ true → (7 ≤ n) × (x ≡ 71)
headed n x e = (grind arith, grind arith)

pub packet_only : PacketDecodedOnly
packet_only bs p h e =
    let k = length bs - 2 - 5 in
    let o = opened (leb 7 (length bs) && eqb (get_or bs 0 0) 71) (is_sealed bs) (word_at bs 1) (message_of (take k (drop 5 bs))) p e in
    let long = headed (length bs) (get_or bs 0 0) o.0 in
    let at = five_and_rest (length bs) long.0 in
    let m = decoded_only (take k (drop 5 bs)) p.message (bytes_inside bs k h at.3) o.2 in
    let split : take (length bs - 2) bs ≡ 71 ∷ (word p.number ++ message_bytes p.message) =
    rw (at.2, take-add 5 k bs, head_back bs h at.0, long.1, o.3, m.0) in
    (sealed_back bs h at.1 o.1 ∙ ap sealed split, m.1)

pub acknowledgement_returns : AcknowledgementReturns
acknowledgement_returns a n = search rules

pub acknowledgement_only : AcknowledgementDecodedOnly
acknowledgement_only bs a h e =
    let long : length bs ≡ 7 = grind arith in
    let kind : get_or bs 0 0 ≡ 72 = grind arith in
    let right : is_sealed bs ≡ true = grind arith in
    let number : word_at bs 1 ≡ a.number = grind arith in
    let at : length bs - 2 ≡ 5 = omega arith in
    let split : take (length bs - 2) bs ≡ 72 ∷ word a.number = rw (at, head_back bs h (omega arith), kind, number) in
    sealed_back bs h (omega arith) right ∙ ap sealed split
