-- What holds of one direction of a link at all times, over plain variables, so that a whole network can cite it.
use Rattle.std.proofs.Common.{◌≡◌, ℕ, ◌+◌, ◌<◌, ◌≤◌, Bool, true, false, cond, ◌&&◌, ◌⊎◌, List, [], ◌∷◌, ◌++◌, Some, Ok, Err, Result, sym, refl, ap, subst, inl, inr, arith}
use native.Mathlib.Decide.{dec_lt}
use Rattle.std.proofs.lemmas.Bool.Decides.{eqb_tells}
use Rattle.message.specs.declared.refusals.Refusal.{Refusal}
use Rattle.message.specs.declared.refusals.Refusal.TheVariants.{Malformed}
use Rattle.message.specs.declared.messages.Message.{Message}
use Rattle.message.specs.declared.packets.Packet.{Packet}
use Rattle.message.specs.declared.packets.Acknowledgement.{Acknowledgement}
use Rattle.message.specs.Bytes.{fits, packet_bytes, packet_of, acknowledgement_bytes, acknowledgement_of}
use Rattle.message.specs.Laws.{ShortMessage}
use Rattle.message.proofs.Carried.{packet_returns, acknowledgement_returns}
use Rattle.link.specs.Ends.{rest, holds, numbered, is_next}
use Rattle.link.specs.Copper.{Was, first, PacketMayCome, AnswerMayCome}
use Rattle.link.proofs.Was.{was_split, was_one, was_rest}

-- a message that comes back from its bytes
pub record Carried (m : Message) : Type 0 where
  pub fit : fits m ≡ true
  pub short : ShortMessage m

-- it stands first
abbrev pub Head : Message → List Message → Type 0
Head m [] = ⊥
Head m (x ∷ xs) = m ≡ x

-- A packet that was sent is an old one, or holds the oldest message that is not acknowledged.
abbrev pub Known : ℕ → List Message → Packet → Type 0
Known acknowledged outbox p = (p.number ≤ acknowledged) ⊎ ((p.number ≡ acknowledged + 1) × Head p.message outbox)

pub record Told (acknowledged : ℕ) (outbox : List Message) (p : Packet) : Type 0 where
  pub small : p.number ≤ 4294967295
  pub known : Known acknowledged outbox p

-- bytes that are such a packet
pub record PacketSent (acknowledged : ℕ) (outbox : List Message) (bytes : List ℕ) : Type 0 where
  pub packet : Packet
  pub decoded : packet_of bytes ≡ Ok packet
  pub told : Told acknowledged outbox packet

-- bytes that are an acknowledgement of what was taken
pub record AnswerSent (taken : ℕ) (bytes : List ℕ) : Type 0 where
  pub answer : Acknowledgement
  pub decoded : acknowledgement_of bytes ≡ Ok answer
  pub reached : answer.number ≤ taken

-- THE INVARIANT. acknowledged, outbox: of the end that hands over; taken: of the end that takes; packets, answers: all bytes ever sent, forth and back.
pub record Edge (acknowledged : ℕ) (outbox : List Message) (taken : ℕ) (packets answers : List (List ℕ)) : Type 0 where
  pub low : acknowledged ≤ taken
  pub high : taken ≤ acknowledged + 1
  pub small : taken ≤ 4294967295
  pub waits : acknowledged < taken → holds outbox ≡ true
  pub carried : (m : Message) → Was m outbox → Carried m
  pub forth : (bytes : List ℕ) → Was bytes packets → PacketSent acknowledged outbox bytes
  pub back : (bytes : List ℕ) → Was bytes answers → AnswerSent taken bytes

-- before anything was sent
pub edge_unused : Edge 0 [] 0 [] []
edge_unused =
    record { low = omega arith; high = omega arith; small = omega arith; waits = λ h. absurd (omega arith); carried = λ m w. elim w [ ]; forth = λ b w. elim w [ ]; back = λ b w. elim w [ ] }

head_more : (m : Message) (outbox more : List Message) → Head m outbox → Head m (outbox ++ more)
head_more m [] more h = elim h [ ]
head_more m (x ∷ outbox) more h = h

pub holds_more : (outbox more : List Message) → holds outbox ≡ true → holds (outbox ++ more) ≡ true
holds_more [] more e = let z : ◌≡◌ {A = ℕ} 0 1 = cc in absurd (omega arith)
holds_more (x ∷ outbox) more e = refl

told_more : (acknowledged : ℕ) (outbox more : List Message) (p : Packet) → Told acknowledged outbox p → Told acknowledged (outbox ++ more) p
told_more acknowledged outbox more p t =
    record { small = t.small; known = elim t.known [ inl h ↦ inl h | inr (n, h) ↦ inr (n, head_more p.message outbox more h) ] }

-- More is given: what stood first stays first.
pub edge_give : {acknowledged : ℕ} {outbox : List Message} {taken : ℕ} {packets answers : List (List ℕ)} (more : List Message) → ((m : Message) → Was m more → Carried m) →
    Edge acknowledged outbox taken packets answers → Edge acknowledged (outbox ++ more) taken packets answers
edge_give {acknowledged} {outbox} more c e =
    record {
      low = e.low;
      high = e.high;
      small = e.small;
      waits = λ h. holds_more outbox more (e.waits h);
      carried = λ m w. elim (was_split outbox w) [ inl v ↦ e.carried m v | inr v ↦ c m v ];
      forth = λ b w. (let s = e.forth b w in record { packet = s.packet; decoded = s.decoded; told = told_more acknowledged outbox more s.packet s.told });
      back = e.back;
    }

-- What is sent is the oldest message under the next number, while numbers last.
pub record Numbered (acknowledged : ℕ) (outbox : List Message) (p : Packet) : Type 0 where
  pub next : p.number ≡ acknowledged + 1
  pub small : p.number ≤ 4294967295
  pub head : Head p.message outbox

pub numbered_is : (acknowledged : ℕ) (outbox : List Message) (p : Packet) → numbered acknowledged outbox ≡ Some p → Numbered acknowledged outbox p
numbered_is acknowledged [] p e = let z : ◌≡◌ {A = ℕ} 0 1 = cc in absurd (omega arith)
numbered_is acknowledged (m ∷ ms) p e = record { next = grind arith; small = grind arith; head = grind arith }

pub head_was : (m : Message) (outbox : List Message) → Head m outbox → Was m outbox
head_was m [] h = elim h [ ]
head_was m (x ∷ outbox) h = rw h first

-- It comes back from its bytes, since every message in the outbox does.
pub oldest_returns : {acknowledged : ℕ} {outbox : List Message} {taken : ℕ} {packets answers : List (List ℕ)} (p : Packet) → Numbered acknowledged outbox p →
    Edge acknowledged outbox taken packets answers → packet_of (packet_bytes p) ≡ Ok p
oldest_returns {outbox = outbox} p n e = let c = e.carried p.message (head_was p.message outbox n.head) in let s = n.small in packet_returns p (omega arith) c.short c.fit

-- The oldest message is sent, for the first time or again.
pub edge_send : {acknowledged : ℕ} {outbox : List Message} {taken : ℕ} {packets answers : List (List ℕ)} (p : Packet) → Numbered acknowledged outbox p →
    Edge acknowledged outbox taken packets answers → Edge acknowledged outbox taken (packets ++ (packet_bytes p ∷ [])) answers
edge_send {acknowledged} {outbox} {packets = packets} p n e =
    record {
      low = e.low;
      high = e.high;
      small = e.small;
      waits = e.waits;
      carried = e.carried;
      forth = λ b w. elim (was_split packets w) [ inl v ↦ e.forth b v | inr v ↦ subst (λ x. PacketSent acknowledged outbox x) (sym (was_one b (packet_bytes p) v)) sent ];
      back = e.back;
    }
  where
    sent : PacketSent acknowledged outbox (packet_bytes p)
    sent = record { packet = p; decoded = oldest_returns p n e; told = record { small = n.small; known = inr (n.next, n.head) } }

-- An acknowledgement of the last number taken comes back from its bytes, since numbers have 32 bits.
pub answer_returns : {acknowledged : ℕ} {outbox : List Message} {taken : ℕ} {packets answers : List (List ℕ)} → Edge acknowledged outbox taken packets answers →
    acknowledgement_of (acknowledgement_bytes (record { number = taken })) ≡ Ok (record { number = taken })
answer_returns {taken = taken} e = let s = e.small in acknowledgement_returns (record { number = taken }) (omega arith)

-- It is sent.
pub edge_answer : {acknowledged : ℕ} {outbox : List Message} {taken : ℕ} {packets answers : List (List ℕ)} → Edge acknowledged outbox taken packets answers →
    Edge acknowledged outbox taken packets (answers ++ (acknowledgement_bytes (record { number = taken }) ∷ []))
edge_answer {taken = taken} {answers = answers} e =
    record {
      low = e.low;
      high = e.high;
      small = e.small;
      waits = e.waits;
      carried = e.carried;
      forth = e.forth;
      back = λ b w. elim (was_split answers w) [ inl v ↦ e.back b v | inr v ↦ subst (λ x. AnswerSent taken x) (sym (was_one b (acknowledgement_bytes (record { number = taken })) v)) sent ];
    }
  where
    sent : AnswerSent taken (acknowledgement_bytes (record { number = taken }))
    sent = record { answer = record { number = taken }; decoded = answer_returns e; reached = omega arith }

-- bytes are decoded to one thing only
same_packet : (r : Result Packet Refusal) (p q : Packet) → r ≡ Ok p → r ≡ Ok q → p ≡ q
same_packet r p q e f = cc

same_answer : (r : Result Acknowledgement Refusal) (a b : Acknowledgement) → r ≡ Ok a → r ≡ Ok b → a ≡ b
same_answer r a b e f = cc

no_packet : (r : Result Packet Refusal) (p : Packet) → r ≡ Ok p → r ≡ Err Malformed → ⊥
no_packet r p e f = let z : ◌≡◌ {A = ℕ} 0 1 = cc in omega arith

no_answer : (r : Result Acknowledgement Refusal) (a : Acknowledgement) → r ≡ Ok a → r ≡ Err Malformed → ⊥
no_answer r a e f = let z : ◌≡◌ {A = ℕ} 0 1 = cc in omega arith

-- A packet that comes is one that was sent.
pub told_by : {acknowledged : ℕ} {outbox : List Message} {taken : ℕ} {packets answers : List (List ℕ)} (bytes : List ℕ) (p : Packet) → Edge acknowledged outbox taken packets answers →
    PacketMayCome packets bytes → packet_of bytes ≡ Ok p → Told acknowledged outbox p
told_by {acknowledged} {outbox} bytes p e (inl w) d =
    let s = e.forth bytes w in subst (λ q. Told acknowledged outbox q) (same_packet (packet_of bytes) s.packet p s.decoded d) s.told
told_by bytes p e (inr m) d = absurd (no_packet (packet_of bytes) p d m)

-- An acknowledgement that comes is of what was taken.
pub reached_by : {acknowledged : ℕ} {outbox : List Message} {taken : ℕ} {packets answers : List (List ℕ)} (bytes : List ℕ) (a : Acknowledgement) → Edge acknowledged outbox taken packets answers →
    AnswerMayCome answers bytes → acknowledgement_of bytes ≡ Ok a → a.number ≤ taken
reached_by {taken = taken} bytes a e (inl w) d =
    let s = e.back bytes w in subst (λ b. b.number ≤ taken) (same_answer (acknowledgement_of bytes) s.answer a s.decoded d) s.reached
reached_by bytes a e (inr m) d = absurd (no_answer (acknowledgement_of bytes) a d m)

-- What becomes of a packet that was sent: it is taken if it holds the oldest message and that was not taken before, and else nothing happens.
pub data Takes (acknowledged : ℕ) (outbox : List Message) (taken : ℕ) (p : Packet) : Bool → Type 0 where
  takes : (others : List Message) → acknowledged ≡ taken → p.number ≡ taken + 1 → outbox ≡ p.message ∷ others → Takes acknowledged outbox taken p true
  leaves : Takes acknowledged outbox taken p false

next_takes : (acknowledged : ℕ) (outbox : List Message) (taken : ℕ) (p : Packet) → acknowledged ≤ taken → p.number ≡ taken + 1 → Known acknowledged outbox p → Takes acknowledged outbox taken p true
next_takes acknowledged outbox taken p low n (inl h) = absurd (omega arith)
next_takes acknowledged [] taken p low n (inr (h, k)) = elim k [ ]
next_takes acknowledged (m ∷ ms) taken p low n (inr (h, k)) = takes ms (omega arith) n (ap (λ x. x ∷ ms) (sym k))

pub takes_or_leaves : {acknowledged : ℕ} {outbox : List Message} {taken : ℕ} {packets answers : List (List ℕ)} (p : Packet) → Edge acknowledged outbox taken packets answers →
    Told acknowledged outbox p → Takes acknowledged outbox taken p (is_next taken p.number)
takes_or_leaves {acknowledged} {outbox} {taken} p e t =
    elim (eqb_tells p.number (taken + 1)) [ inl (y, n) ↦ rw y (next_takes acknowledged outbox taken p e.low n t.known) | inr (y, n) ↦ rw y leaves ]

-- A packet comes: the other end is at most one message ahead, since it took the oldest.
pub edge_take : {acknowledged : ℕ} {outbox : List Message} {taken : ℕ} {packets answers : List (List ℕ)} {next : Bool} (p : Packet) → p.number ≤ 4294967295 → Takes acknowledged outbox taken p next →
    Edge acknowledged outbox taken packets answers → Edge acknowledged outbox (cond next p.number taken) packets answers
edge_take p small (takes others even n has) e =
    record {
      low = omega (arith, e.low);
      high = omega arith;
      small = small;
      waits = λ h. rw has refl;
      carried = e.carried;
      forth = e.forth;
      back = λ b w. (let s = e.back b w in let r = s.reached in record { answer = s.answer; decoded = s.decoded; reached = omega arith });
    }
edge_take p small leaves e = e

-- What becomes of an acknowledgement of n: if it is waited for, the oldest message was taken and is done with, and else nothing happens.
pub data Settles (acknowledged : ℕ) (outbox : List Message) (taken n : ℕ) : Bool → Type 0 where
  settles : (m : Message) (others : List Message) → n ≡ acknowledged + 1 → taken ≡ acknowledged + 1 → outbox ≡ m ∷ others → Settles acknowledged outbox taken n true
  stays : Settles acknowledged outbox taken n false

pub settles_or_stays : {acknowledged : ℕ} {outbox : List Message} {taken : ℕ} {packets answers : List (List ℕ)} (n : ℕ) → Edge acknowledged outbox taken packets answers → n ≤ taken →
    Settles acknowledged outbox taken n (holds outbox && is_next acknowledged n)
settles_or_stays {acknowledged} {outbox} {taken} n e le = go outbox e.high
  where
    go : (outbox : List Message) → taken ≤ acknowledged + 1 → Settles acknowledged outbox taken n (holds outbox && is_next acknowledged n)
    go [] high = stays
    go (m ∷ ms) high = elim (eqb_tells n (acknowledged + 1)) [ inl (y, q) ↦ rw y (settles m ms q (omega arith) refl) | inr (y, q) ↦ rw y stays ]

told_old : (acknowledged n : ℕ) (outbox : List Message) (p : Packet) → n ≡ acknowledged + 1 → Told acknowledged outbox p → Told n (rest outbox) p
told_old acknowledged n outbox p e t = record { small = t.small; known = elim t.known [ inl h ↦ inl (omega arith) | inr (k, h) ↦ inl (omega arith) ] }

-- An acknowledgement comes: all packets sent before are old ones then.
pub edge_settle : {acknowledged : ℕ} {outbox : List Message} {taken n : ℕ} {packets answers : List (List ℕ)} {awaited : Bool} → Settles acknowledged outbox taken n awaited →
    Edge acknowledged outbox taken packets answers → Edge (cond awaited n acknowledged) (cond awaited (rest outbox) outbox) taken packets answers
edge_settle {acknowledged} {outbox} {n = n} (settles m others q ahead has) e =
    record {
      low = omega arith;
      high = omega arith;
      small = e.small;
      waits = λ h. absurd (omega arith);
      carried = λ x w. e.carried x (was_rest x outbox w);
      forth = λ b w. (let s = e.forth b w in record { packet = s.packet; decoded = s.decoded; told = told_old acknowledged n outbox s.packet q s.told });
      back = e.back;
    }
edge_settle stays e = e

-- Whatever comes, numbers do not fall.
pub take_rises : (taken n : ℕ) → taken ≤ cond (is_next taken n) n taken
take_rises taken n = grind arith

pub settle_rises : (has : Bool) (acknowledged n : ℕ) → acknowledged ≤ cond (has && is_next acknowledged n) n acknowledged
settle_rises true acknowledged n = grind arith
settle_rises false acknowledged n = omega arith

-- When the packet of the message behind `before` has come, that message is taken: now, or it was already.
pub take_reaches : (before taken n : ℕ) → before ≤ taken → n ≡ before + 1 → before < cond (is_next taken n) n taken
take_reaches before taken n le e = grind arith

-- When an acknowledgement beyond `before` has come, the message behind `before` is acknowledged: now, or it was already.
pub settle_reaches : {acknowledged : ℕ} {outbox : List Message} {taken : ℕ} {packets answers : List (List ℕ)} (before n : ℕ) → Edge acknowledged outbox taken packets answers →
    before ≤ acknowledged → before < n → n ≤ taken → before < cond (holds outbox && is_next acknowledged n) n acknowledged
settle_reaches {acknowledged} {outbox} {taken} before n e le lt up = go outbox e.high e.waits
  where
    go : (outbox : List Message) → taken ≤ acknowledged + 1 → (acknowledged < taken → holds outbox ≡ true) → before < cond (holds outbox && is_next acknowledged n) n acknowledged
    go [] high f = elim (dec_lt acknowledged taken) [ yes h ↦ absurd (let q = f h in let z : ◌≡◌ {A = ℕ} 0 1 = cc in omega arith) | no h ↦ omega arith ]
    go (m ∷ ms) high f = grind arith
