-- The same of an end to which bytes come, whatever they are.
use Rattle.std.proofs.Common.{◌≡◌, ℕ, ◌+◌, ◌<◌, ◌≤◌, List, ◌++◌, Ok, Err, Result, sym, refl, subst, append-nil, arith}
use Rattle.message.specs.declared.refusals.Refusal.{Refusal}
use Rattle.message.specs.declared.messages.Message.{Message}
use Rattle.message.specs.declared.packets.Packet.{Packet}
use Rattle.message.specs.declared.packets.Acknowledgement.{Acknowledgement}
use Rattle.message.specs.Bytes.{packet_of, acknowledgement_of}
use Rattle.link.specs.Ends.{End, holds}
use Rattle.link.specs.Copper.{PacketMayCome, AnswerMayCome, by_packet, by_answer, took_of}
use Rattle.link.proofs.Edge.{Told, Edge, told_by, reached_by, takes_or_leaves, settles_or_stays, edge_take, edge_settle, take_rises, settle_rises, take_reaches, settle_reaches}
use Rattle.link.proofs.Handed.{Handed, handed_take, handed_settle}

-- Bytes come to the end that takes: the invariant is kept.
pub edge_came : {acknowledged : ℕ} {outbox : List Message} {packets answers : List (List ℕ)} (to : End) (bytes : List ℕ) → PacketMayCome packets bytes →
    Edge acknowledged outbox to.taken packets answers → Edge acknowledged outbox (by_packet (packet_of bytes) to).taken packets answers
edge_came {acknowledged} {outbox} {packets} {answers} to bytes c e = go (packet_of bytes) (λ p d. told_by bytes p e c d)
  where
    go : (r : Result Packet Refusal) → ((p : Packet) → r ≡ Ok p → Told acknowledged outbox p) → Edge acknowledged outbox (by_packet r to).taken packets answers
    go (Ok p) f = let t = f p refl in edge_take p t.small (takes_or_leaves p e t) e
    go (Err x) f = e

-- What is taken then is the next that was given.
pub handed_came : {acknowledged : ℕ} {outbox : List Message} {given took : List Message} {packets answers : List (List ℕ)} (to : End) (bytes : List ℕ) → PacketMayCome packets bytes →
    Edge acknowledged outbox to.taken packets answers → Handed acknowledged outbox to.taken given took →
    Handed acknowledged outbox (by_packet (packet_of bytes) to).taken given (took ++ took_of (packet_of bytes) to)
handed_came {acknowledged} {outbox} {given} {took} to bytes c e h = go (packet_of bytes) (λ p d. told_by bytes p e c d)
  where
    go : (r : Result Packet Refusal) → ((p : Packet) → r ≡ Ok p → Told acknowledged outbox p) → Handed acknowledged outbox (by_packet r to).taken given (took ++ took_of r to)
    go (Ok p) f = handed_take p (takes_or_leaves p e (f p refl)) h
    go (Err x) f = record { order = rw append-nil h.order; count = rw append-nil h.count }

-- Bytes come back to the end that hands over: the invariant is kept, and what was given and taken is as it was.
pub edge_came_back : {taken : ℕ} {packets answers : List (List ℕ)} (from : End) (bytes : List ℕ) → AnswerMayCome answers bytes → Edge from.acknowledged from.outbox taken packets answers →
    Edge (by_answer (acknowledgement_of bytes) from).acknowledged (by_answer (acknowledgement_of bytes) from).outbox taken packets answers
edge_came_back {taken} {packets} {answers} from bytes c e = go (acknowledgement_of bytes) (λ a d. reached_by bytes a e c d)
  where
    go : (r : Result Acknowledgement Refusal) → ((a : Acknowledgement) → r ≡ Ok a → a.number ≤ taken) → Edge (by_answer r from).acknowledged (by_answer r from).outbox taken packets answers
    go (Ok a) f = edge_settle (settles_or_stays a.number e (f a refl)) e
    go (Err x) f = e

pub handed_came_back : {taken : ℕ} {given took : List Message} {packets answers : List (List ℕ)} (from : End) (bytes : List ℕ) → AnswerMayCome answers bytes →
    Edge from.acknowledged from.outbox taken packets answers → Handed from.acknowledged from.outbox taken given took →
    Handed (by_answer (acknowledgement_of bytes) from).acknowledged (by_answer (acknowledgement_of bytes) from).outbox taken given took
handed_came_back {taken} {given} {took} from bytes c e h = go (acknowledgement_of bytes) (λ a d. reached_by bytes a e c d)
  where
    go : (r : Result Acknowledgement Refusal) → ((a : Acknowledgement) → r ≡ Ok a → a.number ≤ taken) → Handed (by_answer r from).acknowledged (by_answer r from).outbox taken given took
    go (Ok a) f = handed_settle (settles_or_stays a.number e (f a refl)) h
    go (Err x) f = h

-- Numbers do not fall then, and they reach what came.
pub came_rises : (to : End) (r : Result Packet Refusal) → to.taken ≤ (by_packet r to).taken
came_rises to (Ok p) = take_rises to.taken p.number
came_rises to (Err x) = omega arith

pub came_back_rises : (from : End) (r : Result Acknowledgement Refusal) → from.acknowledged ≤ (by_answer r from).acknowledged
came_back_rises from (Ok a) = settle_rises (holds from.outbox) from.acknowledged a.number
came_back_rises from (Err x) = omega arith

pub came_reaches : (to : End) (bytes : List ℕ) (p : Packet) (before : ℕ) → packet_of bytes ≡ Ok p → before ≤ to.taken → p.number ≡ before + 1 → before < (by_packet (packet_of bytes) to).taken
came_reaches to bytes p before d le n = subst (λ r. before < (by_packet r to).taken) (sym d) (take_reaches before to.taken p.number le n)

pub came_back_reaches : {taken : ℕ} {packets answers : List (List ℕ)} (from : End) (bytes : List ℕ) (a : Acknowledgement) (before : ℕ) → acknowledgement_of bytes ≡ Ok a →
    Edge from.acknowledged from.outbox taken packets answers → before ≤ from.acknowledged → before < a.number → a.number ≤ taken →
    before < (by_answer (acknowledgement_of bytes) from).acknowledged
came_back_reaches from bytes a before d e le lt up = subst (λ r. before < (by_answer r from).acknowledged) (sym d) (settle_reaches before a.number e le lt up)
