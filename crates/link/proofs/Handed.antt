-- What was given and what was taken, over plain variables too.
use Rattle.std.proofs.Common.{◌≡◌, ℕ, ◌+◌, ◌<◌, ◌≤◌, Bool, true, cond, ltb, List, [], ◌∷◌, ◌++◌, length, sym, refl, ap, ◌∙◌, append_assoc, append-nil, arith, length-append}
use native.Mathlib.Decide.{dec_lt}
use Rattle.message.specs.declared.messages.Message.{Message}
use Rattle.message.specs.declared.packets.Packet.{Packet}
use Rattle.link.specs.Ends.{rest, holds}
use Rattle.link.proofs.Edge.{Edge, Takes, takes, leaves, Settles, settles, stays}

-- what the one end holds and the other has not taken
abbrev pub still : ℕ → ℕ → List Message → List Message
still acknowledged taken outbox = cond (ltb acknowledged taken) (rest outbox) outbox

-- WHAT WAS GIVEN is what was taken, in order, and then what is still held.
pub record Handed (acknowledged : ℕ) (outbox : List Message) (taken : ℕ) (given took : List Message) : Type 0 where
  pub order : given ≡ took ++ still acknowledged taken outbox
  pub count : length took ≡ taken

pub handed_unused : Handed 0 [] 0 [] []
handed_unused = record { order = refl; count = refl }

-- what is still held, when more is given, and when a message is taken or done with
pub still_more : (acknowledged taken : ℕ) (outbox more : List Message) → (acknowledged < taken → holds outbox ≡ true) → still acknowledged taken (outbox ++ more) ≡ still acknowledged taken outbox ++ more
still_more acknowledged taken [] more f = grind arith
still_more acknowledged taken (m ∷ outbox) more f = grind arith

pub still_take : (acknowledged taken n : ℕ) (m : Message) (others : List Message) → acknowledged ≡ taken → n ≡ taken + 1 → still acknowledged taken (m ∷ others) ≡ m ∷ still acknowledged n (m ∷ others)
still_take acknowledged taken n m others even e = grind arith

pub still_settle : (acknowledged taken n : ℕ) (m : Message) (others : List Message) → n ≡ acknowledged + 1 → taken ≡ acknowledged + 1 → still n taken others ≡ still acknowledged taken (m ∷ others)
still_settle acknowledged taken n m others e ahead = grind arith

-- More is given: it stands behind the others.
pub handed_give : {acknowledged : ℕ} {outbox : List Message} {taken : ℕ} {given took : List Message} {packets answers : List (List ℕ)} (more : List Message) → Edge acknowledged outbox taken packets answers →
    Handed acknowledged outbox taken given took → Handed acknowledged (outbox ++ more) taken (given ++ more) took
handed_give {acknowledged} {outbox} {taken} {given} {took} more e h =
    record { order = ap (λ x. x ++ more) h.order ∙ append_assoc took (still acknowledged taken outbox) more ∙ ap (λ x. took ++ x) (sym (still_more acknowledged taken outbox more e.waits)); count = h.count }

-- A packet comes: its message was the first of those still held.
pub handed_take : {acknowledged : ℕ} {outbox : List Message} {taken : ℕ} {given took : List Message} {next : Bool} (p : Packet) → Takes acknowledged outbox taken p next →
    Handed acknowledged outbox taken given took → Handed acknowledged outbox (cond next p.number taken) given (took ++ cond next (p.message ∷ []) [])
handed_take {acknowledged} {outbox} {taken} {given} {took} p (takes others even n has) h =
    record {
      order =
          h.order ∙ ap (λ x. took ++ x) (rw has (still_take acknowledged taken p.number p.message others even n)) ∙ sym (append_assoc took (p.message ∷ []) (still acknowledged p.number outbox));
      count = rw length-append (omega (arith, h.count));
    }
handed_take p leaves h = record { order = rw append-nil h.order; count = rw append-nil h.count }

-- An acknowledgement comes: its message was taken before.
pub handed_settle : {acknowledged : ℕ} {outbox : List Message} {taken n : ℕ} {given took : List Message} {awaited : Bool} → Settles acknowledged outbox taken n awaited →
    Handed acknowledged outbox taken given took → Handed (cond awaited n acknowledged) (cond awaited (rest outbox) outbox) taken given took
handed_settle {acknowledged} {outbox} {taken} {n} {given} {took} (settles m others q ahead has) h =
    record { order = h.order ∙ ap (λ x. took ++ x) (rw has (sym (still_settle acknowledged taken n m others q ahead))); count = h.count }
handed_settle stays h = h

length_rest : (outbox : List Message) → holds outbox ≡ true → length outbox ≡ length (rest outbox) + 1
length_rest [] h = let z : ◌≡◌ {A = ℕ} 0 1 = cc in absurd (omega arith)
length_rest (m ∷ ms) h = omega arith

length_still : (acknowledged taken : ℕ) (outbox : List Message) → acknowledged ≤ taken → taken ≤ acknowledged + 1 → (acknowledged < taken → holds outbox ≡ true) →
    taken + length (still acknowledged taken outbox) ≡ acknowledged + length outbox
length_still acknowledged taken outbox low high f = elim (dec_lt acknowledged taken) [ yes h ↦ ahead h (length_rest outbox (f h)) | no h ↦ grind arith ]
  where
    ahead : acknowledged < taken → length outbox ≡ length (rest outbox) + 1 → taken + length (still acknowledged taken outbox) ≡ acknowledged + length outbox
    ahead h l = grind arith

-- So as many were given as are acknowledged and waiting.
pub given_count : {acknowledged : ℕ} {outbox : List Message} {taken : ℕ} {given took : List Message} {packets answers : List (List ℕ)} → Edge acknowledged outbox taken packets answers →
    Handed acknowledged outbox taken given took → length given ≡ acknowledged + length outbox
given_count {acknowledged} {outbox} {taken} {given} {took} e h =
    ap length h.order ∙ length-append took (still acknowledged taken outbox) ∙ ap (λ n. n + length (still acknowledged taken outbox)) h.count ∙ length_still acknowledged taken outbox e.low e.high e.waits
