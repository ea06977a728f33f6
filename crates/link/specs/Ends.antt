-- One end of a link: what it has still to hand over and what has come, and what becomes of it.
use Rattle.std.specs.Prelude.{◌≡◌, ℕ, ◌+◌, Bool, true, false, cond, not, ◌&&◌, List, [], ◌∷◌, ◌++◌, Some, None, Option, ◌==◌, nat_lt}
use Rattle.std.specs.VecDeque.{deque_items}
use Rattle.message.specs.declared.refusals.Refusal.{Refusal}
use Rattle.message.specs.declared.refusals.Refusal.TheVariants.{NotNext, NotAwaited}
use Rattle.message.specs.declared.messages.Message.{Message}
use Rattle.message.specs.declared.packets.Packet.{Packet}
use Rattle.message.specs.declared.packets.Acknowledgement.{Acknowledgement}
use Rattle.link.specs.declared.ends.Link.{Link}
use Rattle.link.specs.declared.unreceived.Unreceived.{Unreceived}
use Rattle.link.specs.declared.unreceived.Unreceived.TheVariants.{Memory, Refused}

-- acknowledged: the number of the last message that the neighbour is known to have; outbox: what it is not known to have, the oldest first; taken: the number of the last message taken from it; inbox: what of that waits for the node
pub record End : Type 0 where
  pub neighbour : ℕ
  pub acknowledged : ℕ
  pub outbox : List Message
  pub taken : ℕ
  pub inbox : List Message

-- the end that the code holds
abbrev pub end_of : Link → End
end_of l = record { neighbour = l.neighbour; acknowledged = l.acknowledged; outbox = deque_items l.outbox; taken = l.taken; inbox = deque_items l.inbox }

-- nothing was sent, and nothing came
abbrev pub new_end : ℕ → End
new_end j = record { neighbour = j; acknowledged = 0; outbox = []; taken = 0; inbox = [] }

abbrev pub head_of : List Message → Option Message
head_of [] = None
head_of (m ∷ ms) = Some m

abbrev pub rest : List Message → List Message
rest [] = []
rest (m ∷ ms) = ms

-- the head behind the others
abbrev pub turned : List Message → List Message
turned [] = []
turned (m ∷ ms) = ms ++ (m ∷ [])

abbrev pub holds : List Message → Bool
holds [] = false
holds (m ∷ ms) = true

-- it has nothing to hand over
abbrev pub is_idle : End → Bool
is_idle e = not (holds e.outbox)

-- a message more to hand over
abbrev pub giving : Message → End → End
giving m e = record { neighbour = e.neighbour; acknowledged = e.acknowledged; outbox = e.outbox ++ (m ∷ []); taken = e.taken; inbox = e.inbox }

-- the oldest of some messages, under the number behind the last one acknowledged; numbers end at 4,294,967,295
abbrev pub numbered : ℕ → List Message → Option Packet
numbered a [] = None
numbered a (m ∷ ms) = cond (nat_lt a 4294967295) (Some (record { number = a + 1; message = m })) None

-- what is sent again and again
abbrev pub oldest : End → Option Packet
oldest e = numbered e.acknowledged e.outbox

-- is it the number behind the last one
abbrev pub is_next : ℕ → ℕ → Bool
is_next last n = n == last + 1

-- a packet comes: if its number is the next its message is taken
abbrev pub received : Packet → End → End
received p e =
    record {
      neighbour = e.neighbour;
      acknowledged = e.acknowledged;
      outbox = e.outbox;
      taken = cond (is_next e.taken p.number) p.number e.taken;
      inbox = cond (is_next e.taken p.number) (e.inbox ++ (p.message ∷ [])) e.inbox;
    }

abbrev pub why_not_taken : Packet → End → Option Refusal
why_not_taken p e = cond (is_next e.taken p.number) None (Some NotNext)

-- it was not taken for want of memory, or is refused by what says why
abbrev pub WhyUnreceived : Unreceived → Packet → End → Type 0
WhyUnreceived (Memory x) p e = Unit {0}
WhyUnreceived (Refused r) p e = why_not_taken p e ≡ Some r

-- an acknowledgement is waited for if it is of the oldest message
abbrev pub is_awaited : Acknowledgement → End → Bool
is_awaited a e = holds e.outbox && is_next e.acknowledged a.number

-- an acknowledgement comes: if it is waited for the oldest message is done with
abbrev pub settled : Acknowledgement → End → End
settled a e =
    record {
      neighbour = e.neighbour;
      acknowledged = cond (is_awaited a e) a.number e.acknowledged;
      outbox = cond (is_awaited a e) (rest e.outbox) e.outbox;
      taken = e.taken;
      inbox = e.inbox;
    }

abbrev pub why_not_settled : Acknowledgement → End → Option Refusal
why_not_settled a e = cond (is_awaited a e) None (Some NotAwaited)

-- the node has taken the message that waited longest
abbrev pub taking : End → End
taking e = record { neighbour = e.neighbour; acknowledged = e.acknowledged; outbox = e.outbox; taken = e.taken; inbox = rest e.inbox }

-- the node defers it: it goes behind the others
abbrev pub deferring : End → End
deferring e = record { neighbour = e.neighbour; acknowledged = e.acknowledged; outbox = e.outbox; taken = e.taken; inbox = turned e.inbox }
