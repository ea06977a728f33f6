-- What a station promises, event by event.
use Rattle.std.specs.Prelude.{◌≡◌, ℕ, true, false, List, [], ◌∷◌, ◌++◌, length, Some, None, Ok, Err}
use Rattle.message.specs.declared.refusals.Refusal.{Refusal}
use Rattle.message.specs.declared.refusals.Refusal.TheVariants.{NotNext, NotAwaited, NoSuchEdge}
use Rattle.message.specs.declared.messages.Message.{Message}
use Rattle.message.specs.declared.packets.Packet.{Packet}
use Rattle.message.specs.declared.packets.Acknowledgement.{Acknowledgement}
use Rattle.message.specs.Bytes.{packet_of, acknowledgement_of}
use Rattle.node.specs.declared.state.Node.{Node}
use Rattle.node.specs.declared.state.Taking.TheVariants.{Deferred}
use Rattle.node.specs.Rules.{is_basic, is_branch, mark_of, takes}
use Rattle.link.specs.Ends.{End, is_next, is_awaited}
use Rattle.link.specs.Copper.{Was}
use Rattle.station.specs.declared.outcome.Transmission.TheVariants as transmission
use Rattle.station.specs.State.{State, link_at, place_of, woken}
use Rattle.station.specs.Work.{at_work}
use Rattle.station.specs.Events.{Did, on_wake, on_packet, on_acknowledgement}

-- of what waits at any place nothing can be taken
abbrev pub Calm : State → Type 0
Calm s = (k : ℕ) (m : Message) → Was m (link_at s k).inbox → takes k m s.node ≡ Deferred s.node

-- Once the inboxes are worked off, whatever still waits has to wait.
abbrev pub InboxesCalm : Type 0
InboxesCalm = (s : State) → Calm (at_work s).state

-- a link has its neighbour and its numbers as before, and what it had to hand over; more may stand behind that
pub record Keeps (e f : End) : Type 0 where
  pub neighbour : f.neighbour ≡ e.neighbour
  pub acknowledged : f.acknowledged ≡ e.acknowledged
  pub taken : f.taken ≡ e.taken
  pub given : (more : List Message) × (f.outbox ≡ e.outbox ++ more)

-- so have all links of a station, and there are as many
pub record Kept (s t : State) : Type 0 where
  pub number : t.number ≡ s.number
  pub long : length t.links ≡ length s.links
  pub each : (k : ℕ) → Keeps (link_at s k) (link_at t k)

-- Neither waking nor working off the inboxes loses or changes what a link has to hand over, or its numbers.
abbrev pub NothingForgotten : Type 0
NothingForgotten = (s : State) → Kept s (woken s) × Kept s (at_work s).state

-- an acknowledgement that goes out has the last number taken over the link to that neighbour, in the new state
abbrev pub Held : Did → Type 0
Held d =
    (j : ℕ) (a : Acknowledgement) → Was (transmission.Acknowledgement j a) d.sends →
    (k : ℕ) × (place_of d.state.links j ≡ Some k) × ((link_at d.state k).taken ≡ a.number)

-- What is acknowledged stands in the new state, and so in its page.
abbrev pub AcknowledgedIsHeld : Type 0
AcknowledgedIsHeld = (s : State) → Held (on_wake s) × ((j : ℕ) (bytes : List ℕ) → Held (on_packet j bytes s) × Held (on_acknowledgement j bytes s))

-- refused for this reason, and the state is as it was
pub record Untouched (s : State) (r : Refusal) (d : Did) : Type 0 where
  pub same : d.state ≡ s
  pub told : d.refusals ≡ r ∷ []

-- A packet that is malformed, comes over no link or is not the next changes nothing; nor does an acknowledgement that is malformed, comes over no link or is not waited for.
abbrev pub RefusedChangesNothing : Type 0
RefusedChangesNothing =
    (s : State) (j : ℕ) (bytes : List ℕ) → ((r : Refusal) → packet_of bytes ≡ Err r → Untouched s r (on_packet j bytes s)) ×
    ((p : Packet) → packet_of bytes ≡ Ok p → place_of s.links j ≡ None → Untouched s NoSuchEdge (on_packet j bytes s)) ×
    ((p : Packet) (k : ℕ) → packet_of bytes ≡ Ok p → place_of s.links j ≡ Some k → is_next (link_at s k).taken p.number ≡ false → Untouched s NotNext (on_packet j bytes s)) ×
    ((r : Refusal) → acknowledgement_of bytes ≡ Err r → Untouched s r (on_acknowledgement j bytes s)) ×
    ((a : Acknowledgement) → acknowledgement_of bytes ≡ Ok a → place_of s.links j ≡ None → Untouched s NoSuchEdge (on_acknowledgement j bytes s)) ×
    ((a : Acknowledgement) (k : ℕ) → acknowledgement_of bytes ≡ Ok a → place_of s.links j ≡ Some k → is_awaited a (link_at s k) ≡ false → Untouched s NotAwaited (on_acknowledgement j bytes s))

-- no mark turns back to basic, and a branch stays a branch
abbrev pub MarksOn : Node → Node → Type 0
MarksOn n o = (k : ℕ) → (is_basic (mark_of n k) ≡ false → is_basic (mark_of o k) ≡ false) × (is_branch (mark_of n k) ≡ true → is_branch (mark_of o k) ≡ true)

-- No event turns a lamp back.
abbrev pub MarksByMessages : Type 0
MarksByMessages =
    (s : State) → MarksOn s.node (on_wake s).state.node ×
    ((j : ℕ) (bytes : List ℕ) → MarksOn s.node (on_packet j bytes s).state.node × MarksOn s.node (on_acknowledgement j bytes s).state.node)
