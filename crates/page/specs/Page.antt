-- A station's state as one page of bytes, high byte first, and which states have a page.
use Rattle.std.specs.Prelude.{◌≡◌, ℕ, ◌+◌, ◌/◌, ◌%◌, Bool, true, false, ◌&&◌, List, [], ◌∷◌, ◌++◌, map, length, Some, None, vec_items, Option, Result, Vec, MatchResult, ◌==◌, nat_le, nat_lt}
use Rattle.std.specs.List.{flat_map, list_all}
use Rattle.std.specs.declared.alloc.Global.{Global}
use Rattle.message.specs.declared.messages.Message.{Message}
use Rattle.message.specs.Bytes as message
use Rattle.message.specs.Bytes.{word, message_bytes, weight_or_zero, sealed}
use Rattle.node.specs.declared.state.Status.{Status}
use Rattle.node.specs.declared.state.Status.TheVariants.{Sleeping, Find, Found}
use Rattle.graph.specs.declared.mark.Mark.{Mark}
use Rattle.graph.specs.declared.mark.Mark.TheVariants.{Basic, Branch, Rejected}
use Rattle.node.specs.declared.state.Node.{Node}
use Rattle.node.specs.Rules.{best_weight}
pub use Rattle.node.specs.Laws.{best_edge}
use Rattle.link.specs.Ends.{End}
use Rattle.station.specs.State.{State}
use Rattle.page.specs.declared.reasons.Unwritten.{Unwritten}
use Rattle.page.specs.declared.reasons.Unwritten.TheVariants.{Memory, Full}

-- a number of 16 bits as two bytes
abbrev pub pair : ℕ → List ℕ
pair n = (n / 256 % 256) ∷ (n % 256) ∷ []

abbrev pub status_byte : Status → ℕ
status_byte Sleeping = 0
status_byte Find = 1
status_byte Found = 2

abbrev pub mark_byte : Mark → ℕ
mark_byte Basic = 0
mark_byte Branch = 1
mark_byte Rejected = 2

-- a place, from 1 on, so that 0 can stand for none
abbrev pub place_byte : Option ℕ → ℕ
place_byte None = 0
place_byte (Some k) = k + 1

abbrev pub flag_byte : Bool → ℕ
flag_byte false = 0
flag_byte true = 1

-- what a node holds of itself, in sixteen bytes
abbrev pub field_bytes : Node → List ℕ
field_bytes n =
    status_byte n.status ∷ n.edges ∷ n.level ∷
    (word n.name ++
    (n.find_count ∷ place_byte n.parent ∷ place_byte (best_edge n.best) ∷
    (word (weight_or_zero (best_weight n.best)) ++ (place_byte n.testing ∷ flag_byte n.halted ∷ []))))

-- and of its edges
abbrev pub node_bytes : Node → List ℕ
node_bytes n = field_bytes n ++ (flat_map word n.weights ++ map mark_byte n.marks)

-- how many messages, and then each
abbrev pub queue_bytes : List Message → List ℕ
queue_bytes ms = pair (length ms) ++ flat_map message_bytes ms

-- the neighbour, and the last numbers that it has acknowledged and that were taken from it
abbrev pub number_bytes : End → List ℕ
number_bytes e = pair e.neighbour ++ (word e.acknowledged ++ word e.taken)

abbrev pub link_bytes : End → List ℕ
link_bytes e = number_bytes e ++ (queue_bytes e.outbox ++ queue_bytes e.inbox)

-- the letters LAMP, version 1, the station's number, the node, and each link
unfoldable pub body_bytes : State → List ℕ
body_bytes s = 76 ∷ 65 ∷ 77 ∷ 80 ∷ 1 ∷ (pair s.number ++ (node_bytes s.node ++ flat_map link_bytes s.links))

-- THE PAGE: all this, and its sum behind.
abbrev pub page_bytes : State → List ℕ
page_bytes s = sealed (body_bytes s)

abbrev pub place_fits : Option ℕ → Bool
place_fits None = true
place_fits (Some k) = nat_lt k 255

-- each field has its byte
abbrev pub node_fits : Node → Bool
node_fits n =
    nat_le n.edges 16 && nat_lt n.level 256 && nat_lt n.find_count 256 && place_fits n.parent && place_fits (best_edge n.best) && place_fits n.testing

-- the neighbour's number has its bytes, and each waiting message a number
abbrev pub numbers_fit : End → Bool
numbers_fit e = nat_lt e.neighbour 65536 && nat_le (e.acknowledged + length e.outbox) 4294967295

abbrev pub link_fits : End → Bool
link_fits e = numbers_fit e && list_all message.fits e.outbox && list_all message.fits e.inbox

-- there is a link for each edge
abbrev pub head_fits : State → Bool
head_fits s = nat_lt s.number 65536 && s.node.edges == length s.links && node_fits s.node

unfoldable pub fields_fit : State → Bool
fields_fit s = head_fits s && list_all link_fits s.links

-- WHICH STATES HAVE A PAGE: those whose fields all fit, and whose page is not too long.
abbrev pub fits : State → Bool
fits s = nat_le (length (page_bytes s)) 16384 && fields_fit s

-- why there is no page: what has one may still lack memory
abbrev pub WhyUnwritten : Unwritten → Bool → Type 0
WhyUnwritten Memory ok = Unit {0}
WhyUnwritten Full ok = ok ≡ false

-- what the code wrote: these bytes, if they have their places, or why it wrote nothing
abbrev pub WrittenAs : List ℕ → Bool → Result (Vec ℕ Global) Unwritten → Type 0
WrittenAs bytes ok r = MatchResult r (λ v. (ok ≡ true) × (vec_items v ≡ bytes)) (λ e. WhyUnwritten e ok)

-- the same behind what was written before
abbrev pub Appended : {A : Type 0} → List ℕ → Bool → Vec ℕ Global → Vec ℕ Global → Result A Unwritten → Type 0
Appended bytes ok before after r = MatchResult r (λ _. (ok ≡ true) × (vec_items after ≡ vec_items before ++ bytes)) (λ e. WhyUnwritten e ok)
