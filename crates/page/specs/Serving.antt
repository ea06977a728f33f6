-- Whose page it is, and what is kept after an event.
use Rattle.std.specs.Prelude.{◌≡◌, ℕ, zero, suc, Bool, true, ◌&&◌, List, length, Some, None, vec_items, Option, Result, MatchResult, ◌==◌, nat_le, slice_index_or}
use Rattle.graph.specs.declared.edge.Neighbour.{Neighbour}
use Rattle.message.specs.declared.refusals.Refusal.{Refusal}
use Rattle.message.specs.declared.refusals.Refusal.TheVariants.{ForeignPage}
use Rattle.node.specs.Rules.{weight_of}
use Rattle.link.specs.Ends.{End}
use Rattle.station.specs.declared.outcome.Outcome.{Outcome}
use Rattle.station.specs.State.{State, state_of, link_at}
use Rattle.station.specs.Making.{nobody}
use Rattle.station.specs.Events.{did_of}
use Rattle.page.specs.declared.keeping.Kept.{Kept}
use Rattle.page.specs.declared.reasons.Unread.{Unread}
use Rattle.page.specs.declared.reasons.Unread.TheVariants.{Memory, Foreign}
use Rattle.page.specs.declared.reasons.Unwritten.{Unwritten}
use Rattle.page.specs.Page.{page_bytes, fits, WhyUnwritten}

-- a link leads to this neighbour, and its weight is that of the line
abbrev pub is_line : End → ℕ → Neighbour → Bool
is_line e w n = e.neighbour == n.node && w == n.weight

-- so at the first k places
unfoldable pub lines_below : State → List Neighbour → ℕ → Bool
lines_below s ns zero = true
lines_below s ns (suc k) = lines_below s ns k && is_line (link_at s k) (weight_of s.node k) (slice_index_or ns k nobody)

-- WHOSE PAGE IT IS: the station of this number, with a line to each of these neighbours, in order, and no other.
abbrev pub serves : State → ℕ → List Neighbour → Bool
serves s i ns =
    (s.number == i) && s.node.edges == length ns && length s.links == length ns && nat_le (length ns) 16 && lines_below s ns (length ns)

-- a page that is not one, or not this node's, is refused by 6; want of memory is no refusal
abbrev pub refusal_of : Unread → Option Refusal
refusal_of Memory = None
refusal_of Foreign = Some ForeignPage

-- the outcome is kept as it is, with the page of its station; it is not kept if that does not fit
abbrev pub Keeps : Outcome → Result Kept Unwritten → Type 0
Keeps o r =
    MatchResult r (λ k. (fits (state_of o.station) ≡ true) × (did_of k.outcome ≡ did_of o) × (vec_items k.page ≡ page_bytes (state_of o.station)))
    (λ e. WhyUnwritten e (fits (state_of o.station)))
