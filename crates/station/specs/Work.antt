-- Working off the inboxes, in rounds over the links in order: at each as many looks at its head as messages stood there when the round came to it, each head taken or put behind the others; until a round took nothing.
use Rattle.std.specs.Prelude.{ℕ, zero, suc, Bool, true, false, List, [], ◌∷◌, ◌++◌, length, Some, None, vec_items, sum_by, Option}
use Rattle.message.specs.declared.refusals.Refusal.{Refusal}
use Rattle.message.specs.declared.messages.Message.{Message}
use Rattle.node.specs.declared.state.Taking.{Taking}
use Rattle.node.specs.declared.state.Taking.TheVariants.{Taken, Deferred, Refused}
use Rattle.node.specs.Rules.{takes}
use Rattle.link.specs.Ends.{head_of, taking, deferring}
use Rattle.station.specs.State.{State, state_of, link_at, with_link, acted}
use Rattle.station.specs.declared.work.Work.{Work}

-- a station at work: what it has turned away, and whether this round took something
pub record Progress : Type 0 where
  pub state : State
  pub refusals : List Refusal
  pub took : Bool

-- the station at work that the code holds, in a round that took something or not
abbrev pub progress_of : Work → Bool → Progress
progress_of w took = record { state = state_of w.station; refusals = vec_items w.refusals; took = took }

-- the head is taken, deferred, or turned away, which is taken as nothing
abbrev pub look_by : ℕ → Taking → Progress → Progress
look_by k (Taken t) p = record { state = acted t (with_link k (taking (link_at p.state k)) p.state); refusals = p.refusals; took = true }
look_by k (Deferred n) p = record { state = with_link k (deferring (link_at p.state k)) p.state; refusals = p.refusals; took = p.took }
look_by k (Refused n r) p = record { state = with_link k (taking (link_at p.state k)) p.state; refusals = p.refusals ++ (r ∷ []); took = true }

abbrev pub look_at : ℕ → Option Message → Progress → Progress
look_at k None p = p
look_at k (Some m) p = look_by k (takes k m p.state.node) p

-- one look at the head of an inbox
unfoldable pub look : ℕ → Progress → Progress
look k p = look_at k (head_of (link_at p.state k).inbox) p

unfoldable pub looks : ℕ → ℕ → Progress → Progress
looks k zero p = p
looks k (suc n) p = look k (looks k n p)

-- how many messages wait at a place
abbrev pub waiting_at : ℕ → Progress → ℕ
waiting_at k p = length (link_at p.state k).inbox

-- a round over the first n places
unfoldable pub round : ℕ → Progress → Progress
round zero p = p
round (suc n) p = looks n (waiting_at n (round n p)) (round n p)

abbrev pub afresh : Progress → Progress
afresh p = record { state = p.state; refusals = p.refusals; took = false }

-- a round over all places
abbrev pub lap : Progress → Progress
lap p = round (length p.state.links) (afresh p)

-- rounds until one took nothing, but at most n
unfoldable pub rounds : ℕ → Progress → Progress
rounds zero p = p
rounds (suc n) p = elim (lap p).took [ true ↦ rounds n (lap p) | false ↦ lap p ]

-- how many messages wait in all
abbrev pub waiting : State → ℕ
waiting s = sum_by (λ e. length e.inbox) s.links

-- each round that takes something leaves fewer messages, so that these are enough
abbrev pub works : Progress → Progress
works p = rounds (suc (waiting p.state)) p

-- a station with its inboxes worked off
abbrev pub at_work : State → Progress
at_work s = works (record { state = s; refusals = []; took = false })
