-- What a node holds, by the numbers of its neighbours: the node as the proof looks at it.
use Rattle.std.proofs.Common.{ℕ, zero, suc, ◌+◌, ◌-◌, Bool, true, false, cond, not, ◌&&◌, eqb, List, [], ◌∷◌, ◌++◌, Some, None, Option}
use Rattle.message.specs.declared.messages.Message.{Message}
use Rattle.message.specs.declared.messages.Phase.{Phase}
use Rattle.node.specs.declared.state.Status.{Status}
use Rattle.node.specs.declared.state.Status.TheVariants.{Sleeping, Found}
use Rattle.graph.specs.declared.mark.Mark.{Mark}
use Rattle.graph.specs.declared.mark.Mark.TheVariants.{Basic, Rejected}
use Rattle.node.specs.Rules.{is_basic, is_branch, status_of, is_finding, lighter}
use Rattle.graph.specs.Graph.{Graph}

-- a message over the edge to a neighbour

pub record Send : Type 0 where
  pub over : ℕ
  pub message : Message

pub record Held : Type 0 where
  pub status : Status
  pub mark : ℕ → Mark
  pub level : ℕ
  pub name : ℕ
  pub find_count : ℕ
  pub parent : Option ℕ
  pub best : Option ℕ
  pub best_weight : Option ℕ
  pub testing : Option ℕ
  pub halted : Bool

-- a node that sleeps, as it is made
abbrev pub bare : Held
bare = record { status = Sleeping; mark = λ j. Basic; level = 0; name = 0; find_count = 0; parent = None; best = None; best_weight = None; testing = None; halted = false }

abbrev pub is_none : Option ℕ → Bool
is_none None = true
is_none (Some j) = false

abbrev pub put : ℕ → Mark → (ℕ → Mark) → ℕ → Mark
put j m f k = cond (eqb k j) m (f k)

abbrev pub marking : ℕ → Mark → Held → Held
marking j m h =
    record { status = h.status; mark = put j m h.mark; level = h.level; name = h.name; find_count = h.find_count; parent = h.parent; best = h.best; best_weight = h.best_weight; testing = h.testing; halted = h.halted }

abbrev pub rejecting : ℕ → Held → Held
rejecting j h =
    record { status = h.status; mark = λ k. cond (eqb k j && is_basic (h.mark k)) Rejected (h.mark k); level = h.level; name = h.name; find_count = h.find_count; parent = h.parent; best = h.best; best_weight = h.best_weight; testing = h.testing; halted = h.halted }

abbrev pub testing_now : Option ℕ → Held → Held
testing_now w h =
    record { status = h.status; mark = h.mark; level = h.level; name = h.name; find_count = h.find_count; parent = h.parent; best = h.best; best_weight = h.best_weight; testing = w; halted = h.halted }

-- it has found
abbrev pub finding : Held → Held
finding h =
    record { status = Found; mark = h.mark; level = h.level; name = h.name; find_count = h.find_count; parent = h.parent; best = h.best; best_weight = h.best_weight; testing = h.testing; halted = h.halted }

-- it waits for some more
abbrev pub counting : ℕ → Held → Held
counting n h =
    record { status = h.status; mark = h.mark; level = h.level; name = h.name; find_count = h.find_count + n; parent = h.parent; best = h.best; best_weight = h.best_weight; testing = h.testing; halted = h.halted }

-- it has heard one that it waited for
abbrev pub hearing : Held → Held
hearing h =
    record { status = h.status; mark = h.mark; level = h.level; name = h.name; find_count = h.find_count - 1; parent = h.parent; best = h.best; best_weight = h.best_weight; testing = h.testing; halted = h.halted }

abbrev pub halting : Held → Held
halting h =
    record { status = h.status; mark = h.mark; level = h.level; name = h.name; find_count = h.find_count; parent = h.parent; best = h.best; best_weight = h.best_weight; testing = h.testing; halted = true }

abbrev pub bettering : ℕ → Option ℕ → Held → Held
bettering j w h =
    record { status = h.status; mark = h.mark; level = h.level; name = h.name; find_count = h.find_count; parent = h.parent; best = cond (lighter w h.best_weight) (Some j) h.best; best_weight = cond (lighter w h.best_weight) w h.best_weight; testing = h.testing; halted = h.halted }

-- how many branches there are to neighbours below n, but not to j
unfoldable pub branches_but : Held → ℕ → ℕ → ℕ
branches_but h j zero = 0
branches_but h j (suc n) = cond (is_branch (h.mark n) && not (eqb n j)) 1 0 + branches_but h j n

abbrev pub joining : Graph → ℕ → ℕ → ℕ → Phase → Held → Held
joining t j l f s h =
    record { status = status_of s; mark = h.mark; level = l; name = f; find_count = h.find_count + cond (is_finding s) (branches_but h j t.count) 0; parent = Some j; best = None; best_weight = None; testing = h.testing; halted = h.halted }

-- what goes on over the branches to neighbours below n, but not to j
unfoldable pub onward : Held → ℕ → Message → ℕ → List Send
onward h j m zero = []
onward h j m (suc n) = cond (is_branch (h.mark n) && not (eqb n j)) (record { over = n; message = m } ∷ []) [] ++ onward h j m n

abbrev pub send_to : Option ℕ → Message → List Send
send_to None m = []
send_to (Some j) m = record { over = j; message = m } ∷ []

-- it wakes
abbrev pub woken_held : Bool → (ℕ → Mark) → Held → Held
woken_held d f h =
    record { status = Found; mark = f; level = 0; name = h.name; find_count = 0; parent = h.parent; best = h.best; best_weight = h.best_weight; testing = h.testing; halted = d }
