-- What a node does: the definition that its code and the proof of the protocol both cite. A node's edges are numbered from 0; what it sends is a list with a place for each.
use Rattle.std.specs.Prelude.{◌≡◌, ℕ, zero, suc, ◌+◌, ◌-◌, ◌<◌, Bool, true, false, cond, not, ◌&&◌, ◌||◌, List, ◌++◌, length, replicate, is_some, Some, None, Option, ◌==◌, nat_le, nat_lt, slice_index, slice_index_or, slice_set}
use Rattle.message.specs.declared.refusals.Refusal.TheVariants.{NoSuchEdge, OutOfPlace}
use Rattle.message.specs.declared.messages.Phase.{Phase}
use Rattle.message.specs.declared.messages.Phase.TheVariants as phase
use Rattle.message.specs.declared.messages.Message.{Message}
use Rattle.message.specs.declared.messages.Message.TheVariants.{Connect, Initiate, Test, Accept, Reject, Report, Change}
use Rattle.message.specs.Bytes.{fits}
use Rattle.node.specs.declared.state.Status.{Status}
use Rattle.node.specs.declared.state.Status.TheVariants.{Sleeping, Find, Found}
use Rattle.graph.specs.declared.mark.Mark.{Mark}
use Rattle.graph.specs.declared.mark.Mark.TheVariants.{Basic, Branch, Rejected}
use Rattle.node.specs.declared.state.Best.{Best}
use Rattle.node.specs.declared.state.Best.TheVariants as best
use Rattle.node.specs.declared.state.Node.{Node}
use Rattle.node.specs.declared.state.Turn.{Turn}
use Rattle.node.specs.declared.state.Taking.{Taking}
use Rattle.node.specs.declared.state.Taking.TheVariants.{Taken, Deferred, Refused}

-- what is sent: for each edge a message or none
abbrev pub Sends : Type 0
Sends = List (Option Message)

abbrev pub is_basic : Mark → Bool
is_basic Basic = true
is_basic Branch = false
is_basic Rejected = false

abbrev pub is_branch : Mark → Bool
is_branch Basic = false
is_branch Branch = true
is_branch Rejected = false

abbrev pub is_sleeping : Status → Bool
is_sleeping Sleeping = true
is_sleeping Find = false
is_sleeping Found = false

abbrev pub is_find : Status → Bool
is_find Sleeping = false
is_find Find = true
is_find Found = false

-- what an initiate says of a status
abbrev pub phase_of : Status → Phase
phase_of Sleeping = phase.Found
phase_of Find = phase.Find
phase_of Found = phase.Found

abbrev pub status_of : Phase → Status
status_of phase.Find = Find
status_of phase.Found = Found

abbrev pub is_finding : Phase → Bool
is_finding phase.Find = true
is_finding phase.Found = false

-- is there such an edge
abbrev pub has_edge : Node → ℕ → Bool
has_edge n j = nat_lt j n.edges && nat_lt j 16

abbrev pub mark_of : Node → ℕ → Mark
mark_of n j = slice_index_or n.marks j Basic

-- is there such an edge, and is it basic
abbrev pub has_basic : Node → ℕ → Bool
has_basic n j = has_edge n j && is_basic (mark_of n j)

abbrev pub weight_of : Node → ℕ → ℕ
weight_of n j = slice_index n.weights j

-- is it this edge
abbrev pub is_edge : Option ℕ → ℕ → Bool
is_edge None j = false
is_edge (Some k) j = k == j

abbrev pub best_weight : Best → Option ℕ
best_weight best.Nothing = None
best_weight (best.Over j w) = Some w

abbrev pub is_nothing : Option ℕ → Bool
is_nothing None = true
is_nothing (Some w) = false

-- is one weight lighter than another; any weight is lighter than none
abbrev pub lighter : Option ℕ → Option ℕ → Bool
lighter None w = false
lighter (Some x) None = true
lighter (Some x) (Some y) = nat_lt x y

abbrev pub silent : Sends
silent = replicate 16 None

-- a message more, over edge j
abbrev pub sending : ℕ → Message → Sends → Sends
sending j m s = slice_set s j (Some m)

abbrev pub turn : Node → Sends → Turn
turn n s = record { node = n; sends = s }

-- the lighter of an edge and of what was found before
abbrev pub lighter_of : Node → ℕ → Option ℕ → Option ℕ
lighter_of n j None = Some j
lighter_of n j (Some k) = cond (nat_lt (weight_of n j) (weight_of n k)) (Some j) (Some k)

-- what a closure answers of the sixteen places is what p says
abbrev pub Picks : (ℕ → Bool → Type 0) → (ℕ → Bool) → Type 0
Picks answers p = (j : ℕ) (r : Bool) → j < 16 → answers j r → r ≡ p j

-- the lightest of the edges below k that p picks
unfoldable pub lightest : Node → (ℕ → Bool) → ℕ → Option ℕ
lightest n p zero = None
lightest n p (suc k) = cond (p k) (lighter_of n k (lightest n p k)) (lightest n p k)

-- WAKING. The lightest edge becomes a branch, and connect 0 goes over it; a node without edges has halted.
abbrev pub woken_by : Option ℕ → Node → Turn
woken_by None n = turn (record n { status = Found; level = 0; find_count = 0; halted = true }) silent
woken_by (Some j) n =
    turn (record n { status = Found; marks = slice_set n.marks j Branch; level = 0; find_count = 0 })
    (sending j (Connect 0) silent)

abbrev pub wakes : Node → Turn
wakes n = cond (is_sleeping n.status) (woken_by (lightest n (has_edge n) 16) n) (turn n silent)

-- REPORTING. A node that waits for nobody and tests nothing has found: it tells its parent the best weight.
abbrev pub found : Node → Node
found n = record n { status = Found }

abbrev pub sending_to : Option ℕ → Message → Sends → Sends
sending_to None m s = s
sending_to (Some j) m s = sending j m s

abbrev pub reports : Node → Sends → Turn
reports n s =
    cond (n.find_count == 0 && not (is_some n.testing))
    (turn (found n) (sending_to n.parent (Report (best_weight n.best)) s))
    (turn n s)

-- TESTING. A node asks about its lightest basic edge; if there is none it tests nothing, and reports if it may.
abbrev pub testing : Option ℕ → Node → Node
testing e n = record n { testing = e }

abbrev pub tests_by : Option ℕ → Node → Sends → Turn
tests_by None n s = reports (testing None n) s
tests_by (Some j) n s = turn (testing (Some j) n) (sending j (Test n.level n.name) s)

abbrev pub tests : Node → Sends → Turn
tests n s = tests_by (lightest n (has_basic n) 16) n s

-- CHANGING ROOT. Towards the best edge: over a branch the word is passed on; a basic edge becomes a branch, and the fragment connects over it.
abbrev pub branching : ℕ → Node → Node
branching j n = record n { marks = slice_set n.marks j Branch }

abbrev pub changes : ℕ → Node → Turn
changes j n =
    cond (is_branch (mark_of n j)) (turn n (sending j Change silent)) (turn (branching j n) (sending j (Connect n.level) silent))

-- connect l: a lower fragment is absorbed; one of the same level has to wait while the edge is basic; else the two merge, a level higher.
-- Where the count or the level has no room left the message cannot have come.
abbrev pub absorbing : ℕ → Node → Node
absorbing j n = record n { marks = slice_set n.marks j Branch; find_count = n.find_count + cond (is_find n.status) 1 0 }

abbrev pub absorbs : ℕ → Node → Taking
absorbs j n =
    cond (is_find n.status && n.find_count == 255) (Refused n OutOfPlace)
    (Taken (turn (absorbing j n) (sending j (Initiate n.level n.name (phase_of n.status)) silent)))

abbrev pub merges : ℕ → Node → Taking
merges j n =
    cond (is_basic (mark_of n j)) (Deferred n)
    (cond (nat_le 8 n.level) (Refused n OutOfPlace)
    (Taken (turn n (sending j (Initiate (n.level + 1) (weight_of n j) phase.Find) silent))))

abbrev pub takes_connect : ℕ → ℕ → Node → Taking
takes_connect j l n = cond (nat_lt l n.level) (absorbs j n) (merges j n)

-- initiate l f p: the node joins the fragment of that level, name and phase, and passes it on over its other branches; in find it waits for each of them, and tests.
abbrev pub goes_on : Node → ℕ → ℕ → Bool
goes_on n j k = not (k == j) && (has_edge n k && is_branch (mark_of n k))

-- what goes on over the branches below k, but not over j, and how many these are
unfoldable pub onward : Node → ℕ → Message → ℕ → Sends
onward n j m zero = silent
onward n j m (suc k) = cond (goes_on n j k) (sending k m (onward n j m k)) (onward n j m k)

unfoldable pub branches_but : Node → ℕ → ℕ → ℕ
branches_but n j zero = 0
branches_but n j (suc k) = cond (goes_on n j k) (branches_but n j k + 1) (branches_but n j k)

abbrev pub joining : ℕ → ℕ → ℕ → Phase → ℕ → Node → Node
joining j l f p c n = record n { status = status_of p; level = l; name = f; find_count = c; parent = Some j; best = best.Nothing }

abbrev pub takes_initiate : ℕ → ℕ → ℕ → Phase → Node → Taking
takes_initiate j l f phase.Find n =
    cond (nat_lt 255 (n.find_count + branches_but n j 16)) (Refused n OutOfPlace)
    (Taken (tests (joining j l f phase.Find (n.find_count + branches_but n j 16) n) (onward n j (Initiate l f phase.Find) 16)))
takes_initiate j l f phase.Found n = Taken (turn (joining j l f phase.Found n.find_count n) (onward n j (Initiate l f phase.Found) 16))

-- test l f: a higher level has to wait; another name is accepted; the same name makes the edge rejected, and the answer is a reject, or the next test if it is this edge that the node asks about.
abbrev pub rejecting : ℕ → Node → Node
rejecting j n = record n { marks = cond (is_basic (mark_of n j)) (slice_set n.marks j Rejected) n.marks }

abbrev pub takes_test : ℕ → ℕ → ℕ → Node → Taking
takes_test j l f n =
    cond (nat_lt n.level l) (Deferred n)
    (cond (f == n.name)
    (cond (is_edge n.testing j) (Taken (tests (rejecting j n) silent)) (Taken (turn (rejecting j n) (sending j Reject silent))))
    (Taken (turn n (sending j Accept silent))))

-- accept, reject: the answer to the test; without one it cannot have come.
abbrev pub better_by : ℕ → Option ℕ → Best → Best
better_by j None b = b
better_by j (Some w) b = cond (lighter (Some w) (best_weight b)) (best.Over j w) b

abbrev pub bettering : ℕ → Option ℕ → Node → Node
bettering j w n = record n { best = better_by j w n.best }

abbrev pub takes_accept : ℕ → Node → Taking
takes_accept j n = cond (is_edge n.testing j) (Taken (reports (bettering j (Some (weight_of n j)) (testing None n)) silent)) (Refused n OutOfPlace)

abbrev pub takes_reject : ℕ → Node → Taking
takes_reject j n = cond (is_edge n.testing j) (Taken (tests (rejecting j n) silent)) (Refused n OutOfPlace)

-- report w, from elsewhere than the parent: one less to wait for.
abbrev pub heard : Node → Node
heard n = record n { find_count = n.find_count - 1 }

abbrev pub takes_child_report : ℕ → Option ℕ → Node → Taking
takes_child_report j w n = Taken (reports (bettering j w (heard n)) silent)

-- change, and what a report can come to: over the best edge, if there is one.
abbrev pub changes_by : Best → Node → Taking
changes_by best.Nothing n = Refused n OutOfPlace
changes_by (best.Over j w) n = Taken (changes j n)

-- report w, from the parent: in find it has to wait; the end with the lighter best changes root; if neither has one the net is complete.
abbrev pub halting : Option ℕ → Node → Node
halting w n = record n { halted = n.halted || (is_nothing w && is_nothing (best_weight n.best)) }

abbrev pub decides : Option ℕ → Node → Taking
decides w n = cond (lighter (best_weight n.best) w) (changes_by n.best n) (Taken (turn (halting w n) silent))

abbrev pub takes_parent_report : Option ℕ → Node → Taking
takes_parent_report w n = cond (is_find n.status) (Deferred n) (decides w n)

-- THE RULES, for a node that is awake.
abbrev pub takes_awake : ℕ → Message → Node → Taking
takes_awake j (Connect l) n = takes_connect j l n
takes_awake j (Initiate l f p) n = takes_initiate j l f p n
takes_awake j (Test l f) n = takes_test j l f n
takes_awake j Accept n = takes_accept j n
takes_awake j Reject n = takes_reject j n
takes_awake j (Report w) n = cond (is_edge n.parent j) (takes_parent_report w n) (takes_child_report j w n)
takes_awake j Change n = changes_by n.best n

-- one that sleeps leaves the message until it is awake
abbrev pub follows : ℕ → Message → Node → Taking
follows j m n = cond (is_sleeping n.status) (Deferred n) (takes_awake j m n)

-- what a node does with a message from its edge j
abbrev pub takes : ℕ → Message → Node → Taking
takes j m n = cond (has_edge n j) (cond (fits m) (follows j m n) (Refused n OutOfPlace)) (Refused n NoSuchEdge)

-- a node as it is made, from the weights of its edges
abbrev pub fresh : List ℕ → Node
fresh ws =
    record { status = Sleeping; edges = length ws; weights = ws ++ replicate (16 - length ws) 0; marks = replicate 16 Basic; level = 0; name = 0; find_count = 0; parent = None; best = best.Nothing; testing = None; halted = false }
