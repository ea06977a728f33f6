-- What a node promises, step by step, whatever message comes.
use Rattle.std.specs.Prelude.{◌≡◌, ℕ, ◌<◌, ◌≤◌, true, false, cond, ◌⊎◌, List, length, Some, None, Option, slice_index, slice_index_or}
use Rattle.message.specs.declared.refusals.Refusal.{Refusal}
use Rattle.message.specs.declared.messages.Phase.{Phase}
use Rattle.message.specs.declared.messages.Message.{Message}
use Rattle.message.specs.declared.messages.Message.TheVariants.{Connect, Initiate, Test, Accept, Reject, Report, Change}
use Rattle.message.specs.Bytes.{fits, weighs}
use Rattle.node.specs.declared.state.Best.{Best}
use Rattle.node.specs.declared.state.Best.TheVariants as best
use Rattle.node.specs.declared.state.Node.{Node}
use Rattle.node.specs.declared.state.Turn.{Turn}
use Rattle.node.specs.declared.state.Taking.TheVariants.{Taken, Deferred, Refused}
use Rattle.node.specs.Rules.{Sends, is_basic, is_branch, is_sleeping, has_edge, mark_of, weight_of, best_weight, goes_on, wakes, takes, fresh}

-- a step: the node wakes, or takes a message from an edge
abbrev pub Steps : Node → Turn → Type 0
Steps n t = (wakes n ≡ t) ⊎ ((j : ℕ) × (m : Message) × (takes j m n ≡ Taken t))

-- what goes over edge k
abbrev pub sent_over : Sends → ℕ → Option Message
sent_over s k = slice_index_or s k None

-- a mark never turns back to basic, and a branch stays a branch
abbrev pub MarksStay : Type 0
MarksStay =
    (n : Node) (t : Turn) (k : ℕ) → Steps n t →
    (is_basic (mark_of n k) ≡ false → is_basic (mark_of t.node k) ≡ false) × (is_branch (mark_of n k) ≡ true → is_branch (mark_of t.node k) ≡ true)

-- k is a basic edge, and no basic edge is lighter
abbrev pub LightestBasic : Node → ℕ → Type 0
LightestBasic n k =
    (has_edge n k ≡ true) × (is_basic (mark_of n k) ≡ true) × ((e : ℕ) → has_edge n e ≡ true → is_basic (mark_of n e) ≡ true → weight_of n k ≤ weight_of n e)

-- a node tests only its lightest basic edge, and notes it: with its new level and name
abbrev pub TestsLightest : Type 0
TestsLightest =
    (n : Node) (t : Turn) (k l f : ℕ) → Steps n t → sent_over t.sends k ≡ Some (Test l f) →
    LightestBasic t.node k × (t.node.testing ≡ Some k) × (l ≡ t.node.level) × (f ≡ t.node.name)

-- what an initiate may bring over an edge over which it does not go on: nothing, the test of a basic edge, or a report back
abbrev pub Besides : Node → ℕ → ℕ → ℕ → ℕ → Option Message → Type 0
Besides n j l f k s = (s ≡ None) ⊎ ((is_basic (mark_of n k) ≡ true) × (s ≡ Some (Test l f))) ⊎ ((k ≡ j) × (s ≡ Some (Report None)))

-- an initiate that is taken goes on over every branch but the one it came by, and nothing is put in its place
abbrev pub NothingLost : Type 0
NothingLost =
    (n : Node) (t : Turn) (j k l f : ℕ) (p : Phase) → takes j (Initiate l f p) n ≡ Taken t →
    (goes_on n j k ≡ true → sent_over t.sends k ≡ Some (Initiate l f p)) × (goes_on n j k ≡ false → Besides n j l f k (sent_over t.sends k))

-- a message that is deferred or refused leaves the node as it was
abbrev pub UntakenUnchanged : Type 0
UntakenUnchanged =
    (n o : Node) (j : ℕ) (m : Message) → (takes j m n ≡ Deferred o → o ≡ n) × ((r : Refusal) → takes j m n ≡ Refused o r → o ≡ n)

-- the level after a message: an initiate says it, no other message changes it
abbrev pub level_after : Message → ℕ → ℕ
level_after (Connect l) was = was
level_after (Initiate l f p) was = l
level_after (Test l f) was = was
level_after Accept was = was
level_after Reject was = was
level_after (Report w) was = was
level_after Change was = was

-- the level changes only by an initiate, or by waking, which makes it 0
abbrev pub LevelKept : Type 0
LevelKept =
    (n : Node) → ((wakes n).node.level ≡ cond (is_sleeping n.status) 0 n.level) ×
    ((t : Turn) (j : ℕ) (m : Message) → takes j m n ≡ Taken t → t.node.level ≡ level_after m n.level)

-- numbers that have their place in messages: a level of at most 8, a best weight that is not 0, and edges that weigh something
pub record Sound (n : Node) : Type 0 where
  pub low : n.level ≤ 8
  pub best_weighs : weighs (best_weight n.best) ≡ true
  pub edges_weigh : (k : ℕ) → has_edge n k ≡ true → 1 ≤ weight_of n k

-- a sound node stays sound, and every message that it sends can be put into bytes
abbrev pub SendsFit : Type 0
SendsFit =
    (n : Node) (t : Turn) → Steps n t → Sound n → Sound t.node × ((k : ℕ) (m : Message) → sent_over t.sends k ≡ Some m → fits m ≡ true)

-- no edge, or one that is there
abbrev pub There : Node → Option ℕ → Type 0
There n None = Unit {0}
There n (Some k) = has_edge n k ≡ true

abbrev pub best_edge : Best → Option ℕ
best_edge best.Nothing = None
best_edge (best.Over k w) = Some k

-- the edges that a node speaks of are there, and beyond its edges, of sixteen places, all is basic
pub record Within (n : Node) : Type 0 where
  pub few : n.edges ≤ 16
  pub weight_places : length n.weights ≡ 16
  pub mark_places : length n.marks ≡ 16
  pub parent_there : There n n.parent
  pub best_there : There n (best_edge n.best)
  pub testing_there : There n n.testing
  pub basic_beyond : (k : ℕ) → has_edge n k ≡ false → is_basic (mark_of n k) ≡ true

-- a node stays within its edges, and sends over these alone
abbrev pub WithinEdges : Type 0
WithinEdges =
    (n : Node) (t : Turn) → Steps n t → Within n →
    Within t.node × (length t.sends ≡ 16) × ((k : ℕ) (m : Message) → sent_over t.sends k ≡ Some m → has_edge n k ≡ true)

-- a node as it is made is within its edges, and sound if these weigh something
abbrev pub FreshFit : Type 0
FreshFit =
    (ws : List ℕ) → (length ws ≤ 16 → Within (fresh ws)) × (((k : ℕ) → k < length ws → 1 ≤ slice_index ws k) → Sound (fresh ws))

-- a run: from a node to a later one by any number of steps
pub data Run (n : Node) : Node → Type 0 where
  start : Run n n
  next : {o : Node} (t : Turn) → Run n o → Steps o t → Run n t.node

-- however many steps later, a mark has not turned back to basic, and a branch is a branch
abbrev pub MarksLast : Type 0
MarksLast =
    (n o : Node) (k : ℕ) → Run n o → (is_basic (mark_of n k) ≡ false → is_basic (mark_of o k) ≡ false) × (is_branch (mark_of n k) ≡ true → is_branch (mark_of o k) ≡ true)

-- a node made from at most sixteen weights, each at least 1, is sound and within its edges at every moment
abbrev pub AlwaysFit : Type 0
AlwaysFit =
    (ws : List ℕ) (n : Node) → length ws ≤ 16 → ((k : ℕ) → k < length ws → 1 ≤ slice_index ws k) → Run (fresh ws) n → Sound n × Within n
