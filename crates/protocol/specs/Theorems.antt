-- What is promised of every net that can be reached. Each is a type; a proof of the type is the theorem. Nothing here assumes that all nodes can be joined.
use Rattle.std.specs.Prelude.{◌≡◌, ℕ, zero, suc, ◌+◌, ◌^◌, ◌<◌, ◌≤◌, Bool, true, false, cond, List, ◌∷◌, ◌++◌, length, ◌≢◌}
use Rattle.message.specs.declared.refusals.Refusal.{Refusal}
use Rattle.message.specs.declared.messages.Message.{Message}
use Rattle.message.specs.declared.messages.Message.TheVariants.{Connect}
use Rattle.node.specs.declared.state.Node.{Node}
use Rattle.node.specs.declared.state.Taking.TheVariants.{Deferred, Refused}
use Rattle.graph.specs.declared.mark.Mark.TheVariants.{Basic, Branch, Rejected}
use Rattle.node.specs.Rules.{is_sleeping, mark_of, takes}
use Rattle.graph.specs.Graph.{Graph, Edge, Joined, Weights, Belongs}
use Rattle.protocol.specs.Net.{Near, Placed, neighbour, Net, Reach, Run}
use Rattle.protocol.specs.Count.{bound}

-- At every moment: an edge that is a branch, as either end sees it, belongs to the least net, and one that is rejected does not.
abbrev pub AlwaysRight : Type 0
AlwaysRight =
    (g : Graph) → Weights g → (near : Near) → Placed g near → (n : Net) → Reach g near n → (i k : ℕ) → i < g.count → k < length (near i) →
    (mark_of (n.node i) k ≡ Branch → Belongs g i (neighbour near i k)) × (mark_of (n.node i) k ≡ Rejected → Belongs g i (neighbour near i k) → ⊥)

-- THE END. When some node has halted: of the edges of all nodes that can be joined with it just those that belong are branches, as either end sees it, and none is basic.
abbrev pub Main : Type 0
Main =
    (g : Graph) → Weights g → (near : Near) → Placed g near → (n : Net) → Reach g near n → (h : ℕ) → h < g.count → (n.node h).halted ≡ true →
    (x u k : ℕ) → Joined g u h x → k < length (near x) →
    (mark_of (n.node x) k ≡ Branch → Belongs g x (neighbour near x k)) × (Belongs g x (neighbour near x k) → mark_of (n.node x) k ≡ Branch) × (mark_of (n.node x) k ≢ Basic)

-- And then nothing changes: whatever steps come, these marks stay as they are.
abbrev pub Rests : Type 0
Rests =
    (g : Graph) → Weights g → (near : Near) → Placed g near → (n : Net) → Reach g near n → (h : ℕ) → h < g.count → (n.node h).halted ≡ true →
    (m : Net) → Run g near n m → (x u k : ℕ) → Joined g u h x → k < length (near x) → mark_of (m.node x) k ≡ mark_of (n.node x) k

-- how many nodes below n are in a set
unfoldable pub members : (ℕ → Bool) → ℕ → ℕ
members C zero = 0
members C (suc n) = cond (C n) 1 0 + members C n

-- Two to the power of a node's level is at most the number of nodes that it can be joined with: of any set that holds all of these.
abbrev pub LevelsLow : Type 0
LevelsLow =
    (g : Graph) → Weights g → (near : Near) → Placed g near → (n : Net) → Reach g near n → (i : ℕ) → i < g.count →
    (C : ℕ → Bool) → ((x u : ℕ) → Joined g u i x → C x ≡ true) → 2 ^ (n.node i).level ≤ members C g.count

-- Few messages: with fewer than two to the power k + 1 nodes, those ever sent are at most five for each node and level, and two for each edge.
abbrev pub FewMessages : Type 0
FewMessages =
    (g : Graph) → Weights g → (near : Near) → Placed g near → (k : ℕ) → g.count < 2 ^ suc k → (n : Net) → Reach g near n →
    n.count ≤ bound g k

-- Queues are short: with fewer than two to the power k + 1 nodes, at most k + 3 messages are under way from one node to another at any moment.
abbrev pub ShortQueues : Type 0
ShortQueues =
    (g : Graph) → Weights g → (near : Near) → Placed g near → (k : ℕ) → g.count < 2 ^ suc k → (n : Net) → Reach g near n →
    (i j : ℕ) → length (n.way i j) ≤ k + 3

-- No message is ever refused: with at most 256 nodes, a node takes or defers whatever stands at the head of a queue to it.
abbrev pub NoStray : Type 0
NoStray =
    (g : Graph) → Weights g → g.count ≤ 256 → (near : Near) → Placed g near → (n : Net) → Reach g near n → (i k : ℕ) (m : Message) (rest : List Message) (o : Node) (r : Refusal) →
    i < g.count → k < length (near i) → n.way (neighbour near i k) i ≡ m ∷ rest → takes k m (n.node i) ≢ Refused o r

-- Nor does a connect ever come over an edge that a node has rejected.
abbrev pub NoLateConnect : Type 0
NoLateConnect =
    (g : Graph) → Weights g → (near : Near) → Placed g near → (n : Net) → Reach g near n → (i k l : ℕ) (front back : List Message) →
    i < g.count → k < length (near i) → mark_of (n.node i) k ≡ Rejected → n.way (neighbour near i k) i ≢ front ++ (Connect l ∷ back)

-- a set of nodes that no edge leads out of
pub record Closed (g : Graph) (C : ℕ → Bool) : Type 0 where
  pub nodes : (x : ℕ) → C x ≡ true → x < g.count
  pub closed : (x y : ℕ) → C x ≡ true → Edge g x y → C y ≡ true

-- of these nodes none sleeps, and every message under way to one of them, wherever it stands in its queue, would be deferred
pub record Waiting (near : Near) (n : Net) (C : ℕ → Bool) : Type 0 where
  pub awake : (x : ℕ) → C x ≡ true → is_sleeping (n.node x).status ≡ false
  pub deferred : (x k : ℕ) (m : Message) (front back : List Message) → C x ≡ true → k < length (near x) → n.way (neighbour near x k) x ≡ front ++ (m ∷ back) → takes k m (n.node x) ≡ Deferred (n.node x)

-- NEVER STUCK. Where nobody sleeps and no message can be taken, of some nodes that no edge leads out of, one of them has halted.
abbrev pub NeverStuck : Type 0
NeverStuck =
    (g : Graph) → Weights g → (near : Near) → Placed g near → (n : Net) → Reach g near n → (C : ℕ → Bool) → Closed g C → Waiting near n C →
    (x : ℕ) → C x ≡ true → (h : ℕ) × (C h ≡ true) × ((n.node h).halted ≡ true)
