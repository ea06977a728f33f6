-- Nets of nodes: the nodes of a graph, with the messages that are under way between them, and their steps.
use Rattle.std.specs.Prelude.{◌≡◌, ℕ, ◌+◌, ◌<◌, ◌≤◌, true, false, cond, ◌&&◌, List, [], ◌∷◌, ◌++◌, map, length, Some, None, Option, ◌==◌, slice_index}
use Rattle.message.specs.declared.messages.Message.{Message}
use Rattle.node.specs.declared.state.Node.{Node}
use Rattle.node.specs.declared.state.Turn.{Turn}
use Rattle.node.specs.declared.state.Taking.TheVariants.{Taken, Deferred}
use Rattle.node.specs.Rules.{Sends, fresh, takes, wakes, is_sleeping}
use Rattle.graph.specs.Graph.{Graph, Edge}

-- which neighbour is at the other end of each edge of a node, in the order of its places
abbrev pub Near : Type 0
Near = ℕ → List ℕ

-- the neighbour at a place
abbrev pub neighbour : Near → ℕ → ℕ → ℕ
neighbour near i k = slice_index (near i) k

-- every edge of a node has just one place, and there are at most sixteen
pub record Placed (g : Graph) (near : Near) : Type 0 where
  pub few : (i : ℕ) → length (near i) ≤ 16
  pub real : (i k : ℕ) → i < g.count → k < length (near i) → Edge g i (neighbour near i k)
  pub every : (i j : ℕ) → Edge g i j → (k : ℕ) × (k < length (near i)) × (neighbour near i k ≡ j)
  pub once : (i k l : ℕ) → k < length (near i) → l < length (near i) → neighbour near i k ≡ neighbour near i l → k ≡ l

-- way i j: what is under way from i to j, the oldest first; count: how many messages were ever sent
pub record Net : Type 0 where
  pub node : ℕ → Node
  pub way : ℕ → ℕ → List Message
  pub count : ℕ

-- all sleep, and nothing was sent
abbrev pub start : Graph → Near → Net
start g near = record { node = λ i. fresh (map (g.weight i) (near i)); way = λ i j. []; count = 0 }

abbrev pub given : Option Message → List Message
given None = []
given (Some m) = m ∷ []

-- of what a node sends from its places, what goes to j
abbrev pub over : List ℕ → Sends → ℕ → List Message
over [] s j = []
over (a ∷ others) [] j = []
over (a ∷ others) (o ∷ s) j = cond (a == j) (given o) [] ++ over others s j

-- how many messages these are
abbrev pub messages : Sends → ℕ
messages [] = 0
messages (o ∷ s) = length (given o) + messages s

-- the queue from j to i is replaced
abbrev pub queueing : ℕ → ℕ → List Message → (ℕ → ℕ → List Message) → ℕ → ℕ → List Message
queueing j i q way a b = cond (a == j && b == i) q (way a b)

-- node i has done a turn: it is another node, and what it sends stands behind what is under way
abbrev pub after : Near → ℕ → Turn → (ℕ → ℕ → List Message) → Net → Net
after near i t way n =
    record { node = λ a. cond (a == i) t.node (n.node a); way = λ a b. cond (a == i) (way a b ++ over (near i) t.sends b) (way a b); count = n.count + messages t.sends }

-- A STEP. A sleeping node wakes; or an awake one takes the head of a queue; or it defers it, and the message goes back anywhere behind.
pub data Step (g : Graph) (near : Near) : Net → Net → Type 0 where
  waking : (n : Net) (i : ℕ) → i < g.count → is_sleeping (n.node i).status ≡ true → Step g near n (after near i (wakes (n.node i)) n.way n)
  taking : (n : Net) (i k : ℕ) (m : Message) (rest : List Message) (t : Turn) → i < g.count → n.way (neighbour near i k) i ≡ m ∷ rest → takes k m (n.node i) ≡ Taken t →
      Step g near n (after near i t (queueing (neighbour near i k) i rest n.way) n)
  deferring : (n : Net) (i k : ℕ) (m : Message) (front back : List Message) → i < g.count → is_sleeping (n.node i).status ≡ false → n.way (neighbour near i k) i ≡ m ∷ (front ++ back) → takes k m (n.node i) ≡ Deferred (n.node i) →
      Step g near n (record { node = n.node; way = queueing (neighbour near i k) i (front ++ (m ∷ back)) n.way; count = n.count })

-- what can be reached by steps from the start
pub data Reach (g : Graph) (near : Near) : Net → Type 0 where
  begin : Reach g near (start g near)
  then : {n m : Net} → Reach g near n → Step g near n m → Reach g near m

-- some steps, one after another
pub data Run (g : Graph) (near : Near) : Net → Net → Type 0 where
  still : {n : Net} → Run g near n n
  more : {n m o : Net} → Run g near n m → Step g near m o → Run g near n o
