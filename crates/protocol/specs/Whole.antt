-- The same where all nodes can be joined, as every valley file has it: of the whole graph.
use Rattle.std.specs.Prelude.{◌≡◌, ℕ, ◌^◌, ◌<◌, ◌≤◌, true, false, [], length, ◌≢◌}
use Rattle.graph.specs.declared.mark.Mark.TheVariants.{Basic, Branch}
use Rattle.node.specs.Rules.{is_sleeping, mark_of}
use Rattle.graph.specs.Graph.{Graph, Weights, Belongs, Connected}
use Rattle.protocol.specs.Net.{Near, Placed, neighbour, Net, Step, Reach, Run}

-- Once some node has halted just the edges that belong are branches, as both ends see it, and none is basic.
abbrev pub WholeMain : Type 0
WholeMain =
    (g : Graph) → Weights g → Connected g → (near : Near) → Placed g near → (n : Net) → Reach g near n → (h : ℕ) → h < g.count → (n.node h).halted ≡ true →
    (x k : ℕ) → x < g.count → k < length (near x) →
    (mark_of (n.node x) k ≡ Branch → Belongs g x (neighbour near x k)) × (Belongs g x (neighbour near x k) → mark_of (n.node x) k ≡ Branch) × (mark_of (n.node x) k ≢ Basic)

-- And then no step changes a mark.
abbrev pub WholeRests : Type 0
WholeRests =
    (g : Graph) → Weights g → Connected g → (near : Near) → Placed g near → (n m : Net) → Reach g near n → (h : ℕ) → h < g.count → (n.node h).halted ≡ true → Step g near n m →
    (x k : ℕ) → x < g.count → k < length (near x) → mark_of (n.node x) k ≡ mark_of (m.node x) k

-- Two to the power of a level is at most the number of nodes.
abbrev pub WholeLevels : Type 0
WholeLevels = (g : Graph) → Weights g → (near : Near) → Placed g near → (n : Net) → Reach g near n → (i : ℕ) → i < g.count → 2 ^ (n.node i).level ≤ g.count

-- From every net that can be reached some run leads to a node that has halted.
abbrev pub WholeEnds : Type 0
WholeEnds =
    (g : Graph) → Weights g → 1 ≤ g.count → g.count ≤ 256 → (near : Near) → Placed g near → (n : Net) → Reach g near n →
    (m : Net) × (Run g near n m × ((h : ℕ) × (h < g.count) × ((m.node h).halted ≡ true)))

-- And when nothing is under way and nobody sleeps, some node has halted.
abbrev pub WholeNeverStuck : Type 0
WholeNeverStuck =
    (g : Graph) → Weights g → 1 ≤ g.count → (near : Near) → Placed g near → (n : Net) → Reach g near n →
    ((i j : ℕ) → n.way i j ≡ []) → ((i : ℕ) → i < g.count → is_sleeping (n.node i).status ≡ false) → (h : ℕ) × (h < g.count) × ((n.node h).halted ≡ true)
