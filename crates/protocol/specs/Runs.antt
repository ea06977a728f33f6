-- How long runs last, and where they lead.
use Rattle.std.specs.Prelude.{◌≡◌, ℕ, zero, suc, ◌+◌, ◌-◌, ◌^◌, ◌<◌, ◌≤◌, Bool, true, length}
use Rattle.node.specs.Rules.{is_sleeping}
use Rattle.graph.specs.Graph.{Graph, Weights}
use Rattle.protocol.specs.Net.{Near, Placed, Net, start, Step, waking, taking, deferring, Reach, Run, still, more}
use Rattle.protocol.specs.Count.{bound}
use Rattle.protocol.specs.Theorems.{members, Closed}

-- the sum of f over all numbers below n
unfoldable pub total : (ℕ → ℕ) → ℕ → ℕ
total f zero = 0
total f (suc n) = f n + total f n

-- how many messages are under way
abbrev pub under_way : Graph → Net → ℕ
under_way g n = total (λ i. total (λ j. length (n.way i j)) g.count) g.count

-- how many nodes sleep
abbrev pub asleep : Graph → Net → ℕ
asleep g n = members (λ i. is_sleeping (n.node i).status) g.count

-- what is left to do: the messages that may still be sent, those that are to be taken, and the nodes that are to wake
abbrev pub left : Graph → ℕ → Net → ℕ
left g k n = (bound g k - n.count) + (under_way g n + asleep g n)

-- a waking or a taking is a move; a deferring is none
abbrev pub move : {g : Graph} {near : Near} {n m : Net} → Step g near n m → ℕ
move (waking n i l s) = 1
move (taking n i k m rest t l q e) = 1
move (deferring n i k m front back l a q e) = 0

-- how many moves a run has
unfoldable pub moves : {g : Graph} {near : Near} {n m : Net} → Run g near n m → ℕ
moves still = 0
moves (more r s) = moves r + move s

-- EVERY RUN ENDS. With fewer than two to the power k + 1 nodes each move leaves less to do, and no deferring leaves more.
abbrev pub EveryRunEnds : Type 0
EveryRunEnds =
    (g : Graph) → Weights g → (near : Near) → Placed g near → (k : ℕ) → g.count < 2 ^ suc k → (n : Net) → Reach g near n → (m : Net) (r : Run g near n m) →
    moves r + left g k m ≤ left g k n

-- So from the start no run has more moves than messages may be sent and nodes may wake.
abbrev pub FewMoves : Type 0
FewMoves =
    (g : Graph) → Weights g → (near : Near) → Placed g near → (k : ℕ) → g.count < 2 ^ suc k → (m : Net) (r : Run g near (start g near) m) →
    moves r ≤ bound g k + g.count

-- THE END IS REACHED. From every net that can be reached, with at most 256 nodes, some run leads to the halting of a node, among any nodes that no edge leads out of.
abbrev pub Ends : Type 0
Ends =
    (g : Graph) → Weights g → g.count ≤ 256 → (near : Near) → Placed g near → (n : Net) → Reach g near n → (C : ℕ → Bool) → Closed g C → (x : ℕ) → C x ≡ true →
    (m : Net) × (Run g near n m × ((h : ℕ) × (C h ≡ true) × ((m.node h).halted ≡ true)))
