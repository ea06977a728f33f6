-- How many edges a graph has, and how many messages are ever sent in it.
use Rattle.std.specs.Prelude.{ℕ, zero, suc, ◌+◌, ◌*◌, cond, nat_le}
use Rattle.graph.specs.Graph.{Graph}

-- how many edges node a has to nodes below k
unfoldable pub edges_below : Graph → ℕ → ℕ → ℕ
edges_below g a zero = 0
edges_below g a (suc k) = cond (nat_le 1 (g.weight a k)) 1 0 + edges_below g a k

-- how many edges there are among the first n nodes: each is counted once, at its end of the greater number
unfoldable pub edges_among : Graph → ℕ → ℕ
edges_among g zero = 0
edges_among g (suc n) = edges_below g n n + edges_among g n

-- how many edges there are
abbrev pub edge_count : Graph → ℕ
edge_count g = edges_among g g.count

-- the most messages that are ever sent where a level is at most k: five for each node and level, and two for each edge
abbrev pub bound : Graph → ℕ → ℕ
bound g k = 5 * (g.count * (k + 1)) + 2 * edge_count g
