-- Ways over light edges: one after the other, turned round, and under a larger weight.
use Rattle.std.proofs.Common.{ℕ, ◌≤◌, arith}
use Rattle.graph.specs.Graph.{Graph, Edge, Joined, Weights}

pub edge_back : (g : Graph) → Weights g → (a b : ℕ) → Edge g a b → Edge g b a
edge_back g f a b l = (l.1, l.0, rw (f.both b a) l.2)

pub joined_more : (g : Graph) {u v a b : ℕ} → u ≤ v → Joined g u a b → Joined g v a b
joined_more g h Joined.here = Joined.here
joined_more g h (Joined.over b l k r) = Joined.over b l (omega arith) (joined_more g h r)

pub joined_then : (g : Graph) {u a b c : ℕ} → Joined g u a b → Joined g u b c → Joined g u a c
joined_then g Joined.here q = q
joined_then g (Joined.over b l k r) q = Joined.over b l k (joined_then g r q)

pub joined_back : (g : Graph) → Weights g → {u a b : ℕ} → Joined g u a b → Joined g u b a
joined_back g f Joined.here = Joined.here
joined_back g f (Joined.over {a} b l k r) =
    joined_then g (joined_back g f r) (Joined.over a (edge_back g f a b l) (rw (f.both b a) k) Joined.here)
