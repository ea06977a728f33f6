-- The theorem: a valley that is sound has a graph with places, and its stations are made from the weights of its lines.
use Rattle.graph.proofs.Accepts.{weights}
use Rattle.network.specs.Theorem.{Theorem}
use Rattle.network.proofs.Carried.{promise}
use Rattle.network.proofs.Start.{light}
use Rattle.network.proofs.Valley.{places, made_node}

pub theorem : Theorem
theorem n es s w a =
    promise n es (record { weights = weights n es s; few = s.few; placed = places n es s; light = light n es s }) (λ i l. made_node n es s i) w a
