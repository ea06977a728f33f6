-- Every delivery brings the one end a message further, so that after enough of them all is taken.
use Rattle.std.proofs.Common.{◌≡◌, ℕ, ◌+◌, ◌<◌, ◌≤◌, true, List, [], ◌∷◌, Some, sym, ◌∙◌, inl, arith}
use Rattle.message.specs.declared.messages.Message.{Message}
use Rattle.message.specs.declared.packets.Packet.{Packet}
use Rattle.message.specs.Bytes.{packet_bytes}
use Rattle.link.specs.Ends.{oldest, numbered, holds}
use Rattle.link.specs.Copper.{Direction, sent, came, answered, answer_of, came_back, sends, comes, answers, comes_back, Moves, Delivery, delivery, Deliveries}
use Rattle.link.specs.Theorems.{AllDelivered, CanDeliver}
use Rattle.link.proofs.Was.{was_last}
use Rattle.link.proofs.Begins.{was_begins, begins_shorter}
use Rattle.link.proofs.Edge.{numbered_is, oldest_returns, answer_returns}
use Rattle.link.proofs.Handed.{still, given_count}
use Rattle.link.proofs.Came.{came_reaches, came_back_reaches}
use Rattle.link.proofs.Direction.{Whole, whole_unused, move_whole, moves_whole, moves_later}

-- some moves and then some more
pub moves_through : {d e f : Direction} → Moves d e → Moves e f → Moves d f
moves_through ms Moves.none = ms
moves_through ms (Moves.more ns n) = Moves.more (moves_through ms ns) n

-- What was sent is not forgotten, so it may come after any moves.
packet_comes : (d e : Direction) (p : Packet) → oldest d.from ≡ Some p → Moves (sent p d) e → Moves d (came (packet_bytes p) e)
packet_comes d e p o ms =
    Moves.more (moves_through (Moves.more Moves.none (sends d p o)) ms)
    (comes e (packet_bytes p) (inl (was_begins (packet_bytes p) (sent p d).packets e.packets (moves_later ms).packets (was_last (packet_bytes p) d.packets))))

answer_comes : (d e : Direction) → Moves (answered d) e → Moves d (came_back (answer_of d) e)
answer_comes d e ms =
    Moves.more (moves_through (Moves.more Moves.none (answers d)) ms)
    (comes_back e (answer_of d) (inl (was_begins (answer_of d) (answered d).answers e.answers (moves_later ms).answers (was_last (answer_of d) d.answers))))

-- So a delivery is made of moves.
pub delivery_moves : {d e : Direction} → Delivery d e → Moves d e
delivery_moves (delivery {e = e} {f = f} {g = g} {h = h} p ms o ns ks ls rs) =
    moves_through (moves_through (moves_through (moves_through ms (packet_comes e f p o ns)) ks) (answer_comes g h ls)) rs

pub deliveries_moves : {n : ℕ} {d e : Direction} → Deliveries n d e → Moves d e
deliveries_moves Deliveries.none = Moves.none
deliveries_moves (Deliveries.more ds x) = moves_through (deliveries_moves ds) (delivery_moves x)

-- The packet of the oldest message is sent and comes: that message is taken.
packet_reaches : (d e : Direction) (p : Packet) → Whole d → oldest d.from ≡ Some p → Moves (sent p d) e → d.from.acknowledged < (came (packet_bytes p) e).to.taken
packet_reaches d e p v o ms =
    let n = numbered_is d.from.acknowledged d.from.outbox p o in
    let w = moves_whole ms (move_whole (sends d p o) v) in
    came_reaches e.to (packet_bytes p) p d.from.acknowledged (oldest_returns p n v.edge) (omega (arith, (moves_later ms).acknowledged, w.edge.low)) n.next

-- An acknowledgement of what was taken is sent and comes back: the one end knows of it.
answer_reaches : (before : ℕ) (d e : Direction) → Whole d → before ≤ d.from.acknowledged → before < d.to.taken → Moves (answered d) e → before < (came_back (answer_of d) e).from.acknowledged
answer_reaches before d e v le lt ms =
    let w = moves_whole ms (move_whole (answers d) v) in
    let l = moves_later ms in
    came_back_reaches e.from (answer_of d) (record { number = d.to.taken }) before (answer_returns v.edge) w.edge (omega (arith, l.acknowledged)) lt l.taken

-- EACH DELIVERY raises the number acknowledged.
pub delivery_raises : {d e : Direction} → Delivery d e → Whole d → d.from.acknowledged < e.from.acknowledged
delivery_raises {d} (delivery {e = e} {f = f} {g = g} {h = h} p ms o ns ks ls rs) v =
    let x = moves_whole ms v in
    let k = moves_later (moves_through ms (moves_through (packet_comes e f p o ns) ks)) in
    let w = moves_whole (moves_through (packet_comes e f p o ns) ks) x in
    let lt : d.from.acknowledged < g.to.taken = omega (arith, (moves_later ms).acknowledged, packet_reaches e f p x o ns, (moves_later ks).taken) in
    omega (arith, answer_reaches d.from.acknowledged g h w k.acknowledged lt ls, (moves_later rs).acknowledged)

pub deliveries_raise : {n : ℕ} {d e : Direction} → Deliveries n d e → Whole d → d.from.acknowledged + n ≤ e.from.acknowledged
deliveries_raise Deliveries.none v = omega arith
deliveries_raise (Deliveries.more ds x) v = let h = deliveries_raise ds v in let k = delivery_raises x (moves_whole (deliveries_moves ds) v) in omega arith

-- The third theorem: what had been given and what is taken in the end both begin what is given in the end, and the first is not the longer.
pub all_delivered : AllDelivered
all_delivered i j n d e ms le ds =
    let v = moves_whole ms (whole_unused i j) in
    let w = moves_whole (deliveries_moves ds) v in
    let more = (moves_later (deliveries_moves ds)).given in
    begins_shorter d.given e.took more.0 (still e.from.acknowledged e.to.taken e.from.outbox) (sym more.1 ∙ w.handed.order)
    (omega (arith, given_count v.edge v.handed, deliveries_raise ds v, w.edge.low, w.handed.count))

pub numbered_some : (acknowledged : ℕ) (outbox : List Message) → holds outbox ≡ true → acknowledged < 4294967295 → (p : Packet) × (numbered acknowledged outbox ≡ Some p)
numbered_some acknowledged [] h lt = let z : ◌≡◌ {A = ℕ} 0 1 = cc in absurd (omega arith)
numbered_some acknowledged (m ∷ ms) h lt = (record { number = acknowledged + 1; message = m }, grind arith)

-- The fourth theorem: the oldest message is sent and comes, and its acknowledgement too, with nothing between.
pub can_deliver : CanDeliver
can_deliver i j d ms h lt =
    let (p, o) = numbered_some d.from.acknowledged d.from.outbox h lt in
    let f = sent p d in
    let g = came (packet_bytes p) f in
    let k = answered g in
    let x : Delivery d (came_back (answer_of g) k) = delivery {e = d} {f = f} {g = g} {h = k} p Moves.none o Moves.none Moves.none Moves.none Moves.none in
    (came_back (answer_of g) k, x, delivery_moves x)
