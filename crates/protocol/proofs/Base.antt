-- What every node and every message keeps to.
use Rattle.std.proofs.Common.{◌≡◌, ℕ, ◌<◌, ◌≤◌, ◌⊎◌, List, Some, None, refl, inl, arith}
use Rattle.message.specs.declared.messages.Message.{Message}
use Rattle.node.specs.declared.state.Status.TheVariants.{Sleeping}
use Rattle.graph.specs.declared.mark.Mark.TheVariants.{Basic}
use Rattle.graph.specs.Graph.{Graph, Edge, Weights}
use Rattle.protocol.proofs.Deed.{In, woke, got, Deed, Alone, WokeTo, Absorbs, Merges, Begins, Searches-ask, Searches-report, Searches-wait, Accepts, Rejects, Crosses-ask, Crosses-report, Crosses-wait, Accepted-report, Accepted-wait, Rejected-ask, Rejected-report, Rejected-wait, Hears-report, Hears-wait, Decides-passes, Decides-joins, Halts, Rests, Changed-passes, Changed-joins}
use Rattle.protocol.proofs.Frame.{start, Lifted, Awake, Ready, Event, OneNode, unmoved, acting, node, Origin, was_there, just_sent, origin}
use Rattle.protocol.proofs.Held.{Send, Held}
use Rattle.protocol.proofs.Outs.{out_to, out_to-++, out_to_onward}
use Rattle.protocol.proofs.Queues.{Has, has-++}

-- of node i, at any x and y
pub record Local (t : Graph) (i x y : ℕ) (h : Held) : Type 0 where
  pub mark : (h.mark x ≡ Basic) ⊎ Edge t i x
  pub testing : h.testing ≡ Some x → Edge t i x
  pub best : h.best ≡ Some x → Edge t i x
  pub parent : h.parent ≡ Some x → Edge t i x
  pub least : h.testing ≡ Some x → h.mark y ≡ Basic → Edge t i y → t.weight i x ≤ t.weight i y
  pub sleeps : h.status ≡ Sleeping → (h.mark x ≡ Basic) × (h.testing ≡ None) × (h.level ≡ 0)
  pub long : h.best ≡ None → h.best_weight ≡ None

-- a message comes over an edge
abbrev pub Came : Graph → ℕ → In → Type 0
Came t i woke = Unit {0}
Came t i (got j m) = Edge t i j

pub record Good (t : Graph) (n : Lifted) : Type 0 where
  pub helds : (i x y : ℕ) → Local t i x y (n.held i)
  pub queues : (i j : ℕ) (m : Message) → Has (n.way i j) m → Edge t i j

local : {t : Graph} {i : ℕ} {h g : Held} {inp : In} {os : List Send} → Deed t i h inp g os → i < t.count → Awake h inp → Came t i inp → (x y : ℕ) → Local t i x y h → Local t i x y g
local (Alone c1) o a b x y v = grind arith
local (WokeTo k c1) o a b x y v = grind arith
local (Absorbs {j} {l} c1) o a b x y v = grind arith
local (Merges {j} {l} c1 c2) o a b x y v = grind arith
local (Begins {j} {l} {f} {s} c1) o a b x y v = grind arith
local (Searches-ask {j} {l} {f} k c1) o a b x y v = grind arith
local (Searches-report {j} {l} {f} c1 c2 c3) o a b x y v = grind arith
local (Searches-wait {j} {l} {f} c1 c2) o a b x y v = grind arith
local (Accepts {j} {l} {f} c1 c2) o a b x y v = grind arith
local (Rejects {j} {l} {f} c1 c2 c3) o a b x y v = grind arith
local (Crosses-ask {j} {l} {f} k c1 c2 c3 c4) o a b x y v = grind arith
local (Crosses-report {j} {l} {f} c1 c2 c3 c4 c5 c6) o a b x y v = grind arith
local (Crosses-wait {j} {l} {f} c1 c2 c3 c4 c5) o a b x y v = grind arith
local (Accepted-report {j} c1 c2) o a b x y v = grind arith
local (Accepted-wait {j} c1) o a b x y v = grind arith
local (Rejected-ask {j} k c1) o a b x y v = grind arith
local (Rejected-report {j} c1 c2 c3) o a b x y v = grind arith
local (Rejected-wait {j} c1 c2) o a b x y v = grind arith
local (Hears-report {j} {w} c1 c2 c3) o a b x y v = grind arith
local (Hears-wait {j} {w} c1 c2) o a b x y v = grind arith
local (Decides-passes {j} {w} k c1 c2 c3 c4 c5) o a b x y v = grind arith
local (Decides-joins {j} {w} k c1 c2 c3 c4 c5) o a b x y v = grind arith
local (Halts {j} {w} c1 c2 c3 c4) o a b x y v = grind arith
local (Rests {j} {w} c1 c2 c3 c4) o a b x y v = grind arith
local (Changed-passes {j} k c1 c2) o a b x y v = grind arith
local (Changed-joins {j} k c1 c2) o a b x y v = grind arith

sent : {t : Graph} {i : ℕ} {h g : Held} {inp : In} {os : List Send} → Deed t i h inp g os → i < t.count → Awake h inp → Came t i inp → (x : ℕ) (m : Message) → Local t i x x h → Has (out_to x os) m → Edge t i x
sent (Alone c1) o a b x m v u = grind (arith, out_to-++, out_to_onward, has-++)
sent (WokeTo k c1) o a b x m v u = grind (arith, out_to-++, out_to_onward, has-++)
sent (Absorbs {j} {l} c1) o a b x m v u = grind (arith, out_to-++, out_to_onward, has-++)
sent (Merges {j} {l} c1 c2) o a b x m v u = grind (arith, out_to-++, out_to_onward, has-++)
sent (Begins {j} {l} {f} {s} c1) o a b x m v u = grind (arith, out_to-++, out_to_onward, has-++)
sent (Searches-ask {j} {l} {f} k c1) o a b x m v u = grind (arith, out_to-++, out_to_onward, has-++)
sent (Searches-report {j} {l} {f} c1 c2 c3) o a b x m v u = grind (arith, out_to-++, out_to_onward, has-++)
sent (Searches-wait {j} {l} {f} c1 c2) o a b x m v u = grind (arith, out_to-++, out_to_onward, has-++)
sent (Accepts {j} {l} {f} c1 c2) o a b x m v u = grind (arith, out_to-++, out_to_onward, has-++)
sent (Rejects {j} {l} {f} c1 c2 c3) o a b x m v u = grind (arith, out_to-++, out_to_onward, has-++)
sent (Crosses-ask {j} {l} {f} k c1 c2 c3 c4) o a b x m v u = grind (arith, out_to-++, out_to_onward, has-++)
sent (Crosses-report {j} {l} {f} c1 c2 c3 c4 c5 c6) o a b x m v u = grind (arith, out_to-++, out_to_onward, has-++)
sent (Crosses-wait {j} {l} {f} c1 c2 c3 c4 c5) o a b x m v u = grind (arith, out_to-++, out_to_onward, has-++)
sent (Accepted-report {j} c1 c2) o a b x m v u = grind (arith, out_to-++, out_to_onward, has-++)
sent (Accepted-wait {j} c1) o a b x m v u = grind (arith, out_to-++, out_to_onward, has-++)
sent (Rejected-ask {j} k c1) o a b x m v u = grind (arith, out_to-++, out_to_onward, has-++)
sent (Rejected-report {j} c1 c2 c3) o a b x m v u = grind (arith, out_to-++, out_to_onward, has-++)
sent (Rejected-wait {j} c1 c2) o a b x m v u = grind (arith, out_to-++, out_to_onward, has-++)
sent (Hears-report {j} {w} c1 c2 c3) o a b x m v u = grind (arith, out_to-++, out_to_onward, has-++)
sent (Hears-wait {j} {w} c1 c2) o a b x m v u = grind (arith, out_to-++, out_to_onward, has-++)
sent (Decides-passes {j} {w} k c1 c2 c3 c4 c5) o a b x m v u = grind (arith, out_to-++, out_to_onward, has-++)
sent (Decides-joins {j} {w} k c1 c2 c3 c4 c5) o a b x m v u = grind (arith, out_to-++, out_to_onward, has-++)
sent (Halts {j} {w} c1 c2 c3 c4) o a b x m v u = grind (arith, out_to-++, out_to_onward, has-++)
sent (Rests {j} {w} c1 c2 c3 c4) o a b x m v u = grind (arith, out_to-++, out_to_onward, has-++)
sent (Changed-passes {j} k c1 c2) o a b x m v u = grind (arith, out_to-++, out_to_onward, has-++)
sent (Changed-joins {j} k c1 c2) o a b x m v u = grind (arith, out_to-++, out_to_onward, has-++)

module _ (t : Graph) (weights : Weights t) where
  came : {n : Lifted} {i : ℕ} {h : Held} (inp : In) → Good t n → Ready t n i h inp → Came t i inp
  came woke p r = tt
  came {n} {i} (got j m) p r = let q : Edge t j i = p.queues j i m (rw r.source.1 (inl refl)) in (q.1, q.0, rw (weights.both i j) q.2)

  helds : {n : Lifted} {i x y : ℕ} {h g : Held} → Good t n → Local t i x y h → OneNode t n i h g → Local t i x y g
  helds p v unmoved = v
  helds {x = x} {y} p v (acting inp os r d) = local d r.inside r.awake (came inp p r) x y v

  queues : {n : Lifted} {i j : ℕ} {m : Message} {h g : Held} → Good t n → Local t i j j h → Origin t n i j m h g → Edge t i j
  queues {i = i} {j} {m} p v (was_there k) = p.queues i j m k
  queues {j = j} {m} p v (just_sent inp os r d k) = sent d r.inside r.awake (came inp p r) j m v k

  pub good_start : Good t start
  good_start = record { helds = λ i x y. grind arith; queues = λ i j m k. elim k [ ] }

  pub good_step : {n m : Lifted} → Event t n m → Good t n → Good t m
  good_step v p = record { helds = λ i x y. helds p (p.helds i x y) (node v i); queues = λ i j x k. queues p (p.helds i j j) (origin v i j x k) }
