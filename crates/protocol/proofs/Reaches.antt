-- Every net that can be reached has all invariants, with some ghost; and so it is right at every moment, and its levels are low.
use Rattle.std.proofs.Common.{sym, ◌∙◌, subst, arith, pow_mono}
use Rattle.graph.specs.Graph.{Graph, Weights}
use Rattle.protocol.proofs.Charged.{few}
use Rattle.protocol.proofs.Edges.{first, next}
use Rattle.protocol.proofs.Events.{lift, Shaped, lift_start, event}
use Rattle.protocol.proofs.Ghost.{Ghost}
use Rattle.protocol.proofs.Invariant.{Inv, inv_start, inv_step}
use Rattle.protocol.proofs.Levels.{fragment_small}
use Rattle.protocol.proofs.Raised.{low_of}
use Rattle.protocol.proofs.Right.{right}
use Rattle.protocol.proofs.Shape.{marked}
use Rattle.protocol.proofs.Standing.{shaped_start, shaped_step}
use Rattle.protocol.specs.Net.{Net, Near, Placed, Reach, begin, then, neighbour}
use Rattle.protocol.specs.Theorems.{AlwaysRight, LevelsLow, FewMessages}

-- a net, its ghost, and what holds of both
pub record Reached (g : Graph) (near : Near) (n : Net) : Type 0 where
  pub ghost : Ghost
  pub inv : Inv g (lift near n) ghost
  pub shaped : Shaped g near n

pub reached : (g : Graph) → Weights g → (near : Near) → Placed g near → (n : Net) → Reach g near n → Reached g near n
reached g w near p _ begin = record { ghost = first; inv = subst (λ v. Inv g v first) (sym (lift_start g near)) (inv_start g w); shaped = shaped_start g near p }
reached g w near p _ (then {n} {m} r s) =
    let b = reached g w near p n r in
    let v = event b.shaped s in
    record { ghost = next b.ghost v; inv = inv_step g w (lift near n) (lift near m) b.ghost b.inv v; shaped = shaped_step b.shaped s }

pub always_right : AlwaysRight
always_right g w near p n r i k lt l =
    let b = reached g w near p n r in
    let s = b.shaped i lt in
    let q = right g w (lift near n) b.ghost b.inv.edges b.inv.insides b.inv.belonging i (neighbour near i k) (s.real k l) in
    let e = marked g i (near i) (n.node i) s k l in
    (λ u. q.0 (e ∙ u), λ u. q.1 (e ∙ u))

pub levels_low : LevelsLow
levels_low g w near p n r i lt C h =
    let b = reached g w near p n r in
    let low = low_of g (lift near n) b.ghost b.inv.alones b.inv.sane i in
    let small = fragment_small b.inv.insides b.inv.sizes i lt C h in
    let grow = pow_mono low in
    omega arith

pub few_messages_sent : FewMessages
few_messages_sent g w near p k small n r =
    let b = reached g w near p n r in
    let i = b.inv in
    few g w (lift near n) b.ghost i.good i.sane i.edges i.talks i.alones i.sizes i.charged k small
