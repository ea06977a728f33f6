-- THE END COMES: where all is settled nothing can be taken, so that one of the houses has said done.
use Rattle.std.proofs.Common.{◌≡◌, ℕ, ◌^◌, ◌<◌, Bool, true, false, cond, T, ltb, ◌⊎◌, List, [], ◌∷◌, ◌++◌, length, get_or, sym, refl, ap, ◌∙◌, subst, inl, inr, append-nil, arith}
use Rattle.message.specs.declared.messages.Message.{Message}
use Rattle.node.specs.declared.state.Taking.TheVariants.{Deferred}
use Rattle.node.specs.Rules.{is_sleeping, takes}
use Rattle.link.specs.Ends.{rest, holds}
use Rattle.link.specs.Copper.{Was, first}
use Rattle.link.proofs.Handed.{still}
use Rattle.station.specs.State.{link_at}
use Rattle.graph.specs.Graph.{Graph, Joined}
use Rattle.graph.specs.Theorems.{joined_by}
use Rattle.graph.proofs.Decide as decide
use Rattle.graph.proofs.Paths.{joined_then}
use Rattle.protocol.specs.Net.{Near, neighbour}
use Rattle.protocol.specs.Theorems.{Closed, Waiting}
use Rattle.protocol.proofs.Carry.{place}
use Rattle.protocol.proofs.Complete.{joined_below}
use Rattle.protocol.proofs.Moving.{moving}
use Rattle.network.specs.Network.{state_in, World, Onward}
use Rattle.network.specs.Theorem.{is_done}
use Rattle.network.proofs.View.{to_none, link_at_lem}
use Rattle.network.proofs.Moves.{Ground}
use Rattle.network.proofs.Worlds.{views_of, net_in, node_in, Stands}
use Rattle.network.proofs.Delivery.{was_behind}
use Rattle.network.proofs.Drained.{Settled, settles}

as_true : (c : Bool) → T c → c ≡ true
as_true true h = refl
as_true false h = absurd h

from_true : (c : Bool) → c ≡ true → T c
from_true true e = tt
from_true false e = let z : ◌≡◌ {A = ℕ} 0 1 = cc in absurd (omega arith)

holds_none : (q : List Message) → holds q ≡ false → q ≡ []
holds_none [] e = refl
holds_none (m ∷ q) e = let z : ◌≡◌ {A = ℕ} 0 1 = cc in absurd (omega arith)

still_none : (acknowledged taken : ℕ) (outbox : List Message) → outbox ≡ [] → still acknowledged taken outbox ≡ []
still_none acknowledged taken outbox e = rw e (elim (ltb acknowledged taken) as (λ c. cond c (rest []) [] ≡ []) [ true ↦ refl | false ↦ refl ])

module _ (g : Graph) (near : Near) (ground : Ground g near) where
  -- the houses that can be joined with x
  module _ (x : ℕ) (lx : x < g.count) where
    joined_with : (y : ℕ) → joined_by g (2 ^ 32) g.count x y ≡ true → Joined g (2 ^ 32) x y
    joined_with y e = decide.sound g (2 ^ 32) g.count x y (from_true (joined_by g (2 ^ 32) g.count x y) e)

    with_joined : (y : ℕ) → Joined g (2 ^ 32) x y → joined_by g (2 ^ 32) g.count x y ≡ true
    with_joined y j = as_true (joined_by g (2 ^ 32) g.count x y) (decide.complete g (2 ^ 32) j)

    closed_with : Closed g (λ y. joined_by g (2 ^ 32) g.count x y)
    closed_with =
        record {
          nodes = λ y e. joined_below g lx (joined_with y e);
          closed = λ y z e l. with_joined z (joined_then g (joined_with y e) (Joined.over z l (ground.light y z) Joined.here));
        }

  module _ (w : World) (world : Stands g near w) (settled : Settled g near ground w) where
    -- nothing is to be handed over from a to b
    outbox_none : (a b : ℕ) → a < g.count → (views_of w.states a).outbox b ≡ []
    outbox_none a b l = two (place (near a) b)
      where
        two : ((k : ℕ) × (k < length (near a)) × (get_or (near a) k 0 ≡ b)) ⊎ ((k : ℕ) → k < length (near a) → get_or (near a) k 0 ≡ b → ⊥) → (views_of w.states a).outbox b ≡ []
        two (inl (k, h, e)) =
            subst (λ z. (views_of w.states a).outbox z ≡ []) e
            (ap (λ n. n.outbox) (link_at_lem (near a) (ground.placed.once a) (state_in w.states a) (world.links a l) k h) ∙ holds_none (link_at (state_in w.states a) k).outbox (settled.quiet a l k h))
        two (inr z) = ap (λ n. n.outbox) (to_none (state_in w.states a).links b (subst (λ ns. (k : ℕ) → k < length ns → get_or ns k 0 ≡ b → ⊥) (sym (world.links a l)) z))

    -- so what is under way waits at its station, where it cannot be taken yet
    way_is : (y k : ℕ) → y < g.count → k < length (near y) → (net_in g near w.states).way (neighbour near y k) y ≡ (link_at (state_in w.states y) k).inbox
    way_is y k l h =
        ap (λ q. (views_of w.states y).inbox (neighbour near y k) ++ q)
        (still_none ((views_of w.states (neighbour near y k)).acknowledged y) ((views_of w.states y).taken (neighbour near y k)) ((views_of w.states (neighbour near y k)).outbox y) (outbox_none (neighbour near y k) y (ground.placed.real y k l h).1))
        ∙ append-nil ((views_of w.states y).inbox (neighbour near y k)) ∙ ap (λ n. n.inbox) (link_at_lem (near y) (ground.placed.once y) (state_in w.states y) (world.links y l) k h)

    waiting : (x : ℕ) (lx : x < g.count) → Waiting near (net_in g near w.states) (λ y. joined_by g (2 ^ 32) g.count x y)
    waiting x lx =
        record {
          awake = λ y c. let l = (closed_with x lx).nodes y c in subst (λ n. is_sleeping n.status ≡ false) (sym (node_in g near w y l)) (settled.awake y l);
          deferred = λ y k m front back c h q.
              let l = (closed_with x lx).nodes y c in
              subst (λ n. takes k m n ≡ Deferred n) (sym (node_in g near w y l)) ((world.calm y l).rest k m (subst (λ v. Was m v) (sym q ∙ way_is y k l h) (was_behind front first)));
        }

    one_done : (x : ℕ) → x < g.count → (h : ℕ) × (u : ℕ) × Joined g u x h × ((state_in w.states h).node.halted ≡ true)
    one_done x lx =
        let d = moving g ground.weights near ground.placed (net_in g near w.states) world.reach (λ y. joined_by g (2 ^ 32) g.count x y) (closed_with x lx) (waiting x lx) x (with_joined x lx x Joined.here) in
        (d.0, 2 ^ 32, joined_with x lx d.0 d.1, ap (λ n. n.halted) (sym (node_in g near w d.0 ((closed_with x lx).nodes d.0 d.1))) ∙ d.2)

  pub end_comes : (w : World) → Stands g near w → (x : ℕ) → x < g.count → (v : World) × (Onward w v × ((h : ℕ) × (u : ℕ) × Joined g u x h × (is_done v h ≡ true)))
  end_comes w world x lx = let s = settles g near ground w world in (s.world, (s.onward, one_done s.world s.stands s.holding x lx))
