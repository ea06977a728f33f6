-- What each station of a standing world holds: a sound node, short queues of messages that fit, and low numbers.
use Rattle.std.proofs.Common.{◌≡◌, ℕ, zero, suc, ◌+◌, ◌*◌, ◌<◌, ◌≤◌, true, false, cond, ltb, leb, List, [], ◌∷◌, length, sum_by, sym, ap, subst, arith, length-append}
use Rattle.std.proofs.lemmas.List.Sums.{get_or-le-sum_by}
use Rattle.message.specs.declared.messages.Message.{Message}
use Rattle.message.specs.Bytes.{fits}
use Rattle.node.specs.Laws.{Sound}
use Rattle.link.specs.Ends.{End, rest}
use Rattle.link.specs.Copper.{Was}
use Rattle.link.proofs.Handed.{still}
use Rattle.station.specs.State.{State, no_link, link_at}
use Rattle.graph.specs.Graph.{Graph}
use Rattle.protocol.specs.Net.{Near, Net, neighbour}
use Rattle.protocol.specs.Count.{edges_below, edges_among, bound}
use Rattle.protocol.proofs.Lift.{Once}
use Rattle.protocol.proofs.Queued.{short_queues}
use Rattle.protocol.proofs.Queues.{has_l}
use Rattle.protocol.proofs.Reaches.{reached, few_messages_sent}
use Rattle.protocol.proofs.Shape.{Shape}
use Rattle.protocol.proofs.Sounds.{sounds}
use Rattle.protocol.proofs.Strays.{one_most, count_few}
use Rattle.network.specs.Network.{no_state, state_in, World}
use Rattle.network.specs.Theorem.{given_by}
use Rattle.network.proofs.Short.{ShortNode, shorts}
use Rattle.network.proofs.View.{view_of, inside as inside-links, neighbour_at, link_at_lem}
use Rattle.network.proofs.Moves.{Ground, was_has}
use Rattle.network.proofs.Worlds.{views_of, net_in, node_in, Stands}

-- a node of n has no more than n edges to nodes below it
edges_below_lem : (g : Graph) (a k : ℕ) → edges_below g a k ≤ k
unfolding edges_below
edges_below_lem g a zero = omega arith
edges_below_lem g a (suc k) = omega (arith, one_most (leb 1 (g.weight a k)), edges_below_lem g a k)

edges_among_lem : (g : Graph) (n : ℕ) → n ≤ 256 → edges_among g n ≤ n * 256
unfolding edges_among
edges_among_lem g zero l = omega arith
edges_among_lem g (suc n) l = omega (arith, edges_below_lem g n n, edges_among_lem g n (omega arith))

-- so few messages are sent where there are few nodes
bound_low : (g : Graph) → g.count ≤ 256 → bound g 8 ≤ 142592
bound_low g l = omega (arith, edges_among_lem g g.count l)

rest_less : (q : List Message) → length q ≤ length (rest q) + 1
rest_less [] = omega arith
rest_less (m ∷ q) = omega arith

-- at most one message is in the outbox that was taken
still_most : (acknowledged taken : ℕ) (outbox : List Message) → length outbox ≤ length (still acknowledged taken outbox) + 1
still_most acknowledged taken outbox = elim (ltb acknowledged taken) as (λ c. length outbox ≤ length (cond c (rest outbox) outbox) + 1) [ true ↦ rest_less outbox | false ↦ omega arith ]

module _ (g : Graph) (near : Near) (ground : Ground g near) (w : World) (world : Stands g near w) (i : ℕ) (inside : i < g.count) where
  abbrev pub station : State
  station = state_in w.states i

  abbrev carries : Net
  carries = net_in g near w.states

  pub node_shape : Shape g i (near i) station.node
  node_shape = subst (λ n. Shape g i (near i) n) (node_in g near w i inside) ((reached g ground.weights near ground.placed carries world.reach).shaped i inside)

  pub node_sound : Sound station.node
  node_sound = subst (λ n. Sound n) (node_in g near w i inside) ((sounds g near ground.placed carries world.reach).sound i inside)

  pub node_short : ShortNode station.node
  node_short = subst (λ n. ShortNode n) (node_in g near w i inside) ((shorts g near ground.light carries world.reach).node i inside)

  pub count_low : station.node.find_count ≤ 16
  count_low =
      let b = reached g ground.weights near ground.placed carries world.reach in
      subst (λ n. n.find_count ≤ 16) (node_in g near w i inside) (count_few g near carries b.ghost b.inv i (b.shaped i inside))

  few : g.count < 512
  few = let l = ground.few in omega arith

  once : Once (near i)
  once = ground.placed.once i

  here : i < length w.states
  here = let e = world.size in omega arith

  -- the link at place k
  module _ (k : ℕ) (lt : k < length (near i)) where
    abbrev pub link : End
    link = link_at station k

    pub neighbour_low : link.neighbour < 256
    neighbour_low = let e = neighbour_at (near i) once station (world.links i inside) k lt in let r = (ground.placed.real i k inside lt).1 in omega (arith, ground.few)

    pub inbox_short : length link.inbox ≤ 11
    inbox_short =
        let q = short_queues g ground.weights near ground.placed 8 few carries world.reach (neighbour near i k) i in
        let e = ap (λ x. length x.inbox) (link_at_lem (near i) once station (world.links i inside) k lt) in
        omega (
          arith,
          length-append ((views_of w.states i).inbox (neighbour near i k))
              (still ((views_of w.states (neighbour near i k)).acknowledged i) ((views_of w.states i).taken (neighbour near i k)) ((views_of w.states (neighbour near i k)).outbox i)),
        )

    pub outbox_short : length link.outbox ≤ 12
    outbox_short =
        let q = short_queues g ground.weights near ground.placed 8 few carries world.reach i (neighbour near i k) in
        let e = ap (λ x. length x.outbox) (link_at_lem (near i) once station (world.links i inside) k lt) in
        omega (
          arith,
          length-append ((views_of w.states (neighbour near i k)).inbox i)
              (still ((views_of w.states i).acknowledged (neighbour near i k)) ((views_of w.states (neighbour near i k)).taken i) ((views_of w.states i).outbox (neighbour near i k))),
          still_most ((views_of w.states i).acknowledged (neighbour near i k)) ((views_of w.states (neighbour near i k)).taken i) ((views_of w.states i).outbox (neighbour near i k)),
        )

    pub inbox_fits_lem : (m : Message) → Was m link.inbox → fits m ≡ true
    inbox_fits_lem m v =
        let e : Was m ((view_of station).inbox (neighbour near i k)) = subst (λ x. Was m x.inbox) (sym (link_at_lem (near i) once station (world.links i inside) k lt)) v in
        (sounds g near ground.placed carries world.reach).fit (neighbour near i k) i m
        (has_l ((view_of station).inbox (neighbour near i k)) (still ((views_of w.states (neighbour near i k)).acknowledged i) ((views_of w.states i).taken (neighbour near i k)) ((views_of w.states (neighbour near i k)).outbox i)) m
        (was_has m ((view_of station).inbox (neighbour near i k)) e))

    pub outbox_fits_lem : (m : Message) → Was m link.outbox → fits m ≡ true
    outbox_fits_lem m v = ((world.lined i (neighbour near i k)).carried m (subst (λ x. Was m x.outbox) (sym (link_at_lem (near i) once station (world.links i inside) k lt)) v)).fit

    -- every number that it gives to a message
    pub numbers_low : link.acknowledged + length link.outbox ≤ 142592
    numbers_low =
        let a : link.acknowledged + length link.outbox ≤ given_by station = get_or-le-sum_by (λ e. e.acknowledged + length e.outbox) station.links k no_link (inside-links (near i) once station (world.links i inside) k lt) in
        let b : given_by station ≤ sum_by given_by w.states = get_or-le-sum_by given_by w.states i no_state here in
        let c : sum_by given_by w.states ≤ bound g 8 = few_messages_sent g ground.weights near ground.placed 8 few carries world.reach in
        omega (arith, bound_low g ground.few)
