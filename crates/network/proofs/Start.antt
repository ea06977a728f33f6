-- A valley as it is made stands, so that it stands after every list of events.
use Rattle.std.proofs.Common.{◌≡◌, ℕ, zero, suc, ◌+◌, ◌<◌, ◌≤◌, Bool, true, false, cond, eqb, ltb, List, [], ◌∷◌, map, length, get_or, sum_by, sym, refl, ap, ◌∙◌, subst, arith, length-append}
use native.Mathlib.Decide.{dec_lt}
use Rattle.std.proofs.lemmas.List.{get_or_append_left, get_or_push, get_or_past}
use Rattle.std.proofs.lemmas.List.Sums.{sum_by_push, sum_by-cons}
use Rattle.message.specs.Laws.{Short}
use Rattle.node.specs.Rules.{fresh}
use Rattle.link.specs.Ends.{new_end}
use Rattle.link.specs.Copper.{Was}
use Rattle.link.proofs.Edge.{edge_unused}
use Rattle.station.specs.State.{link_in}
use Rattle.station.specs.Making.{fresh_state}
use Rattle.graph.specs.declared.edge.WeightedEdge.{WeightedEdge}
use Rattle.graph.specs.declared.edge.Neighbour.{Neighbour}
use Rattle.graph.specs.Edges.{weight_in, graph_from, neighbours_of, between, no_edge, Sound}
use Rattle.protocol.specs.Net as net
use Rattle.protocol.specs.Net.{Reach}
use Rattle.network.specs.Network.{no_state, state_in, World, After, fresh_states, start}
use Rattle.network.specs.Theorem.{near_of, given_by}
use Rattle.network.proofs.Short.{Light}
use Rattle.network.proofs.View.{View, view_of, link_to, leads}
use Rattle.network.proofs.Abstract.{net_path}
use Rattle.network.proofs.Lined.{Lined}
use Rattle.network.proofs.Rest.{Calm}
use Rattle.network.proofs.Moves.{Ground}
use Rattle.network.proofs.Worlds.{views_of, net_in, Stands, after_onto}

-- every weight of a sound list of edges has 32 bits
weight_light : (es : List WeightedEdge) → ((k : ℕ) → k < length es → (get_or es k no_edge).weight ≤ 1000000) → (a b : ℕ) → Short (weight_in es a b)
unfolding weight_in
weight_light [] h a b = omega arith
weight_light (e ∷ es) h a b = two (between e a b) (weight_light es (λ k l. h (suc k) (omega arith)) a b)
  where
    two : (c : Bool) → Short (weight_in es a b) → Short (cond c e.weight (weight_in es a b))
    two true ih = let l = h 0 (omega arith) in omega arith
    two false ih = ih

pub light : (n : ℕ) (es : List WeightedEdge) → Sound n es → Light (graph_from n es)
light n es s = weight_light es (λ k l. (s.valid k l).4)

-- over a link as it is made nothing was sent
links_fresh : (ns : List Neighbour) (j : ℕ) → ((link_to (map (λ n. new_end n.node) ns) j).acknowledged ≡ 0) × ((link_to (map (λ n. new_end n.node) ns) j).outbox ≡ []) ×
    ((link_to (map (λ n. new_end n.node) ns) j).taken ≡ 0) × ((link_to (map (λ n. new_end n.node) ns) j).inbox ≡ [])
unfolding link_to
links_fresh [] j = (refl, refl, refl, refl)
links_fresh (n ∷ ns) j = two (eqb n.node j) (links_fresh ns j)
  where
    two : (c : Bool) → ((link_to (map (λ n. new_end n.node) ns) j).acknowledged ≡ 0) × ((link_to (map (λ n. new_end n.node) ns) j).outbox ≡ []) ×
        ((link_to (map (λ n. new_end n.node) ns) j).taken ≡ 0) × ((link_to (map (λ n. new_end n.node) ns) j).inbox ≡ []) →
        ((cond c (new_end n.node) (link_to (map (λ n. new_end n.node) ns) j)).acknowledged ≡ 0) × ((cond c (new_end n.node) (link_to (map (λ n. new_end n.node) ns) j)).outbox ≡ []) ×
        ((cond c (new_end n.node) (link_to (map (λ n. new_end n.node) ns) j)).taken ≡ 0) × ((cond c (new_end n.node) (link_to (map (λ n. new_end n.node) ns) j)).inbox ≡ [])
    two true h = (refl, refl, refl, refl)
    two false h = h

leads_fresh : (ns : List Neighbour) → leads (map (λ n. new_end n.node) ns) ≡ map (λ n. n.node) ns
leads_fresh [] = refl
leads_fresh (n ∷ ns) = ap (λ l. n.node ∷ l) (leads_fresh ns)

given_fresh : (i : ℕ) (ns : List Neighbour) → given_by (fresh_state i ns) ≡ 0
given_fresh i [] = refl
given_fresh i (n ∷ ns) = omega (arith, sum_by-cons (λ e. e.acknowledged + length e.outbox) (new_end n.node) (map (λ n. new_end n.node) ns), given_fresh i ns)

inbox_fresh : (ns : List Neighbour) (k : ℕ) → (link_in (map (λ n. new_end n.node) ns) k).inbox ≡ []
inbox_fresh [] k = refl
inbox_fresh (n ∷ ns) zero = refl
inbox_fresh (n ∷ ns) (suc k) = inbox_fresh ns k

calm_fresh : (i : ℕ) (ns : List Neighbour) → Calm (fresh_state i ns)
calm_fresh i ns = record { rest = λ k m w. elim (subst (λ q. Was m q) (inbox_fresh ns k) w) [ ]; sleep = λ z k. inbox_fresh ns k }

-- the stations as they are made
module _ (es : List WeightedEdge) where
  states_long : (n : ℕ) → length (fresh_states es n) ≡ n
  unfolding fresh_states
  states_long zero = refl
  states_long (suc n) = omega (arith, length-append (fresh_states es n) (fresh_state n (neighbours_of es n) ∷ []), states_long n)

  states_at : (n a : ℕ) → a < n → state_in (fresh_states es n) a ≡ fresh_state a (neighbours_of es a)
  unfolding fresh_states
  states_at zero a l = absurd (omega arith)
  states_at (suc n) a l = elim (dec_lt a n) [
    | yes h ↦ get_or_append_left (fresh_states es n) (fresh_state n (neighbours_of es n) ∷ []) no_state a (let e = states_long n in omega arith) ∙ states_at n a h
    | no h ↦ let e : a ≡ n = omega arith in rw e (get_or_push (fresh_states es n) (fresh_state n (neighbours_of es n)) no_state n (states_long n))
  ]

  -- each of them, and what stands past the end, has links over which nothing was sent
  state_fresh : (n a : ℕ) → (i : ℕ) × (ns : List Neighbour) × (state_in (fresh_states es n) a ≡ fresh_state i ns)
  state_fresh n a = elim (dec_lt a n) [
    | yes h ↦ (a, neighbours_of es a, states_at n a h)
    | no h ↦ (0, [], get_or_past (fresh_states es n) a no_state (let e = states_long n in omega arith))
  ]

  given_none : (n : ℕ) → sum_by given_by (fresh_states es n) ≡ 0
  unfolding fresh_states
  given_none zero = refl
  given_none (suc n) = omega (arith, sum_by_push given_by (fresh_states es n) (fresh_state n (neighbours_of es n)), given_fresh n (neighbours_of es n), given_none n)

  views_fresh : (n a b : ℕ) → ((views_of (fresh_states es n) a).acknowledged b ≡ 0) × ((views_of (fresh_states es n) a).outbox b ≡ []) × ((views_of (fresh_states es n) a).taken b ≡ 0) × ((views_of (fresh_states es n) a).inbox b ≡ [])
  views_fresh n a b =
      let (i, ns, e) = state_fresh n a in
      subst (λ s. ((view_of s).acknowledged b ≡ 0) × ((view_of s).outbox b ≡ []) × ((view_of s).taken b ≡ 0) × ((view_of s).inbox b ≡ [])) (sym e) (links_fresh ns b)

-- THE START. nodes: what each node is made from.
module _ (n : ℕ) (es : List WeightedEdge) (ground : Ground (graph_from n es) (near_of es))
    (nodes : (i : ℕ) → i < n → (fresh_state i (neighbours_of es i)).node ≡ fresh (map ((graph_from n es).weight i) (near_of es i))) where
  unused : (f : ℕ → View) → ((a b : ℕ) → ((f a).acknowledged b ≡ 0) × ((f a).outbox b ≡ []) × ((f a).taken b ≡ 0) × ((f a).inbox b ≡ [])) → Lined (λ a b. []) (λ a b. []) f
  unused f h a b = rw ((h a b).0, (h a b).1, (h b a).2) edge_unused

  start_net : net.start (graph_from n es) (near_of es) ≡ net_in (graph_from n es) (near_of es) (fresh_states es n)
  start_net = net_path (λ a. node a (dec_lt a n)) (λ a b. sym (way a b)) (sym (given_none es n))
    where
      node : (a : ℕ) → Dec (a < n) → fresh (map ((graph_from n es).weight a) (near_of es a)) ≡ (net_in (graph_from n es) (near_of es) (fresh_states es n)).node a
      node a (yes l) = let y : ltb a n ≡ true = grind arith in rw y (sym (ap (λ s. s.node) (states_at es n a l) ∙ nodes a l))
      node a (no l) = let y : ltb a n ≡ false = grind arith in rw y

      way : (a b : ℕ) → (net_in (graph_from n es) (near_of es) (fresh_states es n)).way a b ≡ []
      way a b = rw ((views_fresh es n b a).3, (views_fresh es n a b).0, (views_fresh es n b a).2, (views_fresh es n a b).1)

  pub start_stands : Stands (graph_from n es) (near_of es) (start n es)
  start_stands =
      record {
        size = states_long es n;
        number = λ a l. ap (λ s. s.number) (states_at es n a l);
        links = λ a l. ap (λ s. leads s.links) (states_at es n a l) ∙ leads_fresh (neighbours_of es a);
        lined = unused (views_of (fresh_states es n)) (views_fresh es n);
        reach = subst (λ m. Reach (graph_from n es) (near_of es) m) start_net net.begin;
        calm = λ a l. subst (λ s. Calm s) (sym (states_at es n a l)) (calm_fresh a (neighbours_of es a));
      }

  -- so every world that events lead to stands
  pub world_stands : (w : World) → After (start n es) w → Stands (graph_from n es) (near_of es) w
  world_stands w a = (after_onto (graph_from n es) (near_of es) ground (start n es) start_stands w a).stands
