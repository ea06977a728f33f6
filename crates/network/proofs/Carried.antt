-- What is proved of nets holds of the worlds that carry them: lamps, the end, the number of messages, and the form of what was sent. So all is proved that is promised.
use Rattle.std.proofs.Common.{◌≡◌, ℕ, ◌<◌, true, List, map, Ok, sym, ap, ◌∙◌, subst}
use Rattle.message.specs.declared.packets.Packet.{Packet}
use Rattle.message.specs.declared.packets.Acknowledgement.{Acknowledgement}
use Rattle.message.specs.Bytes.{packet_of, acknowledgement_of}
use Rattle.graph.specs.declared.mark.Mark.TheVariants.{Basic, Branch, Rejected}
use Rattle.node.specs.Rules.{mark_of, fresh}
use Rattle.link.specs.Copper.{Was}
use Rattle.graph.specs.declared.edge.WeightedEdge.{WeightedEdge}
use Rattle.graph.specs.Graph.{Belongs}
use Rattle.graph.specs.Edges.{graph_from, neighbours_of}
use Rattle.station.specs.Making.{fresh_state}
use Rattle.protocol.specs.Net.{neighbour}
use Rattle.protocol.proofs.Reaches.{always_right, few_messages_sent}
use Rattle.protocol.proofs.Complete.{joined_below, complete, rests_complete}
use Rattle.network.specs.Network.{World, After, start}
use Rattle.network.specs.Theorem.{near_of, is_done, LampsRight, EndRight, EndLasts, FewGiven, AllFits, Promise}
use Rattle.network.proofs.Moves.{Ground}
use Rattle.network.proofs.Worlds.{net_in, node_in, Stands, after_onto}
use Rattle.network.proofs.Start.{world_stands}
use Rattle.network.proofs.Paged.{page_fits}
use Rattle.network.proofs.Comes.{end_comes}

module _ (n : ℕ) (es : List WeightedEdge) (ground : Ground (graph_from n es) (near_of es)) where
  module _ (w : World) (world : Stands (graph_from n es) (near_of es) w) where
    pub lamps_right : LampsRight n es w
    lamps_right i k l lk =
        subst (λ x. (mark_of x k ≡ Branch → Belongs (graph_from n es) i (neighbour (near_of es) i k)) × (mark_of x k ≡ Rejected → Belongs (graph_from n es) i (neighbour (near_of es) i k) → ⊥)) (node_in (graph_from n es) (near_of es) w i l)
        (always_right (graph_from n es) ground.weights (near_of es) ground.placed (net_in (graph_from n es) (near_of es) w.states) world.reach i k l lk)

    done_of : (h : ℕ) → h < n → is_done w h ≡ true → ((net_in (graph_from n es) (near_of es) w.states).node h).halted ≡ true
    done_of h l e = ap (λ x. x.halted) (node_in (graph_from n es) (near_of es) w h l) ∙ e

    pub end_right : (h : ℕ) → h < n → is_done w h ≡ true → EndRight n es w h
    end_right h l e x u k j lk =
        subst (λ x'. (mark_of x' k ≡ Branch → Belongs (graph_from n es) x (neighbour (near_of es) x k)) × (Belongs (graph_from n es) x (neighbour (near_of es) x k) → mark_of x' k ≡ Branch) × (mark_of x' k ≡ Basic → ⊥)) (node_in (graph_from n es) (near_of es) w x (joined_below (graph_from n es) l j))
        (complete (graph_from n es) ground.weights (near_of es) ground.placed (net_in (graph_from n es) (near_of es) w.states) world.reach h l (done_of h l e) x u k j lk)

    pub end_lasts : (h : ℕ) → h < n → is_done w h ≡ true → EndLasts n es w h
    end_lasts h l e v a x u k j lk =
        let r = after_onto (graph_from n es) (near_of es) ground w world v a in
        ap (λ x'. mark_of x' k) (sym (node_in (graph_from n es) (near_of es) v x (joined_below (graph_from n es) l j)))
        ∙ rests_complete (graph_from n es) ground.weights (near_of es) ground.placed (net_in (graph_from n es) (near_of es) w.states) world.reach h l (done_of h l e)
        (net_in (graph_from n es) (near_of es) v.states) r.run x u k j lk
        ∙ ap (λ x'. mark_of x' k) (node_in (graph_from n es) (near_of es) w x (joined_below (graph_from n es) l j))

    pub few_given : FewGiven n es w
    few_given k l = few_messages_sent (graph_from n es) ground.weights (near_of es) ground.placed k l (net_in (graph_from n es) (near_of es) w.states) world.reach

    -- whatever was sent has a form that the other end accepts
    pub packets_fit : (i j : ℕ) (bytes : List ℕ) → Was bytes (w.packets i j) → (p : Packet) × (packet_of bytes ≡ Ok p)
    packets_fit i j bytes was = let s = (world.lined i j).forth bytes was in (s.packet, s.decoded)

    pub answers_fit : (i j : ℕ) (bytes : List ℕ) → Was bytes (w.answers i j) → (a : Acknowledgement) × (acknowledgement_of bytes ≡ Ok a)
    answers_fit i j bytes was = let s = (world.lined i j).back bytes was in (s.answer, s.decoded)

    pub all_fits : AllFits n es w
    all_fits = (λ i l. page_fits (graph_from n es) (near_of es) ground w world i l, packets_fit, answers_fit)

    pub promised : Promise n es w
    promised =
        record {
          right = lamps_right;
          end = λ h l e. (end_right h l e, end_lasts h l e);
          comes = λ x l. end_comes (graph_from n es) (near_of es) ground w world x l;
          few = few_given;
          fit = all_fits;
        }

-- THE THEOREM, for a list of edges that is a graph with places, where each node is made from the weights of its edges.
pub promise : (n : ℕ) (es : List WeightedEdge) → Ground (graph_from n es) (near_of es) → ((i : ℕ) → i < n → (fresh_state i (neighbours_of es i)).node ≡ fresh (map ((graph_from n es).weight i) (near_of es i))) →
    (w : World) → After (start n es) w → Promise n es w
promise n es ground nodes w a = promised n es ground w (world_stands n es ground nodes w a)
