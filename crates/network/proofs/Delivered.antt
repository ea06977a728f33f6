-- While a message waits to be handed over, three events hand it over: it is sent again, it comes, and its acknowledgement comes back.
use Rattle.std.proofs.Common.{◌≡◌, ℕ, ◌+◌, ◌<◌, ◌≤◌, Bool, true, false, cond, eqb, ◌⊎◌, [], length, Some, Ok, sym, refl, ap, ◌∙◌, subst, inl, inr, arith}
use Rattle.std.proofs.lemmas.Bool.Decides.{eqb_tells}
use Rattle.std.proofs.lemmas.List.{get_or-set_same}
use Rattle.message.specs.declared.packets.Packet.{Packet}
use Rattle.message.specs.declared.packets.Acknowledgement.{Acknowledgement}
use Rattle.message.specs.Bytes.{packet_bytes, packet_of, acknowledgement_bytes, acknowledgement_of}
use Rattle.message.proofs.Carried.{acknowledgement_returns}
use Rattle.link.specs.Ends.{holds, numbered}
use Rattle.link.specs.Copper.{Was}
use Rattle.link.proofs.Edge.{numbered_is, head_was, oldest_returns, reached_by}
use Rattle.link.proofs.Delivery.{numbered_some}
use Rattle.station.specs.declared.outcome.Transmission.TheVariants as transmission
use Rattle.station.specs.State.{place_of, woken}
use Rattle.station.specs.Events.{on_wake, on_packet}
use Rattle.page.specs.Page.{fits}
use Rattle.graph.specs.Graph.{Graph}
use Rattle.graph.proofs.Paths.{edge_back}
use Rattle.protocol.specs.Net.{Near, neighbour}
use Rattle.network.specs.Network.{no_state, state_in, Event, wakes, comes, comes_back, station_of, doing, packets_to, answers_to, World, May, Onward, nothing, next}
use Rattle.network.proofs.View.{view_of, inside as inside-links, neighbour_at, link_at_lem}
use Rattle.network.proofs.Abstract.{same}
use Rattle.network.proofs.Moves.{Ground}
use Rattle.network.proofs.Arrivals.{place_found}
use Rattle.network.proofs.Worlds.{views_of, effect, effect_happens, Stands, seat_set, elsewhere, here, standing, station_inside, effect_onto}
use Rattle.network.proofs.Holding.{numbers_low}
use Rattle.network.proofs.Paged.{page_fits}
use Rattle.network.proofs.Delivery.{was_behind, packets_of, answers_of, wake_keeps, wake_holds, wake_sends, packet_heard, answer_settles}

-- how many messages of x are known to be at y
abbrev pub acked : World → ℕ → ℕ → ℕ
acked w x y = (views_of w.states x).acknowledged y

-- some events and then some more
pub onward_on : {w v u : World} → Onward w v → Onward v u → Onward w u
onward_on p nothing = p
onward_on p (next q e m) = next (onward_on p q) e m

most_cond : (p q : Bool) (m x y z : ℕ) → (p ≡ true → q ≡ true → m ≤ x) → (p ≡ true → m ≤ y) → m ≤ z → m ≤ cond p (cond q x y) z
most_cond true true m x y z f h l = f refl refl
most_cond true false m x y z f h l = h refl
most_cond false q m x y z f h l = l

module _ (g : Graph) (near : Near) (ground : Ground g near) where
  -- an event that the power does not break has its effect, since the new page is there
  module _ (w : World) (world : Stands g near w) (e : Event) (may : May w e) where
    pub now_is : state_in (effect e w).states (station_of e) ≡ (doing e w.states).state
    now_is = get_or-set_same w.states (station_of e) (doing e w.states).state no_state (here g near ground w world (station_of e) (station_inside g near ground w world e may))

    pub stands_on : Stands g near (effect e w)
    stands_on = (effect_onto g near ground w world e may).stands

    page : fits (doing e w.states).state ≡ true
    page = subst (λ s. fits s ≡ true) now_is (page_fits g near ground (effect e w) stands_on (station_of e) (station_inside g near ground w world e may))

    pub effect_onward : Onward w (effect e w)
    effect_onward = subst (λ v. Onward w v) (effect_happens e w page) (next nothing e may)

    pub acked_at : (x y : ℕ) → acked (effect e w) x y ≡ cond (eqb x (station_of e)) ((view_of (doing e w.states).state).acknowledged y) (acked w x y)
    acked_at x y = ap (λ h. (h x).acknowledged y) (sym (seat_set w.states (station_of e) (doing e w.states).state (here g near ground w world (station_of e) (station_inside g near ground w world e may))))

    keeps_all : ((y : ℕ) → (view_of (doing e w.states).state).acknowledged y ≡ acked w (station_of e) y) → (x y : ℕ) → acked (effect e w) x y ≡ acked w x y
    keeps_all h x y = acked_at x y ∙ two (eqb_tells x (station_of e))
      where
        two : ((eqb x (station_of e) ≡ true) × (x ≡ station_of e)) ⊎ ((eqb x (station_of e) ≡ false) × (x ≡ station_of e → ⊥)) →
            cond (eqb x (station_of e)) ((view_of (doing e w.states).state).acknowledged y) (acked w x y) ≡ acked w x y
        two (inl (p, q)) = rw p (h y ∙ ap (λ z. acked w z y) (sym q))
        two (inr (p, q)) = rw p

  -- the place of a neighbour at a station
  place_at : (w : World) → Stands g near w → (i k : ℕ) → i < g.count → k < length (near i) → (l : ℕ) × (place_of (state_in w.states i).links (neighbour near i k) ≡ Some l)
  place_at w world i k li lk =
      place_found (state_in w.states i).links (neighbour near i k) k (inside-links (near i) (ground.placed.once i) (state_in w.states i) (world.links i li) k lk)
      (neighbour_at (near i) (ground.placed.once i) (state_in w.states i) (world.links i li) k lk)

  pub acked_low : (w : World) → Stands g near w → (i k : ℕ) → i < g.count → k < length (near i) → acked w i (neighbour near i k) ≤ 142592
  acked_low w world i k li lk =
      let e = ap (λ x. x.acknowledged) (link_at_lem (near i) (ground.placed.once i) (state_in w.states i) (world.links i li) k lk) in
      let l = numbers_low g near ground w world i li k lk in
      omega arith

  -- from station a to its neighbour at place k
  module _ (a k : ℕ) (la : a < g.count) (lk : k < length (near a)) where
    abbrev b : ℕ
    b = neighbour near a k

    lb : neighbour near a k < g.count
    lb = (ground.placed.real a k la lk).1

    -- the place of a at the other end
    other : (l : ℕ) × (l < length (near (neighbour near a k))) × (neighbour near (neighbour near a k) l ≡ a)
    other = ground.placed.every (neighbour near a k) a (edge_back g ground.weights a (neighbour near a k) (ground.placed.real a k la lk))

    record Sent (w v : World) : Type 0 where
      pub stands : Stands g near v
      pub keeps : (x y : ℕ) → acked v x y ≡ acked w x y
      pub packet : Packet
      pub number : packet.number ≡ acked v a b + 1
      pub was : Was (packet_bytes packet) (v.packets a b)
      pub decoded : packet_of (packet_bytes packet) ≡ Ok packet

    -- it is sent again
    module _ (w : World) (world : Stands g near w) (held : holds ((views_of w.states a).outbox b) ≡ true) where
      may_wake : May w (wakes a)
      may_wake = here g near ground w world a la

      sends : Sent w (effect (wakes a) w)
      unfolding doing
      sends =
          let v : Stands g near (effect (wakes a) w) = stands_on w world (wakes a) may_wake in
          let n : state_in (effect (wakes a) w).states a ≡ woken (state_in w.states a) = now_is w world (wakes a) may_wake in
          let st = standing g near ground w world a la in
          let h : holds ((views_of (effect (wakes a) w).states a).outbox b) ≡ true = subst (λ s. holds ((view_of s).outbox b) ≡ true) (sym n) (wake_holds g near ground w.packets w.answers (views_of w.states) (elsewhere g near ground w world a) a la (state_in w.states a) st b held) in
          let low = acked_low (effect (wakes a) w) v a k la lk in
          let some = numbered_some (acked (effect (wakes a) w) a b) ((views_of (effect (wakes a) w).states a).outbox b) h (omega arith) in
          let p = some.0 in
          let o = some.1 in
          let is = numbered_is (acked (effect (wakes a) w) a b) ((views_of (effect (wakes a) w).states a).outbox b) p o in
          let fit = ((v.lined a b).carried p.message (head_was p.message ((views_of (effect (wakes a) w).states a).outbox b) is.head)).fit in
          let o' : numbered ((view_of (woken (state_in w.states a))).acknowledged b) ((view_of (woken (state_in w.states a))).outbox b) ≡ Some p = subst (λ s. numbered ((view_of s).acknowledged b) ((view_of s).outbox b) ≡ Some p) n o in
          record {
            stands = v;
            keeps = keeps_all w world (wakes a) may_wake (wake_keeps g near ground w.packets w.answers (views_of w.states) (elsewhere g near ground w world a) a la (state_in w.states a) st);
            packet = p;
            number = is.next;
            was =
                was_behind (w.packets a b)
                (subst (λ c. Was (packet_bytes p) (cond c (packets_to b (on_wake (state_in w.states a)).sends) [])) (sym (same a))
                (packets_of b p (on_wake (state_in w.states a)).sends fit (wake_sends g near ground w.packets w.answers (views_of w.states) (elsewhere g near ground w world a) a la (state_in w.states a) st k lk p o')));
            decoded = oldest_returns p is (v.lined a b);
          }

    record Answered (w v : World) : Type 0 where
      pub stands : Stands g near v
      pub keeps : (x y : ℕ) → acked v x y ≡ acked w x y
      pub was : Was (acknowledgement_bytes (record { number = acked v a b + 1 })) (v.answers a b)

    -- it comes, and is answered
    module _ (w : World) (world : Stands g near w) (p : Packet) (number : p.number ≡ acked w a b + 1) (was : Was (packet_bytes p) (w.packets a b)) (dec : packet_of (packet_bytes p) ≡ Ok p) where
      may_come : May w (comes b a (packet_bytes p))
      may_come = (here g near ground w world b lb, inl was)

      hears : Answered w (effect (comes b a (packet_bytes p)) w)
      unfolding doing
      hears =
          let v : Stands g near (effect (comes b a (packet_bytes p)) w) = stands_on w world (comes b a (packet_bytes p)) may_come in
          let at = place_at w world b other.0 lb other.1 in
          let e = world.lined a b in
          let low = e.low in
          let high = e.high in
          let h =
          packet_heard g near ground w.packets w.answers (views_of w.states) (elsewhere g near ground w world b) b lb (state_in w.states b) (standing g near ground w world b lb) a (packet_bytes p) p (inl was) dec at.0
          (subst (λ x. place_of (state_in w.states b).links x ≡ Some at.0) other.2 at.1) (omega arith) (omega arith) in
          let k = keeps_all w world (comes b a (packet_bytes p)) may_come h.keeps in
          record {
            stands = v;
            keeps = k;
            was =
                was_behind (w.answers a b)
                (subst (λ c. Was (acknowledgement_bytes (record { number = acked (effect (comes b a (packet_bytes p)) w) a b + 1 })) (cond c (answers_to a (on_packet a (packet_bytes p) (state_in w.states b)).sends) [])) (sym (same b))
                (answers_of a (record { number = acked (effect (comes b a (packet_bytes p)) w) a b + 1 }) (on_packet a (packet_bytes p) (state_in w.states b)).sends
                (subst (λ n. Was (transmission.Acknowledgement a (record { number = n })) (on_packet a (packet_bytes p) (state_in w.states b)).sends) (number ∙ ap (λ n. n + 1) (sym (k a b))) h.answer)));
          }

    record Settled (w v : World) : Type 0 where
      pub stands : Stands g near v
      pub onward : Onward w v
      pub keeps : (x y : ℕ) → acked w x y ≤ acked v x y
      pub more : acked w a b + 1 ≤ acked v a b

    -- the acknowledgement comes
    module _ (w : World) (world : Stands g near w) (was : Was (acknowledgement_bytes (record { number = acked w a b + 1 })) (w.answers a b)) where
      abbrev answer : Acknowledgement
      answer = record { number = acked w a b + 1 }

      may_back : May w (comes_back a b (acknowledgement_bytes answer))
      may_back = (here g near ground w world a la, inl was)

      settles : Settled w (effect (comes_back a b (acknowledgement_bytes answer)) w)
      unfolding doing
      settles =
          let v : Stands g near (effect (comes_back a b (acknowledgement_bytes answer)) w) = stands_on w world (comes_back a b (acknowledgement_bytes answer)) may_back in
          let low = acked_low w world a k la lk in
          let dec : acknowledgement_of (acknowledgement_bytes answer) ≡ Ok answer = acknowledgement_returns answer (omega arith) in
          let r : acked w a b + 1 ≤ (views_of w.states b).taken a = reached_by (acknowledgement_bytes answer) answer (world.lined a b) (inl was) dec in
          let held : holds ((views_of w.states a).outbox b) ≡ true = (world.lined a b).waits (omega arith) in
          let at = place_at w world a k la lk in
          let s =
          answer_settles g near ground w.packets w.answers (views_of w.states) (elsewhere g near ground w world a) a la (state_in w.states a) (standing g near ground w world a la) b (acknowledgement_bytes answer) answer (inl was) dec
          at.0 at.1 held refl in
          let all : (x y : ℕ) → acked (effect (comes_back a b (acknowledgement_bytes answer)) w) x y ≡ cond (eqb x a) (cond (eqb y b) (acked w a b + 1) (acked w a y)) (acked w x y) =
          λ x y. acked_at w world (comes_back a b (acknowledgement_bytes answer)) may_back x y ∙ ap (λ n. cond (eqb x a) n (acked w x y)) (s y) in
          record {
            stands = v;
            onward = effect_onward w world (comes_back a b (acknowledgement_bytes answer)) may_back;
            keeps = λ x y. subst (λ n. acked w x y ≤ n) (sym (all x y)) (raised x y);
            more = subst (λ n. acked w a b + 1 ≤ n) (sym (all a b)) (rw (same a, same b) (omega arith));
          }
        where
          raised : (x y : ℕ) → acked w x y ≤ cond (eqb x a) (cond (eqb y b) (acked w a b + 1) (acked w a y)) (acked w x y)
          raised x y =
              most_cond (eqb x a) (eqb y b) (acked w x y) (acked w a b + 1) (acked w a y) (acked w x y)
              (λ p q. let d : x ≡ a = grind arith in let e : y ≡ b = grind arith in rw (d, e) (omega arith)) (λ p. let d : x ≡ a = grind arith in rw d (omega arith)) (omega arith)

    -- A DELIVERY
    pub record Delivered (w : World) : Type 0 where
      pub world : World
      pub onward : Onward w world
      pub stands : Stands g near world
      pub keeps : (x y : ℕ) → acked w x y ≤ acked world x y
      pub more : acked w a (neighbour near a k) + 1 ≤ acked world a (neighbour near a k)

    pub delivers : (w : World) → Stands g near w → holds ((views_of w.states a).outbox (neighbour near a k)) ≡ true → Delivered w
    delivers w world held =
        let s = sends w world held in
        let w1 : World = effect (wakes a) w in
        let h = hears w1 s.stands s.packet s.number s.was s.decoded in
        let e2 : Event = comes (neighbour near a k) a (packet_bytes s.packet) in
        let w2 : World = effect e2 w1 in
        let t = settles w2 h.stands h.was in
        let same2 : (x y : ℕ) → acked w2 x y ≡ acked w x y = λ x y. h.keeps x y ∙ s.keeps x y in
        record {
          world = effect (comes_back a (neighbour near a k) (acknowledgement_bytes (record { number = acked w2 a (neighbour near a k) + 1 }))) w2;
          onward = onward_on (effect_onward w world (wakes a) (may_wake w world held)) (onward_on (effect_onward w1 s.stands e2 (may_come w1 s.stands s.packet s.number s.was s.decoded)) t.onward);
          stands = t.stands;
          keeps = λ x y. let z = same2 x y in let u = t.keeps x y in omega arith;
          more = let z = same2 a (neighbour near a k) in let u = t.more in omega arith;
        }
