-- THE SIMULATION. What holds of a world of stations and copper after every event with every fate, and the steps of the net that an event is.
use Rattle.std.proofs.Common.{◌≡◌, ℕ, ◌+◌, ◌-◌, ◌<◌, Bool, true, false, cond, eqb, ltb, ◌⊎◌, List, [], ◌++◌, length, set, sum_by, sym, ap, ◌∙◌, subst, inl, inr, arith}
use mathlib.Core.Path.{fun_ext}
use Rattle.std.proofs.lemmas.Bool.Decides.{eqb_tells}
use Rattle.std.proofs.lemmas.List.{length-set, get_or-set_same, get_or-set_other}
use Rattle.std.proofs.lemmas.List.Sums.{sum_by-set, get_or-le-sum_by}
use Rattle.station.specs.declared.outcome.Transmission.{Transmission}
use Rattle.station.specs.State.{State}
use Rattle.station.specs.Events.{Did}
use Rattle.page.specs.Page.{fits}
use Rattle.graph.specs.Graph.{Graph}
use Rattle.protocol.specs.Net as net
use Rattle.protocol.specs.Net.{Near, Net, Reach, Run}
use Rattle.protocol.proofs.Arrives.{run_on}
use Rattle.protocol.proofs.Complete.{run_reach}
use Rattle.network.specs.declared.fate.Fate.{Fate}
use Rattle.network.specs.declared.fate.Fate.TheVariants.{Lost, Kept, Whole}
use Rattle.network.specs.Network.{no_state, state_in, Event, wakes, comes, comes_back, station_of, doing, stands, goes_out, packets_to, answers_to, World, happens, May, After, nothing, next}
use Rattle.network.specs.Theorem.{given_by}
use Rattle.network.proofs.View.{View, view_of, leads}
use Rattle.network.proofs.Abstract.{seat, net_of}
use Rattle.network.proofs.Lined.{History, Lined, edge_in, edge_out, sent_lined}
use Rattle.network.proofs.Rest.{Calm}
use Rattle.network.proofs.Moves.{Ground, net_at, At}
use Rattle.network.proofs.Sending.{Rights, rights_take, packets_sent, answers_sent}
use Rattle.network.proofs.Arrivals.{Follows, wake_follows, packet_follows, answer_follows}

-- the stations by their neighbours, and the net that they carry
abbrev pub views_of : List State → ℕ → View
views_of states a = view_of (state_in states a)

abbrev pub net_in : Graph → Near → List State → Net
net_in g near states = net_of g near (views_of states) (sum_by given_by states)

-- the node of a station is its node in the net
pub node_in : (g : Graph) (near : Near) (w : World) (a : ℕ) → a < g.count → (net_in g near w.states).node a ≡ (state_in w.states a).node
node_in g near w a l = let y : ltb a g.count ≡ true = grind arith in rw y

-- what an event does where nothing is in its way: the power stays on, and the new page is not too long
abbrev pub effect : Event → World → World
effect e w =
    record {
      states = set w.states (station_of e) (doing e w.states).state;
      packets = λ a b. w.packets a b ++ cond (eqb a (station_of e)) (packets_to b (doing e w.states).sends) [];
      answers = λ a b. w.answers a b ++ cond (eqb b (station_of e)) (answers_to a (doing e w.states).sends) [];
    }

pub effect_happens : (e : Event) (w : World) → fits (doing e w.states).state ≡ true → happens e Whole w ≡ effect e w
effect_happens e w h =
    ap (λ (c : Bool). record {
      states = elim c [ true ↦ set w.states (station_of e) (doing e w.states).state | false ↦ w.states ];
      packets = λ a b. w.packets a b ++ cond (eqb a (station_of e)) (packets_to b (elim c [ true ↦ (doing e w.states).sends | false ↦ [] ])) [];
      answers = λ a b. w.answers a b ++ cond (eqb b (station_of e)) (answers_to a (elim c [ true ↦ (doing e w.states).sends | false ↦ [] ])) [];
    }) h

-- THE INVARIANT. Each station has its number and leads to its neighbours, numbers line up on every link, the net can be reached, and what waits at a station cannot be taken yet.
pub record Stands (g : Graph) (near : Near) (w : World) : Type 0 where
  pub size : length w.states ≡ g.count
  pub number : (a : ℕ) → a < g.count → (state_in w.states a).number ≡ a
  pub links : (a : ℕ) → a < g.count → leads (state_in w.states a).links ≡ near a
  pub lined : Lined w.packets w.answers (views_of w.states)
  pub reach : Reach g near (net_in g near w.states)
  pub calm : (a : ℕ) → a < g.count → Calm (state_in w.states a)

-- an event leads on by some steps, or by none
pub record Onto (g : Graph) (near : Near) (w v : World) : Type 0 where
  pub run : Run g near (net_in g near w.states) (net_in g near v.states)
  pub stands : Stands g near v

seat_self : (i : ℕ) (f : ℕ → View) → seat i (f i) f ≡ f
seat_self i f = fun_ext (λ a. two a (eqb_tells a i))
  where
    two : (a : ℕ) → ((eqb a i ≡ true) × (a ≡ i)) ⊎ ((eqb a i ≡ false) × (a ≡ i → ⊥)) → seat i (f i) f a ≡ f a
    two a (inl (y, z)) = rw y (ap f (sym z))
    two a (inr (y, z)) = rw y

pub seat_set : (states : List State) (i : ℕ) (r : State) → i < length states → seat i (view_of r) (views_of states) ≡ views_of (set states i r)
seat_set states i r l = fun_ext (λ a. two a (eqb_tells a i))
  where
    two : (a : ℕ) → ((eqb a i ≡ true) × (a ≡ i)) ⊎ ((eqb a i ≡ false) × (a ≡ i → ⊥)) → seat i (view_of r) (views_of states) a ≡ views_of (set states i r) a
    two a (inl (y, z)) = rw y (ap view_of (sym (get_or-set_same states i r no_state l)) ∙ ap (λ x. views_of (set states i r) x) (sym z))
    two a (inr (y, z)) = rw y (ap view_of (sym (get_or-set_other states i a r no_state z)))

-- what a station sends may stand in the histories
sends_lined : (P A : History) (f : ℕ → View) (i : ℕ) (v : View) (os : List Transmission) → Rights v os → Lined P A (seat i v f) →
    Lined (λ a b. P a b ++ cond (eqb a i) (packets_to b os) []) (λ a b. A a b ++ cond (eqb b i) (answers_to a os) []) (seat i v f)
sends_lined P A f i v os r l =
    sent_lined P A f i v (λ b. packets_to b os) (λ a. answers_to a os) (λ b. packets_sent v b (edge_out P A f i v l b) os r) (λ a. answers_sent v a (edge_in P A f i v l a).small os r) l

goes_out_lem : (v : View) (fate : Fate) (os : List Transmission) → Rights v os → Rights v (goes_out fate os)
goes_out_lem v Lost os r = tt
goes_out_lem v (Kept k) os r = rights_take v k os r
goes_out_lem v Whole os r = r

module _ (g : Graph) (near : Near) (ground : Ground g near) (w : World) (world : Stands g near w) where
  -- how many messages the other stations were given
  abbrev pub elsewhere : ℕ → ℕ
  elsewhere i = sum_by given_by w.states - given_by (state_in w.states i)

  module _ (i : ℕ) (inside : i < g.count) where
    pub here : i < length w.states
    here = let e = world.size in omega arith

    counted : elsewhere i + given_by (state_in w.states i) ≡ sum_by given_by w.states
    counted = let e = get_or-le-sum_by given_by w.states i no_state here in omega arith

    net_before : net_at g near ground w.packets w.answers (views_of w.states) (elsewhere i) i inside (state_in w.states i) ≡ net_in g near w.states
    net_before = ap (λ f. net_of g near f (elsewhere i + given_by (state_in w.states i))) (seat_self i (views_of w.states)) ∙ ap (λ c. net_of g near (views_of w.states) c) counted

    net_after : (r : State) → net_at g near ground w.packets w.answers (views_of w.states) (elsewhere i) i inside r ≡ net_in g near (set w.states i r)
    net_after r =
        ap (λ f. net_of g near f (elsewhere i + given_by r)) (seat_set w.states i r here) ∙
        ap (λ c. net_of g near (views_of (set w.states i r)) c) (omega (arith, sum_by-set given_by w.states i r no_state here, counted))

    pub standing : At g near ground w.packets w.answers (views_of w.states) (elsewhere i) i inside (state_in w.states i)
    standing =
        record {
          number = world.number i inside;
          links = world.links i inside;
          lined = subst (λ f. Lined w.packets w.answers f) (sym (seat_self i (views_of w.states))) world.lined;
          reach = subst (λ n. Reach g near n) (sym net_before) world.reach;
        }

    -- nothing becomes of it
    none_onto : Onto g near w (record { states = w.states; packets = λ a b. w.packets a b ++ cond (eqb a i) (packets_to b []) []; answers = λ a b. w.answers a b ++ cond (eqb b i) (answers_to a []) [] })
    none_onto =
        record {
          run = net.still;
          stands =
              record {
                size = world.size;
                number = world.number;
                links = world.links;
                lined =
                    subst (λ f. Lined (λ a b. w.packets a b ++ cond (eqb a i) (packets_to b []) []) (λ a b. w.answers a b ++ cond (eqb b i) (answers_to a []) []) f) (seat_self i (views_of w.states))
                    (sends_lined w.packets w.answers (views_of w.states) i (view_of (state_in w.states i)) [] tt standing.lined);
                reach = world.reach;
                calm = world.calm;
              };
        }

    -- the station does d, of which the transmissions os go out
    did_onto : (d : Did) → Follows g near ground w.packets w.answers (views_of w.states) (elsewhere i) i inside (state_in w.states i) d → (os : List Transmission) → Rights (view_of d.state) os →
        Onto g near w (record { states = set w.states i d.state; packets = λ a b. w.packets a b ++ cond (eqb a i) (packets_to b os) []; answers = λ a b. w.answers a b ++ cond (eqb b i) (answers_to a os) [] })
    did_onto d h os r = record { run = run; stands = record { size = length-set w.states i d.state ∙ world.size; number = number; links = links; lined = lined; reach = run_reach g ground.weights near ground.placed world.reach run; calm = calm } }
      where
        run : Run g near (net_in g near w.states) (net_in g near (set w.states i d.state))
        run = subst (λ n. Run g near n (net_in g near (set w.states i d.state))) net_before (subst (λ m. Run g near (net_at g near ground w.packets w.answers (views_of w.states) (elsewhere i) i inside (state_in w.states i)) m) (net_after d.state) h.run)

        lined : Lined (λ a b. w.packets a b ++ cond (eqb a i) (packets_to b os) []) (λ a b. w.answers a b ++ cond (eqb b i) (answers_to a os) []) (views_of (set w.states i d.state))
        lined =
            subst (λ f. Lined (λ a b. w.packets a b ++ cond (eqb a i) (packets_to b os) []) (λ a b. w.answers a b ++ cond (eqb b i) (answers_to a os) []) f) (seat_set w.states i d.state here)
            (sends_lined w.packets w.answers (views_of w.states) i (view_of d.state) os r h.lined)

        mine : state_in (set w.states i d.state) i ≡ d.state
        mine = get_or-set_same w.states i d.state no_state here

        number : (a : ℕ) → a < g.count → (state_in (set w.states i d.state) a).number ≡ a
        number a l = elim (eqb_tells a i) [
          | inl u ↦ subst (λ x. (state_in (set w.states i d.state) x).number ≡ x) (sym u.1) (ap (λ s. s.number) mine ∙ h.number)
          | inr u ↦ ap (λ s. s.number) (get_or-set_other w.states i a d.state no_state u.1) ∙ world.number a l
        ]

        links : (a : ℕ) → a < g.count → leads (state_in (set w.states i d.state) a).links ≡ near a
        links a l = elim (eqb_tells a i) [
          | inl u ↦ subst (λ x. leads (state_in (set w.states i d.state) x).links ≡ near x) (sym u.1) (ap (λ s. leads s.links) mine ∙ h.links)
          | inr u ↦ ap (λ s. leads s.links) (get_or-set_other w.states i a d.state no_state u.1) ∙ world.links a l
        ]

        calm : (a : ℕ) → a < g.count → Calm (state_in (set w.states i d.state) a)
        calm a l = elim (eqb_tells a i) [
          | inl u ↦ subst (λ x. Calm (state_in (set w.states i d.state) x)) (sym u.1) (subst (λ s. Calm s) (sym mine) (h.calm (world.calm i inside)))
          | inr u ↦ subst (λ s. Calm s) (sym (get_or-set_other w.states i a d.state no_state u.1)) (world.calm a l)
        ]

    -- whether the event stands or not
    guarded : (b : Bool) (d : Did) → Follows g near ground w.packets w.answers (views_of w.states) (elsewhere i) i inside (state_in w.states i) d → (os : List Transmission) → Rights (view_of d.state) os →
        Onto g near w (record {
          states = elim b [ true ↦ set w.states i d.state | false ↦ w.states ];
          packets = λ a c. w.packets a c ++ cond (eqb a i) (packets_to c (elim b [ true ↦ os | false ↦ [] ])) [];
          answers = λ a c. w.answers a c ++ cond (eqb c i) (answers_to a (elim b [ true ↦ os | false ↦ [] ])) [];
        })
    guarded true d h os r = did_onto d h os r
    guarded false d h os r = none_onto

  inside_of : (i : ℕ) → i < length w.states → i < g.count
  inside_of i l = let e = world.size in omega arith

  -- the station of an event, and what it does with it
  pub station_inside : (e : Event) → May w e → station_of e < g.count
  station_inside (wakes i) m = inside_of i m
  station_inside (comes i j bytes) m = inside_of i m.0
  station_inside (comes_back i j bytes) m = inside_of i m.0

  event_follows : (e : Event) (m : May w e) →
      Follows g near ground w.packets w.answers (views_of w.states) (elsewhere (station_of e)) (station_of e) (station_inside e m) (state_in w.states (station_of e)) (doing e w.states)
  unfolding doing station_inside
  event_follows (wakes i) m = wake_follows g near ground w.packets w.answers (views_of w.states) (elsewhere i) i (inside_of i m) (state_in w.states i) (standing i (inside_of i m))
  event_follows (comes i j bytes) m = packet_follows g near ground w.packets w.answers (views_of w.states) (elsewhere i) i (inside_of i m.0) (state_in w.states i) (standing i (inside_of i m.0)) j bytes m.1
  event_follows (comes_back i j bytes) m = answer_follows g near ground w.packets w.answers (views_of w.states) (elsewhere i) i (inside_of i m.0) (state_in w.states i) (standing i (inside_of i m.0)) j bytes m.1

  pub effect_onto : (e : Event) → May w e → Onto g near w (effect e w)
  effect_onto e m = let h = event_follows e m in did_onto (station_of e) (station_inside e m) (doing e w.states) h (doing e w.states).sends h.rights

  -- EVERY EVENT, WITH EVERY FATE.
  pub event_onto : (e : Event) (fate : Fate) → May w e → Onto g near w (happens e fate w)
  event_onto e fate m =
      let h = event_follows e m in
      guarded (station_of e) (station_inside e m) (stands fate (doing e w.states)) (doing e w.states) h (goes_out fate (doing e w.states).sends) (goes_out_lem (view_of (doing e w.states).state) fate (doing e w.states).sends h.rights)

-- and so every list of events
pub after_onto : (g : Graph) (near : Near) → Ground g near → (w : World) → Stands g near w → (v : World) → After w v → Onto g near w v
after_onto g near ground w world _ nothing = record { run = net.still; stands = world }
after_onto g near ground w world _ (next {v} before e fate m) =
    let h = after_onto g near ground w world v before in
    let k = event_onto g near ground v h.stands e fate m in
    record { run = run_on g near h.run k.run; stands = k.stands }
