-- Each thing that a station does to itself is some steps of the net.
use Rattle.std.proofs.Common.{◌≡◌, ℕ, zero, suc, ◌+◌, ◌<◌, ◌≤◌, Bool, true, false, cond, eqb, ltb, List, [], ◌∷◌, ◌++◌, length, Some, None, Option, sym, refl, ap, ◌∙◌, subst, inl, inr, arith}
use native.Mathlib.Decide.{dec_lt}
use Rattle.std.proofs.lemmas.List.{get_or_past}
use Rattle.message.specs.declared.messages.Message.{Message}
use Rattle.node.specs.declared.state.Node.{Node}
use Rattle.node.specs.declared.state.Turn.{Turn}
use Rattle.node.specs.declared.state.Taking.{Taking}
use Rattle.node.specs.declared.state.Taking.TheVariants.{Taken, Deferred, Refused}
use Rattle.node.specs.Rules.{is_sleeping, has_edge, takes, wakes}
use Rattle.node.specs.Laws.{Steps, sent_over}
use Rattle.node.proofs.Took as took
use Rattle.node.proofs.Within.{within_edges}
use Rattle.link.specs.Ends as ends
use Rattle.link.specs.Ends.{head_of, rest}
use Rattle.link.specs.Copper.{Was, first, later}
use Rattle.link.proofs.Edge.{Carried}
use Rattle.link.proofs.Handed.{still, still_more}
use Rattle.station.specs.State.{State, no_link, link_at, with_link, acted, woken}
use Rattle.station.specs.Work.{Progress, look_by, look_at, look, looks, waiting_at, round, afresh, lap, rounds}
use Rattle.graph.specs.Graph.{Graph, Weights}
use Rattle.protocol.specs.Net as net
use Rattle.protocol.specs.Net.{Near, Placed, Net, Step, Reach, then, Run, neighbour, after, queueing, over, messages}
use Rattle.protocol.proofs.Arrives.{run_on}
use Rattle.protocol.proofs.Complete.{run_reach}
use Rattle.protocol.proofs.Events.{unsent}
use Rattle.protocol.proofs.Lift.{Once}
use Rattle.protocol.proofs.Queues.{Has}
use Rattle.protocol.proofs.Reaches.{reached}
use Rattle.protocol.proofs.Shape.{Shape}
use Rattle.protocol.proofs.Sounds.{sounds}
use Rattle.protocol.proofs.Strays.{no_stray}
use Rattle.network.specs.Theorem.{given_by}
use Rattle.network.proofs.Short.{Light, shorts}
use Rattle.network.proofs.View.{View, view_of, leads, leads_long, inboxed, turned, leads_set, link_at_lem, view_inboxed, leads_acted, view_acted}
use Rattle.network.proofs.Amount.{amount_with, amount_acted}
use Rattle.network.proofs.Abstract.{seat, way_of, net_of, net_path, same, way_in, off_way, take_way, wake_way}
use Rattle.network.proofs.Lined.{History, Lined, turned_lined}
use Rattle.network.proofs.Awake.{Up, took_up, wakes_up, woken_awake}

-- what is asked of a graph and of the places of its edges
pub record Ground (g : Graph) (near : Near) : Type 0 where
  pub weights : Weights g
  pub few : g.count ≤ 256
  pub placed : Placed g near
  pub light : Light g

pub no_steps : {g : Graph} {near : Near} {n m : Net} → n ≡ m → Run g near n m
no_steps {g} {near} {n} e = subst (λ x. Run g near n x) e net.still

one_step : {g : Graph} {near : Near} {n m o : Net} → Step g near n m → m ≡ o → Run g near n o
one_step {g} {near} {n} s e = subst (λ x. Run g near n x) e (net.more net.still s)

pub was_has : (x : Message) (q : List Message) → Was x q → Has q x
was_has x _ first = inl refl
was_has x _ (later {xs = q} w) = inr (was_has x q w)

has_behind : (p q : List Message) (x : Message) → Has q x → Has (p ++ q) x
has_behind [] q x h = h
has_behind (y ∷ p) q x h = inr (has_behind p q x h)

head_is : (q : List Message) (m : Message) → head_of q ≡ Some m → q ≡ m ∷ rest q
head_is [] m e = let z : ◌≡◌ {A = ℕ} 0 1 = cc in absurd (omega arith)
head_is (x ∷ q) m e = let z : x ≡ m = cc in ap (λ y. y ∷ q) z

module _ (g : Graph) (near : Near) (ground : Ground g near) where
  -- what is under way has bytes from which it comes back
  carried : (n : Net) → Reach g near n → (a b : ℕ) (x : Message) → Has (n.way a b) x → Carried x
  carried n r a b x h = record { fit = (sounds g near ground.placed n r).fit a b x h; short = (shorts g near ground.light n r).way a b x h }

  module _ (P A : History) (f : ℕ → View) (others i : ℕ) (inside : i < g.count) where
    -- the net in the midst of an event, when station i is s
    abbrev pub net_at : State → Net
    net_at s = net_of g near (seat i (view_of s) f) (others + given_by s)

    once : Once (near i)
    once = ground.placed.once i

    -- where a station stands in the midst of an event: its links lead where they should, numbers line up, and the net can be reached
    pub record At (s : State) : Type 0 where
      pub number : s.number ≡ i
      pub links : leads s.links ≡ near i
      pub lined : Lined P A (seat i (view_of s) f)
      pub reach : Reach g near (net_at s)

    -- how it goes on from there: by some steps, with nothing taken or acknowledged over the copper, and awake
    pub record Goes (s r : State) : Type 0 where
      pub run : Run g near (net_at s) (net_at r)
      pub number : r.number ≡ s.number
      pub links : leads r.links ≡ near i
      pub lined : Lined P A (seat i (view_of r) f)
      pub taken : (b : ℕ) → (view_of r).taken b ≡ (view_of s).taken b
      pub acknowledged : (b : ℕ) → (view_of r).acknowledged b ≡ (view_of s).acknowledged b
      pub up : Up r.node

    pub at_end : {s r : State} → At s → Goes s r → At r
    at_end a h = record { number = h.number ∙ a.number; links = h.links; lined = h.lined; reach = run_reach g ground.weights near ground.placed a.reach h.run }

    pub goes_on_lem : {s r q : State} → Goes s r → Goes r q → Goes s q
    goes_on_lem a b = record { run = run_on g near a.run b.run; number = b.number ∙ a.number; links = b.links; lined = b.lined; taken = λ c. b.taken c ∙ a.taken c; acknowledged = λ c. b.acknowledged c ∙ a.acknowledged c; up = b.up }

    pub goes_none : {s : State} → At s → Up s.node → Goes s s
    goes_none a u = record { run = net.still; number = refl; links = a.links; lined = a.lined; taken = λ b. refl; acknowledged = λ b. refl; up = u }

    node_here : (s : State) → (net_at s).node i ≡ s.node
    node_here s = let y : ltb i g.count ≡ true = grind arith in rw (y, same i)

    shape : (s : State) → At s → Shape g i (near i) s.node
    shape s a = subst (λ n. Shape g i (near i) n) (node_here s) ((reached g ground.weights near ground.placed (net_at s) a.reach).shaped i inside)

    -- Station s does a turn, after a message was taken from an inbox or none was: s' is s without that message.
    module _ (s s' : State) (t : Turn) (way : ℕ → ℕ → List Message) (a : At s) (steps : Steps s.node t) (step : Step g near (net_at s) (after near i t way (net_at s)))
        (number : s'.number ≡ s.number) (links : leads s'.links ≡ near i) (lined : Lined P A (seat i (view_of s') f)) (amount : given_by s' ≡ given_by s) (taken : (b : ℕ) → (view_of s').taken b ≡ (view_of s).taken b) (acknowledged : (b : ℕ) → (view_of s').acknowledged b ≡ (view_of s).acknowledged b)
        (ways : (x y : ℕ) → cond (eqb x i) (way x y ++ over (near i) t.sends y) (way x y) ≡ way_of (seat i (turned t.node (λ b. over (near i) t.sends b) (view_of s')) f) x y) (up : Up t.node) where
      viewed : view_of (acted t s') ≡ turned t.node (λ b. over (near i) t.sends b) (view_of s')
      viewed = view_acted (near i) once (ground.placed.few i) s' links t

      beyond : (k : ℕ) → length s'.links ≤ k → sent_over t.sends k ≡ None
      beyond k l = unsent (sent_over t.sends k) (λ m e. past ((within_edges s.node t steps (shape s a).within).2 k m e))
        where
          past : has_edge s.node k ≡ true → ⊥
          past h = let e = (shape s a).edges in let n = leads_long s'.links (near i) links in grind arith

      counted : (others + given_by s) + messages t.sends ≡ others + given_by (acted t s')
      counted = omega (arith, amount_acted t s' (let n = (within_edges s.node t steps (shape s a).within).1 in omega arith) beyond)

      nodes : (x : ℕ) → cond (eqb x i) t.node ((net_at s).node x) ≡ (net_of g near (seat i (turned t.node (λ b. over (near i) t.sends b) (view_of s')) f) (others + given_by (acted t s'))).node x
      nodes x = grind arith

      nets : after near i t way (net_at s) ≡ net_at (acted t s')
      nets = net_path nodes ways counted ∙ ap (λ v. net_of g near (seat i v f) (others + given_by (acted t s'))) (sym viewed)

      new : (b : ℕ) (m : Message) → Was m (over (near i) t.sends b) → Carried m
      new b m w = carried (after near i t way (net_at s)) (then a.reach step) i b m (rw (same i) (has_behind (way i b) (over (near i) t.sends b) m (was_has m (over (near i) t.sends b) w)))

      acted_goes : Goes s (acted t s')
      acted_goes =
          record {
            run = one_step step nets;
            number = number;
            links = leads_acted (near i) once (ground.placed.few i) s' links t;
            lined = subst (λ v. Lined P A (seat i v f)) (sym viewed) (turned_lined P A f i (view_of s') lined t.node (λ b. over (near i) t.sends b) new);
            taken = λ b. ap (λ v. v.taken b) viewed ∙ taken b;
            acknowledged = λ b. ap (λ v. v.acknowledged b) viewed ∙ acknowledged b;
            up = up;
          }

    -- what more is given stands behind what is still to be handed over
    more_still : (s : State) → At s → (more : ℕ → List Message) (x y : ℕ) →
        still ((seat i (view_of s) f x).acknowledged y) ((seat i (view_of s) f y).taken x) ((seat i (view_of s) f x).outbox y ++ more y) ≡
        still ((seat i (view_of s) f x).acknowledged y) ((seat i (view_of s) f y).taken x) ((seat i (view_of s) f x).outbox y) ++ more y
    more_still s a more x y = still_more ((seat i (view_of s) f x).acknowledged y) ((seat i (view_of s) f y).taken x) ((seat i (view_of s) f x).outbox y) (more y) (a.lined x y).waits

    -- WAKING
    wake_goes : (s : State) → At s → is_sleeping s.node.status ≡ true → Goes s (woken s)
    wake_goes s a z =
        acted_goes s s (wakes s.node) (net_at s).way a (inl refl) step refl a.links a.lined refl (λ b. refl) (λ b. refl)
        (λ x y. wake_way f i (view_of s) (wakes s.node).node (λ b. over (near i) (wakes s.node).sends b) x y (more_still s a (λ b. over (near i) (wakes s.node).sends b) x y)) (wakes_up s.node)
      where
        step : Step g near (net_at s) (after near i (wakes s.node) (net_at s).way (net_at s))
        step = subst (λ n. Step g near (net_at s) (after near i (wakes n) (net_at s).way (net_at s))) (node_here s) (net.waking (net_at s) i inside (rw (node_here s) z))

    pub woken_goes : (s : State) → At s → Goes s (woken s)
    woken_goes s a = two (is_sleeping s.node.status) refl
      where
        two : (b : Bool) → is_sleeping s.node.status ≡ b → Goes s (woken s)
        two true e = wake_goes s a e
        two false e = subst (λ r. Goes s r) (sym (woken_awake s e)) (goes_none a e)

    -- what the neighbour at place k has still to hand over
    abbrev rests : State → ℕ → List Message
    rests s k = still ((seat i (view_of s) f (neighbour near i k)).acknowledged i) ((view_of s).taken (neighbour near i k)) ((seat i (view_of s) f (neighbour near i k)).outbox i)

    -- ONE LOOK at the head of the inbox at place k
    module _ (s : State) (a : At s) (u : Up s.node) (k : ℕ) (lt : k < length (near i)) (m : Message) (ms : List Message) (q : (link_at s k).inbox ≡ m ∷ ms) where
      waits : (view_of s).inbox (neighbour near i k) ≡ m ∷ ms
      waits = ap (λ e. e.inbox) (link_at_lem (near i) once s a.links k lt) ∙ q

      queue : (net_at s).way (neighbour near i k) i ≡ m ∷ (ms ++ rests s k)
      queue = way_in f i (neighbour near i k) (view_of s) ∙ ap (λ x. x ++ rests s k) waits

      -- it is taken
      look_takes : (t : Turn) → takes k m s.node ≡ Taken t → Goes s (acted t (with_link k (ends.taking (link_at s k)) s))
      look_takes t e =
          acted_goes s (with_link k (ends.taking (link_at s k)) s) t (queueing (neighbour near i k) i (ms ++ rests s k) (net_at s).way) a (inr (k, m, e))
          (net.taking (net_at s) i k m (ms ++ rests s k) t inside queue (rw (node_here s) e))
          refl (leads_set s.links k (ends.taking (link_at s k)) refl ∙ a.links) (subst (λ v. Lined P A (seat i v f)) (sym viewed) a.lined)
          (amount_with s k (ends.taking (link_at s k)) refl) (λ b. ap (λ v. v.taken b) viewed) (λ b. ap (λ v. v.acknowledged b) viewed)
          (λ x y. take_way f i (neighbour near i k) (view_of s) t.node (λ b. over (near i) t.sends b) m ms (rests s k) waits refl x y (more_still s a (λ b. over (near i) t.sends b) x y)
          ∙ ap (λ v. way_of (seat i (turned t.node (λ b. over (near i) t.sends b) v) f) x y) (sym viewed))
          (let c = took.came s.node k m t e in took_up s.node k m t c.did u)
        where
          viewed : view_of (with_link k (ends.taking (link_at s k)) s) ≡ inboxed (neighbour near i k) ms (view_of s)
          viewed = view_inboxed (near i) once s a.links k lt (ends.taking (link_at s k)) refl refl refl refl ∙ ap (λ x. inboxed (neighbour near i k) (rest x) (view_of s)) q

      -- it is deferred
      look_defers : (n : Node) → takes k m s.node ≡ Deferred n → Goes s (with_link k (ends.deferring (link_at s k)) s)
      look_defers n e =
          record {
            run = one_step step nets;
            number = refl;
            links = leads_set s.links k (ends.deferring (link_at s k)) refl ∙ a.links;
            lined = subst (λ v. Lined P A (seat i v f)) (sym viewed) a.lined;
            taken = λ b. ap (λ v. v.taken b) viewed;
            acknowledged = λ b. ap (λ v. v.acknowledged b) viewed;
            up = u;
          }
        where
          viewed : view_of (with_link k (ends.deferring (link_at s k)) s) ≡ inboxed (neighbour near i k) (ms ++ (m ∷ [])) (view_of s)
          viewed = view_inboxed (near i) once s a.links k lt (ends.deferring (link_at s k)) refl refl refl refl ∙ ap (λ x. inboxed (neighbour near i k) (ends.turned x) (view_of s)) q

          kept : takes k m s.node ≡ Deferred s.node
          kept = e ∙ ap Deferred (took.why_deferred s.node n k m e).0

          step : Step g near (net_at s) (record { node = (net_at s).node; way = queueing (neighbour near i k) i (ms ++ (m ∷ rests s k)) (net_at s).way; count = (net_at s).count })
          step = net.deferring (net_at s) i k m ms (rests s k) inside (rw (node_here s) u) queue (rw (node_here s) kept)

          nets : ◌≡◌ {A = Net} (record { node = (net_at s).node; way = queueing (neighbour near i k) i (ms ++ (m ∷ rests s k)) (net_at s).way; count = (net_at s).count }) (net_at (with_link k (ends.deferring (link_at s k)) s))
          nets =
              net_path (λ x. refl) (λ x y. off_way f i (neighbour near i k) (view_of s) m ms (rests s k) waits refl x y ∙ ap (λ v. way_of (seat i v f) x y) (sym viewed))
              (ap (λ c. others + c) (sym (amount_with s k (ends.deferring (link_at s k)) refl)))

      look_by_lem : (p : Progress) → p.state ≡ s → (c : Taking) → takes k m s.node ≡ c → Goes s (look_by k c p).state
      look_by_lem p z (Taken t) e = rw z (look_takes t e)
      look_by_lem p z (Deferred n) e = rw z (look_defers n e)
      look_by_lem p z (Refused n r) e =
          absurd (no_stray g ground.weights ground.few near ground.placed (net_at s) a.reach i k m (ms ++ rests s k) n r inside lt queue (rw (node_here s) e))

    pub look_goes : (k : ℕ) (p : Progress) → At p.state → Up p.state.node → Goes p.state (look k p).state
    unfolding look
    look_goes k p a u = two (head_of (link_at p.state k).inbox) refl (dec_lt k (length (near i)))
      where
        two : (o : Option Message) → head_of (link_at p.state k).inbox ≡ o → Dec (k < length (near i)) → Goes p.state (look_at k o p).state
        two None e d = goes_none a u
        two (Some m) e (yes l) = look_by_lem p.state a u k l m (rest (link_at p.state k).inbox) (head_is (link_at p.state k).inbox m e) p refl (takes k m p.state.node) refl
        two (Some m) e (no l) =
            let n = leads_long p.state.links (near i) a.links in
            let z : head_of (link_at p.state k).inbox ≡ None = ap (λ x. head_of x.inbox) (get_or_past p.state.links k no_link (omega arith)) in
            let y : ◌≡◌ {A = ℕ} 0 1 = cc in absurd (omega arith)

    pub looks_goes : (k n : ℕ) (p : Progress) → At p.state → Up p.state.node → Goes p.state (looks k n p).state
    unfolding looks
    looks_goes k zero p a u = goes_none a u
    looks_goes k (suc n) p a u = let h = looks_goes k n p a u in goes_on_lem h (look_goes k (looks k n p) (at_end a h) h.up)

    pub round_goes : (n : ℕ) (p : Progress) → At p.state → Up p.state.node → Goes p.state (round n p).state
    unfolding round
    round_goes zero p a u = goes_none a u
    round_goes (suc n) p a u = let h = round_goes n p a u in goes_on_lem h (looks_goes n (waiting_at n (round n p)) (round n p) (at_end a h) h.up)

    pub rounds_goes : (n : ℕ) (p : Progress) → At p.state → Up p.state.node → Goes p.state (rounds n p).state
    unfolding rounds
    rounds_goes zero p a u = goes_none a u
    rounds_goes (suc n) p a u =
        let h = round_goes (length p.state.links) (afresh p) a u in
        more (lap p).took h (rounds_goes n (lap p) (at_end a h) h.up)
      where
        more : (b : Bool) → Goes p.state (lap p).state → Goes (lap p).state (rounds n (lap p)).state → Goes p.state (elim b as (λ v. Progress) [ true ↦ rounds n (lap p) | false ↦ lap p ]).state
        more true h x = goes_on_lem h x
        more false h x = h
