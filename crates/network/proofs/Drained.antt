-- From every standing world some events, with no cut among them, lead to where everybody is awake and nothing waits to be handed over.
use Rattle.std.proofs.Common.{◌≡◌, ℕ, zero, suc, ◌+◌, ◌*◌, ◌<◌, ◌≤◌, Bool, true, false, cond, eqb, ◌⊎◌, length, get_or, sym, refl, ap, ◌∙◌, subst, inl, inr, arith}
use Rattle.std.proofs.lemmas.Bool.Decides.{eqb_tells}
use Rattle.node.specs.Rules as rules
use Rattle.node.proofs.Took as took
use Rattle.link.specs.Ends.{holds}
use Rattle.station.specs.State.{link_at}
use Rattle.graph.specs.Graph.{Graph}
use Rattle.protocol.specs.Net as net
use Rattle.protocol.specs.Net.{Near, Net, Run, neighbour}
use Rattle.protocol.proofs.Arrives.{find_below}
use Rattle.protocol.proofs.Carry.{place}
use Rattle.protocol.proofs.Sum.{sum, sum_le, sum_zero, at, sum_one}
use Rattle.network.specs.declared.fate.Fate.TheVariants.{Whole}
use Rattle.network.specs.Network.{state_in, wakes, doing, World, After, Onward}
use Rattle.network.specs.Network as network
use Rattle.network.proofs.View.{to_none, link_at_lem}
use Rattle.network.proofs.Awake.{Up, took_up, wakes_up}
use Rattle.network.proofs.Moves.{Ground}
use Rattle.network.proofs.Worlds.{node_in, effect, Stands, here, after_onto}
use Rattle.network.proofs.Delivered.{acked, onward_on, now_is, stands_on, effect_onward, acked_low, delivers}

-- sums of numbers of which none is above c
sum_most : (f : ℕ → ℕ) (c n : ℕ) → ((k : ℕ) → k < n → f k ≤ c) → sum f n ≤ n * c
unfolding sum
sum_most f c zero h = omega arith
sum_most f c (suc n) h = omega (arith, sum_most f c n (λ k l. h k (omega arith)), h n (omega arith))

-- a square of numbers in which none falls and one rises
sum_rises : (f h : ℕ → ℕ → ℕ) (a b n : ℕ) → a < n → b < n → ((x y : ℕ) → f x y ≤ h x y) → f a b + 1 ≤ h a b → sum (λ x. sum (f x) n) n + 1 ≤ sum (λ x. sum (h x) n) n
sum_rises f h a b n la lb all more =
    let e = sum_le (λ x. sum (f x) n) (at a 1) (λ x. sum (h x) n) (λ x. 0) n (λ x l. row x) in
    let o = sum_one a 1 n la in
    let z = sum_zero (λ x. 0) n (λ k l. refl) in
    omega arith
  where
    cell : (x y : ℕ) → f x y + at b (at a 1 x) y ≤ h x y + 0
    cell x y = elim (eqb_tells x a) [
      | inl u ↦ elim (eqb_tells y b) [ inl v ↦ rw (u.0, v.0, u.1, v.1) (omega arith) | inr v ↦ rw v.0 (omega (arith, all x y)) ]
      | inr u ↦ elim (eqb_tells y b) [ inl v ↦ rw (u.0, v.0) (omega (arith, all x y)) | inr v ↦ rw v.0 (omega (arith, all x y)) ]
    ]

    row : (x : ℕ) → sum (f x) n + at a 1 x ≤ sum (h x) n + 0
    row x =
        let e = sum_le (f x) (at b (at a 1 x)) (h x) (λ y. 0) n (λ y l. cell x y) in
        let o = sum_one b (at a 1 x) n lb in
        let z = sum_zero (λ y. 0) n (λ k l. refl) in
        omega arith

-- who is awake stays awake, whatever steps come
step_up : {g : Graph} {near : Near} {n m : Net} → net.Step g near n m → (a : ℕ) → Up (n.node a) → Up (m.node a)
step_up (net.waking n i l z) a u = elim (eqb a i) as (λ c. Up (cond c (rules.wakes (n.node i)).node (n.node a))) [ true ↦ wakes_up (n.node i) | false ↦ u ]
step_up (net.taking n i k m rest t l q e) a u =
    elim (eqb a i) as (λ c. Up (cond c t.node (n.node a))) [ true ↦ (let c = took.came (n.node i) k m t e in took_up (n.node i) k m t c.did c.wakeful) | false ↦ u ]
step_up (net.deferring n i k m front back l w q e) a u = u

run_up : {g : Graph} {near : Near} {n m : Net} → Run g near n m → (a : ℕ) → Up (n.node a) → Up (m.node a)
run_up net.still a u = u
run_up (net.more r s) a u = step_up s a (run_up r a u)

-- events without a cut are events
onward_after : {w v : World} → Onward w v → After w v
onward_after network.Onward.nothing = network.After.nothing
onward_after (network.Onward.next q e m) = network.After.next (onward_after q) e Whole m

module _ (g : Graph) (near : Near) (ground : Ground g near) where
  -- some events, no cut among them, lead to where Q holds
  pub record Led (w : World) (Q : World → Type 0) : Type 0 where
    pub world : World
    pub onward : Onward w world
    pub stands : Stands g near world
    pub holding : Q world

  led_on : {w v : World} {Q : World → Type 0} → Onward w v → Led v Q → Led w Q
  led_on o l = record { world = l.world; onward = onward_on o l.onward; stands = l.stands; holding = l.holding }

  abbrev Awake : ℕ → World → Type 0
  Awake n w = (a : ℕ) → a < n → Up (state_in w.states a).node

  stays_up : (w v : World) → Stands g near w → Onward w v → (a : ℕ) → a < g.count → Up (state_in w.states a).node → Up (state_in v.states a).node
  stays_up w v world o a l u =
      let r = (after_onto g near ground w world v (onward_after o)).run in
      subst (λ n. Up n) (node_in g near v a l) (run_up r a (subst (λ n. Up n) (sym (node_in g near w a l)) u))

  -- everybody wakes
  wakes_one : (n : ℕ) (w : World) → n < g.count → Stands g near w → Awake n w → Led w (Awake (suc n))
  unfolding doing
  wakes_one n w l world u =
      record { world = effect (wakes n) w; onward = effect_onward g near ground w world (wakes n) may; stands = stands_on g near ground w world (wakes n) may; holding = λ a h. up a h (eqb_tells a n) }
    where
      may : n < length w.states
      may = here g near ground w world n l

      up : (a : ℕ) → a < suc n → ((eqb a n ≡ true) × (a ≡ n)) ⊎ ((eqb a n ≡ false) × (a ≡ n → ⊥)) → Up (state_in (effect (wakes n) w).states a).node
      up a h (inl (p, q)) =
          subst (λ x. Up (state_in (effect (wakes n) w).states x).node) (sym q) (subst (λ s. Up s.node) (sym (now_is g near ground w world (wakes n) may)) (wakes_up (state_in w.states n).node))
      up a h (inr (p, q)) = stays_up w (effect (wakes n) w) world (effect_onward g near ground w world (wakes n) may) a (omega arith) (u a (omega arith))

  wakes_all : (n : ℕ) (w : World) → n ≤ g.count → Stands g near w → Led w (Awake n)
  wakes_all zero w l world = record { world = w; onward = network.Onward.nothing; stands = world; holding = λ a h. absurd (omega arith) }
  wakes_all (suc n) w l world = let r = wakes_all n w (omega arith) world in led_on r.onward (wakes_one n r.world l r.stands r.holding)

  -- how many messages are acknowledged in all, and the most that can be
  abbrev acks : World → ℕ
  acks w = sum (λ x. sum (acked w x) g.count) g.count

  abbrev most : ℕ
  most = g.count * (g.count * 142592)

  acked_few : (w : World) → Stands g near w → (x y : ℕ) → x < g.count → acked w x y ≤ 142592
  acked_few w world x y l = two (place (near x) y)
    where
      two : ((k : ℕ) × (k < length (near x)) × (get_or (near x) k 0 ≡ y)) ⊎ ((k : ℕ) → k < length (near x) → get_or (near x) k 0 ≡ y → ⊥) → acked w x y ≤ 142592
      two (inl (k, h, e)) = subst (λ z. acked w x z ≤ 142592) e (acked_low g near ground w world x k l h)
      two (inr z) =
          let e = ap (λ n. n.acknowledged) (to_none (state_in w.states x).links y (subst (λ ns. (k : ℕ) → k < length ns → get_or ns k 0 ≡ y → ⊥) (sym (world.links x l)) z)) in omega arith

  acks_few : (w : World) → Stands g near w → acks w ≤ most
  acks_few w world = sum_most (λ x. sum (acked w x) g.count) (g.count * 142592) g.count (λ x l. sum_most (acked w x) 142592 g.count (λ y h. acked_few w world x y l))

  -- nothing waits to be handed over
  abbrev pub Quiet : World → Type 0
  Quiet w = (a : ℕ) → a < g.count → (k : ℕ) → k < length (near a) → holds (link_at (state_in w.states a) k).outbox ≡ false

  drains : (j : ℕ) (w : World) → Stands g near w → most < acks w + j → Led w Quiet
  drains zero w world l = absurd (let h = acks_few w world in omega arith)
  drains (suc j) w world l = two (find_below Busy Idle g.count (λ a h. row a)) (λ v s h. drains j v s h)
    where
      Busy : ℕ → Type 0
      Busy a = (k : ℕ) × ((k < length (near a)) × (holds (link_at (state_in w.states a) k).outbox ≡ true))

      Idle : ℕ → Type 0
      Idle a = (k : ℕ) → k < length (near a) → holds (link_at (state_in w.states a) k).outbox ≡ false

      row : (a : ℕ) → Busy a ⊎ Idle a
      row a = find_below (λ k. holds (link_at (state_in w.states a) k).outbox ≡ true) (λ k. holds (link_at (state_in w.states a) k).outbox ≡ false) (length (near a)) (λ k h. tells (holds (link_at (state_in w.states a) k).outbox))
        where
          tells : (c : Bool) → (c ≡ true) ⊎ (c ≡ false)
          tells true = inl refl
          tells false = inr refl

      two : ((a : ℕ) × ((a < g.count) × Busy a)) ⊎ ((a : ℕ) → a < g.count → Idle a) → ((v : World) → Stands g near v → most < acks v + j → Led v Quiet) → Led w Quiet
      two (inr q) ih = record { world = w; onward = network.Onward.nothing; stands = world; holding = q }
      two (inl (a, (la, (k, (lk, h))))) ih =
          let e = ap (λ x. holds x.outbox) (link_at_lem (near a) (ground.placed.once a) (state_in w.states a) (world.links a la) k lk) in
          let d = delivers g near ground a k la lk w world (e ∙ h) in
          let m = sum_rises (acked w) (acked d.world) a (neighbour near a k) g.count la (ground.placed.real a k la lk).1 d.keeps d.more in
          led_on d.onward (ih d.world d.stands (omega arith))

  -- both
  pub record Settled (w : World) : Type 0 where
    pub awake : (a : ℕ) → a < g.count → Up (state_in w.states a).node
    pub quiet : Quiet w

  pub settles : (w : World) → Stands g near w → Led w Settled
  settles w world =
      let r = wakes_all g.count w (omega arith) world in
      let d = drains (suc most) r.world r.stands (omega arith) in
      led_on r.onward (record { world = d.world; onward = d.onward; stands = d.stands; holding = record { awake = λ a l. stays_up r.world d.world r.stands d.onward a l (r.holding a l); quiet = d.holding } })
