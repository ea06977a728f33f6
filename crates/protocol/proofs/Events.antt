-- A step of the net is an event as the proof looks at it.
use Rattle.std.proofs.Common.{◌≡◌, ℕ, zero, suc, ◌+◌, ◌<◌, ◌≤◌, true, false, cond, eqb, ◌⊎◌, List, [], ◌∷◌, ◌++◌, length, replicate, Some, None, Option, sym, refl, ap, ◌∙◌, subst, inl, inr, arith}
use Rattle.node.proofs.Within.{within_edges}
use Rattle.std.proofs.lemmas.Bool.Decides.{eqb_tells}
use Rattle.message.specs.declared.messages.Message.{Message}
use Rattle.node.specs.declared.state.Status.{Status}
use Rattle.node.specs.declared.state.Status.TheVariants.{Sleeping, Find, Found}
use Rattle.graph.specs.declared.mark.Mark.TheVariants.{Basic}
use Rattle.node.specs.declared.state.Node.{Node}
use Rattle.node.specs.declared.state.Turn.{Turn}
use Rattle.node.specs.Rules.{is_sleeping, wakes}
use Rattle.node.specs.Laws.{sent_over, Steps}
use Rattle.graph.specs.Graph.{Graph}
use Rattle.protocol.proofs.Bridge.{Bridged}
use Rattle.protocol.proofs.Bridged.{took_bridged, woke_bridged}
use Rattle.protocol.proofs.Carry.{outs_count}
use Rattle.protocol.proofs.Deed.{In, woke, got}
use Rattle.protocol.proofs.Deferred.{later}
use Rattle.protocol.proofs.Frame.{start, Lifted, Event, act, off}
use Rattle.protocol.proofs.Lift.{mark_at, held_of}
use Rattle.protocol.proofs.Outs.{out_to}
use Rattle.protocol.proofs.Queues.{Has, has-++, has_off}
use Rattle.protocol.proofs.Shape.{Shape, inside_of}
use Rattle.node.proofs.Took.{Came, came, woke as wokeOf}
use Rattle.protocol.proofs.Frame.{Took as TookFrom}
use Rattle.protocol.specs.Net.{Net, Near, Step, waking, taking, deferring, neighbour, after, queueing, messages, start as netStart}

-- the net by neighbours
abbrev pub lift : Near → Net → Lifted
lift near n = record { held = λ i. held_of (near i) (n.node i); way = n.way; count = n.count }

-- every node stands in the graph
abbrev pub Shaped : Graph → Near → Net → Type 0
Shaped g near n = (i : ℕ) → i < g.count → Shape g i (near i) (n.node i)

none_basic : (near : List ℕ) (c : ℕ) (j : ℕ) → mark_at near (replicate c Basic) j ≡ Basic
none_basic [] c j = refl
none_basic (a ∷ near) zero j = refl
none_basic (a ∷ near) (suc c) j = let ih = none_basic near c j in elim (eqb a j) as (λ b. cond b Basic (mark_at near (replicate c Basic) j) ≡ Basic) [ true ↦ refl | false ↦ ih ]

-- at first the proof sees nodes as made
pub lift_start : (g : Graph) (near : Near) → lift near (netStart g near) ≡ start
lift_start g near =
    λ p. record { held = λ i. record { status = Sleeping; mark = λ j. none_basic (near i) 16 j p; level = 0; name = 0; find_count = 0; parent = None; best = None; best_weight = None; testing = None; halted = false }; way = λ i j. []; count = 0 }

pub both : (a b i j : ℕ) → ((a ≡ i) × (b ≡ j)) ⊎ ((a ≡ i) × (b ≡ j) → ⊥)
both a b i j = elim (eqb_tells a i) [ inl x ↦ elim (eqb_tells b j) [ inl y ↦ inl (x.1, y.1) | inr y ↦ inr (λ e. y.1 e.1) ] | inr x ↦ inr (λ e. x.1 e.0) ]

queue_else : (j i : ℕ) (q : List Message) (w : ℕ → ℕ → List Message) (a b : ℕ) → ((a ≡ j) × (b ≡ i) → ⊥) → queueing j i q w a b ≡ w a b
queue_else j i q w a b z = grind arith

queue_here : (j i : ℕ) (q : List Message) (w : ℕ → ℕ → List Message) → queueing j i q w j i ≡ q
queue_here j i q w = grind arith

pub queue_has : (j i : ℕ) (q : List Message) (w : ℕ → ℕ → List Message) → ((x : Message) → Has q x → Has (w j i) x) → (a b : ℕ) (x : Message) → Has (queueing j i q w a b) x → Has (w a b) x
queue_has j i q w f a b x h = elim (both a b j i) [
  | inl u ↦ let v : queueing j i q w a b ≡ q = grind arith in rw (u.0, u.1) (f x (subst (λ r. Has r x) v h))
  | inr z ↦ subst (λ r. Has r x) (queue_else j i q w a b z) h
]

-- a node has done a turn, after the queue from j was shortened to way
module _ (g : Graph) (near : Near) (n : Net) (i : ℕ) (t : Turn) (way : ℕ → ℕ → List Message) (inp : In) (b : Bridged g i (near i) (n.node i) inp t) where
  abbrev now : Net
  now = after near i t way n

  i_is : eqb i i ≡ true
  i_is = grind arith

  not_i : (a : ℕ) → (a ≡ i → ⊥) → eqb a i ≡ false
  not_i a f = grind arith

  pub self : (lift near now).held i ≡ held_of (near i) t.node
  self = rw i_is

  pub others : (a : ℕ) → (a ≡ i → ⊥) → (lift near now).held a ≡ (lift near n).held a
  others a f = rw (not_i a f)

  pub sends : (c : ℕ) → now.way i c ≡ way i c ++ out_to c b.os
  sends c = rw (i_is, b.sent c)

  pub keeps : (a c : ℕ) → (a ≡ i → ⊥) → now.way a c ≡ way a c
  keeps a c f = rw (not_i a f)

  pub comes_by : (a c : ℕ) (x : Message) → Has (now.way a c) x → Has (way a c) x ⊎ ((a ≡ i) × Has (out_to c b.os) x)
  comes_by a c x h = elim (eqb_tells a i) [
    | inl u ↦ let e : now.way a c ≡ way a c ++ out_to c b.os = subst (λ v. now.way v c ≡ way v c ++ out_to c b.os) (sym u.1) (sends c) in
        elim (has-++ (way a c) (out_to c b.os) x (subst (λ r. Has r x) e h)) [ inl k ↦ inl k | inr k ↦ inr (u.1, k) ]
    | inr u ↦ inl (subst (λ r. Has r x) (keeps a c u.1) h)
  ]

pub left_has : (p r : List Message) (m x : Message) → p ≡ m ∷ r → Has r x → Has p x
left_has p r m x e h = rw e (inr h)

pub unsent : (v : Option Message) → ((m : Message) → v ≡ Some m → ⊥) → v ≡ None
unsent None f = refl
unsent (Some m) f = absurd (f m refl)

sleeping_is : (s : Status) → is_sleeping s ≡ true → s ≡ Sleeping
sleeping_is Sleeping e = refl
sleeping_is Find e = absurd (grind arith)
sleeping_is Found e = absurd (grind arith)

waking_is : (s : Status) → is_sleeping s ≡ false → s ≡ Sleeping → ⊥
waking_is s e u = let z : is_sleeping Sleeping ≡ false = subst (λ v. is_sleeping v ≡ false) u e in grind arith

-- what is sent is counted right
counted : (g : Graph) (near : Near) (i : ℕ) (n : Node) (s : Shape g i (near i) n) (t : Turn) (inp : In) (b : Bridged g i (near i) n inp t) → Steps n t → messages t.sends ≡ length b.os
counted g near i n s t inp b st =
    sym (outs_count (near i) t.sends b.os g.count (λ k l. (s.real k l).1) (λ k l. unsent (sent_over t.sends k) (λ m e. beyond k l m e)) b.below b.sent)
  where
    beyond : (k : ℕ) → length (near i) ≤ k → (m : Message) → sent_over t.sends k ≡ Some m → ⊥
    beyond k l m e = let z = (within_edges n t st s.within).2 k m e in let y = inside_of g i (near i) n s k z in omega arith

pub off_has : (front back : List Message) (m : Message) (w : ℕ → ℕ → List Message) (j i : ℕ) → w j i ≡ m ∷ (front ++ back) → (z : Message) → Has (front ++ (m ∷ back)) z → Has (w j i) z
off_has front back m w j i q z y = rw q (has_off front back m z y)

pub event : {g : Graph} {near : Near} {n m : Net} → Shaped g near n → Step g near n m → Event g (lift near n) (lift near m)
event {g} {near} S (waking n i lt z) =
    act i woke (held_of (near i) (wakes (n.node i)).node) b.os
    (record {
      ready = record { inside = lt; awake = sleeping_is (n.node i).status z; source = tt };
      does = b.deed;
      self = self g near n i (wakes (n.node i)) n.way woke b;
      others = others g near n i (wakes (n.node i)) n.way woke b;
      sent = λ c f. sends g near n i (wakes (n.node i)) n.way woke b c;
      took = λ c f. keeps g near n i (wakes (n.node i)) n.way woke b c i f;
      far = λ a c f h. keeps g near n i (wakes (n.node i)) n.way woke b a c f;
      came = comes_by g near n i (wakes (n.node i)) n.way woke b;
      count = ap (λ v. n.count + v) (counted g near i (n.node i) (S i lt) (wakes (n.node i)) woke b (inl refl));
    })
  where
    b : Bridged g i (near i) (n.node i) woke (wakes (n.node i))
    b = woke_bridged g i (near i) (n.node i) (S i lt) lt z (wakes (n.node i)) (wokeOf (n.node i) (wakes (n.node i)) refl)
event {g} {near} S (taking n i k m rest t lt q e) =
    act i (got j m) (held_of (near i) t.node) b.os
    (record {
      ready = record { inside = lt; awake = waking_is (n.node i).status c.wakeful; source = (rest, q) };
      does = b.deed;
      self = self g near n i t w (got j m) b;
      others = others g near n i t w (got j m) b;
      sent = λ d f. sends g near n i t w (got j m) b d ∙ ap (λ v. v ++ out_to d b.os) (queue_else j i rest n.way i d (λ u. f u.1));
      took = λ d f. subst (λ r. TookFrom d (got j m) (n.way d i) r) (sym (keeps g near n i t w (got j m) b d i f)) (took_at d);
      far = λ a d f h. keeps g near n i t w (got j m) b a d f ∙ queue_else j i rest n.way a d (λ u. h u.1);
      came = λ a d x h. elim (comes_by g near n i t w (got j m) b a d x h) [ inl u ↦ inl (queue_has j i rest n.way (λ y v. left_has (n.way j i) rest m y q v) a d x u) | inr u ↦ inr u ];
      count = ap (λ v. n.count + v) (counted g near i (n.node i) (S i lt) t (got j m) b (inr (k, m, e)));
    })
  where
    j : ℕ
    j = neighbour near i k

    w : ℕ → ℕ → List Message
    w = queueing j i rest n.way

    c : Came (n.node i) k m t
    c = came (n.node i) k m t e

    b : Bridged g i (near i) (n.node i) (got j m) t
    b = took_bridged g i (near i) (n.node i) (S i lt) lt k m t c.there c.did

    took_at : (d : ℕ) → TookFrom d (got j m) (n.way d i) (w d i)
    took_at d = elim (eqb_tells j d) [
      | inl u ↦ inl (u.1, subst (λ v. n.way v i ≡ m ∷ queueing j i rest n.way v i) u.1 (q ∙ ap (λ v. m ∷ v) (sym (queue_here j i rest n.way))))
      | inr u ↦ inr (u.1, queue_else j i rest n.way d i (λ v. u.1 (sym v.0)))
    ]
event {g} {near} S (deferring n i k m front back lt a q e) =
    off i j m front back
    (record {
      inside = lt;
      yet = later g i (near i) (n.node i) (S i lt) lt k m a e;
      helds = λ c. refl;
      before = q;
      after = queue_here j i (front ++ (m ∷ back)) n.way;
      far = λ c d f. queue_else j i (front ++ (m ∷ back)) n.way c d f;
      came = λ c d x h. queue_has j i (front ++ (m ∷ back)) n.way (off_has front back m n.way j i q) c d x h;
      count = refl;
    })
  where
    j : ℕ
    j = neighbour near i k
