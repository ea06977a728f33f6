-- The lightest edge out, by what a node did and by every step of the net.
use Rattle.std.proofs.Common.{◌≡◌, ℕ, suc, ◌<◌, ◌≤◌, true, false, not, ◌&&◌, ◌||◌, T, eqb, ◌⊎◌, List, ◌∷◌, ◌++◌, Some, None, sym, refl, ap, ◌∙◌, subst, inl, inr, arith, Option}
use Rattle.std.proofs.lemmas.Bool.Decides.{eqb_tells}
use Rattle.message.specs.declared.messages.Message.{Message}
use Rattle.node.specs.declared.state.Status.TheVariants.{Sleeping, Find}
use Rattle.node.specs.Rules.{lighter}
use Rattle.graph.specs.Graph.{Graph, Edge, Weights}
use Rattle.protocol.proofs.All.{Done, all_done}
use Rattle.protocol.proofs.Base.{Good}
use Rattle.protocol.proofs.Control.{control1, control}
use Rattle.protocol.proofs.Deed.{In, woke, got, Deed, Alone, WokeTo, Absorbs, Merges, Begins, Searches-ask, Searches-report, Searches-wait, Accepts, Rejects, Crosses-ask, Crosses-report, Crosses-wait, Accepted-report, Accepted-wait, Rejected-ask, Rejected-report, Rejected-wait, Hears-report, Hears-wait, Decides-passes, Decides-joins, Halts, Rests, Changed-passes, Changed-joins}
use Rattle.protocol.proofs.Deeds.{Knows, Suits}
use Rattle.protocol.proofs.Edges.{Rest, Edges, first, shorter, next, turned}
use Rattle.protocol.proofs.Frame.{Lifted, start, Act, Event, act, off}
use Rattle.protocol.proofs.Ghost.{Turn, undecided, decided, Ghost, View, view, idle, merge, begin, report, decide, change, end, turn, moves, fragments, acted, stepped}
use Rattle.protocol.proofs.Heads.{head_absorb, head_merge, head_begin, head_turn, head_hears}
use Rattle.protocol.proofs.Held.{Send, Held}
use Rattle.protocol.proofs.LeastKept.{wakes, eqb_on, calm, merges, decides, absorbs}
use Rattle.protocol.proofs.LeastOutgoing.{Steps, Outward, Stays, Alike, steps_else, steps_acted, not_both, undecided_not, cond-true, outward_alike, Heavier, World, head_basic, Ends, head_ends, lighter_not, lighter_self}
use Rattle.protocol.proofs.Mode.{Mode}
use Rattle.protocol.proofs.Views.{view_else, view_acted}

pub stale : {a b c : ℕ} → a < b → b ≤ c → a ≡ c → ⊥
stale p q e = omega arith

no_less : (a b : ℕ) → a ≤ b → lighter (Some b) (Some a) ≡ false
no_less a b h = grind arith

-- who has reported stays so, whatever it does
pub stays_acts : {t : Graph} {i j : ℕ} {A J : View} {m : Message} {g : Held} {os : List Send} {p q : List Message} → Knows t i j A J p q → Suits m A J → Mode i j (t.weight i j) A J p (control1 m ++ q) → (d : Deed t i A.held (got j m) g os) → Stays A (acted (turn d) g A J)
stays_acts kj ft e (Absorbs {l} c1) a b c = (refl, c, refl)
stays_acts kj ft e (Merges {l} c1 c2) a b c = (refl, c, refl)
stays_acts kj ft e (Begins {l} {f} {s} c1) a b c = absurd (let h = head_begin kj.theirs kj.same e in stale h.rises h.top b)
stays_acts kj ft e (Searches-ask {l} {f} k c1) a b c = absurd (let h = head_begin kj.theirs kj.same e in stale h.rises h.top b)
stays_acts kj ft e (Searches-report {l} {f} c1 c2 c3) a b c = absurd (let h = head_begin kj.theirs kj.same e in stale h.rises h.top b)
stays_acts kj ft e (Searches-wait {l} {f} c1 c2) a b c = absurd (let h = head_begin kj.theirs kj.same e in stale h.rises h.top b)
stays_acts kj ft e (Accepts {l} {f} c1 c2) a b c = (refl, c, refl)
stays_acts kj ft e (Rejects {l} {f} c1 c2 c3) a b c = (refl, c, refl)
stays_acts kj ft e (Crosses-ask {l} {f} k c1 c2 c3 c4) a b c = (refl, c, refl)
stays_acts kj ft e (Crosses-report {l} {f} c1 c2 c3 c4 c5 c6) a b c = (refl, refl, refl)
stays_acts kj ft e (Crosses-wait {l} {f} c1 c2 c3 c4 c5) a b c = (refl, c, refl)
stays_acts kj ft e (Accepted-report c1 c2) a b c = absurd (not_both (kj.mine.find_reported ft) c)
stays_acts kj ft e (Accepted-wait c1) a b c = absurd (not_both (kj.mine.find_reported ft) c)
stays_acts kj ft e (Rejected-ask k c1) a b c = (refl, c, refl)
stays_acts kj ft e (Rejected-report c1 c2 c3) a b c = (refl, refl, refl)
stays_acts kj ft e (Rejected-wait c1 c2) a b c = (refl, c, refl)
stays_acts kj ft e (Hears-report {w} c1 c2 c3) a b c = absurd (not_both (kj.mine.find_reported (head_hears c1 e)) c)
stays_acts kj ft e (Hears-wait {w} c1 c2) a b c = absurd (not_both (kj.mine.find_reported (head_hears c1 e)) c)
stays_acts kj ft e (Decides-passes {w} k c1 c2 c3 c4 c5) a b c = (refl, c, refl)
stays_acts kj ft e (Decides-joins {w} k c1 c2 c3 c4 c5) a b c = (refl, c, refl)
stays_acts kj ft e (Halts {w} c1 c2 c3 c4) a b c = (refl, c, refl)
stays_acts kj ft e (Rests {w} c1 c2 c3 c4) a b c = (refl, c, refl)
stays_acts kj ft e (Changed-passes k c1 c2) a b c = (refl, c, refl)
stays_acts kj ft e (Changed-joins k c1 c2) a b c = (refl, c, refl)

pub stays_wakes : {t : Graph} {i : ℕ} (A : View) {g : Held} {os : List Send} (J : View) → A.held.level ≡ 0 → (d : Deed t i A.held woke g os) → Stays A (acted (turn d) g A J)
stays_wakes A J z (Alone c1) a b c = (sym z, c, refl)
stays_wakes A J z (WokeTo k c1) a b c = (sym z, c, refl)

-- the second connect of a merge moves nobody
pub again_moves : (c k l : ℕ) → c ≡ k → (not (eqb c k) && (eqb l c || eqb l k)) ≡ false
again_moves c k l e = let f : eqb c k ≡ true = eqb_on c k e in grind arith

-- when the two ends of the core have nothing lighter than w, nobody who was asked has
pub core_done : (t : Graph) (weights : Weights t) (V : ℕ → View) (P : ℕ → ℕ → List Message) → World t V P → (i j : ℕ) (w : Option ℕ) {r : Option ℕ} → Edge t i j → Ends r (t.weight i j) (V i) (V j) → (V i).fragment.least ≡ undecided → (V i).held.parent ≡ Some j → lighter (V i).held.best_weight w ≡ false → lighter r w ≡ false →
    (x : ℕ) → (V x).own.label ≡ (V i).own.label → (V x).own.in_search ≡ true → Done w (V x)
core_done t weights V P W i j w {r} l n un pa lo lr x e s =
    all_done t weights V i j l (λ v e. W.same v i e) un n.name n.still_a n.still_b w (n.current_a, n.reported_a, lo) (n.current_b, n.reported_b, subst (λ b. lighter b w ≡ false) (sym n.best) lr)
    (λ a b l. (P a b, (P b a, W.edges a b l))) W.sane W.same ups x e s
  where
    ups : (v : ℕ) → (V v).own.label ≡ (V i).own.label → (p : ℕ) × (((V v).own.up ≡ Some p) × Edge t v p × Edge t p v)
    ups v e = both (W.ups v (subst (λ l. 1 ≤ l) (n.current_a ∙ sym (λ k. (W.same v i e k).level)) (W.risen i j pa)))
      where
        both : (p : ℕ) × (((V v).own.up ≡ Some p) × Edge t v p) → (p : ℕ) × (((V v).own.up ≡ Some p) × Edge t v p × Edge t p v)
        both (p, (u, l)) = (p, (u, l, turned t weights v p l))

module _ (t : Graph) (weights : Weights t) (V V' : ℕ → View) (P : ℕ → ℕ → List Message) (W : World t V P) (F : Outward t V) where
  -- the two ends of the core agree on w: then all who were asked have nothing lighter
  agree : (i j : ℕ) (u : Turn) (w : Option ℕ) {r : Option ℕ} → Edge t i j → Ends r (t.weight i j) (V i) (V j) → (V i).fragment.least ≡ undecided → (V i).held.parent ≡ Some j → lighter (V i).held.best_weight w ≡ false → lighter r w ≡ false →
      ((l : ℕ) → moves u (V i) (V j) l ≡ false) → (fragments u (V i) (V j)).level ≡ (V i).fragment.level → (fragments u (V i) (V j)).least ≡ decided w → ((a : ℕ) → Steps u (V i) (V j) (V a) (V' a)) → Outward t V'
  agree i j u w l n un pa lo lr mv lv le S = decides t V V' P W F i j u w mv lv le un (subst (λ l. 1 ≤ l) n.current_a (W.risen i j pa)) (core_done t weights V P W i j w l n un pa lo lr) S

  kept_got : (i j : ℕ) {m : Message} {g : Held} {os : List Send} {p q : List Message} → Edge t i j → Knows t i j (V i) (V j) p q → Mode i j (t.weight i j) (V i) (V j) p (control1 m ++ q) → (d : Deed t i (V i).held (got j m) g os) → ((a : ℕ) → Steps (turn d) (V i) (V j) (V a) (V' a)) → Outward t V'
  kept_got i j l kj e (Absorbs {l = k} c1) S = absorbs t V V' P W F i j l (head_absorb c1 e) (head_basic c1 e) S
  kept_got i j l kj e (Merges c1 c2) S = elim (head_merge c1 c2 e) [ inl a ↦ merges t V V' P W F i j (t.weight i j) a.differ S | inr u ↦ calm t V V' P W F i j (merge (t.weight i j)) (λ k. again_moves (V i).own.label (V j).own.label k u) (cond-true (eqb (V i).own.label (V j).own.label) (V i).fragment.level (suc (V i).held.level) (eqb_on (V i).own.label (V j).own.label u)) (cond-true (eqb (V i).own.label (V j).own.label) (V i).fragment.least undecided (eqb_on (V i).own.label (V j).own.label u)) S ]
  kept_got i j l kj e (Begins {f = f} c1) S = calm t V V' P W F i j (begin j (eqb (t.weight i j) f) false) (λ k. refl) refl refl S
  kept_got i j l kj e (Searches-ask {f = f} k c1) S = calm t V V' P W F i j (begin j (eqb (t.weight i j) f) false) (λ k. refl) refl refl S
  kept_got i j l kj e (Searches-report {f = f} c1 c2 c3) S = calm t V V' P W F i j (begin j (eqb (t.weight i j) f) true) (λ k. refl) refl refl S
  kept_got i j l kj e (Searches-wait {f = f} c1 c2) S = calm t V V' P W F i j (begin j (eqb (t.weight i j) f) false) (λ k. refl) refl refl S
  kept_got i j l kj e (Accepts c1 c2) S = calm t V V' P W F i j idle (λ k. refl) refl refl S
  kept_got i j l kj e (Rejects c1 c2 c3) S = calm t V V' P W F i j idle (λ k. refl) refl refl S
  kept_got i j l kj e (Crosses-ask k c1 c2 c3 c4) S = calm t V V' P W F i j idle (λ k. refl) refl refl S
  kept_got i j l kj e (Crosses-report c1 c2 c3 c4 c5 c6) S = calm t V V' P W F i j report (λ k. refl) refl refl S
  kept_got i j l kj e (Crosses-wait c1 c2 c3 c4 c5) S = calm t V V' P W F i j idle (λ k. refl) refl refl S
  kept_got i j l kj e (Accepted-report c1 c2) S = calm t V V' P W F i j report (λ k. refl) refl refl S
  kept_got i j l kj e (Accepted-wait c1) S = calm t V V' P W F i j idle (λ k. refl) refl refl S
  kept_got i j l kj e (Rejected-ask k c1) S = calm t V V' P W F i j idle (λ k. refl) refl refl S
  kept_got i j l kj e (Rejected-report c1 c2 c3) S = calm t V V' P W F i j report (λ k. refl) refl refl S
  kept_got i j l kj e (Rejected-wait c1 c2) S = calm t V V' P W F i j idle (λ k. refl) refl refl S
  kept_got i j l kj e (Hears-report c1 c2 c3) S = calm t V V' P W F i j report (λ k. refl) refl refl S
  kept_got i j l kj e (Hears-wait c1 c2) S = calm t V V' P W F i j idle (λ k. refl) refl refl S
  kept_got i j l kj e (Decides-passes {w = w} k c1 c2 c3 c4 c5) S = let o = lighter_not (V i).held.best_weight w c3 in agree i j (decide i k) (V i).held.best_weight l (head_ends kj.same kj.mine c1 c2 o e) (head_turn kj.mine c1 c2 c3 e).least c1 (lighter_self (V i).held.best_weight) o (λ k. refl) refl refl S
  kept_got i j l kj e (Decides-joins {w = w} k c1 c2 c3 c4 c5) S = let o = lighter_not (V i).held.best_weight w c3 in agree i j (decide i k) (V i).held.best_weight l (head_ends kj.same kj.mine c1 c2 o e) (head_turn kj.mine c1 c2 c3 e).least c1 (lighter_self (V i).held.best_weight) o (λ k. refl) refl refl S
  kept_got i j l kj e (Halts {w = w} c1 c2 c3 c4) S = let n = head_ends kj.same kj.mine c1 c2 (subst (λ r. lighter r (V i).held.best_weight ≡ false) (sym c4) refl) e in
      elim n.least [ inl un ↦ agree i j end None l n un c1 (subst (λ b. lighter b None ≡ false) (sym c3) refl) (subst (λ b. lighter b None ≡ false) (sym c4) refl) (λ k. refl) refl refl S | inr y ↦ calm t V V' P W F i j end (λ k. refl) refl (sym y.0) S ]
  kept_got i j l kj e (Rests c1 c2 c3 c4) S = calm t V V' P W F i j idle (λ k. refl) refl refl S
  kept_got i j l kj e (Changed-passes k c1 c2) S = calm t V V' P W F i j (change i k) (λ k. refl) refl refl S
  kept_got i j l kj e (Changed-joins k c1 c2) S = calm t V V' P W F i j (change i k) (λ k. refl) refl refl S

  kept_woke : (i : ℕ) {g : Held} {os : List Send} → ((a : ℕ) → (a ≡ i → ⊥) → (V a).own.label ≡ (V i).own.label → ⊥) → (1 ≤ (V i).fragment.level → ⊥) → (d : Deed t i (V i).held woke g os) → ((a : ℕ) → Steps (turn d) (V i) (V i) (V a) (V' a)) → Outward t V'
  kept_woke i alone low (Alone c1) S = wakes t V V' P W F i i i i None None alone low (λ y l. absurd (c1.nobody y l.1 l.2 refl)) S
  kept_woke i alone low (WokeTo k c1) S = wakes t V V' P W F i i i k (Some k) (Some (t.weight i k)) alone low (λ y l. no_less (t.weight i k) (t.weight i y) (c1.least y l.1 l.2 refl)) S

-- what is assumed of the net before a step: the modes and what they need; N8; N9; who asks seeks; N4; N6
pub record Trust (t : Graph) (n : Lifted) (γ : Ghost) : Type 0 where
  pub good : Good t n
  pub rest : Rest t n γ
  pub edges : Edges t n γ
  pub heavier : (a y : ℕ) → Edge t a y → Heavier y (t.weight a y) (view n γ a)
  pub answers : (a : ℕ) → (view n γ a).held.level ≡ (view n γ a).fragment.level → ((n.held a).status ≡ Find → ⊥) → 1 ≤ (n.held a).level → (γ.own a).in_search ≡ (γ.own a).reported
  pub asks : (a : ℕ) → ((n.held a).testing ≡ None) ⊎ ((n.held a).status ≡ Find)
  pub risen : (a y : ℕ) → (n.held a).parent ≡ Some y → 1 ≤ (n.held a).level
  pub ups : (a : ℕ) → 1 ≤ (view n γ a).fragment.level → (p : ℕ) × (((γ.own a).up ≡ Some p) × Edge t a p)

-- i takes x from j, and rest stays in the queue: what is known of the two
pub record Taking (t : Graph) (n : Lifted) (γ : Ghost) (i j : ℕ) (x : Message) (rest : List Message) : Type 0 where
  pub edge : Edge t i j
  pub suits : Suits x (view n γ i) (view n γ j)
  pub knows : Knows t i j (view n γ i) (view n γ j) (control (n.way i j)) (control rest)
  pub mode : Mode i j (t.weight i j) (view n γ i) (view n γ j) (control (n.way i j)) (control1 x ++ control rest)

-- at first nobody has decided, and everybody is asked
pub outward_start : (t : Graph) → Outward t (view start first)
outward_start t = record { lightest = λ x y l v d e. absurd (undecided_not v e); answered = λ x v e. absurd (undecided_not v e); spared = λ x e s. absurd (not_both s refl) }

module _ (t : Graph) (weights : Weights t) (n m : Lifted) (γ : Ghost) (T : Trust t n γ) where
  pub world : World t (view n γ) (λ a b. control (n.way a b))
  world = record { same = λ a b e. ap γ.fragment e; edges = T.edges; sane = T.rest.sane; heavier = T.heavier; answers = T.answers; asks = T.asks; risen = T.risen; ups = T.ups }

  -- as everybody sees what node i does
  pub steps : {i : ℕ} {inp : In} {g : Held} {os : List Send} (j : ℕ) (c : Act t n m i inp g os) → Stays (view n γ i) (acted (turn c.does) g (view n γ i) (view n γ j)) → (a : ℕ) → Steps (turn c.does) (view n γ i) (view n γ j) (view n γ a) (view m (stepped (turn c.does) i (view n γ i) (view n γ j) γ) a)
  steps {i} {inp} {g} {os} j c s a = go (eqb_tells a i)
    where
      u : Turn
      u = turn c.does

      H : Ghost
      H = stepped u i (view n γ i) (view n γ j) γ

      go : ((eqb a i ≡ true) × (a ≡ i)) ⊎ ((eqb a i ≡ false) × (a ≡ i → ⊥)) → Steps u (view n γ i) (view n γ j) (view n γ a) (view m H a)
      go (inl e) = subst (λ z. Steps u (view n γ i) (view n γ j) (view n γ z) (view m H z)) (sym e.1) (subst (λ X. Steps u (view n γ i) (view n γ j) (view n γ i) X) (sym (view_acted u i (view n γ j) γ n m g c.self)) (steps_acted u g (view n γ i) (view n γ j) s))
      go (inr e) = subst (λ X. Steps u (view n γ i) (view n γ j) (view n γ a) X) (sym (view_else u i (view n γ i) (view n γ j) γ m a (n.held a) (c.others a e.1) e.1)) (steps_else u (view n γ i) (view n γ j) (view n γ a))

  -- who sleeps is of a fragment of level 0
  pub low : (i : ℕ) → (n.held i).status ≡ Sleeping → 1 ≤ (view n γ i).fragment.level → ⊥
  low i a h = go (T.ups i h)
    where
      go : (p : ℕ) × (((γ.own i).up ≡ Some p) × Edge t i p) → ⊥
      go (p, (u, l)) = zero_not (T.rest.fresh i p a l).fragment h
        where
          zero_not : {k : ℕ} → k ≡ 0 → 1 ≤ k → ⊥
          zero_not e h = omega arith

  -- i takes x from j: what is known of the two
  pub taking : {i : ℕ} {g : Held} {os : List Send} (j : ℕ) (x : Message) (c : Act t n m i (got j x) g os) → Taking t n γ i j x c.ready.source.0
  taking {i} j x c = record {
    edge = f.0;
    suits = f.1;
    knows = shorter x (subst (λ q. Knows t i j (view n γ i) (view n γ j) (control (n.way i j)) (control q)) from (T.rest.knows i j f.0 c.ready.awake));
    mode = subst (λ q. Mode i j (t.weight i j) (view n γ i) (view n γ j) (control (n.way i j)) (control q)) from (T.edges i j f.0);
  }
    where
      from : n.way j i ≡ x ∷ c.ready.source.0
      from = c.ready.source.1

      f : Edge t i j × Suits x (view n γ i) (view n γ j)
      f = T.rest.suits i j x c.ready.source.0 from

  pub steps_got : {i : ℕ} {g : Held} {os : List Send} (j : ℕ) (x : Message) (c : Act t n m i (got j x) g os) (a : ℕ) → Steps (turn c.does) (view n γ i) (view n γ j) (view n γ a) (view m (stepped (turn c.does) i (view n γ i) (view n γ j) γ) a)
  steps_got j x c = let k = taking j x c in steps j c (stays_acts k.knows k.suits k.mode c.does)

  pub steps_woke : {i : ℕ} {g : Held} {os : List Send} (c : Act t n m i woke g os) (a : ℕ) → Steps (turn c.does) (view n γ i) (view n γ i) (view n γ a) (view m (stepped (turn c.does) i (view n γ i) (view n γ i) γ) a)
  steps_woke {i} c = steps i c (stays_wakes (view n γ i) (view n γ i) ((T.good.helds i i i).sleeps c.ready.awake).2 c.does)

  kept_of : Outward t (view n γ) → (s : Event t n m) → Outward t (view m (next γ s))
  kept_of F (act i woke g os c) = kept_woke t weights (view n γ) (view m (next γ (act i woke g os c))) (λ a b. control (n.way a b)) world F i (λ a d. T.rest.lone i a c.ready.awake d) (low i c.ready.awake) c.does (steps_woke c)
  kept_of F (act i (got j x) g os c) = let k = taking j x c in kept_got t weights (view n γ) (view m (next γ (act i (got j x) g os c))) (λ a b. control (n.way a b)) world F i j k.edge k.knows k.mode c.does (steps_got j x c)
  kept_of F (off i j x front back c) = outward_alike alike F
    where
      alike : (a : ℕ) → Alike (view n γ a) (view m γ a)
      alike a = record { label = refl; in_search = refl; level = refl; least = refl; keeps = λ u v w. ((λ k. (c.helds a k).level), w, λ k. (c.helds a k).best_weight) }

-- THE THEOREM: each step keeps it
pub outward_kept : (t : Graph) (weights : Weights t) (n m : Lifted) (γ : Ghost) → Trust t n γ → Outward t (view n γ) → (s : Event t n m) → Outward t (view m (next γ s))
outward_kept t weights n m γ T F s = kept_of t weights n m γ T F s
