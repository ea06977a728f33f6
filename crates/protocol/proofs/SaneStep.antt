-- What holds of one node goes on to hold, by every step of the net.
use Rattle.std.proofs.Common.{◌≡◌, ℕ, Bool, true, false, T, eqb, List, ◌∷◌, ◌++◌, Some, sym, refl, ap, ◌∙◌, subst, inl, inr, arith, None, Option}
use Rattle.std.proofs.lemmas.Bool.Decides.{eqb_tells}
use Rattle.message.specs.declared.messages.Message.{Message}
use Rattle.node.specs.declared.state.Status.TheVariants.{Find}
use Rattle.node.specs.Rules.{lighter}
use Rattle.graph.specs.Graph.{Graph, Edge, Weights}
use Rattle.protocol.proofs.Asleep.{asleep, Alones, follow_apart, view_off}
use Rattle.protocol.proofs.Control.{control1, control}
use Rattle.protocol.proofs.Deed.{In, woke, got, Deed, Absorbs, Merges, Begins, Searches-ask, Searches-report, Searches-wait, Accepts, Rejects, Crosses-ask, Crosses-report, Crosses-wait, Accepted-report, Accepted-wait, Rejected-ask, Rejected-report, Rejected-wait, Hears-report, Hears-wait, Decides-passes, Decides-joins, Halts, Rests, Changed-passes, Changed-joins}
use Rattle.protocol.proofs.Deeds.{Knows, Suits}
use Rattle.protocol.proofs.Edges.{first, shorter, next}
use Rattle.protocol.proofs.Frame.{start, Lifted, Act, Event, act, off}
use Rattle.protocol.proofs.Ghost.{undecided, decided, Fragment, Ghost, View, view, merge, turn, follow, acted, stepped}
use Rattle.protocol.proofs.Heads.{head_absorb, head_merge, head_turn}
use Rattle.protocol.proofs.Held.{Send, Held}
use Rattle.protocol.proofs.LeastOutgoing.{World, Ends, head_ends, lighter_not, lighter_self}
use Rattle.protocol.proofs.LeastStep.{core_done, Trust, world}
use Rattle.protocol.proofs.Mode.{Mode, Sane}
use Rattle.protocol.proofs.Sane.{sane_acts, sane_absorb, sane_merge, sane_decide, sane_end, sane_change, sane_idle, sane_wake}
use Rattle.protocol.proofs.Views.{view_else, view_acted}

-- at first every node is so
pub sane_start : (t : Graph) (a y : ℕ) → Edge t a y → Sane y (view start first a)
sane_start t a y l = record { low = grind arith; name = λ u1. grind arith; find_current = λ u1. grind arith; find_undecided = λ u1. grind arith; find_in_search = λ u1. grind arith; find_reported = λ u1. grind arith; find_changed = λ u1. grind arith; up_branch = λ u1. grind arith; up_parent = grind arith; parent_branch = λ u1. grind arith; ranked = grind arith; unchanged = λ u1 u2. grind arith; sleeping_reported = λ u1. grind arith; settles = λ u1 u2 u3. grind arith }

-- the second connect of a merge changes nobody
sane_again : {y : ℕ} (w : ℕ) {B : View} (C J : View) → (B.own.label ≡ C.own.label → B.fragment ≡ C.fragment) → C.own.label ≡ J.own.label → Sane y B → Sane y (follow (merge w) C J B)
sane_again {y} w {B} C J bc e v = record { low = grind arith; name = λ u1. grind arith; find_current = λ u1. grind arith; find_undecided = λ u1. grind arith; find_in_search = λ u1. grind arith; find_reported = λ u1. grind arith; find_changed = λ u1. grind arith; up_branch = λ u1. grind arith; up_parent = grind arith; parent_branch = λ u1. grind arith; ranked = grind arith; unchanged = λ u1 u2. grind arith; sleeping_reported = λ u1. grind arith; settles = λ u1 u2 u3. grind arith }

not_both : {b : Bool} → b ≡ false → b ≡ true → ⊥
not_both e f = grind arith

ended : {a b : Fragment} {z : Option ℕ} → a ≡ b → b.least ≡ decided z → a.least ≡ undecided → ⊥
ended e f h = grind arith

module _ (t : Graph) (weights : Weights t) (V : ℕ → View) (P : ℕ → ℕ → List Message) (W : World t V P) where
  -- the two ends of the core agree on w: nobody of its fragment seeks
  nobody : (i j : ℕ) (w : Option ℕ) {r : Option ℕ} → Edge t i j → Ends r (t.weight i j) (V i) (V j) → (V i).fragment.least ≡ undecided → (V i).held.parent ≡ Some j → lighter (V i).held.best_weight w ≡ false → lighter r w ≡ false →
      (x y : ℕ) → Edge t x y → (V x).own.label ≡ (V i).own.label → (V x).held.status ≡ Find → ⊥
  nobody i j w l n un pa lo lr x y k e s = not_both ((W.sane x y k).find_reported s) (core_done t weights V P W i j w l n un pa lo lr x e ((W.sane x y k).find_in_search s)).1

  -- the core has nothing: nobody of its fragment seeks
  halted : (i j : ℕ) {r : Option ℕ} → Edge t i j → Ends r (t.weight i j) (V i) (V j) → (V i).held.parent ≡ Some j → (V i).held.best_weight ≡ None → r ≡ None → (x y : ℕ) → Edge t x y → (V x).own.label ≡ (V i).own.label → (V x).held.status ≡ Find → ⊥
  halted i j l n pa b c x y k e s = elim n.least [ inl un ↦ nobody i j None l n un pa (subst (λ o. lighter o None ≡ false) (sym b) refl) (subst (λ o. lighter o None ≡ false) (sym c) refl) x y k e s | inr u ↦ ended (W.same x i e) u.0 ((W.sane x y k).find_undecided s) ]

  -- node i takes a message from j, and x is another node
  sane_other : (i j : ℕ) {m : Message} {g : Held} {os : List Send} {p q : List Message} → Edge t i j → Knows t i j (V i) (V j) p q → Mode i j (t.weight i j) (V i) (V j) p (control1 m ++ q) → (d : Deed t i (V i).held (got j m) g os) → (x y : ℕ) → Edge t x y → Sane y (follow (turn d) (V i) (V j) (V x))
  sane_other i j l kj e (Absorbs c1) x y k = let a = head_absorb c1 e in sane_absorb (V i) (V j) (W.same x i) (W.same x j) kj.mine.low a.low a.current (Some (t.weight i j)) a.least (W.sane x y k)
  sane_other i j l kj e (Merges c1 c2) x y k = elim (head_merge c1 c2 e) [ inl a ↦ sane_merge (t.weight i j) (V i) (V j) (W.same x i) (W.same x j) a.current_a a.levels a.current (Some (t.weight i j)) a.least a.least_a (W.sane x y k) | inr u ↦ sane_again (t.weight i j) (V i) (V j) (W.same x i) u (W.sane x y k) ]
  sane_other i j l kj e (Begins c1) x y k = sane_idle (V i) (V j) (W.same x i) (W.sane x y k)
  sane_other i j l kj e (Searches-ask z c1) x y k = sane_idle (V i) (V j) (W.same x i) (W.sane x y k)
  sane_other i j l kj e (Searches-report c1 c2 c3) x y k = sane_idle (V i) (V j) (W.same x i) (W.sane x y k)
  sane_other i j l kj e (Searches-wait c1 c2) x y k = sane_idle (V i) (V j) (W.same x i) (W.sane x y k)
  sane_other i j l kj e (Accepts c1 c2) x y k = sane_idle (V i) (V j) (W.same x i) (W.sane x y k)
  sane_other i j l kj e (Rejects c1 c2 c3) x y k = sane_idle (V i) (V j) (W.same x i) (W.sane x y k)
  sane_other i j l kj e (Crosses-ask z c1 c2 c3 c4) x y k = sane_idle (V i) (V j) (W.same x i) (W.sane x y k)
  sane_other i j l kj e (Crosses-report c1 c2 c3 c4 c5 c6) x y k = sane_idle (V i) (V j) (W.same x i) (W.sane x y k)
  sane_other i j l kj e (Crosses-wait c1 c2 c3 c4 c5) x y k = sane_idle (V i) (V j) (W.same x i) (W.sane x y k)
  sane_other i j l kj e (Accepted-report c1 c2) x y k = sane_idle (V i) (V j) (W.same x i) (W.sane x y k)
  sane_other i j l kj e (Accepted-wait c1) x y k = sane_idle (V i) (V j) (W.same x i) (W.sane x y k)
  sane_other i j l kj e (Rejected-ask z c1) x y k = sane_idle (V i) (V j) (W.same x i) (W.sane x y k)
  sane_other i j l kj e (Rejected-report c1 c2 c3) x y k = sane_idle (V i) (V j) (W.same x i) (W.sane x y k)
  sane_other i j l kj e (Rejected-wait c1 c2) x y k = sane_idle (V i) (V j) (W.same x i) (W.sane x y k)
  sane_other i j l kj e (Hears-report c1 c2 c3) x y k = sane_idle (V i) (V j) (W.same x i) (W.sane x y k)
  sane_other i j l kj e (Hears-wait c1 c2) x y k = sane_idle (V i) (V j) (W.same x i) (W.sane x y k)
  sane_other i j l kj e (Decides-passes {w = w} z c1 c2 c3 c4 c5) x y k = let o = lighter_not (V i).held.best_weight w c3 in sane_decide i z (V i) (V j) (W.same x i) (nobody i j (V i).held.best_weight l (head_ends kj.same kj.mine c1 c2 o e) (head_turn kj.mine c1 c2 c3 e).least c1 (lighter_self (V i).held.best_weight) o x y k) (W.sane x y k)
  sane_other i j l kj e (Decides-joins {w = w} z c1 c2 c3 c4 c5) x y k = let o = lighter_not (V i).held.best_weight w c3 in sane_decide i z (V i) (V j) (W.same x i) (nobody i j (V i).held.best_weight l (head_ends kj.same kj.mine c1 c2 o e) (head_turn kj.mine c1 c2 c3 e).least c1 (lighter_self (V i).held.best_weight) o x y k) (W.sane x y k)
  sane_other i j l kj e (Halts {w = w} c1 c2 c3 c4) x y k = sane_end (V i) (V j) (W.same x i) (halted i j l (head_ends kj.same kj.mine c1 c2 (subst (λ r. lighter r (V i).held.best_weight ≡ false) (sym c4) refl) e) c1 c3 c4 x y k) (W.sane x y k)
  sane_other i j l kj e (Rests c1 c2 c3 c4) x y k = sane_idle (V i) (V j) (W.same x i) (W.sane x y k)
  sane_other i j l kj e (Changed-passes z c1 c2) x y k = sane_change i z (V i) (V j) (W.same x i) (W.sane x y k)
  sane_other i j l kj e (Changed-joins z c1 c2) x y k = sane_change i z (V i) (V j) (W.same x i) (W.sane x y k)

module _ (t : Graph) (weights : Weights t) where
  module _ (n m : Lifted) (γ : Ghost) (T : Trust t n γ) (S : Alones t n γ) where
    acts : {i : ℕ} {inp : In} {g : Held} {os : List Send} (j : ℕ) (c : Act t n m i inp g os) → ((y : ℕ) → Edge t i y → Sane y (acted (turn c.does) g (view n γ i) (view n γ j))) → ((a y : ℕ) → (a ≡ i → ⊥) → Edge t a y → Sane y (follow (turn c.does) (view n γ i) (view n γ j) (view n γ a))) →
        (a y : ℕ) → Edge t a y → Sane y (view m (stepped (turn c.does) i (view n γ i) (view n γ j) γ) a)
    acts {i} {inp} {g} {os} j c f h a y l = elim (eqb_tells a i) [ inl s ↦ here s | inr s ↦ there s ]
      where
        G : Ghost
        G = stepped (turn c.does) i (view n γ i) (view n γ j) γ

        here : (eqb a i ≡ true) × (a ≡ i) → Sane y (view m G a)
        here s = subst (λ x. Sane y (view m G x)) (sym s.1) (subst (λ X. Sane y X) (sym (view_acted (turn c.does) i (view n γ j) γ n m g c.self)) (f y (subst (λ x. Edge t x y) s.1 l)))

        there : (eqb a i ≡ false) × (a ≡ i → ⊥) → Sane y (view m G a)
        there s = subst (λ X. Sane y X) (sym (view_else (turn c.does) i (view n γ i) (view n γ j) γ m a (n.held a) (c.others a s.1) s.1)) (h a y s.1 l)

    sane_of : (v : Event t n m) → (a y : ℕ) → Edge t a y → Sane y (view m (next γ v) a)
    sane_of (act i woke g os c) = acts i c self other
      where
        made : view n γ i ≡ asleep i
        made = (S.sleepers i c.ready.awake).made

        self : (y : ℕ) → Edge t i y → Sane y (acted (turn c.does) g (view n γ i) (view n γ i))
        self y l = sane_wake {A = view n γ i} (view n γ i) c.ready.awake (ap (λ X. X.held.level) made) (ap (λ X. X.fragment.level) made) (ap (λ X. X.held.name) made ∙ sym (ap (λ X. X.fragment.name) made)) (ap (λ X. X.held.parent) made) (T.rest.sane i y l) c.does

        other : (a y : ℕ) → (a ≡ i → ⊥) → Edge t a y → Sane y (follow (turn c.does) (view n γ i) (view n γ i) (view n γ a))
        other a y d l = subst (λ X. Sane y X) (sym (follow_apart (turn c.does) (view n γ i) (view n γ i) (view n γ a) (T.rest.lone i a c.ready.awake d) (T.rest.lone i a c.ready.awake d))) (T.rest.sane a y l)
    sane_of (act i (got j x) g os c) = acts j c self other
      where
        rest : List Message
        rest = c.ready.source.0

        from : n.way j i ≡ x ∷ rest
        from = c.ready.source.1

        fj : Edge t i j × Suits x (view n γ i) (view n γ j)
        fj = T.rest.suits i j x rest from

        ej : Mode i j (t.weight i j) (view n γ i) (view n γ j) (control (n.way i j)) (control1 x ++ control rest)
        ej = subst (λ q. Mode i j (t.weight i j) (view n γ i) (view n γ j) (control (n.way i j)) (control q)) from (T.edges i j fj.0)

        kj : Knows t i j (view n γ i) (view n γ j) (control (n.way i j)) (control rest)
        kj = shorter x (subst (λ q. Knows t i j (view n γ i) (view n γ j) (control (n.way i j)) (control q)) from (T.rest.knows i j fj.0 c.ready.awake))

        self : (y : ℕ) → Edge t i y → Sane y (acted (turn c.does) g (view n γ i) (view n γ j))
        self y l = sane_acts {A = view n γ i} kj c.ready.awake fj.1 (T.rest.sane i y l) ej c.does

        other : (a y : ℕ) → (a ≡ i → ⊥) → Edge t a y → Sane y (follow (turn c.does) (view n γ i) (view n γ j) (view n γ a))
        other a y d l = sane_other t weights (view n γ) (λ a b. control (n.way a b)) (world t weights n m γ T) i j fj.0 kj ej c.does a y l
    sane_of (off i j x front back c) = λ a y l. subst (λ X. Sane y X) (sym (view_off γ c a)) (T.rest.sane a y l)

  -- THE THEOREM: each step keeps what holds of one node
  pub sane_step : (n m : Lifted) (γ : Ghost) → Trust t n γ → Alones t n γ → (v : Event t n m) → (a y : ℕ) → Edge t a y → Sane y (view m (next γ v) a)
  sane_step n m γ T S v = sane_of n m γ T S v
