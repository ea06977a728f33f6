-- In a fragment that no edge leads out of nobody has a best edge.
use Rattle.std.proofs.Common.{◌≡◌, ℕ, suc, ◌≤◌, true, false, cond, T, eqb, ◌⊎◌, List, ◌∷◌, ◌++◌, Some, None, Option, sym, refl, ap, ◌∙◌, subst, inl, inr, arith}
use Rattle.message.specs.declared.messages.Message.{Message}
use Rattle.node.specs.Rules.{lighter}
use Rattle.graph.specs.Graph.{Graph, Edge, Weights}
use Rattle.protocol.proofs.All.{Done}
use Rattle.protocol.proofs.Asleep.{Alones}
use Rattle.protocol.proofs.Chain.{bool}
use Rattle.protocol.proofs.Control.{control1, control}
use Rattle.protocol.proofs.Deed.{woke, got, Deed, Alone, WokeTo, Absorbs, Merges, Begins, Searches-ask, Searches-report, Searches-wait, Accepts, Rejects, Crosses-ask, Crosses-report, Crosses-wait, Accepted-report, Accepted-wait, Rejected-ask, Rejected-report, Rejected-wait, Hears-report, Hears-wait, Decides-passes, Decides-joins, Halts, Rests, Changed-passes, Changed-joins}
use Rattle.protocol.proofs.Deeds.{Knows, Suits}
use Rattle.protocol.proofs.Edges.{first, shorter, next}
use Rattle.protocol.proofs.Finished.{Finished, lighter_some, all_asked}
use Rattle.protocol.proofs.Frame.{start, Lifted, Event, act, off}
use Rattle.protocol.proofs.Ghost.{Turn, begin, Least, undecided, decided, Ghost, View, view, idle, starts, absorb, merge, report, decide, change, end, turn, moves, fragments, inside}
use Rattle.protocol.proofs.Heads.{Absorbing, head_absorb, Merging, head_merge}
use Rattle.protocol.proofs.Held.{Send, Held}
use Rattle.protocol.proofs.LeastKept.{eqb_on, label_so, some, in_least}
use Rattle.protocol.proofs.LeastOutgoing.{Steps, Outward, Stays, Alike, cond-true, outside, calmly, World, head_ends}
use Rattle.protocol.proofs.LeastStep.{stays_acts, stays_wakes, again_moves, core_done, Trust, world, steps}
use Rattle.protocol.proofs.Mode.{Mode}

-- THE INVARIANT, of all nodes as V shows them
abbrev pub Ended : (ℕ → View) → Type 0
Ended V = (x : ℕ) → (V x).fragment.least ≡ decided None → 1 ≤ (V x).fragment.level → (V x).held.best_weight ≡ None

-- at first nobody has decided
pub ended_start : Ended (view start first)
ended_start x e l = absurd (no e)
  where
    no : undecided ≡ decided None → ⊥
    no e = grind arith

decided_of : {v : Option ℕ} → decided v ≡ decided None → v ≡ None
decided_of e = cc

not_least : (c k : ℕ) (w : Least) → (c ≡ k → ⊥) → cond (eqb c k) w undecided ≡ decided None → ⊥
not_least c k w d e = let f : eqb c k ≡ false = grind arith in grind arith

only_nothing : (b : Option ℕ) → lighter b None ≡ false → b ≡ None
only_nothing None e = refl
only_nothing (Some b) e = absurd (some b e)

module _ (t : Graph) (weights : Weights t) (V V' : ℕ → View) (P : ℕ → ℕ → List Message) (W : World t V P) (O : Outward t V) (F : Finished V) (D : Ended V) where
  -- who is of such a fragment keeps what it has
  keeps : (a : ℕ) → (V a).fragment.least ≡ decided None → 1 ≤ (V a).fragment.level → (V a).held.best_weight ≡ None → Stays (V a) (V' a) → (V' a).held.best_weight ≡ None
  keeps a e l b k = let s = F.asked a e in let r = O.answered a None e l s in (k s r.0 r.1).2 ∙ b

  unmoved : (a : ℕ) → Alike (V a) (V' a) → (V' a).fragment.least ≡ decided None → 1 ≤ (V' a).fragment.level → (V' a).held.best_weight ≡ None
  unmoved a s e l = let f = sym s.least ∙ e in let g = subst (λ k. 1 ≤ k) s.level l in keeps a f g (D a f g) s.keeps

  module _ (i j : ℕ) where
    abbrev All : Turn → Type 0
    All u = (a : ℕ) → Steps u (V i) (V j) (V a) (V' a)

    -- only those whom the turn concerns are left to show
    within : (u : Turn) → All u → ((a : ℕ) → inside u (V i) (V j) (V a).own.label ≡ true → (fragments u (V i) (V j)).least ≡ decided None → 1 ≤ (fragments u (V i) (V j)).level → (V' a).held.best_weight ≡ None) → Ended V'
    within u S f x e l = go (bool (inside u (V i) (V j) (V x).own.label))
      where
        go : (inside u (V i) (V j) (V x).own.label ≡ true) ⊎ (inside u (V i) (V j) (V x).own.label ≡ false) → (V' x).held.best_weight ≡ None
        go (inl o) = f x o (sym (in_least t V V' P W O i j u S x o) ∙ e) (subst (λ k. 1 ≤ k) ((S x).level ∙ cond-true (inside u (V i) (V j) (V x).own.label) (fragments u (V i) (V j)).level (V x).fragment.level o) l)
        go (inr o) = unmoved x (outside u (V i) (V j) (V x) (V' x) o (S x)) e l

    kept_calm : (u : Turn) → ((l : ℕ) → moves u (V i) (V j) l ≡ false) → (fragments u (V i) (V j)).level ≡ (V i).fragment.level → (fragments u (V i) (V j)).least ≡ (V i).fragment.least → All u → Ended V'
    kept_calm u mv lv le S x e l = unmoved x (calmly u (V i) (V j) (V x) (V' x) (W.same x i) (mv (V x).own.label) lv le (S x)) e l

    -- who takes another fragment in has an edge that leads out
    kept_take : Edge t i j → Absorbing i j (t.weight i j) (V i) (V j) → All absorb → Ended V'
    kept_take k H S = within absorb S (λ a o e l. absurd (some (t.weight i j) (O.lightest i j k None H.differ e)))

    kept_unite : (z : ℕ) → Merging i j (t.weight i j) (V i) (V j) → All (merge z) → Ended V'
    kept_unite z H S = within (merge z) S (λ a o e l. absurd (not_least (V i).own.label (V j).own.label (V i).fragment.least H.differ e))

    kept_settle : (me k : ℕ) → ((V i).held.best_weight ≡ None → ⊥) → All (decide me k) → Ended V'
    kept_settle me k fin S = within (decide me k) S (λ a o e l. absurd (fin (decided_of e)))

    -- when the core ends, nobody has anything lighter than nothing
    kept_end : (V i).fragment.least ≡ undecided → ((x : ℕ) → (V x).own.label ≡ (V i).own.label → (V x).own.in_search ≡ true → Done None (V x)) → All end → Ended V'
    kept_end un done S = within end S (λ a o e l. ends a (label_so (V a).own.label (V i).own.label false refl o))
      where
        ends : (a : ℕ) → (V a).own.label ≡ (V i).own.label → (V' a).held.best_weight ≡ None
        ends a e = let s = all_asked t weights V V' P W O F i j done un a e in let d = done a e s in ((S a).keeps s d.0 d.1).2 ∙ only_nothing (V a).held.best_weight d.2

    -- who wakes is of level 0
    kept_rise : (me b : ℕ) (k : Option ℕ) (z : Option ℕ) → (1 ≤ (V i).fragment.level → ⊥) → All (starts me b k z) → Ended V'
    kept_rise me b k z low S = within (starts me b k z) S (λ a o e l. absurd (low l))

  ended_got : (i j : ℕ) {m : Message} {g : Held} {os : List Send} {p q : List Message} → Edge t i j → Knows t i j (V i) (V j) p q → Mode i j (t.weight i j) (V i) (V j) p (control1 m ++ q) → (d : Deed t i (V i).held (got j m) g os) → ((a : ℕ) → Steps (turn d) (V i) (V j) (V a) (V' a)) → Ended V'
  ended_got i j l kj e (Absorbs c1) S = kept_take i j l (head_absorb c1 e) S
  ended_got i j l kj e (Merges c1 c2) S = elim (head_merge c1 c2 e) [ inl a ↦ kept_unite i j (t.weight i j) a S | inr u ↦ kept_calm i j (merge (t.weight i j)) (λ k. again_moves (V i).own.label (V j).own.label k u) (cond-true (eqb (V i).own.label (V j).own.label) (V i).fragment.level (suc (V i).held.level) (eqb_on (V i).own.label (V j).own.label u)) (cond-true (eqb (V i).own.label (V j).own.label) (V i).fragment.least undecided (eqb_on (V i).own.label (V j).own.label u)) S ]
  ended_got i j l kj e (Begins {f = f} c1) S = kept_calm i j (begin j (eqb (t.weight i j) f) false) (λ k. refl) refl refl S
  ended_got i j l kj e (Searches-ask {f = f} k c1) S = kept_calm i j (begin j (eqb (t.weight i j) f) false) (λ k. refl) refl refl S
  ended_got i j l kj e (Searches-report {f = f} c1 c2 c3) S = kept_calm i j (begin j (eqb (t.weight i j) f) true) (λ k. refl) refl refl S
  ended_got i j l kj e (Searches-wait {f = f} c1 c2) S = kept_calm i j (begin j (eqb (t.weight i j) f) false) (λ k. refl) refl refl S
  ended_got i j l kj e (Accepts c1 c2) S = kept_calm i j idle (λ k. refl) refl refl S
  ended_got i j l kj e (Rejects c1 c2 c3) S = kept_calm i j idle (λ k. refl) refl refl S
  ended_got i j l kj e (Crosses-ask k c1 c2 c3 c4) S = kept_calm i j idle (λ k. refl) refl refl S
  ended_got i j l kj e (Crosses-report c1 c2 c3 c4 c5 c6) S = kept_calm i j report (λ k. refl) refl refl S
  ended_got i j l kj e (Crosses-wait c1 c2 c3 c4 c5) S = kept_calm i j idle (λ k. refl) refl refl S
  ended_got i j l kj e (Accepted-report c1 c2) S = kept_calm i j report (λ k. refl) refl refl S
  ended_got i j l kj e (Accepted-wait c1) S = kept_calm i j idle (λ k. refl) refl refl S
  ended_got i j l kj e (Rejected-ask k c1) S = kept_calm i j idle (λ k. refl) refl refl S
  ended_got i j l kj e (Rejected-report c1 c2 c3) S = kept_calm i j report (λ k. refl) refl refl S
  ended_got i j l kj e (Rejected-wait c1 c2) S = kept_calm i j idle (λ k. refl) refl refl S
  ended_got i j l kj e (Hears-report c1 c2 c3) S = kept_calm i j report (λ k. refl) refl refl S
  ended_got i j l kj e (Hears-wait c1 c2) S = kept_calm i j idle (λ k. refl) refl refl S
  ended_got i j l kj e (Decides-passes {w = w} k c1 c2 c3 c4 c5) S = kept_settle i j i k (lighter_some (V i).held.best_weight w c3) S
  ended_got i j l kj e (Decides-joins {w = w} k c1 c2 c3 c4 c5) S = kept_settle i j i k (lighter_some (V i).held.best_weight w c3) S
  ended_got i j l kj e (Halts {w = w} c1 c2 c3 c4) S = let n = head_ends kj.same kj.mine c1 c2 (subst (λ r. lighter r (V i).held.best_weight ≡ false) (sym c4) refl) e in
      elim n.least [
        | inl un ↦ kept_end i j un (core_done t weights V P W i j None l n un c1 (subst (λ b. lighter b None ≡ false) (sym c3) refl) (subst (λ b. lighter b None ≡ false) (sym c4) refl)) S
        | inr y ↦ kept_calm i j end (λ k. refl) refl (sym y.0) S
      ]
  ended_got i j l kj e (Rests c1 c2 c3 c4) S = kept_calm i j idle (λ k. refl) refl refl S
  ended_got i j l kj e (Changed-passes k c1 c2) S = kept_calm i j (change i k) (λ k. refl) refl refl S
  ended_got i j l kj e (Changed-joins k c1 c2) S = kept_calm i j (change i k) (λ k. refl) refl refl S

  ended_woke : (i : ℕ) {g : Held} {os : List Send} → (1 ≤ (V i).fragment.level → ⊥) → (d : Deed t i (V i).held woke g os) → ((a : ℕ) → Steps (turn d) (V i) (V i) (V a) (V' a)) → Ended V'
  ended_woke i low (Alone c1) S = kept_rise i i i i None None low S
  ended_woke i low (WokeTo k c1) S = kept_rise i i i k (Some k) (Some (t.weight i k)) low S

-- THE THEOREM: each step keeps it
pub ended_kept : (t : Graph) (weights : Weights t) (n m : Lifted) (γ : Ghost) → Trust t n γ → Alones t n γ → Outward t (view n γ) → Finished (view n γ) → Ended (view n γ) → (s : Event t n m) → Ended (view m (next γ s))
ended_kept t weights n m γ T N O F D (act i woke g os c) = ended_woke t weights (view n γ) (view m (next γ (act i woke g os c))) (λ a b. control (n.way a b)) (world t weights n m γ T) O F D i (λ h. zero_not (ap (λ V. V.fragment.level) (N.sleepers i c.ready.awake).made) h) c.does
    (steps t weights n m γ T i c (stays_wakes (view n γ i) (view n γ i) ((T.good.helds i i i).sleeps c.ready.awake).2 c.does))
  where
    zero_not : {k : ℕ} → k ≡ 0 → 1 ≤ k → ⊥
    zero_not e h = omega arith
ended_kept t weights n m γ T N O F D (act i (got j x) g os c) = ended_got t weights (view n γ) (view m (next γ (act i (got j x) g os c))) (λ a b. control (n.way a b)) (world t weights n m γ T) O F D i j fj.0 (shorter x kj) ej c.does (steps t weights n m γ T j c (stays_acts (shorter x kj) fj.1 ej c.does))
  where
    rest : List Message
    rest = c.ready.source.0

    from : n.way j i ≡ x ∷ rest
    from = c.ready.source.1

    fj : Edge t i j × Suits x (view n γ i) (view n γ j)
    fj = T.rest.suits i j x rest from

    ej : Mode i j (t.weight i j) (view n γ i) (view n γ j) (control (n.way i j)) (control1 x ++ control rest)
    ej = subst (λ q. Mode i j (t.weight i j) (view n γ i) (view n γ j) (control (n.way i j)) (control q)) from (T.edges i j fj.0)

    kj : Knows t i j (view n γ i) (view n γ j) (control (n.way i j)) (control1 x ++ control rest)
    kj = subst (λ q. Knows t i j (view n γ i) (view n γ j) (control (n.way i j)) (control q)) from (T.rest.knows i j fj.0 c.ready.awake)
ended_kept t weights n m γ T N O F D (off i j x front back c) = λ a e l. (λ k. (c.helds a k).best_weight) ∙ D a e l
