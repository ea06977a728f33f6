-- Nodes that nothing has happened to: those that sleep, and those that have woken and have no edge.
use Rattle.std.proofs.Common.{◌≡◌, ℕ, ◌+◌, ◌<◌, Bool, true, false, cond, ◌||◌, eqb, List, [], ◌∷◌, None, sym, refl, ap, ◌∙◌, subst, inl, inr, arith}
use Rattle.std.proofs.lemmas.Bool.Decides.{eqb_tells}
use Rattle.message.specs.declared.messages.Message.{Message}
use Rattle.node.specs.declared.state.Status.TheVariants.{Sleeping}
use Rattle.graph.specs.declared.mark.Mark.TheVariants.{Basic}
use Rattle.graph.specs.Graph.{Graph, Edge, Weights}
use Rattle.protocol.proofs.Base.{Good}
use Rattle.protocol.proofs.Deed.{woke, In, got, Deed, Alone, WokeTo, Absorbs, Merges, Begins, Searches-ask, Searches-report, Searches-wait, Accepts, Rejects, Crosses-ask, Crosses-report, Crosses-wait, Accepted-report, Accepted-wait, Rejected-ask, Rejected-report, Rejected-wait, Hears-report, Hears-wait, Decides-passes, Decides-joins, Halts, Rests, Changed-passes, Changed-joins}
use Rattle.protocol.proofs.Deeds.{Fresh}
use Rattle.protocol.proofs.Edges.{first, next, apart, turned}
use Rattle.protocol.proofs.Outs.{out_to}
use Rattle.protocol.proofs.Frame.{Lifted, start, Awake, Act, Off, Event, act, off}
use Rattle.protocol.proofs.Ghost.{Turn, decided, Ghost, View, view, idle, starts, absorb, merge, begin, report, decide, change, end, turn, moves, enters, rises, fragments, follow, acted, stepped}
use Rattle.protocol.proofs.Held.{Send, Held, bare, woken_held}
use Rattle.protocol.proofs.Names.{comes_of}
use Rattle.protocol.proofs.Queues.{Has}
use Rattle.protocol.proofs.Views.{view_else, view_acted}

-- node b is as V says, has sent nothing, and is alone under its label
pub record Solo (n : Lifted) (γ : Ghost) (b : ℕ) (V : View) : Type 0 where
  pub made : view n γ b ≡ V
  pub silent : (y : ℕ) → n.way b y ≡ []
  pub lone : (a : ℕ) → (a ≡ b → ⊥) → (γ.own a).label ≡ (γ.own b).label → ⊥

-- node i as it is made, and its fragment
abbrev pub asleep : ℕ → View
asleep i = record { held = bare; own = first.own i; fragment = first.fragment i }

-- node i once it has woken and found no edge
abbrev pub isolated : ℕ → View
isolated i = record { held = woken_held true (λ j. Basic) bare; own = record { label = i; up = None; changed = true; reported = false; in_search = true; rank = 1 }; fragment = record { level = 0; name = 0; least = decided None; sends = i; gets = i } }

-- who sleeps is as it was made; who is awake and has no edge has halted, alone
pub record Alones (t : Graph) (n : Lifted) (γ : Ghost) : Type 0 where
  pub sleepers : (i : ℕ) → (n.held i).status ≡ Sleeping → Solo n γ i (asleep i)
  pub hermits : (i : ℕ) → ((n.held i).status ≡ Sleeping → ⊥) → ((y : ℕ) → Edge t i y → ⊥) → Solo n γ i (isolated i)

-- at first all sleep
pub alones_start : (t : Graph) → Alones t start first
alones_start t = record { sleepers = λ i u. record { made = refl; silent = λ y. refl; lone = λ a d e. d e }; hermits = λ i u v. absurd (u refl) }

empty : (q : List Message) → ((x : Message) → Has q x → ⊥) → q ≡ []
empty [] f = refl
empty (x ∷ q) f = absurd (f x (inl refl))

nothing : {q : List Message} (x : Message) → q ≡ [] → Has q x → ⊥
nothing {q} x e h = subst (λ r. Has r x) e h

-- whom a turn does not move
moves_none : (u : Turn) (A J : View) (l : ℕ) → (l ≡ A.own.label → ⊥) → (l ≡ J.own.label → ⊥) → (moves u A J l ≡ false) × (rises u A J l ≡ 0)
moves_none idle A J l a j = (refl, refl)
moves_none (starts me b k z) A J l a j = (refl, refl)
moves_none absorb A J l a j = let e : eqb l J.own.label ≡ false = grind arith in (e, rw e)
moves_none (merge w) A J l a j = (grind arith, refl)
moves_none (begin x c r) A J l a j = (refl, refl)
moves_none report A J l a j = (refl, refl)
moves_none (decide me k) A J l a j = let e : eqb l A.own.label ≡ false = grind arith in (refl, rw e)
moves_none (change me k) A J l a j = let e : eqb l A.own.label ≡ false = grind arith in (refl, rw e)
moves_none end A J l a j = (refl, refl)

plus_none : (x y : ℕ) → y ≡ 0 → x + y ≡ x
plus_none x y e = omega arith

-- who is of no fragment that a turn touches stays as it is
pub follow_apart : (u : Turn) (A J B : View) → (B.own.label ≡ A.own.label → ⊥) → (B.own.label ≡ J.own.label → ⊥) → follow u A J B ≡ B
follow_apart u A J B a j =
    λ k. record {
      held = B.held;
      own = record { label = label k; up = B.own.up; changed = B.own.changed; reported = B.own.reported; in_search = in_search k; rank = plus_none B.own.rank (rises u A J B.own.label) z.1 k };
      fragment = record { level = out (fragments u A J).level B.fragment.level k; name = out (fragments u A J).name B.fragment.name k; least = out (fragments u A J).least B.fragment.least k; sends = out (fragments u A J).sends B.fragment.sends k; gets = out (fragments u A J).gets B.fragment.gets k };
    }
  where
    z : (moves u A J B.own.label ≡ false) × (rises u A J B.own.label ≡ 0)
    z = moves_none u A J B.own.label a j

    n : eqb B.own.label A.own.label ≡ false
    n = grind arith

    label : cond (moves u A J B.own.label) A.own.label B.own.label ≡ B.own.label
    label = rw z.0

    in_search : cond (moves u A J B.own.label) (enters u A) B.own.in_search ≡ B.own.in_search
    in_search = rw z.0

    out : {V : Type 0} (v w : V) → cond (eqb B.own.label A.own.label || moves u A J B.own.label) v w ≡ w
    out v w = rw (n, z.0)

-- who is awake stays awake
pub awakes : {t : Graph} {i : ℕ} {h g : Held} {inp : In} {os : List Send} → Awake h inp → Deed t i h inp g os → g.status ≡ Sleeping → ⊥
awakes aw (Alone c1) u = grind arith
awakes aw (WokeTo k c1) u = grind arith
awakes aw (Absorbs {j} {l} c1) u = aw u
awakes aw (Merges {j} {l} c1 c2) u = aw u
awakes aw (Begins {j} {l} {f} {s} c1) u = grind arith
awakes aw (Searches-ask {j} {l} {f} k c1) u = grind arith
awakes aw (Searches-report {j} {l} {f} c1 c2 c3) u = grind arith
awakes aw (Searches-wait {j} {l} {f} c1 c2) u = grind arith
awakes aw (Accepts {j} {l} {f} c1 c2) u = aw u
awakes aw (Rejects {j} {l} {f} c1 c2 c3) u = aw u
awakes aw (Crosses-ask {j} {l} {f} k c1 c2 c3 c4) u = aw u
awakes aw (Crosses-report {j} {l} {f} c1 c2 c3 c4 c5 c6) u = grind arith
awakes aw (Crosses-wait {j} {l} {f} c1 c2 c3 c4 c5) u = aw u
awakes aw (Accepted-report {j} c1 c2) u = grind arith
awakes aw (Accepted-wait {j} c1) u = aw u
awakes aw (Rejected-ask {j} k c1) u = aw u
awakes aw (Rejected-report {j} c1 c2 c3) u = grind arith
awakes aw (Rejected-wait {j} c1 c2) u = aw u
awakes aw (Hears-report {j} {w} c1 c2 c3) u = grind arith
awakes aw (Hears-wait {j} {w} c1 c2) u = aw u
awakes aw (Decides-passes {j} {w} k c1 c2 c3 c4 c5) u = aw u
awakes aw (Decides-joins {j} {w} k c1 c2 c3 c4 c5) u = aw u
awakes aw (Halts {j} {w} c1 c2 c3 c4) u = aw u
awakes aw (Rests {j} {w} c1 c2 c3 c4) u = aw u
awakes aw (Changed-passes {j} k c1 c2) u = aw u
awakes aw (Changed-joins {j} k c1 c2) u = aw u

still_apart : (p q : Bool) (k x y : ℕ) → q ≡ false → (k ≡ y → ⊥) → (x ≡ y → ⊥) → cond p k x ≡ cond q k y → ⊥
still_apart true q k x y u a b e = a (e ∙ rw u)
still_apart false q k x y u a b e = b (e ∙ rw u)

-- to wake moves nobody
wake_moves : {t : Graph} {i : ℕ} {h g : Held} {os : List Send} (d : Deed t i h woke g os) (A J : View) (l : ℕ) → moves (turn d) A J l ≡ false
wake_moves (Alone c1) A J l = refl
wake_moves (WokeTo k c1) A J l = refl

alone_view : (i : ℕ) (A : View) → A ≡ asleep i → acted (starts i i None None) (woken_held true A.held.mark A.held) A A ≡ isolated i
alone_view i A e = subst (λ B. acted (starts i i None None) (woken_held true B.held.mark B.held) B B ≡ isolated i) (sym e) done
  where
    self : eqb i i ≡ true
    self = grind arith

    done : acted (starts i i None None) (woken_held true (λ j. Basic) bare) (asleep i) (asleep i) ≡ isolated i
    done = rw self

-- one without an edge wakes
wake_view : {t : Graph} {i : ℕ} {A : View} {g : Held} {os : List Send} → A ≡ asleep i → i < t.count → ((y : ℕ) → Edge t i y → ⊥) → (d : Deed t i A.held woke g os) → acted (turn d) g A A ≡ isolated i
wake_view {t} {i} {A} e o none (Alone c1) = alone_view i A e
wake_view {t} {i} {A} e o none (WokeTo k c1) = absurd (none k (o, c1.inside, c1.line))

wake_sends : {t : Graph} {i : ℕ} {h g : Held} {os : List Send} → i < t.count → ((y : ℕ) → Edge t i y → ⊥) → Deed t i h woke g os → (y : ℕ) (x : Message) → Has (out_to y os) x → ⊥
wake_sends o none (Alone c1) y x u = u
wake_sends o none (WokeTo k c1) y x u = none k (o, c1.inside, c1.line)

-- to put off a message changes no node
pub view_off : {t : Graph} {n m : Lifted} {i j : ℕ} {x : Message} {front back : List Message} (γ : Ghost) → Off t n m i j x front back → (a : ℕ) → view m γ a ≡ view n γ a
view_off γ c a = λ k. record { held = c.helds a k; own = γ.own a; fragment = γ.fragment (γ.own a).label }

module _ (t : Graph) (n m : Lifted) (γ : Ghost) where
  -- b neither acts nor has sent what is taken
  solo_kept : {i : ℕ} {inp : In} {g : Held} {os : List Send} (j : ℕ) (c : Act t n m i inp g os) (b : ℕ) (V : View) → (b ≡ i → ⊥) → (b ≡ j → ⊥) → Solo n γ b V → Solo m (stepped (turn c.does) i (view n γ i) (view n γ j) γ) b V
  solo_kept {i} {inp} {g} {os} j c b V ni nj S = record { made = view_else u i A J γ m b (n.held b) (c.others b ni) ni ∙ follow_apart u A J (view n γ b) away from ∙ S.made; silent = silent; lone = lone }
    where
      u : Turn
      u = turn c.does

      A : View
      A = view n γ i

      J : View
      J = view n γ j

      away : (γ.own b).label ≡ (γ.own i).label → ⊥
      away e = S.lone i (λ z. ni (sym z)) (sym e)

      from : (γ.own b).label ≡ (γ.own j).label → ⊥
      from e = S.lone j (λ z. nj (sym z)) (sym e)

      silent : (y : ℕ) → m.way b y ≡ []
      silent y = empty (m.way b y) (λ x h. elim (c.came b y x h) [ inl k ↦ nothing x (S.silent y) k | inr k ↦ ni k.0 ])

      lone : (a : ℕ) → (a ≡ b → ⊥) → cond (moves u A J (γ.own a).label) A.own.label (γ.own a).label ≡ cond (moves u A J (γ.own b).label) A.own.label (γ.own b).label → ⊥
      lone a d e = still_apart (moves u A J (γ.own a).label) (moves u A J (γ.own b).label) A.own.label (γ.own a).label (γ.own b).label (moves_none u A J (γ.own b).label away from).0 (λ z. away (sym z)) (S.lone a d) e

  -- one without an edge wakes
  solo_woken : {i : ℕ} {g : Held} {os : List Send} (c : Act t n m i woke g os) → ((y : ℕ) → Edge t i y → ⊥) → Solo n γ i (asleep i) → Solo m (stepped (turn c.does) i (view n γ i) (view n γ i) γ) i (isolated i)
  solo_woken {i} {g} {os} c none S = record { made = view_acted (turn c.does) i (view n γ i) γ n m g c.self ∙ wake_view {A = view n γ i} S.made c.ready.inside none c.does; silent = silent; lone = lone }
    where
      A : View
      A = view n γ i

      silent : (y : ℕ) → m.way i y ≡ []
      silent y = empty (m.way i y) (λ x h. elim (c.came i y x h) [ inl k ↦ nothing x (S.silent y) k | inr k ↦ wake_sends c.ready.inside none c.does y x k.1 ])

      lone : (a : ℕ) → (a ≡ i → ⊥) → cond (moves (turn c.does) A A (γ.own a).label) A.own.label (γ.own a).label ≡ cond (moves (turn c.does) A A (γ.own i).label) A.own.label (γ.own i).label → ⊥
      lone a d e = S.lone a d (rw (wake_moves c.does A A (γ.own a).label, wake_moves c.does A A (γ.own i).label) at e)

  solo_off : {i j : ℕ} {x : Message} {front back : List Message} (c : Off t n m i j x front back) (b : ℕ) (V : View) → Solo n γ b V → Solo m γ b V
  solo_off c b V S = record { made = view_off γ c b ∙ S.made; silent = λ y. empty (m.way b y) (λ x h. nothing x (S.silent y) (c.came b y x h)); lone = S.lone }

module _ (t : Graph) (weights : Weights t) where
  module _ (n m : Lifted) (γ : Ghost) (P : Good t n) (S : Alones t n γ) where
    was : {i : ℕ} {inp : In} {g : Held} {os : List Send} (c : Act t n m i inp g os) (b : ℕ) → (b ≡ i → ⊥) → ((m.held b).status ≡ Sleeping → (n.held b).status ≡ Sleeping) × ((n.held b).status ≡ Sleeping → (m.held b).status ≡ Sleeping)
    was c b d = let e = ap (λ h. h.status) (c.others b d) in (λ u. sym e ∙ u, λ u. e ∙ u)

    acts : {i : ℕ} {inp : In} {g : Held} {os : List Send} (j : ℕ) (c : Act t n m i inp g os) → ((b : ℕ) → (b ≡ i → ⊥) → (n.held b).status ≡ Sleeping → b ≡ j → ⊥) → ((b : ℕ) → (b ≡ i → ⊥) → ((y : ℕ) → Edge t b y → ⊥) → b ≡ j → ⊥) →
        (((y : ℕ) → Edge t i y → ⊥) → Solo m (stepped (turn c.does) i (view n γ i) (view n γ j) γ) i (isolated i)) → Alones t m (stepped (turn c.does) i (view n γ i) (view n γ j) γ)
    acts {i} {inp} {g} {os} j c f h w = record { sleepers = sleepers; hermits = hermits }
      where
        sleepers : (b : ℕ) → (m.held b).status ≡ Sleeping → Solo m (stepped (turn c.does) i (view n γ i) (view n γ j) γ) b (asleep b)
        sleepers b u = elim (eqb_tells b i) [ inl e ↦ absurd (awakes c.ready.awake c.does (sym (ap (λ z. z.status) c.self) ∙ ap (λ z. (m.held z).status) (sym e.1) ∙ u)) | inr e ↦ let s = (was c b e.1).0 u in solo_kept t n m γ j c b (asleep b) e.1 (f b e.1 s) (S.sleepers b s) ]

        hermits : (b : ℕ) → ((m.held b).status ≡ Sleeping → ⊥) → ((y : ℕ) → Edge t b y → ⊥) → Solo m (stepped (turn c.does) i (view n γ i) (view n γ j) γ) b (isolated b)
        hermits b u none = elim (eqb_tells b i) [ inl e ↦ subst (λ z. Solo m (stepped (turn c.does) i (view n γ i) (view n γ j) γ) z (isolated z)) (sym e.1) (w (subst (λ z. (y : ℕ) → Edge t z y → ⊥) e.1 none)) | inr e ↦ solo_kept t n m γ j c b (isolated b) e.1 (h b e.1 none) (S.hermits b (λ s. u ((was c b e.1).1 s)) none) ]

    alones_of : (v : Event t n m) → Alones t m (next γ v)
    alones_of (act i woke g os c) = acts i c (λ b d s. d) (λ b d s. d) (λ none. solo_woken t n m γ c none (S.sleepers i c.ready.awake))
    alones_of (act i (got j x) g os c) = acts j c sent edge (λ none. absurd (none j came))
      where
        came : Edge t i j
        came = comes_of t weights n P i j x c.ready.source.0 c.ready.source.1

        sent : (b : ℕ) → (b ≡ i → ⊥) → (n.held b).status ≡ Sleeping → b ≡ j → ⊥
        sent b d s e = nothing x ((S.sleepers b s).silent i) (subst (λ z. Has (n.way z i) x) (sym e) (rw c.ready.source.1 (inl refl)))

        edge : (b : ℕ) → (b ≡ i → ⊥) → ((y : ℕ) → Edge t b y → ⊥) → b ≡ j → ⊥
        edge b d none e = none i (subst (λ z. Edge t z i) (sym e) (turned t weights i j came))
    alones_of (off i j x front back c) = record { sleepers = λ b u. solo_off t n m γ c b (asleep b) (S.sleepers b (sym (ap (λ h. h.status) (c.helds b)) ∙ u)); hermits = λ b u none. solo_off t n m γ c b (isolated b) (S.hermits b (λ s. u (ap (λ h. h.status) (c.helds b) ∙ s)) none) }

  -- THE THEOREM: each step leaves those who sleep, and those without an edge, alone
  pub alones_step : (n m : Lifted) (γ : Ghost) → Good t n → Alones t n γ → (v : Event t n m) → Alones t m (next γ v)
  alones_step n m γ P S v = alones_of n m γ P S v

  -- what waking asks of a node that sleeps
  pub fresh_of : (n : Lifted) (γ : Ghost) → Alones t n γ → (i y : ℕ) → (n.held i).status ≡ Sleeping → Edge t i y → Fresh y (view n γ i) (view n γ y)
  fresh_of n γ S i y u l = let s = S.sleepers i u in record { level = ap (λ V. V.held.level) s.made; fragment = ap (λ V. V.fragment.level) s.made; mark = ap (λ V. V.held.mark y) s.made; differ = λ e. s.lone y (λ z. apart t weights i y l (sym z)) (sym e) }

  -- nobody else has the label of a node that sleeps
  pub lone_of : (n : Lifted) (γ : Ghost) → Alones t n γ → (i a : ℕ) → (n.held i).status ≡ Sleeping → (a ≡ i → ⊥) → (γ.own a).label ≡ (γ.own i).label → ⊥
  lone_of n γ S i a u = (S.sleepers i u).lone a
