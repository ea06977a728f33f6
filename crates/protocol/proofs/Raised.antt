-- A node has a parent once its level is at least 1, and an awake node's edge up is an edge of its own.
use Rattle.std.proofs.Common.{◌≡◌, ℕ, zero, suc, ◌<◌, ◌≤◌, true, false, eqb, ◌⊎◌, List, ◌∷◌, Some, None, sym, refl, ap, subst, inl, inr, arith}
use native.Mathlib.Decide.{dec_lt}
use Rattle.std.proofs.lemmas.Bool.Decides.{eqb_tells}
use Rattle.message.specs.declared.messages.Message.{Message}
use Rattle.message.specs.declared.messages.Message.TheVariants.{Connect, Initiate, Test, Accept, Reject, Report, Change}
use Rattle.node.specs.declared.state.Status.{Status}
use Rattle.node.specs.declared.state.Status.TheVariants.{Sleeping, Find, Found}
use Rattle.graph.specs.Graph.{Graph, Edge, Weights}
use Rattle.protocol.proofs.Asleep.{asleep, Alones, view_off}
use Rattle.protocol.proofs.Base.{Good}
use Rattle.protocol.proofs.Deed.{In, woke, got, Deed, Alone, WokeTo, Absorbs, Merges, Begins, Searches-ask, Searches-report, Searches-wait, Accepts, Rejects, Crosses-ask, Crosses-report, Crosses-wait, Accepted-report, Accepted-wait, Rejected-ask, Rejected-report, Rejected-wait, Hears-report, Hears-wait, Decides-passes, Decides-joins, Halts, Rests, Changed-passes, Changed-joins}
use Rattle.protocol.proofs.Edges.{Rest, Edges, first, next}
use Rattle.protocol.proofs.Frame.{start, Lifted, Act, Event, act, off}
use Rattle.protocol.proofs.Ghost.{Turn, Ghost, View, view, turn, follow, acted, stepped}
use Rattle.protocol.proofs.Held.{Send, Held}
use Rattle.protocol.proofs.LeastOutgoing.{Heavier}
use Rattle.protocol.proofs.LeastStep.{Trust}
use Rattle.protocol.proofs.Mode.{Sane}
use Rattle.protocol.proofs.Names.{Names, comes_of}
use Rattle.protocol.proofs.Views.{view_else, view_acted}

-- it has a parent if and only if its level is at least 1; and once it is awake and has an edge, its edge up is one
pub record Raised (t : Graph) (a : ℕ) (A : View) : Type 0 where
  pub rooted : ((A.held.parent ≡ None) × (A.held.level ≡ 0)) ⊎ ((y : ℕ) × ((A.held.parent ≡ Some y) × (1 ≤ A.held.level)))
  pub upward : (A.held.status ≡ Sleeping → ⊥) → (z : ℕ) → Edge t a z → (p : ℕ) × ((A.own.up ≡ Some p) × Edge t a p)

-- every node
abbrev pub Raises : Graph → Lifted → Ghost → Type 0
Raises t n γ = (a : ℕ) → Raised t a (view n γ a)

-- at first all sleep at level 0
pub raises_start : (t : Graph) → Raises t start first
raises_start t a = record { rooted = inl (refl, refl); upward = λ u z l. absurd (u refl) }

-- a turn of another leaves it alone
raised_else : {t : Graph} {a : ℕ} {B : View} (u : Turn) (A J : View) → Raised t a B → Raised t a (follow u A J B)
raised_else u A J r = record { rooted = r.rooted; upward = r.upward }

-- it wakes
raised_wakes : {t : Graph} {i : ℕ} {A : View} {g : Held} {os : List Send} → A ≡ asleep i → i < t.count → (d : Deed t i A.held woke g os) → Raised t i (acted (turn d) g A A)
raised_wakes e o (Alone c1) = record { rooted = inl (ap (λ V. V.held.parent) e, refl); upward = λ u z l. absurd (c1.nobody z l.1 l.2 refl) }
raised_wakes e o (WokeTo k c1) = record { rooted = inl (ap (λ V. V.held.parent) e, refl); upward = λ u z l. (k, (refl, (o, c1.inside, c1.line))) }

-- what is asked of a message: a word to begin has a level of at least 1
abbrev Begun : Message → Type 0
Begun (Connect l) = Unit {0}
Begun (Initiate l f s) = 1 ≤ l
Begun (Test l f) = Unit {0}
Begun Accept = Unit {0}
Begun Reject = Unit {0}
Begun (Report r) = Unit {0}
Begun Change = Unit {0}

-- it takes a message
raised_acts : {t : Graph} {i j : ℕ} {A : View} {m : Message} {g : Held} {os : List Send} (J : View) → (A.held.status ≡ Sleeping → ⊥) → Edge t i j → Begun m → ((k : ℕ) → A.held.best ≡ Some k → Edge t i k) → Raised t i A → (d : Deed t i A.held (got j m) g os) → Raised t i (acted (turn d) g A J)
raised_acts {j = j} J aw l b h r (Absorbs c1) = record { rooted = r.rooted; upward = λ u. r.upward aw }
raised_acts {j = j} J aw l b h r (Merges c1 c2) = record { rooted = r.rooted; upward = λ u. r.upward aw }
raised_acts {j = j} J aw l b h r (Begins c1) = record { rooted = inr (j, (refl, b)); upward = λ u z e. (j, (refl, l)) }
raised_acts {j = j} J aw l b h r (Searches-ask k c1) = record { rooted = inr (j, (refl, b)); upward = λ u z e. (j, (refl, l)) }
raised_acts {j = j} J aw l b h r (Searches-report c1 c2 c3) = record { rooted = inr (j, (refl, b)); upward = λ u z e. (j, (refl, l)) }
raised_acts {j = j} J aw l b h r (Searches-wait c1 c2) = record { rooted = inr (j, (refl, b)); upward = λ u z e. (j, (refl, l)) }
raised_acts {j = j} J aw l b h r (Accepts c1 c2) = record { rooted = r.rooted; upward = λ u. r.upward aw }
raised_acts {j = j} J aw l b h r (Rejects c1 c2 c3) = record { rooted = r.rooted; upward = λ u. r.upward aw }
raised_acts {j = j} J aw l b h r (Crosses-ask k c1 c2 c3 c4) = record { rooted = r.rooted; upward = λ u. r.upward aw }
raised_acts {j = j} J aw l b h r (Crosses-report c1 c2 c3 c4 c5 c6) = record { rooted = r.rooted; upward = λ u. r.upward aw }
raised_acts {j = j} J aw l b h r (Crosses-wait c1 c2 c3 c4 c5) = record { rooted = r.rooted; upward = λ u. r.upward aw }
raised_acts {j = j} J aw l b h r (Accepted-report c1 c2) = record { rooted = r.rooted; upward = λ u. r.upward aw }
raised_acts {j = j} J aw l b h r (Accepted-wait c1) = record { rooted = r.rooted; upward = λ u. r.upward aw }
raised_acts {j = j} J aw l b h r (Rejected-ask k c1) = record { rooted = r.rooted; upward = λ u. r.upward aw }
raised_acts {j = j} J aw l b h r (Rejected-report c1 c2 c3) = record { rooted = r.rooted; upward = λ u. r.upward aw }
raised_acts {j = j} J aw l b h r (Rejected-wait c1 c2) = record { rooted = r.rooted; upward = λ u. r.upward aw }
raised_acts {j = j} J aw l b h r (Hears-report c1 c2 c3) = record { rooted = r.rooted; upward = λ u. r.upward aw }
raised_acts {j = j} J aw l b h r (Hears-wait c1 c2) = record { rooted = r.rooted; upward = λ u. r.upward aw }
raised_acts {j = j} J aw l b h r (Decides-passes k c1 c2 c3 c4 c5) = record { rooted = r.rooted; upward = λ u z e. (k, (refl, h k c4)) }
raised_acts {j = j} J aw l b h r (Decides-joins k c1 c2 c3 c4 c5) = record { rooted = r.rooted; upward = λ u z e. (k, (refl, h k c4)) }
raised_acts {j = j} J aw l b h r (Halts c1 c2 c3 c4) = record { rooted = r.rooted; upward = λ u. r.upward aw }
raised_acts {j = j} J aw l b h r (Rests c1 c2 c3 c4) = record { rooted = r.rooted; upward = λ u. r.upward aw }
raised_acts {j = j} J aw l b h r (Changed-passes k c1 c2) = record { rooted = r.rooted; upward = λ u z e. (k, (refl, h k c1)) }
raised_acts {j = j} J aw l b h r (Changed-joins k c1 c2) = record { rooted = r.rooted; upward = λ u z e. (k, (refl, h k c1)) }

module _ (t : Graph) (weights : Weights t) where
  module _ (n m : Lifted) (γ : Ghost) (P : Good t n) (N : Names t n γ) (S : Alones t n γ) (R : Raises t n γ) where
    begun : (i j : ℕ) (x : Message) (rest : List Message) → n.way j i ≡ x ∷ rest → Begun x
    begun i j (Connect l) rest e = tt
    begun i j (Initiate l f s) rest e = (N.begins j i l f s (rw e (inl refl))).0
    begun i j (Test l f) rest e = tt
    begun i j Accept rest e = tt
    begun i j Reject rest e = tt
    begun i j (Report r) rest e = tt
    begun i j Change rest e = tt

    acts : {i : ℕ} {inp : In} {g : Held} {os : List Send} (j : ℕ) (c : Act t n m i inp g os) → Raised t i (acted (turn c.does) g (view n γ i) (view n γ j)) → Raises t m (stepped (turn c.does) i (view n γ i) (view n γ j) γ)
    acts {i} {inp} {g} {os} j c f a = elim (eqb_tells a i) [ inl s ↦ here s | inr s ↦ there s ]
      where
        G : Ghost
        G = stepped (turn c.does) i (view n γ i) (view n γ j) γ

        here : (eqb a i ≡ true) × (a ≡ i) → Raised t a (view m G a)
        here s = subst (λ x. Raised t x (view m G x)) (sym s.1) (subst (λ V. Raised t i V) (sym (view_acted (turn c.does) i (view n γ j) γ n m g c.self)) f)

        there : (eqb a i ≡ false) × (a ≡ i → ⊥) → Raised t a (view m G a)
        there s = subst (λ V. Raised t a V) (sym (view_else (turn c.does) i (view n γ i) (view n γ j) γ m a (n.held a) (c.others a s.1) s.1)) (raised_else (turn c.does) (view n γ i) (view n γ j) (R a))

    raises_of : (v : Event t n m) → Raises t m (next γ v)
    raises_of (act i woke g os c) = acts i c (raised_wakes {A = view n γ i} (S.sleepers i c.ready.awake).made c.ready.inside c.does)
    raises_of (act i (got j x) g os c) = acts j c (raised_acts {A = view n γ i} (view n γ j) c.ready.awake (comes_of t weights n P i j x c.ready.source.0 c.ready.source.1) (begun i j x c.ready.source.0 c.ready.source.1) (λ k e. (P.helds i k k).best e) (R i) c.does)
    raises_of (off i j x front back c) = λ a. subst (λ V. Raised t a V) (sym (view_off γ c a)) (R a)

  -- THE THEOREM: each step keeps what is said of parents and edges up
  pub raises_step : (n m : Lifted) (γ : Ghost) → Good t n → Names t n γ → Alones t n γ → Raises t n γ → (v : Event t n m) → Raises t m (next γ v)
  raises_step n m γ P N S R v = raises_of n m γ P N S R v

-- whether node a has a neighbour below k
neighbour : (t : Graph) (a k : ℕ) → ((y : ℕ) × ((y < k) × (1 ≤ t.weight a y))) ⊎ ((y : ℕ) → y < k → 1 ≤ t.weight a y → ⊥)
neighbour t a zero = inr (λ y u v. omega arith)
neighbour t a (suc k) = go (neighbour t a k)
  where
    last : ((y : ℕ) → y < k → 1 ≤ t.weight a y → ⊥) → (1 ≤ t.weight a k → ⊥) → (y : ℕ) → y < suc k → 1 ≤ t.weight a y → ⊥
    last f u y o v = elim (eqb_tells y k) [ inl e ↦ u (subst (λ x. 1 ≤ t.weight a x) e.1 v) | inr d ↦ let z = d.1 in f y (omega arith) v ]

    go : ((y : ℕ) × ((y < k) × (1 ≤ t.weight a y))) ⊎ ((y : ℕ) → y < k → 1 ≤ t.weight a y → ⊥) → ((y : ℕ) × ((y < suc k) × (1 ≤ t.weight a y))) ⊎ ((y : ℕ) → y < suc k → 1 ≤ t.weight a y → ⊥)
    go (inl (y, (u, v))) = inl (y, (omega arith, v))
    go (inr f) = elim (dec_lt 0 (t.weight a k)) [ yes v ↦ inl (k, (omega arith, omega arith)) | no u ↦ inr (last f (λ v. u (omega arith))) ]

-- a node is asleep, or awake with an edge, or awake and without one
pub data Kind (t : Graph) (a : ℕ) (h : Held) : Type 0 where
  sleeping : h.status ≡ Sleeping → Kind t a h
  linked : (y : ℕ) → Edge t a y → (h.status ≡ Sleeping → ⊥) → Kind t a h
  lonely : ((y : ℕ) → Edge t a y → ⊥) → (h.status ≡ Sleeping → ⊥) → Kind t a h

-- each node is one of these
pub kind : (t : Graph) (a : ℕ) (h : Held) → Kind t a h
kind t a h = go h.status refl
  where
    edge : (h.status ≡ Sleeping → ⊥) → (a < t.count) → ((y : ℕ) × ((y < t.count) × (1 ≤ t.weight a y))) ⊎ ((y : ℕ) → y < t.count → 1 ≤ t.weight a y → ⊥) → Kind t a h
    edge u o (inl (y, (v, w))) = linked y (o, v, w) u
    edge u o (inr f) = lonely (λ y l. f y l.1 l.2) u

    awake : (h.status ≡ Sleeping → ⊥) → Kind t a h
    awake u = elim (dec_lt a t.count) [ yes o ↦ edge u o (neighbour t a t.count) | no o ↦ lonely (λ y l. o l.0) u ]

    go : (s : Status) → h.status ≡ s → Kind t a h
    go Sleeping e = sleeping e
    go Find e = awake (λ u. grind arith)
    go Found e = awake (λ u. grind arith)

module _ (t : Graph) (n : Lifted) (γ : Ghost) (S : Alones t n γ) where
  zero_not : {k : ℕ} → k ≡ 0 → 1 ≤ k → ⊥
  zero_not e h = omega arith

  -- a node of a fragment of level 1 or more is awake and has an edge
  pub linked_of : (a : ℕ) → 1 ≤ (view n γ a).fragment.level → ((n.held a).status ≡ Sleeping → ⊥) × ((y : ℕ) × Edge t a y)
  linked_of a h = go (kind t a (n.held a))
    where
      go : Kind t a (n.held a) → ((n.held a).status ≡ Sleeping → ⊥) × ((y : ℕ) × Edge t a y)
      go (sleeping u) = absurd (zero_not (ap (λ V. V.fragment.level) (S.sleepers a u).made) h)
      go (linked y l u) = (u, (y, l))
      go (lonely f u) = absurd (zero_not (ap (λ V. V.fragment.level) (S.hermits a u f).made) h)

  -- no node is above its fragment
  pub low_of : ((a y : ℕ) → Edge t a y → Sane y (view n γ a)) → (a : ℕ) → (n.held a).level ≤ (view n γ a).fragment.level
  low_of N a = go (kind t a (n.held a))
    where
      zeros : {k l : ℕ} → k ≡ 0 → k ≤ l
      zeros e = omega arith

      go : Kind t a (n.held a) → (n.held a).level ≤ (view n γ a).fragment.level
      go (sleeping u) = zeros (ap (λ V. V.held.level) (S.sleepers a u).made)
      go (linked y l u) = (N a y l).low
      go (lonely f u) = zeros (ap (λ V. V.held.level) (S.hermits a u f).made)

  -- a node of a fragment of level 1 or more has an edge up
  pub ups_of : Raises t n γ → (a : ℕ) → 1 ≤ (view n γ a).fragment.level → (p : ℕ) × (((γ.own a).up ≡ Some p) × Edge t a p)
  ups_of R a h = let k = linked_of a h in (R a).upward k.0 k.1.0 k.1.1

-- who has a parent is above level 0
pub risen_of : (t : Graph) (n : Lifted) (γ : Ghost) → Raises t n γ → (a y : ℕ) → (n.held a).parent ≡ Some y → 1 ≤ (n.held a).level
risen_of t n γ R a y e = elim (R a).rooted [ inl u ↦ absurd (let o = u.0 in grind arith) | inr u ↦ u.1.1 ]

-- who is above level 0 has a parent
pub raised_of : (t : Graph) (n : Lifted) (γ : Ghost) → Raises t n γ → (a : ℕ) → 1 ≤ (n.held a).level → (y : ℕ) × ((n.held a).parent ≡ Some y)
raised_of t n γ R a h = elim (R a).rooted [ inl u ↦ absurd (let o = u.1 in omega arith) | inr u ↦ (u.0, u.1.0) ]

-- who is current and does not seek has reported if and only if it was asked
pub answers_of : (t : Graph) (n : Lifted) (γ : Ghost) → Good t n → ((a y : ℕ) → Edge t a y → Sane y (view n γ a)) → Raises t n γ → (a : ℕ) → (view n γ a).held.level ≡ (view n γ a).fragment.level → ((n.held a).status ≡ Find → ⊥) → 1 ≤ (n.held a).level → (γ.own a).in_search ≡ (γ.own a).reported
answers_of t n γ P N R a c f h = let k = raised_of t n γ R a h in (N a k.0 ((P.helds a k.0 k.0).parent k.1)).settles k.1 c f

-- so what the lightest edge out assumes of parents, answers and edges up holds
pub trust_of : (t : Graph) (n : Lifted) (γ : Ghost) → Good t n → Rest t n γ → Edges t n γ → ((a y : ℕ) → Edge t a y → Heavier y (t.weight a y) (view n γ a)) → ((a : ℕ) → ((n.held a).testing ≡ None) ⊎ ((n.held a).status ≡ Find)) → Alones t n γ → Raises t n γ → Trust t n γ
trust_of t n γ P Q E H K S R = record { good = P; rest = Q; edges = E; heavier = H; answers = answers_of t n γ P Q.sane R; asks = K; risen = risen_of t n γ R; ups = ups_of t n γ S R }
