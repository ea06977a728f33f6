-- An awake node of level 0: its one branch is its lightest edge, over which it asks to connect.
use Rattle.std.proofs.Common.{◌≡◌, ℕ, ◌<◌, ◌≤◌, true, false, eqb, ◌⊎◌, List, ◌∷◌, ◌++◌, Some, None, sym, refl, ap, ◌∙◌, subst, inl, inr, arith}
use Rattle.std.proofs.lemmas.Bool.Decides.{eqb_tells}
use Rattle.message.specs.declared.messages.Message.{Message}
use Rattle.message.specs.declared.messages.Message.TheVariants.{Connect, Initiate, Test, Accept, Reject, Report, Change}
use Rattle.node.specs.declared.state.Status.TheVariants.{Sleeping, Find}
use Rattle.graph.specs.declared.mark.Mark.TheVariants.{Basic, Branch}
use Rattle.graph.specs.Graph.{Graph, Edge, Weights}
use Rattle.protocol.proofs.Asked.{talk_asked}
use Rattle.protocol.proofs.Asleep.{asleep, Alones, view_off}
use Rattle.protocol.proofs.Base.{Good}
use Rattle.protocol.proofs.Control.{control1, control}
use Rattle.protocol.proofs.Deed.{woke, In, got, Deed, Alone, WokeTo, Absorbs, Merges, Begins, Searches-ask, Searches-report, Searches-wait, Accepts, Rejects, Crosses-ask, Crosses-report, Crosses-wait, Accepted-report, Accepted-wait, Rejected-ask, Rejected-report, Rejected-wait, Hears-report, Hears-wait, Decides-passes, Decides-joins, Halts, Rests, Changed-passes, Changed-joins}
use Rattle.protocol.proofs.Edges.{Edges, first, next}
use Rattle.protocol.proofs.Frame.{Lifted, start, Act, Off, Event, act, off}
use Rattle.protocol.proofs.Ghost.{Turn, Ghost, View, view, merge, turn, follow, acted, stepped}
use Rattle.protocol.proofs.Heads.{head_change, head_hears}
use Rattle.protocol.proofs.Held.{Send, Held, put}
use Rattle.protocol.proofs.Mode.{Mode}
use Rattle.protocol.proofs.Names.{Names, comes_of}
use Rattle.protocol.proofs.Questions.{Talks, talk_own, talk_tests}
use Rattle.protocol.proofs.Talk.{asks1, replies1, asks, replies, Talk, asks_seeks}
use Rattle.protocol.proofs.Views.{view_else, view_acted}

pub record Zero (t : Graph) (i : ℕ) (A : View) : Type 0 where
  pub to : ℕ
  pub edge : Edge t i to
  pub least : (y : ℕ) → Edge t i y → t.weight i to ≤ t.weight i y
  pub up : A.own.up ≡ Some to
  pub branch : A.held.mark to ≡ Branch
  pub only : (y : ℕ) → (y ≡ to → ⊥) → A.held.mark y ≡ Basic
  pub parent : A.held.parent ≡ None
  pub best : A.held.best ≡ None
  pub long : A.held.best_weight ≡ None
  pub changed : A.own.changed ≡ true

-- every awake node of level 0 that has an edge
abbrev pub Zeros : Graph → Lifted → Ghost → Type 0
Zeros t n γ = (i y : ℕ) → Edge t i y → ((n.held i).status ≡ Sleeping → ⊥) → (n.held i).level ≡ 0 → Zero t i (view n γ i)

-- at first nobody is awake
pub zeros_start : (t : Graph) → Zeros t start first
zeros_start t i y l u e = absurd (u refl)

-- a turn of another leaves it alone
zero_else : {t : Graph} {i : ℕ} {B : View} (u : Turn) (A J : View) → Zero t i B → Zero t i (follow u A J B)
zero_else u A J z = record { to = z.to; edge = z.edge; least = z.least; up = z.up; branch = z.branch; only = z.only; parent = z.parent; best = z.best; long = z.long; changed = z.changed }

-- it wakes
zero_wakes : {t : Graph} {i : ℕ} {A : View} {g : Held} {os : List Send} → A ≡ asleep i → i < t.count → (y : ℕ) → Edge t i y → (d : Deed t i A.held woke g os) → Zero t i (acted (turn d) g A A)
zero_wakes e o y l (Alone c1) = absurd (c1.nobody y l.1 l.2 refl)
zero_wakes {t} {i} {A} e o y l (WokeTo k c1) = record { to = k; edge = (o, c1.inside, c1.line); least = λ x u. c1.least x u.1 u.2 refl; up = refl; branch = self; only = other; parent = ap (λ V. V.held.parent) e; best = ap (λ V. V.held.best) e; long = ap (λ V. V.held.best_weight) e; changed = refl }
  where
    self : put k Branch A.held.mark k ≡ Branch
    self = grind arith

    other : (x : ℕ) → (x ≡ k → ⊥) → put k Branch A.held.mark x ≡ Basic
    other x d = let m : A.held.mark x ≡ Basic = ap (λ V. V.held.mark x) e in grind arith

-- a message that reaches such a node: at level 0 only a connect is taken, or a word to begin, which ends it
abbrev High : ℕ → Message → Held → Type 0
High j (Connect l) h = Unit {0}
High j (Initiate l f s) h = 1 ≤ l
High j (Test l f) h = (1 ≤ l) ⊎ (1 ≤ h.level)
High j Accept h = 1 ≤ h.level
High j Reject h = 1 ≤ h.level
High j (Report r) h = (h.parent ≡ Some j → ⊥) → 1 ≤ h.level
High j Change h = h.parent ≡ Some j

zero_acts : {t : Graph} {i j : ℕ} {A : View} {m : Message} {g : Held} {os : List Send} (J : View) → (A.held.level ≡ 0 → Zero t i A) → High j m A.held → (d : Deed t i A.held (got j m) g os) → g.level ≡ 0 → Zero t i (acted (turn d) g A J)
zero_acts {t} {i} {j} {A} J z b (Absorbs {l} c1) e = absurd (grind arith)
zero_acts {t} {i} {j} {A} J z b (Merges {l} c1 c2) e = zero_else (merge (t.weight i j)) A J (z e)
zero_acts {t} {i} {j} {A} J z b (Begins {l} {f} {s} c1) e = absurd (grind arith)
zero_acts {t} {i} {j} {A} J z b (Searches-ask {l} {f} k c1) e = absurd (grind arith)
zero_acts {t} {i} {j} {A} J z b (Searches-report {l} {f} c1 c2 c3) e = absurd (grind arith)
zero_acts {t} {i} {j} {A} J z b (Searches-wait {l} {f} c1 c2) e = absurd (grind arith)
zero_acts {t} {i} {j} {A} J z b (Accepts {l} {f} c1 c2) e = absurd (elim b [ inl o ↦ grind arith | inr o ↦ grind arith ])
zero_acts {t} {i} {j} {A} J z b (Rejects {l} {f} c1 c2 c3) e = absurd (elim b [ inl o ↦ grind arith | inr o ↦ grind arith ])
zero_acts {t} {i} {j} {A} J z b (Crosses-ask {l} {f} k c1 c2 c3 c4) e = absurd (elim b [ inl o ↦ grind arith | inr o ↦ grind arith ])
zero_acts {t} {i} {j} {A} J z b (Crosses-report {l} {f} c1 c2 c3 c4 c5 c6) e = absurd (elim b [ inl o ↦ grind arith | inr o ↦ grind arith ])
zero_acts {t} {i} {j} {A} J z b (Crosses-wait {l} {f} c1 c2 c3 c4 c5) e = absurd (elim b [ inl o ↦ grind arith | inr o ↦ grind arith ])
zero_acts {t} {i} {j} {A} J z b (Accepted-report c1 c2) e = absurd (grind arith)
zero_acts {t} {i} {j} {A} J z b (Accepted-wait c1) e = absurd (grind arith)
zero_acts {t} {i} {j} {A} J z b (Rejected-ask k c1) e = absurd (grind arith)
zero_acts {t} {i} {j} {A} J z b (Rejected-report c1 c2 c3) e = absurd (grind arith)
zero_acts {t} {i} {j} {A} J z b (Rejected-wait c1 c2) e = absurd (grind arith)
zero_acts {t} {i} {j} {A} J z b (Hears-report {w} c1 c2 c3) e = absurd (let o = b c1 in grind arith)
zero_acts {t} {i} {j} {A} J z b (Hears-wait {w} c1 c2) e = absurd (let o = b c1 in grind arith)
zero_acts {t} {i} {j} {A} J z b (Decides-passes {w} k c1 c2 c3 c4 c5) e = absurd (let o = (z e).parent in grind arith)
zero_acts {t} {i} {j} {A} J z b (Decides-joins {w} k c1 c2 c3 c4 c5) e = absurd (let o = (z e).parent in grind arith)
zero_acts {t} {i} {j} {A} J z b (Halts {w} c1 c2 c3 c4) e = absurd (let o = (z e).parent in grind arith)
zero_acts {t} {i} {j} {A} J z b (Rests {w} c1 c2 c3 c4) e = absurd (let o = (z e).parent in grind arith)
zero_acts {t} {i} {j} {A} J z b (Changed-passes k c1 c2) e = absurd (let o = (z e).parent in grind arith)
zero_acts {t} {i} {j} {A} J z b (Changed-joins k c1 c2) e = absurd (let o = (z e).parent in grind arith)

module _ (t : Graph) (weights : Weights t) where
  module _ (n m : Lifted) (γ : Ghost) (P : Good t n) (E : Edges t n γ) (W : Talks t n γ) (K : (a : ℕ) → ((n.held a).testing ≡ None) ⊎ ((n.held a).status ≡ Find)) (N : Names t n γ) (S : Alones t n γ) (Z : Zeros t n γ) where
    high : (i j : ℕ) (x : Message) (rest : List Message) → n.way j i ≡ x ∷ rest → Edge t i j → High j x (n.held i)
    high i j x rest e l = go x e (subst (λ q. Mode i j (t.weight i j) (view n γ i) (view n γ j) (control (n.way i j)) (control q)) e (E i j l)) (subst (λ q. Talk i j (view n γ i) (view n γ j) (asks (n.way i j)) (replies q) (asks q) (replies (n.way i j))) e (W i j l))
      where
        asks_high : (a b : ℕ) → (n.held a).testing ≡ Some b → 1 ≤ (n.held a).level
        asks_high a b u = (N.nodes a).seeks (asks_seeks (K a) u)

        go : (x : Message) → n.way j i ≡ x ∷ rest → Mode i j (t.weight i j) (view n γ i) (view n γ j) (control (n.way i j)) (control1 x ++ control rest) → Talk i j (view n γ i) (view n γ j) (asks (n.way i j)) (replies1 x ++ replies rest) (asks1 x ++ asks rest) (replies (n.way i j)) → High j x (n.held i)
        go (Connect k) e v w = tt
        go (Initiate k f s) e v w = (N.begins j i k f s (rw e (inl refl))).0
        go (Test k f) e v w = elim (talk_tests w) [ inl u ↦ inr (asks_high i j u) | inr u ↦ inl (rw (talk_own w).0 (asks_high j i u)) ]
        go Accept e v w = asks_high i j (talk_asked (replies rest) Accept w)
        go Reject e v w = asks_high i j (talk_asked (replies rest) Reject w)
        go (Report r) e v w = λ u. (N.nodes i).seeks (head_hears u v)
        go Change e v w = (head_change (λ u. ap γ.fragment u) v).parent

    acts : {i : ℕ} {inp : In} {g : Held} {os : List Send} (j : ℕ) (c : Act t n m i inp g os) → ((y : ℕ) → Edge t i y → g.level ≡ 0 → Zero t i (acted (turn c.does) g (view n γ i) (view n γ j))) → Zeros t m (stepped (turn c.does) i (view n γ i) (view n γ j) γ)
    acts {i} {inp} {g} {os} j c f a y l u e = elim (eqb_tells a i) [ inl s ↦ here s | inr s ↦ there s ]
      where
        G : Ghost
        G = stepped (turn c.does) i (view n γ i) (view n γ j) γ

        here : (eqb a i ≡ true) × (a ≡ i) → Zero t a (view m G a)
        here s = subst (λ x. Zero t x (view m G x)) (sym s.1) (subst (λ V. Zero t i V) (sym (view_acted (turn c.does) i (view n γ j) γ n m g c.self)) (f y (subst (λ x. Edge t x y) s.1 l) (ap (λ h. h.level) (sym c.self) ∙ ap (λ x. (m.held x).level) (sym s.1) ∙ e)))

        there : (eqb a i ≡ false) × (a ≡ i → ⊥) → Zero t a (view m G a)
        there s = let o = c.others a s.1 in subst (λ V. Zero t a V) (sym (view_else (turn c.does) i (view n γ i) (view n γ j) γ m a (n.held a) o s.1)) (zero_else (turn c.does) (view n γ i) (view n γ j) (Z a y l (λ z. u (ap (λ h. h.status) o ∙ z)) (sym (ap (λ h. h.level) o) ∙ e)))

    put_off : {i j : ℕ} {x : Message} {front back : List Message} → Off t n m i j x front back → Zeros t m γ
    put_off c a y l u e = subst (λ V. Zero t a V) (sym (view_off γ c a)) (Z a y l (λ z. u (ap (λ h. h.status) (c.helds a) ∙ z)) (sym (ap (λ h. h.level) (c.helds a)) ∙ e))

    zeros_of : (v : Event t n m) → Zeros t m (next γ v)
    zeros_of (act i woke g os c) = acts i c (λ y l e. zero_wakes {A = view n γ i} (S.sleepers i c.ready.awake).made c.ready.inside y l c.does)
    zeros_of (act i (got j x) g os c) = acts j c (λ y l e. zero_acts {A = view n γ i} (view n γ j) (λ o. Z i y l c.ready.awake o) (high i j x c.ready.source.0 c.ready.source.1 (comes_of t weights n P i j x c.ready.source.0 c.ready.source.1)) c.does e)
    zeros_of (off i j x front back c) = put_off c

  -- THE THEOREM: each step keeps what is said of the awake nodes of level 0
  pub zeros_step : (n m : Lifted) (γ : Ghost) → Good t n → Edges t n γ → Talks t n γ → ((a : ℕ) → ((n.held a).testing ≡ None) ⊎ ((n.held a).status ≡ Find)) → Names t n γ → Alones t n γ → Zeros t n γ → (v : Event t n m) → Zeros t m (next γ v)
  zeros_step n m γ P E W K N S Z v = zeros_of n m γ P E W K N S Z v
