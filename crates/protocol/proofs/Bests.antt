-- Every step keeps what is known of the best edges.
use Rattle.std.proofs.Common.{◌≡◌, ℕ, true, false, eqb, ◌⊎◌, List, ◌∷◌, ◌++◌, Some, None, sym, refl, ap, subst, subst₂, inl, inr, arith}
use Rattle.std.proofs.lemmas.Bool.Decides.{eqb_tells}
use Rattle.message.specs.declared.messages.Message.{Message}
use Rattle.node.specs.declared.state.Status.TheVariants.{Find}
use Rattle.graph.specs.Graph.{Graph, Edge, Weights}
use Rattle.protocol.proofs.Base.{Good}
use Rattle.protocol.proofs.Choice.{Choice, Answered, talk_answered, Spread, spreads, spreads_wake, choice_acts, choice_wake, choice_far}
use Rattle.protocol.proofs.Control.{control1, control}
use Rattle.protocol.proofs.Deed.{woke, In, got}
use Rattle.protocol.proofs.Deeds.{Quiet, Knows, Suits}
use Rattle.protocol.proofs.Edges.{Rest, Edges, first, labels, shorter, next, apart, turned}
use Rattle.protocol.proofs.Frame.{Lifted, start, Act, Off, Event, act, off}
use Rattle.protocol.proofs.Ghost.{Ghost, View, view, turn, follow, acted, stepped}
use Rattle.protocol.proofs.Held.{Send, Held}
use Rattle.protocol.proofs.Leading.{leads_far, leads_over, leads_beside, leads_partner, leads_wake, leads_woken}
use Rattle.protocol.proofs.Leads.{Leads}
use Rattle.protocol.proofs.Mode.{Mode, Sane}
use Rattle.protocol.proofs.Questions.{Talks}
use Rattle.protocol.proofs.Talk.{asks, replies, Talk}
use Rattle.protocol.proofs.Views.{view_else, view_acted}

-- leads: a best edge leads out of the fragment, or down to one that reported it; choice: what each node knows of its own
pub record Bests (t : Graph) (n : Lifted) (γ : Ghost) : Type 0 where
  pub leads : (a b : ℕ) → Edge t a b → Leads a b (t.weight a b) (view n γ a) (view n γ b)
  pub choice : (a b : ℕ) → Edge t a b → Choice t a b (view n γ a)

-- at first nobody has a best edge
pub bests_start : (t : Graph) → Bests t start first
bests_start t = record { leads = λ a b l c u h. absurd (grind arith); choice = λ a b l. record { finite = λ u1 u2. grind arith; lightest = λ u1 u2 u3 u4 u5. absurd (grind arith); late = λ u1 u2 u3. refl } }

-- the best edge is not the one to the parent, as the modes use it
pub bests_inner : {t : Graph} {n : Lifted} {γ : Ghost} → Good t n → Bests t n γ → (i k : ℕ) → (γ.own i).changed ≡ false → (n.held i).level ≡ (γ.fragment (γ.own i).label).level → (n.held i).best ≡ Some k → (n.held i).parent ≡ Some k → ⊥
bests_inner p v i k c u b h = (v.leads i k ((p.helds i k k).best b) c u b).parent h

-- who has no best edge has no weight of one
pub bests_long : {t : Graph} {n : Lifted} → Good t n → (i : ℕ) → (n.held i).best ≡ None → (n.held i).best_weight ≡ None
bests_long p i = (p.helds i 0 0).long

-- a best edge has a weight
pub bests_finite : {t : Graph} {n : Lifted} {γ : Ghost} → Good t n → Bests t n γ → (i k : ℕ) → (n.held i).best ≡ Some k → (n.held i).best_weight ≡ None → ⊥
bests_finite p v i k b = (v.choice i k ((p.helds i k k).best b)).finite b

along : {x y w : ℕ} {A A' B B' : View} → A' ≡ A → B' ≡ B → Leads x y w A B → Leads x y w A' B'
along {x} {y} {w} a b v = subst₂ (λ X Y. Leads x y w X Y) (sym a) (sym b) v

along_choice : {t : Graph} {i k : ℕ} {A A' : View} → A' ≡ A → Choice t i k A → Choice t i k A'
along_choice {t} {i} {k} a v = subst (λ X. Choice t i k X) (sym a) v

module _ (t : Graph) (weights : Weights t) where
  module _ (n m : Lifted) (γ : Ghost) (P : Good t n) (R : Rest t n γ) (E : Edges t n γ) (W : Talks t n γ) (V : Bests t n γ) where
    abbrev G : {i : ℕ} {inp : In} {g : Held} {os : List Send} → (j : ℕ) → Act t n m i inp g os → Ghost
    G {i} j c = stepped (turn c.does) i (view n γ i) (view n γ j) γ

    -- the views of who acts and of the others, afterwards
    self_view : {i : ℕ} {inp : In} {g : Held} {os : List Send} (j : ℕ) (c : Act t n m i inp g os) → view m (G j c) i ≡ acted (turn c.does) g (view n γ i) (view n γ j)
    self_view {i} {g = g} j c = view_acted (turn c.does) i (view n γ j) γ n m g c.self

    else_view : {i : ℕ} {inp : In} {g : Held} {os : List Send} (j : ℕ) (c : Act t n m i inp g os) (a : ℕ) → (a ≡ i → ⊥) → view m (G j c) a ≡ follow (turn c.does) (view n γ i) (view n γ j) (view n γ a)
    else_view {i} j c a na = view_else (turn c.does) i (view n γ i) (view n γ j) γ m a (n.held a) (c.others a na) na

    -- over which edge, by which way, and what is known of both ends
    module _ {i : ℕ} {g : Held} {os : List Send} (j : ℕ) (x : Message) (c : Act t n m i (got j x) g os) where
      abbrev rest : List Message
      rest = c.ready.source.0

      from : n.way j i ≡ x ∷ rest
      from = c.ready.source.1

      fj : Edge t i j × Suits x (view n γ i) (view n γ j)
      fj = R.suits i j x rest from

      nj : j ≡ i → ⊥
      nj e = apart t weights i j fj.0 (sym e)

      ej : Mode i j (t.weight i j) (view n γ i) (view n γ j) (control (n.way i j)) (control1 x ++ control rest)
      ej = subst (λ q. Mode i j (t.weight i j) (view n γ i) (view n γ j) (control (n.way i j)) (control q)) from (E i j fj.0)

      kj : Knows t i j (view n γ i) (view n γ j) (control (n.way i j)) (control rest)
      kj = shorter x (subst (λ q. Knows t i j (view n γ i) (view n γ j) (control (n.way i j)) (control q)) from (R.knows i j fj.0 c.ready.awake))

      wj : Answered j x (view n γ i) (view n γ j)
      wj = talk_answered (replies rest) x (subst (λ q. Talk i j (view n γ i) (view n γ j) (asks (n.way i j)) (replies q) (asks q) (replies (n.way i j))) from (W i j fj.0))

      sp : Spread (view n γ i) (view n γ j) (turn c.does)
      sp = spreads kj ej c.does

      taken_choice : (a b : ℕ) → Edge t a b → Choice t a b (view m (G j c) a)
      taken_choice a b l = elim (eqb_tells a i) [ inl u ↦ subst (λ z. Choice t z b (view m (G j c) z)) (sym u.1) (mine (subst (λ z. Edge t z b) u.1 l)) | inr u ↦ theirs u.1 ]
        where
          mine : Edge t i b → Choice t i b (view m (G j c) i)
          mine l = along_choice (self_view j c) (choice_acts kj fj.1 wj l (P.helds i j b) ej c.does (V.choice i b l))

          theirs : (a ≡ i → ⊥) → Choice t a b (view m (G j c) a)
          theirs na = along_choice (else_view j c a na) (choice_far (view n γ i) (view n γ j) (λ e. ap γ.fragment e) (λ e. ap γ.fragment e) (R.sane a b l).low sp (V.choice a b l))

      taken_leads : (a b : ℕ) → Edge t a b → Leads a b (t.weight a b) (view m (G j c) a) (view m (G j c) b)
      taken_leads a b l = go (eqb_tells a i) (eqb_tells b i)
        where
          own : (b : ℕ) → Edge t i b → Leads i b (t.weight i b) (view m (G j c) i) (view m (G j c) b)
          own b l = elim (eqb_tells b j) [ inl u ↦ subst (λ z. Leads i z (t.weight i z) (view m (G j c) i) (view m (G j c) z)) (sym u.1) over | inr u ↦ along (self_view j c) (else_view j c b nb) (leads_beside kj u.1 (labels n γ i b i j) (R.sane i b l) (R.sane b i (turned t weights i b l)) ej c.does (V.leads i b l)) ]
            where
              nb : b ≡ i → ⊥
              nb e = apart t weights i b l (sym e)

              over : Leads i j (t.weight i j) (view m (G j c) i) (view m (G j c) j)
              over = along (self_view j c) (else_view j c j nj) (leads_over kj fj.1 wj ej c.does (V.leads i j fj.0))

          into : (a ≡ i → ⊥) → Edge t a i → Leads a i (t.weight a i) (view m (G j c) a) (view m (G j c) i)
          into na l = along (else_view j c a na) (self_view j c) (leads_partner kj fj.1 (λ e. ap (view n γ) e) (labels n γ a i i j) (R.sane a i l) (R.sane i a (turned t weights a i l)) (E i a (turned t weights a i l)) ej c.does (V.leads a i l))

          go : ((eqb a i ≡ true) × (a ≡ i)) ⊎ ((eqb a i ≡ false) × (a ≡ i → ⊥)) → ((eqb b i ≡ true) × (b ≡ i)) ⊎ ((eqb b i ≡ false) × (b ≡ i → ⊥)) → Leads a b (t.weight a b) (view m (G j c) a) (view m (G j c) b)
          go (inl u) v = subst (λ z. Leads z b (t.weight z b) (view m (G j c) z) (view m (G j c) b)) (sym u.1) (own b (subst (λ z. Edge t z b) u.1 l))
          go (inr u) (inl v) = subst (λ z. Leads a z (t.weight a z) (view m (G j c) a) (view m (G j c) z)) (sym v.1) (into u.1 (subst (λ z. Edge t a z) v.1 l))
          go (inr u) (inr v) = along (else_view j c a u.1) (else_view j c b v.1) (leads_far (view n γ i) (view n γ j) (labels n γ a b i j) (R.sane a b l) (R.sane b a (turned t weights a b l)) sp (V.leads a b l))

    module _ {i : ℕ} {g : Held} {os : List Send} (c : Act t n m i woke g os) where
      woken_choice : (a b : ℕ) → Edge t a b → Choice t a b (view m (G i c) a)
      woken_choice a b l = elim (eqb_tells a i) [ inl u ↦ subst (λ z. Choice t z b (view m (G i c) z)) (sym u.1) (mine (subst (λ z. Edge t z b) u.1 l)) | inr u ↦ theirs u.1 ]
        where
          mine : Edge t i b → Choice t i b (view m (G i c) i)
          mine l = along_choice (self_view i c) (choice_wake (view n γ i) c.does (V.choice i b l))

          theirs : (a ≡ i → ⊥) → Choice t a b (view m (G i c) a)
          theirs na = along_choice (else_view i c a na) (choice_far (view n γ i) (view n γ i) (λ e. ap γ.fragment e) (λ e. ap γ.fragment e) (R.sane a b l).low (spreads_wake c.does) (V.choice a b l))

      woken_leads : (a b : ℕ) → Edge t a b → Leads a b (t.weight a b) (view m (G i c) a) (view m (G i c) b)
      woken_leads a b l = go (eqb_tells a i) (eqb_tells b i)
        where
          own : Edge t i b → Leads i b (t.weight i b) (view m (G i c) i) (view m (G i c) b)
          own l = along (self_view i c) (else_view i c b (λ e. apart t weights i b l (sym e))) (leads_wake (view n γ i) (view n γ b) (view n γ i) c.does)

          into : (a ≡ i → ⊥) → Edge t a i → Leads a i (t.weight a i) (view m (G i c) a) (view m (G i c) i)
          into na l = along (else_view i c a na) (self_view i c) (leads_woken (view n γ i) c.ready.awake (R.fresh i a c.ready.awake (turned t weights a i l)).level (labels n γ a i i i) (R.sane a i l) (R.sane i a (turned t weights a i l)) c.does (V.leads a i l))

          go : ((eqb a i ≡ true) × (a ≡ i)) ⊎ ((eqb a i ≡ false) × (a ≡ i → ⊥)) → ((eqb b i ≡ true) × (b ≡ i)) ⊎ ((eqb b i ≡ false) × (b ≡ i → ⊥)) → Leads a b (t.weight a b) (view m (G i c) a) (view m (G i c) b)
          go (inl u) v = subst (λ z. Leads z b (t.weight z b) (view m (G i c) z) (view m (G i c) b)) (sym u.1) (own (subst (λ z. Edge t z b) u.1 l))
          go (inr u) (inl v) = subst (λ z. Leads a z (t.weight a z) (view m (G i c) a) (view m (G i c) z)) (sym v.1) (into u.1 (subst (λ z. Edge t a z) v.1 l))
          go (inr u) (inr v) = along (else_view i c a u.1) (else_view i c b v.1) (leads_far (view n γ i) (view n γ i) (labels n γ a b i i) (R.sane a b l) (R.sane b a (turned t weights a b l)) (spreads_wake c.does) (V.leads a b l))

    kept : (i j : ℕ) (x : Message) (front back : List Message) → Off t n m i j x front back → Bests t m γ
    kept i j x front back c = record { leads = λ a b l. along (same a) (same b) (V.leads a b l); choice = λ a b l. along_choice (same a) (V.choice a b l) }
      where
        same : (a : ℕ) → view m γ a ≡ view n γ a
        same a = λ k. record { held = c.helds a k; own = γ.own a; fragment = γ.fragment (γ.own a).label }

    bests_of : (v : Event t n m) → Bests t m (next γ v)
    bests_of (act i woke g os c) = record { leads = woken_leads c; choice = woken_choice c }
    bests_of (act i (got j x) g os c) = record { leads = taken_leads j x c; choice = taken_choice j x c }
    bests_of (off i j x front back c) = kept i j x front back c

  -- with the best edges, the modes need of a node only that it is sane, asks only while it searches, and waits for nobody once its count is 0
  pub knows_of : (n : Lifted) (γ : Ghost) → Good t n → ((a y : ℕ) → Edge t a y → Sane y (view n γ a)) → Bests t n γ → ((a : ℕ) → ((n.held a).testing ≡ None) ⊎ ((n.held a).status ≡ Find)) → (i y : ℕ) → Edge t i y →
      ((n.held i).find_count ≡ 0 → (n.held i).status ≡ Find → Quiet i y (view n γ i) (view n γ y) (control (n.way i y)) (control (n.way y i))) → Knows t i y (view n γ i) (view n γ y) (control (n.way i y)) (control (n.way y i))
  knows_of n γ P S V N i y l q = record { inside = l.1; mine = S i y l; theirs = S y i (turned t weights i y l); same = λ e. ap γ.fragment e; long = bests_long P i; inner = bests_inner P V i; best = V.leads i y l; asks = N i; quiet = q }

  -- THE THEOREM: each step keeps what is known of the best edges
  pub bests : (n m : Lifted) (γ : Ghost) → Good t n → Rest t n γ → Edges t n γ → Talks t n γ → Bests t n γ → (s : Event t n m) → Bests t m (next γ s)
  bests n m γ P R E W V s = bests_of n m γ P R E W V s
