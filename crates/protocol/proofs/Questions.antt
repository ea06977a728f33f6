-- Every step keeps what is asked and answered over each edge.
use Rattle.std.proofs.Common.{◌≡◌, ℕ, ◌-◌, true, false, eqb, ◌⊎◌, List, [], ◌∷◌, ◌++◌, Some, None, sym, refl, ap, ◌∙◌, subst, inl, inr, arith, Option}
use Rattle.std.proofs.lemmas.Bool.Decides.{eqb_tells}
use Rattle.message.specs.declared.messages.Message.{Message}
use Rattle.message.specs.declared.messages.Message.TheVariants.{Connect, Initiate, Test, Accept, Reject, Report, Change}
use Rattle.node.specs.declared.state.Status.TheVariants.{Sleeping, Find}
use Rattle.graph.specs.declared.mark.Mark.{Mark}
use Rattle.graph.specs.declared.mark.Mark.TheVariants.{Basic, Branch, Rejected}
use Rattle.graph.specs.Graph.{Graph, Edge, Weights}
use Rattle.protocol.proofs.Asked.{talk_over, talk_asked, talk_beside, talk_far, talk_wake, talk_wake_far, talk_alone, seeks_acts, seeks_wakes}
use Rattle.protocol.proofs.Control.{control1, control}
use Rattle.protocol.proofs.Deed.{woke, In, got}
use Rattle.protocol.proofs.Deeds.{Quiet, Knows, Suits, Fresh}
use Rattle.protocol.proofs.Edges.{Rest, Edges, first, labels, shorter, next, apart, turned, stays}
use Rattle.protocol.proofs.Frame.{Took, start, Later, Lifted, Act, Off, Event, act, off}
use Rattle.protocol.proofs.Ghost.{Ghost, View, view, turn, stepped}
use Rattle.protocol.proofs.Held.{Send, Held}
use Rattle.protocol.proofs.Mode.{tells, Child, Mode, free, offered, offers, crossing, took, taken, merged, ahead, behind, core, told, above, below, Sane}
use Rattle.protocol.proofs.Outs.{out_to}
use Rattle.protocol.proofs.Talk.{still, asks1, replies1, asks, replies, asks-++, replies-++, asks_off, replies_off, Yes, Ask, asking, yes', no', Talk, both, crossed, left, turned_talk, Peers, inner, asks_seeks}
use Rattle.protocol.proofs.Views.{view_else, view_acted}

abbrev pub On : Graph → Lifted → Ghost → ℕ → ℕ → Type 0
On t n γ a b = Talk a b (view n γ a) (view n γ b) (asks (n.way a b)) (replies (n.way b a)) (asks (n.way b a)) (replies (n.way a b))

abbrev pub Talks : Graph → Lifted → Ghost → Type 0
Talks t n γ = (a b : ℕ) → Edge t a b → On t n γ a b

-- at first nobody asks
pub talks_start : (t : Graph) → Talks t start first
talks_start t a b l = both (still (grind arith)) (still (grind arith))

-- a question under way is its sender's present one: so names need be known of nodes only
ask_own : {x y : ℕ} {A B : View} {T S : List Message} {l f : ℕ} → Ask x y A B (Test l f ∷ T) S → (l ≡ A.held.level) × (f ≡ A.held.name)
ask_own (still v) = absurd (let o = v.out in grind arith)
ask_own (asking v) = let o = v.out in grind arith
ask_own (yes' v) = absurd (let o = v.out in grind arith)
ask_own (no' v) = absurd (let o = v.out in grind arith)

pub talk_own : {x y : ℕ} {A B : View} {T S U R : List Message} {l f : ℕ} → Talk x y A B T S (Test l f ∷ U) R → (l ≡ B.held.level) × (f ≡ B.held.name)
talk_own (both a b) = ask_own b
talk_own (crossed v) = let o = v.asked in let z = v.levels in let w = v.names in grind arith
talk_own (left v) = absurd (let o = v.out in grind arith)

-- who is answered asked; a no comes from inside
ask_no : {x y : ℕ} {A B : View} {T S : List Message} → Ask x y A B T (Reject ∷ S) → (A.held.testing ≡ Some y) × (A.own.label ≡ B.own.label)
ask_no (still v) = absurd (let o = v.back in grind arith)
ask_no (asking v) = absurd (let o = v.back in grind arith)
ask_no (yes' v) = absurd (let o = v.back in grind arith)
ask_no (no' v) = (v.testing, v.same)

pub talk_no : {x y : ℕ} {A B : View} {T S U R : List Message} → Talk x y A B T (Reject ∷ S) U R → (A.held.testing ≡ Some y) × (A.own.label ≡ B.own.label)
talk_no (both a b) = ask_no a
talk_no (crossed v) = absurd (let o = v.back in grind arith)
talk_no (left v) = absurd (let o = v.said in grind arith)

ask_tests : {x y : ℕ} {A B : View} {T S : List Message} {l f : ℕ} → Ask x y A B (Test l f ∷ T) S → A.held.testing ≡ Some y
ask_tests (still v) = absurd (let o = v.out in grind arith)
ask_tests (asking v) = v.testing
ask_tests (yes' v) = v.testing
ask_tests (no' v) = v.testing

pub talk_tests : {x y : ℕ} {A B : View} {T S U R : List Message} {l f : ℕ} → Talk x y A B T S (Test l f ∷ U) R → (A.held.testing ≡ Some y) ⊎ (B.held.testing ≡ Some x)
talk_tests (both a b) = inr (ask_tests b)
talk_tests (crossed v) = inl v.testing
talk_tests (left v) = inr v.testing

-- what the modes need of a message (Fits) follows from the questions, from that two nodes of one name, one of which asks, are of one fragment, and that no word to begin says sleeping
pub fits_of : {x y : ℕ} {A B : View} {T R : List Message} (S U : List Message) (m : Message) → ((A.held.testing ≡ Some y) ⊎ (B.held.testing ≡ Some x) → B.held.name ≡ A.held.name → A.own.label ≡ B.own.label) → (A.held.testing ≡ None) ⊎ (A.held.status ≡ Find) →
    Talk x y A B T (replies1 m ++ S) (asks1 m ++ U) R → Suits m A B
fits_of S U (Connect l) n a w = tt
fits_of S U (Initiate l f z) n a w = tt
fits_of S U (Test l f) n a w = λ u. n (talk_tests w) (sym (talk_own w).1 ∙ u)
fits_of S U Accept n a w = asks_seeks a (talk_asked S Accept w)
fits_of S U Reject n a w = let z = talk_no w in (asks_seeks a z.0, z.1)
fits_of S U (Report r) n a w = tt
fits_of S U Change n a w = tt

-- a yes: the edge is not known, and leads out, to a node that is not below
ask_yes : {x y : ℕ} {A B : View} {T S : List Message} → Ask x y A B T (Accept ∷ S) → Yes x y A B T (Accept ∷ S)
ask_yes (still v) = absurd (let o = v.back in grind arith)
ask_yes (asking v) = absurd (let o = v.back in grind arith)
ask_yes (yes' v) = v
ask_yes (no' v) = absurd (let o = v.back in grind arith)

pub talk_yes : {x y : ℕ} {A B : View} {T S U R : List Message} → Talk x y A B T (Accept ∷ S) U R → Yes x y A B T (Accept ∷ S)
talk_yes (both a b) = ask_yes a
talk_yes (crossed v) = absurd (let o = v.back in grind arith)
talk_yes (left v) = absurd (let o = v.said in grind arith)

-- who asks: the edge is not known, or the other end hangs below
is_above : {x y w : ℕ} {A B : View} {p q : List Message} → A.held.mark y ≡ Branch → (A.own.up ≡ Some y → ⊥) → Mode x y w A B p q → Child x y w A B p q
is_above a b (free v) = absurd (grind arith)
is_above a b (offered v) = absurd (grind arith)
is_above a b (offers v) = absurd (grind arith)
is_above a b (crossing v) = absurd (grind arith)
is_above a b (took v) = absurd (grind arith)
is_above a b (taken v) = absurd (grind arith)
is_above a b (merged v) = absurd (grind arith)
is_above a b (ahead v) = absurd (grind arith)
is_above a b (behind v) = absurd (grind arith)
is_above a b (core v) = absurd (grind arith)
is_above a b (tells v) = absurd (grind arith)
is_above a b (told v) = absurd (grind arith)
is_above a b (above v) = v
is_above a b (below v) = absurd (grind arith)

either : {x y w : ℕ} {A B : View} {p q : List Message} (m : Mark) → A.held.mark y ≡ m → (m ≡ Rejected → ⊥) → (A.own.up ≡ Some y → ⊥) → Mode x y w A B p q → (m ≡ Basic) ⊎ Child x y w A B p q
either Basic e n u v = inl refl
either Branch e n u v = inr (is_above e u v)
either Rejected e n u v = absurd (n refl)

pub talk_mark : {x y w : ℕ} {A B : View} {p q T S U R : List Message} → A.held.testing ≡ Some y → Mode x y w A B p q → Talk x y A B T S U R → (A.held.mark y ≡ Basic) ⊎ Child x y w A B p q
talk_mark t e (both (still v) b) = absurd (v.testing t)
talk_mark {y = y} {A = A} t e (both (asking v) b) = either (A.held.mark y) refl v.mark v.up e
talk_mark t e (both (yes' v) b) = inl v.mark
talk_mark {y = y} {A = A} t e (both (no' v) b) = either (A.held.mark y) refl v.mark v.up e
talk_mark t e (crossed v) = inl v.mark_a
talk_mark t e (left v) = absurd (v.theirs t)

-- rejected out at one end only: the other asks, and is about to hear of it
pub talk_half : {x y w : ℕ} {A B : View} {p q T S U R : List Message} → A.held.mark y ≡ Rejected → B.held.mark x ≡ Basic → Mode x y w A B p q → Talk x y A B T S U R → (B.held.testing ≡ Some x) × (U ≡ []) × (((T ≡ Test A.held.level A.held.name ∷ []) × (R ≡ [])) ⊎ ((T ≡ []) × (R ≡ Reject ∷ [])))
talk_half m n e (both a (still v)) = absurd (let z = v.whole in grind arith)
talk_half m n e (both a (asking v)) = absurd (let z = v.whole in grind arith)
talk_half m n e (both a (yes' v)) = absurd (v.differ (sym (inner (inl m) e)))
talk_half m n e (both (still u) (no' v)) = (v.testing, v.out, inr (u.out, v.back))
talk_half m n e (both (asking u) (no' v)) = absurd (u.mark m)
talk_half m n e (both (yes' u) (no' v)) = absurd (let z = u.mark in grind arith)
talk_half m n e (both (no' u) (no' v)) = absurd (u.mark m)
talk_half m n e (crossed v) = absurd (let z = v.mark_a in grind arith)
talk_half m n e (left v) = (v.testing, v.out, inl (let o = v.asked in let a = v.levels in let b = v.names in (grind arith, v.back)))

along : {x y : ℕ} {A A' B B' : View} {T T' S S' U U' R R' : List Message} → A' ≡ A → B' ≡ B → T' ≡ T → S' ≡ S → U' ≡ U → R' ≡ R → Talk x y A B T S U R → Talk x y A' B' T' S' U' R'
along a b c d e f w = rw (a, b, c, d, e, f) w

offs : {x y : ℕ} {A B : View} {T R : List Message} (m : Message) (front back : List Message) → Later y m A.held → Talk x y A B T (replies (m ∷ (front ++ back))) (asks (m ∷ (front ++ back))) R → (asks (front ++ (m ∷ back)) ≡ asks (m ∷ (front ++ back))) × (replies (front ++ (m ∷ back)) ≡ replies (m ∷ (front ++ back)))
offs (Connect l) front back u w = (asks_off (Connect l) front back (inl refl), replies_off (Connect l) front back refl)
offs (Initiate l f s) front back u w = absurd u
offs (Test l f) front back u w = (asks_off (Test l f) front back (inr (talk_alone w)), replies_off (Test l f) front back refl)
offs Accept front back u w = absurd u
offs Reject front back u w = absurd u
offs (Report r) front back u w = (asks_off (Report r) front back (inl refl), replies_off (Report r) front back refl)
offs Change front back u w = absurd u

module _ (t : Graph) (weights : Weights t) where
  module _ (n m : Lifted) (γ : Ghost) (R : Rest t n γ) (N : (a : ℕ) → ((n.held a).testing ≡ None) ⊎ ((n.held a).status ≡ Find)) (E : Edges t n γ) (W : Talks t n γ) where
    abbrev G : {i : ℕ} {inp : In} {g : Held} {os : List Send} → (j : ℕ) → Act t n m i inp g os → Ghost
    G {i} j c = stepped (turn c.does) i (view n γ i) (view n γ j) γ

    peers : (a b : ℕ) → Edge t a b → Peers a b (view n γ a) (view n γ b)
    peers a b l = record { mine = R.sane a b l; theirs = R.sane b a (turned t weights a b l); same = λ e. ap γ.fragment e; asks_a = N a; asks_b = N b }

    -- node i takes x from j, and b is another end
    taken_at : {i : ℕ} {g : Held} {os : List Send} (j : ℕ) (x : Message) (c : Act t n m i (got j x) g os) (b : ℕ) → Edge t i b → On t m (G j c) i b
    taken_at {i} {g} {os} j x c b l = go (c.took b nb)
      where
        nb : b ≡ i → ⊥
        nb e = apart t weights i b l (sym e)

        rest : List Message
        rest = c.ready.source.0

        from : n.way j i ≡ x ∷ rest
        from = c.ready.source.1

        fj : Edge t i j × Suits x (view n γ i) (view n γ j)
        fj = R.suits i j x rest from

        nj : j ≡ i → ⊥
        nj e = apart t weights i j fj.0 (sym e)

        ej : Mode i j (t.weight i j) (view n γ i) (view n γ j) (control (n.way i j)) (control1 x ++ control rest)
        ej = subst (λ q. Mode i j (t.weight i j) (view n γ i) (view n γ j) (control (n.way i j)) (control q)) from (E i j fj.0)

        kj : Knows t i j (view n γ i) (view n γ j) (control (n.way i j)) (control1 x ++ control rest)
        kj = subst (λ q. Knows t i j (view n γ i) (view n γ j) (control (n.way i j)) (control q)) from (R.knows i j fj.0 c.ready.awake)

        wj : Talk i j (view n γ i) (view n γ j) (asks (n.way i j)) (replies1 x ++ replies rest) (asks1 x ++ asks rest) (replies (n.way i j))
        wj = subst (λ q. Talk i j (view n γ i) (view n γ j) (asks (n.way i j)) (replies q) (asks q) (replies (n.way i j))) from (W i j fj.0)

        sent_t : (y : ℕ) → (y ≡ i → ⊥) → asks (m.way i y) ≡ asks (n.way i y) ++ asks (out_to y os)
        sent_t y ny = ap asks (c.sent y ny) ∙ asks-++ (n.way i y) (out_to y os)

        sent_a : (y : ℕ) → (y ≡ i → ⊥) → replies (m.way i y) ≡ replies (n.way i y) ++ replies (out_to y os)
        sent_a y ny = ap replies (c.sent y ny) ∙ replies-++ (n.way i y) (out_to y os)

        rests : Took j (got j x) (n.way j i) (m.way j i) → m.way j i ≡ rest
        rests (inl (u, e)) = tails (sym e ∙ from)
          where
            tails : {a b : Message} {p q : List Message} → a ∷ p ≡ b ∷ q → p ≡ q
            tails e = cc
        rests (inr (u, e)) = absurd (u refl)

        over : On t m (G j c) i j
        over = along (view_acted (turn c.does) i (view n γ j) γ n m g c.self) (view_else (turn c.does) i (view n γ i) (view n γ j) γ m j (n.held j) (c.others j nj) nj) (sent_t j nj) (ap replies (rests (c.took j nj))) (ap asks (rests (c.took j nj))) (sent_a j nj)
            (talk_over (shorter x kj) (peers i j fj.0) fj.1 c.does ej wj)

        go : Took b (got j x) (n.way b i) (m.way b i) → On t m (G j c) i b
        go (inl (u, e)) = subst (λ y. On t m (G j c) i y) u over
        go (inr (u, e)) = let d : b ≡ j → ⊥ = λ z. u (sym z) in
            along (view_acted (turn c.does) i (view n γ j) γ n m g c.self) (view_else (turn c.does) i (view n γ i) (view n γ j) γ m b (n.held b) (c.others b nb) nb) (sent_t b nb) (ap replies e) (ap asks e) (sent_a b nb)
            (talk_beside (R.knows i b l c.ready.awake) (peers i b l) (shorter x kj) (talk_asked (replies rest) x wj) d (labels n γ i b i j) ej c.does (E i b l) (W i b l))

    -- neither end acts
    taken_far : {i : ℕ} {g : Held} {os : List Send} (j : ℕ) (x : Message) (c : Act t n m i (got j x) g os) (a b : ℕ) → (a ≡ i → ⊥) → (b ≡ i → ⊥) → Edge t a b → On t m (G j c) a b
    taken_far {i} {g} {os} j x c a b na nb l =
        along (view_else (turn c.does) i (view n γ i) (view n γ j) γ m a (n.held a) (c.others a na) na) (view_else (turn c.does) i (view n γ i) (view n γ j) γ m b (n.held b) (c.others b nb) nb) (ap asks (c.far a b na nb)) (ap replies (c.far b a nb na)) (ap asks (c.far b a nb na)) (ap replies (c.far a b na nb))
        (talk_far (shorter x kj) (peers a b l) (labels n γ a b i j) ej c.does (W a b l))
      where
        rest : List Message
        rest = c.ready.source.0

        from : n.way j i ≡ x ∷ rest
        from = c.ready.source.1

        fj : Edge t i j × Suits x (view n γ i) (view n γ j)
        fj = R.suits i j x rest from

        ej : Mode i j (t.weight i j) (view n γ i) (view n γ j) (control (n.way i j)) (control1 x ++ control rest)
        ej = subst (λ q. Mode i j (t.weight i j) (view n γ i) (view n γ j) (control (n.way i j)) (control q)) from (E i j fj.0)

        kj : Knows t i j (view n γ i) (view n γ j) (control (n.way i j)) (control1 x ++ control rest)
        kj = subst (λ q. Knows t i j (view n γ i) (view n γ j) (control (n.way i j)) (control q)) from (R.knows i j fj.0 c.ready.awake)

    -- over every edge of node i, and then over every other
    all : {i : ℕ} {inp : In} {g : Held} {os : List Send} (j : ℕ) (c : Act t n m i inp g os) → ((b : ℕ) → Edge t i b → On t m (G j c) i b) → ((a b : ℕ) → (a ≡ i → ⊥) → (b ≡ i → ⊥) → Edge t a b → On t m (G j c) a b) → Talks t m (G j c)
    all {i} j c f h a b l = go (eqb_tells a i) (eqb_tells b i)
      where
        go : ((eqb a i ≡ true) × (a ≡ i)) ⊎ ((eqb a i ≡ false) × (a ≡ i → ⊥)) → ((eqb b i ≡ true) × (b ≡ i)) ⊎ ((eqb b i ≡ false) × (b ≡ i → ⊥)) → On t m (G j c) a b
        go (inl u) v = subst (λ z. On t m (G j c) z b) (sym u.1) (f b (subst (λ z. Edge t z b) u.1 l))
        go (inr u) (inl v) = subst (λ z. On t m (G j c) a z) (sym v.1) (turned_talk (f a (turned t weights a i (subst (λ z. Edge t a z) v.1 l))))
        go (inr u) (inr v) = h a b u.1 v.1 l

    woken_at : {i : ℕ} {g : Held} {os : List Send} (c : Act t n m i woke g os) (b : ℕ) → Edge t i b → On t m (G i c) i b
    woken_at {i} {g} {os} c b l =
        along (view_acted (turn c.does) i (view n γ i) γ n m g c.self) (view_else (turn c.does) i (view n γ i) (view n γ i) γ m b (n.held b) (c.others b nb) nb) (ap asks (c.sent b nb) ∙ asks-++ (n.way i b) (out_to b os)) (ap replies (c.took b nb)) (ap asks (c.took b nb)) (ap replies (c.sent b nb) ∙ replies-++ (n.way i b) (out_to b os))
        (talk_wake (view n γ i) c.ready.awake (R.fresh i b c.ready.awake l) (peers i b l) c.does (W i b l))
      where
        nb : b ≡ i → ⊥
        nb e = apart t weights i b l (sym e)

    woken_far : {i : ℕ} {g : Held} {os : List Send} (c : Act t n m i woke g os) (a b : ℕ) → (a ≡ i → ⊥) → (b ≡ i → ⊥) → Edge t a b → On t m (G i c) a b
    woken_far {i} {g} {os} c a b na nb l =
        along (view_else (turn c.does) i (view n γ i) (view n γ i) γ m a (n.held a) (c.others a na) na) (view_else (turn c.does) i (view n γ i) (view n γ i) γ m b (n.held b) (c.others b nb) nb) (ap asks (c.far a b na nb)) (ap replies (c.far b a nb na)) (ap asks (c.far b a nb na)) (ap replies (c.far a b na nb))
        (talk_wake_far (view n γ i) (view n γ i) c.does (W a b l))

    -- a message is put off
    kept : (i j : ℕ) (x : Message) (front back : List Message) → Off t n m i j x front back → Talks t m γ
    kept i j x front back c a b l = along (same a) (same b) (queue a b l).0 (queue b a (turned t weights a b l)).1 (queue b a (turned t weights a b l)).0 (queue a b l).1 (W a b l)
      where
        same : (a : ℕ) → view m γ a ≡ view n γ a
        same a = λ k. record { held = c.helds a k; own = γ.own a; fragment = γ.fragment (γ.own a).label }

        off_line : Edge t j i → (asks (m.way j i) ≡ asks (n.way j i)) × (replies (m.way j i) ≡ replies (n.way j i))
        off_line l = let o = offs x front back c.yet (subst (λ q. Talk i j (view n γ i) (view n γ j) (asks (n.way i j)) (replies q) (asks q) (replies (n.way i j))) c.before (W i j (turned t weights j i l))) in
            (ap asks c.after ∙ o.0 ∙ sym (ap asks c.before), ap replies c.after ∙ o.1 ∙ sym (ap replies c.before))

        queue : (a b : ℕ) → Edge t a b → (asks (m.way a b) ≡ asks (n.way a b)) × (replies (m.way a b) ≡ replies (n.way a b))
        queue a b l = go (eqb_tells a j) (eqb_tells b i)
          where
            go : ((eqb a j ≡ true) × (a ≡ j)) ⊎ ((eqb a j ≡ false) × (a ≡ j → ⊥)) → ((eqb b i ≡ true) × (b ≡ i)) ⊎ ((eqb b i ≡ false) × (b ≡ i → ⊥)) → (asks (m.way a b) ≡ asks (n.way a b)) × (replies (m.way a b) ≡ replies (n.way a b))
            go (inl u) (inl v) = rw (u.1, v.1) (off_line (subst (λ z. Edge t z i) u.1 (subst (λ z. Edge t a z) v.1 l)))
            go (inl u) (inr v) = let e = c.far a b (λ e. v.1 e.1) in (ap asks e, ap replies e)
            go (inr u) v = let e = c.far a b (λ e. u.1 e.0) in (ap asks e, ap replies e)

    asked_of : (v : Event t n m) → Talks t m (next γ v)
    asked_of (act i woke g os c) = all i c (woken_at c) (woken_far c)
    asked_of (act i (got j x) g os c) = all j c (taken_at j x c) (taken_far j x c)
    asked_of (off i j x front back c) = kept i j x front back c

    -- who asks seeks
    seeks_at : (v : Event t n m) → (a : ℕ) → ((m.held a).testing ≡ None) ⊎ ((m.held a).status ≡ Find)
    seeks_at (act i woke g os c) a = elim (eqb_tells a i) [ inl u ↦ rw (u.1, c.self) (seeks_wakes c.ready.awake (N i) c.does) | inr u ↦ rw (c.others a u.1) (N a) ]
    seeks_at (act i (got j x) g os c) a = elim (eqb_tells a i) [ inl u ↦ rw (u.1, c.self) (mine j x c) | inr u ↦ rw (c.others a u.1) (N a) ]
      where
        mine : {i : ℕ} {g : Held} {os : List Send} (j : ℕ) (x : Message) (c : Act t n m i (got j x) g os) → (g.testing ≡ None) ⊎ (g.status ≡ Find)
        mine {i} j x c = let from = c.ready.source.1 in let fj = R.suits i j x c.ready.source.0 from in
            seeks_acts (shorter x (subst (λ q. Knows t i j (view n γ i) (view n γ j) (control (n.way i j)) (control q)) from (R.knows i j fj.0 c.ready.awake))) (N i)
            (talk_asked (replies c.ready.source.0) x (subst (λ q. Talk i j (view n γ i) (view n γ j) (asks (n.way i j)) (replies q) (asks q) (replies (n.way i j))) from (W i j fj.0)))
            (subst (λ q. Mode i j (t.weight i j) (view n γ i) (view n γ j) (control (n.way i j)) (control q)) from (E i j fj.0)) c.does
    seeks_at (off i j x front back c) a = rw (c.helds a) (N a)

  -- with the questions, the modes need of the messages only over which edges they come, and of names only that two nodes of one name, one of which asks the other, are of one fragment
  pub record Others (n : Lifted) (γ : Ghost) : Type 0 where
    pub sane : (a y : ℕ) → Edge t a y → Sane y (view n γ a)
    pub knows : (i y : ℕ) → Edge t i y → ((n.held i).status ≡ Sleeping → ⊥) → Knows t i y (view n γ i) (view n γ y) (control (n.way i y)) (control (n.way y i))
    pub comes : (i j : ℕ) (x : Message) (rest : List Message) → n.way j i ≡ x ∷ rest → Edge t i j
    pub names : (i j : ℕ) → Edge t i j → (n.held i).testing ≡ Some j → (n.held i).name ≡ (n.held j).name → (γ.own i).label ≡ (γ.own j).label
    pub fresh : (i y : ℕ) → (n.held i).status ≡ Sleeping → Edge t i y → Fresh y (view n γ i) (view n γ y)
    pub lone : (i a : ℕ) → (n.held i).status ≡ Sleeping → (a ≡ i → ⊥) → (γ.own a).label ≡ (γ.own i).label → ⊥
    pub late : (i j y : ℕ) (r : Option ℕ) (rest : List Message) → n.way j i ≡ Report r ∷ rest → ((n.held i).parent ≡ Some j → ⊥) → (n.held i).find_count - 1 ≡ 0 → (y ≡ j → ⊥) → Edge t i y → Quiet i y (view n γ i) (view n γ y) (control (n.way i y)) (control (n.way y i))

  pub rest_of : (n : Lifted) (γ : Ghost) → Others n γ → ((a : ℕ) → ((n.held a).testing ≡ None) ⊎ ((n.held a).status ≡ Find)) → Talks t n γ → Rest t n γ
  rest_of n γ O N W = record { sane = O.sane; knows = O.knows; suits = fit; fresh = O.fresh; lone = O.lone; late = O.late }
    where
      fit : (i j : ℕ) (x : Message) (rest : List Message) → n.way j i ≡ x ∷ rest → Edge t i j × Suits x (view n γ i) (view n γ j)
      fit i j x rest e = let c = O.comes i j x rest e in (
        c,
        fits_of (replies rest) (asks rest) x (λ u v. elim u [ inl a ↦ O.names i j c a (sym v) | inr a ↦ sym (O.names j i (turned t weights i j c) a v) ]) (N i)
            (subst (λ q. Talk i j (view n γ i) (view n γ j) (asks (n.way i j)) (replies q) (asks q) (replies (n.way i j))) e (W i j c)),
      )

  -- THE THEOREM: each step keeps the ways of the edges, and what is asked and answered over them
  pub asked : (n m : Lifted) (γ : Ghost) → Others n γ → ((a : ℕ) → ((n.held a).testing ≡ None) ⊎ ((n.held a).status ≡ Find)) → Edges t n γ → Talks t n γ → (s : Event t n m) → Edges t m (next γ s) × Talks t m (next γ s) × ((a : ℕ) → ((m.held a).testing ≡ None) ⊎ ((m.held a).status ≡ Find))
  asked n m γ O N E W s = let R = rest_of n γ O N W in (stays t weights n m γ R E s, asked_of n m γ R N E W s, seeks_at n m γ R N E W s)
