-- The find count is the number of those a node still waits for, and every step keeps it so.
use Rattle.std.proofs.Common.{◌≡◌, ℕ, ◌-◌, Bool, true, false, cond, not, ◌&&◌, ◌||◌, eqb, ◌⊎◌, List, [], ◌∷◌, ◌++◌, Some, None, sym, refl, ap, ◌∙◌, subst, inl, inr, arith, Option}
use Rattle.std.proofs.lemmas.Bool.Decides.{eqb_tells}
use Rattle.message.specs.declared.messages.Message.{Message}
use Rattle.message.specs.declared.messages.Message.TheVariants.{Report}
use Rattle.node.specs.declared.state.Status.{Status}
use Rattle.node.specs.declared.state.Status.TheVariants.{Sleeping, Find, Found}
use Rattle.graph.specs.declared.mark.Mark.TheVariants.{Branch}
use Rattle.node.specs.Rules.{is_find}
use Rattle.graph.specs.Graph.{Graph, Edge, Weights}
use Rattle.protocol.proofs.Awaits.{awaits, HeardFrom, Hears, awaits_basic, awaits_here, awaits_same, Waits, below_seeker, from_child, Seeks, waits_on}
use Rattle.protocol.proofs.Base.{Good, good_step}
use Rattle.protocol.proofs.Beneath.{below_beside, still_beside, heard_beside, heard_over}
use Rattle.protocol.proofs.Control.{control1, control, control-++}
use Rattle.protocol.proofs.Counts.{count_one, calm_acts, hears_over, hears_beside, counts_acts}
use Rattle.protocol.proofs.Deed.{woke, In, got, Deed, Alone, WokeTo}
use Rattle.protocol.proofs.Deeds.{Quiet, Knows, Suits, Fresh}
use Rattle.protocol.proofs.Edges.{offs, Rest, Edges, first, shorter, next, apart, turned}
use Rattle.protocol.proofs.Outs.{out_to}
use Rattle.protocol.proofs.Frame.{Took, Lifted, start, Act, Off, Event, act, off}
use Rattle.protocol.proofs.Ghost.{Ghost, View, view, turn, mine, stepped}
use Rattle.protocol.proofs.Heads.{head_hears}
use Rattle.protocol.proofs.Held.{Send, Held}
use Rattle.protocol.proofs.Mode.{busy, calls, Child, Mode, Sane}
use Rattle.protocol.proofs.Turn.{Best}
use Rattle.protocol.proofs.Wait.{full, waited, count, count_none, count_same, still_waited}

-- node a waits for y
abbrev pub awaited : Lifted → ℕ → ℕ → Bool
awaited n a y = awaits y (n.held a) (n.held y).status (control (n.way a y)) (control (n.way y a))

-- node a, if it seeks, has heard y or waits for it
abbrev pub HeardAt : Lifted → Ghost → ℕ → ℕ → Type 0
HeardAt n γ a y = Hears y (n.held a) (n.held y) (γ.own y).reported (control (n.way a y)) (control (n.way y a))

-- who does not seek waits for nobody; who seeks counts those whom it waits for, and has heard its other branches but the parent
pub record FindCount (t : Graph) (n : Lifted) (γ : Ghost) : Type 0 where
  pub calm : (a : ℕ) → ((n.held a).status ≡ Find → ⊥) → (n.held a).find_count ≡ 0
  pub counts : (a : ℕ) → (n.held a).status ≡ Find → (n.held a).find_count ≡ count (awaited n a) t.count
  pub heard : (a y : ℕ) → Edge t a y → HeardAt n γ a y

pub find_count_start : (t : Graph) → FindCount t start first
find_count_start t = record { calm = λ a f. refl; counts = λ a f. absurd (grind arith); heard = λ a y l f. absurd (grind arith) }

hears_along : (y : ℕ) {h h' k k' : Held} {e e' : Bool} {p p' q q' : List Message} → h' ≡ h → k' ≡ k → e' ≡ e → p' ≡ p → q' ≡ q → Hears y h k e p q → Hears y h' k' e' p' q'
hears_along y a b c d f v = rw (a, b, c, d, f) v

awaits_along : (y : ℕ) {h h' : Held} {S S' : Status} {p p' q q' : List Message} → h' ≡ h → S' ≡ S → p' ≡ p → q' ≡ q → awaits y h S p q ≡ awaits y h' S' p' q'
awaits_along y a b c d = rw (a, b, c, d)

seeks_or : (h : Held) → ((h.status ≡ Find → ⊥) → h.find_count ≡ 0) → Seeks h
seeks_or h c = go h.status refl
  where
    go : (s : Status) → h.status ≡ s → Seeks h
    go Sleeping u = let d : h.status ≡ Find → ⊥ = λ z. grind arith in inr (d, c d)
    go Find u = inl u
    go Found u = let d : h.status ≡ Find → ⊥ = λ z. grind arith in inr (d, c d)

unseen : (p q : List Message) (S : Status) → waited p q S ≡ false → p ≡ [] → S ≡ Find → ⊥
unseen p q S w e f = grind arith

-- what the count says where nobody is waited for
nobody : {p q : List Message} {h k : Held} {e : Bool} → HeardFrom h k e p q → waited p q k.status ≡ false → (calls p ≡ false) × (q ≡ []) × (k.status ≡ Find → ⊥)
nobody {p} {q} {k = k} v w = (rw v.out, v.back, unseen p q k.status w v.out)

-- what is left of each queue once r is all that is left of the queue from j
abbrev left_over : ℕ → List Message → (ℕ → List Message) → ℕ → List Message
left_over j r f y = cond (eqb y j) r (f y)

left_here : (j : ℕ) (r : List Message) (f : ℕ → List Message) → left_over j r f j ≡ r
left_here j r f = let e : eqb j j ≡ true = grind arith in rw e

left_there : (j : ℕ) (r : List Message) (f : ℕ → List Message) (y : ℕ) → (y ≡ j → ⊥) → left_over j r f y ≡ f y
left_there j r f y d = let e : eqb y j ≡ false = grind arith in rw e

-- who wakes does not seek
woken_calm : {t : Graph} {i : ℕ} {h g : Held} {os : List Send} → Deed t i h woke g os → (g.status ≡ Find → ⊥) × (g.find_count ≡ 0)
woken_calm (Alone c1) = ((λ u. grind arith), refl)
woken_calm (WokeTo k c1) = ((λ u. grind arith), refl)

-- of node i (A), at the other end y (B) of an edge: what Knows has beside the other invariants
pub record Known (t : Graph) (i y : ℕ) (A B : View) : Type 0 where
  pub long : A.held.best ≡ None → A.held.best_weight ≡ None
  pub inner : (k : ℕ) → A.own.changed ≡ false → A.held.level ≡ A.fragment.level → A.held.best ≡ Some k → A.held.parent ≡ Some k → ⊥
  pub best : A.own.changed ≡ false → A.held.level ≡ A.fragment.level → A.held.best ≡ Some y → Best i y (t.weight i y) A B
  pub asks : (A.held.testing ≡ None) ⊎ (A.held.status ≡ Find)

-- what Rest has beside the find count
pub record Facts (t : Graph) (n : Lifted) (γ : Ghost) : Type 0 where
  pub sane : (a y : ℕ) → Edge t a y → Sane y (view n γ a)
  pub known : (i y : ℕ) → Edge t i y → ((n.held i).status ≡ Sleeping → ⊥) → Known t i y (view n γ i) (view n γ y)
  pub suits : (i j : ℕ) (x : Message) (rest : List Message) → n.way j i ≡ x ∷ rest → Edge t i j × Suits x (view n γ i) (view n γ j)
  pub fresh : (i y : ℕ) → (n.held i).status ≡ Sleeping → Edge t i y → Fresh y (view n γ i) (view n γ y)
  pub lone : (i a : ℕ) → (n.held i).status ≡ Sleeping → (a ≡ i → ⊥) → (γ.own a).label ≡ (γ.own i).label → ⊥

module _ (t : Graph) (weights : Weights t) where
  branch_edge : (n : Lifted) → Good t n → (a y : ℕ) → (n.held a).mark y ≡ Branch → Edge t a y
  branch_edge n G a y b = elim (G.helds a y y).mark [ inl e ↦ absurd (grind arith) | inr l ↦ l ]

  -- a message at the head of a queue came over an edge
  comes : (n : Lifted) → Good t n → (i j : ℕ) (x : Message) (rest : List Message) → n.way j i ≡ x ∷ rest → Edge t i j
  comes n G i j x rest e = turned t weights j i (G.queues j i x (rw e (inl refl)))

  module _ (n : Lifted) (γ : Ghost) (G : Good t n) (sane : (a y : ℕ) → Edge t a y → Sane y (view n γ a)) (E : Edges t n γ) (F : FindCount t n γ) where
    unawaited : (i y : ℕ) → Edge t i y → (n.held i).status ≡ Find → awaited n i y ≡ false → Quiet i y (view n γ i) (view n γ y) (control (n.way i y)) (control (n.way y i))
    unawaited i y l f w p b =
        let u = sym (awaits_here y (n.held i) (n.held y).status (control (n.way i y)) (control (n.way y i)) b p) ∙ w in
        let h = F.heard i y l f b p u in let q = nobody h u in (q.0, q.1, λ x z. q.2, h.best)

    -- who seeks and counts nobody waits for nobody (the field quiet of Knows)
    pub quiet_of : (i y : ℕ) → Edge t i y → (n.held i).find_count ≡ 0 → (n.held i).status ≡ Find → Quiet i y (view n γ i) (view n γ y) (control (n.way i y)) (control (n.way y i))
    quiet_of i y l z f = unawaited i y l f (count_none (awaited n i) t.count y (sym (F.counts i f) ∙ z) l.1)

    -- who hears the last report waits for nobody else (the field late of Rest)
    pub late_of : (i j y : ℕ) (r : Option ℕ) (rest : List Message) → n.way j i ≡ Report r ∷ rest → ((n.held i).parent ≡ Some j → ⊥) → (n.held i).find_count - 1 ≡ 0 → (y ≡ j → ⊥) → Edge t i y → Quiet i y (view n γ i) (view n γ y) (control (n.way i y)) (control (n.way y i))
    late_of i j y r rest e p z d l = unawaited i y l seeks (count_one (awaited n i) t.count j y (ap (λ (x : ℕ). x - 1) (sym (F.counts i seeks)) ∙ z) k.1 here l.1 d)
      where
        k : Edge t i j
        k = comes n G i j (Report r) rest e

        mode : Mode i j (t.weight i j) (view n γ i) (view n γ j) (control (n.way i j)) (Report r ∷ control rest)
        mode = subst (λ q. Mode i j (t.weight i j) (view n γ i) (view n γ j) (control (n.way i j)) (control q)) e (E i j k)

        seeks : (n.held i).status ≡ Find
        seeks = head_hears p mode

        full_here : full (control (n.way j i)) ≡ true
        full_here = rw e

        here : awaited n i j ≡ true
        here = awaits_here j (n.held i) (n.held j).status (control (n.way i j)) (control (n.way j i)) (from_child p mode).mark_a p ∙ waits (calls (control (n.way i j))) (full (control (n.way j i))) (not (busy (control (n.way i j))) && is_find (n.held j).status) full_here
          where
            waits : (b c d : Bool) → c ≡ true → (b || (c || d)) ≡ true
            waits true c d u = refl
            waits false c d u = rw u

  -- with the find count, nothing of Rest is left to assume about who is waited for
  pub rest_with_count : (n : Lifted) (γ : Ghost) → Good t n → Facts t n γ → Edges t n γ → FindCount t n γ → Rest t n γ
  rest_with_count n γ G R E F = record { sane = R.sane; knows = knows; suits = R.suits; fresh = R.fresh; lone = R.lone; late = late_of n γ G R.sane E F }
    where
      knows : (i y : ℕ) → Edge t i y → ((n.held i).status ≡ Sleeping → ⊥) → Knows t i y (view n γ i) (view n γ y) (control (n.way i y)) (control (n.way y i))
      knows i y l w = let k = R.known i y l w in
          record { inside = l.1; mine = R.sane i y l; theirs = R.sane y i (turned t weights i y l); same = λ e. ap γ.fragment e; long = k.long; inner = k.inner; best = k.best; asks = k.asks; quiet = quiet_of n γ G R.sane E F i y l }

  module _ (n m : Lifted) (γ : Ghost) (G : Good t n) (M : Good t m) (R : Rest t n γ) (E : Edges t n γ) (F : FindCount t n γ) where
    abbrev H : {i : ℕ} {inp : In} {g : Held} {os : List Send} → (j : ℕ) → Act t n m i inp g os → Ghost
    H {i} j c = stepped (turn c.does) i (view n γ i) (view n γ j) γ

    -- whether the others have reported is as before
    rep_else : {i : ℕ} {inp : In} {g : Held} {os : List Send} (j : ℕ) (c : Act t n m i inp g os) (y : ℕ) → (y ≡ i → ⊥) → ((H j c).own y).reported ≡ (γ.own y).reported
    rep_else {i} j c y d = let e : eqb y i ≡ false = grind arith in rw e

    rep_self : {i : ℕ} {inp : In} {g : Held} {os : List Send} (j : ℕ) (c : Act t n m i inp g os) → ((H j c).own i).reported ≡ (mine (turn c.does) (view n γ i) (view n γ j)).reported
    rep_self {i} j c = let e : eqb i i ≡ true = grind arith in rw e

    sent : {i : ℕ} {inp : In} {g : Held} {os : List Send} → Act t n m i inp g os → (y : ℕ) → (y ≡ i → ⊥) → control (m.way i y) ≡ control (n.way i y) ++ control (out_to y os)
    sent {i} {os = os} c y ny = ap control (c.sent y ny) ∙ control-++ (n.way i y) (out_to y os)

    -- y is a branch below a, which seeks
    child : (a y : ℕ) → Edge t a y → (n.held a).status ≡ Find → (n.held a).mark y ≡ Branch → ((n.held a).parent ≡ Some y → ⊥) → Child a y (t.weight a y) (view n γ a) (view n γ y) (control (n.way a y)) (control (n.way y a))
    child a y l f b p = below_seeker (R.sane a y l) f b p (E a y l)

    -- nodes that do not act, of each other
    far_awaited : {i : ℕ} {inp : In} {g : Held} {os : List Send} → Act t n m i inp g os → (a y : ℕ) → (a ≡ i → ⊥) → (y ≡ i → ⊥) → awaited n a y ≡ awaited m a y
    far_awaited c a y na ny = awaits_along y (c.others a na) (ap (λ (x : Held). x.status) (c.others y ny)) (ap control (c.far a y na ny)) (ap control (c.far y a ny na))

    far_heard : {i : ℕ} {inp : In} {g : Held} {os : List Send} (j : ℕ) (c : Act t n m i inp g os) (a y : ℕ) → (a ≡ i → ⊥) → (y ≡ i → ⊥) → Edge t a y → HeardAt m (H j c) a y
    far_heard j c a y na ny l = hears_along y (c.others a na) (c.others y ny) (rep_else j c y ny) (ap control (c.far a y na ny)) (ap control (c.far y a ny na)) (F.heard a y l)

    -- what the node above i, which seeks, sees of a step of i
    record Above (e : Bool) (a i : ℕ) : Type 0 where
      same : waited (control (n.way a i)) (control (n.way i a)) (n.held i).status ≡ waited (control (m.way a i)) (control (m.way i a)) (m.held i).status
      heard : HeardFrom (n.held a) (n.held i) (γ.own i).reported (control (n.way a i)) (control (n.way i a)) → ((n.held i).status ≡ Find → ⊥) → HeardFrom (n.held a) (m.held i) e (control (m.way a i)) (control (m.way i a))

    above_of : {a i : ℕ} {g : Held} {e e' : Bool} {p p' q q' : List Message} → e' ≡ e → m.held i ≡ g → control (n.way a i) ≡ p → control (n.way i a) ≡ q → control (m.way a i) ≡ p' → control (m.way i a) ≡ q' → waited p q (n.held i).status ≡ waited p' q' g.status →
        (HeardFrom (n.held a) (n.held i) (γ.own i).reported p q → ((n.held i).status ≡ Find → ⊥) → HeardFrom (n.held a) g e p' q') → Above e' a i
    above_of re s a b c d w h = record { same = rw (s, a, b, c, d) w; heard = rw (re, s, a, b, c, d) h }

    above : {i : ℕ} {g : Held} {os : List Send} (j : ℕ) (x : Message) (c : Act t n m i (got j x) g os) (a : ℕ) → Edge t a i → (n.held a).status ≡ Find → (n.held a).mark i ≡ Branch → ((n.held a).parent ≡ Some i → ⊥) → Above ((H j c).own i).reported a i
    above {i} {g} {os} j x c a l f b p = go (c.took a na)
      where
        na : a ≡ i → ⊥
        na e = apart t weights a i l e

        rest : List Message
        rest = c.ready.source.0

        from : n.way j i ≡ x ∷ rest
        from = c.ready.source.1

        fj : Edge t i j × Suits x (view n γ i) (view n γ j)
        fj = R.suits i j x rest from

        nj : j ≡ i → ⊥
        nj e = apart t weights i j fj.0 (sym e)

        ej : Mode i j (t.weight i j) (view n γ i) (view n γ j) (control (n.way i j)) (control1 x ++ control rest)
        ej = subst (λ q. Mode i j (t.weight i j) (view n γ i) (view n γ j) (control (n.way i j)) (control q)) from (E i j fj.0)

        kj : Knows t i j (view n γ i) (view n γ j) (control (n.way i j)) (control rest)
        kj = shorter x (subst (λ q. Knows t i j (view n γ i) (view n γ j) (control (n.way i j)) (control q)) from (R.knows i j fj.0 c.ready.awake))

        left : Took j (got j x) (n.way j i) (m.way j i) → m.way j i ≡ rest
        left (inl (u, e)) = tails (sym e ∙ from)
          where
            tails : {a b : Message} {p q : List Message} → a ∷ p ≡ b ∷ q → p ≡ q
            tails e = cc
        left (inr (u, e)) = absurd (u refl)

        over : (n.held j).status ≡ Find → Child j i (t.weight j i) (view n γ j) (view n γ i) (control1 x ++ control rest) (control (n.way i j)) → Above ((H j c).own i).reported j i
        over f v = above_of (rep_self j c) c.self (ap control from) refl (ap control (left (c.took j nj))) (sent c j nj) (still_waited kj c.ready.awake fj.1 c.does f v) (λ d z. heard_over kj fj.1 z c.does d)

        go : Took a (got j x) (n.way a i) (m.way a i) → Above ((H j c).own i).reported a i
        go (inl (u, e)) = subst (λ y. Above ((H j c).own i).reported y i) u (over (rw u f) (subst (λ q. Child j i (t.weight j i) (view n γ j) (view n γ i) (control q) (control (n.way i j))) from (subst (λ y. Child y i (t.weight y i) (view n γ y) (view n γ i) (control (n.way y i)) (control (n.way i y))) (sym u) (child a i l f b p))))
        go (inr (u, e)) = let v = child a i l f b p in let w = below_beside kj fj.1 (R.sane i a (turned t weights a i l)) v.up_b u ej c.does in
            above_of (rep_self j c) c.self refl refl (ap control e) (sent c a na) (still_beside (R.sane i a (turned t weights a i l)) (R.sane a i l) (λ z. ap γ.fragment z) v w) (λ d z. heard_beside z d w)

    -- who wakes is no child
    above_woken : {i : ℕ} {g : Held} {os : List Send} (c : Act t n m i woke g os) (a : ℕ) → Edge t a i → (n.held a).status ≡ Find → (n.held a).mark i ≡ Branch → ((n.held a).parent ≡ Some i → ⊥) → Above ((H i c).own i).reported a i
    above_woken {i} c a l f b p = absurd (let v = child a i l f b p in let s = (G.helds i a a).sleeps c.ready.awake in grind arith)

    -- any node, by whether it acts
    each : (i : ℕ) (P : ℕ → Type 0) → P i → ((a : ℕ) → (a ≡ i → ⊥) → P a) → (a : ℕ) → P a
    each i P p f a = elim (eqb_tells a i) [ inl u ↦ subst P (sym u.1) p | inr u ↦ f a u.1 ]

    -- node i acts, and the rest follows from what it does to its own count and what those above it see
    acts : {i : ℕ} {inp : In} {g : Held} {os : List Send} (j : ℕ) (c : Act t n m i inp g os) → ((g.status ≡ Find → ⊥) → g.find_count ≡ 0) → (g.status ≡ Find → g.find_count ≡ count (awaited m i) t.count) → ((y : ℕ) → Edge t i y → HeardAt m (H j c) i y) →
        ((a : ℕ) → Edge t a i → (n.held a).status ≡ Find → (n.held a).mark i ≡ Branch → ((n.held a).parent ≡ Some i → ⊥) → Above ((H j c).own i).reported a i) → FindCount t m (H j c)
    acts {i} {inp} {g} {os} j c z k h ab = record {
      calm = each i (λ a. ((m.held a).status ≡ Find → ⊥) → (m.held a).find_count ≡ 0) (subst (λ (x : Held). (x.status ≡ Find → ⊥) → x.find_count ≡ 0) (sym c.self) z) (λ a na. subst (λ (x : Held). (x.status ≡ Find → ⊥) → x.find_count ≡ 0) (sym (c.others a na)) (F.calm a));
      counts = each i (λ a. (m.held a).status ≡ Find → (m.held a).find_count ≡ count (awaited m a) t.count) (subst (λ (x : Held). x.status ≡ Find → x.find_count ≡ count (awaited m i) t.count) (sym c.self) k) other;
      heard = each i (λ a. (y : ℕ) → Edge t a y → HeardAt m (H j c) a y) h heard_other;
    }
      where
        -- whom a waits for
        beside_i : (a : ℕ) → (a ≡ i → ⊥) → (n.held a).status ≡ Find → awaited n a i ≡ awaited m a i
        beside_i a na f = awaits_same i (n.held a) (n.held i).status (m.held i).status (control (n.way a i)) (control (n.way i a)) (control (m.way a i)) (control (m.way i a)) (λ b p. (ab a (branch_edge n G a i b) f b p).same) ∙ ap (λ (x : Held). awaits i x (m.held i).status (control (m.way a i)) (control (m.way i a))) (sym (c.others a na))

        other : (a : ℕ) → (a ≡ i → ⊥) → (m.held a).status ≡ Find → (m.held a).find_count ≡ count (awaited m a) t.count
        other a na f = let f1 : (n.held a).status ≡ Find = sym (ap (λ (x : Held). x.status) (c.others a na)) ∙ f in
            ap (λ (x : Held). x.find_count) (c.others a na) ∙ F.counts a f1 ∙ count_same (awaited n a) (awaited m a) t.count (λ y l. each i (λ y. awaited n a y ≡ awaited m a y) (beside_i a na f1) (λ y ny. far_awaited c a y na ny) y)

        heard_other : (a : ℕ) → (a ≡ i → ⊥) → (y : ℕ) → Edge t a y → HeardAt m (H j c) a y
        heard_other a na = each i (λ y. Edge t a y → HeardAt m (H j c) a y) (λ l. subst (λ (x : Held). Hears i x (m.held i) ((H j c).own i).reported (control (m.way a i)) (control (m.way i a))) (sym (c.others a na)) (of_i l)) (λ y ny l. far_heard j c a y na ny l)
          where
            of_i : Edge t a i → Hears i (n.held a) (m.held i) ((H j c).own i).reported (control (m.way a i)) (control (m.way i a))
            of_i l f b p w = let v = ab a l f b p in let w1 = v.same ∙ w in let d = F.heard a i l f b p w1 in v.heard d (unseen (control (n.way a i)) (control (n.way i a)) (n.held i).status w1 d.out)

    -- node i takes x from j
    taken : {i : ℕ} {g : Held} {os : List Send} (j : ℕ) (x : Message) (c : Act t n m i (got j x) g os) → FindCount t m (H j c)
    taken {i} {g} {os} j x c = acts j c (calm_acts kind) counted heard_own (above j x c)
      where
        rest : List Message
        rest = c.ready.source.0

        from : n.way j i ≡ x ∷ rest
        from = c.ready.source.1

        fj : Edge t i j × Suits x (view n γ i) (view n γ j)
        fj = R.suits i j x rest from

        nj : j ≡ i → ⊥
        nj e = apart t weights i j fj.0 (sym e)

        ej : Mode i j (t.weight i j) (view n γ i) (view n γ j) (control (n.way i j)) (control1 x ++ control rest)
        ej = subst (λ q. Mode i j (t.weight i j) (view n γ i) (view n γ j) (control (n.way i j)) (control q)) from (E i j fj.0)

        kj : Knows t i j (view n γ i) (view n γ j) (control (n.way i j)) (control rest)
        kj = shorter x (subst (λ q. Knows t i j (view n γ i) (view n γ j) (control (n.way i j)) (control q)) from (R.knows i j fj.0 c.ready.awake))

        kind : Waits t j (n.held i) (n.held j) (γ.own j).reported x (control (n.way i j)) (control rest) g os
        kind = waits_on kj fj.1 (seeks_or (n.held i) (F.calm i)) ej c.does

        -- what is left of the queue from y
        left : ℕ → List Message
        left = left_over j (control rest) (λ y. control (n.way y i))

        left_j : left j ≡ control rest
        left_j = left_here j (control rest) (λ y. control (n.way y i))

        left_else : (y : ℕ) → (y ≡ j → ⊥) → left y ≡ control (n.way y i)
        left_else y d = left_there j (control rest) (λ y. control (n.way y i)) y d

        tails : {a b : Message} {p q : List Message} → a ∷ p ≡ b ∷ q → p ≡ q
        tails e = cc

        back : (y : ℕ) → Took y (got j x) (n.way y i) (m.way y i) → control (m.way y i) ≡ left y
        back y (inl (u, e)) = ap control (tails (sym e ∙ subst (λ z. n.way z i ≡ x ∷ rest) u from)) ∙ sym left_j ∙ ap left u
        back y (inr (u, e)) = ap control e ∙ sym (left_else y (λ z. u (sym z)))

        held_self : m.held i ≡ g
        held_self = c.self

        at : (y : ℕ) → awaits y g (n.held y).status (control (n.way i y) ++ control (out_to y os)) (left y) ≡ awaited m i y
        at y = elim (M.helds i y y).mark [
          | inl e ↦ awaits_basic y g (n.held y).status (control (n.way i y) ++ control (out_to y os)) (left y) (sym (ap (λ (z : Held). z.mark y) held_self) ∙ e) ∙ sym (awaits_basic y (m.held i) (m.held y).status (control (m.way i y)) (control (m.way y i)) e)
          | inr l ↦ let ny : y ≡ i → ⊥ = λ z. apart t weights i y l (sym z) in awaits_along y held_self (ap (λ (z : Held). z.status) (c.others y ny)) (sent c y ny) (back y (c.took y ny))
        ]

        counted : g.status ≡ Find → g.find_count ≡ count (awaited m i) t.count
        counted f = counts_acts {m = x} {p = control (n.way i j)} {q = control rest} (λ y. control (n.way i y)) (λ y. control (n.way y i)) left (λ y. (n.held y).status) fj.0.1 refl (ap control from) left_j left_else refl (F.counts i) kind f
            ∙ count_same (λ y. awaits y g (n.held y).status (control (n.way i y) ++ control (out_to y os)) (left y)) (awaited m i) t.count (λ y l. at y)

        heard_j : HeardAt m (H j c) i j
        heard_j = hears_along j c.self (c.others j nj) (rep_else j c j nj) (sent c j nj) (back j (c.took j nj) ∙ left_j)
            (hears_over kind (subst (λ q. Hears j (n.held i) (n.held j) (γ.own j).reported (control (n.way i j)) (control q)) from (F.heard i j fj.0)))

        heard_own : (y : ℕ) → Edge t i y → HeardAt m (H j c) i y
        heard_own y l = elim (eqb_tells y j) [
          | inl u ↦ subst (λ z. HeardAt m (H j c) i z) (sym u.1) heard_j
          | inr u ↦ let ny : y ≡ i → ⊥ = λ z. apart t weights i y l (sym z) in hears_along y c.self (c.others y ny) (rep_else j c y ny) (sent c y ny) (back y (c.took y ny) ∙ left_else y u.1)
              (hears_beside y (n.held y) (γ.own y).reported (control (n.way i y)) (control (n.way y i)) l.1 u.1 kind (F.heard i y l))
        ]

    woken : {i : ℕ} {g : Held} {os : List Send} (c : Act t n m i woke g os) → FindCount t m (H i c)
    woken {i} c = let w = woken_calm c.does in acts i c (λ z. w.1) (λ f. absurd (w.0 f)) (λ y l f. absurd (w.0 (sym (ap (λ (x : Held). x.status) c.self) ∙ f))) (above_woken c)

    -- a message is put off
    kept : (i j : ℕ) (x : Message) (front back : List Message) → Off t n m i j x front back → FindCount t m γ
    kept i j x front back c = record { calm = λ a. subst (λ (x : Held). (x.status ≡ Find → ⊥) → x.find_count ≡ 0) (sym (c.helds a)) (F.calm a); counts = counted; heard = λ a y l. let r : (γ.own y).reported ≡ (γ.own y).reported = refl in hears_along y (c.helds a) (c.helds y) r (queue a y l) (queue y a (turned t weights a y l)) (F.heard a y l) }
      where
        off_line : Edge t j i → control (m.way j i) ≡ control (n.way j i)
        off_line l = ap control c.after ∙ offs x front back c.yet (subst (λ q. Mode i j (t.weight i j) (view n γ i) (view n γ j) (control (n.way i j)) (control q)) c.before (E i j (turned t weights j i l))) ∙ sym (ap control c.before)

        queue : (a b : ℕ) → Edge t a b → control (m.way a b) ≡ control (n.way a b)
        queue a b l = go (eqb_tells a j) (eqb_tells b i)
          where
            go : ((eqb a j ≡ true) × (a ≡ j)) ⊎ ((eqb a j ≡ false) × (a ≡ j → ⊥)) → ((eqb b i ≡ true) × (b ≡ i)) ⊎ ((eqb b i ≡ false) × (b ≡ i → ⊥)) → control (m.way a b) ≡ control (n.way a b)
            go (inl u) (inl v) = rw (u.1, v.1) (off_line (subst (λ z. Edge t z i) u.1 (subst (λ z. Edge t a z) v.1 l)))
            go (inl u) (inr v) = ap control (c.far a b (λ e. v.1 e.1))
            go (inr u) v = ap control (c.far a b (λ e. u.1 e.0))

        at : (a y : ℕ) → awaited n a y ≡ awaited m a y
        at a y = elim (G.helds a y y).mark [
          | inl e ↦ awaits_basic y (n.held a) (n.held y).status (control (n.way a y)) (control (n.way y a)) e ∙ sym (awaits_basic y (m.held a) (m.held y).status (control (m.way a y)) (control (m.way y a)) (ap (λ (z : Held). z.mark y) (c.helds a) ∙ e))
          | inr l ↦ awaits_along y (c.helds a) (ap (λ (z : Held). z.status) (c.helds y)) (queue a y l) (queue y a (turned t weights a y l))
        ]

        counted : (a : ℕ) → (m.held a).status ≡ Find → (m.held a).find_count ≡ count (awaited m a) t.count
        counted a f = ap (λ (z : Held). z.find_count) (c.helds a) ∙ F.counts a (sym (ap (λ (z : Held). z.status) (c.helds a)) ∙ f) ∙ count_same (awaited n a) (awaited m a) t.count (λ y l. at a y)

    count_of : (v : Event t n m) → FindCount t m (next γ v)
    count_of (act i woke g os c) = woken c
    count_of (act i (got j x) g os c) = taken j x c
    count_of (off i j x front back c) = kept i j x front back c

  -- THE THEOREM: each step keeps the find count
  pub find_count_lem : (n m : Lifted) (γ : Ghost) → Good t n → Rest t n γ → Edges t n γ → FindCount t n γ → (v : Event t n m) → FindCount t m (next γ v)
  find_count_lem n m γ G R E F v = count_of n m γ G (good_step t weights v G) R E F v

  -- the same from what is left to assume
  pub find_count_of : (n m : Lifted) (γ : Ghost) → Good t n → Facts t n γ → Edges t n γ → FindCount t n γ → (v : Event t n m) → FindCount t m (next γ v)
  find_count_of n m γ G R E F v = find_count_lem n m γ G (rest_with_count n γ G R E F) E F v
