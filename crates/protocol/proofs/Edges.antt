-- Every edge stays in one of its ways.
use Rattle.std.proofs.Common.{◌≡◌, ℕ, ◌-◌, ◌≤◌, true, false, eqb, ◌⊎◌, List, [], ◌∷◌, ◌++◌, Some, None, sym, refl, ap, ◌∙◌, subst, inl, inr, arith, Option}
use Rattle.std.proofs.lemmas.Bool.Decides.{eqb_tells}
use Rattle.message.specs.declared.messages.Message.{Message}
use Rattle.message.specs.declared.messages.Message.TheVariants.{Connect, Initiate, Test, Accept, Reject, Report, Change}
use Rattle.node.specs.declared.state.Status.TheVariants.{Sleeping}
use Rattle.graph.specs.Graph.{Graph, Edge, Weights}
use Rattle.protocol.proofs.Control.{control1, control, control-++, control_off}
use Rattle.protocol.proofs.Deed.{In, woke, got, Deed, Alone, WokeTo, Absorbs, Merges, Begins, Searches-ask, Searches-report, Searches-wait, Accepts, Rejects, Crosses-ask, Crosses-report, Crosses-wait, Accepted-report, Accepted-wait, Rejected-ask, Rejected-report, Rejected-wait, Hears-report, Hears-wait, Decides-passes, Decides-joins, Halts, Rests, Changed-passes, Changed-joins}
use Rattle.protocol.proofs.Deeds.{Quiet, Knows, Suits, acts_over, acts_beside, Fresh, acts_wake}
use Rattle.protocol.proofs.Else.{Labels, Apart, else_absorb, else_merge, else_again, else_decide, else_end, else_starts, else_idle, else_begin, else_report, else_change}
use Rattle.protocol.proofs.Outs.{out_to}
use Rattle.protocol.proofs.Frame.{Later, Lifted, start, Took, Act, Off, Event, act, off}
use Rattle.protocol.proofs.Ghost.{undecided, Ghost, View, view, turn, follow, stepped}
use Rattle.protocol.proofs.Heads.{head_absorb, head_merge, head_turn, head_end, head_change, alone_connect, alone_report}
use Rattle.protocol.proofs.Held.{Send, Held}
use Rattle.protocol.proofs.Mode.{tells, Mode, free, offered, offers, crossing, took, taken, merged, ahead, behind, core, told, above, below, Sane}
use Rattle.protocol.proofs.Views.{view_else, view_acted}

-- an edge that the node that acts is not an end of
aside : {t : Graph} {i j x y w : ℕ} {A B C J : View} {m : Message} {g : Held} {os : List Send} {p q pj qj : List Message} → Knows t i j C J pj qj → Sane y A → Sane x B → Labels A B C J → (w ≡ t.weight i j → ⊥) → Apart x y i j →
    Mode i j (t.weight i j) C J pj (control1 m ++ qj) → (d : Deed t i C.held (got j m) g os) → Mode x y w A B p q → Mode x y w (follow (turn d) C J A) (follow (turn d) C J B) p q
aside {t} {i} {j} {C = C} {J} kj sa sb lab nw ap ej (Absorbs {l} c1) e = let a = head_absorb c1 ej in else_absorb lab sa sb nw ap kj.mine.low a.low a.current a.least a.sends a.gets a.differ e
aside {t} {i} {j} {C = C} {J} kj sa sb lab nw ap ej (Merges {l} c1 c2) e = elim (head_merge c1 c2 ej) [ inl a ↦ else_merge lab sa sb nw ap a.current_a a.least_a a.levels a.current a.least a.sends a.gets a.sends_a a.gets_a a.differ e | inr u ↦ else_again (t.weight i j) lab u e ]
aside {t} {i} {j} {C = C} {J} kj sa sb lab nw ap ej (Begins {l} {f} {s} c1) e = else_begin j (eqb (t.weight i j) f) false C J lab.ac lab.bc e
aside {t} {i} {j} {C = C} {J} kj sa sb lab nw ap ej (Searches-ask {l} {f} k c1) e = else_begin j (eqb (t.weight i j) f) false C J lab.ac lab.bc e
aside {t} {i} {j} {C = C} {J} kj sa sb lab nw ap ej (Searches-report {l} {f} c1 c2 c3) e = else_begin j (eqb (t.weight i j) f) true C J lab.ac lab.bc e
aside {t} {i} {j} {C = C} {J} kj sa sb lab nw ap ej (Searches-wait {l} {f} c1 c2) e = else_begin j (eqb (t.weight i j) f) false C J lab.ac lab.bc e
aside {t} {i} {j} {C = C} {J} kj sa sb lab nw ap ej (Accepts {l} {f} c1 c2) e = else_idle C J lab.ac lab.bc e
aside {t} {i} {j} {C = C} {J} kj sa sb lab nw ap ej (Rejects {l} {f} c1 c2 c3) e = else_idle C J lab.ac lab.bc e
aside {t} {i} {j} {C = C} {J} kj sa sb lab nw ap ej (Crosses-ask {l} {f} k c1 c2 c3 c4) e = else_idle C J lab.ac lab.bc e
aside {t} {i} {j} {C = C} {J} kj sa sb lab nw ap ej (Crosses-report {l} {f} c1 c2 c3 c4 c5 c6) e = else_report C J lab.ac lab.bc e
aside {t} {i} {j} {C = C} {J} kj sa sb lab nw ap ej (Crosses-wait {l} {f} c1 c2 c3 c4 c5) e = else_idle C J lab.ac lab.bc e
aside {t} {i} {j} {C = C} {J} kj sa sb lab nw ap ej (Accepted-report c1 c2) e = else_report C J lab.ac lab.bc e
aside {t} {i} {j} {C = C} {J} kj sa sb lab nw ap ej (Accepted-wait c1) e = else_idle C J lab.ac lab.bc e
aside {t} {i} {j} {C = C} {J} kj sa sb lab nw ap ej (Rejected-ask k c1) e = else_idle C J lab.ac lab.bc e
aside {t} {i} {j} {C = C} {J} kj sa sb lab nw ap ej (Rejected-report c1 c2 c3) e = else_report C J lab.ac lab.bc e
aside {t} {i} {j} {C = C} {J} kj sa sb lab nw ap ej (Rejected-wait c1 c2) e = else_idle C J lab.ac lab.bc e
aside {t} {i} {j} {C = C} {J} kj sa sb lab nw ap ej (Hears-report {w} c1 c2 c3) e = else_report C J lab.ac lab.bc e
aside {t} {i} {j} {C = C} {J} kj sa sb lab nw ap ej (Hears-wait {w} c1 c2) e = else_idle C J lab.ac lab.bc e
aside {t} {i} {j} {C = C} {J} kj sa sb lab nw ap ej (Decides-passes {w} k c1 c2 c3 c4 c5) e = let d = head_turn kj.mine c1 c2 c3 ej in else_decide i k lab sa sb nw d.least d.name e
aside {t} {i} {j} {C = C} {J} kj sa sb lab nw ap ej (Decides-joins {w} k c1 c2 c3 c4 c5) e = let d = head_turn kj.mine c1 c2 c3 ej in else_decide i k lab sa sb nw d.least d.name e
aside {t} {i} {j} {C = C} {J} kj sa sb lab nw ap ej (Halts {w} c1 c2 c3 c4) e = let d = head_end kj.mine c1 c2 c3 c4 ej in else_end lab sa sb nw d.least d.name e
aside {t} {i} {j} {C = C} {J} kj sa sb lab nw ap ej (Rests {w} c1 c2 c3 c4) e = else_idle C J lab.ac lab.bc e
aside {t} {i} {j} {C = C} {J} kj sa sb lab nw ap ej (Changed-passes k c1 c2) e = let d = head_change kj.same ej in else_change i k C J lab.ac lab.bc ap d.sends d.gets e
aside {t} {i} {j} {C = C} {J} kj sa sb lab nw ap ej (Changed-joins k c1 c2) e = let d = head_change kj.same ej in else_change i k C J lab.ac lab.bc ap d.sends d.gets e

aside_wake : {t : Graph} {i x y w : ℕ} {A B : View} (C J : View) {g : Held} {os : List Send} {p q : List Message} → (A.own.label ≡ C.own.label → ⊥) → (B.own.label ≡ C.own.label → ⊥) → (d : Deed t i C.held woke g os) → Mode x y w A B p q → Mode x y w (follow (turn d) C J A) (follow (turn d) C J B) p q
aside_wake {t} {i} C J a b (Alone c1) e = else_starts i i None None C J a b e
aside_wake {t} {i} C J a b (WokeTo k c1) e = else_starts i k (Some k) (Some (t.weight i k)) C J a b e

-- the two ends change places
pub flip : {x y w : ℕ} {A B : View} {p q : List Message} → (A.own.label ≡ B.own.label → A.fragment ≡ B.fragment) → Mode x y w A B p q → Mode y x w B A q p
flip {x} {y} {w} {A} {B} {p} {q} same (free v) = free (record { mark_a = v.mark_b; mark_b = v.mark_a; out = v.back; back = v.out; rejected_a = λ u. sym (v.rejected_b u); rejected_b = λ u. sym (v.rejected_a u) })
flip {x} {y} {w} {A} {B} {p} {q} same (offered v) = offers v
flip {x} {y} {w} {A} {B} {p} {q} same (offers v) = offered v
flip {x} {y} {w} {A} {B} {p} {q} same (crossing v) = crossing (record { mark_a = v.mark_b; mark_b = v.mark_a; out = v.back; back = v.out; differ = λ u. v.differ (sym u); up_a = v.up_b; up_b = v.up_a; changed_a = v.changed_b; changed_b = v.changed_a; current_a = v.current_b; current_b = v.current_a; least_a = v.least_b; least_b = v.least_a; levels = sym v.levels; sends_a = v.sends_b; gets_a = v.gets_b; sends_b = v.sends_a; gets_b = v.gets_a })
flip {x} {y} {w} {A} {B} {p} {q} same (took v) = taken v
flip {x} {y} {w} {A} {B} {p} {q} same (taken v) = took v
flip {x} {y} {w} {A} {B} {p} {q} same (merged v) = merged (record { joint = grind arith; out = v.back; back = v.out; changed_a = v.changed_b; changed_b = v.changed_a; levels = sym v.levels; stale = grind arith })
flip {x} {y} {w} {A} {B} {p} {q} same (ahead v) = behind v
flip {x} {y} {w} {A} {B} {p} {q} same (behind v) = ahead v
flip {x} {y} {w} {A} {B} {p} {q} same (core v) = core (record { mark_a = v.mark_b; mark_b = v.mark_a; same = sym v.same; up_a = v.up_b; up_b = v.up_a; in_search_a = v.in_search_b; in_search_b = v.in_search_a; parent_a = v.parent_b; parent_b = v.parent_a; changed_a = v.changed_b; changed_b = v.changed_a; levels = sym v.levels; name_a = v.name_b; name_b = v.name_a; current_a = grind arith; out = v.back; back = v.out; least = grind arith })
flip {x} {y} {w} {A} {B} {p} {q} same (tells v) = told v
flip {x} {y} {w} {A} {B} {p} {q} same (told v) = tells v
flip {x} {y} {w} {A} {B} {p} {q} same (above v) = below v
flip {x} {y} {w} {A} {B} {p} {q} same (below v) = above v

along : {x y w : ℕ} {A A' B B' : View} {p p' q q' : List Message} → A' ≡ A → B' ≡ B → p' ≡ p → q' ≡ q → Mode x y w A B p q → Mode x y w A' B' p' q'
along a b c d e = rw (a, b, c, d) e

-- what is put off leaves the rest as it is
pub offs : {x y w : ℕ} {A B : View} {p : List Message} (m : Message) (front back : List Message) → Later y m A.held → Mode x y w A B p (control (m ∷ (front ++ back))) → control (front ++ (m ∷ back)) ≡ control (m ∷ (front ++ back))
offs (Connect l) front back u e = control_off (Connect l) front back (inr (alone_connect u.0 e))
offs (Initiate l f s) front back u e = absurd u
offs (Test l f) front back u e = control_off (Test l f) front back (inl refl)
offs Accept front back u e = absurd u
offs Reject front back u e = absurd u
offs (Report r) front back u e = control_off (Report r) front back (inr (alone_report u.0 u.1 e))
offs Change front back u e = absurd u

-- the other invariants, as far as they are used here
pub record Rest (t : Graph) (n : Lifted) (γ : Ghost) : Type 0 where
  pub sane : (a y : ℕ) → Edge t a y → Sane y (view n γ a)
  pub knows : (i y : ℕ) → Edge t i y → ((n.held i).status ≡ Sleeping → ⊥) → Knows t i y (view n γ i) (view n γ y) (control (n.way i y)) (control (n.way y i))
  pub suits : (i j : ℕ) (x : Message) (rest : List Message) → n.way j i ≡ x ∷ rest → Edge t i j × Suits x (view n γ i) (view n γ j)
  pub fresh : (i y : ℕ) → (n.held i).status ≡ Sleeping → Edge t i y → Fresh y (view n γ i) (view n γ y)
  pub lone : (i a : ℕ) → (n.held i).status ≡ Sleeping → (a ≡ i → ⊥) → (γ.own a).label ≡ (γ.own i).label → ⊥
  pub late : (i j y : ℕ) (r : Option ℕ) (rest : List Message) → n.way j i ≡ Report r ∷ rest → ((n.held i).parent ≡ Some j → ⊥) → (n.held i).find_count - 1 ≡ 0 → (y ≡ j → ⊥) → Edge t i y → Quiet i y (view n γ i) (view n γ y) (control (n.way i y)) (control (n.way y i))

abbrev pub At : Graph → Lifted → Ghost → ℕ → ℕ → Type 0
At t n γ a b = Mode a b (t.weight a b) (view n γ a) (view n γ b) (control (n.way a b)) (control (n.way b a))

abbrev pub Edges : Graph → Lifted → Ghost → Type 0
Edges t n γ = (a b : ℕ) → Edge t a b → At t n γ a b

abbrev pub first : Ghost
first = record { own = λ a. record { label = a; up = None; changed = false; reported = false; in_search = true; rank = 1 }; fragment = λ l. record { level = 0; name = 0; least = undecided; sends = 0; gets = 0 } }

-- at first every edge is free
pub edges_start : (t : Graph) → Edges t start first
edges_start t a b l = free (grind arith)

pub labels : (n : Lifted) (γ : Ghost) (a b c j : ℕ) → Labels (view n γ a) (view n γ b) (view n γ c) (view n γ j)
labels n γ a b c j = record { ab = λ e. ap γ.fragment e; ac = λ e. ap γ.fragment e; aj = λ e. ap γ.fragment e; bc = λ e. ap γ.fragment e; bj = λ e. ap γ.fragment e }

pub shorter : {t : Graph} {i y : ℕ} {A B : View} {p q : List Message} (m : Message) → Knows t i y A B p (control1 m ++ q) → Knows t i y A B p q
shorter m k = record { inside = k.inside; mine = k.mine; theirs = k.theirs; same = k.same; long = k.long; inner = k.inner; best = k.best; asks = k.asks; quiet = λ a b d c. ((k.quiet a b d c).0, tail m (k.quiet a b d c).1, (k.quiet a b d c).2, (k.quiet a b d c).3) }
  where
    tail : (m : Message) {q : List Message} → control1 m ++ q ≡ [] → q ≡ []
    tail (Connect l) e = grind arith
    tail (Initiate l f s) e = grind arith
    tail (Test l f) e = e
    tail Accept e = e
    tail Reject e = e
    tail (Report r) e = grind arith
    tail Change e = grind arith

-- the ghost after a step
abbrev pub next : {t : Graph} {n m : Lifted} → Ghost → Event t n m → Ghost
next {t} {n} γ (act i woke g os c) = stepped (turn c.does) i (view n γ i) (view n γ i) γ
next {t} {n} γ (act i (got j x) g os c) = stepped (turn c.does) i (view n γ i) (view n γ j) γ
next γ (off i j x front back c) = γ

module _ (t : Graph) (weights : Weights t) where
  pub apart : (a b : ℕ) → Edge t a b → a ≡ b → ⊥
  apart a b l e = let z : t.weight a b ≡ 0 = rw e (weights.own b) in let o : 1 ≤ t.weight a b = l.2 in omega arith

  pub turned : (a b : ℕ) → Edge t a b → Edge t b a
  turned a b l = (l.1, l.0, rw (weights.both b a) l.2)

  module _ (n m : Lifted) (γ : Ghost) (R : Rest t n γ) (E : Edges t n γ) where
    abbrev G : {i : ℕ} {inp : In} {g : Held} {os : List Send} → (j : ℕ) → Act t n m i inp g os → Ghost
    G {i} j c = stepped (turn c.does) i (view n γ i) (view n γ j) γ

    -- node i takes x from j, and b is another end
    taken_at : {i : ℕ} {g : Held} {os : List Send} (j : ℕ) (x : Message) (c : Act t n m i (got j x) g os) (b : ℕ) → Edge t i b → At t m (G j c) i b
    taken_at {i} {g} {os} j x c b l = go (c.took b nb)
      where
        nb : b ≡ i → ⊥
        nb e = apart i b l (sym e)

        rest : List Message
        rest = c.ready.source.0

        from : n.way j i ≡ x ∷ rest
        from = c.ready.source.1

        fj : Edge t i j × Suits x (view n γ i) (view n γ j)
        fj = R.suits i j x rest from

        nj : j ≡ i → ⊥
        nj e = apart i j fj.0 (sym e)

        ej : Mode i j (t.weight i j) (view n γ i) (view n γ j) (control (n.way i j)) (control1 x ++ control rest)
        ej = subst (λ q. Mode i j (t.weight i j) (view n γ i) (view n γ j) (control (n.way i j)) (control q)) from (E i j fj.0)

        kj : Knows t i j (view n γ i) (view n γ j) (control (n.way i j)) (control1 x ++ control rest)
        kj = subst (λ q. Knows t i j (view n γ i) (view n γ j) (control (n.way i j)) (control q)) from (R.knows i j fj.0 c.ready.awake)

        sent : (y : ℕ) → (y ≡ i → ⊥) → control (m.way i y) ≡ control (n.way i y) ++ control (out_to y os)
        sent y ny = ap control (c.sent y ny) ∙ control-++ (n.way i y) (out_to y os)

        left : Took j (got j x) (n.way j i) (m.way j i) → m.way j i ≡ rest
        left (inl (u, e)) = tails (sym e ∙ from)
          where
            tails : {a b : Message} {p q : List Message} → a ∷ p ≡ b ∷ q → p ≡ q
            tails e = cc
        left (inr (u, e)) = absurd (u refl)

        over : At t m (G j c) i j
        over = along (view_acted (turn c.does) i (view n γ j) γ n m g c.self) (view_else (turn c.does) i (view n γ i) (view n γ j) γ m j (n.held j) (c.others j nj) nj) (sent j nj) (ap control (left (c.took j nj)))
            (acts_over (shorter x kj) c.ready.awake fj.1 c.does ej)

        late : (b ≡ j → ⊥) → (r : Option ℕ) → x ≡ Report r → ((n.held i).parent ≡ Some j → ⊥) → (n.held i).find_count - 1 ≡ 0 → Quiet i b (view n γ i) (view n γ b) (control (n.way i b)) (control (n.way b i))
        late d r e u z = R.late i j b r rest (from ∙ ap (λ y. y ∷ rest) e) u z d l

        differ : (b ≡ j → ⊥) → t.weight i b ≡ t.weight i j → ⊥
        differ d e = elim (weights.differ i b i j l fj.0 e) [ inl u ↦ d u.1 | inr u ↦ nb u.1 ]

        go : Took b (got j x) (n.way b i) (m.way b i) → At t m (G j c) i b
        go (inl (u, e)) = subst (λ y. At t m (G j c) i y) u over
        go (inr (u, e)) = let d : b ≡ j → ⊥ = λ z. u (sym z) in
            along (view_acted (turn c.does) i (view n γ j) γ n m g c.self) (view_else (turn c.does) i (view n γ i) (view n γ j) γ m b (n.held b) (c.others b nb) nb) (sent b nb) (ap control e)
            (acts_beside (R.knows i b l c.ready.awake) (shorter x kj) fj.1 (λ u. nj (sym u)) d (differ d) (labels n γ i b i j) (late d) ej c.does (E i b l))

    -- neither end acts
    taken_far : {i : ℕ} {g : Held} {os : List Send} (j : ℕ) (x : Message) (c : Act t n m i (got j x) g os) (a b : ℕ) → (a ≡ i → ⊥) → (b ≡ i → ⊥) → Edge t a b → At t m (G j c) a b
    taken_far {i} {g} {os} j x c a b na nb l =
        along (view_else (turn c.does) i (view n γ i) (view n γ j) γ m a (n.held a) (c.others a na) na) (view_else (turn c.does) i (view n γ i) (view n γ j) γ m b (n.held b) (c.others b nb) nb) (ap control (c.far a b na nb)) (ap control (c.far b a nb na))
        (aside (shorter x kj) (R.sane a b l) (R.sane b a (turned a b l)) (labels n γ a b i j) differ (λ u v. nb v, λ u v. na v) ej c.does (E a b l))
      where
        rest : List Message
        rest = c.ready.source.0

        from : n.way j i ≡ x ∷ rest
        from = c.ready.source.1

        fj : Edge t i j × Suits x (view n γ i) (view n γ j)
        fj = R.suits i j x rest from

        ej : Mode i j (t.weight i j) (view n γ i) (view n γ j) (control (n.way i j)) (control1 x ++ control rest)
        ej = subst (λ q. Mode i j (t.weight i j) (view n γ i) (view n γ j) (control (n.way i j)) (control q)) from (E i j fj.0)

        kj : Knows t i j (view n γ i) (view n γ j) (control (n.way i j)) (control1 x ++ control rest)
        kj = subst (λ q. Knows t i j (view n γ i) (view n γ j) (control (n.way i j)) (control q)) from (R.knows i j fj.0 c.ready.awake)

        differ : t.weight a b ≡ t.weight i j → ⊥
        differ e = elim (weights.differ a b i j l fj.0 e) [ inl u ↦ na u.0 | inr u ↦ nb u.1 ]

    -- over every edge of node i, and then over every other
    all : {i : ℕ} {inp : In} {g : Held} {os : List Send} (j : ℕ) (c : Act t n m i inp g os) → ((b : ℕ) → Edge t i b → At t m (G j c) i b) → ((a b : ℕ) → (a ≡ i → ⊥) → (b ≡ i → ⊥) → Edge t a b → At t m (G j c) a b) → Edges t m (G j c)
    all {i} j c f h a b l = go (eqb_tells a i) (eqb_tells b i)
      where
        back : Edge t a i → At t m (G j c) a i
        back l = subst (λ w. Mode a i w (view m (G j c) a) (view m (G j c) i) (control (m.way a i)) (control (m.way i a))) (weights.both i a) (flip (λ e. ap (G j c).fragment e) (f a (turned a i l)))

        go : ((eqb a i ≡ true) × (a ≡ i)) ⊎ ((eqb a i ≡ false) × (a ≡ i → ⊥)) → ((eqb b i ≡ true) × (b ≡ i)) ⊎ ((eqb b i ≡ false) × (b ≡ i → ⊥)) → At t m (G j c) a b
        go (inl u) v = subst (λ z. At t m (G j c) z b) (sym u.1) (f b (subst (λ z. Edge t z b) u.1 l))
        go (inr u) (inl v) = subst (λ z. At t m (G j c) a z) (sym v.1) (back (subst (λ z. Edge t a z) v.1 l))
        go (inr u) (inr v) = h a b u.1 v.1 l

    woken_at : {i : ℕ} {g : Held} {os : List Send} (c : Act t n m i woke g os) (b : ℕ) → Edge t i b → At t m (G i c) i b
    woken_at {i} {g} {os} c b l =
        along (view_acted (turn c.does) i (view n γ i) γ n m g c.self) (view_else (turn c.does) i (view n γ i) (view n γ i) γ m b (n.held b) (c.others b nb) nb) (ap control (c.sent b nb) ∙ control-++ (n.way i b) (out_to b os)) (ap control (c.took b nb))
        (acts_wake (view n γ i) (R.fresh i b c.ready.awake l) c.does (E i b l))
      where
        nb : b ≡ i → ⊥
        nb e = apart i b l (sym e)

    woken_far : {i : ℕ} {g : Held} {os : List Send} (c : Act t n m i woke g os) (a b : ℕ) → (a ≡ i → ⊥) → (b ≡ i → ⊥) → Edge t a b → At t m (G i c) a b
    woken_far {i} {g} {os} c a b na nb l =
        along (view_else (turn c.does) i (view n γ i) (view n γ i) γ m a (n.held a) (c.others a na) na) (view_else (turn c.does) i (view n γ i) (view n γ i) γ m b (n.held b) (c.others b nb) nb) (ap control (c.far a b na nb)) (ap control (c.far b a nb na))
        (aside_wake (view n γ i) (view n γ i) (R.lone i a c.ready.awake na) (R.lone i b c.ready.awake nb) c.does (E a b l))

    -- a message is put off
    kept : (i j : ℕ) (x : Message) (front back : List Message) → Off t n m i j x front back → Edges t m γ
    kept i j x front back c a b l = along (same a) (same b) (queue a b l) (queue b a (turned a b l)) (E a b l)
      where
        same : (a : ℕ) → view m γ a ≡ view n γ a
        same a = λ k. record { held = c.helds a k; own = γ.own a; fragment = γ.fragment (γ.own a).label }

        off_line : Edge t j i → control (m.way j i) ≡ control (n.way j i)
        off_line l = ap control c.after ∙ offs x front back c.yet (subst (λ q. Mode i j (t.weight i j) (view n γ i) (view n γ j) (control (n.way i j)) (control q)) c.before (E i j (turned j i l))) ∙ sym (ap control c.before)

        queue : (a b : ℕ) → Edge t a b → control (m.way a b) ≡ control (n.way a b)
        queue a b l = go (eqb_tells a j) (eqb_tells b i)
          where
            go : ((eqb a j ≡ true) × (a ≡ j)) ⊎ ((eqb a j ≡ false) × (a ≡ j → ⊥)) → ((eqb b i ≡ true) × (b ≡ i)) ⊎ ((eqb b i ≡ false) × (b ≡ i → ⊥)) → control (m.way a b) ≡ control (n.way a b)
            go (inl u) (inl v) = rw (u.1, v.1) (off_line (subst (λ z. Edge t z i) u.1 (subst (λ z. Edge t a z) v.1 l)))
            go (inl u) (inr v) = ap control (c.far a b (λ e. v.1 e.1))
            go (inr u) v = ap control (c.far a b (λ e. u.1 e.0))

    stays_of : (v : Event t n m) → Edges t m (next γ v)
    stays_of (act i woke g os c) = all i c (woken_at c) (woken_far c)
    stays_of (act i (got j x) g os c) = all j c (taken_at j x c) (taken_far j x c)
    stays_of (off i j x front back c) = kept i j x front back c

  -- THE THEOREM: each step keeps every edge in one of its ways
  pub stays : (n m : Lifted) (γ : Ghost) → Rest t n γ → Edges t n γ → (s : Event t n m) → Edges t m (next γ s)
  stays n m γ R E s = stays_of n m γ R E s
