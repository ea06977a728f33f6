-- The core edge: a fragment of level 1 or more has an edge inside it whose weight is its name.
use Rattle.std.proofs.Common.{◌≡◌, ℕ, suc, ◌<◌, ◌≤◌, true, false, cond, eqb, ◌⊎◌, List, Some, None, Option, sym, refl, ap, ◌∙◌, subst, inl, inr, arith}
use Rattle.std.proofs.lemmas.Bool.Decides.{eqb_tells}
use Rattle.node.specs.declared.state.Status.TheVariants.{Sleeping}
use Rattle.graph.specs.declared.mark.Mark.TheVariants.{Branch}
use Rattle.graph.specs.Graph.{Graph, Edge, Weights}
use Rattle.protocol.proofs.Base.{Good}
use Rattle.protocol.proofs.Coarser.{level_same, level_else, again_level, again_label, merge_label}
use Rattle.protocol.proofs.Deed.{woke, got, Deed, Alone, WokeTo}
use Rattle.protocol.proofs.Edges.{Edges, first, next, apart}
use Rattle.protocol.proofs.Frame.{Lifted, start, Event, act, off}
use Rattle.protocol.proofs.Ghost.{Turn, decided, Ghost, View, view, idle, starts, absorb, merge, begin, report, decide, change, end, turn, follow, acted, stepped}
use Rattle.protocol.proofs.Held.{Send, Held}
use Rattle.protocol.proofs.Mode.{Sane}
use Rattle.protocol.proofs.Says.{Merged, Chosen, Passed, Says, says_idle, says_absorb, says_merge, says_again, says_begin, says_report, says_decide, says_change, says_end, branch_kept, comes, said}
use Rattle.protocol.proofs.Views.{view_else, view_acted}

-- both ends are current, and the fragment has found over which edge it goes out
pub record Settled (A B : View) : Type 0 where
  pub current_a : A.held.level ≡ A.fragment.level
  pub current_b : B.held.level ≡ B.fragment.level
  pub v : ℕ
  pub least : A.fragment.least ≡ decided (Some v)

-- each leads up to the other
abbrev pub Mutual : ℕ → ℕ → View → View → Type 0
Mutual a b A B = (A.own.up ≡ Some b) × (B.own.up ≡ Some a)

-- the edge from a to b, w heavy, is the core edge of the fragment with label f; A is node a, B node b
pub record Holds (f a b w : ℕ) (A B : View) : Type 0 where
  pub label_a : A.own.label ≡ f
  pub label_b : B.own.label ≡ f
  pub mark_a : A.held.mark b ≡ Branch
  pub mark_b : B.held.mark a ≡ Branch
  pub name : A.fragment.name ≡ w
  pub stands : Mutual a b A B ⊎ Settled A B

pub record CoreEdge (t : Graph) (n : Lifted) (γ : Ghost) (f : ℕ) : Type 0 where
  pub a : ℕ
  pub b : ℕ
  pub edge : Edge t a b
  pub holds : Holds f a b (t.weight a b) (view n γ a) (view n γ b)

-- each fragment of level 1 or more has its core edge
abbrev pub CoreEdges : Graph → Lifted → Ghost → Type 0
CoreEdges t n γ = (x : ℕ) → x < t.count → 1 ≤ (γ.fragment (γ.own x).label).level → CoreEdge t n γ (γ.own x).label

-- at first every fragment is of level 0
pub core_start : (t : Graph) → CoreEdges t start first
core_start t x l h = absurd (omega arith)

pub holds_flip : {f a b w : ℕ} {A B : View} → (A.own.label ≡ B.own.label → A.fragment ≡ B.fragment) → Holds f a b w A B → Holds f b a w B A
holds_flip {f} {a} {b} {w} {A} {B} same h = record { label_a = h.label_b; label_b = h.label_a; mark_a = h.mark_b; mark_b = h.mark_a; name = ap (λ z. z.name) (sym e) ∙ h.name; stands = go h.stands }
  where
    e : A.fragment ≡ B.fragment
    e = same (h.label_a ∙ sym h.label_b)

    go : Mutual a b A B ⊎ Settled A B → Mutual b a B A ⊎ Settled B A
    go (inl u) = inl (u.1, u.0)
    go (inr z) = inr (record { current_a = z.current_b; current_b = z.current_a; v = z.v; least = ap (λ z. z.least) (sym e) ∙ z.least })

-- what a step leaves of a node's part in its core edge, but for where its way up leads
record Keeps (A A' : View) : Type 0 where
  label : A'.own.label ≡ A.own.label
  name : A'.fragment.name ≡ A.fragment.name
  marks : (k : ℕ) → A.held.mark k ≡ Branch → A'.held.mark k ≡ Branch
  settled : (v : ℕ) → A.fragment.least ≡ decided (Some v) → A.held.level ≡ A.fragment.level → (A'.fragment.least ≡ decided (Some v)) × (A'.held.level ≡ A'.fragment.level)

holds_keeps : {f a b w : ℕ} {A A' B B' : View} → (A.own.label ≡ B.own.label → A.fragment ≡ B.fragment) → Keeps A A' → Keeps B B' → (Mutual a b A B → Mutual a b A' B' ⊎ Settled A B) → Holds f a b w A B → Holds f a b w A' B'
holds_keeps {f} {a} {b} {w} {A} {A'} {B} {B'} same k l ups h = record { label_a = k.label ∙ h.label_a; label_b = l.label ∙ h.label_b; mark_a = k.marks b h.mark_a; mark_b = l.marks a h.mark_b; name = k.name ∙ h.name; stands = go h.stands }
  where
    e : A.fragment ≡ B.fragment
    e = same (h.label_a ∙ sym h.label_b)

    still : Settled A B → Mutual a b A' B' ⊎ Settled A' B'
    still z = let p = k.settled z.v z.least z.current_a in let q = l.settled z.v (ap (λ z. z.least) (sym e) ∙ z.least) z.current_b in inr (record { current_a = p.1; current_b = q.1; v = z.v; least = p.0 })

    go : Mutual a b A B ⊎ Settled A B → Mutual a b A' B' ⊎ Settled A' B'
    go (inl u) = elim (ups u) [ inl p ↦ inl p | inr z ↦ still z ]
    go (inr z) = still z

-- a label whose fragment keeps its core edge at a turn of C
abbrev Spared : Turn → View → View → ℕ → Type 0
Spared idle C J l = Unit {0}
Spared (starts me b k z) C J l = l ≡ C.own.label → ⊥
Spared absorb C J l = l ≡ J.own.label → ⊥
Spared (merge w) C J l = (C.own.label ≡ J.own.label) ⊎ ((l ≡ C.own.label → ⊥) × (l ≡ J.own.label → ⊥))
Spared (begin j c r) C J l = Unit {0}
Spared report C J l = Unit {0}
Spared (decide me k) C J l = l ≡ C.own.label → ⊥
Spared (change me k) C J l = Unit {0}
Spared end C J l = Unit {0}

-- who does not act
keeps_else : {t : Graph} {i j : ℕ} {A C J : View} {g : Held} {u : Turn} → Says t i j C J g u → Spared u C J A.own.label → (A.own.label ≡ C.own.label → A.fragment ≡ C.fragment) → Keeps A (follow u C J A)
keeps_else (says_idle a) s e = record { label = grind arith; name = grind arith; marks = λ k x. x; settled = λ v x y. (grind arith, grind arith) }
keeps_else (says_absorb a) s e = record { label = grind arith; name = grind arith; marks = λ k x. x; settled = λ v x y. (grind arith, grind arith) }
keeps_else (says_merge a) s e = record { label = grind arith; name = grind arith; marks = λ k x. x; settled = λ v x y. (grind arith, grind arith) }
keeps_else (says_again a b) s e = record { label = grind arith; name = grind arith; marks = λ k x. x; settled = λ v x y. (grind arith, grind arith) }
keeps_else (says_begin a b) s e = record { label = grind arith; name = grind arith; marks = λ k x. x; settled = λ v x y. (grind arith, grind arith) }
keeps_else (says_report a) s e = record { label = grind arith; name = grind arith; marks = λ k x. x; settled = λ v x y. (grind arith, grind arith) }
keeps_else (says_decide a) s e = record { label = grind arith; name = grind arith; marks = λ k x. x; settled = λ v x y. (grind arith, grind arith) }
keeps_else (says_change a) s e = record { label = grind arith; name = grind arith; marks = λ k x. x; settled = λ v x y. (grind arith, grind arith) }
keeps_else (says_end a b) s e = record { label = grind arith; name = grind arith; marks = λ k x. x; settled = λ v x y. (grind arith, grind arith) }

keeps_starts : (me b : ℕ) (k : Option ℕ) (z : Option ℕ) {A : View} (C J : View) → (A.own.label ≡ C.own.label → ⊥) → Keeps A (follow (starts me b k z) C J A)
keeps_starts me b k z C J d = record { label = grind arith; name = grind arith; marks = λ k x. x; settled = λ v x y. (grind arith, grind arith) }

-- who acts
keeps_acted : {t : Graph} {i j : ℕ} {C J : View} {g : Held} {u : Turn} → Says t i j C J g u → Spared u C J C.own.label → ((k : ℕ) → C.held.mark k ≡ Branch → g.mark k ≡ Branch) → Keeps C (acted u g C J)
keeps_acted (says_idle a) s m = record { label = grind arith; name = grind arith; marks = m; settled = λ v x y. (grind arith, grind arith) }
keeps_acted (says_absorb a) s m = record { label = grind arith; name = grind arith; marks = m; settled = λ v x y. (grind arith, grind arith) }
keeps_acted (says_merge a) s m = record { label = grind arith; name = grind arith; marks = m; settled = λ v x y. (grind arith, grind arith) }
keeps_acted (says_again a b) s m = record { label = grind arith; name = grind arith; marks = m; settled = λ v x y. (grind arith, grind arith) }
keeps_acted (says_begin a b) s m = record { label = grind arith; name = grind arith; marks = m; settled = λ v x y. absurd (omega arith) }
keeps_acted (says_report a) s m = record { label = grind arith; name = grind arith; marks = m; settled = λ v x y. (grind arith, grind arith) }
keeps_acted (says_decide a) s m = absurd (s refl)
keeps_acted (says_change a) s m = record { label = grind arith; name = grind arith; marks = m; settled = λ v x y. (grind arith, grind arith) }
keeps_acted (says_end a b) s m = record { label = grind arith; name = grind arith; marks = m; settled = λ v x y. (grind arith, grind arith) }

-- its way up stays, or it passes the decision on
up_acted : {t : Graph} {i j : ℕ} {C J : View} {g : Held} {u : Turn} → Says t i j C J g u → Spared u C J C.own.label → ((acted u g C J).own.up ≡ C.own.up) ⊎ Passed j C J g
up_acted (says_idle a) s = inl refl
up_acted (says_absorb a) s = inl refl
up_acted (says_merge a) s = inl refl
up_acted (says_again a b) s = inl refl
up_acted (says_begin a b) s = inl (sym a)
up_acted (says_report a) s = inl refl
up_acted (says_decide a) s = absurd (s refl)
up_acted (says_change a) s = inr a
up_acted (says_end a b) s = inl refl

same_some : {a b : ℕ} {w : Option ℕ} → w ≡ Some a → w ≡ Some b → a ≡ b
same_some e f = grind arith

-- the core edge over which the decision is passed on is settled
passed_settled : {j : ℕ} {B C J : View} {g : Held} → B ≡ J → (C.own.label ≡ J.own.label → C.fragment ≡ J.fragment) → Passed j C J g → Settled C B
passed_settled {j} {B} {C} {J} e same p = let f = same p.same in subst (λ z. Settled C z) (sym e) (record { current_a = p.current; current_b = p.levels ∙ p.current ∙ ap (λ z. z.level) f; v = p.v; least = p.least })

holds_acted : {t : Graph} {i j f b w : ℕ} {B C J : View} {g : Held} {u : Turn} → Says t i j C J g u → Spared u C J C.own.label → Spared u C J B.own.label → (C.own.label ≡ B.own.label → C.fragment ≡ B.fragment) → (C.own.label ≡ J.own.label → C.fragment ≡ J.fragment) → (b ≡ j → B ≡ J) →
    ((k : ℕ) → C.held.mark k ≡ Branch → g.mark k ≡ Branch) → Holds f i b w C B → Holds f i b w (acted u g C J) (follow u C J B)
holds_acted {t} {i} {j} {f} {b} {w} {B} {C} {J} {g} {u} S s sb e ej there m h = holds_keeps e (keeps_acted S s m) (keeps_else S sb (λ z. sym (e (sym z)))) ups h
  where
    ups : Mutual i b C B → Mutual i b (acted u g C J) (follow u C J B) ⊎ Settled C B
    ups z = elim (up_acted S s) [ inl p ↦ inl (p ∙ z.0, z.1) | inr p ↦ inr (passed_settled (there (same_some z.0 p.up)) ej p) ]

-- the edge of a merge, and that over which a fragment decides
holds_merge : {i j : ℕ} {C J : View} {g : Held} (w : ℕ) → Merged i j C J g → Holds C.own.label i j w (acted (merge w) g C J) (follow (merge w) C J J)
holds_merge w a = record { label_a = grind arith; label_b = grind arith; mark_a = a.mine; mark_b = a.theirs; name = grind arith; stands = inl (a.up_a, a.up_j) }

holds_decide : {i j w : ℕ} {C J : View} {g : Held} (k : ℕ) → Chosen w i j C J g → Holds C.own.label i j w (acted (decide i k) g C J) (follow (decide i k) C J J)
holds_decide k a = record { label_a = refl; label_b = sym a.same; mark_a = a.mine; mark_b = a.theirs; name = grind arith; stands = inr (record { current_a = grind arith; current_b = grind arith; v = a.v; least = grind arith }) }

along : {f a b w : ℕ} {A A' B B' : View} → A' ≡ A → B' ≡ B → Holds f a b w A B → Holds f a b w A' B'
along p q h = rw (p, q) h

module _ (t : Graph) (weights : Weights t) (n m : Lifted) (γ : Ghost) where
  abbrev label : ℕ → ℕ
  label a = (γ.own a).label

  abbrev level : ℕ → ℕ
  level f = (γ.fragment f).level

  -- the ghost after a turn of i at a message from j
  abbrev after : Turn → ℕ → ℕ → Ghost
  after u i j = stepped u i (view n γ i) (view n γ j) γ

  -- node i acts, at a message from j
  module _ (i j : ℕ) (g : Held) (u : Turn) (l : Edge t i j) (self : m.held i ≡ g) (others : (a : ℕ) → (a ≡ i → ⊥) → m.held a ≡ n.held a) (marks : (k : ℕ) → (n.held i).mark k ≡ Branch → g.mark k ≡ Branch) (S : Says t i j (view n γ i) (view n γ j) g u) where
    abbrev G : Ghost
    G = after u i j

    here : view m G i ≡ acted u g (view n γ i) (view n γ j)
    here = view_acted u i (view n γ j) γ n m g self

    elsewhere : (a : ℕ) → (a ≡ i → ⊥) → view m G a ≡ follow u (view n γ i) (view n γ j) (view n γ a)
    elsewhere a d = view_else u i (view n γ i) (view n γ j) γ m a (n.held a) (others a d) d

    over_first : {f w : ℕ} (a b : ℕ) → a ≡ i → (b ≡ i → ⊥) → Spared u (view n γ i) (view n γ j) f → Holds f a b w (view n γ a) (view n γ b) → Holds f a b w (view m G a) (view m G b)
    over_first {f} {w} a b e d s h = subst (λ z. Holds f z b w (view n γ z) (view n γ b) → Holds f z b w (view m G z) (view m G b)) (sym e) first_acts_lem h
      where
        first_acts_lem : Holds f i b w (view n γ i) (view n γ b) → Holds f i b w (view m G i) (view m G b)
        first_acts_lem h = along here (elsewhere b d) (holds_acted S (subst (λ z. Spared u (view n γ i) (view n γ j) z) (sym h.label_a) s) (subst (λ z. Spared u (view n γ i) (view n γ j) z) (sym h.label_b) s) (λ z. ap γ.fragment z) (λ z. ap γ.fragment z) (λ z. ap (view n γ) z) marks h)

    -- the core edge of a fragment that is spared stays
    carry : {f : ℕ} → Spared u (view n γ i) (view n γ j) f → CoreEdge t n γ f → CoreEdge t m G f
    carry {f} s k = record { a = k.a; b = k.b; edge = k.edge; holds = go (eqb_tells k.a i) (eqb_tells k.b i) }
      where
        W : ℕ
        W = t.weight k.a k.b

        go : ((eqb k.a i ≡ true) × (k.a ≡ i)) ⊎ ((eqb k.a i ≡ false) × (k.a ≡ i → ⊥)) → ((eqb k.b i ≡ true) × (k.b ≡ i)) ⊎ ((eqb k.b i ≡ false) × (k.b ≡ i → ⊥)) → Holds f k.a k.b (t.weight k.a k.b) (view m G k.a) (view m G k.b)
        go (inl p) (inl q) = absurd (apart t weights k.a k.b k.edge (p.1 ∙ sym q.1))
        go (inl p) (inr q) = over_first k.a k.b p.1 q.1 s k.holds
        go (inr p) (inl q) = holds_flip (λ z. ap G.fragment z) (over_first k.b k.a q.1 p.1 s (holds_flip (λ z. ap γ.fragment z) k.holds))
        go (inr p) (inr q) = along (elsewhere k.a p.1) (elsewhere k.b q.1)
            (holds_keeps (λ z. ap γ.fragment z) (keeps_else S (subst (λ z. Spared u (view n γ i) (view n γ j) z) (sym k.holds.label_a) s) (λ z. ap γ.fragment z)) (keeps_else S (subst (λ z. Spared u (view n γ i) (view n γ j) z) (sym k.holds.label_b) s) (λ z. ap γ.fragment z)) (λ z. inl z) k.holds)

    -- the edge of the message becomes the core edge
    fresh : Holds (label i) i j (t.weight i j) (acted u g (view n γ i) (view n γ j)) (follow u (view n γ i) (view n γ j) (view n γ j)) → CoreEdge t m G (label i)
    fresh h = record { a = i; b = j; edge = l; holds = along here (elsewhere j (λ e. apart t weights i j l (sym e))) h }

  above_one : {a b : ℕ} → 1 ≤ a → a ≤ b → 1 ≤ b
  above_one p q = omega arith

  -- a fragment that keeps its label and its level
  plain : {x : ℕ} (γ' : Ghost) → CoreEdges t n γ → x < t.count → (γ'.own x).label ≡ label x → (γ'.fragment (label x)).level ≡ level (label x) → (CoreEdge t n γ (label x) → CoreEdge t m γ' (label x)) → 1 ≤ (γ'.fragment (γ'.own x).label).level → CoreEdge t m γ' (γ'.own x).label
  plain {x} γ' K lx e f k h = subst (λ z. CoreEdge t m γ' z) (sym e) (k (K x lx (subst (λ z. 1 ≤ z) f (subst (λ z. 1 ≤ (γ'.fragment z).level) e h))))

  core_says : {i j : ℕ} {g : Held} {u : Turn} → Edge t i j → m.held i ≡ g → ((a : ℕ) → (a ≡ i → ⊥) → m.held a ≡ n.held a) → ((k : ℕ) → (n.held i).mark k ≡ Branch → g.mark k ≡ Branch) → (n.held i).level ≤ level (label i) → CoreEdges t n γ → Says t i j (view n γ i) (view n γ j) g u → CoreEdges t m (after u i j)
  core_says {i} {j} {g} l self others marks low K (says_idle a) x lx h = plain (after idle i j) K lx refl (level_same level (label x) (label i)) (carry i j g idle l self others marks (says_idle a) tt) h
  core_says {i} {j} {g} l self others marks low K (says_begin {c} {r} a b) x lx h = plain (after (begin j c r) i j) K lx refl (level_same level (label x) (label i)) (carry i j g (begin j c r) l self others marks (says_begin a b) tt) h
  core_says {i} {j} {g} l self others marks low K (says_report a) x lx h = plain (after report i j) K lx refl (level_same level (label x) (label i)) (carry i j g report l self others marks (says_report a) tt) h
  core_says {i} {j} {g} l self others marks low K (says_change {k} a) x lx h = plain (after (change i k) i j) K lx refl (level_same level (label x) (label i)) (carry i j g (change i k) l self others marks (says_change a) tt) h
  core_says {i} {j} {g} l self others marks low K (says_end a b) x lx h = plain (after end i j) K lx refl (level_same level (label x) (label i)) (carry i j g end l self others marks (says_end a b) tt) h
  core_says {i} {j} {g} l self others marks low K (says_again {w} a b) x lx h = plain (after (merge w) i j) K lx (again_label (label x) (label i) (label j) b) (again_level level (suc (n.held i).level) (label x) (label i) (label j) b) (carry i j g (merge w) l self others marks (says_again a b) (inl b)) h
  core_says {i} {j} {g} l self others marks low K (says_absorb a) x lx h = elim (eqb_tells (label x) (label j)) [
    | inl p ↦ subst (λ z. CoreEdge t m (after absorb i j) z) (sym (ap (λ b. cond b (label i) (label x)) p.0)) (carry i j g absorb l self others marks (says_absorb a) a.differ (K i l.0 (above_one a.high low)))
    | inr p ↦ plain (after absorb i j) K lx (ap (λ b. cond b (label i) (label x)) p.0) (level_same level (label x) (label i)) (carry i j g absorb l self others marks (says_absorb a) p.1) h
  ]
  core_says {i} {j} {g} l self others marks low K (says_merge a) x lx h = let e = merge_label (label x) (label i) (label j) a.differ in elim (eqb_tells (label x) (label j)) [
    | inl p ↦ subst (λ z. CoreEdge t m (after (merge (t.weight i j)) i j) z) (sym (e ∙ ap (λ b. cond b (label i) (label x)) p.0)) (fresh i j g (merge (t.weight i j)) l self others marks (says_merge a) (holds_merge (t.weight i j) a))
    | inr p ↦ elim (eqb_tells (label x) (label i)) [
      | inl q ↦ subst (λ z. CoreEdge t m (after (merge (t.weight i j)) i j) z) (sym (e ∙ ap (λ b. cond b (label i) (label x)) p.0 ∙ q.1)) (fresh i j g (merge (t.weight i j)) l self others marks (says_merge a) (holds_merge (t.weight i j) a))
      | inr q ↦ plain (after (merge (t.weight i j)) i j) K lx (e ∙ ap (λ b. cond b (label i) (label x)) p.0) (level_else level (cond (eqb (label i) (label j)) (level (label i)) (suc (n.held i).level)) (label x) (label i) q.1) (carry i j g (merge (t.weight i j)) l self others marks (says_merge a) (inr (q.1, p.1))) h
    ]
  ]
  core_says {i} {j} {g} l self others marks low K (says_decide {k} a) x lx h = elim (eqb_tells (label x) (label i)) [
    | inl q ↦ subst (λ z. CoreEdge t m (after (decide i k) i j) z) (sym q.1) (fresh i j g (decide i k) l self others marks (says_decide a) (holds_decide k a))
    | inr q ↦ plain (after (decide i k) i j) K lx refl (level_same level (label x) (label i)) (carry i j g (decide i k) l self others marks (says_decide a) q.1) h
  ]

  -- who wakes is alone in its fragment, so it is no end of a core edge
  core_starts : {i : ℕ} (me b : ℕ) (w : Option ℕ) (z : Option ℕ) → ((a : ℕ) → (a ≡ i → ⊥) → m.held a ≡ n.held a) → ((a : ℕ) → (a ≡ i → ⊥) → (γ.own a).label ≡ label i → ⊥) → CoreEdges t n γ → CoreEdges t m (after (starts me b w z) i i)
  core_starts {i} me b w z others lone K x lx h = plain (after (starts me b w z) i i) K lx refl (level_same level (label x) (label i)) go h
    where
      go : CoreEdge t n γ (label x) → CoreEdge t m (after (starts me b w z) i i) (label x)
      go k = record { a = k.a; b = k.b; edge = k.edge; holds = along (beside k.a na) (beside k.b nb) (holds_keeps (λ u. ap γ.fragment u) (keeps_starts me b w z (view n γ i) (view n γ i) (lone k.a na)) (keeps_starts me b w z (view n γ i) (view n γ i) (lone k.b nb)) (λ u. inl u) k.holds) }
        where
          same : (γ.own k.a).label ≡ (γ.own k.b).label
          same = k.holds.label_a ∙ sym k.holds.label_b

          na : k.a ≡ i → ⊥
          na e = lone k.b (λ f. apart t weights k.a k.b k.edge (e ∙ sym f)) (sym same ∙ ap (λ c. (γ.own c).label) e)

          nb : k.b ≡ i → ⊥
          nb e = lone k.a na (same ∙ ap (λ c. (γ.own c).label) e)

          beside : (a : ℕ) → (a ≡ i → ⊥) → view m (after (starts me b w z) i i) a ≡ follow (starts me b w z) (view n γ i) (view n γ i) (view n γ a)
          beside a d = view_else (starts me b w z) i (view n γ i) (view n γ i) γ m a (n.held a) (others a d) d

  core_woke : {i : ℕ} {o g : Held} {os : List Send} → ((a : ℕ) → (a ≡ i → ⊥) → m.held a ≡ n.held a) → ((a : ℕ) → (a ≡ i → ⊥) → (γ.own a).label ≡ label i → ⊥) → CoreEdges t n γ → (d : Deed t i o woke g os) → CoreEdges t m (after (turn d) i i)
  core_woke {i} others lone K (Alone c1) = core_starts i i None None others lone K
  core_woke {i} others lone K (WokeTo k c1) = core_starts i k (Some k) (Some (t.weight i k)) others lone K

  core_off : ((a : ℕ) → m.held a ≡ n.held a) → CoreEdges t n γ → CoreEdges t m γ
  core_off helds K x lx h = let k = K x lx h in record { a = k.a; b = k.b; edge = k.edge; holds = along (same k.a) (same k.b) k.holds }
    where
      same : (a : ℕ) → view m γ a ≡ view n γ a
      same a = λ k. record { held = helds a k; own = γ.own a; fragment = γ.fragment (γ.own a).label }

module _ (t : Graph) (weights : Weights t) where
  -- each step keeps the core edges
  pub core_step : (n m : Lifted) (γ : Ghost) → Good t n → ((a y : ℕ) → Edge t a y → Sane y (view n γ a)) → ((i a : ℕ) → (n.held i).status ≡ Sleeping → (a ≡ i → ⊥) → (γ.own a).label ≡ (γ.own i).label → ⊥) → Edges t n γ → CoreEdges t n γ → (v : Event t n m) → CoreEdges t m (next γ v)
  core_step n m γ good sane lone E K (act i woke g os c) = core_woke t weights n m γ c.others (λ a. lone i a c.ready.awake) K c.does
  core_step n m γ good sane lone E K (act i (got j x) g os c) = let l = comes t weights n m γ good sane E c in core_says t weights n m γ l c.self c.others (branch_kept c.does) (sane i j l).low K (said t weights n m γ good sane E c)
  core_step n m γ good sane lone E K (off i j x front back c) = core_off t weights n m γ c.helds K
