-- A fragment that has decided knows of the lightest edge that leads out of it; who was not asked knows of one that serves as well.
use Rattle.std.proofs.Common.{◌≡◌, ℕ, ◌<◌, ◌≤◌, Bool, true, false, cond, ◌||◌, eqb, ◌⊎◌, List, ◌∷◌, Some, None, sym, refl, ◌∙◌, subst, inl, inr, arith, Option}
use Rattle.message.specs.declared.messages.Message.{Message}
use Rattle.message.specs.declared.messages.Message.TheVariants.{Connect, Report}
use Rattle.node.specs.declared.state.Status.TheVariants.{Find}
use Rattle.graph.specs.declared.mark.Mark.{Mark}
use Rattle.graph.specs.declared.mark.Mark.TheVariants.{Basic, Branch, Rejected}
use Rattle.node.specs.Rules.{lighter}
use Rattle.graph.specs.Graph.{Graph, Edge}
use Rattle.protocol.proofs.Chain.{bool}
use Rattle.protocol.proofs.Ghost.{Turn, Least, undecided, decided, View, idle, starts, absorb, merge, begin, report, decide, change, end, moves, enters, fragments, inside, follow, acted}
use Rattle.protocol.proofs.Held.{Held}
use Rattle.protocol.proofs.Mode.{tells, Mode, free, offered, offers, crossing, took, taken, merged, ahead, behind, core, told, above, below, Sane}

-- no edge that leads out is lighter than what the fragment has decided on; the edge from A to B weighs w
abbrev pub Lightest : ℕ → View → View → Type 0
Lightest w A B = (v : Option ℕ) → (A.own.label ≡ B.own.label → ⊥) → A.fragment.least ≡ decided v → lighter (Some w) v ≡ false

-- once it is decided, who was asked is current and has reported
abbrev pub Answered : View → Type 0
Answered A = (v : Option ℕ) → A.fragment.least ≡ decided v → 1 ≤ A.fragment.level → A.own.in_search ≡ true → (A.held.level ≡ A.fragment.level) × (A.own.reported ≡ true)

-- it was asked, and has reported of an edge
pub record Settled (A : View) : Type 0 where
  pub in_search : A.own.in_search ≡ true
  pub current : A.held.level ≡ A.fragment.level
  pub reported : A.own.reported ≡ true
  pub finite : A.held.best_weight ≡ None → ⊥

-- x need not be asked: z of its fragment has reported of an edge that is no heavier than any that leads out at x
pub record Spared (t : Graph) (V : ℕ → View) (x z : ℕ) : Type 0 where
  pub label : (V z).own.label ≡ (V x).own.label
  pub settled : Settled (V z)
  pub least : (y : ℕ) → Edge t x y → ((V x).own.label ≡ (V y).own.label → ⊥) → lighter (Some (t.weight x y)) (V z).held.best_weight ≡ false

-- THE INVARIANT, of all nodes as V shows them
pub record Outward (t : Graph) (V : ℕ → View) : Type 0 where
  pub lightest : (x y : ℕ) → Edge t x y → Lightest (t.weight x y) (V x) (V y)
  pub answered : (x : ℕ) → Answered (V x)
  pub spared : (x : ℕ) → (V x).fragment.least ≡ undecided → (V x).own.in_search ≡ false → (z : ℕ) × Spared t V x z

-- who was asked and has reported stays so, with the same best edge
abbrev pub Stays : View → View → Type 0
Stays A A' = A.own.in_search ≡ true → A.held.level ≡ A.fragment.level → A.own.reported ≡ true → (A'.held.level ≡ A.held.level) × (A'.own.reported ≡ true) × (A'.held.best_weight ≡ A.held.best_weight)

-- what becomes of A by a turn of C, as far as it matters here
pub record Steps (u : Turn) (C J A A' : View) : Type 0 where
  pub label : A'.own.label ≡ cond (moves u C J A.own.label) C.own.label A.own.label
  pub in_search : A'.own.in_search ≡ cond (moves u C J A.own.label) (enters u C) A.own.in_search
  pub level : A'.fragment.level ≡ cond (inside u C J A.own.label) (fragments u C J).level A.fragment.level
  pub least : A'.fragment.least ≡ cond (inside u C J A.own.label) (fragments u C J).least A.fragment.least
  pub keeps : Stays A A'

-- nothing becomes of it
pub record Alike (A A' : View) : Type 0 where
  pub label : A'.own.label ≡ A.own.label
  pub in_search : A'.own.in_search ≡ A.own.in_search
  pub level : A'.fragment.level ≡ A.fragment.level
  pub least : A'.fragment.least ≡ A.fragment.least
  pub keeps : Stays A A'

pub steps_else : (u : Turn) (C J A : View) → Steps u C J A (follow u C J A)
steps_else u C J A = record { label = refl; in_search = refl; level = refl; least = refl; keeps = λ a b c. (refl, c, refl) }

pub steps_acted : (u : Turn) (g : Held) (C J : View) → Stays C (acted u g C J) → Steps u C J C (acted u g C J)
steps_acted idle g C J s = record { label = refl; in_search = refl; level = refl; least = refl; keeps = s }
steps_acted (starts me b k z) g C J s = record { label = refl; in_search = refl; level = refl; least = refl; keeps = s }
steps_acted absorb g C J s = record { label = refl; in_search = refl; level = refl; least = refl; keeps = s }
steps_acted (merge w) g C J s = record { label = refl; in_search = refl; level = refl; least = refl; keeps = s }
steps_acted (begin j c r) g C J s = record { label = refl; in_search = refl; level = refl; least = refl; keeps = s }
steps_acted report g C J s = record { label = refl; in_search = refl; level = refl; least = refl; keeps = s }
steps_acted (decide me k) g C J s = record { label = refl; in_search = refl; level = refl; least = refl; keeps = s }
steps_acted (change me k) g C J s = record { label = refl; in_search = refl; level = refl; least = refl; keeps = s }
steps_acted end g C J s = record { label = refl; in_search = refl; level = refl; least = refl; keeps = s }

pub not_both : {b : Bool} → b ≡ false → b ≡ true → ⊥
not_both e f = grind arith

pub undecided_not : (v : Option ℕ) → undecided ≡ decided v → ⊥
undecided_not v e = grind arith

pub weight_not : (w : ℕ) → decided (Some w) ≡ decided None → ⊥
weight_not w e = grind arith

pub decided_same : {v w : Option ℕ} → decided v ≡ decided w → v ≡ w
decided_same e = cc

pub in_first : (l k : ℕ) (b : Bool) → l ≡ k → (eqb l k || b) ≡ true
in_first l k b e = grind arith

pub cond-true : {X : Type 0} (b : Bool) (x y : X) → b ≡ true → cond b x y ≡ x
cond-true true x y e = refl
cond-true false x y e = absurd (grind arith)

pub cond_false : {X : Type 0} (b : Bool) (x y : X) → b ≡ false → cond b x y ≡ y
cond_false true x y e = absurd (grind arith)
cond_false false x y e = refl

back_to : {X : Type 0} (b m : Bool) (x y : X) → m ≡ false → (b ≡ true → x ≡ y) → cond (b || m) x y ≡ y
back_to true m x y e f = f refl
back_to false true x y e f = absurd (grind arith)
back_to false false x y e f = refl

pub label_in : (m : Bool) (l k : ℕ) → (eqb l k || m) ≡ true → cond m k l ≡ k
label_in true l k e = refl
label_in false l k e = grind arith

pub not_in : (a b : Bool) → (a || b) ≡ false → (a ≡ false) × (b ≡ false)
not_in true b e = absurd (grind arith)
not_in false b e = (refl, e)

pub eqb_so : (a b : ℕ) → eqb a b ≡ true → a ≡ b
eqb_so a b e = grind arith

pub eqb_not : (a b : ℕ) → eqb a b ≡ false → a ≡ b → ⊥
eqb_not a b e d = grind arith

-- outside of what the turn changes
pub outside : (u : Turn) (C J A A' : View) → inside u C J A.own.label ≡ false → Steps u C J A A' → Alike A A'
outside u C J A A' o s = let m = (not_in (eqb A.own.label C.own.label) (moves u C J A.own.label) o).1 in
    record {
      label = s.label ∙ cond_false (moves u C J A.own.label) C.own.label A.own.label m;
      in_search = s.in_search ∙ cond_false (moves u C J A.own.label) (enters u C) A.own.in_search m;
      level = s.level ∙ cond_false (inside u C J A.own.label) (fragments u C J).level A.fragment.level o;
      least = s.least ∙ cond_false (inside u C J A.own.label) (fragments u C J).least A.fragment.least o;
      keeps = s.keeps;
    }

-- a turn that moves nobody and leaves what C's fragment has come to
pub calmly : (u : Turn) (C J A A' : View) → (A.own.label ≡ C.own.label → A.fragment ≡ C.fragment) → moves u C J A.own.label ≡ false → (fragments u C J).level ≡ C.fragment.level → (fragments u C J).least ≡ C.fragment.least → Steps u C J A A' → Alike A A'
calmly u C J A A' e m lv le s =
    record {
      label = s.label ∙ cond_false (moves u C J A.own.label) C.own.label A.own.label m;
      in_search = s.in_search ∙ cond_false (moves u C J A.own.label) (enters u C) A.own.in_search m;
      level = s.level ∙ back_to (eqb A.own.label C.own.label) (moves u C J A.own.label) (fragments u C J).level A.fragment.level m (λ h. lv ∙ sym (λ k. (e (eqb_so A.own.label C.own.label h) k).level));
      least = s.least ∙ back_to (eqb A.own.label C.own.label) (moves u C J A.own.label) (fragments u C J).least A.fragment.least m (λ h. le ∙ sym (λ k. (e (eqb_so A.own.label C.own.label h) k).least));
      keeps = s.keeps;
    }

-- who has settled stays settled
pub settled_on : (A A' : View) → A'.own.in_search ≡ A.own.in_search → A'.fragment.level ≡ A.fragment.level → Stays A A' → Settled A → Settled A' × (A'.held.best_weight ≡ A.held.best_weight)
settled_on A A' i l f s = let k = f s.in_search s.current s.reported in
    (record { in_search = i ∙ s.in_search; current = k.0 ∙ s.current ∙ sym l; reported = k.1; finite = λ e. s.finite (sym k.2 ∙ e) }, k.2)

-- what is left to show of those whom a turn concerns: Q says which labels, and c, lv, le their label, level and least afterwards
pub record Duty (t : Graph) (V V' : ℕ → View) (Q : ℕ → Bool) (c lv : ℕ) (le : Least) : Type 0 where
  pub others : (a : ℕ) → Q (V a).own.label ≡ false → Alike (V a) (V' a)
  pub label : (a : ℕ) → Q (V a).own.label ≡ true → (V' a).own.label ≡ c
  pub level : (a : ℕ) → Q (V a).own.label ≡ true → (V' a).fragment.level ≡ lv
  pub least : (a : ℕ) → Q (V a).own.label ≡ true → (V' a).fragment.least ≡ le
  pub lightest : (x y : ℕ) (v : Option ℕ) → Edge t x y → Q (V x).own.label ≡ true → Q (V y).own.label ≡ false → le ≡ decided v → lighter (Some (t.weight x y)) v ≡ false
  pub answered : (x : ℕ) (v : Option ℕ) → Q (V x).own.label ≡ true → le ≡ decided v → 1 ≤ lv → (V' x).own.in_search ≡ true → ((V' x).held.level ≡ lv) × ((V' x).own.reported ≡ true)
  pub spared : (x : ℕ) → Q (V x).own.label ≡ true → le ≡ undecided → (V' x).own.in_search ≡ false → (z : ℕ) × Spared t V' x z

pub outward_by : {t : Graph} {V V' : ℕ → View} (Q : ℕ → Bool) (c lv : ℕ) (le : Least) → Duty t V V' Q c lv le → Outward t V → Outward t V'
outward_by {t} {V} {V'} Q c lv le D F = record { lightest = lights; answered = answers; spared = spares }
  where
    apart : (x y : ℕ) → Q (V x).own.label ≡ false → ((V' x).own.label ≡ (V' y).own.label → ⊥) → (V x).own.label ≡ (V y).own.label → ⊥
    apart x y o d h = d ((D.others x o).label ∙ h ∙ sym (D.others y (subst (λ l. Q l ≡ false) h o)).label)

    lights : (x y : ℕ) → Edge t x y → Lightest (t.weight x y) (V' x) (V' y)
    lights x y l v d e = go (bool (Q (V x).own.label)) (bool (Q (V y).own.label))
      where
        go : (Q (V x).own.label ≡ true) ⊎ (Q (V x).own.label ≡ false) → (Q (V y).own.label ≡ true) ⊎ (Q (V y).own.label ≡ false) → lighter (Some (t.weight x y)) v ≡ false
        go (inl a) (inl b) = absurd (d (D.label x a ∙ sym (D.label y b)))
        go (inl a) (inr b) = D.lightest x y v l a b (sym (D.least x a) ∙ e)
        go (inr a) b = F.lightest x y l v (apart x y a d) (sym (D.others x a).least ∙ e)

    answers : (x : ℕ) → Answered (V' x)
    answers x v e high s = go (bool (Q (V x).own.label))
      where
        go : (Q (V x).own.label ≡ true) ⊎ (Q (V x).own.label ≡ false) → ((V' x).held.level ≡ (V' x).fragment.level) × ((V' x).own.reported ≡ true)
        go (inl a) = let k = D.answered x v a (sym (D.least x a) ∙ e) (subst (λ l. 1 ≤ l) (D.level x a) high) s in (k.0 ∙ sym (D.level x a), k.1)
        go (inr a) = let o = D.others x a in let i = sym o.in_search ∙ s in let f = F.answered x v (sym o.least ∙ e) (subst (λ l. 1 ≤ l) o.level high) i in let k = o.keeps i f.0 f.1 in (k.0 ∙ f.0 ∙ sym o.level, k.1)

    spares : (x : ℕ) → (V' x).fragment.least ≡ undecided → (V' x).own.in_search ≡ false → (z : ℕ) × Spared t V' x z
    spares x e s = go (bool (Q (V x).own.label))
      where
        on : (a : Q (V x).own.label ≡ false) → (z : ℕ) × Spared t V x z → (z : ℕ) × Spared t V' x z
        on a (z, p) = let o = D.others z (subst (λ l. Q l ≡ false) (sym p.label) a) in let k = settled_on (V z) (V' z) o.in_search o.level o.keeps p.settled in
            (z, record { label = o.label ∙ p.label ∙ sym (D.others x a).label; settled = k.0; least = λ y l d. subst (λ b. lighter (Some (t.weight x y)) b ≡ false) (sym k.1) (p.least y l (apart x y a d)) })

        go : (Q (V x).own.label ≡ true) ⊎ (Q (V x).own.label ≡ false) → (z : ℕ) × Spared t V' x z
        go (inl a) = D.spared x a (sym (D.least x a) ∙ e) s
        go (inr a) = on a (F.spared x (sym (D.others x a).least ∙ e) (sym (D.others x a).in_search ∙ s))

-- nothing becomes of anybody
pub outward_alike : {t : Graph} {V V' : ℕ → View} → ((a : ℕ) → Alike (V a) (V' a)) → Outward t V → Outward t V'
outward_alike {t} {V} {V'} S F = outward_by (λ l. false) 0 0 undecided (record { others = λ a o. S a; label = λ a o. absurd (not_both refl o); level = λ a o. absurd (not_both refl o); least = λ a o. absurd (not_both refl o); lightest = λ x y v l o. absurd (not_both refl o); answered = λ x v o. absurd (not_both refl o); spared = λ x o. absurd (not_both refl o) }) F

-- N8: of a node that was asked and tests nothing, no basic edge is lighter than its best one
abbrev pub Heavier : ℕ → ℕ → View → Type 0
Heavier y w A = A.held.level ≡ A.fragment.level → A.own.in_search ≡ true → A.held.testing ≡ None → 1 ≤ A.held.level → A.held.mark y ≡ Basic → lighter (Some w) A.held.best_weight ≡ false

-- what is used of the other invariants (N4, N6, N8, N9, Sane and the edges' ways); P x y is under way from x to y, without questions and answers
pub record World (t : Graph) (V : ℕ → View) (P : ℕ → ℕ → List Message) : Type 0 where
  pub same : (a b : ℕ) → (V a).own.label ≡ (V b).own.label → (V a).fragment ≡ (V b).fragment
  pub edges : (a b : ℕ) → Edge t a b → Mode a b (t.weight a b) (V a) (V b) (P a b) (P b a)
  pub sane : (a y : ℕ) → Edge t a y → Sane y (V a)
  pub heavier : (a y : ℕ) → Edge t a y → Heavier y (t.weight a y) (V a)
  pub answers : (a : ℕ) → (V a).held.level ≡ (V a).fragment.level → ((V a).held.status ≡ Find → ⊥) → 1 ≤ (V a).held.level → (V a).own.in_search ≡ (V a).own.reported
  pub asks : (a : ℕ) → ((V a).held.testing ≡ None) ⊎ ((V a).held.status ≡ Find)
  pub risen : (a y : ℕ) → (V a).held.parent ≡ Some y → 1 ≤ (V a).held.level
  pub ups : (a : ℕ) → 1 ≤ (V a).fragment.level → (p : ℕ) × (((V a).own.up ≡ Some p) × Edge t a p)

-- an edge that leads out of a fragment that has not decided is basic
pub out_basic : {x y w : ℕ} {A B : View} {p q : List Message} → (A.own.label ≡ B.own.label → ⊥) → A.fragment.least ≡ undecided → Mode x y w A B p q → A.held.mark y ≡ Basic
out_basic {x} {y} {w} {A} d u (free v) = go (A.held.mark y) refl
  where
    go : (m : Mark) → A.held.mark y ≡ m → A.held.mark y ≡ Basic
    go Basic e = e
    go Branch e = absurd (v.mark_a e)
    go Rejected e = absurd (d (v.rejected_a e))
out_basic d u (offered v) = v.mark_a
out_basic d u (offers v) = absurd (grind arith)
out_basic d u (crossing v) = absurd (grind arith)
out_basic d u (took v) = absurd (grind arith)
out_basic d u (taken v) = absurd (grind arith)
out_basic d u (merged v) = absurd (grind arith)
out_basic d u (ahead v) = absurd (grind arith)
out_basic d u (behind v) = absurd (grind arith)
out_basic d u (core v) = absurd (grind arith)
out_basic d u (tells v) = absurd (grind arith)
out_basic d u (told v) = absurd (grind arith)
out_basic d u (above v) = absurd (grind arith)
out_basic d u (below v) = absurd (grind arith)

-- the edge that a connect of a lower level came by is basic
pub head_basic : {x y w : ℕ} {A B : View} {p q : List Message} {l : ℕ} → l < A.held.level → Mode x y w A B p (Connect l ∷ q) → A.held.mark y ≡ Basic
head_basic c (free v) = absurd (grind arith)
head_basic c (offered v) = v.mark_a
head_basic c (offers v) = absurd (grind arith)
head_basic c (crossing v) = absurd (grind arith)
head_basic c (took v) = absurd (grind arith)
head_basic c (taken v) = absurd (grind arith)
head_basic c (merged v) = absurd (grind arith)
head_basic c (ahead v) = absurd (grind arith)
head_basic c (behind v) = absurd (grind arith)
head_basic c (core v) = absurd (grind arith)
head_basic c (tells v) = absurd (grind arith)
head_basic c (told v) = absurd (grind arith)
head_basic c (above v) = absurd (grind arith)
head_basic c (below v) = absurd (grind arith)

-- of the two ends of the core when A takes B's report of r and has nothing heavier: both have reported
pub record Ends (r : Option ℕ) (z : ℕ) (A B : View) : Type 0 where
  pub current_a : A.held.level ≡ A.fragment.level
  pub current_b : B.held.level ≡ B.fragment.level
  pub reported_a : A.own.reported ≡ true
  pub reported_b : B.own.reported ≡ true
  pub still_a : A.own.changed ≡ false
  pub still_b : B.own.changed ≡ false
  pub best : B.held.best_weight ≡ r
  pub name : A.fragment.name ≡ z
  pub least : (A.fragment.least ≡ undecided) ⊎ ((A.fragment.least ≡ decided None) × (A.held.best_weight ≡ None))

pub head_ends : {x y w : ℕ} {A B : View} {p q : List Message} {r : Option ℕ} → (A.own.label ≡ B.own.label → A.fragment ≡ B.fragment) → Sane y A → A.held.parent ≡ Some y → (A.held.status ≡ Find → ⊥) → lighter r A.held.best_weight ≡ false → Mode x y w A B p (Report r ∷ q) → Ends r w A B
head_ends same n a b c (free v) = absurd (grind arith)
head_ends same n a b c (offered v) = absurd (grind arith)
head_ends same n a b c (offers v) = absurd (grind arith)
head_ends same n a b c (crossing v) = absurd (grind arith)
head_ends same n a b c (took v) = absurd (grind arith)
head_ends same n a b c (taken v) = absurd (grind arith)
head_ends same n a b c (merged v) = absurd (grind arith)
head_ends same n a b c (ahead v) = absurd (grind arith)
head_ends same n a b c (behind v) = absurd (grind arith)
head_ends {A = A} {B} same n a b c (core v) = let f : A.fragment ≡ B.fragment = same v.same in record { current_a = v.current_a; current_b = grind arith; reported_a = grind arith; reported_b = grind arith; still_a = v.changed_a; still_b = v.changed_b; best = grind arith; name = grind arith; least = grind arith }
head_ends same n a b c (tells v) = absurd (grind arith)
head_ends same n a b c (told v) = absurd (grind arith)
head_ends same n a b c (above v) = absurd (grind arith)
head_ends same n a b c (below v) = absurd (grind arith)

pub lighter_not : (a b : Option ℕ) → lighter a b ≡ true → lighter b a ≡ false
lighter_not None b e = absurd (grind arith)
lighter_not (Some a) None e = refl
lighter_not (Some a) (Some b) e = grind arith

pub lighter_self : (a : Option ℕ) → lighter a a ≡ false
lighter_self None = refl
lighter_self (Some a) = grind arith
