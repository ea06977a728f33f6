-- When the core of a fragment decides, all who were asked have reported, of nothing lighter than its two ends.
use Rattle.std.proofs.Common.{◌≡◌, ℕ, zero, suc, ◌<◌, true, false, ◌⊎◌, List, Some, sym, refl, ◌∙◌, inl, inr, arith, None, Option}
use Rattle.message.specs.declared.messages.Message.{Message}
use Rattle.node.specs.declared.state.Status.TheVariants.{Find}
use Rattle.node.specs.Rules.{lighter}
use Rattle.graph.specs.Graph.{Graph, Edge, Weights}
use Rattle.protocol.proofs.Ghost.{undecided, View}
use Rattle.protocol.proofs.Mode.{tells, Heard, Mode, free, offered, offers, crossing, took, taken, merged, ahead, behind, core, told, above, below, Sane}

-- it has reported, in the present search, of nothing lighter than w
abbrev pub Done : Option ℕ → View → Type 0
Done w V = (V.held.level ≡ V.fragment.level) × (V.own.reported ≡ true) × (lighter V.held.best_weight w ≡ false)

-- lighter is an order
pub lighter_trans : (a b c : Option ℕ) → lighter a b ≡ false → lighter b c ≡ false → lighter a c ≡ false
lighter_trans None b c u v = refl
lighter_trans (Some a) None c u v = absurd (grind arith)
lighter_trans (Some a) (Some b) None u v = absurd (grind arith)
lighter_trans (Some a) (Some b) (Some c) u v = grind arith

module _ (t : Graph) (weights : Weights t) (V : ℕ → View) (i j : ℕ) (line : Edge t i j)
    (fragment : (v : ℕ) → (V v).own.label ≡ (V i).own.label → (V v).fragment ≡ (V i).fragment)
    (looked : (V i).fragment.least ≡ undecided) (name : (V i).fragment.name ≡ t.weight i j)
    (stillI : (V i).own.changed ≡ false) (stillJ : (V j).own.changed ≡ false) (low : Option ℕ) (doneI : Done low (V i)) (doneJ : Done low (V j)) where
  -- the core is the edge whose weight is the name
  middle : (v p : ℕ) → Edge t v p → t.weight v p ≡ t.weight i j → (((v ≡ i) × (p ≡ j)) ⊎ ((v ≡ j) × (p ≡ i)))
  middle v p l e = weights.differ v p i j l line e

  -- the facts of v and p are those of i and j, or of j and i
  both : (v p : ℕ) → ((v ≡ i) × (p ≡ j)) ⊎ ((v ≡ j) × (p ≡ i)) → Done low (V v) × ((V v).own.changed ≡ false) × ((V p).own.changed ≡ false)
  both v p (inl u) = rw (u.0, u.1) (doneI, stillI, stillJ)
  both v p (inr u) = rw (u.0, u.1) (doneJ, stillJ, stillI)

  heard_so : (A B : View) → (A.held.level ≡ A.fragment.level → A.own.changed ≡ false) → A.held.level ≡ A.fragment.level → lighter B.held.best_weight low ≡ false → Heard B A → Done low A
  heard_so A B u c d (inl h) = (c, h.0, lighter_trans A.held.best_weight B.held.best_weight low h.1 d)
  heard_so A B u c d (inr h) = absurd (let n = u c in grind arith)

  -- v's edge up: what it says of v
  up_to : {x y w : ℕ} {A B : View} {p q : List Message} → w ≡ t.weight x y → Edge t x y → A ≡ V x → B ≡ V y → Sane y A → Sane x B → (A.own.label ≡ B.own.label → A.fragment ≡ B.fragment) → A.fragment ≡ (V i).fragment → A.own.up ≡ Some y → A.own.in_search ≡ true → ((A.own.label ≡ B.own.label → B.own.rank < A.own.rank → B.own.in_search ≡ true → Done low B)) →
      Mode x y w A B p q → Done low A
  up_to {x} {y} {w} {A} {B} {p} {q} e l a b sa sb same pt up sr ih (free v) = absurd (grind arith)
  up_to {x} {y} {w} {A} {B} {p} {q} e l a b sa sb same pt up sr ih (offered v) = absurd (grind arith)
  up_to {x} {y} {w} {A} {B} {p} {q} e l a b sa sb same pt up sr ih (offers v) = absurd (grind arith)
  up_to {x} {y} {w} {A} {B} {p} {q} e l a b sa sb same pt up sr ih (crossing v) = absurd (grind arith)
  up_to {x} {y} {w} {A} {B} {p} {q} e l a b sa sb same pt up sr ih (took v) = absurd (let m = both x y (middle x y l (grind arith)) in let c1 : A.own.changed ≡ false = rw a m.1 in let c2 : B.own.changed ≡ false = rw b m.2 in grind arith)
  up_to {x} {y} {w} {A} {B} {p} {q} e l a b sa sb same pt up sr ih (taken v) = absurd (let m = both x y (middle x y l (grind arith)) in let c1 : A.own.changed ≡ false = rw a m.1 in let c2 : B.own.changed ≡ false = rw b m.2 in grind arith)
  up_to {x} {y} {w} {A} {B} {p} {q} e l a b sa sb same pt up sr ih (merged v) = absurd (let m = both x y (middle x y l (grind arith)) in let c1 : A.own.changed ≡ false = rw a m.1 in let c2 : B.own.changed ≡ false = rw b m.2 in grind arith)
  up_to {x} {y} {w} {A} {B} {p} {q} e l a b sa sb same pt up sr ih (ahead v) = absurd (let m = both x y (middle x y l (grind arith)) in let c1 : A.own.changed ≡ false = rw a m.1 in let c2 : B.own.changed ≡ false = rw b m.2 in grind arith)
  up_to {x} {y} {w} {A} {B} {p} {q} e l a b sa sb same pt up sr ih (behind v) = absurd (let m = both x y (middle x y l (grind arith)) in let c1 : A.own.changed ≡ false = rw a m.1 in let c2 : B.own.changed ≡ false = rw b m.2 in grind arith)
  up_to {x} {y} {w} {A} {B} {p} {q} e l a b sa sb same pt up sr ih (core v) = let m = both x y (middle x y l (grind arith)) in let d : Done low (V x) = m.0 in rw a d
  up_to {x} {y} {w} {A} {B} {p} {q} e l a b sa sb same pt up sr ih (tells v) = absurd (grind arith)
  up_to {x} {y} {w} {A} {B} {p} {q} e l a b sa sb same pt up sr ih (told v) = absurd (grind arith)
  up_to {x} {y} {w} {A} {B} {p} {q} e l a b sa sb same pt up sr ih (above v) = absurd (grind arith)
  up_to {x} {y} {w} {A} {B} {p} {q} e l a b sa sb same pt up sr ih (below v) = let d = ih (grind arith) v.rank (v.calmer sr) in let h = v.heard d.0 d.1 sr in heard_so A B (sa.unchanged (grind arith)) h.0 d.2 h.1

  module _ (edges : (a b : ℕ) → Edge t a b → (p : List Message) × ((q : List Message) × Mode a b (t.weight a b) (V a) (V b) p q)) (sane : (a y : ℕ) → Edge t a y → Sane y (V a))
      (same : (a b : ℕ) → (V a).own.label ≡ (V b).own.label → (V a).fragment ≡ (V b).fragment)
      (ups : (v : ℕ) → (V v).own.label ≡ (V i).own.label → (p : ℕ) × (((V v).own.up ≡ Some p) × Edge t v p × Edge t p v)) where
    reported_by : (r v : ℕ) → (V v).own.rank < r → (V v).own.label ≡ (V i).own.label → (V v).own.in_search ≡ true → Done low (V v)
    reported_by zero v lt e s = absurd (omega arith)
    reported_by (suc r) v lt e s = go (λ p k z h. reported_by r p k z h) (ups v e)
      where
        go : ((p : ℕ) → (V p).own.rank < r → (V p).own.label ≡ (V i).own.label → (V p).own.in_search ≡ true → Done low (V p)) → (p : ℕ) × (((V v).own.up ≡ Some p) × Edge t v p × Edge t p v) → Done low (V v)
        go ih (p, (u, l, m)) = up_to refl l refl refl (sane v p l) (sane p v m) (same v p) (fragment v e) u s (λ z k h. ih p (omega arith) (sym z ∙ e) h) (edges v p l).1.1

    -- THE THEOREM: everybody in the search has reported, of nothing lighter
    pub all_done : (v : ℕ) → (V v).own.label ≡ (V i).own.label → (V v).own.in_search ≡ true → Done low (V v)
    all_done v e s = reported_by (suc (V v).own.rank) v (omega arith) e s

    -- nobody in the fragment still seeks
    pub nobody_seeks : (v y : ℕ) → Edge t v y → (V v).own.label ≡ (V i).own.label → (V v).held.status ≡ Find → ⊥
    nobody_seeks v y l e s = let n = sane v y l in let d = all_done v e (n.find_in_search s) in let f = n.find_reported s in grind arith
