-- How many a node waits for after a step of its own, and whom it has heard.
use Rattle.std.proofs.Common.{◌≡◌, ℕ, zero, suc, ◌+◌, ◌-◌, ◌<◌, Bool, true, false, not, ◌&&◌, eqb, ◌⊎◌, List, [], ◌++◌, Some, sym, refl, ap, ◌∙◌, subst, inl, inr, append-nil, arith}
use Rattle.std.proofs.lemmas.Bool.Decides.{eqb_tells}
use Rattle.message.specs.declared.messages.Message.{Message}
use Rattle.node.specs.declared.state.Status.{Status}
use Rattle.node.specs.declared.state.Status.TheVariants.{Sleeping, Find, Found}
use Rattle.graph.specs.declared.mark.Mark.TheVariants.{Branch}
use Rattle.node.specs.Rules.{is_branch, is_find}
use Rattle.graph.specs.Graph.{Graph}
use Rattle.protocol.proofs.Awaits.{awaits, HeardFrom, Hears, branch_is, branch_as, awaits_basic, awaits_parent, awaits_here, awaits_keeps, SeeksOn, Waits, rests, keeps, adds, hears, joins}
use Rattle.protocol.proofs.Control.{control1, control}
use Rattle.protocol.proofs.Outs.{out_to}
use Rattle.protocol.proofs.Held.{Send, Held, branches_but}
use Rattle.protocol.proofs.Mode.{calls}
use Rattle.protocol.proofs.Wait.{full, waited, count, count_none, count_same, count_more}

-- if there is at most one, and it is j, there is no other
pub count_one : (f : ℕ → Bool) (n j k : ℕ) → count f n - 1 ≡ 0 → j < n → f j ≡ true → k < n → (k ≡ j → ⊥) → f k ≡ false
count_one f n j k e l t i d = others (count_none less n k (few (count_more less f n j l at_j t (λ y _ z. kept y z))) i)
  where
    less : ℕ → Bool
    less y = f y && not (eqb y j)

    at_j : less j ≡ false
    at_j = grind arith

    kept : (y : ℕ) → (y ≡ j → ⊥) → less y ≡ f y
    kept y z = grind arith

    few : count f n ≡ count less n + 1 → count less n ≡ 0
    few u = omega arith

    others : less k ≡ false → f k ≡ false
    others u = sym (kept k d) ∙ u

-- as before: nobody is waited for who was not, and nobody less
moves_on : {h k : Held} {e : Bool} {j : ℕ} {g : Held} {os : List Send} {p q : List Message} → SeeksOn h j g os → HeardFrom h k e p q → HeardFrom g k e p q
moves_on {k = k} v d = record { out = d.out; back = d.back; level = d.level ∙ sym v.level; name = d.name ∙ sym v.name; reported = d.reported; best = v.best k.best_weight d.best }

-- a node that does not seek waits for nobody
pub calm_acts : {t : Graph} {j : ℕ} {h k : Held} {e : Bool} {m : Message} {p q : List Message} {g : Held} {os : List Send} → Waits t j h k e m p q g os → (g.status ≡ Find → ⊥) → g.find_count ≡ 0
calm_acts (rests z c) f = c
calm_acts (keeps v n u mk o) f = absurd (f v.goes)
calm_acts (adds v n b mk np c) f = absurd (f v.goes)
calm_acts (hears v n b mk np u o d s) f = absurd (f v.goes)
calm_acts (joins s a n c) f = absurd (f s)

-- the node that the message came from
pub hears_over : {t : Graph} {j : ℕ} {h k : Held} {e : Bool} {m : Message} {p q : List Message} {g : Held} {os : List Send} → Waits t j h k e m p q g os → Hears j h k e p (control1 m ++ q) → Hears j g k e (p ++ control (out_to j os)) q
hears_over (rests z c) H f b a w = absurd (z f)
hears_over {j = j} {h} {k} {e} {m} {p} {q} {g} {os} (keeps v n u mk o) H f b a w =
    let w1 : waited p q k.status ≡ false = rw (o, append-nil) at w in
    let w2 : waited p (control1 m ++ q) k.status ≡ false = rw u w1 in
    let d1 : HeardFrom h k e p (control1 m ++ q) = H v.seeks (branch_as (g.mark j) (h.mark j) mk b) (λ z. a (v.parent ∙ z)) w2 in
    let d2 : HeardFrom h k e p q = rw u at d1 in
    rw (o, append-nil) (moves_on v d2)
hears_over (adds v n b mk np c) H f b1 a w = absurd (grind arith)
hears_over (hears v n b mk np u o d s) H f b1 a w = rw (o, append-nil) d
hears_over (joins s a n c) H f b1 a1 w = absurd (a1 a)

beside_still : {j : ℕ} {h g : Held} {os : List Send} (y : ℕ) (b : Held) (s : Bool) (r o : List Message) → (y ≡ j → ⊥) → SeeksOn h j g os → Hears y h b s r o → g.mark y ≡ Branch → (g.parent ≡ Some y → ⊥) → waited (r ++ control (out_to y os)) o b.status ≡ false → HeardFrom g b s (r ++ control (out_to y os)) o
beside_still {j} {h} {g} {os} y b s r o d v H b1 a w =
    let c : control (out_to y os) ≡ [] = v.silent y d in
    let w1 : waited r o b.status ≡ false = rw (c, append-nil) at w in
    rw (c, append-nil) (moves_on v (H v.seeks (branch_as (g.mark y) (h.mark y) (v.mark y d) b1) (λ z. a (v.parent ∙ z)) w1))

-- and the others
pub hears_beside : {t : Graph} {j : ℕ} {h k : Held} {e : Bool} {m : Message} {p q : List Message} {g : Held} {os : List Send} (y : ℕ) (b : Held) (s : Bool) (r o : List Message) → y < t.count → (y ≡ j → ⊥) → Waits t j h k e m p q g os → Hears y h b s r o → Hears y g b s (r ++ control (out_to y os)) o
hears_beside y b s r o l d (rests z c) H f b1 a w = absurd (z f)
hears_beside y b s r o l d (keeps v n u mk c) H f b1 a w = beside_still y b s r o d v H b1 a w
hears_beside y b s r o l d (adds v n b2 mk np c) H f b1 a w = beside_still y b s r o d v H b1 a w
hears_beside y b s r o l d (hears v n b2 mk np u c x z) H f b1 a w = beside_still y b s r o d v H b1 a w
hears_beside y b s r o l d (joins z x n c) H f b1 a w = absurd (let u = c y l d b1 r in grind arith)

-- the branches but one, counted
branches_count : (h : Held) (j n : ℕ) → branches_but h j n ≡ count (λ y. is_branch (h.mark y) && not (eqb y j)) n
unfolding branches_but count
branches_count h j zero = refl
branches_count h j (suc n) = rw (branches_count h j n)

-- THE COUNT after a step of the node itself; P: what is under way to each node, Q: from each, before; R: after; S: the status of each
pub counts_acts : {t : Graph} {j : ℕ} {h k : Held} {e : Bool} {m : Message} {p q : List Message} {g : Held} {os : List Send} (P Q R : ℕ → List Message) (S : ℕ → Status) → j < t.count → P j ≡ p → Q j ≡ control1 m ++ q → R j ≡ q → ((y : ℕ) → (y ≡ j → ⊥) → R y ≡ Q y) → S j ≡ k.status →
    (h.status ≡ Find → h.find_count ≡ count (λ y. awaits y h (S y) (P y) (Q y)) t.count) → Waits t j h k e m p q g os → g.status ≡ Find → g.find_count ≡ count (λ y. awaits y g (S y) (P y ++ control (out_to y os)) (R y)) t.count
counts_acts P Q R S l a b c d s H (rests z w) f = absurd (z f)
counts_acts {t} {j} {h} {k} {e} {m} {p} {q} {g} {os} P Q R S l a b c d s H (keeps v n u mk o) f =
    n ∙ H v.seeks ∙ count_same (λ y. awaits y h (S y) (P y) (Q y)) (λ y. awaits y g (S y) (P y ++ control (out_to y os)) (R y)) t.count (λ y i. at y (eqb_tells y j))
  where
    at : (y : ℕ) → ((eqb y j ≡ true) × (y ≡ j)) ⊎ ((eqb y j ≡ false) × (y ≡ j → ⊥)) → awaits y h (S y) (P y) (Q y) ≡ awaits y g (S y) (P y ++ control (out_to y os)) (R y)
    at y (inl z) = subst (λ y. awaits y h (S y) (P y) (Q y) ≡ awaits y g (S y) (P y ++ control (out_to y os)) (R y)) (sym z.1) (awaits_keeps j h g (S j) (P j) (Q j) (P j ++ control (out_to j os)) (R j) mk v.parent (rw (o, append-nil)) (c ∙ sym (b ∙ ap (λ x. x ++ q) u)))
    at y (inr z) = awaits_keeps y h g (S y) (P y) (Q y) (P y ++ control (out_to y os)) (R y) (v.mark y z.1) v.parent (rw (v.silent y z.1, append-nil)) (d y z.1)
counts_acts {t} {j} {h} {k} {e} {m} {p} {q} {g} {os} P Q R S l a b c d s H (adds v n b1 mk np o) f =
    let before = H v.seeks in
    let more = count_more (λ y. awaits y h (S y) (P y) (Q y)) (λ y. awaits y g (S y) (P y ++ control (out_to y os)) (R y)) t.count j l (awaits_basic j h (S j) (P j) (Q j) b1) here (λ y i z. awaits_keeps y h g (S y) (P y) (Q y) (P y ++ control (out_to y os)) (R y) (v.mark y z) v.parent (rw (v.silent y z, append-nil)) (d y z)) in
    n ∙ ap (λ x. x + 1) before ∙ sym more
  where
    here : awaits j g (S j) (P j ++ control (out_to j os)) (R j) ≡ true
    here = awaits_here j g (S j) (P j ++ control (out_to j os)) (R j) mk np ∙ (let u : calls (P j ++ control (out_to j os)) ≡ true = rw a o in rw u)
counts_acts {t} {j} {h} {k} {e} {m} {p} {q} {g} {os} P Q R S l a b c d s H (hears v n b1 mk np u o hd z) f =
    let before = H v.seeks in
    let more = count_more (λ y. awaits y g (S y) (P y ++ control (out_to y os)) (R y)) (λ y. awaits y h (S y) (P y) (Q y)) t.count j l now then (λ y i x. sym (awaits_keeps y h g (S y) (P y) (Q y) (P y ++ control (out_to y os)) (R y) (v.mark y x) v.parent (rw (v.silent y x, append-nil)) (d y x))) in
    one_less n (before ∙ more)
  where
    one_less : {a b c : ℕ} → a ≡ b - 1 → b ≡ c + 1 → a ≡ c
    one_less x y = omega arith

    idle : (S : Status) → (S ≡ Find → ⊥) → is_find S ≡ false
    idle Sleeping d = refl
    idle Find d = absurd (d refl)
    idle Found d = refl

    now : awaits j g (S j) (P j ++ control (out_to j os)) (R j) ≡ false
    now = awaits_here j g (S j) (P j ++ control (out_to j os)) (R j) mk (λ x. np (sym v.parent ∙ x)) ∙ (let x : is_find k.status ≡ false = idle k.status z in rw (a, o, c, s, hd.out, hd.back) x)

    then : awaits j h (S j) (P j) (Q j) ≡ true
    then = awaits_here j h (S j) (P j) (Q j) b1 np ∙ (let x : full (Q j) ≡ true = rw b u in grind arith)
counts_acts {t} {j} {h} {k} {e} {m} {p} {q} {g} {os} P Q R S l a b c d s H (joins st pa n o) f =
    n ∙ branches_count g j t.count ∙ count_same (λ y. is_branch (g.mark y) && not (eqb y j)) (λ y. awaits y g (S y) (P y ++ control (out_to y os)) (R y)) t.count (λ y i. at y i (eqb_tells y j) (is_branch (g.mark y)) refl)
  where
    at : (y : ℕ) → y < t.count → ((eqb y j ≡ true) × (y ≡ j)) ⊎ ((eqb y j ≡ false) × (y ≡ j → ⊥)) → (x : Bool) → is_branch (g.mark y) ≡ x → (is_branch (g.mark y) && not (eqb y j)) ≡ awaits y g (S y) (P y ++ control (out_to y os)) (R y)
    at y i (inl z) x w = none ∙ sym (awaits_parent y g (S y) (P y ++ control (out_to y os)) (R y) (pa ∙ ap Some (sym z.1)))
      where
        none : (is_branch (g.mark y) && not (eqb y j)) ≡ false
        none = let e : eqb y j ≡ true = z.0 in grind arith
    at y i (inr z) false w = rw w
    at y i (inr z) true w = left ∙ sym right
      where
        branch : g.mark y ≡ Branch
        branch = branch_is (g.mark y) w

        called : calls (P y ++ control (out_to y os)) ≡ true
        called = o y i z.1 branch (P y)

        left : (is_branch (g.mark y) && not (eqb y j)) ≡ true
        left = rw (w, z.0)

        other : Some j ≡ Some y → y ≡ j
        other x = grind arith

        right : awaits y g (S y) (P y ++ control (out_to y os)) (R y) ≡ true
        right = awaits_here y g (S y) (P y ++ control (out_to y os)) (R y) branch (λ x. z.1 (other (sym pa ∙ x))) ∙ rw called
