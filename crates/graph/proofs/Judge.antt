-- The lightest edge that is marked wrong.
use Rattle.std.proofs.Common.{◌≡◌, ℕ, zero, suc, ◌≤◌, Bool, true, false, cond, not, ◌&&◌, List, [], ◌∷◌, map, length, get_or, Some, None, Decides, Option, Any, filter, sym, refl, ap, ◌∙◌, subst, arith}
use Rattle.std.specs.Fn.{CalledAt}
use Rattle.std.specs.Iterator.{DrainsIf}
use Rattle.std.specs.Iterator.Runs.{Run, WholeRun, AnyItem, NoKeyBeyond, CallKeepsClosure, YieldsRun}
use Rattle.std.specs.List.{AllByRecursion, slice_get}
use Rattle.std.specs.Option.{MatchOption, IfSome, IsSomeAnd}
use Rattle.std.specs.Ordering.{is_lt, nat_cmp}
use Rattle.std.proofs.ByRecursion.{All-get_or}
use Rattle.std.proofs.lemmas.Iterator.{YieldsList, items_from_drains}
use Rattle.std.proofs.lemmas.List.{map-id}
use Rattle.std.proofs.lemmas.Option.{slice_get_past}
use Rattle.std.proofs.lemmas.Map.Keys.{ge_from_not_lt}
use Rattle.std.proofs.lemmas.Bool.Decides.{same_from_decides}
use denote.Param.Members.{Mut}
use denote.Ref.{Bor}
use Rattle.graph.specs.Graph.{Graph, Belongs}
use Rattle.graph.specs.Marks.{fresh, Right, Wrong, TellsWrong, Judged}
use Rattle.graph.specs.declared.edge.WeightedEdge.{WeightedEdge}
use Rattle.graph.specs.declared.mark.Mark.{Mark}
use Rattle.graph.specs.declared.mark.Mark.TheVariants.{Basic, Branch, Rejected}
use Rattle.graph.specs.declared.mark.MarkedEdge.{MarkedEdge}
use Rattle.graph.proofs.Decide.{belongs_or_not}

-- the edges, without their marks
abbrev pub edges_in : List MarkedEdge → List WeightedEdge
edges_in ms = map (λ m. m.edge) ms

pub edges_fresh : (es : List WeightedEdge) → edges_in (fresh es) ≡ es
edges_fresh [] = refl
edges_fresh (e ∷ es) = rw (edges_fresh es)

-- is an edge marked wrong
is_branch : Mark → Bool
is_branch Basic = false
is_branch Branch = true
is_branch Rejected = false

is_rejected : Mark → Bool
is_rejected Basic = false
is_rejected Branch = false
is_rejected Rejected = true

branch_if : (m : Mark) → Decides (is_branch m) (m ≡ Branch)
unfolding is_branch
branch_if Basic = (λ h. cc, λ h. cc)
branch_if Branch = (λ h. refl, λ h. refl)
branch_if Rejected = (λ h. cc, λ h. cc)

rejected_if : (m : Mark) → Decides (is_rejected m) (m ≡ Rejected)
unfolding is_rejected
rejected_if Basic = (λ h. cc, λ h. cc)
rejected_if Branch = (λ h. cc, λ h. cc)
rejected_if Rejected = (λ h. refl, λ h. refl)

right_by : {g : Graph} (m : MarkedEdge) → Dec (Belongs g m.edge.a m.edge.b) → Bool
right_by m (yes b) = is_branch m.ends.a && is_branch m.ends.b
right_by m (no b) = is_rejected m.ends.a && is_rejected m.ends.b

and_decides : (a b : Bool) {P Q : Type 0} → Decides a P → Decides b Q → Decides (a && b) (P × Q)
and_decides true b p q = (λ h. (p.0 refl, q.0 h), λ h. q.1 h.1)
and_decides false b p q = (λ h. cc, λ h. absurd (let e = p.1 h.0 in cc))

right_decides : {g : Graph} (m : MarkedEdge) (d : Dec (Belongs g m.edge.a m.edge.b)) → Decides (right_by m d) (Right g m.edge m.ends)
unfolding right_by
right_decides m (yes b) =
    let h = and_decides (is_branch m.ends.a) (is_branch m.ends.b) (branch_if m.ends.a) (branch_if m.ends.b) in
    (λ t. (λ _. h.0 t, λ n. absurd (n b)), λ r. h.1 (r.0 b))
right_decides m (no b) =
    let h = and_decides (is_rejected m.ends.a) (is_rejected m.ends.b) (rejected_if m.ends.a) (rejected_if m.ends.b) in
    (λ t. (λ y. absurd (b y), λ _. h.0 t), λ r. h.1 (r.1 b))

pub wrong : Graph → MarkedEdge → Bool
wrong g m = not (right_by m (belongs_or_not g m.edge.a m.edge.b))

pub not_decides : (b : Bool) {P : Type 0} → Decides b P → Decides (not b) (P → ⊥)
not_decides true d = (λ h. absurd (cc), λ n. absurd (n (d.0 refl)))
not_decides false d = (λ h p. absurd (let e = d.1 p in cc), λ n. refl)

wrong_decides : (g : Graph) (m : MarkedEdge) → Decides (wrong g m) (Wrong g m)
unfolding wrong
wrong_decides g m = not_decides (right_by m (belongs_or_not g m.edge.a m.edge.b)) (right_decides m (belongs_or_not g m.edge.a m.edge.b))

-- what the code finds wrong is wrong
pub found_wrong : (g : Graph) (y x : MarkedEdge) → y ≡ x → (b : Bool) → TellsWrong g y b → b ≡ wrong g x
found_wrong g y x s b d = same_from_decides b (wrong g y) d.decides (wrong_decides g y) ∙ ap (wrong g) s

-- the same of edges that are lent
pub found_at : (g : Graph) (y x : Bor MarkedEdge) → y ≡ x → (b : Bool) → TellsWrong g y.now b → b ≡ wrong g x.now
found_at g y x s b d = found_wrong g y.now x.now (ap (λ (z : Bor MarkedEdge). z.now) s) b d

-- of these edges there is none, or this is the lightest
abbrev pub Lightest : List WeightedEdge → Option WeightedEdge → Type 0
Lightest es None = (k : ℕ) → IfSome (slice_get es k) (λ _. ⊥)
Lightest es (Some e) = ((k : ℕ) × IsSomeAnd (slice_get es k) (λ d. d ≡ e)) × ((k : ℕ) → IfSome (slice_get es k) (λ d. e.weight ≤ d.weight))

if_some_weaker : (o : Option WeightedEdge) (P Q : WeightedEdge → Type 0) → ((x : WeightedEdge) → P x → Q x) → IfSome o P → IfSome o Q
if_some_weaker None P Q w h = tt
if_some_weaker (Some x) P Q w h = w x h

-- what `min_by_key` gives of edges by their weight is the lightest
module _ {S F : Type 0} {steps : S → Option WeightedEdge → S → Type 0} (h : Mut F (Bor WeightedEdge × Unit {0}) ℕ) (f : F) (s : S) (es : List WeightedEdge) where
  run_items : (p : Run steps) → p.from ≡ s → p.whole ≡ true → YieldsList steps (λ x. x) s es → p.items ≡ es
  unfolding YieldsRun
  run_items p e w y =
      let d = p.gave.0 in
      sym (map-id p.items) ∙ items_from_drains p.items (subst (λ (s : S). DrainsIf steps (Unit {0}) s p.items) e (d.0, d.1, λ _. d.2 w)) y

  run_reads : (p : Run steps) → p.items ≡ es → (k : ℕ) → p.at k ≡ slice_get es k
  unfolding YieldsRun
  run_reads p e k = p.gave.1 k ∙ ap (λ (xs : List WeightedEdge). slice_get xs k) e

  pub lightest_found : (r : Option WeightedEdge) → WholeRun steps s (λ p. MatchOption r (p.len ≡ 0) (λ e. AnyItem p (λ x. x ≡ e) × NoKeyBeyond p h f is_lt nat_cmp e)) →
      YieldsList steps (λ x. x) s es → ((x : WeightedEdge) (n : ℕ) (q : F) → CalledAt h f x n q → (q ≡ f) × (n ≡ x.weight)) → Lightest es r
  lightest_found None w y acts =
      let p = w.0 in
      let i : p.items ≡ es = run_items p w.1 w.2 y in
      λ k. rw (slice_get_past es k (omega (arith, p.long, w.3, ap length i))) tt
  lightest_found (Some e) w y acts =
      let p = w.0 in
      let i : p.items ≡ es = run_items p w.1 w.2 y in
      let keeps : CallKeepsClosure h f = λ a n q c. (acts a.0.now n q (record { shown = a.0; shows = refl; called = c })).0 in
      let b = w.3.1 keeps in
      let any = w.3.0 in (
        (any.0, subst (λ (o : Option WeightedEdge). IsSomeAnd o (λ d. d ≡ e)) (run_reads p i any.0) any.2),
        λ k.
            subst (λ (o : Option WeightedEdge). IfSome o (λ d. e.weight ≤ d.weight)) (run_reads p i k)
            (if_some_weaker (p.at k) (λ x. (j : ℕ) × CalledAt h f x j f × (is_lt (nat_cmp j b.0) ≡ false)) (λ d. e.weight ≤ d.weight)
            (λ x m. omega (arith, ge_from_not_lt m.0 b.0 m.2, (acts x m.0 f m.1).1, (acts e b.0 f b.1).1)) (b.2 k)),
      )

module _ (t : MarkedEdge → Bool) where
  -- what holds of each edge that passes a test
  each_kept : (Q : WeightedEdge → Type 0) (ms : List MarkedEdge) → ((k : ℕ) → IfSome (slice_get (edges_in (filter t ms)) k) Q) → AllByRecursion (λ m. t m ≡ true → Q m.edge) ms
  each_kept Q [] h = tt
  each_kept Q (m ∷ ms) h = by (t m) refl (each_kept Q ms) h
    where
      by : (b : Bool) → t m ≡ b → (((k : ℕ) → IfSome (slice_get (edges_in (filter t ms)) k) Q) → AllByRecursion (λ m. t m ≡ true → Q m.edge) ms) →
          ((k : ℕ) → IfSome (slice_get (edges_in (cond b (m ∷ filter t ms) (filter t ms))) k) Q) → (t m ≡ true → Q m.edge) × AllByRecursion (λ m. t m ≡ true → Q m.edge) ms
      by true e ih h = (λ _. h 0, ih (λ k. h (suc k)))
      by false e ih h = (λ p. absurd (cc), ih h)

  one_kept : (e : WeightedEdge) (ms : List MarkedEdge) (k : ℕ) → IsSomeAnd (slice_get (edges_in (filter t ms)) k) (λ d. d ≡ e) → Any (λ m. (m.edge ≡ e) × (t m ≡ true)) ms
  one_kept e [] k h = absurd h
  one_kept e (m ∷ ms) k h = by (t m) refl (one_kept e ms) k h
    where
      on : Any (λ m. (m.edge ≡ e) × (t m ≡ true)) ms → Any (λ m. (m.edge ≡ e) × (t m ≡ true)) (m ∷ ms)
      on w = (suc w.0, w.1, omega (arith, w.2), w.3, w.4)

      by : (b : Bool) → t m ≡ b → ((k : ℕ) → IsSomeAnd (slice_get (edges_in (filter t ms)) k) (λ d. d ≡ e) → Any (λ m. (m.edge ≡ e) × (t m ≡ true)) ms) → (k : ℕ) →
          IsSomeAnd (slice_get (edges_in (cond b (m ∷ filter t ms) (filter t ms))) k) (λ d. d ≡ e) → Any (λ m. (m.edge ≡ e) × (t m ≡ true)) (m ∷ ms)
      by true p ih zero h = (0, m, omega arith, refl, (h, p))
      by true p ih (suc k) h = on (ih k h)
      by false p ih k h = on (ih k h)

right_unless : (g : Graph) (m : MarkedEdge) → (wrong g m ≡ true → ⊥) → Right g m.edge m.ends
unfolding wrong
right_unless g m n = by (right_by m (belongs_or_not g m.edge.a m.edge.b)) (right_decides m (belongs_or_not g m.edge.a m.edge.b)) n
  where
    by : (b : Bool) → Decides b (Right g m.edge m.ends) → (not b ≡ true → ⊥) → Right g m.edge m.ends
    by true d n = d.0 refl
    by false d n = absurd (n refl)

-- The lightest of the edges that are wrong is the verdict.
pub judged : (g : Graph) (ms : List MarkedEdge) (r : Option WeightedEdge) → Lightest (edges_in (filter (wrong g) ms)) r → Judged g ms r
judged g ms None h =
    λ k d l. right_unless g (get_or ms k d) (All-get_or (λ m. wrong g m ≡ true → ⊥) ms k d l (each_kept (wrong g) (λ _. ⊥) ms h))
judged g ms (Some e) h =
    let one = one_kept (wrong g) e ms h.0.0 h.0.1 in
    let each = each_kept (wrong g) (λ d. e.weight ≤ d.weight) ms h.1 in (
      (one.0, one.1, one.2, one.3, (one.4.0, (wrong_decides g one.1).0 one.4.1)),
      λ k d l w. All-get_or (λ m. wrong g m ≡ true → e.weight ≤ m.edge.weight) ms k d l each ((wrong_decides g (get_or ms k d)).1 w),
    )
