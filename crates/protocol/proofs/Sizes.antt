-- A fragment of level l has at least 2 ^ l nodes.
use Rattle.std.proofs.Common.{◌≡◌, ℕ, zero, suc, ◌+◌, ◌^◌, ◌<◌, ◌≤◌, true, false, cond, eqb, ◌⊎◌, refl, ap, ◌∙◌, subst, inl, inr, arith}
use native.Mathlib.Decide.{dec_lt}
use Rattle.std.proofs.lemmas.Bool.Decides.{eqb_tells}
use Rattle.graph.specs.Graph.{Graph, Edge, Weights}
use Rattle.protocol.proofs.Base.{Good}
use Rattle.protocol.proofs.Coarser.{Joins, Coarser, keeps, joins, coarsens}
use Rattle.protocol.proofs.Edges.{Edges, first, next}
use Rattle.protocol.proofs.Frame.{Lifted, Event}
use Rattle.protocol.proofs.Ghost.{Ghost, view}
use Rattle.protocol.proofs.Mode.{Sane}
use Rattle.protocol.proofs.Sum.{sum, sum_le, sum_zero, at, sum_one, sum_same, sum_add}
use native.Mathlib.Nat.{two-pow-succ}
use Rattle.std.proofs.lemmas.Nat.{pow_below}

-- 1 for the label l
abbrev pub is : ℕ → ℕ → ℕ
is l k = cond (eqb k l) 1 0

-- how many nodes have a label
abbrev pub size : Graph → Ghost → ℕ → ℕ
size t γ l = sum (λ a. is l (γ.own a).label) t.count

-- a fragment of level l has at least 2 ^ l nodes
abbrev pub Sizes : Graph → Ghost → Type 0
Sizes t γ = (i : ℕ) → i < t.count → 2 ^ (γ.fragment (γ.own i).label).level ≤ size t γ (γ.own i).label

one_at_least : (f : ℕ → ℕ) (n i : ℕ) → i < n → 1 ≤ f i → 1 ≤ sum f n
one_at_least f n i l h = let s = sum_le (at i 1) (λ k. 0) f (λ k. 0) n (λ k m. elim (eqb_tells k i) [ inl u ↦ let z : 1 ≤ f k = rw u.1 h in grind arith | inr u ↦ grind arith ]) in
    let o = sum_one i 1 n l in let z = sum_zero (λ k. 0) n (λ k m. refl) in omega arith

-- at first each node is a fragment of its own, of level 0
pub sizes_start : (t : Graph) → Sizes t first
sizes_start t i l = one_at_least (λ a. is i a) t.count i l (let z : eqb i i ≡ true = grind arith in grind arith)

pub at_most : (f : ℕ → ℕ) (n : ℕ) → ((k : ℕ) → f k ≤ 1) → sum f n ≤ n
unfolding sum
at_most f zero h = omega arith
at_most f (suc n) h = let ih = at_most f n h in let e = h n in omega arith

-- so no level is above k where there are fewer than 2 ^ (k + 1) nodes
pub level_bound : (t : Graph) (γ : Ghost) → Sizes t γ → (k : ℕ) → t.count < 2 ^ suc k → (a : ℕ) → a < t.count → (γ.fragment (γ.own a).label).level ≤ k
level_bound t γ S k c a l = bound (γ.fragment (γ.own a).label).level (S a l) (at_most (λ b. is (γ.own a).label (γ.own b).label) t.count (λ b. grind arith))
  where
    bound : (d : ℕ) → 2 ^ d ≤ size t γ (γ.own a).label → size t γ (γ.own a).label ≤ t.count → d ≤ k
    bound d p q = elim (dec_lt k d) [ yes h ↦ elim (eqb_tells d (suc k)) [ inl u ↦ let z : 2 ^ suc k ≤ size t γ (γ.own a).label = subst (λ x. 2 ^ x ≤ size t γ (γ.own a).label) u.1 p in absurd (omega arith) | inr u ↦ let z = pow_below (suc k) d (omega arith) in absurd (omega arith) ] | no h ↦ omega arith ]

-- who has the label of two that become one
two_labels : (a i j : ℕ) → (i ≡ j → ⊥) → is i (cond (eqb a j) i a) ≡ is i a + is j a
two_labels a i j d = grind arith

other_label : (a i j x : ℕ) → (x ≡ j → ⊥) → (x ≡ i → ⊥) → is x (cond (eqb a j) i a) ≡ is x a
other_label a i j x d e = grind arith

-- one of level k with as many nodes as two others together
grown : (l k s p q y : ℕ) → (k ≡ l) ⊎ ((k ≡ suc l) × (y ≡ l)) → 2 ^ l ≤ p → 2 ^ y ≤ q → s ≡ p + q → 2 ^ k ≤ s
grown l k s p q y (inl e) a b c = rw e (omega arith)
grown l k s p q y (inr (e, f)) a b c = let d = two-pow-succ l in let b' : 2 ^ l ≤ q = rw (← f) b in rw e (omega arith)

sizes_joins : {t : Graph} {m : Lifted} {γ γ' : Ghost} {i j : ℕ} → Joins t m γ γ' i j → Sizes t γ → Sizes t γ'
sizes_joins {t} {m} {γ} {γ'} {i} {j} J S x lx = go (eqb_tells (γ.own x).label (γ.own j).label) (eqb_tells (γ.own x).label (γ.own i).label)
  where
    I : ℕ
    I = (γ.own i).label

    O : ℕ
    O = (γ.own j).label

    grow : (γ'.own x).label ≡ I → 2 ^ (γ'.fragment (γ'.own x).label).level ≤ size t γ' (γ'.own x).label
    grow e = rw e (grown (γ.fragment I).level (γ'.fragment I).level (size t γ' I) (size t γ I) (size t γ O) (γ.fragment O).level J.level (S i J.edge.0) (S j J.edge.1)
        (sum_same (λ a. is I (γ'.own a).label) (λ a. is I (γ.own a).label + is O (γ.own a).label) t.count (λ a l. ap (λ z. is I z) (J.labels a) ∙ two_labels (γ.own a).label I O J.differ)
        ∙ sum_add (λ a. is I (γ.own a).label) (λ a. is O (γ.own a).label) t.count))

    stay : ((γ.own x).label ≡ O → ⊥) → ((γ.own x).label ≡ I → ⊥) → (γ'.own x).label ≡ (γ.own x).label → 2 ^ (γ'.fragment (γ'.own x).label).level ≤ size t γ' (γ'.own x).label
    stay d k e = rw (e, J.others (γ.own x).label k, sum_same (λ a. is (γ.own x).label (γ'.own a).label) (λ a. is (γ.own x).label (γ.own a).label) t.count (λ a l. ap (λ z. is (γ.own x).label z) (J.labels a) ∙ other_label (γ.own a).label I O (γ.own x).label d k)) (S x lx)

    go : ((eqb (γ.own x).label O ≡ true) × ((γ.own x).label ≡ O)) ⊎ ((eqb (γ.own x).label O ≡ false) × ((γ.own x).label ≡ O → ⊥)) → ((eqb (γ.own x).label I ≡ true) × ((γ.own x).label ≡ I)) ⊎ ((eqb (γ.own x).label I ≡ false) × ((γ.own x).label ≡ I → ⊥)) → 2 ^ (γ'.fragment (γ'.own x).label).level ≤ size t γ' (γ'.own x).label
    go (inl u) v = grow (J.labels x ∙ ap (λ b. cond b I (γ.own x).label) u.0)
    go (inr u) (inl v) = grow (J.labels x ∙ ap (λ b. cond b I (γ.own x).label) u.0 ∙ v.1)
    go (inr u) (inr v) = stay u.1 v.1 (J.labels x ∙ ap (λ b. cond b I (γ.own x).label) u.0)

-- a step that coarsens the labels keeps the sizes
pub sizes_coarser : {t : Graph} {m : Lifted} {γ γ' : Ghost} → Coarser t m γ γ' → Sizes t γ → Sizes t γ'
sizes_coarser {t} {m} {γ} {γ'} (keeps a b) S x lx = rw (a x, b (γ.own x).label, sum_same (λ k. is (γ.own x).label (γ'.own k).label) (λ k. is (γ.own x).label (γ.own k).label) t.count (λ k l. ap (λ z. is (γ.own x).label z) (a k))) (S x lx)
sizes_coarser (joins i j J) S x lx = sizes_joins J S x lx

module _ (t : Graph) (weights : Weights t) where
  -- each step keeps the sizes
  pub sizes_step : (n m : Lifted) (γ : Ghost) → Good t n → ((a y : ℕ) → Edge t a y → Sane y (view n γ a)) → Edges t n γ → Sizes t γ → (v : Event t n m) → Sizes t (next γ v)
  sizes_step n m γ good sane E S v = sizes_coarser (coarsens t weights n m γ good sane E v) S
