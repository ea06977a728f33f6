-- The lightest of the edges that are picked: it is picked, and no edge that is picked is lighter; there is none only if nothing is picked.
use Rattle.std.proofs.Common.{◌≡◌, ℕ, zero, suc, ◌<◌, ◌≤◌, Bool, true, false, cond, Some, None, Option, refl, arith}
use Rattle.node.specs.declared.state.Node.{Node}
use Rattle.node.specs.Rules.{is_basic, has_edge, mark_of, has_basic, weight_of, lighter_of, lightest}
use Rattle.node.specs.Laws.{LightestBasic}

none_more : (n : Node) (these : ℕ → Bool) (b : ℕ) (w : Option ℕ) → (w ≡ None → (e : ℕ) → e < b → these e ≡ false) →
    cond (these b) (lighter_of n b w) w ≡ None → (e : ℕ) → e < suc b → these e ≡ false
none_more n these b None ih h e l = grind (arith, ih refl e)
none_more n these b (Some k) ih h e l = grind arith

pub lightest_none : (n : Node) (these : ℕ → Bool) (b : ℕ) → lightest n these b ≡ None → (e : ℕ) → e < b → these e ≡ false
unfolding lightest
lightest_none n these zero h e l = absurd (omega arith)
lightest_none n these (suc b) h e l = none_more n these b (lightest n these b) (lightest_none n these b) h e l

picked_more : (n : Node) (these : ℕ → Bool) (b : ℕ) (w : Option ℕ) → ((k : ℕ) → w ≡ Some k → (k < b) × (these k ≡ true)) →
    (k : ℕ) → cond (these b) (lighter_of n b w) w ≡ Some k → (k < suc b) × (these k ≡ true)
picked_more n these b None ih k h = grind arith
picked_more n these b (Some o) ih k h = grind (arith, ih o refl)

pub lightest_picked : (n : Node) (these : ℕ → Bool) (b k : ℕ) → lightest n these b ≡ Some k → (k < b) × (these k ≡ true)
unfolding lightest
lightest_picked n these zero k h = grind arith
lightest_picked n these (suc b) k h = picked_more n these b (lightest n these b) (lightest_picked n these b) k h

least_more : (n : Node) (these : ℕ → Bool) (b : ℕ) (w : Option ℕ) → (w ≡ None → (e : ℕ) → e < b → these e ≡ false) →
    ((k e : ℕ) → w ≡ Some k → e < b → these e ≡ true → weight_of n k ≤ weight_of n e) →
    (k e : ℕ) → cond (these b) (lighter_of n b w) w ≡ Some k → e < suc b → these e ≡ true → weight_of n k ≤ weight_of n e
least_more n these b None none ih k e h l p = grind (arith, none refl e)
least_more n these b (Some o) none ih k e h l p = grind (arith, ih o e refl)

pub lightest_least : (n : Node) (these : ℕ → Bool) (b k e : ℕ) → lightest n these b ≡ Some k → e < b → these e ≡ true → weight_of n k ≤ weight_of n e
unfolding lightest
lightest_least n these zero k e h l p = absurd (omega arith)
lightest_least n these (suc b) k e h l p = least_more n these b (lightest n these b) (lightest_none n these b) (lightest_least n these b) k e h l p

-- an edge that is picked, and is lighter than every other that is, is the lightest
pub lightest_only : (n : Node) (these : ℕ → Bool) (b k : ℕ) → k < b → these k ≡ true → ((e : ℕ) → e < b → these e ≡ true → (e ≡ k → ⊥) → weight_of n k < weight_of n e) →
    lightest n these b ≡ Some k
lightest_only n these b k l p h = only (lightest n these b) refl
  where
    only : (w : Option ℕ) → lightest n these b ≡ w → w ≡ Some k
    only None e = let z = lightest_none n these b e k l in grind arith
    only (Some o) e = let q = lightest_picked n these b o e in let m = lightest_least n these b o k e l p in let r = h o q.0 q.1 in grind arith

-- the lightest of all edges
pub lightest_edge : (n : Node) (k : ℕ) → lightest n (has_edge n) 16 ≡ Some k → (has_edge n k ≡ true) × ((e : ℕ) → has_edge n e ≡ true → weight_of n k ≤ weight_of n e)
lightest_edge n k h = let p = lightest_picked n (has_edge n) 16 k h in (grind arith, λ e there. lightest_least n (has_edge n) 16 k e h (grind arith) (grind arith))

pub no_edge : (n : Node) → lightest n (has_edge n) 16 ≡ None → (e : ℕ) → has_edge n e ≡ false
no_edge n h e = let z = lightest_none n (has_edge n) 16 h e in grind arith

-- the lightest of the edges that are basic
pub lightest_basic : (n : Node) (k : ℕ) → lightest n (has_basic n) 16 ≡ Some k → LightestBasic n k
lightest_basic n k h =
    let p = lightest_picked n (has_basic n) 16 k h in
    (grind arith, grind arith, λ e there basic. lightest_least n (has_basic n) 16 k e h (grind arith) (grind arith))

pub no_basic : (n : Node) → lightest n (has_basic n) 16 ≡ None → (e : ℕ) → has_edge n e ≡ true → is_basic (mark_of n e) ≡ false
no_basic n h e there = let z = lightest_none n (has_basic n) 16 h e in grind arith
