-- A sum over neighbours is a sum over places; so a node counts the same branches by either.
use Rattle.std.proofs.Common.{◌≡◌, ℕ, zero, suc, ◌+◌, ◌<◌, ◌≤◌, Bool, true, false, cond, not, ◌&&◌, eqb, ◌⊎◌, List, [], ◌∷◌, length, get_or, sym, refl, ◌∙◌, inl, inr, arith}
use Rattle.std.proofs.lemmas.Bool.Decides.{eqb_tells}
use Rattle.node.specs.declared.state.Node.{Node}
use Rattle.node.specs.Rules.{is_branch, has_edge, goes_on}
use Rattle.graph.specs.Graph.{Graph}
use Rattle.protocol.proofs.Held.{Held, branches_but}
use Rattle.protocol.proofs.Lift.{held_of, Once, once_rest, once_head}
use Rattle.protocol.proofs.Shape.{few, Shape, mark_none, there, same_place, marked}
use Rattle.protocol.proofs.Sum.{sum, sum_zero, at, sum_one, sum_same, sum_add}
use Rattle.node.specs.Rules as rules

-- the first one apart
sum_shift : (f : ℕ → ℕ) (m : ℕ) → sum f (suc m) ≡ f 0 + sum (λ l. f (suc l)) m
unfolding sum
sum_shift f zero = refl
sum_shift f (suc m) = let ih = sum_shift f m in omega arith

-- what counts nothing can be cut off
sum_cut : (f : ℕ → ℕ) (m c : ℕ) → m ≤ c → ((k : ℕ) → m ≤ k → f k ≡ 0) → sum f c ≡ sum f m
unfolding sum
sum_cut f m zero l h = let e : m ≡ 0 = omega arith in rw e
sum_cut f m (suc c) l h = elim (eqb_tells m (suc c)) [ inl u ↦ rw u.1 | inr u ↦ let ih = sum_cut f m c (omega arith) h in let z = h c (omega arith) in omega arith ]

-- all but one
abbrev without : ℕ → (ℕ → ℕ) → ℕ → ℕ
without a f b = cond (eqb b a) 0 (f b)

pub reindex : (near : List ℕ) (f : ℕ → ℕ) (c : ℕ) → Once near → ((k : ℕ) → k < length near → get_or near k 0 < c) →
    ((b : ℕ) → ((k : ℕ) → k < length near → get_or near k 0 ≡ b → ⊥) → f b ≡ 0) → sum f c ≡ sum (λ l. f (get_or near l 0)) (length near)
unfolding sum
reindex [] f c o h z = sum_zero f c (λ b l. z b (λ k p e. omega arith))
reindex (a ∷ near) f c o h z =
    let one = sum_one a (f a) c (h 0 (omega arith)) in
    let both = sum_add (at a (f a)) (without a f) c in
    let same = sum_same f (λ b. at a (f a) b + without a f b) c (λ b l. split b (eqb_tells b a)) in
    let ih = reindex near (without a f) c (once_rest a near o) (λ k p. h (suc k) (omega arith)) (λ b n. elsewhere b n (eqb_tells b a)) in
    let back = sum_same (λ l. without a f (get_or near l 0)) (λ l. f (get_or near l 0)) (length near) (λ l p. others l p) in
    let shift = sum_shift (λ l. f (get_or (a ∷ near) l 0)) (length near) in
    omega arith
  where
    split : (b : ℕ) → ((eqb b a ≡ true) × (b ≡ a)) ⊎ ((eqb b a ≡ false) × (b ≡ a → ⊥)) → f b ≡ at a (f a) b + without a f b
    split b (inl u) = rw (u.0, u.1) (omega arith)
    split b (inr u) = rw u.0 (omega arith)

    elsewhere : (b : ℕ) → ((k : ℕ) → k < length near → get_or near k 0 ≡ b → ⊥) → ((eqb b a ≡ true) × (b ≡ a)) ⊎ ((eqb b a ≡ false) × (b ≡ a → ⊥)) → without a f b ≡ 0
    elsewhere b n (inl u) = rw u.0
    elsewhere b n (inr u) = rw u.0 (z b (λ k. later k))
      where
        later : (k : ℕ) → k < length (a ∷ near) → get_or (a ∷ near) k 0 ≡ b → ⊥
        later zero p e = u.1 (sym e)
        later (suc k) p e = n k (omega arith) e

    others : (l : ℕ) → l < length near → without a f (get_or near l 0) ≡ f (get_or near l 0)
    others l p = let d = once_head a near o l p in let e : eqb (get_or near l 0) a ≡ false = grind arith in rw e

-- a branch but j counts
abbrev counts : Held → ℕ → ℕ → ℕ
counts k j b = cond (is_branch (k.mark b) && not (eqb b j)) 1 0

branches_sum : (k : Held) (j c : ℕ) → branches_but k j c ≡ sum (counts k j) c
unfolding branches_but sum
branches_sum k j zero = refl
branches_sum k j (suc c) = let ih = branches_sum k j c in omega arith

rules_sum : (n : Node) (j c : ℕ) → rules.branches_but n j c ≡ sum (λ l. cond (goes_on n j l) 1 0) c
unfolding rules.branches_but sum
rules_sum n j zero = refl
rules_sum n j (suc c) = let ih = rules_sum n j c in more (goes_on n j c) ih
  where
    more : (b : Bool) {x y : ℕ} → x ≡ y → cond b (x + 1) x ≡ cond b 1 0 + y
    more true e = omega arith
    more false e = omega arith

-- the branches but one, by place and by neighbour
pub branches_same : (g : Graph) (i : ℕ) (near : List ℕ) (n : Node) (s : Shape g i near n) (k : ℕ) → k < length near → rules.branches_but n k 16 ≡ branches_but (held_of near n) (get_or near k 0) g.count
branches_same g i near n s k l =
    rules_sum n k 16 ∙ sum_cut (λ m. cond (goes_on n k m) 1 0) (length near) 16 (few g i near n s) beyond
    ∙ sum_same (λ m. cond (goes_on n k m) 1 0) (λ m. counts (held_of near n) (get_or near k 0) (get_or near m 0)) (length near) (λ m p. alike m p)
    ∙ sym (reindex near (counts (held_of near n) (get_or near k 0)) g.count s.once (λ m p. (s.real m p).1) nobody) ∙ sym (branches_sum (held_of near n) (get_or near k 0) g.count)
  where
    beyond : (m : ℕ) → length near ≤ m → ◌≡◌ {A = ℕ} (cond (goes_on n k m) 1 0) 0
    beyond m p = let e = s.edges in let z : has_edge n m ≡ false = grind arith in grind arith

    alike : (m : ℕ) → m < length near → cond (goes_on n k m) 1 0 ≡ counts (held_of near n) (get_or near k 0) (get_or near m 0)
    alike m p = let t = there g i near n s m p in let e = marked g i near n s m p in let q = same_place g i near n s m k p l in rw (t, e, q) (grind arith)

    nobody : (b : ℕ) → ((m : ℕ) → m < length near → get_or near m 0 ≡ b → ⊥) → counts (held_of near n) (get_or near k 0) b ≡ 0
    nobody b z = let e = mark_none near n.marks b z in rw e
