-- Labels only coarsen: a step leaves the fragments as they are, or makes one of two.
use Rattle.std.proofs.Common.{◌≡◌, ℕ, suc, true, cond, not, ◌&&◌, ◌||◌, eqb, ◌⊎◌, List, sym, refl, ap, ◌∙◌, inl, inr, arith}
use Rattle.std.proofs.lemmas.Bool.Decides.{eqb_tells}
use Rattle.graph.specs.declared.mark.Mark.TheVariants.{Branch}
use Rattle.graph.specs.Graph.{Graph, Edge, Weights}
use Rattle.protocol.proofs.Base.{Good}
use Rattle.protocol.proofs.Deed.{woke, got, Deed, Alone, WokeTo}
use Rattle.protocol.proofs.Edges.{Edges, next, apart}
use Rattle.protocol.proofs.Frame.{Lifted, Event, act, off}
use Rattle.protocol.proofs.Ghost.{Turn, Ghost, view, turn, stepped}
use Rattle.protocol.proofs.Held.{Send, Held}
use Rattle.protocol.proofs.Mode.{Sane}
use Rattle.protocol.proofs.Says.{Says, says_idle, says_absorb, says_merge, says_again, says_begin, says_report, says_decide, says_change, says_end, comes, said}

-- the fragments of i and j become one, under i's label; the edge between them is a branch at both ends
pub record Joins (t : Graph) (m : Lifted) (γ γ' : Ghost) (i j : ℕ) : Type 0 where
  pub edge : Edge t i j
  pub mark_i : (m.held i).mark j ≡ Branch
  pub mark_j : (m.held j).mark i ≡ Branch
  pub differ : (γ.own i).label ≡ (γ.own j).label → ⊥
  pub labels : (a : ℕ) → (γ'.own a).label ≡ cond (eqb (γ.own a).label (γ.own j).label) (γ.own i).label (γ.own a).label
  pub others : (l : ℕ) → (l ≡ (γ.own i).label → ⊥) → (γ'.fragment l).level ≡ (γ.fragment l).level
  pub level : ((γ'.fragment (γ.own i).label).level ≡ (γ.fragment (γ.own i).label).level) ⊎ (((γ'.fragment (γ.own i).label).level ≡ suc (γ.fragment (γ.own i).label).level) × ((γ.fragment (γ.own j).label).level ≡ (γ.fragment (γ.own i).label).level))

pub data Coarser (t : Graph) (m : Lifted) (γ γ' : Ghost) : Type 0 where
  keeps : ((a : ℕ) → (γ'.own a).label ≡ (γ.own a).label) → ((l : ℕ) → (γ'.fragment l).level ≡ (γ.fragment l).level) → Coarser t m γ γ'
  joins : (i j : ℕ) → Joins t m γ γ' i j → Coarser t m γ γ'

-- a value that is looked up by label and set to what it was, and one that is set elsewhere
pub level_same : (f : ℕ → ℕ) (l i : ℕ) → cond (eqb l i) (f i) (f l) ≡ f l
level_same f l i = elim (eqb_tells l i) [ inl u ↦ rw u.0 (ap f (sym u.1)) | inr u ↦ rw u.0 refl ]

pub level_else : (f : ℕ → ℕ) (x l i : ℕ) → (l ≡ i → ⊥) → cond (eqb l i) x (f l) ≡ f l
level_else f x l i d = elim (eqb_tells l i) [ inl u ↦ absurd (d u.1) | inr u ↦ rw u.0 refl ]

pub again_level : (f : ℕ → ℕ) (x l i j : ℕ) → i ≡ j → cond (eqb l i) (cond (eqb i j) (f i) x) (f l) ≡ f l
again_level f x l i j e = let z : eqb i j ≡ true = grind arith in rw z (level_same f l i)

pub again_label : (a i j : ℕ) → i ≡ j → cond (not (eqb i j) && (eqb a i || eqb a j)) i a ≡ a
again_label a i j e = let z : eqb i j ≡ true = grind arith in rw z refl

pub merge_label : (a i j : ℕ) → (i ≡ j → ⊥) → cond (not (eqb i j) && (eqb a i || eqb a j)) i a ≡ cond (eqb a j) i a
merge_label a i j d = grind arith

merge_level : (i j h x : ℕ) → (i ≡ j → ⊥) → h ≡ x → cond (eqb i i) (cond (eqb i j) x (suc h)) x ≡ suc x
merge_level i j h x d e = grind arith

coarser_got : {t : Graph} {m : Lifted} {i j : ℕ} {g : Held} {u : Turn} (n : Lifted) (γ : Ghost) → Edge t i j → (m.held i).mark j ≡ g.mark j → (m.held j).mark i ≡ (n.held j).mark i → Says t i j (view n γ i) (view n γ j) g u → Coarser t m γ (stepped u i (view n γ i) (view n γ j) γ)
coarser_got {i = i} {j} n γ l p q (says_idle a) = keeps (λ a. refl) (λ l. level_same (λ k. (γ.fragment k).level) l (γ.own i).label)
coarser_got {i = i} {j} n γ l p q (says_absorb a) = joins i j (record { edge = l; mark_i = p ∙ a.mine; mark_j = q ∙ a.theirs; differ = a.differ; labels = λ a. refl; others = λ l d. level_else (λ k. (γ.fragment k).level) (γ.fragment (γ.own i).label).level l (γ.own i).label d; level = inl (level_same (λ k. (γ.fragment k).level) (γ.own i).label (γ.own i).label) })
coarser_got {i = i} {j} n γ l p q (says_merge a) = joins i j (record {
  edge = l;
  mark_i = p ∙ a.mine;
  mark_j = q ∙ a.theirs;
  differ = a.differ;
  labels = λ b. merge_label (γ.own b).label (γ.own i).label (γ.own j).label a.differ;
  others = λ l d. level_else (λ k. (γ.fragment k).level) (cond (eqb (γ.own i).label (γ.own j).label) (γ.fragment (γ.own i).label).level (suc (n.held i).level)) l (γ.own i).label d;
  level = inr (merge_level (γ.own i).label (γ.own j).label (n.held i).level (γ.fragment (γ.own i).label).level a.differ a.current, a.equal);
})
coarser_got {i = i} {j} n γ l p q (says_again a b) = keeps (λ c. again_label (γ.own c).label (γ.own i).label (γ.own j).label b) (λ l. again_level (λ k. (γ.fragment k).level) (suc (n.held i).level) l (γ.own i).label (γ.own j).label b)
coarser_got {i = i} {j} n γ l p q (says_begin a b) = keeps (λ a. refl) (λ l. level_same (λ k. (γ.fragment k).level) l (γ.own i).label)
coarser_got {i = i} {j} n γ l p q (says_report a) = keeps (λ a. refl) (λ l. level_same (λ k. (γ.fragment k).level) l (γ.own i).label)
coarser_got {i = i} {j} n γ l p q (says_decide a) = keeps (λ a. refl) (λ l. level_same (λ k. (γ.fragment k).level) l (γ.own i).label)
coarser_got {i = i} {j} n γ l p q (says_change a) = keeps (λ a. refl) (λ l. level_same (λ k. (γ.fragment k).level) l (γ.own i).label)
coarser_got {i = i} {j} n γ l p q (says_end a b) = keeps (λ a. refl) (λ l. level_same (λ k. (γ.fragment k).level) l (γ.own i).label)

-- who wakes changes no label and no level
coarser_woke : {t : Graph} {m : Lifted} {i : ℕ} {h g : Held} {os : List Send} (n : Lifted) (γ : Ghost) (d : Deed t i h woke g os) → Coarser t m γ (stepped (turn d) i (view n γ i) (view n γ i) γ)
coarser_woke {i = i} n γ (Alone c1) = keeps (λ a. refl) (λ l. level_same (λ k. (γ.fragment k).level) l (γ.own i).label)
coarser_woke {i = i} n γ (WokeTo k c1) = keeps (λ a. refl) (λ l. level_same (λ k. (γ.fragment k).level) l (γ.own i).label)

module _ (t : Graph) (weights : Weights t) where
  -- labels only coarsen
  pub coarsens : (n m : Lifted) (γ : Ghost) → Good t n → ((a y : ℕ) → Edge t a y → Sane y (view n γ a)) → Edges t n γ → (v : Event t n m) → Coarser t m γ (next γ v)
  coarsens n m γ good sane E (act i woke g os c) = coarser_woke n γ c.does
  coarsens n m γ good sane E (act i (got j x) g os c) = let l = comes t weights n m γ good sane E c in
      coarser_got n γ l (ap (λ h. h.mark j) c.self) (ap (λ h. h.mark i) (c.others j (λ e. apart t weights i j l (sym e)))) (said t weights n m γ good sane E c)
  coarsens n m γ good sane E (off i j x front back c) = keeps (λ a. refl) (λ l. refl)
