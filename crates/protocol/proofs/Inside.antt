-- The nodes of a fragment are joined by branches inside it.
use Rattle.std.proofs.Common.{◌≡◌, ℕ, ◌<◌, cond, eqb, ◌⊎◌, sym, refl, ap, ◌∙◌, subst, inl, inr, arith}
use Rattle.std.proofs.lemmas.Bool.Decides.{eqb_tells}
use Rattle.graph.specs.declared.mark.Mark.TheVariants.{Branch}
use Rattle.graph.specs.Graph.{Graph, Edge, Weights}
use Rattle.protocol.proofs.Base.{Good}
use Rattle.protocol.proofs.Coarser.{Coarser, keeps, joins, coarsens}
use Rattle.protocol.proofs.Edges.{Edges, first, next, turned}
use Rattle.protocol.proofs.Frame.{Lifted, start, Event}
use Rattle.protocol.proofs.Ghost.{Ghost, view}
use Rattle.protocol.proofs.Mode.{Sane}
use Rattle.protocol.proofs.Says.{branches}

-- an edge that is a branch at both ends, inside a fragment
pub record Inner (t : Graph) (n : Lifted) (γ : Ghost) (a b : ℕ) : Type 0 where
  pub edge : Edge t a b
  pub mine : (n.held a).mark b ≡ Branch
  pub theirs : (n.held b).mark a ≡ Branch
  pub same : (γ.own a).label ≡ (γ.own b).label

-- joined by such edges
pub data Inside (t : Graph) (n : Lifted) (γ : Ghost) : ℕ → ℕ → Type 0 where
  itself : {a : ℕ} → Inside t n γ a a
  via : {a c : ℕ} (b : ℕ) → Inner t n γ a b → Inside t n γ b c → Inside t n γ a c

-- two nodes of one label are joined inside it
abbrev pub Insides : Graph → Lifted → Ghost → Type 0
Insides t n γ = (a b : ℕ) → a < t.count → b < t.count → (γ.own a).label ≡ (γ.own b).label → Inside t n γ a b

pub inside_join : {t : Graph} {n : Lifted} {γ : Ghost} {a b c : ℕ} → Inside t n γ a b → Inside t n γ b c → Inside t n γ a c
inside_join itself q = q
inside_join (via k e p) q = via k e (inside_join p q)

pub inside_label : {t : Graph} {n : Lifted} {γ : Ghost} {a b : ℕ} → Inside t n γ a b → (γ.own a).label ≡ (γ.own b).label
inside_label itself = refl
inside_label (via k e p) = e.same ∙ inside_label p

pub inside_back : {t : Graph} {n : Lifted} {γ : Ghost} {a b : ℕ} → Weights t → Inside t n γ a b → Inside t n γ b a
inside_back w itself = itself
inside_back {t} {n} {γ} {a} w (via k e p) = inside_join (inside_back w p) (via a (record { edge = turned t w a k e.edge; mine = e.theirs; theirs = e.mine; same = sym e.same }) itself)

-- branches stay, and equal labels stay equal
carried : {t : Graph} {n m : Lifted} {γ γ' : Ghost} {a b : ℕ} → ((a x : ℕ) → (n.held a).mark x ≡ Branch → (m.held a).mark x ≡ Branch) → ((a b : ℕ) → (γ.own a).label ≡ (γ.own b).label → (γ'.own a).label ≡ (γ'.own b).label) → Inside t n γ a b → Inside t m γ' a b
carried k l itself = itself
carried {a = a} k l (via b e p) = via b (record { edge = e.edge; mine = k a b e.mine; theirs = k b a e.theirs; same = l a b e.same }) (carried k l p)

-- at first each node is alone
pub insides_start : (t : Graph) → Insides t start first
insides_start t a b la lb e = subst (λ z. Inside t start first a z) e itself

-- whose labels have become one
label_one : (a b i j : ℕ) → cond (eqb a j) i a ≡ cond (eqb b j) i b → (a ≡ b) ⊎ (((a ≡ i) × (b ≡ j)) ⊎ ((a ≡ j) × (b ≡ i)))
label_one a b i j e = elim (eqb_tells a j) [
  | inl u ↦ elim (eqb_tells b j) [ inl v ↦ inl (u.1 ∙ sym v.1) | inr v ↦ inr (inr (u.1, grind arith)) ]
  | inr u ↦ elim (eqb_tells b j) [ inl v ↦ inr (inl (grind arith, v.1)) | inr v ↦ inl (grind arith) ]
]

pub insides_coarser : {t : Graph} {n m : Lifted} {γ γ' : Ghost} → Weights t → ((a x : ℕ) → (n.held a).mark x ≡ Branch → (m.held a).mark x ≡ Branch) → Coarser t m γ γ' → Insides t n γ → Insides t m γ'
insides_coarser {γ = γ} w k (keeps f h) I a b la lb e = carried k (λ c d u. f c ∙ u ∙ sym (f d)) (I a b la lb (sym (f a) ∙ e ∙ f b))
insides_coarser {t} {n} {m} {γ} {γ'} w k (joins i j J) I a b la lb e = go (label_one (γ.own a).label (γ.own b).label (γ.own i).label (γ.own j).label (sym (J.labels a) ∙ e ∙ J.labels b))
  where
    equal : (c d : ℕ) → (γ.own c).label ≡ (γ.own d).label → (γ'.own c).label ≡ (γ'.own d).label
    equal c d u = J.labels c ∙ ap (λ z. cond (eqb z (γ.own j).label) (γ.own i).label z) u ∙ sym (J.labels d)

    old : (c d : ℕ) → c < t.count → d < t.count → (γ.own c).label ≡ (γ.own d).label → Inside t m γ' c d
    old c d lc ld u = carried k equal (I c d lc ld u)

    met : (γ'.own i).label ≡ (γ'.own j).label
    met = J.labels i ∙ (let z : cond (eqb (γ.own i).label (γ.own j).label) (γ.own i).label (γ.own i).label ≡ cond (eqb (γ.own j).label (γ.own j).label) (γ.own i).label (γ.own j).label = meet (γ.own i).label (γ.own j).label in z) ∙ sym (J.labels j)
      where
        meet : (x y : ℕ) → cond (eqb x y) x x ≡ cond (eqb y y) x y
        meet x y = grind arith

    new : Inside t m γ' i j
    new = via j (record { edge = J.edge; mine = J.mark_i; theirs = J.mark_j; same = met }) itself

    go : ((γ.own a).label ≡ (γ.own b).label) ⊎ ((((γ.own a).label ≡ (γ.own i).label) × ((γ.own b).label ≡ (γ.own j).label)) ⊎ (((γ.own a).label ≡ (γ.own j).label) × ((γ.own b).label ≡ (γ.own i).label))) → Inside t m γ' a b
    go (inl u) = old a b la lb u
    go (inr (inl (u, v))) = inside_join (old a i la J.edge.0 u) (inside_join new (old j b J.edge.1 lb (sym v)))
    go (inr (inr (u, v))) = inside_join (old a j la J.edge.1 u) (inside_join (inside_back w new) (old i b J.edge.0 lb (sym v)))

module _ (t : Graph) (weights : Weights t) where
  -- each step keeps fragments joined
  pub insides_step : (n m : Lifted) (γ : Ghost) → Good t n → ((a y : ℕ) → Edge t a y → Sane y (view n γ a)) → Edges t n γ → Insides t n γ → (v : Event t n m) → Insides t m (next γ v)
  insides_step n m γ good sane E I v = insides_coarser weights (branches v) (coarsens t weights n m γ good sane E v) I
