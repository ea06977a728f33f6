-- An edge whose ends are joined by other edges that belong does not belong.
use Rattle.std.proofs.Common.{◌≡◌, ℕ, zero, suc, ◌<◌, ◌≤◌, max, ◌⊎◌, sym, ◌∙◌, inl, inr, arith}
use native.Mathlib.Decide.{dec_lt}
use Rattle.graph.specs.Graph.{Graph, Edge, Joined, Weights, Belongs}
use Rattle.graph.specs.Theorems.{Cycle, NoRing, Other, Detour}
use Rattle.graph.proofs.Paths.{joined_more, joined_then, joined_back}

-- such a way over edges lighter than u
data Under (g : Graph) (i j u : ℕ) : ℕ → ℕ → Type 0 where
  here : {a : ℕ} → Under g i j u a a
  over : {a c : ℕ} (b : ℕ) → Belongs g a b → Other i j a b → g.weight a b < u → Under g i j u b c → Under g i j u a c

-- an edge of weight v that such a way takes, with what is left of the way on either side of it
record Heaviest (g : Graph) (i j v x y : ℕ) : Type 0 where
  from : ℕ
  to : ℕ
  belongs : Belongs g from to
  other : Other i j from to
  weighs : g.weight from to ≡ v
  before : Under g i j v x from
  after : Under g i j v to y

module _ (g : Graph) (f : Weights g) (i j : ℕ) where
  more : {u v a b : ℕ} → u ≤ v → Under g i j u a b → Under g i j v a b
  more h Under.here = Under.here
  more h (Under.over b p o k r) = Under.over b p o (omega arith) (more h r)

  joined : {u a b : ℕ} → Under g i j u a b → Joined g u a b
  joined Under.here = Joined.here
  joined (Under.over b p o k r) = Joined.over b p.0 k (joined r)

  bounded : {a b : ℕ} → Detour g i j a b → (u : ℕ) × Under g i j u a b
  bounded Detour.here = (0, Under.here)
  bounded (Detour.over {a} b p o r) =
      let w = bounded r in
      (max (suc (g.weight a b)) w.0, Under.over b p o (omega arith) (more (omega arith) w.1))

  -- a first edge of weight v, and what the rest gives
  at_heaviest : {v x y : ℕ} (b : ℕ) → Belongs g x b → Other i j x b → g.weight x b ≡ v → Under g i j v b y ⊎ Heaviest g i j v b y → Under g i j v x y ⊎ Heaviest g i j v x y
  at_heaviest {x} b p o e (inl r) = inr (record { from = x; to = b; belongs = p; other = o; weighs = e; before = Under.here; after = r })
  at_heaviest {v} {x} {y} b p o e (inr t) = same (f.differ x b t.from t.to p.0 t.belongs.0 (e ∙ sym t.weighs))
    where
      same : ((x ≡ t.from) × (b ≡ t.to)) ⊎ ((x ≡ t.to) × (b ≡ t.from)) → Under g i j v x y ⊎ Heaviest g i j v x y
      same (inl s) = inr (record { from = x; to = b; belongs = p; other = o; weighs = e; before = Under.here; after = rw s.1 t.after })
      same (inr s) = inl (rw s.0 t.after)

  further : {v x y : ℕ} (b : ℕ) → Belongs g x b → Other i j x b → g.weight x b < v → Under g i j v b y ⊎ Heaviest g i j v b y → Under g i j v x y ⊎ Heaviest g i j v x y
  further b p o k (inl r) = inl (Under.over b p o k r)
  further b p o k (inr t) =
      inr (record { from = t.from; to = t.to; belongs = t.belongs; other = t.other; weighs = t.weighs; before = Under.over b p o k t.before; after = t.after })

  heaviest : {v x y : ℕ} → Under g i j (suc v) x y → Under g i j v x y ⊎ Heaviest g i j v x y
  heaviest Under.here = inl Under.here
  heaviest {v} (Under.over {a} b p o k r) =
      let w = heaviest r in
      elim (dec_lt (g.weight a b) v) [ yes m ↦ further b p o m w | no m ↦ at_heaviest b p o (omega arith) w ]

  module _ (l : Edge g i j) where
    -- a heaviest edge heavier than the one between i and j would not belong
    none : {v : ℕ} → g.weight i j ≤ v → Heaviest g i j v i j → ⊥
    none {v} h t =
        let ne : g.weight i j ≡ v → ⊥ = λ e. t.other (f.differ t.from t.to i j t.belongs.0 l (t.weighs ∙ sym e)) in
        let to_i : Joined g v t.from i = joined_back g f (joined t.before) in
        let to_end : Joined g v j t.to = joined_back g f (joined t.after) in
        t.belongs.1 (rw t.weighs (joined_then g to_i (Joined.over j l (omega arith) to_end)))

    lighter : (u : ℕ) → Under g i j u i j → Joined g (g.weight i j) i j
    lighter zero p = joined_more g (omega arith) (joined p)
    lighter (suc v) p =
        elim (dec_lt v (g.weight i j)) [
          | yes m ↦ joined_more g m (joined p)
          | no m ↦ elim (heaviest p) [ inl q ↦ lighter v q | inr t ↦ absurd (none (omega arith) t) ]
        ]

pub cycle : Cycle
cycle g f i j l p =
    let w = bounded g f i j p in
    let s = lighter g f i j l w.0 w.1 in
    (s, λ b. b.1 s)

pub no_ring : NoRing
no_ring g f i j b p = (cycle g f i j b.0 p).1 b
