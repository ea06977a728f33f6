-- The theory of the lightest net: each statement is a type, and a proof of the type is the theorem.
use Rattle.std.specs.Prelude.{◌≡◌, ℕ, zero, suc, ◌≤◌, Bool, true, false, ◌&&◌, ◌||◌, T, ◌⊎◌, ◌==◌, nat_le, nat_lt}
use Rattle.graph.specs.Graph.{Graph, Edge, Joined, Weights, Belongs}

-- The lightest edge that leaves a set of nodes belongs.
abbrev pub Cut : Type 0
Cut =
    (g : Graph) (S : ℕ → Bool) (x y : ℕ) → Edge g x y → S x ≡ true → S y ≡ false →
    ((a b : ℕ) → Edge g a b → S a ≡ true → S b ≡ false → g.weight x y ≤ g.weight a b) → Belongs g x y

-- an edge that is not the one between i and j
abbrev pub Other : (i j a b : ℕ) → Type 0
Other i j a b = ((a ≡ i) × (b ≡ j)) ⊎ ((a ≡ j) × (b ≡ i)) → ⊥

-- a way over edges that belong, other than the one between i and j
pub data Detour (g : Graph) (i j : ℕ) : ℕ → ℕ → Type 0 where
  here : {a : ℕ} → Detour g i j a a
  over : {a c : ℕ} (b : ℕ) → Belongs g a b → Other i j a b → Detour g i j b c → Detour g i j a c

-- An edge whose ends are joined by other edges that belong does not belong: its ends are joined by lighter ones.
abbrev pub Cycle : Type 0
Cycle = (g : Graph) → Weights g → (i j : ℕ) → Edge g i j → Detour g i j i j → Joined g (g.weight i j) i j × (Belongs g i j → ⊥)

-- a way over edges that belong
pub data Spanned (g : Graph) : ℕ → ℕ → Type 0 where
  here : {a : ℕ} → Spanned g a a
  over : {a c : ℕ} (b : ℕ) → Belongs g a b → Spanned g b c → Spanned g a c

-- Nodes that can be joined at all, by edges under some weight, are joined by edges that belong.
abbrev pub Span : Type 0
Span = (g : Graph) (u a b : ℕ) → Joined g u a b → Spanned g a b

-- No edge that belongs can be left out: without it its ends are no longer joined by edges that belong.
abbrev pub NoRing : Type 0
NoRing = (g : Graph) → Weights g → (i j : ℕ) → Belongs g i j → Detour g i j i j → ⊥

-- is there an edge lighter than u
abbrev pub lighter : Graph → ℕ → ℕ → ℕ → Bool
lighter g u a b = (nat_lt a g.count && nat_lt b g.count) && (nat_le 1 (g.weight a b) && nat_lt (g.weight a b) u)

-- are two nodes joined by edges lighter than u, and otherwise only by way of nodes below k
unfoldable pub joined_by : Graph → ℕ → ℕ → ℕ → ℕ → Bool
joined_by g u zero a b = a == b || lighter g u a b
joined_by g u (suc k) a b = joined_by g u k a b || (joined_by g u k a k && joined_by g u k k b)

-- Whether nodes are joined by lighter edges is computed by joined_by, and so it is decided whether an edge belongs.
abbrev pub Decided : Type 0
Decided =
    (g : Graph) → ((u a b : ℕ) → (T (joined_by g u g.count a b) → Joined g u a b) × (Joined g u a b → T (joined_by g u g.count a b))) ×
    ((a b : ℕ) → Dec (Belongs g a b))
