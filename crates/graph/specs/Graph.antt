-- Graphs with weighted edges, and which of their edges belong to the lightest net that joins what can be joined.
use Rattle.std.specs.Prelude.{◌≡◌, ℕ, ◌<◌, ◌≤◌, ◌⊎◌}

-- nodes 0 to count - 1; weight a b: of the edge between a and b, 0 where there is none
pub record Graph : Type 0 where
  pub count : ℕ
  pub weight : ℕ → ℕ → ℕ

-- there is an edge between a and b
abbrev pub Edge : Graph → ℕ → ℕ → Type 0
Edge g a b = (a < g.count) × (b < g.count) × (1 ≤ g.weight a b)

-- joined by edges that are all lighter than a weight
pub data Joined (g : Graph) (under : ℕ) : ℕ → ℕ → Type 0 where
  here : {a : ℕ} → Joined g under a a
  over : {a c : ℕ} (b : ℕ) → Edge g a b → g.weight a b < under → Joined g under b c → Joined g under a c

-- what weights have to be: the same both ways, none from a node to itself, and no two edges of one weight
pub record Weights (g : Graph) : Type 0 where
  pub both : (a b : ℕ) → g.weight a b ≡ g.weight b a
  pub own : (a : ℕ) → g.weight a a ≡ 0
  pub differ : (a b c d : ℕ) → Edge g a b → Edge g c d → g.weight a b ≡ g.weight c d → ((a ≡ c) × (b ≡ d)) ⊎ ((a ≡ d) × (b ≡ c))

-- an edge belongs to the lightest net exactly if its ends are not joined by lighter ones
abbrev pub Belongs : Graph → ℕ → ℕ → Type 0
Belongs g a b = Edge g a b × (Joined g (g.weight a b) a b → ⊥)

-- all nodes can be joined
abbrev pub Connected : Graph → Type 0
Connected g = (a b : ℕ) → a < g.count → b < g.count → (u : ℕ) × Joined g u a b
