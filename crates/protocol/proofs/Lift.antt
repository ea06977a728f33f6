-- A node as the proof looks at it: what it holds at its places, by the neighbours that stand there.
use Rattle.std.proofs.Common.{◌≡◌, ℕ, zero, suc, ◌<◌, ◌≤◌, false, cond, eqb, List, [], ◌∷◌, length, get_or, set, Some, None, Option, arith}
use Rattle.graph.specs.declared.mark.Mark.{Mark}
use Rattle.graph.specs.declared.mark.Mark.TheVariants.{Basic}
use Rattle.node.specs.declared.state.Node.{Node}
use Rattle.node.specs.declared.state.Best.{Best}
use Rattle.protocol.proofs.Held.{Held, put}
use Rattle.node.specs.declared.state.Best.TheVariants as best
use Rattle.node.specs.Rules.{best_weight}

-- what stands at the place of a neighbour
abbrev pub mark_at : List ℕ → List Mark → ℕ → Mark
mark_at [] ms j = Basic
mark_at (a ∷ others) [] j = Basic
mark_at (a ∷ others) (m ∷ ms) j = cond (eqb a j) m (mark_at others ms j)

-- the neighbour at a place, if there is one
abbrev pub toward : List ℕ → Option ℕ → Option ℕ
toward near None = None
toward near (Some k) = Some (get_or near k 0)

abbrev pub best_to : List ℕ → Best → Option ℕ
best_to near best.Nothing = None
best_to near (best.Over k w) = Some (get_or near k 0)

-- a node by its neighbours
abbrev pub held_of : List ℕ → Node → Held
held_of near n =
    record { status = n.status; mark = mark_at near n.marks; level = n.level; name = n.name; find_count = n.find_count; parent = toward near n.parent; best = best_to near n.best; best_weight = best_weight n.best; testing = toward near n.testing; halted = n.halted }

-- no neighbour stands at two places
abbrev pub Once : List ℕ → Type 0
Once near = (k l : ℕ) → k < length near → l < length near → get_or near k 0 ≡ get_or near l 0 → k ≡ l

pub once_rest : (a : ℕ) (near : List ℕ) → Once (a ∷ near) → Once near
once_rest a near o k l p q e = let z = o (suc k) (suc l) (omega arith) (omega arith) e in omega arith

pub once_head : (a : ℕ) (near : List ℕ) → Once (a ∷ near) → (k : ℕ) → k < length near → a ≡ get_or near k 0 → ⊥
once_head a near o k p e = let z = o 0 (suc k) (omega arith) (omega arith) e in omega arith

-- the mark of the neighbour at a place is the mark at that place
pub mark_at_lem : (near : List ℕ) (ms : List Mark) (k : ℕ) → Once near → k < length near → length near ≤ length ms → mark_at near ms (get_or near k 0) ≡ get_or ms k Basic
mark_at_lem [] ms k o p q = absurd (omega arith)
mark_at_lem (a ∷ near) [] k o p q = absurd (omega arith)
mark_at_lem (a ∷ near) (m ∷ ms) zero o p q = grind arith
mark_at_lem (a ∷ near) (m ∷ ms) (suc k) o p q =
    let h = once_head a near o k (omega arith) in
    let f : eqb a (get_or near k 0) ≡ false = grind arith in
    rw f (mark_at_lem near ms k (once_rest a near o) (omega arith) (omega arith))

-- a mark that is set at a place is set for the neighbour there, and for no other
pub mark_set : (near : List ℕ) (ms : List Mark) (k : ℕ) (m : Mark) → Once near → k < length near → length near ≤ length ms → (j : ℕ) → mark_at near (set ms k m) j ≡ put (get_or near k 0) m (mark_at near ms) j
mark_set [] ms k m o p q j = absurd (omega arith)
mark_set (a ∷ near) [] k m o p q j = absurd (omega arith)
mark_set (a ∷ near) (x ∷ ms) zero m o p q j = grind arith
mark_set (a ∷ near) (x ∷ ms) (suc k) m o p q j =
    let ih = mark_set near ms k m (once_rest a near o) (omega arith) (omega arith) j in
    let h = once_head a near o k (omega arith) in
    more ih h
  where
    more : mark_at near (set ms k m) j ≡ put (get_or near k 0) m (mark_at near ms) j → (a ≡ get_or near k 0 → ⊥) → cond (eqb a j) x (mark_at near (set ms k m) j) ≡ cond (eqb j (get_or near k 0)) m (cond (eqb a j) x (mark_at near ms j))
    more ih h = grind arith
