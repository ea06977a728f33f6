-- Every node of a net that can be reached stands in the graph: its places are its edges there.
use Rattle.std.proofs.Common.{◌≡◌, ℕ, ◌-◌, ◌<◌, ◌≤◌, true, false, cond, eqb, List, map, length, get_or, replicate, sym, refl, ◌∙◌, subst, inl, inr}
use Rattle.node.proofs.Within.{within_edges, fresh_fit}
use Rattle.std.proofs.lemmas.Bool.Decides.{eqb_tells}
use Rattle.message.specs.declared.messages.Message.{Message}
use Rattle.node.specs.declared.state.Node.{Node}
use Rattle.node.specs.declared.state.Turn.{Turn}
use Rattle.node.specs.Rules.{weight_of, wakes}
use Rattle.node.specs.Laws.{Steps}
use Rattle.graph.specs.Graph.{Graph}
use Rattle.protocol.proofs.Doing.{reshape}
use Rattle.protocol.proofs.Events.{Shaped}
use Rattle.protocol.proofs.Shape.{Shape}
use Rattle.node.proofs.Took.{came, woke as wokeOf, Woke, awake, alone, connects}
use Rattle.node.proofs.After.{after as changed}
use Rattle.node.specs.Rules.{fresh}
use Rattle.protocol.specs.Net.{Net, Near, Placed, Step, waking, taking, deferring, neighbour, after, queueing, start as netStart}
use Rattle.std.proofs.lemmas.List.{length-map, get_or-map, get_or_append_left}

-- the weights of the edges, in the order of their places
weighs : (ws : List ℕ) (k : ℕ) → k < length ws → weight_of (fresh ws) k ≡ get_or ws k 0
weighs ws k l = get_or_append_left ws (replicate (16 - length ws) 0) 0 k l

pub shaped_start : (g : Graph) (near : Near) → Placed g near → Shaped g near (netStart g near)
shaped_start g near p i lt =
    record { within = (fresh_fit ws).0 (subst (λ v. v ≤ 16) (sym size) (p.few i)); edges = size; once = λ k l a b e. p.once i k l a b e; weigh = λ k l. weighs ws k (subst (λ v. k < v) (sym size) l) ∙ get_or-map (g.weight i) (near i) k 0 0 l; real = λ k l. p.real i k lt l; every = λ j e. p.every i j e }
  where
    ws : List ℕ
    ws = map (g.weight i) (near i)

    size : length ws ≡ length (near i)
    size = length-map (near i) (g.weight i)

same_edges : (n : Node) (t : Turn) → Woke n t → (t.node.edges ≡ n.edges) × (t.node.weights ≡ n.weights)
same_edges n _ (awake a) = (refl, refl)
same_edges n _ (alone a e) = (refl, refl)
same_edges n _ (connects k a e) = (refl, refl)

-- a node that has done a turn stands where it stood
module _ (g : Graph) (near : Near) (n : Net) (S : Shaped g near n) (i : ℕ) (lti : i < g.count) (t : Turn) (way : ℕ → ℕ → List Message) (steps : Steps (n.node i) t) (edges : t.node.edges ≡ (n.node i).edges) (weights : t.node.weights ≡ (n.node i).weights) where
  shaped_after : Shaped g near (after near i t way n)
  shaped_after a lt = elim (eqb_tells a i) [
    | inl u ↦ subst (λ v. Shape g a (near a) v) (sym (mine u)) (subst (λ v. Shape g v (near v) t.node) (sym u.1) here)
    | inr u ↦ subst (λ v. Shape g a (near a) v) (sym (theirs u)) (S a lt)
  ]
    where
      mine : (eqb a i ≡ true) × (a ≡ i) → cond (eqb a i) t.node (n.node a) ≡ t.node
      mine u = rw u.0

      theirs : (eqb a i ≡ false) × (a ≡ i → ⊥) → cond (eqb a i) t.node (n.node a) ≡ n.node a
      theirs u = rw u.0

      here : Shape g i (near i) t.node
      here = reshape t.node (S i lti) (within_edges (n.node i) t steps (S i lti).within).0 edges weights

pub shaped_step : {g : Graph} {near : Near} {n m : Net} → Shaped g near n → Step g near n m → Shaped g near m
shaped_step {g} {near} S (waking n i lt z) = let e = same_edges (n.node i) (wakes (n.node i)) (wokeOf (n.node i) (wakes (n.node i)) refl) in shaped_after g near n S i lt (wakes (n.node i)) n.way (inl refl) e.0 e.1
shaped_step {g} {near} S (taking n i k m rest t lt q e) =
    let c = came (n.node i) k m t e in
    let x = changed (n.node i) k m t c.did in
    shaped_after g near n S i lt t (queueing (neighbour near i k) i rest n.way) (inr (k, m, e)) x.edges x.weights
shaped_step S (deferring n i k m front back lt a q e) = S
