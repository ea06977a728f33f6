-- When a node has halted the net is complete, and stays as it is.
use Rattle.std.proofs.Common.{◌≡◌, ℕ, ◌<◌, true, length, sym, refl, ◌∙◌}
use Rattle.graph.specs.declared.mark.Mark.{Mark}
use Rattle.graph.specs.declared.mark.Mark.TheVariants.{Basic, Branch, Rejected}
use Rattle.node.specs.Rules.{mark_of}
use Rattle.graph.specs.Graph.{Graph, Edge, Joined, Weights, Belongs}
use Rattle.protocol.proofs.Ending.{no_basic}
use Rattle.protocol.proofs.Events.{lift, event}
use Rattle.protocol.proofs.Invariant.{rest, standing}
use Rattle.protocol.proofs.Reaches.{Reached, reached}
use Rattle.protocol.proofs.Resting.{marks_rest}
use Rattle.protocol.proofs.Right.{right}
use Rattle.protocol.proofs.Shape.{marked}
use Rattle.protocol.proofs.Standing.{shaped_step}
use Rattle.protocol.specs.Net.{Net, Near, Placed, Reach, then, Run, still, more, neighbour}
use Rattle.protocol.specs.Theorems.{Main, Rests as RestsTheorem}

-- who can be joined with a node is a node
pub joined_below : (g : Graph) {u a b : ℕ} → a < g.count → Joined g u a b → b < g.count
joined_below g l Joined.here = l
joined_below g l (Joined.over b e k r) = joined_below g e.1 r

module _ (g : Graph) (w : Weights g) (near : Near) (p : Placed g near) where
  module _ (n : Net) (r : Reach g near n) (h : ℕ) (lh : h < g.count) (done : (n.node h).halted ≡ true) (x u k : ℕ) (j : Joined g u h x) (l : k < length (near x)) where
    b : Reached g near n
    b = reached g w near p n r

    lx : x < g.count
    lx = joined_below g lh j

    e : Edge g x (neighbour near x k)
    e = (b.shaped x lx).real k l

    -- the mark by neighbour is the mark at the place
    by : ((lift near n).held x).mark (neighbour near x k) ≡ mark_of (n.node x) k
    by = marked g x (near x) (n.node x) (b.shaped x lx) k l

    pub decided_all : mark_of (n.node x) k ≡ Basic → ⊥
    decided_all z = no_basic g w (lift near n) b.ghost (standing g w (lift near n) b.ghost b.inv) h done u x (neighbour near x k) j e (by ∙ z)

    pub just_those : (mark_of (n.node x) k ≡ Branch → Belongs g x (neighbour near x k)) × (Belongs g x (neighbour near x k) → mark_of (n.node x) k ≡ Branch)
    just_those =
        let o = right g w (lift near n) b.ghost b.inv.edges b.inv.insides b.inv.belonging x (neighbour near x k) e in
        (λ z. o.0 (by ∙ z), λ z. known (mark_of (n.node x) k) refl z)
      where
        known : (m : Mark) → mark_of (n.node x) k ≡ m → Belongs g x (neighbour near x k) → mark_of (n.node x) k ≡ Branch
        known Basic q z = absurd (decided_all q)
        known Branch q z = q
        known Rejected q z = absurd ((right g w (lift near n) b.ghost b.inv.edges b.inv.insides b.inv.belonging x (neighbour near x k) e).1 (by ∙ q) z)

  -- what is decided stays, over whole runs
  pub run_reach : {n m : Net} → Reach g near n → Run g near n m → Reach g near m
  run_reach r still = r
  run_reach r (more q s) = then (run_reach r q) s

  stays_so : {n m : Net} → Reach g near n → Run g near n m → (x k : ℕ) → x < g.count → k < length (near x) → (mark_of (n.node x) k ≡ Basic → ⊥) → mark_of (m.node x) k ≡ mark_of (n.node x) k
  stays_so r still x k lx l d = refl
  stays_so {n} r (more {m = m} {o} q s) x k lx l d =
      let before = stays_so r q x k lx l d in
      let b = reached g w near p m (run_reach r q) in
      let v = event b.shaped s in
      let a = marked g x (near x) (m.node x) (b.shaped x lx) k l in
      let c = marked g x (near x) (o.node x) (shaped_step b.shaped s x lx) k l in
      let z = marks_rest g (lift near m) (lift near o) b.ghost b.inv.good (rest g w (lift near m) b.ghost b.inv) b.inv.edges v x (neighbour near x k) (λ y. d (sym before ∙ sym a ∙ y)) in
      sym c ∙ z ∙ a ∙ before

pub complete : Main
complete g w near p n r h lh done x u k j l =
    let a = just_those g w near p n r h lh done x u k j l in (a.0, a.1, decided_all g w near p n r h lh done x u k j l)

pub rests_complete : RestsTheorem
rests_complete g w near p n r h lh done m q x u k j l = stays_so g w near p r q x k (joined_below g lh j) l (decided_all g w near p n r h lh done x u k j l)
