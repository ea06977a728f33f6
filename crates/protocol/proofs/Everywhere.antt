-- Where all nodes can be joined, what holds of a node's component holds of the graph.
use Rattle.std.proofs.Common.{◌≡◌, ℕ, zero, suc, ◌<◌, true, ltb, List, [], ◌∷◌, ◌++◌, sym, refl, ◌∙◌, arith}
use Rattle.message.specs.declared.messages.Message.{Message}
use Rattle.graph.specs.Graph.{Graph}
use Rattle.protocol.specs.Net.{still, more, neighbour}
use Rattle.protocol.specs.Theorems.{members, Closed}
use Rattle.protocol.specs.Whole.{WholeMain, WholeRests, WholeLevels, WholeEnds, WholeNeverStuck}
use Rattle.protocol.proofs.Reaches.{levels_low}
use Rattle.protocol.proofs.Complete.{complete, rests_complete}
use Rattle.protocol.proofs.Moving.{moving}
use Rattle.protocol.proofs.Arrives.{ends as ends-reached}

pub whole_main : WholeMain
whole_main g w c near p n r h lh done x k lx l = let j = c h x lh lx in complete g w near p n r h lh done x j.0 k j.1 l

pub whole_rests : WholeRests
whole_rests g w c near p n m r h lh done s x k lx l = let j = c h x lh lx in sym (rests_complete g w near p n r h lh done m (more still s) x j.0 k j.1 l)

all_members : (n : ℕ) → members (λ x. true) n ≡ n
unfolding members
all_members zero = refl
all_members (suc n) = let ih = all_members n in omega arith

pub whole_levels : WholeLevels
whole_levels g w near p n r i lt = let z = levels_low g w near p n r i lt (λ x. true) (λ x u j. refl) in let e = all_members g.count in omega arith

-- all nodes of the graph are a set that no edge leads out of
everybody : (g : Graph) → Closed g (λ x. ltb x g.count)
everybody g = record { nodes = λ x e. grind arith; closed = λ x y e l. let q = l.1 in grind arith }

below : (g : Graph) {h : ℕ} → ltb h g.count ≡ true → h < g.count
below g e = grind arith

pub whole_ends : WholeEnds
whole_ends g w some few near p n r =
    let e = ends-reached g w few near p n r (λ x. ltb x g.count) (everybody g) 0 (grind arith) in
    (e.0, (e.1.0, (e.1.1.0, below g e.1.1.1, e.1.1.2)))

empty_not : (front back : List Message) (m : Message) → [] ≡ front ++ (m ∷ back) → ⊥
empty_not [] back m e = grind arith
empty_not (x ∷ front) back m e = grind arith

pub whole_never_stuck : WholeNeverStuck
whole_never_stuck g w some near p n r q a =
    let e = moving g w near p n r (λ x. ltb x g.count) (everybody g) (record { awake = λ x c. a x (below g c); deferred = λ x k m front back c l u. absurd (empty_not front back m (sym (q (neighbour near x k) x) ∙ u)) }) 0 (grind arith) in
    (e.0, below g e.1, e.2)
