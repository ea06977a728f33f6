-- THE ONE THEOREM. In every valley, after every list of wakings, packets, acknowledgements and power cuts that the copper's rules allow: the lamps are right, the end is right and lasts, it can always be reached, the messages are few, and nothing overflows.
use Rattle.std.specs.Prelude.{◌≡◌, ℕ, suc, ◌+◌, ◌^◌, ◌<◌, ◌≤◌, Bool, true, List, map, length, Ok, sum_by, ◌≢◌}
use Rattle.graph.specs.declared.edge.WeightedEdge.{WeightedEdge}
use Rattle.graph.specs.Graph.{Graph, Joined, Belongs}
use Rattle.graph.specs.Edges.{graph_from, neighbours_of, Sound}
use Rattle.message.specs.declared.packets.Packet.{Packet}
use Rattle.message.specs.declared.packets.Acknowledgement.{Acknowledgement}
use Rattle.message.specs.Bytes.{packet_of, acknowledgement_of}
use Rattle.graph.specs.declared.mark.Mark.{Mark}
use Rattle.graph.specs.declared.mark.Mark.TheVariants.{Basic, Branch, Rejected}
use Rattle.node.specs.Rules.{mark_of}
use Rattle.protocol.specs.Net.{Near, neighbour}
use Rattle.protocol.specs.Count.{bound}
use Rattle.link.specs.Copper.{Was}
use Rattle.station.specs.State.{State}
use Rattle.page.specs.Page.{fits}
use Rattle.network.specs.Network.{World, state_in, After, Onward, start}

-- the neighbours of each node, in the order of its places
abbrev pub near_of : List WeightedEdge → Near
near_of es i = map (λ n. n.node) (neighbours_of es i)

-- what the lamp of the k-th line of house i says: wait, dig, or don't
abbrev pub lamp_of : World → ℕ → ℕ → Mark
lamp_of w i k = mark_of (state_in w.states i).node k

-- does the house say that all is done
abbrev pub is_done : World → ℕ → Bool
is_done w i = (state_in w.states i).node.halted

-- how many messages a station was ever given to hand over: those acknowledged and those that wait, over all its links
abbrev pub given_by : State → ℕ
given_by s = sum_by (λ e. e.acknowledged + length e.outbox) s.links

module _ (n : ℕ) (es : List WeightedEdge) where
  abbrev pub valley : Graph
  valley = graph_from n es

  -- 1. A lamp that says dig is of a line of the shortest net, and one that says don't is of another.
  abbrev pub LampsRight : World → Type 0
  LampsRight w =
      (i k : ℕ) → i < n → k < length (near_of es i) →
      (lamp_of w i k ≡ Branch → Belongs valley i (neighbour (near_of es) i k)) × (lamp_of w i k ≡ Rejected → Belongs valley i (neighbour (near_of es) i k) → ⊥)

  -- 2. When house h says done: of all houses that can be joined with it exactly the lines of the shortest net say dig, at both ends, and none says wait; and whatever happens then, no such lamp changes.
  abbrev pub EndRight : World → ℕ → Type 0
  EndRight w h =
      (x u k : ℕ) → Joined valley u h x → k < length (near_of es x) →
      (lamp_of w x k ≡ Branch → Belongs valley x (neighbour (near_of es) x k)) × (Belongs valley x (neighbour (near_of es) x k) → lamp_of w x k ≡ Branch) × (lamp_of w x k ≢ Basic)

  abbrev pub EndLasts : World → ℕ → Type 0
  EndLasts w h = (v : World) → After w v → (x u k : ℕ) → Joined valley u h x → k < length (near_of es x) → lamp_of v x k ≡ lamp_of w x k

  -- 3. Among the houses that can be joined with x, some list of wakings, packets and acknowledgements, with no power cut, leads to one that says done.
  abbrev pub EndComes : World → ℕ → Type 0
  EndComes w x = (v : World) × (Onward w v × ((h : ℕ) × (u : ℕ) × Joined valley u x h × (is_done v h ≡ true)))

  -- 4. Few messages: at most five for each house and level, and two for each line.
  abbrev pub FewGiven : World → Type 0
  FewGiven w = (k : ℕ) → n < 2 ^ suc k → sum_by given_by w.states ≤ bound valley k

  -- 5. Nothing overflows: every station has its page, of at most 16 KiB, with all its numbers; and whatever was sent has a form that the other end accepts.
  abbrev pub AllFits : World → Type 0
  AllFits w =
      ((i : ℕ) → i < n → fits (state_in w.states i) ≡ true) × ((i j : ℕ) (bytes : List ℕ) → Was bytes (w.packets i j) → (p : Packet) × (packet_of bytes ≡ Ok p)) ×
      ((i j : ℕ) (bytes : List ℕ) → Was bytes (w.answers i j) → (a : Acknowledgement) × (acknowledgement_of bytes ≡ Ok a))

  pub record Promise (w : World) : Type 0 where
    pub right : LampsRight w
    pub end : (h : ℕ) → h < n → is_done w h ≡ true → EndRight w h × EndLasts w h
    pub comes : (x : ℕ) → x < n → EndComes w x
    pub few : FewGiven w
    pub fit : AllFits w

abbrev pub Theorem : Type 0
Theorem = (n : ℕ) (es : List WeightedEdge) → Sound n es → (w : World) → After (start n es) w → Promise n es w
