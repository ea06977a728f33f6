-- Names and weights have 32 bits, in every node and in every message under way.
use Rattle.std.proofs.Common.{◌≡◌, ℕ, zero, suc, ◌+◌, ◌-◌, ◌<◌, true, false, cond, eqb, ◌⊎◌, List, [], ◌∷◌, ◌++◌, map, length, get_or, replicate, Some, None, sym, refl, subst, inl, inr, arith}
use Rattle.std.proofs.lemmas.Bool.Decides.{eqb_tells}
use Rattle.std.proofs.lemmas.List.{length-map, get_or-map}
use Rattle.message.specs.declared.messages.Phase.TheVariants as phase
use Rattle.message.specs.declared.messages.Message.{Message}
use Rattle.message.specs.declared.messages.Message.TheVariants.{Connect, Initiate, Test, Accept, Reject, Report, Change}
use Rattle.message.specs.Laws.{Short, ShortOutgoing, ShortMessage}
use Rattle.node.specs.declared.state.Best.{Best}
use Rattle.node.specs.declared.state.Node.{Node}
use Rattle.node.specs.declared.state.Turn.{Turn}
use Rattle.node.specs.Rules.{is_branch, mark_of, weight_of, best_weight, silent, sending, turn, wakes, testing, changes, branching, branches_but, onward, joining, rejecting, bettering, heard}
use Rattle.node.specs.Laws.{sent_over}
use Rattle.node.proofs.Took as took
use Rattle.node.proofs.Took.{Woke, woke, awake, alone, Came, came, Took, absorbed, merged, joined_finding, joined_found, accepts, rejects, tests_on, accepted, rejected, heard_child, changed_by, settled, changed}
use Rattle.node.proofs.Forms.{reports_alike, tests_alike}
use Rattle.node.proofs.After.{BestAfter, after}
use Rattle.node.proofs.Goes as goes
use Rattle.node.proofs.Goes.{Goes, woken_goes}
use Rattle.graph.specs.Graph.{Graph}
use Rattle.protocol.specs.Net as net
use Rattle.protocol.specs.Net.{Net, Near, Step, waking, taking, deferring, Reach, begin, then, neighbour, queueing, over}
use Rattle.protocol.proofs.Events.{queue_has, left_has, off_has}
use Rattle.protocol.proofs.Queues.{Has, has-++}
use Rattle.protocol.proofs.Sounds.{over_has}

-- every weight of a graph has 32 bits
abbrev pub Light : Graph → Type 0
Light g = (a b : ℕ) → Short (g.weight a b)

pub record ShortNode (n : Node) : Type 0 where
  pub name : Short n.name
  pub best : ShortOutgoing (best_weight n.best)
  pub weights : (k : ℕ) → Short (weight_of n k)

-- the name after a message: an initiate says it, no other message changes it
abbrev name_after : Message → ℕ → ℕ
name_after (Connect l) was = was
name_after (Initiate l f p) was = f
name_after (Test l f) was = was
name_after Accept was = was
name_after Reject was = was
name_after (Report w) was = was
name_after Change was = was

changes_name : (k : ℕ) (n : Node) → (changes k n).node.name ≡ n.name
changes_name k n = elim (is_branch (mark_of n k)) as (λ b. (cond b (turn n (sending k Change silent)) (turn (branching k n) (sending k (Connect n.level) silent))).node.name ≡ n.name) [ true ↦ refl | false ↦ refl ]

name_after_lem : (n : Node) (j : ℕ) (m : Message) (t : Turn) → Took n j m t → t.node.name ≡ name_after m n.name
name_after_lem n j _ _ (absorbed l a b) = refl
name_after_lem n j _ _ (merged l a b c) = refl
name_after_lem n j _ _ (joined_finding l f a) = (tests_alike (joining j l f phase.Find (n.find_count + branches_but n j 16) n) (onward n j (Initiate l f phase.Find) 16)).name
name_after_lem n j _ _ (joined_found l f) = refl
name_after_lem n j _ _ (accepts l f a b) = refl
name_after_lem n j _ _ (rejects l f a b c) = refl
name_after_lem n j _ _ (tests_on l f a b c) = (tests_alike (rejecting j n) silent).name
name_after_lem n j _ _ (accepted a) = (reports_alike (bettering j (Some (weight_of n j)) (testing None n)) silent).name
name_after_lem n j _ _ (rejected a) = (tests_alike (rejecting j n) silent).name
name_after_lem n j _ _ (heard_child w a) = (reports_alike (bettering j w (heard n)) silent).name
name_after_lem n j _ _ (changed_by w k v a b c d) = changes_name k n
name_after_lem n j _ _ (settled w a b c) = refl
name_after_lem n j _ _ (changed k v a) = changes_name k n

short_name : (m : Message) (was : ℕ) → ShortMessage m → Short was → Short (name_after m was)
short_name (Connect l) was s h = h
short_name (Initiate l f p) was s h = s
short_name (Test l f) was s h = h
short_name Accept was s h = h
short_name Reject was s h = h
short_name (Report w) was s h = h
short_name Change was s h = h

short_best : (n : Node) (j : ℕ) (m : Message) (b : Best) → ShortMessage m → ShortNode n → BestAfter n j m b → ShortOutgoing (best_weight b)
short_best n j m b s h (inl e) = rw e h.best
short_best n j m b s h (inr (inl e)) = rw e tt
short_best n j m b s h (inr (inr (v, e, inl i))) = rw (e, i) (h.weights j)
short_best n j m b s h (inr (inr (v, e, inr i))) = let g : ShortMessage (Report (Some v)) = rw i at s in rw e g

-- a message that is taken leaves a node short, and what it sends then is short
module _ (n : Node) (j : ℕ) (m : Message) (t : Turn) (h : ShortNode n) (s : ShortMessage m) where
  came_short : Came n j m t → ShortNode t.node
  came_short c =
      let a = after n j m t c.did in
      record {
        name = rw (name_after_lem n j m t c.did) (short_name m n.name s h.name);
        best = short_best n j m t.node.best s h a.best;
        weights = λ k. rw a.weights (h.weights k);
      }

  goes_short : (k : ℕ) (x : Message) → ShortNode t.node → Goes n j m t k x → ShortMessage x
  goes_short k _ o (goes.absorbs a p) = h.name
  goes_short k _ o (goes.merges a b) = h.weights j
  goes_short k _ o (goes.onwards l f p a b) = subst (λ y. ShortMessage y) a s
  goes_short k _ o (goes.accepting a) = tt
  goes_short k _ o (goes.denying a) = tt
  goes_short k _ o (goes.asks a b) = o.name
  goes_short k _ o (goes.tells a) = o.best
  goes_short k _ o (goes.passes a) = tt
  goes_short k _ o (goes.connects a) = tt

woken_short : (n : Node) (t : Turn) → Woke n t → ShortNode n → ShortNode t.node
woken_short n _ (awake a) s = s
woken_short n _ (alone a b) s = record { name = s.name; best = s.best; weights = s.weights }
woken_short n _ (took.connects k a b) s = record { name = s.name; best = s.best; weights = s.weights }

-- numbers of 32 bits, and then zeros
padded_short : (ws : List ℕ) (n k : ℕ) → ((l : ℕ) → l < length ws → Short (get_or ws l 0)) → Short (get_or (ws ++ replicate n 0) k 0)
padded_short [] zero k h = omega arith
padded_short [] (suc n) zero h = omega arith
padded_short [] (suc n) (suc k) h = padded_short [] n k h
padded_short (w ∷ ws) n zero h = h 0 (omega arith)
padded_short (w ∷ ws) n (suc k) h = padded_short ws n k (λ l p. h (suc l) (omega arith))

-- every node of a net is short, and so is what is under way
pub record Shorts (g : Graph) (n : Net) : Type 0 where
  pub node : (i : ℕ) → i < g.count → ShortNode (n.node i)
  pub way : (a b : ℕ) (x : Message) → Has (n.way a b) x → ShortMessage x

module _ (g : Graph) (near : Near) (n : Net) (S : Shorts g n) (i : ℕ) (lt : i < g.count) (t : Turn) (way : ℕ → ℕ → List Message)
    (now : ShortNode t.node) (sent : (k : ℕ) (x : Message) → sent_over t.sends k ≡ Some x → ShortMessage x)
    (was : (a b : ℕ) (x : Message) → Has (way a b) x → Has (n.way a b) x) where
  shorts_after : Shorts g (net.after near i t way n)
  shorts_after = record { node = λ a l. node a l (eqb_tells a i); way = λ a b x h. under a b x (eqb_tells a i) h }
    where
      node : (a : ℕ) → a < g.count → ((eqb a i ≡ true) × (a ≡ i)) ⊎ ((eqb a i ≡ false) × (a ≡ i → ⊥)) → ShortNode (cond (eqb a i) t.node (n.node a))
      node a l (inl u) = rw u.0 now
      node a l (inr u) = rw u.0 (S.node a l)

      under : (a b : ℕ) (x : Message) → ((eqb a i ≡ true) × (a ≡ i)) ⊎ ((eqb a i ≡ false) × (a ≡ i → ⊥)) → Has (cond (eqb a i) (way a b ++ over (near i) t.sends b) (way a b)) x → ShortMessage x
      under a b x (inl u) h = elim (has-++ (way a b) (over (near i) t.sends b) x (subst (λ c. Has (cond c (way a b ++ over (near i) t.sends b) (way a b)) x) u.0 h)) [
        | inl v ↦ S.way a b x (was a b x v)
        | inr v ↦ let r = over_has (near i) t.sends b x v in sent r.0 x r.1
      ]
      under a b x (inr u) h = S.way a b x (was a b x (subst (λ c. Has (cond c (way a b ++ over (near i) t.sends b) (way a b)) x) u.0 h))

shorts_start : (g : Graph) (near : Near) → Light g → Shorts g (net.start g near)
shorts_start g near light =
    record {
      node = λ i lt. record { name = omega arith; best = tt; weights = λ k. padded_short (map (g.weight i) (near i)) (16 - length (map (g.weight i) (near i))) k (λ l p. weigh i l p) };
      way = λ a b x h. absurd h;
    }
  where
    weigh : (i l : ℕ) → l < length (map (g.weight i) (near i)) → Short (get_or (map (g.weight i) (near i)) l 0)
    weigh i l p = subst (λ v. Short v) (sym (get_or-map (g.weight i) (near i) l 0 0 (subst (λ v. l < v) (length-map (near i) (g.weight i)) p))) (light i (neighbour near i l))

shorts_step : {g : Graph} {near : Near} {n m : Net} → Shorts g n → Step g near n m → Shorts g m
shorts_step {g} {near} S (waking n i lt z) =
    let w = woke (n.node i) (wakes (n.node i)) refl in
    shorts_after g near n S i lt (wakes (n.node i)) n.way (woken_short (n.node i) (wakes (n.node i)) w (S.node i lt))
    (λ k x e. let c = woken_goes (n.node i) (wakes (n.node i)) w k x e in rw c.0 tt) (λ a b x h. h)
shorts_step {g} {near} S (taking n i k m rest t lt q e) =
    let c = came (n.node i) k m t e in
    let s = S.way (neighbour near i k) i m (rw q (inl refl)) in
    let o = came_short (n.node i) k m t (S.node i lt) s c in
    shorts_after g near n S i lt t (queueing (neighbour near i k) i rest n.way) o
    (λ l x h. goes_short (n.node i) k m t (S.node i lt) s l x o (goes.goes (n.node i) k m t c.did l x h))
    (queue_has (neighbour near i k) i rest n.way (λ y v. left_has (n.way (neighbour near i k) i) rest m y q v))
shorts_step {g} {near} S (deferring n i k m front back lt a q e) =
    record { node = S.node; way = λ c d x h. S.way c d x (queue_has (neighbour near i k) i (front ++ (m ∷ back)) n.way (off_has front back m n.way (neighbour near i k) i q) c d x h) }

-- so they are in every net that can be reached
pub shorts : (g : Graph) (near : Near) → Light g → (n : Net) → Reach g near n → Shorts g n
shorts g near light _ begin = shorts_start g near light
shorts g near light _ (then {n} {m} r s) = shorts_step (shorts g near light n r) s
