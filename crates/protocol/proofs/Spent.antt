-- Every run ends: each waking and each taking leaves less to do.
use Rattle.std.proofs.Common.{◌≡◌, ℕ, zero, suc, ◌+◌, ◌<◌, ◌≤◌, Bool, true, false, cond, ◌&&◌, eqb, List, [], ◌∷◌, ◌++◌, length, Some, None, Option, refl, ◌∙◌, inl, inr, arith, length-append}
use native.Mathlib.Decide.{dec_lt}
use Rattle.std.proofs.lemmas.Bool.Decides.{eqb_tells}
use Rattle.message.specs.declared.messages.Message.{Message}
use Rattle.node.specs.declared.state.Status.{Status}
use Rattle.node.specs.declared.state.Status.TheVariants.{Sleeping, Find, Found}
use Rattle.node.specs.declared.state.Node.{Node}
use Rattle.node.specs.Rules.{is_sleeping, Sends, lightest, wakes, woken_by, has_edge}
use Rattle.node.specs.declared.state.Turn.{Turn}
use Rattle.node.proofs.Took.{Came, came}
use Rattle.graph.specs.Graph.{Graph, Weights}
use Rattle.protocol.proofs.Bridged.{took_bridged}
use Rattle.protocol.proofs.Complete.{run_reach}
use Rattle.protocol.proofs.Reaches.{Reached, reached, few_messages_sent}
use Rattle.protocol.proofs.Sum.{sum, sum_le, sum_zero, at, sum_one, sum_same, sum_add}
use Rattle.protocol.proofs.Asleep.{awakes}
use Rattle.protocol.proofs.Moving.{not_asleep}
use Rattle.protocol.specs.Net.{Near, neighbour, Placed, Net, given, over, messages, queueing, after, Step, waking, taking, deferring, Reach, begin, Run, still, more, start as netStart}
use Rattle.protocol.specs.Runs.{total, under_way, asleep, move, moves, EveryRunEnds, FewMoves}
use Rattle.protocol.specs.Theorems.{members}

-- the sums of the statements are the sums of the proofs
total_sum : (f : ℕ → ℕ) (n : ℕ) → total f n ≡ sum f n
unfolding total sum
total_sum f zero = refl
total_sum f (suc n) = let ih = total_sum f n in omega arith

members_sum : (C : ℕ → Bool) (n : ℕ) → members C n ≡ sum (λ i. cond (C i) 1 0) n
unfolding members sum
members_sum C zero = refl
members_sum C (suc n) = let ih = members_sum C n in omega arith

-- the lengths of all queues
abbrev row : (ℕ → ℕ → List Message) → ℕ → ℕ → ℕ
row w c a = sum (λ b. length (w a b)) c

abbrev whole : (ℕ → ℕ → List Message) → ℕ → ℕ
whole w c = sum (row w c) c

under_sum : (g : Graph) (n : Net) → under_way g n ≡ whole n.way g.count
under_sum g n = total_sum each g.count ∙ sum_same each (row n.way g.count) g.count (λ i l. total_sum (λ j. length (n.way i j)) g.count)
  where
    each : ℕ → ℕ
    each i = total (λ j. length (n.way i j)) g.count

-- nothing anywhere
sum_none : (n : ℕ) → sum (λ k. 0) n ≡ 0
sum_none n = sum_zero (λ k. 0) n (λ k l. refl)

at_most_once : (j c n : ℕ) → sum (at j c) n ≤ c
at_most_once j c n = elim (dec_lt j n) [ yes l ↦ let e = sum_one j c n l in omega arith | no l ↦ let e = sum_zero (at j c) n (λ k m. grind arith) in omega arith ]

-- what goes to b, when the first place leads to a
first_sent : (a b : ℕ) (o : Option Message) (r : List Message) → length (cond (eqb a b) (given o) [] ++ r) ≡ at a (length (given o)) b + length r
first_sent a b o r = elim (eqb_tells a b) [ inl u ↦ let s : eqb b a ≡ true = grind arith in rw (u.0, s) (length-append (given o) r) | inr u ↦ grind arith ]

-- a node sends no more to its neighbours than it sends
sent_most : (near : List ℕ) (s : Sends) (c : ℕ) → sum (λ b. length (over near s b)) c ≤ messages s
sent_most [] s c = let e = sum_none c in omega arith
sent_most (a ∷ near) [] c = let e = sum_none c in omega arith
sent_most (a ∷ near) (o ∷ s) c =
    let ih = sent_most near s c in
    let e = sum_same (λ b. length (over (a ∷ near) (o ∷ s) b)) (λ b. at a (length (given o)) b + length (over near s b)) c (λ b l. first_sent a b o (over near s b)) in
    let f = sum_add (at a (length (given o))) (λ b. length (over near s b)) c in
    let h = at_most_once a (length (given o)) c in
    omega arith

-- what node i sends comes behind what is under way
module _ (i : ℕ) (near : List ℕ) (s : Sends) (w : ℕ → ℕ → List Message) (c : ℕ) where
  abbrev behind : ℕ → ℕ → List Message
  behind a b = cond (eqb a i) (w a b ++ over near s b) (w a b)

  row_behind : (a : ℕ) (x : Bool) → sum (λ b. length (cond x (w a b ++ over near s b) (w a b))) c ≤ row w c a + cond x (messages s) 0
  row_behind a true =
      let e = sum_same (λ b. length (w a b ++ over near s b)) (λ b. length (w a b) + length (over near s b)) c (λ b l. length-append (w a b) (over near s b)) in
      let f = sum_add (λ b. length (w a b)) (λ b. length (over near s b)) c in
      let h = sent_most near s c in
      omega arith
  row_behind a false = omega arith

  whole_behind : whole behind c ≤ whole w c + messages s
  whole_behind =
      let e = sum_le (row behind c) (λ a. 0) (row w c) (at i (messages s)) c (λ a l. let h = row_behind a (eqb a i) in omega arith) in
      let f = sum_none c in
      let h = at_most_once i (messages s) c in
      omega arith

cell : (x y : Bool) (q r : List Message) (d : ℕ) → (x ≡ true → y ≡ true → length q + d ≤ length r) → length (cond (x && y) q r) + cond (x && y) d 0 ≤ length r
cell true true q r d h = h refl refl
cell true false q r d h = omega arith
cell false y q r d h = omega arith

eqb_is : (a b : ℕ) → eqb a b ≡ true → a ≡ b
eqb_is a b e = grind arith

-- the queue from j to i is replaced by one that is shorter by d
module _ (j i : ℕ) (q : List Message) (w : ℕ → ℕ → List Message) (c d : ℕ) (lj : j < c) (li : i < c) (shorter : length q + d ≤ length (w j i)) where
  cell_sum : (x : Bool) → sum (λ b. cond (x && eqb b i) d 0) c ≡ cond x d 0
  cell_sum true = sum_one i d c li
  cell_sum false = sum_none c

  row_queue : (a : ℕ) → row (queueing j i q w) c a + at j d a ≤ row w c a + 0
  row_queue a =
      let e = sum_le (λ b. length (queueing j i q w a b)) (λ b. cond (eqb a j && eqb b i) d 0) (λ b. length (w a b)) (λ b. 0) c (λ b l. let h = each b in omega arith) in
      let f = cell_sum (eqb a j) in
      let z = sum_none c in
      omega arith
    where
      each : (b : ℕ) → length (queueing j i q w a b) + cond (eqb a j && eqb b i) d 0 ≤ length (w a b)
      each b = cell (eqb a j) (eqb b i) q (w a b) d (λ x y. rw (eqb_is a j x, eqb_is b i y) shorter)

  whole_queue : whole (queueing j i q w) c + d ≤ whole w c
  whole_queue =
      let e = sum_le (row (queueing j i q w) c) (at j d) (row w c) (λ a. 0) c (λ a l. row_queue a) in
      let f = sum_one j d c lj in
      let z = sum_none c in
      omega arith

awake_is : (s : Status) → (s ≡ Sleeping → ⊥) → is_sleeping s ≡ false
awake_is Sleeping f = absurd (f refl)
awake_is Find f = refl
awake_is Found f = refl

-- node i has become t, which is awake
module _ (g : Graph) (n : Net) (i : ℕ) (t : Node) (lt : i < g.count) (up : is_sleeping t.status ≡ false) where
  abbrev one : ℕ → ℕ
  one a = cond (is_sleeping (n.node a).status) 1 0

  asleep_after : sum (λ a. cond (is_sleeping (cond (eqb a i) t (n.node a)).status) 1 0) g.count + one i ≤ sum one g.count
  asleep_after =
      let e = sum_le (λ a. cond (is_sleeping (cond (eqb a i) t (n.node a)).status) 1 0) (at i (one i)) one (λ a. 0) g.count (λ a l. each a) in
      let f = sum_one i (one i) g.count lt in
      let z = sum_none g.count in
      omega arith
    where
      each : (a : ℕ) → cond (is_sleeping (cond (eqb a i) t (n.node a)).status) 1 0 + at i (one i) a ≤ one a + 0
      each a = elim (eqb_tells a i) [ inl u ↦ rw (u.0, up, u.1) (omega arith) | inr u ↦ rw u.0 (omega arith) ]

woken_by_lem : (o : Option ℕ) (n : Node) → is_sleeping (woken_by o n).node.status ≡ false
woken_by_lem None n = refl
woken_by_lem (Some k) n = refl

woken : (n : Node) → is_sleeping n.status ≡ true → is_sleeping (wakes n).node.status ≡ false
woken n e = rw e (woken_by_lem (lightest n (has_edge n) 16) n)

off_length : (front back : List Message) (m : Message) → length (front ++ (m ∷ back)) ≡ length (m ∷ (front ++ back))
off_length [] back m = refl
off_length (y ∷ front) back m = let ih = off_length front back m in omega arith

-- what a step spends
abbrev Spends : Graph → Net → Net → ℕ → Type 0
Spends g n m v = v + (under_way g m + asleep g m) + n.count ≤ m.count + (under_way g n + asleep g n)

module _ (g : Graph) (near : Near) (n : Net) (i : ℕ) (lt : i < g.count) (t : Turn) (way : ℕ → ℕ → List Message) (up : is_sleeping t.node.status ≡ false) where
  spent_after : (v : ℕ) → v + whole way g.count ≤ whole n.way g.count + cond (is_sleeping (n.node i).status) 1 0 → Spends g n (after near i t way n) v
  spent_after v h =
      let a = under_sum g n in
      let b = under_sum g (after near i t way n) in
      let c = members_sum (λ a. is_sleeping (n.node a).status) g.count in
      let d = members_sum (λ a. is_sleeping ((after near i t way n).node a).status) g.count in
      let e = whole_behind i (near i) t.sends way g.count in
      let f = asleep_after g n i t.node lt up in
      omega arith

spent : {g : Graph} {near : Near} {n m : Net} → Reached g near n → (s : Step g near n m) → Spends g n m (move s)
spent {g} {near} R (waking n i lt z) = spent_after g near n i lt (wakes (n.node i)) n.way (woken (n.node i) z) 1 (rw z (omega arith))
spent {g} {near} R (taking n i k m rest t lt q e) = spent_after g near n i lt t (queueing j i rest n.way) up 1 (let h = whole_queue j i rest n.way g.count 1 lj lt (rw q (omega arith)) in omega arith)
  where
    j : ℕ
    j = neighbour near i k

    c : Came (n.node i) k m t
    c = came (n.node i) k m t e

    lj : j < g.count
    lj = (R.inv.good.queues j i m (rw q (inl refl))).0

    up : is_sleeping t.node.status ≡ false
    up = awake_is t.node.status (awakes (not_asleep (n.node i).status c.wakeful) (took_bridged g i (near i) (n.node i) (R.shaped i lt) lt k m t c.there c.did).deed)
spent {g} {near} R (deferring n i k m front back lt a q e) =
    let l = off_length front back m in
    let h = whole_queue j i (front ++ (m ∷ back)) n.way g.count 0 lj lt (rw q (omega arith)) in
    let u = under_sum g n in
    let v = under_sum g (record { node = n.node; way = queueing j i (front ++ (m ∷ back)) n.way; count = n.count }) in
    omega arith
  where
    j : ℕ
    j = neighbour near i k

    lj : j < g.count
    lj = (R.inv.good.queues j i m (rw q (inl refl))).0

module _ (g : Graph) (w : Weights g) (near : Near) (p : Placed g near) where
  run_spent : {n m : Net} → Reach g near n → (r : Run g near n m) → Spends g n m (moves r)
  unfolding moves
  run_spent r still = omega arith
  run_spent {n} r (more {m = m} {o} q s) =
      let ih = run_spent r q in
      let e = spent (reached g w near p m (run_reach g w near p r q)) s in
      omega arith

pub every_run_ends : EveryRunEnds
every_run_ends g w near p k small n r m q =
    let a = few_messages_sent g w near p k small n r in
    let b = few_messages_sent g w near p k small m (run_reach g w near p r q) in
    let c = run_spent g w near p r q in
    omega arith

members_most : (C : ℕ → Bool) (n : ℕ) → members C n ≤ n
unfolding members
members_most C zero = omega arith
members_most C (suc n) = let ih = members_most C n in elim (C n) as (λ v. cond v 1 0 + members C n ≤ suc n) [ true ↦ omega arith | false ↦ omega arith ]

pub few_moves : FewMoves
few_moves g w near p k small m q =
    let e = every_run_ends g w near p k small (netStart g near) begin m q in
    let u = under_sum g (netStart g near) in
    let z = sum_zero (row (λ a b. []) g.count) g.count (λ a l. sum_none g.count) in
    let s = members_most (λ i. is_sleeping ((netStart g near).node i).status) g.count in
    omega arith
