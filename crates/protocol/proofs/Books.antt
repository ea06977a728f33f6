-- No more is ever sent than is charged.
use Rattle.std.proofs.Common.{◌≡◌, ℕ, suc, ◌+◌, ◌<◌, ◌≤◌, Bool, true, false, cond, eqb, leb, ◌⊎◌, List, [], ◌∷◌, ◌++◌, length, Some, None, Option, sym, refl, subst, inl, inr, arith}
use Rattle.std.proofs.lemmas.Bool.Decides.{eqb_tells}
use Rattle.message.specs.declared.messages.Message.{Message}
use Rattle.message.specs.declared.messages.Message.TheVariants.{Connect, Initiate, Test, Accept, Reject, Report, Change}
use Rattle.graph.specs.declared.mark.Mark.{Mark}
use Rattle.graph.specs.declared.mark.Mark.TheVariants.{Basic}
use Rattle.node.specs.Rules.{is_branch}
use Rattle.graph.specs.Graph.{Graph, Edge, Weights}
use Rattle.protocol.proofs.Deed.{woke, In, got, Deed}
use Rattle.protocol.proofs.Frame.{Took, start, Lifted, Ready, Act, Off}
use Rattle.protocol.proofs.Ghost.{Own, Ghost, View, view, turn, mine, stepped}
use Rattle.protocol.proofs.Held.{Send, Held, is_none}
use Rattle.protocol.proofs.Purse.{Purse, bit, is_ruled, weigh, load, load-++, cell, due, paid, gain, booked, OwesIn, weigh_in, Clean, row, balance, FromIn, gain_sum, five, Fair, fair, Comes, gain_line}
use Rattle.protocol.proofs.Sum.{sum, sum_le, sum_zero, at, sum_one, sum_same, sum_add, sum_only, sum_swap, pairs, square, pairs_le}

-- the end at a of the edge to k; an edge only; and all that node a is charged with
abbrev pub slot : Graph → Lifted → (ℕ → Purse) → ℕ → ℕ → ℕ
slot t n P a k = cond (leb 1 (t.weight a k)) (cell ((n.held a).mark k) ((P a).waste k) (n.way a k)) 0

abbrev pub charge : Graph → Lifted → Ghost → (ℕ → Purse) → ℕ → ℕ
charge t n γ P a = paid (n.held a) (γ.own a) (P a) + sum (slot t n P a) t.count

abbrev pub Books : Graph → Lifted → Ghost → (ℕ → Purse) → Type 0
Books t n γ P = n.count ≤ sum (charge t n γ P) t.count

-- the mark at the other end of the edge that a message comes by
abbrev pub far : Lifted → ℕ → In → Mark
far n i woke = Basic
far n i (got j m) = (n.held j).mark i

abbrev pub lost : In → Mark → ℕ → ℕ
lost woke M a = 0
lost (got j x) M a = at j (weigh M x) a

-- what the other invariants give
pub record Dues (t : Graph) (n : Lifted) (γ : Ghost) : Type 0 where
  pub owes : (i : ℕ) (inp : In) → Ready t n i (n.held i) inp → OwesIn inp (far n i inp) (γ.fragment (γ.own i).label).level (n.held i) (γ.own i)
  pub clean : (i k : ℕ) → Edge t i k → Clean k (γ.fragment (γ.own i).label).level (n.held i) (γ.own i) (n.way i k)
  pub laid_line : (i k : ℕ) → is_branch ((n.held i).mark k) ≡ true → Edge t i k
  pub comes : (i : ℕ) (inp : In) → Ready t n i (n.held i) inp → Comes t i inp

abbrev pub written : {t : Graph} {i : ℕ} {h g : Held} {inp : In} {os : List Send} → Deed t i h inp g os → Own → (ℕ → Purse) → ℕ → Purse
written {i = i} d o P a =
    record { spent = cond (eqb a i) (booked d o (P i)).spent (P a).spent; accepted = cond (eqb a i) (booked d o (P i)).accepted (P a).accepted; waste = λ k. cond (eqb a i) ((booked d o (P i)).waste k) ((P a).waste k) }

lost_sum : (t : Graph) (inp : In) (M : Mark) → FromIn t inp → sum (lost inp M) t.count ≡ weigh_in inp M
lost_sum t woke M l = sum_zero (λ a. 0) t.count (λ a b. refl)
lost_sum t (got j x) M l = sum_one j (weigh M x) t.count l

from_in : (t : Graph) (i : ℕ) (inp : In) → Comes t i inp → FromIn t inp
from_in t i woke c = tt
from_in t i (got j m) c = c.1

-- a queue that another node took from
took_load : (inp : In) (N : ℕ → Mark) (i a : ℕ) (M : Mark) (w : ℕ) (q r : List Message) → Took a inp q r → (F : (j : ℕ) (x : Message) → inp ≡ got j x → j ≡ a → M ≡ N a) → cell (N a) w q ≤ cell (N a) w r + lost inp M a
took_load woke N i a M w q r e F = rw e (omega arith)
took_load (got j x) N i a M w q r (inl (e, f)) F = let z = F j x refl e in let o : eqb a j ≡ true = grind arith in rw (f, o, z) (omega arith)
took_load (got j x) N i a M w q r (inr (e, f)) F = let o : eqb a j ≡ false = grind arith in rw (f, o) (omega arith)

only : (b : Bool) (x y g : ℕ) → (b ≡ true → x + g ≤ y) → (b ≡ false → g ≡ 0) → cond b x 0 + g ≤ cond b y 0
only true x y g f h = f refl
only false x y g f h = let z = h refl in omega arith

only2 : (b : Bool) (x y g : ℕ) → (b ≡ true → x ≤ y + g) → cond b x 0 ≤ cond b y 0 + g
only2 true x y g f = f refl
only2 false x y g f = omega arith

-- the node that acts
module _ (t : Graph) (weights : Weights t) (n m : Lifted) (γ : Ghost) (P : ℕ → Purse) (D : Dues t n γ) (U : (a : ℕ) → Fair (n.held a) (P a)) where
  apart : (a b : ℕ) → Edge t a b → a ≡ b → ⊥
  apart a b l e = let z : t.weight a b ≡ 0 = rw e (weights.own b) in let o : 1 ≤ t.weight a b = l.2 in omega arith

  no_self : (a b : ℕ) → leb 1 (t.weight a b) ≡ true → b ≡ a → ⊥
  no_self a b l e = let z : t.weight a b ≡ 0 = rw e (weights.own a) in grind arith

  module _ {i : ℕ} {inp : In} {g : Held} {os : List Send} (J : View) (c : Act t n m i inp g os) where
    abbrev Γ : Ghost
    Γ = stepped (turn c.does) i (view n γ i) J γ

    abbrev Q : ℕ → Purse
    Q = written c.does (γ.own i) P

    abbrev M : Mark
    M = far n i inp

    same_i : eqb i i ≡ true
    same_i = grind arith

    slot_rises : (k : ℕ) → k < t.count → slot t n P i k + gain c.does k ≤ slot t m Q i k + 0
    slot_rises k l = let e = only (leb 1 (t.weight i k)) (cell ((n.held i).mark k) ((P i).waste k) (n.way i k)) (cell ((m.held i).mark k) ((Q i).waste k) (m.way i k)) (gain c.does k) line off in omega arith
      where
        line : leb 1 (t.weight i k) ≡ true → cell ((n.held i).mark k) ((P i).waste k) (n.way i k) + gain c.does k ≤ cell ((m.held i).mark k) ((Q i).waste k) (m.way i k)
        line e = rw (c.self, c.sent k (no_self i k e), same_i) (row c.does M (γ.fragment (γ.own i).label).level (γ.own i) (P i) c.ready.awake (D.owes i inp c.ready) k (n.way i k) l (D.clean i k (c.ready.inside, l, grind arith)))

        off : leb 1 (t.weight i k) ≡ false → gain c.does k ≡ 0
        off e = gain_line c.does (D.comes i inp c.ready) k (D.laid_line i k) e

    paid_i : paid (m.held i) (Γ.own i) (Q i) ≡ paid g (mine (turn c.does) (view n γ i) J) (booked c.does (γ.own i) (P i))
    paid_i = rw (c.self, same_i)

    self_rises : charge t n γ P i + (length os + weigh_in inp M) ≤ charge t m Γ Q i + lost inp M i
    self_rises =
        let a = sum_le (slot t n P i) (gain c.does) (slot t m Q i) (λ k. 0) t.count slot_rises in
        let b = gain_sum c.does (from_in t i inp (D.comes i inp c.ready)) in
        let z = sum_zero (λ k. 0) t.count (λ k l. refl) in
        let v = balance (view n γ i) J c.does M (γ.fragment (γ.own i).label).level (P i) (D.owes i inp c.ready) (U i).once in
        let w = paid_i in omega arith

    slot_else : (a : ℕ) → (a ≡ i → ⊥) → (k : ℕ) → k < t.count → slot t n P a k + 0 ≤ slot t m Q a k + at i (lost inp M a) k
    slot_else a d k l = let e = only2 (leb 1 (t.weight a k)) (cell ((n.held a).mark k) ((P a).waste k) (n.way a k)) (cell ((m.held a).mark k) ((Q a).waste k) (m.way a k)) (at i (lost inp M a) k) (λ u. line (eqb_tells k i)) in omega arith
      where
        na : eqb a i ≡ false
        na = grind arith

        mark_of : (inp : In) (j : ℕ) (x : Message) → inp ≡ got j x → j ≡ a → far n i inp ≡ (n.held a).mark i
        mark_of inp j x e f = rw (e, f)

        over : cell ((n.held a).mark i) ((P a).waste i) (n.way a i) ≤ cell ((n.held a).mark i) ((P a).waste i) (m.way a i) + lost inp M a
        over = took_load inp (λ b. (n.held b).mark i) i a M ((P a).waste i) (n.way a i) (m.way a i) (c.took a d) (mark_of inp)

        line : ((eqb k i ≡ true) × (k ≡ i)) ⊎ ((eqb k i ≡ false) × (k ≡ i → ⊥)) → cell ((n.held a).mark k) ((P a).waste k) (n.way a k) ≤ cell ((m.held a).mark k) ((Q a).waste k) (m.way a k) + at i (lost inp M a) k
        line (inl (u, e)) = rw (c.others a d, na, e, same_i) over
        line (inr (u, f)) = rw (c.others a d, na, c.far a k d f, u) (omega arith)

    paid_else : (a : ℕ) → (a ≡ i → ⊥) → paid (m.held a) (Γ.own a) (Q a) ≡ paid (n.held a) (γ.own a) (P a)
    paid_else a d = let na : eqb a i ≡ false = grind arith in rw (c.others a d, na)

    else_keeps : (a : ℕ) → (a ≡ i → ⊥) → charge t n γ P a ≤ charge t m Γ Q a + lost inp M a
    else_keeps a d =
        let e = sum_le (slot t n P a) (λ k. 0) (slot t m Q a) (at i (lost inp M a)) t.count (slot_else a d) in
        let o = sum_one i (lost inp M a) t.count c.ready.inside in
        let z = sum_zero (λ k. 0) t.count (λ k l. refl) in
        let w = paid_else a d in omega arith

    pub books_act : Books t n γ P → Books t m Γ Q
    books_act b =
        let ct = c.count in
        let e = sum_le (charge t n γ P) (at i (length os + weigh_in inp M)) (charge t m Γ Q) (lost inp M) t.count each in
        let o = sum_one i (length os + weigh_in inp M) t.count c.ready.inside in
        let z = lost_sum t inp M (from_in t i inp (D.comes i inp c.ready)) in omega arith
      where
        each : (a : ℕ) → a < t.count → charge t n γ P a + at i (length os + weigh_in inp M) a ≤ charge t m Γ Q a + lost inp M a
        each a l = go (eqb_tells a i)
          where
            go : ((eqb a i ≡ true) × (a ≡ i)) ⊎ ((eqb a i ≡ false) × (a ≡ i → ⊥)) → charge t n γ P a + at i (length os + weigh_in inp M) a ≤ charge t m Γ Q a + lost inp M a
            go (inl (u, e)) = subst (λ x. charge t n γ P x + at i (length os + weigh_in inp M) x ≤ charge t m Γ Q x + lost inp M x) (sym e) (let k = self_rises in let o : at i (length os + weigh_in inp M) i ≡ length os + weigh_in inp M = rw same_i in omega arith)
            go (inr (u, f)) = let k = else_keeps a f in let o : at i (length os + weigh_in inp M) a ≡ 0 = rw u in omega arith

  -- a message that is put off
  load_off : (K : Mark) (x : Message) (front back : List Message) → load K (x ∷ (front ++ back)) ≡ load K (front ++ (x ∷ back))
  load_off K x front back = let a = load-++ K front back in let b = load-++ K front (x ∷ back) in omega arith

  pub books_off : {i j : ℕ} {x : Message} {front back : List Message} → Off t n m i j x front back → Books t n γ P → Books t m γ P
  books_off {i} {j} {x} {front} {back} c b = let ct = c.count in let e = sum_same (charge t n γ P) (charge t m γ P) t.count each in omega arith
    where
      queue : (a k : ℕ) (K : Mark) → load K (n.way a k) ≡ load K (m.way a k)
      queue a k K = go (eqb_tells a j) (eqb_tells k i)
        where
          go : ((eqb a j ≡ true) × (a ≡ j)) ⊎ ((eqb a j ≡ false) × (a ≡ j → ⊥)) → ((eqb k i ≡ true) × (k ≡ i)) ⊎ ((eqb k i ≡ false) × (k ≡ i → ⊥)) → load K (n.way a k) ≡ load K (m.way a k)
          go (inl u) (inl v) = rw (u.1, v.1, c.before, c.after) (load_off K x front back)
          go (inl u) (inr v) = rw (c.far a k (λ e. v.1 e.1))
          go (inr u) v = rw (c.far a k (λ e. u.1 e.0))

      one_slot : (a k : ℕ) → slot t n P a k ≡ slot t m P a k
      one_slot a k = let q = queue a k ((n.held a).mark k) in rw (c.helds a, q)

      each : (a : ℕ) → a < t.count → charge t n γ P a ≡ charge t m γ P a
      each a l = let e = sum_same (slot t n P a) (slot t m P a) t.count (λ k z. one_slot a k) in let o : paid (n.held a) (γ.own a) (P a) ≡ paid (m.held a) (γ.own a) (P a) = rw (c.helds a) in omega arith

-- the purses stay fair
pub fair_act : {t : Graph} {n m : Lifted} (γ : Ghost) (P : ℕ → Purse) {i : ℕ} {inp : In} {g : Held} {os : List Send} (c : Act t n m i inp g os) → Dues t n γ → ((a : ℕ) → Fair (n.held a) (P a)) → (a : ℕ) → Fair (m.held a) (written c.does (γ.own i) P a)
fair_act {t} {n} {m} γ P {i} {inp} {g} {os} c D U a = go (eqb_tells a i)
  where
    mine_fair : Fair g (booked c.does (γ.own i) (P i))
    mine_fair = fair c.does (far n i inp) (γ.fragment (γ.own i).label).level (γ.own i) (P i) (D.owes i inp c.ready) (U i)

    go : ((eqb a i ≡ true) × (a ≡ i)) ⊎ ((eqb a i ≡ false) × (a ≡ i → ⊥)) → Fair (m.held a) (written c.does (γ.own i) P a)
    go (inl (u, e)) = let h : m.held a ≡ g = rw e c.self in rw (h, u) mine_fair
    go (inr (u, f)) = rw (c.others a f, u) (U a)

pub books_start : (t : Graph) (γ : Ghost) (P : ℕ → Purse) → Books t start γ P
books_start t γ P = omega arith

-- the end: what is under way is counted where it goes to
abbrev pub is_init : Message → ℕ
is_init (Connect l) = 0
is_init (Initiate l f s) = 1
is_init (Test l f) = 0
is_init Accept = 0
is_init Reject = 0
is_init (Report w) = 0
is_init Change = 0

abbrev pub inits : List Message → ℕ
inits [] = 0
inits (x ∷ q) = is_init x + inits q

abbrev pub is_answer : Mark → Message → ℕ
is_answer K (Connect l) = 0
is_answer K (Initiate l f s) = 0
is_answer K (Test l f) = 0
is_answer K Accept = 1
is_answer K Reject = bit (is_branch K)
is_answer K (Report w) = 0
is_answer K Change = 0

abbrev pub answers : Mark → List Message → ℕ
answers K [] = 0
answers K (x ∷ q) = is_answer K x + answers K q

split1 : (K : Mark) (x : Message) → weigh K x ≡ is_init x + is_answer K x
split1 K (Connect l) = refl
split1 K (Initiate l f s) = refl
split1 K (Test l f) = refl
split1 K Accept = refl
split1 K Reject = omega arith
split1 K (Report w) = refl
split1 K Change = refl

load_split : (K : Mark) (q : List Message) → load K q ≡ inits q + answers K q
load_split K [] = refl
load_split K (x ∷ q) = let ih = load_split K q in let e = split1 K x in omega arith

abbrev pub edge : Graph → Lifted → (ℕ → Purse) → ℕ → ℕ → ℕ
edge t n P a k = cond (leb 1 (t.weight a k)) (bit (is_ruled ((n.held a).mark k)) + ((P a).waste k + (P a).waste k)) 0

abbrev pub inits_to : Graph → Lifted → ℕ → ℕ → ℕ
inits_to t n a b = cond (leb 1 (t.weight b a)) (inits (n.way b a)) 0

abbrev pub answers_to : Graph → Lifted → ℕ → ℕ → ℕ
answers_to t n a b = cond (leb 1 (t.weight b a)) (answers ((n.held b).mark a) (n.way b a)) 0

-- what the other invariants give of one net
pub record Bounds (t : Graph) (n : Lifted) (P : ℕ → Purse) (K : ℕ) : Type 0 where
  pub fairly : (a : ℕ) → Fair (n.held a) (P a)
  pub levels : (a : ℕ) → a < t.count → (n.held a).level + sum (inits_to t n a) t.count ≤ K
  pub asked : (a b : ℕ) → Edge t b a → (n.held a).testing ≡ Some b → answers ((n.held b).mark a) (n.way b a) ≤ 1
  pub unasked : (a b : ℕ) → Edge t b a → ((n.held a).testing ≡ Some b → ⊥) → answers ((n.held b).mark a) (n.way b a) ≡ 0
  pub tests_line : (a b : ℕ) → (n.held a).testing ≡ Some b → Edge t a b
  pub two : (a b : ℕ) → Edge t a b → edge t n P a b + edge t n P b a ≤ 2

module _ (t : Graph) (weights : Weights t) (n : Lifted) (γ : Ghost) (P : ℕ → Purse) (K : ℕ) (B : Bounds t n P K) where
  one_answer : (a : ℕ) → a < t.count → sum (answers_to t n a) t.count ≤ cond (is_none (n.held a).testing) 0 1
  one_answer a l = go (n.held a).testing refl
    where
      out : (w : Option ℕ) → (n.held a).testing ≡ w → (b : ℕ) → b < t.count → (w ≡ Some b → ⊥) → answers_to t n a b ≡ 0
      out w e b l2 f = by (leb 1 (t.weight b a)) refl
        where
          by : (s : Bool) → leb 1 (t.weight b a) ≡ s → cond s (answers ((n.held b).mark a) (n.way b a)) 0 ≡ 0
          by true h = B.unasked a b (l2, l, grind arith) (λ z. f (rw e at z))
          by false h = refl

      at_most : (b : ℕ) → (n.held a).testing ≡ Some b → answers_to t n a b ≤ 1
      at_most b e = by (leb 1 (t.weight b a)) refl
        where
          by : (s : Bool) → leb 1 (t.weight b a) ≡ s → cond s (answers ((n.held b).mark a) (n.way b a)) 0 ≤ 1
          by true h = B.asked a b ((B.tests_line a b e).1, l, grind arith) e
          by false h = omega arith

      go : (w : Option ℕ) → (n.held a).testing ≡ w → sum (answers_to t n a) t.count ≤ cond (is_none w) 0 1
      go None e = let z = sum_zero (answers_to t n a) t.count (λ b l2. out None e b l2 (λ z. grind arith)) in omega arith
      go (Some b) e = sum_only (answers_to t n a) b 1 t.count (B.tests_line a b e).1 (at_most b e) (λ k l2 f. out (Some b) e k l2 (λ z. grind arith))

  under : ℕ → ℕ → ℕ
  under b a = inits_to t n a b + answers_to t n a b

  house_bound : (a : ℕ) → a < t.count → paid (n.held a) (γ.own a) (P a) + sum (λ b. under b a) t.count ≤ five (suc K)
  unfolding under
  house_bound a l =
      let e = sum_add (inits_to t n a) (answers_to t n a) t.count in let o = one_answer a l in let v = B.levels a l in let u = (B.fairly a).bound in let p = (B.fairly a).once in
      let ph = five_at_most (n.held a) (γ.own a) (P a) (B.fairly a) o in omega arith
    where
      five_at_most : (h : Held) (o : Own) (p : Purse) → Fair h p → {v : ℕ} → v ≤ cond (is_none h.testing) 0 1 → due h o p + v ≤ 5
      five_at_most h o p f l = let a = f.once in grind arith

  slot_split : (a k : ℕ) → slot t n P a k ≡ edge t n P a k + under a k
  unfolding under
  slot_split a k = let e = load_split ((n.held a).mark k) (n.way a k) in by (leb 1 (t.weight a k)) (bit (is_ruled ((n.held a).mark k))) ((P a).waste k + (P a).waste k) (load ((n.held a).mark k) (n.way a k)) (inits (n.way a k)) (answers ((n.held a).mark k) (n.way a k)) e
    where
      by : (s : Bool) (r w q i v : ℕ) → q ≡ i + v → cond s (r + w + q) 0 ≡ cond s (r + w) 0 + (cond s i 0 + cond s v 0)
      by true r w q i v e = omega arith
      by false r w q i v e = refl

  edges_bound : sum (λ a. sum (edge t n P a) t.count) t.count ≤ pairs (λ a b. cond (leb 1 (t.weight a b)) 2 0) t.count
  edges_bound =
      let e = square (edge t n P) t.count (λ a. rw (weights.own a)) in
      let o = pairs_le (λ a b. edge t n P a b + edge t n P b a) (λ a b. cond (leb 1 (t.weight a b)) 2 0) t.count each in omega arith
    where
      each : (a b : ℕ) → a < t.count → b < t.count → edge t n P a b + edge t n P b a ≤ cond (leb 1 (t.weight a b)) 2 0
      each a b l l2 = let s = weights.both a b in by (leb 1 (t.weight a b)) refl (λ h. B.two a b (l, l2, grind arith)) (rw s)
        where
          by : (s : Bool) → leb 1 (t.weight a b) ≡ s → (s ≡ true → edge t n P a b + edge t n P b a ≤ 2) → leb 1 (t.weight a b) ≡ leb 1 (t.weight b a) → edge t n P a b + edge t n P b a ≤ cond s 2 0
          by true h f q = f refl
          by false h f q = let h2 : leb 1 (t.weight b a) ≡ false = rw q at h in rw (h, h2) (omega arith)

  -- never more than five for each node and level, and two for each edge
  pub few : Books t n γ P → n.count ≤ sum (λ a. five (suc K)) t.count + pairs (λ a b. cond (leb 1 (t.weight a b)) 2 0) t.count
  few b =
      let s1 = sum_add (λ a. paid (n.held a) (γ.own a) (P a)) (λ a. sum (slot t n P a) t.count) t.count in
      let s2 = sum_same (λ a. sum (slot t n P a) t.count) (λ a. sum (edge t n P a) t.count + sum (under a) t.count) t.count (λ a l. rows a) in
      let s3 = sum_add (λ a. sum (edge t n P a) t.count) (λ a. sum (under a) t.count) t.count in
      let s4 = sum_swap under t.count t.count in
      let s5 = sum_add (λ a. paid (n.held a) (γ.own a) (P a)) (λ a. sum (λ b. under b a) t.count) t.count in
      let s6 = sum_le (λ a. paid (n.held a) (γ.own a) (P a) + sum (λ b. under b a) t.count) (λ a. 0) (λ a. five (suc K)) (λ a. 0) t.count (λ a l. let h = house_bound a l in omega arith) in
      let s7 = edges_bound in omega arith
    where
      rows : (a : ℕ) → sum (slot t n P a) t.count ≡ sum (edge t n P a) t.count + sum (under a) t.count
      rows a = let e = sum_same (slot t n P a) (λ k. edge t n P a k + under a k) t.count (λ k l. slot_split a k) in let o = sum_add (edge t n P a) (under a) t.count in omega arith
