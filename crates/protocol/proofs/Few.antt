-- Few messages: the books put together with the other invariants.
use Rattle.std.proofs.Common.{◌≡◌, ℕ, zero, suc, ◌+◌, ◌*◌, ◌<◌, ◌≤◌, true, false, cond, eqb, leb, ◌⊎◌, List, ◌∷◌, ◌++◌, Some, sym, refl, ap, subst, inl, inr, arith}
use Rattle.std.proofs.lemmas.Bool.Decides.{eqb_tells}
use Rattle.message.specs.declared.messages.Message.{Message}
use Rattle.message.specs.declared.messages.Message.TheVariants.{Reject}
use Rattle.node.specs.declared.state.Status.{Status}
use Rattle.node.specs.declared.state.Status.TheVariants.{Sleeping, Find, Found}
use Rattle.graph.specs.declared.mark.Mark.TheVariants.{Basic, Branch, Rejected}
use Rattle.node.specs.Rules.{is_branch}
use Rattle.graph.specs.Graph.{Graph, Edge, Weights}
use Rattle.protocol.proofs.Base.{Good}
use Rattle.protocol.proofs.Books.{few, Books, far, Dues, written, books_act, books_off, fair_act, books_start, answers, edge, Bounds}
use Rattle.protocol.proofs.Control.{control1, control}
use Rattle.protocol.proofs.Deed.{In, woke, got}
use Rattle.protocol.proofs.Dues.{Asked, owes, levels, Two, two_flip, Back, Mate, two_act, two_bound}
use Rattle.protocol.proofs.Edges.{flip, Rest, Edges, next}
use Rattle.protocol.proofs.Frame.{start, Lifted, Ready, Act, Event, act, off}
use Rattle.protocol.proofs.Ghost.{Ghost, view, turn, stepped}
use Rattle.protocol.proofs.Held.{Send, Held}
use Rattle.protocol.proofs.Mode.{Mode, Sane}
use Rattle.protocol.proofs.Purse.{Purse, rejects, OwesIn, five, Fair, Comes}
use Rattle.protocol.proofs.Sum.{sum, pairs}
use Rattle.protocol.specs.Count.{edges_below, edges_among, edge_count}

-- what the invariants have to give of answers under way, and of those who sleep
pub record Replies (t : Graph) (n : Lifted) (γ : Ghost) : Type 0 where
  pub head : (i j : ℕ) (x : Message) (rest : List Message) → n.way j i ≡ x ∷ rest → Asked j x ((n.held j).mark i) (n.held i)
  pub back : (i j : ℕ) (rest : List Message) → n.way j i ≡ Reject ∷ rest → (n.held i).mark j ≡ Branch → (n.held j).testing ≡ Some i → ⊥
  pub refuses : (i k : ℕ) → Edge t i k → (n.held i).mark k ≡ Basic → rejects (n.way i k) ≡ 0
  pub asked : (a b : ℕ) → Edge t b a → (n.held a).testing ≡ Some b → answers ((n.held b).mark a) (n.way b a) ≤ 1
  pub unasked : (a b : ℕ) → Edge t b a → ((n.held a).testing ≡ Some b → ⊥) → answers ((n.held b).mark a) (n.way b a) ≡ 0
  pub sleeps : (i : ℕ) → (n.held i).status ≡ Sleeping → (γ.own i).changed ≡ false

-- asleep or awake
pub asleep_or : (s : Status) → (s ≡ Sleeping) ⊎ (s ≡ Sleeping → ⊥)
asleep_or Sleeping = inl refl
asleep_or Find = inr (λ e. grind arith)
asleep_or Found = inr (λ e. grind arith)

module _ (t : Graph) (weights : Weights t) (n : Lifted) (γ : Ghost) (G : Good t n) (R : Rest t n γ) (E : Edges t n γ) (Q : Replies t n γ) where
  turned : (a b : ℕ) → Edge t a b → Edge t b a
  turned a b l = (l.1, l.0, rw (weights.both b a) l.2)

  owes_at : (i : ℕ) (inp : In) → Ready t n i (n.held i) inp → OwesIn inp (far n i inp) (γ.fragment (γ.own i).label).level (n.held i) (γ.own i)
  owes_at i woke r = (Q.sleeps i r.awake, ((G.helds i i i).sleeps r.awake).2)
  owes_at i (got j x) r =
      owes (control r.source.0) x ((n.held j).mark i) e (flip (λ z. ap γ.fragment z) e) (R.sane i j l) (R.sane j i (turned i j l)) (λ z. ap γ.fragment z) (R.knows i j l r.awake).asks (Q.head i j x r.source.0 r.source.1)
    where
      l : Edge t i j
      l = (R.suits i j x r.source.0 r.source.1).0

      e : Mode i j (t.weight i j) (view n γ i) (view n γ j) (control (n.way i j)) (control1 x ++ control r.source.0)
      e = subst (λ q. Mode i j (t.weight i j) (view n γ i) (view n γ j) (control (n.way i j)) (control q)) r.source.1 (E i j l)

  comes_at : (i : ℕ) (inp : In) → Ready t n i (n.held i) inp → Comes t i inp
  comes_at i woke r = tt
  comes_at i (got j x) r = (R.suits i j x r.source.0 r.source.1).0

  best_at : (i k : ℕ) → Edge t i k → ((n.held i).status ≡ Sleeping) ⊎ ((n.held i).status ≡ Sleeping → ⊥) → (γ.own i).changed ≡ false → (n.held i).level ≡ (γ.fragment (γ.own i).label).level → (n.held i).best ≡ Some k → (n.held i).mark k ≡ Rejected → ⊥
  best_at i k l (inl s) a b c d = let z = ((G.helds i k k).sleeps s).0 in grind arith
  best_at i k l (inr s) a b c d = let z = ((R.knows i k l s).best a b c).mark in grind arith

  pub dues : Dues t n γ
  dues = record {
    owes = owes_at;
    comes = comes_at;
    clean = λ i k l. record { refuses = Q.refuses i k l; best = best_at i k l (asleep_or (n.held i).status); sleeps = λ e. ((G.helds i k k).sleeps e).0 };
    laid_line = λ i k e. laid_at i k (G.helds i k k).mark e;
  }
    where
      laid_at : (i k : ℕ) → ((n.held i).mark k ≡ Basic) ⊎ Edge t i k → is_branch ((n.held i).mark k) ≡ true → Edge t i k
      laid_at i k (inl u) e = grind arith
      laid_at i k (inr u) e = u

abbrev pub Twos : Graph → Lifted → (ℕ → Purse) → Type 0
Twos t n P = (a b : ℕ) → Edge t a b → Two a b (n.held a) (n.held b) ((P a).waste b) ((P b).waste a)

mate : (n : Lifted) (i b : ℕ) (inp : In) → Mate inp i b (far n i inp) ((n.held b).mark i)
mate n i b woke = tt
mate n i b (got j x) = λ e. rw e

back_at : {t : Graph} {n : Lifted} {γ : Ghost} (Q : Replies t n γ) (i b : ℕ) (inp : In) → Ready t n i (n.held i) inp → Back inp i b (n.held i) (n.held b)
back_at Q i b woke r = tt
back_at Q i b (got j (Message.Connect l)) r = tt
back_at Q i b (got j (Message.Initiate l f s)) r = tt
back_at Q i b (got j (Message.Test l f)) r = tt
back_at Q i b (got j Message.Accept) r = tt
back_at {n = n} Q i b (got j Reject) r = λ e u v. Q.back i j r.source.0 r.source.1 u (rw e v)
back_at Q i b (got j (Message.Report w)) r = tt
back_at Q i b (got j Message.Change) r = tt

-- the purses, the edges and the books, step by step
pub record Kept (t : Graph) (n : Lifted) (γ : Ghost) (P : ℕ → Purse) : Type 0 where
  pub fairly : (a : ℕ) → Fair (n.held a) (P a)
  pub twos : Twos t n P
  pub books : Books t n γ P

module _ (t : Graph) (weights : Weights t) (n m : Lifted) (γ : Ghost) (P : ℕ → Purse) (G : Good t n) (R : Rest t n γ) (E : Edges t n γ) (Q : Replies t n γ) (K : Kept t n γ P) where
  D : Dues t n γ
  D = dues t weights n γ G R E Q

  swapped : (a b : ℕ) → Edge t a b → Edge t b a
  swapped a b l = (l.1, l.0, rw (weights.both b a) l.2)

  differs : (a b : ℕ) → Edge t a b → b ≡ a → ⊥
  differs a b l e = let z : t.weight a b ≡ 0 = rw e (weights.own a) in let o : 1 ≤ t.weight a b = l.2 in omega arith

  twos_act : {i : ℕ} {inp : In} {g : Held} {os : List Send} (c : Act t n m i inp g os) → Twos t m (written c.does (γ.own i) P)
  twos_act {i} {inp} {g} {os} c a b l = go (eqb_tells a i) (eqb_tells b i)
    where
      V : ℕ → Purse
      V = written c.does (γ.own i) P

      mine_two : (b : ℕ) → Edge t i b → Two i b (m.held i) (m.held b) ((written c.does (γ.own i) P i).waste b) ((written c.does (γ.own i) P b).waste i)
      mine_two b l =
          let d = differs i b l in let y : eqb i i ≡ true = grind arith in let z : eqb b i ≡ false = grind arith in
          rw (c.self, c.others b d, y, z)
          (two_act c.does b (far n i inp) (γ.fragment (γ.own i).label).level (n.held b) (γ.own i) (P i) ((P b).waste i) (D.owes i inp c.ready) (mate n i b inp) (back_at Q i b inp c.ready) (λ s. ((G.helds i i i).sleeps s).1) c.ready.awake (K.twos i b l))

      go : ((eqb a i ≡ true) × (a ≡ i)) ⊎ ((eqb a i ≡ false) × (a ≡ i → ⊥)) → ((eqb b i ≡ true) × (b ≡ i)) ⊎ ((eqb b i ≡ false) × (b ≡ i → ⊥)) → Two a b (m.held a) (m.held b) ((written c.does (γ.own i) P a).waste b) ((written c.does (γ.own i) P b).waste a)
      go (inl (u, e)) v = subst (λ x. Two x b (m.held x) (m.held b) ((written c.does (γ.own i) P x).waste b) ((written c.does (γ.own i) P b).waste x)) (sym e) (mine_two b (rw e at l))
      go (inr u) (inl (v, e)) = subst (λ x. Two a x (m.held a) (m.held x) ((written c.does (γ.own i) P a).waste x) ((written c.does (γ.own i) P x).waste a)) (sym e) (two_flip (mine_two a (swapped a i (rw e at l))))
      go (inr (u, f)) (inr (v, h)) = rw (c.others a f, c.others b h, u, v) (K.twos a b l)

  kept_act : {i : ℕ} {inp : In} {g : Held} {os : List Send} (j : ℕ) (c : Act t n m i inp g os) → Kept t m (stepped (turn c.does) i (view n γ i) (view n γ j) γ) (written c.does (γ.own i) P)
  kept_act j c = record { fairly = fair_act γ P c D K.fairly; twos = twos_act c; books = books_act t weights n m γ P D K.fairly (view n γ j) c K.books }

  kept_of : (v : Event t n m) → (V : ℕ → Purse) × Kept t m (next γ v) V
  kept_of (act i woke g os c) = (written c.does (γ.own i) P, kept_act i c)
  kept_of (act i (got j x) g os c) = (written c.does (γ.own i) P, kept_act j c)
  kept_of (off i j x front back c) =
      (P, record { fairly = λ a. rw (c.helds a) (K.fairly a); twos = λ a b l. rw (c.helds a, c.helds b) (K.twos a b l); books = books_off t weights n m γ P D K.fairly c K.books })

-- THE THEOREM: each step keeps the purses, the edges and the books
pub kept_step : (t : Graph) → Weights t → (n m : Lifted) (γ : Ghost) → Good t n → Rest t n γ → Edges t n γ → Replies t n γ → (v : Event t n m) → (P : ℕ → Purse) → Kept t n γ P → (V : ℕ → Purse) × Kept t m (next γ v) V
kept_step t weights n m γ G R E Q v P K = kept_of t weights n m γ P G R E Q K v

abbrev pub empty : ℕ → Purse
empty a = record { spent = 0; accepted = false; waste = λ k. 0 }

pub kept_start : (t : Graph) (γ : Ghost) → Kept t start γ empty
kept_start t γ = record { fairly = λ a. record { once = λ e. grind arith; bound = omega arith }; twos = λ a b l. record { holds = inl (refl, refl) }; books = books_start t γ empty }

sum_const : (c n : ℕ) → sum (λ a. c) n ≡ n * c
unfolding sum
sum_const c zero = omega arith
sum_const c (suc n) = let ih = sum_const c n in omega arith

row_twice : (t : Graph) (a k : ℕ) → sum (λ b. cond (leb 1 (t.weight a b)) 2 0) k ≡ 2 * edges_below t a k
unfolding sum edges_below
row_twice t a zero = refl
row_twice t a (suc k) = let ih = row_twice t a k in grind arith

-- two for each edge
pairs_twice : (t : Graph) (n : ℕ) → pairs (λ a b. cond (leb 1 (t.weight a b)) 2 0) n ≡ 2 * edges_among t n
unfolding pairs sum edges_among
pairs_twice t zero = refl
pairs_twice t (suc n) = let ih = pairs_twice t n in let e = row_twice t n n in omega arith

-- THE BOUND: five messages for each node and level, and two for each edge
pub few_messages : (t : Graph) → Weights t → (n : Lifted) (γ : Ghost) (P : ℕ → Purse) (k : ℕ) → Good t n → ((a y : ℕ) → Edge t a y → Sane y (view n γ a)) → Edges t n γ → Replies t n γ → Kept t n γ P → ((a : ℕ) → a < t.count → (n.held a).level ≤ (γ.fragment (γ.own a).label).level) → ((a : ℕ) → a < t.count → (γ.fragment (γ.own a).label).level ≤ k) →
    n.count ≤ 5 * (t.count * (k + 1)) + 2 * edge_count t
few_messages t weights n γ P k G S E Q K lo hi = let f = few t weights n γ P k bounds K.books in let e = sum_const (five (suc k)) t.count in let o = pairs_twice t t.count in let z = times t.count k in omega arith
  where
    times : (a k : ℕ) → a * five (suc k) ≡ 5 * (a * (k + 1))
    times a k = omega arith

    two_at : (a b : ℕ) → Edge t a b → edge t n P a b + edge t n P b a ≤ 2
    two_at a b l =
        let y : leb 1 (t.weight a b) ≡ true = grind arith in let w = weights.both a b in let z : leb 1 (t.weight b a) ≡ true = grind arith in
        rw (y, z) (two_bound ((n.held a).mark b) ((n.held b).mark a) ((P a).waste b) ((P b).waste a) (elim (K.twos a b l).holds [ inl e ↦ inl e | inr e ↦ inr (e.0, e.1, e.2) ]))

    bounds : Bounds t n P k
    bounds = record { fairly = K.fairly; levels = λ a l. let v = levels weights n γ E S a l (lo a l) in let h = hi a l in omega arith; asked = Q.asked; unasked = Q.unasked; tests_line = λ a b e. (G.helds a b b).testing e; two = two_at }
