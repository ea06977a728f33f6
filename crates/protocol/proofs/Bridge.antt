-- What goes out at a node's places is what its deed sends to its neighbours.
use Rattle.std.proofs.Common.{◌≡◌, ℕ, zero, suc, ◌<◌, ◌≤◌, Bool, true, false, cond, not, ◌&&◌, eqb, ltb, ◌⊎◌, List, [], ◌∷◌, ◌++◌, length, get_or, Some, None, Option, sym, refl, ◌∙◌, subst, inl, inr, append-nil, arith}
use Rattle.node.proofs.Sent.{sent_over_lem, onward_at, onward_length, silent_over}
use Rattle.std.proofs.lemmas.Bool.Decides.{eqb_tells}
use Rattle.message.specs.declared.messages.Message.{Message}
use Rattle.node.specs.declared.state.Node.{Node}
use Rattle.node.specs.declared.state.Turn.{Turn}
use Rattle.node.specs.Rules.{is_branch, Sends, mark_of, goes_on, silent, sending}
use Rattle.node.specs.Laws.{sent_over, There}
use Rattle.graph.specs.Graph.{Graph}
use Rattle.protocol.proofs.Carry.{over_none, over_at, place, Below}
use Rattle.protocol.proofs.Deed.{In, one, Deed}
use Rattle.protocol.proofs.Held.{Send, Held, onward, send_to}
use Rattle.protocol.proofs.Lift.{toward, held_of}
use Rattle.protocol.proofs.Outs.{out_to, out_to-++, out_to_onward}
use Rattle.protocol.proofs.Shape.{few, Shape, mark_none, inside_of, there, same_place, marked}
use Rattle.protocol.specs.Net.{given, over}
use Rattle.node.specs.Rules as rules

-- what a node did at its places, as a deed among its neighbours
pub record Bridged (g : Graph) (i : ℕ) (near : List ℕ) (n : Node) (inp : In) (t : Turn) : Type 0 where
  pub os : List Send
  pub deed : Deed g i (held_of near n) inp (held_of near t.node) os
  pub below : Below g.count os
  pub sent : (b : ℕ) → out_to b os ≡ over near t.sends b

pub below-++ : (c : ℕ) (os ps : List Send) → Below c os → Below c ps → Below c (os ++ ps)
below-++ c [] ps a b = b
below-++ c (o ∷ os) ps a b = (a.0, below-++ c os ps a.1 b)

pub below_onward : (k : Held) (j : ℕ) (m : Message) (b c : ℕ) → b ≤ c → Below c (onward k j m b)
unfolding onward
below_onward k j m zero c l = tt
below_onward k j m (suc b) c l = below-++ c (cond (is_branch (k.mark b) && not (eqb b j)) (record { over = b; message = m } ∷ []) []) (onward k j m b) (here (is_branch (k.mark b) && not (eqb b j))) (below_onward k j m b c (omega arith))
  where
    here : (x : Bool) → Below c (cond x (record { over = b; message = m } ∷ []) [])
    here true = (omega arith, tt)
    here false = tt

module _ (g : Graph) (i : ℕ) (near : List ℕ) (n : Node) (s : Shape g i near n) (inside : i < g.count) where
  abbrev at : ℕ → ℕ
  at k = get_or near k 0

  abbrev k : Held
  k = held_of near n

  agree : (sends : Sends) (os : List Send) → ((l : ℕ) → l < length near → out_to (at l) os ≡ given (sent_over sends l)) → ((b : ℕ) → ((m : ℕ) → m < length near → at m ≡ b → ⊥) → out_to b os ≡ []) →
      (b : ℕ) → out_to b os ≡ over near sends b
  agree sends os f z b = elim (place near b) [
    | inl (m, p, e) ↦ subst (λ x. out_to x os ≡ over near sends x) e (f m p ∙ sym (over_at near sends m s.once p))
    | inr u ↦ z b u ∙ sym (over_none near sends b u)
  ]

  pub sent_none : (b : ℕ) → out_to b [] ≡ over near silent b
  sent_none = agree silent [] (λ l p. rw (silent_over l)) (λ b u. refl)

  pub sent_one : (j : ℕ) (m : Message) → j < length near → (b : ℕ) → out_to b (one (at j) m) ≡ over near (sending j m silent) b
  sent_one j m l = agree (sending j m silent) (one (at j) m) here (λ b u. let d = u j l in let e : eqb (at j) b ≡ false = grind arith in rw e)
    where
      here : (x : ℕ) → x < length near → out_to (at x) (one (at j) m) ≡ given (sent_over (sending j m silent) x)
      here x p = let f = few g i near n s in let o = sent_over_lem silent j x m (omega arith) in rw (o, same_place g i near n s j x l p, silent_over x) (pick (eqb_tells j x))
        where
          pick : ((eqb j x ≡ true) × (j ≡ x)) ⊎ ((eqb j x ≡ false) × (j ≡ x → ⊥)) → cond (eqb j x) (m ∷ []) [] ≡ given (cond (eqb x j) (Some m) None)
          pick (inl u) = let e : eqb x j ≡ true = grind arith in rw (u.0, e)
          pick (inr u) = let e : eqb x j ≡ false = grind arith in rw (u.0, e)

  pub sent_to : (o : Option ℕ) (m : Message) → There n o → (b : ℕ) → out_to b (send_to (toward near o) m) ≡ over near (rules.sending_to o m silent) b
  sent_to None m t = sent_none
  sent_to (Some j) m t = sent_one j m (inside_of g i near n s j t)

  -- what is passed on over the branches but j, and one message more
  passed : (j : ℕ) (m : Message) → j < length near → (x : ℕ) → x < length near → out_to (at x) (onward k (at j) m g.count) ≡ given (cond (goes_on n j x) (Some m) None)
  passed j m l x p =
      let below : ltb (at x) g.count ≡ true = let r = (s.real x p).1 in grind arith in
      out_to_onward (at x) k (at j) m g.count ∙ rw (below, marked g i near n s x p, same_place g i near n s x j p l, there g i near n s x p) (pick (is_branch (mark_of n x)) (eqb x j))
    where
      pick : (a b : Bool) → cond (a && not b) (m ∷ []) [] ≡ given (cond (not b && a) (Some m) None)
      pick true true = refl
      pick true false = refl
      pick false true = refl
      pick false false = refl

  unpassed : (j : ℕ) (m : Message) (b : ℕ) → ((x : ℕ) → x < length near → at x ≡ b → ⊥) → out_to b (onward k (at j) m g.count) ≡ []
  unpassed j m b u = out_to_onward b k (at j) m g.count ∙ rw (mark_none near n.marks b u) (pick (ltb b g.count))
    where
      pick : (a : Bool) → cond (a && false) (m ∷ []) [] ≡ []
      pick true = refl
      pick false = refl

  pub sent_onward : (j : ℕ) (m : Message) → j < length near → (b : ℕ) → out_to b (onward k (at j) m g.count ++ []) ≡ over near (rules.onward n j m 16) b
  sent_onward j m l = agree (rules.onward n j m 16) (onward k (at j) m g.count ++ []) (λ x p. rw (append-nil, onward_at n j m x) (passed j m l x p)) (λ b u. rw append-nil (unpassed j m b u))

  pub sent_more : (j : ℕ) (m : Message) (y : ℕ) (z : Message) → j < length near → y < length near → goes_on n j y ≡ false → (b : ℕ) → out_to b (onward k (at j) m g.count ++ one (at y) z) ≡ over near (sending y z (rules.onward n j m 16)) b
  sent_more j m y z l q e = agree (sending y z (rules.onward n j m 16)) (onward k (at j) m g.count ++ one (at y) z) here none
    where
      here : (x : ℕ) → x < length near → out_to (at x) (onward k (at j) m g.count ++ one (at y) z) ≡ given (sent_over (sending y z (rules.onward n j m 16)) x)
      here x p =
          let f = few g i near n s in
          let w = onward_length n j m 16 in
          let o = sent_over_lem (rules.onward n j m 16) y x z (omega arith) in
          out_to-++ (at x) (onward k (at j) m g.count) (one (at y) z) ∙ rw (passed j m l x p, o, onward_at n j m x, same_place g i near n s y x q p) (pick (eqb_tells y x))
        where
          pick : ((eqb y x ≡ true) × (y ≡ x)) ⊎ ((eqb y x ≡ false) × (y ≡ x → ⊥)) → given (cond (goes_on n j x) (Some m) None) ++ cond (eqb y x) (z ∷ []) [] ≡ given (cond (eqb x y) (Some z) (cond (goes_on n j x) (Some m) None))
          pick (inl u) = let c : eqb x y ≡ true = grind arith in let d : goes_on n j x ≡ false = subst (λ v. goes_on n j v ≡ false) u.1 e in rw (u.0, c, d)
          pick (inr u) = let c : eqb x y ≡ false = grind arith in rw (u.0, c, append-nil)

      none : (b : ℕ) → ((x : ℕ) → x < length near → at x ≡ b → ⊥) → out_to b (onward k (at j) m g.count ++ one (at y) z) ≡ []
      none b u = let d = u y q in let c : eqb (at y) b ≡ false = grind arith in out_to-++ b (onward k (at j) m g.count) (one (at y) z) ∙ rw (unpassed j m b u, c)
