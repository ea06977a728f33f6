-- Marks never turn back: an edge that is a branch or rejected stays so, at each end.
use Rattle.std.proofs.Common.{◌≡◌, ℕ, true, false, cond, ◌&&◌, eqb, ◌⊎◌, List, ◌∷◌, ◌++◌, Some, sym, refl, ap, ◌∙◌, subst, inl, inr, arith}
use Rattle.std.proofs.lemmas.Bool.Decides.{eqb_tells}
use Rattle.message.specs.declared.messages.Message.{Message}
use Rattle.graph.specs.declared.mark.Mark.{Mark}
use Rattle.graph.specs.declared.mark.Mark.TheVariants.{Basic, Branch, Rejected}
use Rattle.node.specs.Rules.{is_basic}
use Rattle.graph.specs.Graph.{Graph, Edge}
use Rattle.protocol.proofs.Base.{Good}
use Rattle.protocol.proofs.Control.{control1, control}
use Rattle.protocol.proofs.Deed.{In, woke, got, Deed, Absorbs, Merges, Begins, Searches-ask, Searches-report, Searches-wait, Accepts, Rejects, Crosses-ask, Crosses-report, Crosses-wait, Accepted-report, Accepted-wait, Rejected-ask, Rejected-report, Rejected-wait, Hears-report, Hears-wait, Decides-passes, Decides-joins, Halts, Rests, Changed-passes, Changed-joins}
use Rattle.protocol.proofs.Deeds.{Knows, Suits}
use Rattle.protocol.proofs.Edges.{Rest, Edges, shorter}
use Rattle.protocol.proofs.Frame.{Lifted, Act, Event, act, off}
use Rattle.protocol.proofs.Ghost.{Ghost, View, view}
use Rattle.protocol.proofs.Heads.{head_turn, head_change}
use Rattle.protocol.proofs.Held.{Send, Held, put}
use Rattle.protocol.proofs.LeastOutgoing.{cond_false, head_basic}
use Rattle.protocol.proofs.Mode.{Mode}

-- a mark put down where it was basic leaves the others
put_rest : (k y : ℕ) (f : ℕ → Mark) → f k ≡ Basic → (f y ≡ Basic → ⊥) → put k Branch f y ≡ f y
put_rest k y f e u = elim (eqb_tells y k) [ inl a ↦ absurd (u (ap f a.1 ∙ e)) | inr a ↦ cond_false (eqb y k) Branch (f y) a.0 ]

-- only what is basic is rejected
reject_rest : (j y : ℕ) (f : ℕ → Mark) → (f y ≡ Basic → ⊥) → cond (eqb y j && is_basic (f y)) Rejected (f y) ≡ f y
reject_rest j y f u = go (f y) u
  where
    go : (m : Mark) → (m ≡ Basic → ⊥) → cond (eqb y j && is_basic m) Rejected m ≡ m
    go Basic u = absurd (u refl)
    go Branch u = grind arith
    go Rejected u = grind arith

basic_only : {m : Mark} → (m ≡ Branch → ⊥) → (m ≡ Basic) ⊎ (m ≡ Branch) → m ≡ Basic
basic_only u (inl e) = e
basic_only u (inr e) = absurd (u e)

-- a best edge is basic or a branch
abbrev Sure : View → Type 0
Sure A = (k : ℕ) → A.own.changed ≡ false → A.held.level ≡ A.fragment.level → A.held.best ≡ Some k → (A.held.mark k ≡ Basic) ⊎ (A.held.mark k ≡ Branch)

-- who takes a message
rests_got : {t : Graph} {i j y : ℕ} {A J : View} {m : Message} {g : Held} {os : List Send} {p q : List Message} → Knows t i j A J p q → Sure A → Mode i j (t.weight i j) A J p (control1 m ++ q) → Deed t i A.held (got j m) g os → (A.held.mark y ≡ Basic → ⊥) → g.mark y ≡ A.held.mark y
rests_got {j = j} {y} {A} kj f e (Absorbs c1) u = put_rest j y A.held.mark (head_basic c1 e) u
rests_got {j = j} {y} {A} kj f e (Merges c1 c2) u = refl
rests_got {j = j} {y} {A} kj f e (Begins c1) u = refl
rests_got {j = j} {y} {A} kj f e (Searches-ask k c1) u = refl
rests_got {j = j} {y} {A} kj f e (Searches-report c1 c2 c3) u = refl
rests_got {j = j} {y} {A} kj f e (Searches-wait c1 c2) u = refl
rests_got {j = j} {y} {A} kj f e (Accepts c1 c2) u = refl
rests_got {j = j} {y} {A} kj f e (Rejects c1 c2 c3) u = reject_rest j y A.held.mark u
rests_got {j = j} {y} {A} kj f e (Crosses-ask k c1 c2 c3 c4) u = reject_rest j y A.held.mark u
rests_got {j = j} {y} {A} kj f e (Crosses-report c1 c2 c3 c4 c5 c6) u = reject_rest j y A.held.mark u
rests_got {j = j} {y} {A} kj f e (Crosses-wait c1 c2 c3 c4 c5) u = reject_rest j y A.held.mark u
rests_got {j = j} {y} {A} kj f e (Accepted-report c1 c2) u = refl
rests_got {j = j} {y} {A} kj f e (Accepted-wait c1) u = refl
rests_got {j = j} {y} {A} kj f e (Rejected-ask k c1) u = reject_rest j y A.held.mark u
rests_got {j = j} {y} {A} kj f e (Rejected-report c1 c2 c3) u = reject_rest j y A.held.mark u
rests_got {j = j} {y} {A} kj f e (Rejected-wait c1 c2) u = reject_rest j y A.held.mark u
rests_got {j = j} {y} {A} kj f e (Hears-report c1 c2 c3) u = refl
rests_got {j = j} {y} {A} kj f e (Hears-wait c1 c2) u = refl
rests_got {j = j} {y} {A} kj f e (Decides-passes k c1 c2 c3 c4 c5) u = refl
rests_got {j = j} {y} {A} kj f e (Decides-joins k c1 c2 c3 c4 c5) u = let d = head_turn kj.mine c1 c2 c3 e in put_rest k y A.held.mark (basic_only c5 (f k d.still d.current c4)) u
rests_got {j = j} {y} {A} kj f e (Halts c1 c2 c3 c4) u = refl
rests_got {j = j} {y} {A} kj f e (Rests c1 c2 c3 c4) u = refl
rests_got {j = j} {y} {A} kj f e (Changed-passes k c1 c2) u = refl
rests_got {j = j} {y} {A} kj f e (Changed-joins k c1 c2) u = let d = head_change kj.same e in put_rest k y A.held.mark (basic_only c2 (f k d.still d.current c1)) u

module _ (t : Graph) (n m : Lifted) (γ : Ghost) (P : Good t n) (R : Rest t n γ) (E : Edges t n γ) where
  -- who acts; who wakes has only basic edges
  acting : (inp : In) {g : Held} {os : List Send} (i b : ℕ) → Act t n m i inp g os → ((n.held i).mark b ≡ Basic → ⊥) → (m.held i).mark b ≡ (n.held i).mark b
  acting woke i b c u = absurd (u ((P.helds i b b).sleeps c.ready.awake).0)
  acting (got j x) i b c u = (λ k. (c.self k).mark b) ∙ rests_got (shorter x kj) sure ej c.does u
    where
      rest : List Message
      rest = c.ready.source.0

      from : n.way j i ≡ x ∷ rest
      from = c.ready.source.1

      fj : Edge t i j × Suits x (view n γ i) (view n γ j)
      fj = R.suits i j x rest from

      ej : Mode i j (t.weight i j) (view n γ i) (view n γ j) (control (n.way i j)) (control1 x ++ control rest)
      ej = subst (λ q. Mode i j (t.weight i j) (view n γ i) (view n γ j) (control (n.way i j)) (control q)) from (E i j fj.0)

      kj : Knows t i j (view n γ i) (view n γ j) (control (n.way i j)) (control1 x ++ control rest)
      kj = subst (λ q. Knows t i j (view n γ i) (view n γ j) (control (n.way i j)) (control q)) from (R.knows i j fj.0 c.ready.awake)

      sure : Sure (view n γ i)
      sure k a b e = ((R.knows i k ((P.helds i k k).best e) c.ready.awake).best a b e).mark

  rests_of : Event t n m → (a b : ℕ) → ((n.held a).mark b ≡ Basic → ⊥) → (m.held a).mark b ≡ (n.held a).mark b
  rests_of (act i inp g os c) a b u = go (eqb_tells a i)
    where
      go : ((eqb a i ≡ true) × (a ≡ i)) ⊎ ((eqb a i ≡ false) × (a ≡ i → ⊥)) → (m.held a).mark b ≡ (n.held a).mark b
      go (inl e) = acting inp a b (subst (λ z. Act t n m z inp g os) (sym e.1) c) u
      go (inr e) = λ k. (c.others a e.1 k).mark b
  rests_of (off i j x front back c) a b u = λ k. (c.helds a k).mark b

-- THE THEOREM: a mark that is not basic stays as it is
pub marks_rest : (t : Graph) (n m : Lifted) (γ : Ghost) → Good t n → Rest t n γ → Edges t n γ → Event t n m → (a b : ℕ) → ((n.held a).mark b ≡ Basic → ⊥) → (m.held a).mark b ≡ (n.held a).mark b
marks_rest t n m γ P R E s a b u = rests_of t n m γ P R E s a b u
