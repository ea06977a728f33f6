-- The end: once a node has halted, no edge is basic at any node that can be joined with it, and the branches are exactly the edges that belong.
use Rattle.std.proofs.Common.{◌≡◌, ℕ, ◌≤◌, true, false, ◌⊎◌, List, Some, None, sym, refl, ap, ◌∙◌, subst, inl, inr, arith}
use native.Mathlib.Decide.{dec_lt}
use Rattle.std.proofs.lemmas.Bool.Decides.{eqb_tells}
use Rattle.message.specs.declared.messages.Message.{Message}
use Rattle.node.specs.declared.state.Status.TheVariants.{Sleeping, Find}
use Rattle.graph.specs.declared.mark.Mark.{Mark}
use Rattle.graph.specs.declared.mark.Mark.TheVariants.{Basic, Branch, Rejected}
use Rattle.node.specs.Rules.{lighter}
use Rattle.graph.proofs.Paths.{joined_back}
use Rattle.graph.specs.Graph.{Graph, Edge, Joined, Weights, Belongs}
use Rattle.protocol.proofs.Asleep.{Alones}
use Rattle.protocol.proofs.Base.{Good}
use Rattle.protocol.proofs.Bests.{Bests}
use Rattle.protocol.proofs.Edges.{Rest, Edges, turned}
use Rattle.protocol.proofs.Ended.{Ended}
use Rattle.protocol.proofs.Finished.{Finished}
use Rattle.protocol.proofs.Frame.{Lifted, Event}
use Rattle.protocol.proofs.Ghost.{undecided, decided, Ghost, View, view}
use Rattle.protocol.proofs.LeastKept.{some}
use Rattle.protocol.proofs.LeastOutgoing.{Outward}
use Rattle.protocol.proofs.Mode.{tells, Mode, free, offered, offers, crossing, took, taken, merged, ahead, behind, core, told, above, below, Sane}
use Rattle.protocol.proofs.Resting.{marks_rest}
use Rattle.protocol.proofs.Zero.{Zero, Zeros}

-- what is used of the invariants, of one state
pub record Standing (t : Graph) (n : Lifted) (γ : Ghost) : Type 0 where
  pub sane : (a y : ℕ) → Edge t a y → Sane y (view n γ a)
  pub edges : Edges t n γ
  pub bests : Bests t n γ
  pub outward : Outward t (view n γ)
  pub finished : Finished (view n γ)
  pub ended : Ended (view n γ)
  pub alones : Alones t n γ
  pub zeros : Zeros t n γ
  pub asks : (a : ℕ) → ((n.held a).testing ≡ None) ⊎ ((n.held a).status ≡ Find)

-- a node of level 0 that looks up to y inside a fragment that has ended: there is no such node
none_low : {x y w : ℕ} {A B : View} {p q : List Message} → A.own.label ≡ B.own.label → A.fragment.least ≡ decided None → A.own.up ≡ Some y → A.held.mark y ≡ Branch → A.held.parent ≡ None → A.held.best ≡ None → (B.held.mark x ≡ Branch → B.own.up ≡ Some x) → (A.own.label ≡ B.own.label → A.fragment ≡ B.fragment) → Mode x y w A B p q → ⊥
none_low s d u k pa be f same (free v) = grind arith
none_low s d u k pa be f same (offered v) = grind arith
none_low s d u k pa be f same (offers v) = grind arith
none_low s d u k pa be f same (crossing v) = grind arith
none_low s d u k pa be f same (took v) = grind arith
none_low s d u k pa be f same (taken v) = grind arith
none_low s d u k pa be f same (merged v) = grind arith
none_low s d u k pa be f same (ahead v) = grind arith
none_low s d u k pa be f same (behind v) = grind arith
none_low s d u k pa be f same (core v) = grind arith
none_low s d u k pa be f same (tells v) = grind arith
none_low s d u k pa be f same (told v) = grind arith
none_low s d u k pa be f same (above v) = grind arith
none_low s d u k pa be f same (below v) = grind arith

not_yet : undecided ≡ decided None → ⊥
not_yet e = grind arith

branch_only : (m : Mark) → (m ≡ Basic → ⊥) → (m ≡ Rejected → ⊥) → m ≡ Branch
branch_only Basic a b = absurd (a refl)
branch_only Branch a b = refl
branch_only Rejected a b = absurd (b refl)

module _ (t : Graph) (weights : Weights t) (n : Lifted) (γ : Ghost) (I : Standing t n γ) (h : ℕ) (halted : (n.held h).halted ≡ true) where
  -- the fragment of h
  abbrev Of : ℕ → Type 0
  Of x = (γ.own x).label ≡ (γ.own h).label

  least_of : (x : ℕ) → Of x → (view n γ x).fragment.least ≡ decided None
  least_of x e = ap (λ l. (γ.fragment l).least) e ∙ I.finished.halts h halted

  -- no edge leads out of it
  of_next : (x y : ℕ) → Edge t x y → Of x → Of y
  of_next x y l e = elim (eqb_tells (γ.own x).label (γ.own y).label) [ inl u ↦ sym u.1 ∙ e | inr u ↦ absurd (some (t.weight x y) (I.outward.lightest x y l None u.1 (least_of x e))) ]

  of_joined : {u a c : ℕ} → Joined t u a c → Of a → Of c
  of_joined Joined.here e = e
  of_joined (Joined.over {a} b l k r) e = of_joined r (of_next a b l e)

  awake : (x : ℕ) → Of x → (n.held x).status ≡ Sleeping → ⊥
  awake x e s = not_yet (sym (ap (λ V. V.fragment.least) (I.alones.sleepers x s).made) ∙ least_of x e)

  -- it is not of level 0, if it has an edge
  not_low : (x y : ℕ) → Of x → Edge t x y → (view n γ x).fragment.level ≡ 0 → ⊥
  not_low x y e l z = go (I.zeros x y l (awake x e) (lies x y l z))
    where
      lies : (x y : ℕ) → Edge t x y → (view n γ x).fragment.level ≡ 0 → (n.held x).level ≡ 0
      lies x y l z = let b = (I.sane x y l).low in omega arith

      go : Zero t x (view n γ x) → ⊥
      go v = none_low (e ∙ sym ek) (least_of x e) v.up v.branch v.parent v.best back (λ u. ap γ.fragment u) (I.edges x k v.edge)
        where
          k : ℕ
          k = v.to

          ek : Of k
          ek = of_next x k v.edge e

          lk : Edge t k x
          lk = turned t weights x k v.edge

          vk : Zero t k (view n γ k)
          vk = I.zeros k x lk (awake k ek) (lies k x lk (ap (λ l. (γ.fragment l).level) (ek ∙ sym e) ∙ z))

          no : Basic ≡ Branch → ⊥
          no u = grind arith

          back : (n.held k).mark x ≡ Branch → (γ.own k).up ≡ Some x
          back u = elim (eqb_tells x vk.to) [ inl a ↦ vk.up ∙ ap Some (sym a.1) | inr a ↦ absurd (no (sym (vk.only x a.1) ∙ u)) ]

  -- all in it were asked, have reported, and have no best edge
  not_high : (x y : ℕ) → Of x → Edge t x y → 1 ≤ (view n γ x).fragment.level → (n.held x).mark y ≡ Basic → ⊥
  not_high x y e l z u = some (t.weight x y) (subst (λ b. lighter (Some (t.weight x y)) b ≡ false) (I.ended x d z) ((I.bests.choice x y l).lightest r.0 s quiet (subst (λ k. 1 ≤ k) (sym r.0) z) u))
    where
      d : (view n γ x).fragment.least ≡ decided None
      d = least_of x e

      s : (γ.own x).in_search ≡ true
      s = I.finished.asked x d

      r : ((n.held x).level ≡ (view n γ x).fragment.level) × ((γ.own x).reported ≡ true)
      r = I.outward.answered x None d z s

      quiet : (n.held x).testing ≡ None
      quiet = elim (I.asks x) [ inl a ↦ a | inr a ↦ absurd (not_yet (sym ((I.sane x y l).find_undecided a) ∙ d)) ]

  settled : (x y : ℕ) → Of x → Edge t x y → (n.held x).mark y ≡ Basic → ⊥
  settled x y e l u = elim (dec_lt 0 (view n γ x).fragment.level) [ yes a ↦ not_high x y e l a u | no a ↦ not_low x y e l (omega arith) ]

-- THE THEOREM: once h has halted, no edge of a node that can be joined with it is basic
pub no_basic : (t : Graph) → Weights t → (n : Lifted) (γ : Ghost) → Standing t n γ → (h : ℕ) → (n.held h).halted ≡ true → (u x y : ℕ) → Joined t u h x → Edge t x y → (n.held x).mark y ≡ Basic → ⊥
no_basic t weights n γ I h d u x y j l = settled t weights n γ I h d x y (of_joined t weights n γ I h d j refl) l

-- nor is any edge at its other end
pub no_basic_back : (t : Graph) → Weights t → (n : Lifted) (γ : Ghost) → Standing t n γ → (h : ℕ) → (n.held h).halted ≡ true → (u x y : ℕ) → Joined t u h x → Edge t x y → (n.held y).mark x ≡ Basic → ⊥
no_basic_back t weights n γ I h d u x y j l = settled t weights n γ I h d y x (of_next t weights n γ I h d x y l (of_joined t weights n γ I h d j refl)) (turned t weights x y l)

belongs_back : (t : Graph) → Weights t → (x y : ℕ) → Belongs t x y → Belongs t y x
belongs_back t weights x y b = (turned t weights x y b.0, λ j. b.1 (subst (λ w. Joined t w x y) (weights.both y x) (joined_back t weights j)))

-- THE THEOREM: if branches belong and rejected edges do not, the branches there are exactly the edges that belong, as both ends see it
pub exactly : (t : Graph) → Weights t → (n : Lifted) (γ : Ghost) → Standing t n γ → ((a b : ℕ) → (n.held a).mark b ≡ Branch → Belongs t a b) → ((a b : ℕ) → (n.held a).mark b ≡ Rejected → Belongs t a b → ⊥) →
    (h : ℕ) → (n.held h).halted ≡ true → (u x y : ℕ) → Joined t u h x → Edge t x y → ((n.held x).mark y ≡ Branch → Belongs t x y) × (Belongs t x y → ((n.held x).mark y ≡ Branch) × ((n.held y).mark x ≡ Branch))
exactly t weights n γ I right wrong h d u x y j l = (right x y, λ b. (branch_only ((n.held x).mark y) (no_basic t weights n γ I h d u x y j l) (λ e. wrong x y e b), branch_only ((n.held y).mark x) (no_basic_back t weights n γ I h d u x y j l) (λ e. wrong y x e (belongs_back t weights x y b))))

-- THE THEOREM: and nothing changes there any more
pub rests : (t : Graph) → Weights t → (n m : Lifted) (γ : Ghost) → Standing t n γ → Good t n → Rest t n γ → Event t n m → (h : ℕ) → (n.held h).halted ≡ true → (u x y : ℕ) → Joined t u h x → Edge t x y → (m.held x).mark y ≡ (n.held x).mark y
rests t weights n m γ I P R s h d u x y j l = marks_rest t n m γ P R I.edges s x y (no_basic t weights n γ I h d u x y j l)
