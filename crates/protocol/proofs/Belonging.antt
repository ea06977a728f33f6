-- Every branch belongs to the lightest net.
use Rattle.std.proofs.Common.{◌≡◌, ℕ, ◌≤◌, Bool, true, false, eqb, ◌⊎◌, List, sym, refl, ◌∙◌, inl, inr, arith, Some}
use Rattle.std.proofs.lemmas.Bool.Decides.{eqb_tells}
use Rattle.message.specs.declared.messages.Message.{Message}
use Rattle.graph.specs.declared.mark.Mark.{Mark}
use Rattle.graph.specs.declared.mark.Mark.TheVariants.{Basic, Branch, Rejected}
use Rattle.node.specs.Rules.{lighter}
use Rattle.graph.specs.Graph.{Graph, Edge, Weights, Belongs}
use Rattle.graph.proofs.Cut.{cut}
use Rattle.graph.proofs.Paths.{joined_back}
use Rattle.protocol.proofs.Base.{Good, good_step}
use Rattle.protocol.proofs.Edges.{Edges, next, apart, turned, stays}
use Rattle.protocol.proofs.Frame.{start, Lifted, Event, act, off}
use Rattle.protocol.proofs.Ghost.{decided, Ghost, View, view}
use Rattle.protocol.proofs.LeastKept.{eqb_on}
use Rattle.protocol.proofs.LeastOutgoing.{Outward, eqb_so, eqb_not}
use Rattle.protocol.proofs.LeastStep.{Trust, outward_kept}
use Rattle.protocol.proofs.Mode.{tells, Mode, free, offered, offers, crossing, took, taken, merged, ahead, behind, core, told, above, below}

-- every branch that a node has belongs
abbrev pub Belonging : Graph → Lifted → Type 0
Belonging t n = (a b : ℕ) → (n.held a).mark b ≡ Branch → Belongs t a b

no_branch : {k : Mark} → k ≡ Basic → k ≡ Branch → ⊥
no_branch e f = grind arith

-- at first there are no branches
pub belonging_start : (t : Graph) → Belonging t start
belonging_start t a b e = absurd (no_branch refl e)

-- a branch at A leads out and is what A's fragment has decided on, or it is a branch at the other end too
pub branch_stands : {x y w : ℕ} {A B : View} {p q : List Message} → Mode x y w A B p q → A.held.mark y ≡ Branch →
    ((A.own.label ≡ B.own.label → ⊥) × (A.fragment.least ≡ decided (Some w))) ⊎ (B.held.mark x ≡ Branch)
branch_stands (free v) e = absurd (v.mark_a e)
branch_stands (offered v) e = inr v.mark_b
branch_stands (offers v) e = inl ((λ u. v.differ (sym u)), v.least_b)
branch_stands (crossing v) e = inr v.mark_b
branch_stands (took v) e = inr v.joint.mark_b
branch_stands (taken v) e = inr v.joint.mark_a
branch_stands (merged v) e = inr v.joint.mark_b
branch_stands (ahead v) e = inr v.joint.mark_b
branch_stands (behind v) e = inr v.joint.mark_a
branch_stands (core v) e = inr v.mark_b
branch_stands (tells v) e = inr v.mark_b
branch_stands (told v) e = inr v.mark_a
branch_stands (above v) e = inr v.mark_b
branch_stands (below v) e = inr v.mark_a

branch_or_not : (k : Mark) → (k ≡ Branch) ⊎ (k ≡ Branch → ⊥)
branch_or_not Basic = inr (λ e. grind arith)
branch_or_not Branch = inl refl
branch_or_not Rejected = inr (λ e. grind arith)

not_lighter : (a b : ℕ) → lighter (Some b) (Some a) ≡ false → a ≤ b
not_lighter a b e = grind arith

-- of two nodes, one is as it was
one_stays : {t : Graph} {n m : Lifted} → Event t n m → (a b : ℕ) → (a ≡ b → ⊥) → (m.held a ≡ n.held a) ⊎ (m.held b ≡ n.held b)
one_stays (act i inp g os c) a b d = elim (eqb_tells a i) [ inl u ↦ inr (c.others b (λ e. d (u.1 ∙ sym e))) | inr u ↦ inl (c.others a u.1) ]
one_stays (off i j x front back c) a b d = inl (c.helds a)

-- an edge that leads out and is what its fragment has decided on is the lightest that leads out: it belongs
pub decided_belongs : (t : Graph) (n : Lifted) (γ : Ghost) → Outward t (view n γ) → (a b : ℕ) → Edge t a b →
    ((γ.own a).label ≡ (γ.own b).label → ⊥) → (view n γ a).fragment.least ≡ decided (Some (t.weight a b)) → Belongs t a b
decided_belongs t n γ F a b l d e = cut t ours a b l (eqb_on (γ.own a).label (γ.own a).label refl) outer least
  where
    ours : ℕ → Bool
    ours x = eqb (γ.own x).label (γ.own a).label

    outer : ours b ≡ false
    outer = elim (eqb_tells (γ.own b).label (γ.own a).label) [ inl u ↦ absurd (d (sym u.1)) | inr u ↦ u.0 ]

    least : (x y : ℕ) → Edge t x y → ours x ≡ true → ours y ≡ false → t.weight a b ≤ t.weight x y
    least x y k p q =
        let s : (γ.own x).label ≡ (γ.own a).label = eqb_so (γ.own x).label (γ.own a).label p in
        let out : (γ.own x).label ≡ (γ.own y).label → ⊥ = λ u. eqb_not (γ.own y).label (γ.own a).label q (sym u ∙ s) in
        not_lighter (t.weight a b) (t.weight x y) (F.lightest x y k (Some (t.weight a b)) out ((λ z. (γ.fragment (s z)).least) ∙ e))

module _ (t : Graph) (weights : Weights t) where
  pub belongs_back : (a b : ℕ) → Belongs t a b → Belongs t b a
  belongs_back a b k = (turned t weights a b k.0, λ j. k.1 (rw (weights.both a b) (joined_back t weights j)))

  -- a step keeps it, by what holds after the step: a new branch leads out and is what its fragment has decided on, or was a branch at its
  -- other end already, for only one node acts
  pub belonging_step : (n m : Lifted) (γ : Ghost) → Good t m → Edges t m γ → Outward t (view m γ) → Event t n m → Belonging t n → Belonging t m
  belonging_step n m γ good E F v H a b e = before (branch_or_not ((n.held a).mark b))
    where
      edge : Edge t a b
      edge = elim (good.helds a b b).mark [ inl u ↦ absurd (no_branch u e) | inr l ↦ l ]

      -- both ends cannot have put it down in one step
      one : ((n.held a).mark b ≡ Branch → ⊥) → ((n.held b).mark a ≡ Branch → ⊥) → (m.held b).mark a ≡ Branch → ⊥
      one x y f = elim (one_stays v a b (apart t weights a b edge)) [ inl u ↦ x (sym (λ k. (u k).mark b) ∙ e) | inr u ↦ y (sym (λ k. (u k).mark a) ∙ f) ]

      stands : ((n.held a).mark b ≡ Branch → ⊥) → (((γ.own a).label ≡ (γ.own b).label → ⊥) × ((view m γ a).fragment.least ≡ decided (Some (t.weight a b)))) ⊎ ((m.held b).mark a ≡ Branch) → Belongs t a b
      stands x (inl (d, k)) = decided_belongs t m γ F a b edge d k
      stands x (inr f) = elim (branch_or_not ((n.held b).mark a)) [ inl u ↦ belongs_back b a (H b a u) | inr u ↦ absurd (one x u f) ]

      before : ((n.held a).mark b ≡ Branch) ⊎ ((n.held a).mark b ≡ Branch → ⊥) → Belongs t a b
      before (inl u) = H a b u
      before (inr u) = stands u (branch_stands (E a b edge) e)

  -- THE THEOREM: each step keeps it
  pub belonging_kept : (n m : Lifted) (γ : Ghost) → Trust t n γ → Outward t (view n γ) → Event t n m → Belonging t n → Belonging t m
  belonging_kept n m γ T F v H =
      belonging_step n m (next γ v) (good_step t weights v T.good) (stays t weights n m γ T.rest T.edges v) (outward_kept t weights n m γ T F v) v H
