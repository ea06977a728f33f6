-- Halting, by what a node did and by every step of the net.
use Rattle.std.proofs.Common.{◌≡◌, ℕ, suc, true, false, T, eqb, List, ◌++◌, Some, None, sym, refl, ◌∙◌, subst, inl, inr, arith}
use Rattle.message.specs.declared.messages.Message.{Message}
use Rattle.node.specs.declared.state.Status.TheVariants.{Sleeping}
use Rattle.node.specs.Rules.{lighter}
use Rattle.graph.specs.Graph.{Graph, Edge, Weights}
use Rattle.protocol.proofs.Control.{control1, control}
use Rattle.protocol.proofs.Deed.{woke, got, Deed, Alone, WokeTo, Absorbs, Merges, Begins, Searches-ask, Searches-report, Searches-wait, Accepts, Rejects, Crosses-ask, Crosses-report, Crosses-wait, Accepted-report, Accepted-wait, Rejected-ask, Rejected-report, Rejected-wait, Hears-report, Hears-wait, Decides-passes, Decides-joins, Halts, Rests, Changed-passes, Changed-joins}
use Rattle.protocol.proofs.Deeds.{Knows}
use Rattle.protocol.proofs.Edges.{first, next}
use Rattle.protocol.proofs.Finished.{Finished, lighter_some, calms, takes, unites, settles, ends, all_asked, rises}
use Rattle.protocol.proofs.Frame.{Lifted, start, Event, act, off}
use Rattle.protocol.proofs.Ghost.{undecided, Ghost, View, view, idle, merge, begin, report, change, turn}
use Rattle.protocol.proofs.Heads.{head_absorb, head_merge, head_turn}
use Rattle.protocol.proofs.Held.{Send, Held}
use Rattle.protocol.proofs.LeastKept.{eqb_on}
use Rattle.protocol.proofs.LeastOutgoing.{Steps, Outward, not_both, undecided_not, cond-true, World, head_ends}
use Rattle.protocol.proofs.LeastStep.{again_moves, core_done, Trust, world, taking, steps_got, steps_woke}
use Rattle.protocol.proofs.Mode.{Mode}

-- at first nobody has halted
pub finished_start : Finished (view start first)
finished_start = record { halts = λ x e. absurd (not_both refl e); asked = λ x e. refl; says = λ x e. absurd (undecided_not None e) }

weight_some : (w : ℕ) → Some w ≡ None → ⊥
weight_some w e = grind arith

module _ (t : Graph) (weights : Weights t) (V V' : ℕ → View) (P : ℕ → ℕ → List Message) (W : World t V P) (O : Outward t V) (F : Finished V) where
  closed_got : (i j : ℕ) {m : Message} {g : Held} {os : List Send} {p q : List Message} → Edge t i j → Knows t i j (V i) (V j) p q → Mode i j (t.weight i j) (V i) (V j) p (control1 m ++ q) → (d : Deed t i (V i).held (got j m) g os) → (V' i).held.halted ≡ g.halted → ((a : ℕ) → (a ≡ i → ⊥) → (V' a).held.halted ≡ (V a).held.halted) → ((a : ℕ) → Steps (turn d) (V i) (V j) (V a) (V' a)) → Finished V'
  closed_got i j l kj e (Absorbs c1) h R S = takes t weights V V' P W O F i j l (head_absorb c1 e) R h S
  closed_got i j l kj e (Merges c1 c2) h R S = elim (head_merge c1 c2 e) [ inl a ↦ unites t weights V V' P W O F i j (t.weight i j) a R h S | inr u ↦ calms t weights V V' P W O F i j (merge (t.weight i j)) (λ k. again_moves (V i).own.label (V j).own.label k u) (cond-true (eqb (V i).own.label (V j).own.label) (V i).fragment.level (suc (V i).held.level) (eqb_on (V i).own.label (V j).own.label u)) (cond-true (eqb (V i).own.label (V j).own.label) (V i).fragment.least undecided (eqb_on (V i).own.label (V j).own.label u)) R h S ]
  closed_got i j l kj e (Begins {f = f} c1) h R S = calms t weights V V' P W O F i j (begin j (eqb (t.weight i j) f) false) (λ k. refl) refl refl R h S
  closed_got i j l kj e (Searches-ask {f = f} k c1) h R S = calms t weights V V' P W O F i j (begin j (eqb (t.weight i j) f) false) (λ k. refl) refl refl R h S
  closed_got i j l kj e (Searches-report {f = f} c1 c2 c3) h R S = calms t weights V V' P W O F i j (begin j (eqb (t.weight i j) f) true) (λ k. refl) refl refl R h S
  closed_got i j l kj e (Searches-wait {f = f} c1 c2) h R S = calms t weights V V' P W O F i j (begin j (eqb (t.weight i j) f) false) (λ k. refl) refl refl R h S
  closed_got i j l kj e (Accepts c1 c2) h R S = calms t weights V V' P W O F i j idle (λ k. refl) refl refl R h S
  closed_got i j l kj e (Rejects c1 c2 c3) h R S = calms t weights V V' P W O F i j idle (λ k. refl) refl refl R h S
  closed_got i j l kj e (Crosses-ask k c1 c2 c3 c4) h R S = calms t weights V V' P W O F i j idle (λ k. refl) refl refl R h S
  closed_got i j l kj e (Crosses-report c1 c2 c3 c4 c5 c6) h R S = calms t weights V V' P W O F i j report (λ k. refl) refl refl R h S
  closed_got i j l kj e (Crosses-wait c1 c2 c3 c4 c5) h R S = calms t weights V V' P W O F i j idle (λ k. refl) refl refl R h S
  closed_got i j l kj e (Accepted-report c1 c2) h R S = calms t weights V V' P W O F i j report (λ k. refl) refl refl R h S
  closed_got i j l kj e (Accepted-wait c1) h R S = calms t weights V V' P W O F i j idle (λ k. refl) refl refl R h S
  closed_got i j l kj e (Rejected-ask k c1) h R S = calms t weights V V' P W O F i j idle (λ k. refl) refl refl R h S
  closed_got i j l kj e (Rejected-report c1 c2 c3) h R S = calms t weights V V' P W O F i j report (λ k. refl) refl refl R h S
  closed_got i j l kj e (Rejected-wait c1 c2) h R S = calms t weights V V' P W O F i j idle (λ k. refl) refl refl R h S
  closed_got i j l kj e (Hears-report c1 c2 c3) h R S = calms t weights V V' P W O F i j report (λ k. refl) refl refl R h S
  closed_got i j l kj e (Hears-wait c1 c2) h R S = calms t weights V V' P W O F i j idle (λ k. refl) refl refl R h S
  closed_got i j l kj e (Decides-passes {w = w} k c1 c2 c3 c4 c5) h R S = settles t weights V V' P W O F i j i k (head_turn kj.mine c1 c2 c3 e).least (lighter_some (V i).held.best_weight w c3) R h S
  closed_got i j l kj e (Decides-joins {w = w} k c1 c2 c3 c4 c5) h R S = settles t weights V V' P W O F i j i k (head_turn kj.mine c1 c2 c3 e).least (lighter_some (V i).held.best_weight w c3) R h S
  closed_got i j l kj e (Halts {w = w} c1 c2 c3 c4) h R S = let n = head_ends kj.same kj.mine c1 c2 (subst (λ r. lighter r (V i).held.best_weight ≡ false) (sym c4) refl) e in
      elim n.least [
        | inl un ↦ ends t weights V V' P W O F i j (all_asked t weights V V' P W O F i j (core_done t weights V P W i j None l n un c1 (subst (λ b. lighter b None ≡ false) (sym c3) refl) (subst (λ b. lighter b None ≡ false) (sym c4) refl)) un) R h S
        | inr y ↦ ends t weights V V' P W O F i j (λ x e. F.asked x ((λ k. (W.same x i e k).least) ∙ y.0)) R h S
      ]
  closed_got i j l kj e (Rests c1 c2 c3 c4) h R S = calms t weights V V' P W O F i j idle (λ k. refl) refl refl R h S
  closed_got i j l kj e (Changed-passes k c1 c2) h R S = calms t weights V V' P W O F i j (change i k) (λ k. refl) refl refl R h S
  closed_got i j l kj e (Changed-joins k c1 c2) h R S = calms t weights V V' P W O F i j (change i k) (λ k. refl) refl refl R h S

  closed_woke : (i : ℕ) {g : Held} {os : List Send} → ((a : ℕ) → (a ≡ i → ⊥) → (V a).own.label ≡ (V i).own.label → ⊥) → (V i).own.in_search ≡ true → (V i).held.halted ≡ false → (d : Deed t i (V i).held woke g os) → (V' i).held.halted ≡ g.halted → ((a : ℕ) → (a ≡ i → ⊥) → (V' a).held.halted ≡ (V a).held.halted) → ((a : ℕ) → Steps (turn d) (V i) (V i) (V a) (V' a)) → Finished V'
  closed_woke i alone s f (Alone c1) h R S = rises t weights V V' P W O F i i i i None None alone s (inl (h, refl)) R S
  closed_woke i alone s f (WokeTo k c1) h R S = rises t weights V V' P W O F i i i k (Some k) (Some (t.weight i k)) alone s (inr (h ∙ f, weight_some (t.weight i k))) R S

-- N0, as far as it is used: who sleeps is to be asked, and has not halted
abbrev pub Dormant : Lifted → Ghost → Type 0
Dormant n γ = (i : ℕ) → (n.held i).status ≡ Sleeping → ((γ.own i).in_search ≡ true) × ((n.held i).halted ≡ false)

-- THE THEOREM: each step keeps it
pub finished_kept : (t : Graph) (weights : Weights t) (n m : Lifted) (γ : Ghost) → Trust t n γ → Dormant n γ → Outward t (view n γ) → Finished (view n γ) → (s : Event t n m) → Finished (view m (next γ s))
finished_kept t weights n m γ T N O F (act i woke g os c) = closed_woke t weights (view n γ) (view m (next γ (act i woke g os c))) (λ a b. control (n.way a b)) (world t weights n m γ T) O F i (λ a d. T.rest.lone i a c.ready.awake d) (N i c.ready.awake).0 (N i c.ready.awake).1 c.does (λ k. (c.self k).halted) (λ a d k. (c.others a d k).halted) (steps_woke t weights n m γ T c)
finished_kept t weights n m γ T N O F (act i (got j x) g os c) = let k = taking t weights n m γ T j x c in closed_got t weights (view n γ) (view m (next γ (act i (got j x) g os c))) (λ a b. control (n.way a b)) (world t weights n m γ T) O F i j k.edge k.knows k.mode c.does (λ k. (c.self k).halted) (λ a d k. (c.others a d k).halted) (steps_got t weights n m γ T j x c)
finished_kept t weights n m γ T N O F (off i j x front back c) = record { halts = λ a h. F.halts a ((λ k. (sym (c.helds a) k).halted) ∙ h); asked = F.asked; says = λ a e. go (F.says a e) }
  where
    go : {a : ℕ} → (z : ℕ) × (((γ.own z).label ≡ (γ.own a).label) × ((n.held z).halted ≡ true)) → (z : ℕ) × (((γ.own z).label ≡ (γ.own a).label) × ((m.held z).halted ≡ true))
    go (z, (e, h)) = (z, (e, (λ k. (c.helds z k).halted) ∙ h))
