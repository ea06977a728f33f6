-- A fragment that no edge leads out of: some node of it has halted, and everybody in it was asked.
use Rattle.std.proofs.Common.{◌≡◌, ℕ, Bool, true, false, cond, not, ◌&&◌, ◌||◌, eqb, ◌⊎◌, List, Option, sym, refl, ap, ◌∙◌, subst, inl, inr, arith, None, Some}
use Rattle.std.proofs.lemmas.Bool.Decides.{eqb_tells}
use Rattle.message.specs.declared.messages.Message.{Message}
use Rattle.node.specs.Rules.{lighter}
use Rattle.graph.specs.Graph.{Graph, Edge, Weights}
use Rattle.protocol.proofs.All.{Done}
use Rattle.protocol.proofs.Chain.{bool}
use Rattle.protocol.proofs.Ghost.{Turn, Least, undecided, decided, View, starts, absorb, merge, decide, end, moves, fragments, inside}
use Rattle.protocol.proofs.Heads.{Absorbing, Merging}
use Rattle.protocol.proofs.LeastKept.{label_so, other_one, some, in_label, in_least}
use Rattle.protocol.proofs.LeastOutgoing.{Steps, Spared, Outward, Alike, not_both, undecided_not, weight_not, decided_same, in_first, not_in, eqb_not, outside, calmly, World}

pub record Finished (V : ℕ → View) : Type 0 where
  pub halts : (x : ℕ) → (V x).held.halted ≡ true → (V x).fragment.least ≡ decided None
  pub asked : (x : ℕ) → (V x).fragment.least ≡ decided None → (V x).own.in_search ≡ true
  pub says : (x : ℕ) → (V x).fragment.least ≡ decided None → (z : ℕ) × (((V z).own.label ≡ (V x).own.label) × ((V z).held.halted ≡ true))

-- what is left to show of those whom a turn concerns: Q says which labels, c and le their label and least afterwards
record Closing (V V' : ℕ → View) (Q : ℕ → Bool) (c : ℕ) (le : Least) : Type 0 where
  pub others : (a : ℕ) → Q (V a).own.label ≡ false → Alike (V a) (V' a) × ((V' a).held.halted ≡ (V a).held.halted)
  pub label : (a : ℕ) → Q (V a).own.label ≡ true → (V' a).own.label ≡ c
  pub least : (a : ℕ) → Q (V a).own.label ≡ true → (V' a).fragment.least ≡ le
  pub halts : (x : ℕ) → Q (V x).own.label ≡ true → (V' x).held.halted ≡ true → le ≡ decided None
  pub asked : (x : ℕ) → Q (V x).own.label ≡ true → le ≡ decided None → (V' x).own.in_search ≡ true
  pub says : le ≡ decided None → (z : ℕ) × ((Q (V z).own.label ≡ true) × ((V' z).held.halted ≡ true))

finished_by : {V V' : ℕ → View} (Q : ℕ → Bool) (c : ℕ) (le : Least) → Closing V V' Q c le → Finished V → Finished V'
finished_by {V} {V'} Q c le D F = record { halts = λ x h. halt x h (bool (Q (V x).own.label)); asked = λ x e. ask x e (bool (Q (V x).own.label)); says = λ x e. tell x e (bool (Q (V x).own.label)) }
  where
    halt : (x : ℕ) → (V' x).held.halted ≡ true → (Q (V x).own.label ≡ true) ⊎ (Q (V x).own.label ≡ false) → (V' x).fragment.least ≡ decided None
    halt x h (inl a) = D.least x a ∙ D.halts x a h
    halt x h (inr a) = let o = D.others x a in o.0.least ∙ F.halts x (sym o.1 ∙ h)

    ask : (x : ℕ) → (V' x).fragment.least ≡ decided None → (Q (V x).own.label ≡ true) ⊎ (Q (V x).own.label ≡ false) → (V' x).own.in_search ≡ true
    ask x e (inl a) = D.asked x a (sym (D.least x a) ∙ e)
    ask x e (inr a) = let o = (D.others x a).0 in o.in_search ∙ F.asked x (sym o.least ∙ e)

    tell : (x : ℕ) → (V' x).fragment.least ≡ decided None → (Q (V x).own.label ≡ true) ⊎ (Q (V x).own.label ≡ false) → (z : ℕ) × (((V' z).own.label ≡ (V' x).own.label) × ((V' z).held.halted ≡ true))
    tell x e (inl a) = go (D.says (sym (D.least x a) ∙ e))
      where
        go : (z : ℕ) × ((Q (V z).own.label ≡ true) × ((V' z).held.halted ≡ true)) → (z : ℕ) × (((V' z).own.label ≡ (V' x).own.label) × ((V' z).held.halted ≡ true))
        go (z, (q, h)) = (z, (D.label z q ∙ sym (D.label x a), h))
    tell x e (inr a) = go (F.says x (sym (D.others x a).0.least ∙ e))
      where
        go : (z : ℕ) × (((V z).own.label ≡ (V x).own.label) × ((V z).held.halted ≡ true)) → (z : ℕ) × (((V' z).own.label ≡ (V' x).own.label) × ((V' z).held.halted ≡ true))
        go (z, (q, h)) = let o = D.others z (subst (λ l. Q l ≡ false) (sym q) a) in (z, (o.0.label ∙ q ∙ sym (D.others x a).0.label, o.1 ∙ h))

pub lighter_some : (a b : Option ℕ) → lighter a b ≡ true → a ≡ None → ⊥
lighter_some None b e f = grind arith
lighter_some (Some a) b e f = grind arith

nothing_only : (b : Option ℕ) → lighter b None ≡ false → b ≡ None
nothing_only None e = refl
nothing_only (Some b) e = absurd (grind arith)

merged_least : (c k : ℕ) (w : Least) → (c ≡ k → ⊥) → cond (eqb c k) w undecided ≡ undecided
merged_least c k w d = let f : eqb c k ≡ false = grind arith in grind arith

merged_from : (l c k : ℕ) → (eqb l c || (not (eqb c k) && (eqb l c || eqb l k))) ≡ true → (l ≡ c) ⊎ (l ≡ k)
merged_from l c k o = elim (eqb_tells l c) [ inl a ↦ inl a.1 | inr a ↦ inr (go (eqb_tells l k) a.0) ]
  where
    go : ((eqb l k ≡ true) × (l ≡ k)) ⊎ ((eqb l k ≡ false) × (l ≡ k → ⊥)) → eqb l c ≡ false → l ≡ k
    go (inl b) f = b.1
    go (inr b) f = absurd (grind arith)

module _ (t : Graph) (weights : Weights t) (V V' : ℕ → View) (P : ℕ → ℕ → List Message) (W : World t V P) (O : Outward t V) (F : Finished V) (i j : ℕ) where
  abbrev Others : Type 0
  Others = (a : ℕ) → (a ≡ i → ⊥) → (V' a).held.halted ≡ (V a).held.halted

  -- who is outside does not act
  out : (u : Turn) → Others → ((a : ℕ) → Steps u (V i) (V j) (V a) (V' a)) → (a : ℕ) → inside u (V i) (V j) (V a).own.label ≡ false → Alike (V a) (V' a) × ((V' a).held.halted ≡ (V a).held.halted)
  out u R S a o = (outside u (V i) (V j) (V a) (V' a) o (S a), R a (λ e. eqb_not (V a).own.label (V i).own.label (not_in (eqb (V a).own.label (V i).own.label) (moves u (V i) (V j) (V a).own.label) o).0 (ap (λ x. (V x).own.label) e)))

  -- nobody halts
  everybody : Others → (V' i).held.halted ≡ (V i).held.halted → (a : ℕ) → (V' a).held.halted ≡ (V a).held.halted
  everybody R h a = elim (eqb_tells a i) [ inl e ↦ subst (λ x. (V' x).held.halted ≡ (V x).held.halted) (sym e.1) h | inr e ↦ R a e.1 ]

  pub calms : (u : Turn) → ((l : ℕ) → moves u (V i) (V j) l ≡ false) → (fragments u (V i) (V j)).level ≡ (V i).fragment.level → (fragments u (V i) (V j)).least ≡ (V i).fragment.least → Others → (V' i).held.halted ≡ (V i).held.halted → ((a : ℕ) → Steps u (V i) (V j) (V a) (V' a)) → Finished V'
  calms u mv lv le R h S = finished_by (λ l. false) 0 undecided (record { others = λ a o. (calmly u (V i) (V j) (V a) (V' a) (W.same a i) (mv (V a).own.label) lv le (S a), everybody R h a); label = λ a o. absurd (not_both refl o); least = λ a o. absurd (not_both refl o); halts = λ x o. absurd (not_both refl o); asked = λ x o. absurd (not_both refl o); says = λ e. absurd (undecided_not None e) }) F

  pub takes : Edge t i j → Absorbing i j (t.weight i j) (V i) (V j) → Others → (V' i).held.halted ≡ (V i).held.halted → ((a : ℕ) → Steps absorb (V i) (V j) (V a) (V' a)) → Finished V'
  takes l H R h S = finished_by (inside absorb (V i) (V j)) (V i).own.label (V i).fragment.least (record { others = out absorb R S; label = in_label t V V' P W O i j absorb S; least = in_least t V V' P W O i j absorb S; halts = λ x o k. halt x o (sym (everybody R h x) ∙ k); asked = λ x o e. absurd (open_still e); says = λ e. absurd (open_still e) }) F
    where
      open_still : (V i).fragment.least ≡ decided None → ⊥
      open_still e = some (t.weight i j) (O.lightest i j l None H.differ e)

      halt : (x : ℕ) → inside absorb (V i) (V j) (V x).own.label ≡ true → (V x).held.halted ≡ true → (V i).fragment.least ≡ decided None
      halt x o k = elim (eqb_tells (V x).own.label (V j).own.label) [ inl a ↦ absurd (weight_not (t.weight i j) (sym H.least ∙ sym (λ q. (W.same x j a.1 q).least) ∙ F.halts x k)) | inr a ↦ sym (λ q. (W.same x i (other_one (V x).own.label (V i).own.label (V j).own.label o a.1) q).least) ∙ F.halts x k ]

  pub unites : (z : ℕ) → Merging i j (t.weight i j) (V i) (V j) → Others → (V' i).held.halted ≡ (V i).held.halted → ((a : ℕ) → Steps (merge z) (V i) (V j) (V a) (V' a)) → Finished V'
  unites z H R h S = finished_by (inside (merge z) (V i) (V j)) (V i).own.label (fragments (merge z) (V i) (V j)).least (record { others = out (merge z) R S; label = in_label t V V' P W O i j (merge z) S; least = in_least t V V' P W O i j (merge z) S; halts = λ x o k. absurd (halt x (sym (everybody R h x) ∙ k) (merged_from (V x).own.label (V i).own.label (V j).own.label o)); asked = λ x o e. absurd (yet e); says = λ e. absurd (yet e) }) F
    where
      yet : (fragments (merge z) (V i) (V j)).least ≡ decided None → ⊥
      yet e = undecided_not None (sym (merged_least (V i).own.label (V j).own.label (V i).fragment.least H.differ) ∙ e)

      halt : (x : ℕ) → (V x).held.halted ≡ true → ((V x).own.label ≡ (V i).own.label) ⊎ ((V x).own.label ≡ (V j).own.label) → ⊥
      halt x k (inl a) = weight_not (t.weight i j) (sym H.least_a ∙ sym (λ q. (W.same x i a q).least) ∙ F.halts x k)
      halt x k (inr a) = weight_not (t.weight i j) (sym H.least ∙ sym (λ q. (W.same x j a q).least) ∙ F.halts x k)

  -- the core decides on an edge
  pub settles : (me k : ℕ) → (V i).fragment.least ≡ undecided → ((V i).held.best_weight ≡ None → ⊥) → Others → (V' i).held.halted ≡ (V i).held.halted → ((a : ℕ) → Steps (decide me k) (V i) (V j) (V a) (V' a)) → Finished V'
  settles me k un fin R h S = finished_by (inside (decide me k) (V i) (V j)) (V i).own.label (decided (V i).held.best_weight) (record { others = out (decide me k) R S; label = in_label t V V' P W O i j (decide me k) S; least = in_least t V V' P W O i j (decide me k) S; halts = λ x o q. absurd (halt x (sym (everybody R h x) ∙ q) (label_so (V x).own.label (V i).own.label false refl o)); asked = λ x o e. absurd (fin (decided_same e)); says = λ e. absurd (fin (decided_same e)) }) F
    where
      halt : (x : ℕ) → (V x).held.halted ≡ true → (V x).own.label ≡ (V i).own.label → ⊥
      halt x q a = undecided_not None (sym un ∙ sym (λ k. (W.same x i a k).least) ∙ F.halts x q)

  -- or there is none, and i halts
  pub ends : ((x : ℕ) → (V x).own.label ≡ (V i).own.label → (V x).own.in_search ≡ true) → Others → (V' i).held.halted ≡ true → ((a : ℕ) → Steps end (V i) (V j) (V a) (V' a)) → Finished V'
  ends all R h S = finished_by (inside end (V i) (V j)) (V i).own.label (decided None) (record { others = out end R S; label = in_label t V V' P W O i j end S; least = in_least t V V' P W O i j end S; halts = λ x o q. refl; asked = λ x o e. (S x).in_search ∙ all x (label_so (V x).own.label (V i).own.label false refl o); says = λ e. (i, (in_first (V i).own.label (V i).own.label false refl, h)) }) F

  -- everybody was asked, when both ends of the core know of nothing
  pub all_asked : ((x : ℕ) → (V x).own.label ≡ (V i).own.label → (V x).own.in_search ≡ true → Done None (V x)) → (V i).fragment.least ≡ undecided → (x : ℕ) → (V x).own.label ≡ (V i).own.label → (V x).own.in_search ≡ true
  all_asked D un x e = go (bool (V x).own.in_search)
    where
      by : (z : ℕ) × Spared t V x z → (V x).own.in_search ≡ true
      by (z, p) = absurd (p.settled.finite (nothing_only (V z).held.best_weight (D z (p.label ∙ e) p.settled.in_search).2))

      go : ((V x).own.in_search ≡ true) ⊎ ((V x).own.in_search ≡ false) → (V x).own.in_search ≡ true
      go (inl s) = s
      go (inr s) = by (O.spared x ((λ k. (W.same x i e k).least) ∙ un) s)

  -- a node wakes, alone under its label
  pub rises : (me b : ℕ) (k : Option ℕ) (z : Option ℕ) → ((a : ℕ) → (a ≡ i → ⊥) → (V a).own.label ≡ (V i).own.label → ⊥) → (V i).own.in_search ≡ true → (((V' i).held.halted ≡ true) × (z ≡ None)) ⊎ (((V' i).held.halted ≡ false) × (z ≡ None → ⊥)) → Others → ((a : ℕ) → Steps (starts me b k z) (V i) (V j) (V a) (V' a)) → Finished V'
  rises me b k z alone s which R S = finished_by (inside u (V i) (V j)) (V i).own.label (decided z) (record { others = out u R S; label = in_label t V V' P W O i j u S; least = in_least t V V' P W O i j u S; halts = λ x o q. halt x (only x o) q which; asked = λ x o e. (S x).in_search ∙ subst (λ a. (V a).own.in_search ≡ true) (sym (only x o)) s; says = λ e. (i, (in_first (V i).own.label (V i).own.label false refl, tell e which)) }) F
    where
      u : Turn
      u = starts me b k z

      only : (x : ℕ) → inside u (V i) (V j) (V x).own.label ≡ true → x ≡ i
      only x o = elim (eqb_tells x i) [ inl e ↦ e.1 | inr e ↦ absurd (alone x e.1 (label_so (V x).own.label (V i).own.label false refl o)) ]

      halt : (x : ℕ) → x ≡ i → (V' x).held.halted ≡ true → (((V' i).held.halted ≡ true) × (z ≡ None)) ⊎ (((V' i).held.halted ≡ false) × (z ≡ None → ⊥)) → decided z ≡ decided None
      halt x e q (inl a) = ap decided a.1
      halt x e q (inr a) = absurd (not_both a.0 (subst (λ x. (V' x).held.halted ≡ true) e q))

      tell : decided z ≡ decided None → (((V' i).held.halted ≡ true) × (z ≡ None)) ⊎ (((V' i).held.halted ≡ false) × (z ≡ None → ⊥)) → (V' i).held.halted ≡ true
      tell e (inl a) = a.0
      tell e (inr a) = absurd (a.1 (decided_same e))
