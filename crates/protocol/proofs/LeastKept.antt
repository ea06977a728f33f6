-- Each step keeps what a fragment knows of the edges that lead out of it.
use Rattle.std.proofs.Common.{◌≡◌, ℕ, ◌<◌, ◌≤◌, Bool, true, false, cond, not, ◌&&◌, ◌||◌, eqb, ◌⊎◌, List, None, Option, sym, refl, ap, ◌∙◌, subst, inl, inr, arith, Some}
use Rattle.std.proofs.lemmas.Bool.Decides.{eqb_tells}
use Rattle.message.specs.declared.messages.Message.{Message}
use Rattle.node.specs.declared.state.Status.TheVariants.{Find}
use Rattle.graph.specs.declared.mark.Mark.TheVariants.{Basic}
use Rattle.node.specs.Rules.{lighter}
use Rattle.graph.specs.Graph.{Graph, Edge}
use Rattle.protocol.proofs.All.{Done, lighter_trans}
use Rattle.protocol.proofs.Chain.{bool}
use Rattle.protocol.proofs.Ghost.{Turn, Least, undecided, decided, View, starts, absorb, merge, moves, enters, fragments, inside}
use Rattle.protocol.proofs.Heads.{Absorbing}
use Rattle.protocol.proofs.LeastOutgoing.{Steps, Settled, Spared, Outward, not_both, undecided_not, decided_same, in_first, cond-true, cond_false, label_in, not_in, eqb_not, outside, calmly, settled_on, outward_by, outward_alike, World, out_basic}

pub eqb_on : (a b : ℕ) → a ≡ b → eqb a b ≡ true
eqb_on a b e = grind arith

eqb_off : (a b : ℕ) → (a ≡ b → ⊥) → eqb a b ≡ false
eqb_off a b d = grind arith

pub label_so : (l k : ℕ) (m : Bool) → m ≡ false → (eqb l k || m) ≡ true → l ≡ k
label_so l k m e o = grind arith

pub other_one : (l c k : ℕ) → (eqb l c || eqb l k) ≡ true → (l ≡ k → ⊥) → l ≡ c
other_one l c k o d = grind arith

pub some : (z : ℕ) → lighter (Some z) None ≡ false → ⊥
some z e = grind arith

-- into a fragment that has decided nobody is taken who would be asked
none_enters : (C : View) (v : Option ℕ) → (C.own.in_search ≡ true → (C.held.level ≡ C.fragment.level) × (C.own.reported ≡ true)) → (C.held.status ≡ Find → C.fragment.least ≡ undecided) → C.fragment.least ≡ decided v → enters absorb C ≡ true → ⊥
none_enters C v f g e h = elim (eqb_tells C.held.level C.fragment.level) [ inl a ↦ grind arith | inr a ↦ grind arith ]

-- who takes in those who are not asked, and was asked itself, does not seek any more
enters_calm : (C : View) → C.own.in_search ≡ true → enters absorb C ≡ false → (C.held.level ≡ C.fragment.level) × (C.held.status ≡ Find → ⊥)
enters_calm C a h = elim (eqb_tells C.held.level C.fragment.level) [ inl e ↦ (e.1, λ u. grind arith) | inr e ↦ absurd (grind arith) ]

module _ (t : Graph) (V V' : ℕ → View) (P : ℕ → ℕ → List Message) (W : World t V P) (F : Outward t V) (i j : ℕ) where
  abbrev All : Turn → Type 0
  All u = (a : ℕ) → Steps u (V i) (V j) (V a) (V' a)

  pub in_label : (u : Turn) → All u → (a : ℕ) → inside u (V i) (V j) (V a).own.label ≡ true → (V' a).own.label ≡ (V i).own.label
  in_label u S a o = (S a).label ∙ label_in (moves u (V i) (V j) (V a).own.label) (V a).own.label (V i).own.label o

  in_level : (u : Turn) → All u → (a : ℕ) → inside u (V i) (V j) (V a).own.label ≡ true → (V' a).fragment.level ≡ (fragments u (V i) (V j)).level
  in_level u S a o = (S a).level ∙ cond-true (inside u (V i) (V j) (V a).own.label) (fragments u (V i) (V j)).level (V a).fragment.level o

  pub in_least : (u : Turn) → All u → (a : ℕ) → inside u (V i) (V j) (V a).own.label ≡ true → (V' a).fragment.least ≡ (fragments u (V i) (V j)).least
  in_least u S a o = (S a).least ∙ cond-true (inside u (V i) (V j) (V a).own.label) (fragments u (V i) (V j)).least (V a).fragment.least o

  -- nobody moves, and the fragment of who acts is left as it was
  pub calm : (u : Turn) → ((l : ℕ) → moves u (V i) (V j) l ≡ false) → (fragments u (V i) (V j)).level ≡ (V i).fragment.level → (fragments u (V i) (V j)).least ≡ (V i).fragment.least → All u → Outward t V'
  calm u mv lv le S = outward_alike (λ a. calmly u (V i) (V j) (V a) (V' a) (W.same a i) (mv (V a).own.label) lv le (S a)) F

  -- the two fragments of a connect become one that has yet to decide
  pub merges : (z : ℕ) → ((V i).own.label ≡ (V j).own.label → ⊥) → All (merge z) → Outward t V'
  merges z d S = outward_by (inside u (V i) (V j)) (V i).own.label (fragments u (V i) (V j)).level (fragments u (V i) (V j)).least
      (record {
        others = λ a o. outside u (V i) (V j) (V a) (V' a) o (S a);
        label = in_label u S;
        level = in_level u S;
        least = in_least u S;
        lightest = λ x y v l o k e. absurd (yet (V i).own.label (V j).own.label (V i).fragment.least v d e);
        answered = λ x v o e. absurd (yet (V i).own.label (V j).own.label (V i).fragment.least v d e);
        spared = λ x o e s. absurd (asked (V x).own.label (V i).own.label (V j).own.label (V x).own.in_search (V' x).own.in_search d o (S x).in_search s);
      }) F
    where
      u : Turn
      u = merge z

      yet : (c k : ℕ) (w : Least) (v : Option ℕ) → (c ≡ k → ⊥) → cond (eqb c k) w undecided ≡ decided v → ⊥
      yet c k w v d e = let f : eqb c k ≡ false = grind arith in grind arith

      asked : (l c k : ℕ) (a b : Bool) → (c ≡ k → ⊥) → (eqb l c || (not (eqb c k) && (eqb l c || eqb l k))) ≡ true → b ≡ cond (not (eqb c k) && (eqb l c || eqb l k)) true a → b ≡ false → ⊥
      asked l c k a b d o e s = let f : eqb c k ≡ false = grind arith in grind arith

  -- a node wakes: it is alone under its label
  pub wakes : (me b : ℕ) (k : Option ℕ) (z : Option ℕ) → ((a : ℕ) → (a ≡ i → ⊥) → (V a).own.label ≡ (V i).own.label → ⊥) → (1 ≤ (V i).fragment.level → ⊥) → ((y : ℕ) → Edge t i y → lighter (Some (t.weight i y)) z ≡ false) → All (starts me b k z) → Outward t V'
  wakes me b k z alone low least S = outward_by (inside u (V i) (V j)) (V i).own.label (fragments u (V i) (V j)).level (fragments u (V i) (V j)).least
      (record {
        others = λ a o. outside u (V i) (V j) (V a) (V' a) o (S a);
        label = in_label u S;
        level = in_level u S;
        least = in_least u S;
        lightest = λ x y v l o n e. is x y v l (only x o) e;
        answered = λ x v o e r. absurd (low r);
        spared = λ x o e. absurd (undecided_not z (sym e));
      }) F
    where
      u : Turn
      u = starts me b k z

      only : (x : ℕ) → inside u (V i) (V j) (V x).own.label ≡ true → x ≡ i
      only x o = elim (eqb_tells x i) [ inl e ↦ e.1 | inr e ↦ absurd (alone x e.1 (label_in false (V x).own.label (V i).own.label o)) ]

      is : (x y : ℕ) (v : Option ℕ) → Edge t x y → x ≡ i → decided z ≡ decided v → lighter (Some (t.weight x y)) v ≡ false
      is x y v l e f = subst (λ v. lighter (Some (t.weight x y)) v ≡ false) (decided_same f) (subst (λ x. Edge t x y → lighter (Some (t.weight x y)) z ≡ false) (sym e) (least y) l)

  -- the core decides on w, of which nobody asked has anything lighter
  pub decides : (u : Turn) (w : Option ℕ) → ((l : ℕ) → moves u (V i) (V j) l ≡ false) → (fragments u (V i) (V j)).level ≡ (V i).fragment.level → (fragments u (V i) (V j)).least ≡ decided w → (V i).fragment.least ≡ undecided → 1 ≤ (V i).fragment.level → ((x : ℕ) → (V x).own.label ≡ (V i).own.label → (V x).own.in_search ≡ true → Done w (V x)) → All u → Outward t V'
  decides u w mv lv le un high D S = outward_by (inside u (V i) (V j)) (V i).own.label (fragments u (V i) (V j)).level (fragments u (V i) (V j)).least
      (record { others = λ a o. outside u (V i) (V j) (V a) (V' a) o (S a); label = in_label u S; level = in_level u S; least = in_least u S; lightest = lights; answered = answers; spared = λ x o e. absurd (undecided_not w (sym e ∙ le)) }) F
    where
      ours : (x : ℕ) → inside u (V i) (V j) (V x).own.label ≡ true → (V x).own.label ≡ (V i).own.label
      ours x o = label_so (V x).own.label (V i).own.label (moves u (V i) (V j) (V x).own.label) (mv (V x).own.label) o

      asked : (x : ℕ) → inside u (V i) (V j) (V x).own.label ≡ true → (V' x).own.in_search ≡ (V x).own.in_search
      asked x o = (S x).in_search ∙ cond_false (moves u (V i) (V j) (V x).own.label) (enters u (V i)) (V x).own.in_search (mv (V x).own.label)

      quiet : (x y : ℕ) → Edge t x y → (V x).own.reported ≡ true → (V x).held.testing ≡ None
      quiet x y l r = elim (W.asks x) [ inl e ↦ e | inr e ↦ absurd (not_both ((W.sane x y l).find_reported e) r) ]

      lights : (x y : ℕ) (v : Option ℕ) → Edge t x y → inside u (V i) (V j) (V x).own.label ≡ true → inside u (V i) (V j) (V y).own.label ≡ false → (fragments u (V i) (V j)).least ≡ decided v → lighter (Some (t.weight x y)) v ≡ false
      lights x y v l o n e = subst (λ v. lighter (Some (t.weight x y)) v ≡ false) (decided_same (sym le ∙ e)) (go (bool (V x).own.in_search))
        where
          h : (V x).own.label ≡ (V i).own.label
          h = ours x o

          d : (V x).own.label ≡ (V y).own.label → ⊥
          d k = eqb_not (V y).own.label (V i).own.label (not_in (eqb (V y).own.label (V i).own.label) (moves u (V i) (V j) (V y).own.label) n).0 (sym k ∙ h)

          f : (V x).fragment ≡ (V i).fragment
          f = W.same x i h

          yet : (V x).fragment.least ≡ undecided
          yet = (λ k. (f k).least) ∙ un

          by : (z : ℕ) × Spared t V x z → lighter (Some (t.weight x y)) w ≡ false
          by (z, p) = lighter_trans (Some (t.weight x y)) (V z).held.best_weight w (p.least y l d) (D z (p.label ∙ h) p.settled.in_search).2

          go : ((V x).own.in_search ≡ true) ⊎ ((V x).own.in_search ≡ false) → lighter (Some (t.weight x y)) w ≡ false
          go (inl s) = let k = D x h s in lighter_trans (Some (t.weight x y)) (V x).held.best_weight w
              (W.heavier x y l k.0 s (quiet x y l k.1) (subst (λ l. 1 ≤ l) (sym (k.0 ∙ λ z. (f z).level)) high) (out_basic d yet (W.edges x y l))) k.2
          go (inr s) = by (F.spared x yet s)

      answers : (x : ℕ) (v : Option ℕ) → inside u (V i) (V j) (V x).own.label ≡ true → (fragments u (V i) (V j)).least ≡ decided v → 1 ≤ (fragments u (V i) (V j)).level → (V' x).own.in_search ≡ true → ((V' x).held.level ≡ (fragments u (V i) (V j)).level) × ((V' x).own.reported ≡ true)
      answers x v o e r s = let h = ours x o in let a = sym (asked x o) ∙ s in let k = D x h a in let g = (S x).keeps a k.0 k.1 in (g.0 ∙ k.0 ∙ (λ z. (W.same x i h z).level) ∙ sym lv, g.1)

  -- a fragment of a lower level is taken in
  pub absorbs : Edge t i j → Absorbing i j (t.weight i j) (V i) (V j) → (V i).held.mark j ≡ Basic → All absorb → Outward t V'
  absorbs ij H mk S = outward_by (inside absorb (V i) (V j)) (V i).own.label (V i).fragment.level (V i).fragment.least
      (record { others = λ a o. outside absorb (V i) (V j) (V a) (V' a) o (S a); label = in_label absorb S; level = in_level absorb S; least = in_least absorb S; lightest = lights; answered = answers; spared = spares }) F
    where
      C : View
      C = V i

      z : ℕ
      z = t.weight i j

      -- the edge of the connect leads out, so it is no lighter than what C's fragment has decided on
      over : (v : Option ℕ) → C.fragment.least ≡ decided v → lighter (Some z) v ≡ false
      over v e = F.lightest i j ij v H.differ e

      -- and what leads out of J's is no lighter than it
      beyond : (x y : ℕ) → Edge t x y → (V x).own.label ≡ (V j).own.label → ((V x).own.label ≡ (V y).own.label → ⊥) → lighter (Some (t.weight x y)) (Some z) ≡ false
      beyond x y l e d = F.lightest x y l (Some z) d ((λ k. (W.same x j e k).least) ∙ H.least)

      mine : (l : ℕ) → (eqb l C.own.label || eqb l (V j).own.label) ≡ true → (l ≡ (V j).own.label → ⊥) → l ≡ C.own.label
      mine l o d = other_one l C.own.label (V j).own.label o d

      stay : (a : ℕ) → ((V a).own.label ≡ (V j).own.label → ⊥) → (V' a).own.in_search ≡ (V a).own.in_search
      stay a d = (S a).in_search ∙ cond_false (eqb (V a).own.label (V j).own.label) (enters absorb C) (V a).own.in_search (eqb_off (V a).own.label (V j).own.label d)

      enter : (a : ℕ) → (V a).own.label ≡ (V j).own.label → (V' a).own.in_search ≡ enters absorb C
      enter a e = (S a).in_search ∙ cond-true (eqb (V a).own.label (V j).own.label) (enters absorb C) (V a).own.in_search (eqb_on (V a).own.label (V j).own.label e)

      lights : (x y : ℕ) (v : Option ℕ) → Edge t x y → inside absorb C (V j) (V x).own.label ≡ true → inside absorb C (V j) (V y).own.label ≡ false → C.fragment.least ≡ decided v → lighter (Some (t.weight x y)) v ≡ false
      lights x y v l o n e = go (eqb_tells (V x).own.label (V j).own.label)
        where
          out : (eqb (V y).own.label C.own.label ≡ false) × (eqb (V y).own.label (V j).own.label ≡ false)
          out = not_in (eqb (V y).own.label C.own.label) (eqb (V y).own.label (V j).own.label) n

          go : ((eqb (V x).own.label (V j).own.label ≡ true) × ((V x).own.label ≡ (V j).own.label)) ⊎ ((eqb (V x).own.label (V j).own.label ≡ false) × ((V x).own.label ≡ (V j).own.label → ⊥)) → lighter (Some (t.weight x y)) v ≡ false
          go (inl a) = lighter_trans (Some (t.weight x y)) (Some z) v (beyond x y l a.1 (λ k. eqb_not (V y).own.label (V j).own.label out.1 (sym k ∙ a.1))) (over v e)
          go (inr a) = let h = mine (V x).own.label o a.1 in F.lightest x y l v (λ k. eqb_not (V y).own.label C.own.label out.0 (sym k ∙ h)) ((λ k. (W.same x i h k).least) ∙ e)

      high : 1 ≤ C.held.level
      high = above_none (V j).held.level C.held.level H.low
        where
          above_none : (a b : ℕ) → a < b → 1 ≤ b
          above_none a b h = omega arith

      answers : (x : ℕ) (v : Option ℕ) → inside absorb C (V j) (V x).own.label ≡ true → C.fragment.least ≡ decided v → 1 ≤ C.fragment.level → (V' x).own.in_search ≡ true → ((V' x).held.level ≡ C.fragment.level) × ((V' x).own.reported ≡ true)
      answers x v o e r s = go (eqb_tells (V x).own.label (V j).own.label)
        where
          go : ((eqb (V x).own.label (V j).own.label ≡ true) × ((V x).own.label ≡ (V j).own.label)) ⊎ ((eqb (V x).own.label (V j).own.label ≡ false) × ((V x).own.label ≡ (V j).own.label → ⊥)) → ((V' x).held.level ≡ C.fragment.level) × ((V' x).own.reported ≡ true)
          go (inl a) = absurd (none_enters C v (F.answered i v e r) (W.sane i j ij).find_undecided e (sym (enter x a.1) ∙ s))
          go (inr a) = let h = mine (V x).own.label o a.1 in let f = W.same x i h in let b = sym (stay x a.1) ∙ s in let k = F.answered x v ((λ q. (f q).least) ∙ e) (subst (λ l. 1 ≤ l) (sym (λ q. (f q).level)) r) b in let g = (S x).keeps b k.0 k.1 in (g.0 ∙ k.0 ∙ (λ q. (f q).level), g.1)

      -- who serves one of C's fragment
      serves : (x s : ℕ) → (V' x).own.label ≡ C.own.label → (V s).own.label ≡ C.own.label → Settled (V s) → ((y : ℕ) → Edge t x y → ((V' x).own.label ≡ (V' y).own.label → ⊥) → lighter (Some (t.weight x y)) (V s).held.best_weight ≡ false) → Spared t V' x s
      serves x s e h p f = let n : (V s).own.label ≡ (V j).own.label → ⊥ = λ k. H.differ (sym h ∙ k) in let o : inside absorb C (V j) (V s).own.label ≡ true = in_first (V s).own.label C.own.label (eqb (V s).own.label (V j).own.label) h in
          let k = settled_on (V s) (V' s) (stay s n) (in_level absorb S s o ∙ sym (λ q. (W.same s i h q).level)) (S s).keeps p in
          record { label = in_label absorb S s o ∙ sym e; settled = k.0; least = λ y l d. subst (λ b. lighter (Some (t.weight x y)) b ≡ false) (sym k.1) (f y l d) }

      -- labels that differ afterwards did before
      before : (x y : ℕ) → ((V' x).own.label ≡ (V' y).own.label → ⊥) → (V x).own.label ≡ (V y).own.label → ⊥
      before x y d e = d ((S x).label ∙ ap (λ l. cond (moves absorb C (V j) l) C.own.label l) e ∙ sym (S y).label)

      spares : (x : ℕ) → inside absorb C (V j) (V x).own.label ≡ true → C.fragment.least ≡ undecided → (V' x).own.in_search ≡ false → (s : ℕ) × Spared t V' x s
      spares x o e q = go (eqb_tells (V x).own.label (V j).own.label)
        where
          lx : (V' x).own.label ≡ C.own.label
          lx = in_label absorb S x o

          ours : ((V x).own.label ≡ C.own.label) → (s : ℕ) × Spared t V x s → (s : ℕ) × Spared t V' x s
          ours h (s, p) = (s, serves x s lx (p.label ∙ h) p.settled (λ y l d. p.least y l (before x y d)))

          theirs : (V x).own.label ≡ (V j).own.label → (s : ℕ) → (V s).own.label ≡ C.own.label → Settled (V s) → lighter (Some z) (V s).held.best_weight ≡ false → (s : ℕ) × Spared t V' x s
          theirs h s k p f = (s, serves x s lx k p (λ y l d. lighter_trans (Some (t.weight x y)) (Some z) (V s).held.best_weight (beyond x y l h (before x y d)) f))

          late : (V x).own.label ≡ (V j).own.label → (s : ℕ) × Spared t V i s → (s : ℕ) × Spared t V' x s
          late h (s, p) = theirs h s p.label p.settled (p.least j ij H.differ)

          here : (V x).own.label ≡ (V j).own.label → (C.own.in_search ≡ true) ⊎ (C.own.in_search ≡ false) → (s : ℕ) × Spared t V' x s
          here h (inr a) = late h (F.spared i e a)
          here h (inl a) = let b = enters_calm C a (sym (enter x h) ∙ q) in let f = W.heavier i j ij b.0 a (elim (W.asks i) [ inl u ↦ u | inr u ↦ absurd (b.1 u) ]) high mk in
              theirs h i refl (record { in_search = a; current = b.0; reported = sym (W.answers i b.0 b.1 high) ∙ a; finite = λ n. some z (subst (λ v. lighter (Some z) v ≡ false) n f) }) f

          go : ((eqb (V x).own.label (V j).own.label ≡ true) × ((V x).own.label ≡ (V j).own.label)) ⊎ ((eqb (V x).own.label (V j).own.label ≡ false) × ((V x).own.label ≡ (V j).own.label → ⊥)) → (s : ℕ) × Spared t V' x s
          go (inl a) = here a.1 (bool C.own.in_search)
          go (inr a) = let h = mine (V x).own.label o a.1 in ours h (F.spared x ((λ k. (W.same x i h k).least) ∙ e) (sym (stay x a.1) ∙ q))
