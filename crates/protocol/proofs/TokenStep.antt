-- The word under way, by what a node did and by every step of the net.
use Rattle.std.proofs.Common.{◌≡◌, ℕ, suc, ◌<◌, ◌≤◌, Bool, true, false, cond, T, eqb, ◌⊎◌, List, ◌++◌, Some, None, sym, refl, ◌∙◌, subst, inl, inr, arith}
use native.Mathlib.Decide.{dec_le}
use Rattle.std.proofs.lemmas.Bool.Decides.{eqb_tells}
use Rattle.message.specs.declared.messages.Message.{Message}
use Rattle.graph.specs.declared.mark.Mark.TheVariants.{Branch}
use Rattle.graph.specs.Graph.{Graph, Edge, Weights}
use Rattle.protocol.proofs.Control.{control1, control}
use Rattle.protocol.proofs.Deed.{In, woke, got, Deed, Alone, WokeTo, Absorbs, Merges, Begins, Searches-ask, Searches-report, Searches-wait, Accepts, Rejects, Crosses-ask, Crosses-report, Crosses-wait, Accepted-report, Accepted-wait, Rejected-ask, Rejected-report, Rejected-wait, Hears-report, Hears-wait, Decides-passes, Decides-joins, Halts, Rests, Changed-passes, Changed-joins}
use Rattle.protocol.proofs.Deeds.{Knows}
use Rattle.protocol.proofs.Edges.{first, next, apart, turned}
use Rattle.protocol.proofs.Frame.{Lifted, start, Act, Event, act, off}
use Rattle.protocol.proofs.Ghost.{Turn, Least, undecided, decided, Ghost, View, view, idle, starts, absorb, merge, begin, report, decide, change, end, turn, mine, moves, fragments, acted, stepped}
use Rattle.protocol.proofs.Heads.{Absorbing, head_absorb, head_merge, head_begin, head_turn, head_change}
use Rattle.protocol.proofs.Held.{Send, Held}
use Rattle.protocol.proofs.LeastKept.{eqb_on, in_least}
use Rattle.protocol.proofs.LeastOutgoing.{Steps, Outward, undecided_not, weight_not, cond-true, World}
use Rattle.protocol.proofs.LeastStep.{stale, again_moves, Trust, world, low, taking, steps_got, steps_woke}
use Rattle.protocol.proofs.Mode.{Mode, Sane}
use Rattle.protocol.proofs.Token.{Token, Tokens, Bears, Words, words_else, words_acted, bears_else, kept_token, new_token, tokens_by}
use Rattle.protocol.proofs.Turn.{Best}
use Rattle.protocol.proofs.Views.{view_else, view_acted}

-- at first nobody has decided
pub tokens_start : (t : Graph) → Tokens t (view start first)
tokens_start t x w e = absurd (undecided_not (Some w) e)

bears_same : (u : Turn) (g : Held) (A J : View) → (mine u A J).up ≡ A.own.up → (mine u A J).changed ≡ A.own.changed → g.level ≡ A.held.level → Bears A (acted u g A J)
bears_same u g A J a b l = record { up = a; bears = λ c k. (b ∙ c, l) }

bears_begin : (j : ℕ) (b r : Bool) (g : Held) (A J : View) (l : ℕ) → A.own.up ≡ Some j → A.held.level < l → l ≤ A.fragment.level → Bears A (acted (begin j b r) g A J)
bears_begin j b r g A J l u lt top = record { up = sym u; bears = λ c k. absurd (stale lt top k) }

merged_not : (c k w : ℕ) (l v : Least) → (c ≡ k → ⊥) → v ≡ cond (eqb c k) l undecided → v ≡ decided (Some w) → ⊥
merged_not c k w l v d e f = let n : eqb c k ≡ false = grind arith in grind arith

-- the levels on the way round: from the token's end back to itself
ring : {a b c d e f : ℕ} → a ≤ b → b ≤ c → c ≡ d → d < e → e ≤ f → a ≡ f → ⊥
ring p q r s t u = omega arith

-- where the word goes on to: i's best edge, over a branch or out
meets_on : {i k w : ℕ} {A B : View} → Best i k w A B → Sane i B → A.held.mark k ≡ Branch → B.own.up ≡ Some i
meets_on {i} {k} {w} {A} {B} b n m = let o = b.on m in elim n.up_parent [ inl c ↦ absurd (grind arith) | inr u ↦ u ∙ o.0 ]

meets_out : {i k w : ℕ} {A B : View} → Best i k w A B → (A.held.mark k ≡ Branch → ⊥) → A.own.label ≡ B.own.label → ⊥
meets_out b m = elim b.mark [ inl u ↦ (b.out u).1 | inr u ↦ absurd (m u) ]

module _ (t : Graph) (weights : Weights t) (V V' : ℕ → View) (P : ℕ → ℕ → List Message) (W : World t V P) (O : Outward t V) (F : Tokens t V) where
  -- the turn leaves the word where it is, and moves nobody
  leaves : (i j : ℕ) (u : Turn) → ((a : ℕ) → Steps u (V i) (V j) (V a) (V' a)) → ((a : ℕ) → Words u (V i) (V j) (V a) (V' a)) → ((a : ℕ) → (a ≡ i → ⊥) → Bears (V a) (V' a)) → Bears (V i) (V' i) →
      (fragments u (V i) (V j)).sends ≡ (V i).fragment.sends → (fragments u (V i) (V j)).gets ≡ (V i).fragment.gets → (fragments u (V i) (V j)).level ≡ (V i).fragment.level → (fragments u (V i) (V j)).least ≡ (V i).fragment.least → ((l : ℕ) → moves u (V i) (V j) l ≡ false) → Tokens t V'
  leaves i j u S D R B fs fg fl fe mv = tokens_by t V V' P W O F i j u S D R (kept_token t V V' P W O F i j u S D R B fs fg fl fe (λ s g a b c d l. mv (V g).own.label))

  -- the word goes on from i, over its best edge to k
  passes : (i j k : ℕ) (u : Turn) (g : Held) → Edge t i k → ((V i).own.label ≡ (V k).own.label → ⊥) ⊎ ((V k).own.up ≡ Some i) → (V i).held.level ≡ (V i).fragment.level → g.level ≡ (V i).held.level → V' i ≡ acted u g (V i) (V j) → ((a : ℕ) → Steps u (V i) (V j) (V a) (V' a)) → ((a : ℕ) → Words u (V i) (V j) (V a) (V' a)) → ((a : ℕ) → (a ≡ i → ⊥) → Bears (V a) (V' a)) →
      (fragments u (V i) (V j)).sends ≡ i → (fragments u (V i) (V j)).gets ≡ k → (fragments u (V i) (V j)).level ≡ (V i).fragment.level → ((l : ℕ) → moves u (V i) (V j) l ≡ false) → (mine u (V i) (V j)).up ≡ Some k → (mine u (V i) (V j)).changed ≡ true → Tokens t V'
  passes i j k u g l m cu gl self S D R fs fg fl mv up ch = tokens_by t V V' P W O F i j u S D R (λ x w o e. (i, (k, new_token t V V' P W O F i j u S D R k l (λ e. apart t weights i k l (sym e)) fs fg fl ((λ q. (self q).own.up) ∙ up) ((λ q. (self q).own.changed) ∙ ch) ((λ q. (self q).held.level) ∙ gl ∙ cu) mv m x o)))

  absorbing : (i j : ℕ) → Edge t i j → Absorbing i j (t.weight i j) (V i) (V j) → ((a : ℕ) → Steps absorb (V i) (V j) (V a) (V' a)) → ((a : ℕ) → Words absorb (V i) (V j) (V a) (V' a)) → ((a : ℕ) → (a ≡ i → ⊥) → Bears (V a) (V' a)) → Bears (V i) (V' i) → Tokens t V'
  absorbing i j l H S D R B = tokens_by t V V' P W O F i j absorb S D R (kept_token t V V' P W O F i j absorb S D R B refl refl refl refl far)
    where
      far : (s g : ℕ) → (V s).own.label ≡ (V i).own.label → (V s).held.level ≡ (V s).fragment.level → ((V s).own.label ≡ (V g).own.label → ⊥) → (V s).held.level ≤ (V g).held.level → Edge t s g → eqb (V g).own.label (V j).own.label ≡ false
      far s g a b c d m = elim (eqb_tells (V g).own.label (V j).own.label) [ inl e ↦ absurd (ring d (W.sane g s (turned t weights s g m)).low ((λ q. (W.same g j e.1 q).level) ∙ sym H.current) H.low (W.sane i j l).low (b ∙ λ q. (W.same s i a q).level)) | inr e ↦ e.0 ]

  -- where i's best edge leads
  abbrev Leading : ℕ → Type 0
  Leading i = (k : ℕ) → (V i).held.best ≡ Some k → Edge t i k × ((V i).own.changed ≡ false → (V i).held.level ≡ (V i).fragment.level → Best i k (t.weight i k) (V i) (V k))

  word_got : (i j : ℕ) {m : Message} {g : Held} {os : List Send} {p q : List Message} → Edge t i j → Leading i → Knows t i j (V i) (V j) p q → Mode i j (t.weight i j) (V i) (V j) p (control1 m ++ q) → (d : Deed t i (V i).held (got j m) g os) → V' i ≡ acted (turn d) g (V i) (V j) → ((a : ℕ) → Steps (turn d) (V i) (V j) (V a) (V' a)) → ((a : ℕ) → Words (turn d) (V i) (V j) (V a) (V' a)) → ((a : ℕ) → (a ≡ i → ⊥) → Bears (V a) (V' a)) → Tokens t V'
  word_got i j {g = g} l ld kj e (Absorbs c1) self S D R = absorbing i j l (head_absorb c1 e) S D R (subst (λ X. Bears (V i) X) (sym self) (bears_same absorb g (V i) (V j) refl refl refl))
  word_got i j {g = g} l ld kj e (Merges c1 c2) self S D R = elim (head_merge c1 c2 e) [ inl a ↦ tokens_by t V V' P W O F i j (merge (t.weight i j)) S D R (λ x w o f. absurd (merged_not (V i).own.label (V j).own.label w (V i).fragment.least (V' x).fragment.least a.differ (in_least t V V' P W O i j (merge (t.weight i j)) S x o) f)) | inr u ↦ leaves i j (merge (t.weight i j)) S D R (subst (λ X. Bears (V i) X) (sym self) (bears_same (merge (t.weight i j)) (V i).held (V i) (V j) refl refl refl)) refl refl (cond-true (eqb (V i).own.label (V j).own.label) (V i).fragment.level (suc (V i).held.level) (eqb_on (V i).own.label (V j).own.label u)) (cond-true (eqb (V i).own.label (V j).own.label) (V i).fragment.least undecided (eqb_on (V i).own.label (V j).own.label u)) (λ k. again_moves (V i).own.label (V j).own.label k u) ]
  word_got i j {g = g} l ld kj e (Begins {l = n} {f = f} c1) self S D R = let b = head_begin kj.theirs kj.same e in leaves i j (begin j (eqb (t.weight i j) f) false) S D R (subst (λ X. Bears (V i) X) (sym self) (bears_begin j (eqb (t.weight i j) f) false g (V i) (V j) n b.up b.rises b.top)) refl refl refl refl (λ k. refl)
  word_got i j {g = g} l ld kj e (Searches-ask {l = n} {f = f} k c1) self S D R = let b = head_begin kj.theirs kj.same e in leaves i j (begin j (eqb (t.weight i j) f) false) S D R (subst (λ X. Bears (V i) X) (sym self) (bears_begin j (eqb (t.weight i j) f) false g (V i) (V j) n b.up b.rises b.top)) refl refl refl refl (λ k. refl)
  word_got i j {g = g} l ld kj e (Searches-report {l = n} {f = f} c1 c2 c3) self S D R = let b = head_begin kj.theirs kj.same e in leaves i j (begin j (eqb (t.weight i j) f) true) S D R (subst (λ X. Bears (V i) X) (sym self) (bears_begin j (eqb (t.weight i j) f) true g (V i) (V j) n b.up b.rises b.top)) refl refl refl refl (λ k. refl)
  word_got i j {g = g} l ld kj e (Searches-wait {l = n} {f = f} c1 c2) self S D R = let b = head_begin kj.theirs kj.same e in leaves i j (begin j (eqb (t.weight i j) f) false) S D R (subst (λ X. Bears (V i) X) (sym self) (bears_begin j (eqb (t.weight i j) f) false g (V i) (V j) n b.up b.rises b.top)) refl refl refl refl (λ k. refl)
  word_got i j {g = g} l ld kj e (Accepts c1 c2) self S D R = leaves i j idle S D R (subst (λ X. Bears (V i) X) (sym self) (bears_same idle g (V i) (V j) refl refl refl)) refl refl refl refl (λ k. refl)
  word_got i j {g = g} l ld kj e (Rejects c1 c2 c3) self S D R = leaves i j idle S D R (subst (λ X. Bears (V i) X) (sym self) (bears_same idle g (V i) (V j) refl refl refl)) refl refl refl refl (λ k. refl)
  word_got i j {g = g} l ld kj e (Crosses-ask k c1 c2 c3 c4) self S D R = leaves i j idle S D R (subst (λ X. Bears (V i) X) (sym self) (bears_same idle g (V i) (V j) refl refl refl)) refl refl refl refl (λ k. refl)
  word_got i j {g = g} l ld kj e (Crosses-report c1 c2 c3 c4 c5 c6) self S D R = leaves i j report S D R (subst (λ X. Bears (V i) X) (sym self) (bears_same report g (V i) (V j) refl refl refl)) refl refl refl refl (λ k. refl)
  word_got i j {g = g} l ld kj e (Crosses-wait c1 c2 c3 c4 c5) self S D R = leaves i j idle S D R (subst (λ X. Bears (V i) X) (sym self) (bears_same idle g (V i) (V j) refl refl refl)) refl refl refl refl (λ k. refl)
  word_got i j {g = g} l ld kj e (Accepted-report c1 c2) self S D R = leaves i j report S D R (subst (λ X. Bears (V i) X) (sym self) (bears_same report g (V i) (V j) refl refl refl)) refl refl refl refl (λ k. refl)
  word_got i j {g = g} l ld kj e (Accepted-wait c1) self S D R = leaves i j idle S D R (subst (λ X. Bears (V i) X) (sym self) (bears_same idle g (V i) (V j) refl refl refl)) refl refl refl refl (λ k. refl)
  word_got i j {g = g} l ld kj e (Rejected-ask k c1) self S D R = leaves i j idle S D R (subst (λ X. Bears (V i) X) (sym self) (bears_same idle g (V i) (V j) refl refl refl)) refl refl refl refl (λ k. refl)
  word_got i j {g = g} l ld kj e (Rejected-report c1 c2 c3) self S D R = leaves i j report S D R (subst (λ X. Bears (V i) X) (sym self) (bears_same report g (V i) (V j) refl refl refl)) refl refl refl refl (λ k. refl)
  word_got i j {g = g} l ld kj e (Rejected-wait c1 c2) self S D R = leaves i j idle S D R (subst (λ X. Bears (V i) X) (sym self) (bears_same idle g (V i) (V j) refl refl refl)) refl refl refl refl (λ k. refl)
  word_got i j {g = g} l ld kj e (Hears-report c1 c2 c3) self S D R = leaves i j report S D R (subst (λ X. Bears (V i) X) (sym self) (bears_same report g (V i) (V j) refl refl refl)) refl refl refl refl (λ k. refl)
  word_got i j {g = g} l ld kj e (Hears-wait c1 c2) self S D R = leaves i j idle S D R (subst (λ X. Bears (V i) X) (sym self) (bears_same idle g (V i) (V j) refl refl refl)) refl refl refl refl (λ k. refl)
  word_got i j {g = g} l ld kj e (Decides-passes k c1 c2 c3 c4 c5) self S D R = let h = head_turn kj.mine c1 c2 c3 e in let b = ld k c4 in passes i j k (decide i k) g b.0 (inr (meets_on (b.1 h.still h.current) (W.sane k i (turned t weights i k b.0)) c5)) h.current refl self S D R refl refl refl (λ k. refl) refl refl
  word_got i j {g = g} l ld kj e (Decides-joins k c1 c2 c3 c4 c5) self S D R = let h = head_turn kj.mine c1 c2 c3 e in let b = ld k c4 in passes i j k (decide i k) g b.0 (inl (meets_out (b.1 h.still h.current) c5)) h.current refl self S D R refl refl refl (λ k. refl) refl refl
  word_got i j {g = g} l ld kj e (Halts c1 c2 c3 c4) self S D R = tokens_by t V V' P W O F i j end S D R (λ x w o f. absurd (weight_not w (sym f ∙ in_least t V V' P W O i j end S x o)))
  word_got i j {g = g} l ld kj e (Rests c1 c2 c3 c4) self S D R = leaves i j idle S D R (subst (λ X. Bears (V i) X) (sym self) (bears_same idle g (V i) (V j) refl refl refl)) refl refl refl refl (λ k. refl)
  word_got i j {g = g} l ld kj e (Changed-passes k c1 c2) self S D R = let h = head_change kj.same e in let b = ld k c1 in passes i j k (change i k) g b.0 (inr (meets_on (b.1 h.still h.current) (W.sane k i (turned t weights i k b.0)) c2)) h.current refl self S D R refl refl refl (λ k. refl) refl refl
  word_got i j {g = g} l ld kj e (Changed-joins k c1 c2) self S D R = let h = head_change kj.same e in let b = ld k c1 in passes i j k (change i k) g b.0 (inl (meets_out (b.1 h.still h.current) c2)) h.current refl self S D R refl refl refl (λ k. refl) refl refl

  word_woke : (i : ℕ) {g : Held} {os : List Send} → i < t.count → ((a : ℕ) → (a ≡ i → ⊥) → (V a).own.label ≡ (V i).own.label → ⊥) → (V i).held.level ≡ 0 → (1 ≤ (V i).fragment.level → ⊥) → (d : Deed t i (V i).held woke g os) → V' i ≡ acted (turn d) g (V i) (V i) → ((a : ℕ) → Steps (turn d) (V i) (V i) (V a) (V' a)) → ((a : ℕ) → Words (turn d) (V i) (V i) (V a) (V' a)) → ((a : ℕ) → (a ≡ i → ⊥) → Bears (V a) (V' a)) → Tokens t V'
  word_woke i ic alone z low (Alone c1) self S D R = tokens_by t V V' P W O F i i (starts i i None None) S D R (λ x w o f. absurd (weight_not w (sym f ∙ in_least t V V' P W O i i (starts i i None None) S x o)))
  word_woke i {g} ic alone z low (WokeTo k c1) self S D R = let l : Edge t i k = (ic, c1.inside, c1.line) in passes i i k (starts i k (Some k) (Some (t.weight i k))) g l (inl (λ e. alone k (λ q. apart t weights i k l (sym q)) (sym e))) (z ∙ sym (none (V i).fragment.level low)) (sym z) self S D R refl refl refl (λ k. refl) refl refl
    where
      none : (n : ℕ) → (1 ≤ n → ⊥) → n ≡ 0
      none n h = elim (dec_le 1 n) [ yes p ↦ absurd (h p) | no p ↦ omega arith ]

module _ (t : Graph) (weights : Weights t) (n m : Lifted) (γ : Ghost) (T : Trust t n γ) where
  -- as everybody sees what node i does
  words : {i : ℕ} {inp : In} {g : Held} {os : List Send} (j : ℕ) (c : Act t n m i inp g os) (a : ℕ) → Words (turn c.does) (view n γ i) (view n γ j) (view n γ a) (view m (stepped (turn c.does) i (view n γ i) (view n γ j) γ) a)
  words {i} {inp} {g} {os} j c a = go (eqb_tells a i)
    where
      u : Turn
      u = turn c.does

      H : Ghost
      H = stepped u i (view n γ i) (view n γ j) γ

      go : ((eqb a i ≡ true) × (a ≡ i)) ⊎ ((eqb a i ≡ false) × (a ≡ i → ⊥)) → Words u (view n γ i) (view n γ j) (view n γ a) (view m H a)
      go (inl e) = subst (λ z. Words u (view n γ i) (view n γ j) (view n γ z) (view m H z)) (sym e.1) (subst (λ X. Words u (view n γ i) (view n γ j) (view n γ i) X) (sym (view_acted u i (view n γ j) γ n m g c.self)) (words_acted u g (view n γ i) (view n γ j)))
      go (inr e) = subst (λ X. Words u (view n γ i) (view n γ j) (view n γ a) X) (sym (view_else u i (view n γ i) (view n γ j) γ m a (n.held a) (c.others a e.1) e.1)) (words_else u (view n γ i) (view n γ j) (view n γ a))

  bear : {i : ℕ} {inp : In} {g : Held} {os : List Send} (j : ℕ) (c : Act t n m i inp g os) (a : ℕ) → (a ≡ i → ⊥) → Bears (view n γ a) (view m (stepped (turn c.does) i (view n γ i) (view n γ j) γ) a)
  bear {i} j c a d = subst (λ X. Bears (view n γ a) X) (sym (view_else (turn c.does) i (view n γ i) (view n γ j) γ m a (n.held a) (c.others a d) d)) (bears_else (turn c.does) (view n γ i) (view n γ j) (view n γ a))

  token_of : Outward t (view n γ) → Tokens t (view n γ) → (s : Event t n m) → Tokens t (view m (next γ s))
  token_of O F (act i woke g os c) = word_woke t weights (view n γ) (view m (next γ (act i woke g os c))) (λ a b. control (n.way a b)) (world t weights n m γ T) O F i c.ready.inside (λ a d. T.rest.lone i a c.ready.awake d) ((T.good.helds i i i).sleeps c.ready.awake).2 (low t weights n m γ T i c.ready.awake) c.does
      (view_acted (turn c.does) i (view n γ i) γ n m g c.self) (steps_woke t weights n m γ T c) (words i c) (bear i c)
  token_of O F (act i (got j x) g os c) = let k = taking t weights n m γ T j x c in word_got t weights (view n γ) (view m (next γ (act i (got j x) g os c))) (λ a b. control (n.way a b)) (world t weights n m γ T) O F i j k.edge leading k.knows k.mode c.does
      (view_acted (turn c.does) i (view n γ j) γ n m g c.self) (steps_got t weights n m γ T j x c) (words j c) (bear j c)
    where
      leading : (k : ℕ) → (n.held i).best ≡ Some k → Edge t i k × ((γ.own i).changed ≡ false → (view n γ i).held.level ≡ (view n γ i).fragment.level → Best i k (t.weight i k) (view n γ i) (view n γ k))
      leading k e = let l = (T.good.helds i k k).best e in (l, λ a b. (T.rest.knows i k l c.ready.awake).best a b e)
  token_of O F (off i j x front back c) = λ y w e. go y (F y w e)
    where
      go : (y : ℕ) → (s : ℕ) × ((g : ℕ) × Token t (view n γ) y s g) → (s : ℕ) × ((g : ℕ) × Token t (view m γ) y s g)
      go y (s, (g, k)) = (s, (g, record { sends = k.sends; gets = k.gets; edge = k.edge; label = k.label; up = k.up; changed = k.changed; current = (λ q. (c.helds s q).level) ∙ k.current; meets = k.meets }))

-- THE THEOREM: each step keeps it
pub tokens_kept : (t : Graph) (weights : Weights t) (n m : Lifted) (γ : Ghost) → Trust t n γ → Outward t (view n γ) → Tokens t (view n γ) → (s : Event t n m) → Tokens t (view m (next γ s))
tokens_kept t weights n m γ T O F s = token_of t weights n m γ T O F s
