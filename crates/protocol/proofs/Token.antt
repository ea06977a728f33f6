-- Once a fragment has found its lightest edge out, the word of it is under way: over the edge that it names, from a node that has changed.
use Rattle.std.proofs.Common.{◌≡◌, ℕ, ◌≤◌, Bool, true, false, cond, eqb, ◌⊎◌, List, [], ◌∷◌, Some, sym, refl, ◌∙◌, subst, inl, inr, arith}
use Rattle.std.proofs.lemmas.Bool.Decides.{eqb_tells}
use Rattle.message.specs.declared.messages.Message.{Message}
use Rattle.message.specs.declared.messages.Message.TheVariants.{Connect, Change}
use Rattle.graph.specs.Graph.{Graph, Edge}
use Rattle.protocol.proofs.Chain.{bool}
use Rattle.protocol.proofs.Ghost.{Turn, undecided, decided, View, idle, starts, absorb, merge, begin, report, decide, change, end, moves, fragments, inside, follow, acted}
use Rattle.protocol.proofs.Held.{Held}
use Rattle.protocol.proofs.LeastOutgoing.{Steps, Outward, Alike, not_both, in_first, cond-true, cond_false, label_in, not_in, eqb_not, outside, World}
use Rattle.protocol.proofs.Mode.{tells, Mode, free, offered, offers, crossing, took, taken, merged, ahead, behind, core, told, above, below, Sane}

-- of x's fragment: s has sent the word on to g, which is of another fragment or still looks up to s
pub record Token (t : Graph) (V : ℕ → View) (x s g : ℕ) : Type 0 where
  pub sends : (V x).fragment.sends ≡ s
  pub gets : (V x).fragment.gets ≡ g
  pub edge : Edge t s g
  pub label : (V s).own.label ≡ (V x).own.label
  pub up : (V s).own.up ≡ Some g
  pub changed : (V s).own.changed ≡ true
  pub current : (V s).held.level ≡ (V s).fragment.level
  pub meets : ((V s).own.label ≡ (V g).own.label → ⊥) ⊎ ((V g).own.up ≡ Some s)

-- THE INVARIANT
abbrev pub Tokens : Graph → (ℕ → View) → Type 0
Tokens t V = (x w : ℕ) → (V x).fragment.least ≡ decided (Some w) → (s : ℕ) × ((g : ℕ) × Token t V x s g)

-- what is under way from s to g, without questions and answers
pub token_is : {s g w : ℕ} {A B : View} {p q : List Message} → Sane g A → A.own.up ≡ Some g → A.own.changed ≡ true → (A.fragment.least ≡ undecided → ⊥) → (A.own.label ≡ B.own.label → A.fragment ≡ B.fragment) → (A.own.label ≡ B.own.label → ⊥) ⊎ (B.own.up ≡ Some s) → Mode s g w A B p q → (p ≡ Change ∷ []) ⊎ ((p ≡ Connect A.held.level ∷ []) × (A.own.label ≡ B.own.label → ⊥))
token_is n u c d same m (free v) = absurd (grind arith)
token_is n u c d same m (offered v) = absurd (grind arith)
token_is n u c d same m (offers v) = inr (v.back, λ e. v.differ (sym e))
token_is n u c d same m (crossing v) = inr (v.out, v.differ)
token_is n u c d same m (took v) = absurd (grind arith)
token_is n u c d same m (taken v) = absurd (grind arith)
token_is n u c d same m (merged v) = absurd (grind arith)
token_is n u c d same m (ahead v) = absurd (grind arith)
token_is n u c d same m (behind v) = absurd (grind arith)
token_is n u c d same m (core v) = absurd (grind arith)
token_is n u c d same m (tells v) = inl v.out
token_is n u c d same m (told v) = absurd (grind arith)
token_is n u c d same m (above v) = absurd (grind arith)
token_is n u c d same m (below v) = absurd (grind arith)

-- it leads to a node of no lower level, if out of the fragment
token_levels : {s g w : ℕ} {A B : View} {p q : List Message} → Sane g A → A.own.up ≡ Some g → (A.own.label ≡ B.own.label → ⊥) → Mode s g w A B p q → A.held.level ≤ B.held.level
token_levels n u d (free v) = absurd (grind arith)
token_levels n u d (offered v) = absurd (grind arith)
token_levels n u d (offers v) = v.levels
token_levels n u d (crossing v) = grind arith
token_levels n u d (took v) = absurd (grind arith)
token_levels n u d (taken v) = absurd (grind arith)
token_levels n u d (merged v) = absurd (grind arith)
token_levels n u d (ahead v) = absurd (grind arith)
token_levels n u d (behind v) = absurd (grind arith)
token_levels n u d (core v) = absurd (grind arith)
token_levels n u d (tells v) = absurd (grind arith)
token_levels n u d (told v) = absurd (grind arith)
token_levels n u d (above v) = absurd (grind arith)
token_levels n u d (below v) = absurd (grind arith)

-- who has changed stays so, at its level, and looks up to the same
pub record Bears (A A' : View) : Type 0 where
  pub up : A'.own.up ≡ A.own.up
  pub bears : A.own.changed ≡ true → A.held.level ≡ A.fragment.level → (A'.own.changed ≡ true) × (A'.held.level ≡ A.held.level)

-- over which edge the word is under way
pub record Words (u : Turn) (C J A A' : View) : Type 0 where
  pub sends : A'.fragment.sends ≡ cond (inside u C J A.own.label) (fragments u C J).sends A.fragment.sends
  pub gets : A'.fragment.gets ≡ cond (inside u C J A.own.label) (fragments u C J).gets A.fragment.gets

pub words_else : (u : Turn) (C J A : View) → Words u C J A (follow u C J A)
words_else u C J A = record { sends = refl; gets = refl }

pub words_acted : (u : Turn) (g : Held) (C J : View) → Words u C J C (acted u g C J)
words_acted idle g C J = record { sends = refl; gets = refl }
words_acted (starts me b k z) g C J = record { sends = refl; gets = refl }
words_acted absorb g C J = record { sends = refl; gets = refl }
words_acted (merge w) g C J = record { sends = refl; gets = refl }
words_acted (begin j c r) g C J = record { sends = refl; gets = refl }
words_acted report g C J = record { sends = refl; gets = refl }
words_acted (decide me k) g C J = record { sends = refl; gets = refl }
words_acted (change me k) g C J = record { sends = refl; gets = refl }
words_acted end g C J = record { sends = refl; gets = refl }

pub bears_else : (u : Turn) (C J A : View) → Bears A (follow u C J A)
bears_else u C J A = record { up = refl; bears = λ c l. (c, refl) }

carry : {t : Graph} {V V' : ℕ → View} {x s g : ℕ} (y : ℕ) → Token t V x s g → (V' y).fragment.sends ≡ (V x).fragment.sends → (V' y).fragment.gets ≡ (V x).fragment.gets → (V' s).own.label ≡ (V' y).own.label → Bears (V s) (V' s) → (V' s).fragment.level ≡ (V s).fragment.level → ((V' s).own.label ≡ (V' g).own.label → ⊥) ⊎ ((V' g).own.up ≡ Some s) → Token t V' y s g
carry y k a b l r f m = let c = r.bears k.changed k.current in
    record { sends = a ∙ k.sends; gets = b ∙ k.gets; edge = k.edge; label = l; up = r.up ∙ k.up; changed = c.0; current = c.1 ∙ k.current ∙ sym f; meets = m }

moved_not : (m : Bool) (c g s : ℕ) → (s ≡ g → ⊥) → (s ≡ c → ⊥) → s ≡ cond m c g → ⊥
moved_not true c g s a b e = b e
moved_not false c g s a b e = a e

module _ (t : Graph) (V V' : ℕ → View) (P : ℕ → ℕ → List Message) (W : World t V P) (O : Outward t V) (F : Tokens t V) (i j : ℕ) (u : Turn)
    (S : (a : ℕ) → Steps u (V i) (V j) (V a) (V' a)) (D : (a : ℕ) → Words u (V i) (V j) (V a) (V' a)) (R : (a : ℕ) → (a ≡ i → ⊥) → Bears (V a) (V' a)) where
  abbrev In : ℕ → Bool
  In a = inside u (V i) (V j) (V a).own.label

  elsewhere : (a : ℕ) → In a ≡ false → a ≡ i → ⊥
  elsewhere a o e = not_both o (subst (λ x. In x ≡ true) (sym e) (in_first (V i).own.label (V i).own.label (moves u (V i) (V j) (V i).own.label) refl))

  -- a fragment that the turn does not concern keeps its token
  spared_token : (x w : ℕ) → In x ≡ false → (V' x).fragment.least ≡ decided (Some w) → (s : ℕ) × ((g : ℕ) × Token t V' x s g)
  spared_token x w o e = go (F x w (sym here.least ∙ e))
    where
      here : Alike (V x) (V' x)
      here = outside u (V i) (V j) (V x) (V' x) o (S x)

      go : (s : ℕ) × ((g : ℕ) × Token t V x s g) → (s : ℕ) × ((g : ℕ) × Token t V' x s g)
      go (s, (g, k)) = (s, (g, carry x k ((D x).sends ∙ cond_false (In x) (fragments u (V i) (V j)).sends (V x).fragment.sends o) ((D x).gets ∙ cond_false (In x) (fragments u (V i) (V j)).gets (V x).fragment.gets o) (still.label ∙ k.label ∙ sym here.label) (R s (elsewhere s os)) still.level (met (eqb_tells (V s).own.label (V g).own.label))))
        where
          os : In s ≡ false
          os = subst (λ l. inside u (V i) (V j) l ≡ false) (sym k.label) o

          still : Alike (V s) (V' s)
          still = outside u (V i) (V j) (V s) (V' s) os (S s)

          met : ((eqb (V s).own.label (V g).own.label ≡ true) × ((V s).own.label ≡ (V g).own.label)) ⊎ ((eqb (V s).own.label (V g).own.label ≡ false) × ((V s).own.label ≡ (V g).own.label → ⊥)) → ((V' s).own.label ≡ (V' g).own.label → ⊥) ⊎ ((V' g).own.up ≡ Some s)
          met (inl a) = inr ((R g (elsewhere g (subst (λ l. inside u (V i) (V j) l ≡ false) a.1 os))).up ∙ elim k.meets [ inl b ↦ absurd (b a.1) | inr b ↦ b ])
          met (inr a) = inl (λ q. moved_not (moves u (V i) (V j) (V g).own.label) (V i).own.label (V g).own.label (V s).own.label a.1 (eqb_not (V s).own.label (V i).own.label (not_in (eqb (V s).own.label (V i).own.label) (moves u (V i) (V j) (V s).own.label) os).0) (sym still.label ∙ q ∙ (S g).label))

  -- the fragment of who acts keeps its token, if the turn leaves where it is
  pub kept_token : Bears (V i) (V' i) → (fragments u (V i) (V j)).sends ≡ (V i).fragment.sends → (fragments u (V i) (V j)).gets ≡ (V i).fragment.gets → (fragments u (V i) (V j)).level ≡ (V i).fragment.level → (fragments u (V i) (V j)).least ≡ (V i).fragment.least →
      ((s g : ℕ) → (V s).own.label ≡ (V i).own.label → (V s).held.level ≡ (V s).fragment.level → ((V s).own.label ≡ (V g).own.label → ⊥) → (V s).held.level ≤ (V g).held.level → Edge t s g → moves u (V i) (V j) (V g).own.label ≡ false) →
      (x w : ℕ) → In x ≡ true → (V' x).fragment.least ≡ decided (Some w) → (s : ℕ) × ((g : ℕ) × Token t V' x s g)
  kept_token B fs fg fl fe far x w o e = go (F i w (sym fe ∙ sym ((S x).least ∙ cond-true (In x) (fragments u (V i) (V j)).least (V x).fragment.least o) ∙ e))
    where
      go : (s : ℕ) × ((g : ℕ) × Token t V i s g) → (s : ℕ) × ((g : ℕ) × Token t V' x s g)
      go (s, (g, k)) = (s, (g, carry x k ((D x).sends ∙ cond-true (In x) (fragments u (V i) (V j)).sends (V x).fragment.sends o ∙ fs) ((D x).gets ∙ cond-true (In x) (fragments u (V i) (V j)).gets (V x).fragment.gets o ∙ fg) (ls ∙ sym lx) (bear s) ((S s).level ∙ cond-true (In s) (fragments u (V i) (V j)).level (V s).fragment.level os ∙ fl ∙ sym (λ q. (W.same s i k.label q).level)) (met (eqb_tells (V s).own.label (V g).own.label))))
        where
          os : In s ≡ true
          os = subst (λ l. inside u (V i) (V j) l ≡ true) (sym k.label) (in_first (V i).own.label (V i).own.label (moves u (V i) (V j) (V i).own.label) refl)

          ls : (V' s).own.label ≡ (V i).own.label
          ls = (S s).label ∙ label_in (moves u (V i) (V j) (V s).own.label) (V s).own.label (V i).own.label os

          lx : (V' x).own.label ≡ (V i).own.label
          lx = (S x).label ∙ label_in (moves u (V i) (V j) (V x).own.label) (V x).own.label (V i).own.label o

          bear : (a : ℕ) → Bears (V a) (V' a)
          bear a = elim (eqb_tells a i) [ inl q ↦ subst (λ z. Bears (V z) (V' z)) (sym q.1) B | inr q ↦ R a q.1 ]

          met : ((eqb (V s).own.label (V g).own.label ≡ true) × ((V s).own.label ≡ (V g).own.label)) ⊎ ((eqb (V s).own.label (V g).own.label ≡ false) × ((V s).own.label ≡ (V g).own.label → ⊥)) → ((V' s).own.label ≡ (V' g).own.label → ⊥) ⊎ ((V' g).own.up ≡ Some s)
          met (inl a) = inr ((bear g).up ∙ elim k.meets [ inl b ↦ absurd (b a.1) | inr b ↦ b ])
          met (inr a) = let f = far s g k.label k.current a.1 (token_levels (W.sane s g k.edge) k.up a.1 (W.edges s g k.edge)) k.edge in
              inl (λ q. a.1 (k.label ∙ sym ls ∙ q ∙ (S g).label ∙ cond_false (moves u (V i) (V j) (V g).own.label) (V i).own.label (V g).own.label f))

  -- who acts has sent the word on to g
  pub new_token : (g : ℕ) → Edge t i g → (g ≡ i → ⊥) → (fragments u (V i) (V j)).sends ≡ i → (fragments u (V i) (V j)).gets ≡ g → (fragments u (V i) (V j)).level ≡ (V i).fragment.level → (V' i).own.up ≡ Some g → (V' i).own.changed ≡ true → (V' i).held.level ≡ (V i).fragment.level → ((l : ℕ) → moves u (V i) (V j) l ≡ false) →
      ((V i).own.label ≡ (V g).own.label → ⊥) ⊎ ((V g).own.up ≡ Some i) → (x : ℕ) → In x ≡ true → Token t V' x i g
  new_token g l ng fs fg fl up ch cu mv m x o = record { sends = (D x).sends ∙ cond-true (In x) (fragments u (V i) (V j)).sends (V x).fragment.sends o ∙ fs; gets = (D x).gets ∙ cond-true (In x) (fragments u (V i) (V j)).gets (V x).fragment.gets o ∙ fg; edge = l; label = li ∙ sym ((S x).label ∙ label_in (moves u (V i) (V j) (V x).own.label) (V x).own.label (V i).own.label o); up = up; changed = ch; current = cu ∙ sym ((S i).level ∙ cond-true (In i) (fragments u (V i) (V j)).level (V i).fragment.level oi ∙ fl); meets = met m }
    where
      oi : In i ≡ true
      oi = in_first (V i).own.label (V i).own.label (moves u (V i) (V j) (V i).own.label) refl

      li : (V' i).own.label ≡ (V i).own.label
      li = (S i).label ∙ label_in (moves u (V i) (V j) (V i).own.label) (V i).own.label (V i).own.label oi

      met : ((V i).own.label ≡ (V g).own.label → ⊥) ⊎ ((V g).own.up ≡ Some i) → ((V' i).own.label ≡ (V' g).own.label → ⊥) ⊎ ((V' g).own.up ≡ Some i)
      met (inl a) = inl (λ q. a (sym li ∙ q ∙ (S g).label ∙ cond_false (moves u (V i) (V j) (V g).own.label) (V i).own.label (V g).own.label (mv (V g).own.label)))
      met (inr a) = inr ((R g ng).up ∙ a)

  -- both together
  pub tokens_by : ((x w : ℕ) → In x ≡ true → (V' x).fragment.least ≡ decided (Some w) → (s : ℕ) × ((g : ℕ) × Token t V' x s g)) → Tokens t V'
  tokens_by f x w e = elim (bool (In x)) [ inl o ↦ f x w o e | inr o ↦ spared_token x w o e ]
