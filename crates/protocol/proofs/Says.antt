-- What a turn says of the node that acts and of the one whose message it took.
use Rattle.std.proofs.Common.{◌≡◌, ℕ, ◌<◌, ◌≤◌, Bool, true, ◌⊎◌, List, ◌∷◌, ◌++◌, Some, refl, ap, ◌∙◌, subst, inl, inr, arith, None, Option}
use Rattle.message.specs.declared.messages.Message.{Message}
use Rattle.message.specs.declared.messages.Message.TheVariants.{Connect, Report, Change}
use Rattle.node.specs.declared.state.Status.TheVariants.{Find}
use Rattle.graph.specs.declared.mark.Mark.TheVariants.{Basic, Branch}
use Rattle.node.specs.Rules.{lighter}
use Rattle.graph.specs.Graph.{Graph, Edge, Weights}
use Rattle.protocol.proofs.Base.{Good}
use Rattle.protocol.proofs.Control.{control1, control}
use Rattle.protocol.proofs.Deed.{In, got, Deed, Alone, WokeTo, Absorbs, Merges, Begins, Searches-ask, Searches-report, Searches-wait, Accepts, Rejects, Crosses-ask, Crosses-report, Crosses-wait, Accepted-report, Accepted-wait, Rejected-ask, Rejected-report, Rejected-wait, Hears-report, Hears-wait, Decides-passes, Decides-joins, Halts, Rests, Changed-passes, Changed-joins}
use Rattle.protocol.proofs.Edges.{Edges, turned}
use Rattle.protocol.proofs.Frame.{OneNode, Lifted, Act, Event, unmoved, acting, node}
use Rattle.protocol.proofs.Ghost.{Turn, undecided, decided, Ghost, View, view, idle, absorb, merge, begin, report, decide, change, end, turn}
use Rattle.protocol.proofs.Heads.{head_absorb, head_merge, head_begin, head_turn, head_end, head_change}
use Rattle.protocol.proofs.Held.{Send, Held}
use Rattle.protocol.proofs.Mode.{tells, Mode, free, offered, offers, crossing, took, taken, merged, ahead, behind, core, told, above, below, Sane}

-- a connect under way from B: its edge is a branch there, and leads up
pub record Offering (x y : ℕ) (A B : View) : Type 0 where
  pub theirs : B.held.mark x ≡ Branch
  pub up_b : B.own.up ≡ Some x
  pub mine : (A.held.mark y ≡ Basic) ⊎ ((A.held.mark y ≡ Branch) × (A.own.up ≡ Some y))

head_offer : {x y w : ℕ} {A B : View} {p q : List Message} {l : ℕ} → Mode x y w A B p (Connect l ∷ q) → Offering x y A B
head_offer (free v) = absurd (grind arith)
head_offer (offered v) = grind arith
head_offer (offers v) = absurd (grind arith)
head_offer (crossing v) = grind arith
head_offer (took v) = absurd (grind arith)
head_offer (taken v) = grind arith
head_offer (merged v) = absurd (grind arith)
head_offer (ahead v) = absurd (grind arith)
head_offer (behind v) = absurd (grind arith)
head_offer (core v) = absurd (grind arith)
head_offer (tells v) = absurd (grind arith)
head_offer (told v) = absurd (grind arith)
head_offer (above v) = absurd (grind arith)
head_offer (below v) = absurd (grind arith)

-- a branch inside a fragment, whose ends are of one level
pub record Paired (x y : ℕ) (A B : View) : Type 0 where
  pub mine : A.held.mark y ≡ Branch
  pub theirs : B.held.mark x ≡ Branch
  pub same : A.own.label ≡ B.own.label
  pub levels : B.held.level ≡ A.held.level

head_pair : {x y w : ℕ} {A B : View} {p q : List Message} {r : Option ℕ} → Sane y A → A.held.parent ≡ Some y → (A.held.status ≡ Find → ⊥) → lighter A.held.best_weight r ≡ true → Mode x y w A B p (Report r ∷ q) → Paired x y A B
head_pair n a b c (free v) = absurd (grind arith)
head_pair n a b c (offered v) = absurd (grind arith)
head_pair n a b c (offers v) = absurd (grind arith)
head_pair n a b c (crossing v) = absurd (grind arith)
head_pair n a b c (took v) = absurd (grind arith)
head_pair n a b c (taken v) = absurd (grind arith)
head_pair n a b c (merged v) = absurd (grind arith)
head_pair n a b c (ahead v) = absurd (grind arith)
head_pair n a b c (behind v) = absurd (grind arith)
head_pair n a b c (core v) = grind arith
head_pair n a b c (tells v) = absurd (grind arith)
head_pair n a b c (told v) = absurd (grind arith)
head_pair n a b c (above v) = absurd (grind arith)
head_pair n a b c (below v) = absurd (grind arith)

head_passed : {x y w : ℕ} {A B : View} {p q : List Message} → Mode x y w A B p (Change ∷ q) → Paired x y A B
head_passed (free v) = absurd (grind arith)
head_passed (offered v) = absurd (grind arith)
head_passed (offers v) = absurd (grind arith)
head_passed (crossing v) = absurd (grind arith)
head_passed (took v) = absurd (grind arith)
head_passed (taken v) = absurd (grind arith)
head_passed (merged v) = absurd (grind arith)
head_passed (ahead v) = absurd (grind arith)
head_passed (behind v) = absurd (grind arith)
head_passed (core v) = absurd (grind arith)
head_passed (tells v) = absurd (grind arith)
head_passed (told v) = grind arith
head_passed (above v) = absurd (grind arith)
head_passed (below v) = absurd (grind arith)

lighter_finite : (z r : Option ℕ) → lighter z r ≡ true → (v : ℕ) × (z ≡ Some v)
lighter_finite None r e = absurd (grind arith)
lighter_finite (Some v) r e = (v, refl)

other_finite : (z : Option ℕ) → (z ≡ None → ⊥) → (v : ℕ) × (z ≡ Some v)
other_finite None e = absurd (e refl)
other_finite (Some v) e = (v, refl)

-- A takes the fragment of J into its own
pub record Absorbed (i j : ℕ) (A J : View) (g : Held) : Type 0 where
  pub level : g.level ≡ A.held.level
  pub mine : g.mark j ≡ Branch
  pub theirs : J.held.mark i ≡ Branch
  pub differ : A.own.label ≡ J.own.label → ⊥
  pub high : 1 ≤ A.held.level

-- the fragments of A and J become one, a level higher
pub record Merged (i j : ℕ) (A J : View) (g : Held) : Type 0 where
  pub level : g.level ≡ A.held.level
  pub mine : g.mark j ≡ Branch
  pub theirs : J.held.mark i ≡ Branch
  pub differ : A.own.label ≡ J.own.label → ⊥
  pub up_a : A.own.up ≡ Some j
  pub up_j : J.own.up ≡ Some i
  pub current : A.held.level ≡ A.fragment.level
  pub equal : J.fragment.level ≡ A.fragment.level

-- A decides for its fragment, over the core edge
pub record Chosen (w i j : ℕ) (A J : View) (g : Held) : Type 0 where
  pub level : g.level ≡ A.held.level
  pub mine : g.mark j ≡ Branch
  pub theirs : J.held.mark i ≡ Branch
  pub same : A.own.label ≡ J.own.label
  pub current : A.held.level ≡ A.fragment.level
  pub levels : J.held.level ≡ A.held.level
  pub name : A.fragment.name ≡ w
  pub v : ℕ
  pub finite : A.held.best_weight ≡ Some v

-- A passes the decision on, which came from J
pub record Passed (j : ℕ) (A J : View) (g : Held) : Type 0 where
  pub level : g.level ≡ A.held.level
  pub up : A.own.up ≡ Some j
  pub same : A.own.label ≡ J.own.label
  pub current : A.held.level ≡ A.fragment.level
  pub levels : J.held.level ≡ A.held.level
  pub v : ℕ
  pub least : A.fragment.least ≡ decided (Some v)

-- what a turn of A at a message from J says of both; g is what A then holds
pub data Says (t : Graph) (i j : ℕ) (A J : View) (g : Held) : Turn → Type 0 where
  says_idle : g.level ≡ A.held.level → Says t i j A J g idle
  says_absorb : Absorbed i j A J g → Says t i j A J g absorb
  says_merge : Merged i j A J g → Says t i j A J g (merge (t.weight i j))
  says_again : {w : ℕ} → g.level ≡ A.held.level → A.own.label ≡ J.own.label → Says t i j A J g (merge w)
  says_begin : {c r : Bool} → A.own.up ≡ Some j → A.held.level < A.fragment.level → Says t i j A J g (begin j c r)
  says_report : g.level ≡ A.held.level → Says t i j A J g report
  says_decide : {k : ℕ} → Chosen (t.weight i j) i j A J g → Says t i j A J g (decide i k)
  says_change : {k : ℕ} → Passed j A J g → Says t i j A J g (change i k)
  says_end : g.level ≡ A.held.level → (A.fragment.least ≡ undecided) ⊎ (A.fragment.least ≡ decided None) → Says t i j A J g end

rising : {a b c : ℕ} → a < b → b ≤ c → a < c
rising l h = omega arith

pub says : {t : Graph} {i j : ℕ} {A J : View} {m : Message} {g : Held} {os : List Send} {p : List Message} (q : List Message) → Sane j A → Sane i J → (A.own.label ≡ J.own.label → A.fragment ≡ J.fragment) →
    Mode i j (t.weight i j) A J p (control1 m ++ q) → (d : Deed t i A.held (got j m) g os) → Says t i j A J g (turn d)
says {t} {i} {j} {A} {J} q sa sj same e (Absorbs {l} c1) = let a = head_absorb c1 e in let o = head_offer e in says_absorb (record { level = refl; mine = grind arith; theirs = o.theirs; differ = a.differ; high = omega arith })
says {t} {i} {j} {A} {J} q sa sj same e (Merges {l} c1 c2) = let o = head_offer e in elim (head_merge c1 c2 e) [ inl a ↦ says_merge (record { level = refl; mine = grind arith; theirs = o.theirs; differ = a.differ; up_a = grind arith; up_j = o.up_b; current = a.current_a; equal = grind arith }) | inr u ↦ says_again refl u ]
says {t} {i} {j} {A} {J} q sa sj same e (Begins {l} {f} {s} c1) = let b = head_begin sj same e in says_begin b.up (rising b.rises b.top)
says {t} {i} {j} {A} {J} q sa sj same e (Searches-ask {l} {f} k c1) = let b = head_begin sj same e in says_begin b.up (rising b.rises b.top)
says {t} {i} {j} {A} {J} q sa sj same e (Searches-report {l} {f} c1 c2 c3) = let b = head_begin sj same e in says_begin b.up (rising b.rises b.top)
says {t} {i} {j} {A} {J} q sa sj same e (Searches-wait {l} {f} c1 c2) = let b = head_begin sj same e in says_begin b.up (rising b.rises b.top)
says {t} {i} {j} {A} {J} q sa sj same e (Accepts {l} {f} c1 c2) = says_idle refl
says {t} {i} {j} {A} {J} q sa sj same e (Rejects {l} {f} c1 c2 c3) = says_idle refl
says {t} {i} {j} {A} {J} q sa sj same e (Crosses-ask {l} {f} k c1 c2 c3 c4) = says_idle refl
says {t} {i} {j} {A} {J} q sa sj same e (Crosses-report {l} {f} c1 c2 c3 c4 c5 c6) = says_report refl
says {t} {i} {j} {A} {J} q sa sj same e (Crosses-wait {l} {f} c1 c2 c3 c4 c5) = says_idle refl
says {t} {i} {j} {A} {J} q sa sj same e (Accepted-report c1 c2) = says_report refl
says {t} {i} {j} {A} {J} q sa sj same e (Accepted-wait c1) = says_idle refl
says {t} {i} {j} {A} {J} q sa sj same e (Rejected-ask k c1) = says_idle refl
says {t} {i} {j} {A} {J} q sa sj same e (Rejected-report c1 c2 c3) = says_report refl
says {t} {i} {j} {A} {J} q sa sj same e (Rejected-wait c1 c2) = says_idle refl
says {t} {i} {j} {A} {J} q sa sj same e (Hears-report {w} c1 c2 c3) = says_report refl
says {t} {i} {j} {A} {J} q sa sj same e (Hears-wait {w} c1 c2) = says_idle refl
says {t} {i} {j} {A} {J} q sa sj same e (Decides-passes {w} k c1 c2 c3 c4 c5) = let a = head_turn sa c1 c2 c3 e in let o = head_pair sa c1 c2 c3 e in let f = lighter_finite A.held.best_weight w c3 in says_decide (record { level = refl; mine = grind arith; theirs = o.theirs; same = o.same; current = a.current; levels = o.levels; name = a.name; v = f.0; finite = f.1 })
says {t} {i} {j} {A} {J} q sa sj same e (Decides-joins {w} k c1 c2 c3 c4 c5) = let a = head_turn sa c1 c2 c3 e in let o = head_pair sa c1 c2 c3 e in let f = lighter_finite A.held.best_weight w c3 in says_decide (record { level = refl; mine = grind arith; theirs = o.theirs; same = o.same; current = a.current; levels = o.levels; name = a.name; v = f.0; finite = f.1 })
says {t} {i} {j} {A} {J} q sa sj same e (Halts {w} c1 c2 c3 c4) = let a = head_end sa c1 c2 c3 c4 e in says_end refl a.least
says {t} {i} {j} {A} {J} q sa sj same e (Rests {w} c1 c2 c3 c4) = says_idle refl
says {t} {i} {j} {A} {J} q sa sj same e (Changed-passes k c1 c2) = let a = head_change same e in let o = head_passed e in let f = other_finite A.held.best_weight a.finite in says_change (record { level = refl; up = a.up; same = o.same; current = a.current; levels = o.levels; v = f.0; least = a.least ∙ ap decided f.1 })
says {t} {i} {j} {A} {J} q sa sj same e (Changed-joins k c1 c2) = let a = head_change same e in let o = head_passed e in let f = other_finite A.held.best_weight a.finite in says_change (record { level = refl; up = a.up; same = o.same; current = a.current; levels = o.levels; v = f.0; least = a.least ∙ ap decided f.1 })

-- a branch stays a branch
pub branch_kept : {t : Graph} {i : ℕ} {h g : Held} {inp : In} {os : List Send} → Deed t i h inp g os → (x : ℕ) → h.mark x ≡ Branch → g.mark x ≡ Branch
branch_kept (Alone c1) x e = grind arith
branch_kept (WokeTo k c1) x e = grind arith
branch_kept (Absorbs {j} {l} c1) x e = grind arith
branch_kept (Merges {j} {l} c1 c2) x e = grind arith
branch_kept (Begins {j} {l} {f} {s} c1) x e = grind arith
branch_kept (Searches-ask {j} {l} {f} k c1) x e = grind arith
branch_kept (Searches-report {j} {l} {f} c1 c2 c3) x e = grind arith
branch_kept (Searches-wait {j} {l} {f} c1 c2) x e = grind arith
branch_kept (Accepts {j} {l} {f} c1 c2) x e = grind arith
branch_kept (Rejects {j} {l} {f} c1 c2 c3) x e = grind arith
branch_kept (Crosses-ask {j} {l} {f} k c1 c2 c3 c4) x e = grind arith
branch_kept (Crosses-report {j} {l} {f} c1 c2 c3 c4 c5 c6) x e = grind arith
branch_kept (Crosses-wait {j} {l} {f} c1 c2 c3 c4 c5) x e = grind arith
branch_kept (Accepted-report {j} c1 c2) x e = grind arith
branch_kept (Accepted-wait {j} c1) x e = grind arith
branch_kept (Rejected-ask {j} k c1) x e = grind arith
branch_kept (Rejected-report {j} c1 c2 c3) x e = grind arith
branch_kept (Rejected-wait {j} c1 c2) x e = grind arith
branch_kept (Hears-report {j} {w} c1 c2 c3) x e = grind arith
branch_kept (Hears-wait {j} {w} c1 c2) x e = grind arith
branch_kept (Decides-passes {j} {w} k c1 c2 c3 c4 c5) x e = grind arith
branch_kept (Decides-joins {j} {w} k c1 c2 c3 c4 c5) x e = grind arith
branch_kept (Halts {j} {w} c1 c2 c3 c4) x e = grind arith
branch_kept (Rests {j} {w} c1 c2 c3 c4) x e = grind arith
branch_kept (Changed-passes {j} k c1 c2) x e = grind arith
branch_kept (Changed-joins {j} k c1 c2) x e = grind arith

pub branches : {t : Graph} {n m : Lifted} → Event t n m → (a x : ℕ) → (n.held a).mark x ≡ Branch → (m.held a).mark x ≡ Branch
branches v a x e = go (node v a) e
  where
    go : {t : Graph} {n : Lifted} {h g : Held} → OneNode t n a h g → h.mark x ≡ Branch → g.mark x ≡ Branch
    go unmoved e = e
    go (acting inp os r d) e = branch_kept d x e

module _ (t : Graph) (weights : Weights t) (n m : Lifted) (γ : Ghost) (good : Good t n) (sane : (a y : ℕ) → Edge t a y → Sane y (view n γ a)) (E : Edges t n γ) where
  -- a message comes over an edge
  pub comes : {i j : ℕ} {x : Message} {g : Held} {os : List Send} → Act t n m i (got j x) g os → Edge t i j
  comes {i} {j} {x} c = turned t weights j i (good.queues j i x (rw c.ready.source.1 (inl refl)))

  -- what a step in which i takes a message from j says of both
  pub said : {i j : ℕ} {x : Message} {g : Held} {os : List Send} (c : Act t n m i (got j x) g os) → Says t i j (view n γ i) (view n γ j) g (turn c.does)
  said {i} {j} {x} c = says (control c.ready.source.0) (sane i j (comes c)) (sane j i (turned t weights i j (comes c))) (λ e. ap γ.fragment e) ej c.does
    where
      ej : Mode i j (t.weight i j) (view n γ i) (view n γ j) (control (n.way i j)) (control1 x ++ control c.ready.source.0)
      ej = subst (λ q. Mode i j (t.weight i j) (view n γ i) (view n γ j) (control (n.way i j)) (control q)) c.ready.source.1 (E i j (comes c))
