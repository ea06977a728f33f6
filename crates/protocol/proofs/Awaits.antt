-- Whom a node that seeks waits for, and what a step of the node itself does to that.
use Rattle.std.proofs.Common.{◌≡◌, ℕ, zero, suc, ◌+◌, ◌-◌, ◌<◌, ◌≤◌, Bool, true, false, cond, not, ◌&&◌, eqb, ◌⊎◌, List, [], ◌∷◌, ◌++◌, Some, None, Option, sym, refl, ap, ◌∙◌, inl, inr, append-nil, arith}
use Rattle.std.proofs.lemmas.Bool.Decides.{eqb_tells}
use Rattle.message.specs.declared.messages.Message.{Message}
use Rattle.message.specs.declared.messages.Message.TheVariants.{Connect, Initiate, Accept, Reject, Report}
use Rattle.message.specs.declared.messages.Phase.{Phase}
use Rattle.node.specs.declared.state.Status.{Status}
use Rattle.node.specs.declared.state.Status.TheVariants.{Sleeping, Find, Found}
use Rattle.graph.specs.declared.mark.Mark.{Mark}
use Rattle.graph.specs.declared.mark.Mark.TheVariants.{Basic, Branch, Rejected}
use Rattle.node.specs.Rules.{is_branch, is_find, phase_of, lighter}
use Rattle.graph.specs.Graph.{Graph}
use Rattle.protocol.proofs.Chain.{calls_more, down_low}
use Rattle.protocol.proofs.Control.{control1, control, control-++}
use Rattle.protocol.proofs.Deed.{got, one, Deed, Absorbs, Merges, Begins, Searches-ask, Searches-report, Searches-wait, Accepts, Rejects, Crosses-ask, Crosses-report, Crosses-wait, Accepted-report, Accepted-wait, Rejected-ask, Rejected-report, Rejected-wait, Hears-report, Hears-wait, Decides-passes, Decides-joins, Halts, Rests, Changed-passes, Changed-joins}
use Rattle.protocol.proofs.Deeds.{to_self, to_other, test_none, Knows, Suits}
use Rattle.protocol.proofs.Outs.{out_to, out_to-++, out_to_onward}
use Rattle.protocol.proofs.Ghost.{View}
use Rattle.protocol.proofs.Heads.{head_begin, head_change, head_hears}
use Rattle.protocol.proofs.Held.{Send, Held, marking, rejecting, testing_now, counting, hearing, bettering, branches_but, joining, onward}
use Rattle.protocol.proofs.Mode.{tells, calls, Child, Mode, free, offered, offers, crossing, took, taken, merged, ahead, behind, core, told, above, below, Sane}
use Rattle.protocol.proofs.Wait.{full, waited}
use Rattle.message.specs.declared.messages.Phase.TheVariants as phase

-- y is the node's parent
abbrev pub is_parent : Option ℕ → ℕ → Bool
is_parent None y = false
is_parent (Some k) y = eqb k y

-- a node that holds h waits for y, of status S: a branch, not the parent, and waited for (p is under way to y, q from it)
abbrev pub awaits : ℕ → Held → Status → List Message → List Message → Bool
awaits y h S p q = is_branch (h.mark y) && (not (is_parent h.parent y) && waited p q S)

-- a node that holds h has heard all that y, below it, has to say: k is what y holds, e whether it has reported
pub record HeardFrom (h k : Held) (e : Bool) (p q : List Message) : Type 0 where
  pub out : p ≡ []
  pub back : q ≡ []
  pub level : k.level ≡ h.level
  pub name : k.name ≡ h.name
  pub reported : e ≡ true
  pub best : lighter k.best_weight h.best_weight ≡ false

-- who seeks has heard every branch that it does not wait for
abbrev pub Hears : ℕ → Held → Held → Bool → List Message → List Message → Type 0
Hears y h k e p q = h.status ≡ Find → h.mark y ≡ Branch → (h.parent ≡ Some y → ⊥) → waited p q k.status ≡ false → HeardFrom h k e p q

parent_is : (w : Option ℕ) (y : ℕ) → is_parent w y ≡ true → w ≡ Some y
parent_is None y e = grind arith
parent_is (Some k) y e = ap Some (grind arith)

parent_not : (w : Option ℕ) (y : ℕ) → (w ≡ Some y → ⊥) → is_parent w y ≡ false
parent_not w y f = go (is_parent w y) refl
  where
    go : (b : Bool) → is_parent w y ≡ b → is_parent w y ≡ false
    go true u = absurd (f (parent_is w y u))
    go false u = u

parent_here : (w : Option ℕ) (y : ℕ) → w ≡ Some y → is_parent w y ≡ true
parent_here w y e = rw e (grind arith)

pub branch_is : (m : Mark) → is_branch m ≡ true → m ≡ Branch
branch_is Basic e = grind arith
branch_is Branch e = refl
branch_is Rejected e = grind arith

pub branch_as : (m k : Mark) → is_branch m ≡ is_branch k → m ≡ Branch → k ≡ Branch
branch_as m k e u = branch_is k (sym e ∙ ap is_branch u)

pub awaits_basic : (y : ℕ) (h : Held) (S : Status) (p q : List Message) → h.mark y ≡ Basic → awaits y h S p q ≡ false
awaits_basic y h S p q e = rw e

pub awaits_parent : (y : ℕ) (h : Held) (S : Status) (p q : List Message) → h.parent ≡ Some y → awaits y h S p q ≡ false
awaits_parent y h S p q e = let u = parent_here h.parent y e in grind arith

pub awaits_here : (y : ℕ) (h : Held) (S : Status) (p q : List Message) → h.mark y ≡ Branch → (h.parent ≡ Some y → ⊥) → awaits y h S p q ≡ waited p q S
awaits_here y h S p q e f = let u = parent_not h.parent y f in rw (e, u)

-- only what waited says of a branch below matters
pub awaits_same : (y : ℕ) (h : Held) (S S' : Status) (p q p' q' : List Message) → (h.mark y ≡ Branch → (h.parent ≡ Some y → ⊥) → waited p q S ≡ waited p' q' S') → awaits y h S p q ≡ awaits y h S' p' q'
awaits_same y h S S' p q p' q' f = go (is_branch (h.mark y)) refl (is_parent h.parent y) refl
  where
    go : (b : Bool) → is_branch (h.mark y) ≡ b → (c : Bool) → is_parent h.parent y ≡ c → awaits y h S p q ≡ awaits y h S' p' q'
    go false u c v = rw u
    go true u true v = rw (u, v)
    go true u false v = rw (u, v) (f (branch_is (h.mark y) u) (λ e. let z = parent_here h.parent y e in grind arith))

pub awaits_keeps : (y : ℕ) (h g : Held) (S : Status) (p q p' q' : List Message) → is_branch (g.mark y) ≡ is_branch (h.mark y) → g.parent ≡ h.parent → p' ≡ p → q' ≡ q → awaits y h S p q ≡ awaits y g S p' q'
awaits_keeps y h g S p q p' q' a b c d = rw (a, b, c, d)

-- what a node leaves as it is that seeks before and after it took a message from j
pub record SeeksOn (h : Held) (j : ℕ) (g : Held) (os : List Send) : Type 0 where
  pub seeks : h.status ≡ Find
  pub goes : g.status ≡ Find
  pub parent : g.parent ≡ h.parent
  pub level : g.level ≡ h.level
  pub name : g.name ≡ h.name
  pub best : (z : Option ℕ) → lighter z h.best_weight ≡ false → lighter z g.best_weight ≡ false
  pub mark : (y : ℕ) → (y ≡ j → ⊥) → is_branch (g.mark y) ≡ is_branch (h.mark y)
  pub silent : (y : ℕ) → (y ≡ j → ⊥) → control (out_to y os) ≡ []

-- what a step does to whom the node waits for: it does not seek then; or as before; or one more; or one less; or it joins a search
pub data Waits (t : Graph) (j : ℕ) (h k : Held) (e : Bool) (m : Message) (p q : List Message) (g : Held) (os : List Send) : Type 0 where
  rests : (g.status ≡ Find → ⊥) → g.find_count ≡ 0 → Waits t j h k e m p q g os
  keeps : SeeksOn h j g os → g.find_count ≡ h.find_count → control1 m ≡ [] → is_branch (g.mark j) ≡ is_branch (h.mark j) → control (out_to j os) ≡ [] → Waits t j h k e m p q g os
  adds : SeeksOn h j g os → g.find_count ≡ h.find_count + 1 → h.mark j ≡ Basic → g.mark j ≡ Branch → (g.parent ≡ Some j → ⊥) → calls (p ++ control (out_to j os)) ≡ true → Waits t j h k e m p q g os
  hears : SeeksOn h j g os → g.find_count ≡ h.find_count - 1 → h.mark j ≡ Branch → g.mark j ≡ Branch → (h.parent ≡ Some j → ⊥) → full (control1 m ++ q) ≡ true → control (out_to j os) ≡ [] → HeardFrom g k e p q → (k.status ≡ Find → ⊥) → Waits t j h k e m p q g os
  joins : g.status ≡ Find → g.parent ≡ Some j → g.find_count ≡ branches_but g j t.count → ((y : ℕ) → y < t.count → (y ≡ j → ⊥) → g.mark y ≡ Branch → (r : List Message) → calls (r ++ control (out_to y os)) ≡ true) → Waits t j h k e m p q g os

-- the branches below a node that seeks are its children

pub below_seeker : {x y w : ℕ} {A B : View} {p q : List Message} → Sane y A → A.held.status ≡ Find → A.held.mark y ≡ Branch → (A.held.parent ≡ Some y → ⊥) → Mode x y w A B p q → Child x y w A B p q
below_seeker s f b n (free v) = absurd (grind arith)
below_seeker s f b n (offered v) = absurd (grind arith)
below_seeker s f b n (offers v) = absurd (grind arith)
below_seeker s f b n (crossing v) = absurd (grind arith)
below_seeker s f b n (took v) = absurd (grind arith)
below_seeker s f b n (taken v) = absurd (grind arith)
below_seeker s f b n (merged v) = absurd (grind arith)
below_seeker s f b n (ahead v) = absurd (grind arith)
below_seeker s f b n (behind v) = absurd (grind arith)
below_seeker s f b n (core v) = absurd (grind arith)
below_seeker s f b n (tells v) = absurd (grind arith)
below_seeker s f b n (told v) = absurd (grind arith)
below_seeker s f b n (above v) = v
below_seeker s f b n (below v) = absurd (grind arith)

-- a connect that is absorbed came over a basic edge; a node that seeks merges with nobody; a report that is not the parent's came from a child
from_basic : {x y w l : ℕ} {A B : View} {p q : List Message} → l < A.held.level → Mode x y w A B p (Connect l ∷ q) → A.held.mark y ≡ Basic
from_basic c (free v) = absurd (grind arith)
from_basic c (offered v) = v.mark_a
from_basic c (offers v) = absurd (grind arith)
from_basic c (crossing v) = absurd (grind arith)
from_basic c (took v) = absurd (grind arith)
from_basic c (taken v) = absurd (grind arith)
from_basic c (merged v) = absurd (grind arith)
from_basic c (ahead v) = absurd (grind arith)
from_basic c (behind v) = absurd (grind arith)
from_basic c (core v) = absurd (grind arith)
from_basic c (tells v) = absurd (grind arith)
from_basic c (told v) = absurd (grind arith)
from_basic c (above v) = absurd (grind arith)
from_basic c (below v) = absurd (grind arith)

no_merge : {x y w l : ℕ} {A B : View} {p q : List Message} → Sane y A → A.held.status ≡ Find → A.held.level ≤ l → (A.held.mark y ≡ Basic → ⊥) → Mode x y w A B p (Connect l ∷ q) → ⊥
no_merge s f c d (free v) = grind arith
no_merge s f c d (offered v) = grind arith
no_merge s f c d (offers v) = grind arith
no_merge s f c d (crossing v) = grind arith
no_merge s f c d (took v) = grind arith
no_merge s f c d (taken v) = grind arith
no_merge s f c d (merged v) = grind arith
no_merge s f c d (ahead v) = grind arith
no_merge s f c d (behind v) = grind arith
no_merge s f c d (core v) = grind arith
no_merge s f c d (tells v) = grind arith
no_merge s f c d (told v) = grind arith
no_merge s f c d (above v) = grind arith
no_merge s f c d (below v) = grind arith

pub from_child : {x y w : ℕ} {A B : View} {p q : List Message} {r : Option ℕ} → (A.held.parent ≡ Some y → ⊥) → Mode x y w A B p (Report r ∷ q) → Child x y w A B p (Report r ∷ q)
from_child a (free v) = absurd (grind arith)
from_child a (offered v) = absurd (grind arith)
from_child a (offers v) = absurd (grind arith)
from_child a (crossing v) = absurd (grind arith)
from_child a (took v) = absurd (grind arith)
from_child a (taken v) = absurd (grind arith)
from_child a (merged v) = absurd (grind arith)
from_child a (ahead v) = absurd (grind arith)
from_child a (behind v) = absurd (grind arith)
from_child a (core v) = absurd (grind arith)
from_child a (tells v) = absurd (grind arith)
from_child a (told v) = absurd (grind arith)
from_child a (above v) = v
from_child a (below v) = absurd (grind arith)

-- what a child's report says
pub record ReportOf (h k : Held) (e : Bool) (p q : List Message) (r : Option ℕ) : Type 0 where
  pub out : p ≡ []
  pub back : q ≡ []
  pub level : k.level ≡ h.level
  pub name : k.name ≡ h.name
  pub reported : e ≡ true
  pub best : r ≡ k.best_weight

pub tells_of : {x y w : ℕ} {A B : View} {p q : List Message} {r : Option ℕ} → Sane y A → A.held.status ≡ Find → Child x y w A B p (Report r ∷ q) → ReportOf A.held B.held B.own.reported p q r
tells_of {x} {y} {w} {A} {B} {p} {q} {r} s f v = let d = down_low x w A.held.level A.held.name A.held.status B.held B.own.reported p v.down in (grind arith)

better_here : (j : ℕ) (r : Option ℕ) (h : Held) → lighter r (bettering j r h).best_weight ≡ false
better_here j None h = (grind arith)
better_here j (Some r) h = go h.best_weight refl
  where
    go : (z : Option ℕ) → h.best_weight ≡ z → lighter (Some r) (bettering j (Some r) h).best_weight ≡ false
    go None u = (grind arith)
    go (Some x) u = (grind arith)

better_than : (r a z : Option ℕ) → lighter z a ≡ false → lighter z (cond (lighter r a) r a) ≡ false
better_than r a None e = (grind arith)
better_than None a (Some z) e = (grind arith)
better_than (Some r) None (Some z) e = (grind arith)
better_than (Some r) (Some a) (Some z) e = (grind arith)

pub no_control : (y k : ℕ) (m : Message) → control1 m ≡ [] → control (out_to y (one k m)) ≡ []
no_control y k m e = elim (eqb_tells k y) [ inl u ↦ rw (u.1, to_self y m) (rw (append-nil (control1 m)) e) | inr u ↦ rw (to_other y k m u.1) ]

goes_on_lem : (h : Held) (y j l f n : ℕ) (os : List Send) → y < n → (y ≡ j → ⊥) → h.mark y ≡ Branch → control (out_to y os) ≡ [] → (r : List Message) → calls (r ++ control (out_to y (onward h j (Initiate l f phase.Find) n ++ os))) ≡ true
goes_on_lem h y j l f n os i d b e r = let o : control (out_to y (onward h j (Initiate l f phase.Find) n ++ os)) ≡ Initiate l f phase.Find ∷ [] = rw (out_to-++, control-++, out_to_onward, e) (grind arith) in rw o (let c = calls_more r l f phase.Find in grind arith)

same_mark : (j : ℕ) (h : Held) (y : ℕ) → is_branch ((rejecting j h).mark y) ≡ is_branch (h.mark y)
same_mark j h y = go (h.mark y) refl
  where
    go : (m : Mark) → h.mark y ≡ m → is_branch ((rejecting j h).mark y) ≡ is_branch (h.mark y)
    go Basic u = (grind arith)
    go Branch u = (grind arith)
    go Rejected u = (grind arith)

-- it seeks, or waits for nobody
abbrev pub Seeks : Held → Type 0
Seeks h = (h.status ≡ Find) ⊎ ((h.status ≡ Find → ⊥) × (h.find_count ≡ 0))

keeping : {t : Graph} {j : ℕ} {h k : Held} {e : Bool} {m : Message} {p q : List Message} {g : Held} {os : List Send} → Seeks h → g.status ≡ h.status → g.find_count ≡ h.find_count → g.parent ≡ h.parent → g.level ≡ h.level → g.name ≡ h.name → ((z : Option ℕ) → lighter z h.best_weight ≡ false → lighter z g.best_weight ≡ false) →
    ((y : ℕ) → is_branch (g.mark y) ≡ is_branch (h.mark y)) → ((y : ℕ) → control (out_to y os) ≡ []) → control1 m ≡ [] → Waits t j h k e m p q g os
keeping {j = j} (inl f) s c a l n b mk o u = keeps (record { seeks = f; goes = s ∙ f; parent = a; level = l; name = n; best = b; mark = λ y d. mk y; silent = λ y d. o y }) c u (mk j) (o j)
keeping (inr f) s c a l n b mk o u = rests (λ z. f.0 (sym s ∙ z)) (c ∙ f.1)

calm : {t : Graph} {j : ℕ} {h k : Held} {e : Bool} {m : Message} {p q : List Message} {g : Held} {os : List Send} → Seeks h → (h.status ≡ Find → ⊥) → g.status ≡ h.status → g.find_count ≡ h.find_count → Waits t j h k e m p q g os
calm (inl f) d s c = absurd (d f)
calm (inr f) d s c = rests (λ z. d (sym s ∙ z)) (c ∙ f.1)

calmed : {t : Graph} {j : ℕ} {h k : Held} {e : Bool} {m : Message} {p q : List Message} {g : Held} {os : List Send} → g.status ≡ Found → g.find_count ≡ 0 → Waits t j h k e m p q g os
calmed s c = rests (λ z. grind arith) c

zero_of : (h : Held) → Seeks h → (h.status ≡ Find → ⊥) → h.find_count ≡ 0
zero_of h (inl f) d = absurd (d f)
zero_of h (inr f) d = f.1

branches_of : (h g : Held) (j n : ℕ) → ((y : ℕ) → g.mark y ≡ h.mark y) → branches_but h j n ≡ branches_but g j n
unfolding branches_but
branches_of h g j zero e = refl
branches_of h g j (suc n) e = rw (e n, branches_of h g j n e)

starting : (t : Graph) (j l f : ℕ) (w : Option ℕ) (h : Held) → h.find_count ≡ 0 → (testing_now w (joining t j l f phase.Find h)).find_count ≡ branches_but (testing_now w (joining t j l f phase.Find h)) j t.count
starting t j l f w h z = let e = branches_of h (testing_now w (joining t j l f phase.Find h)) j t.count (λ y. refl) in grind arith

began : {t : Graph} {j l f : ℕ} {h k : Held} {e : Bool} {m : Message} {s : Phase} {p q : List Message} {os : List Send} → Seeks h → (s ≡ phase.Find → ⊥) → (h.status ≡ Find → ⊥) → Waits t j h k e m p q (joining t j l f s h) os
began {t} {j} {l} {f} {h} {s = phase.Find} z d n = absurd (d refl)
began {t} {j} {l} {f} {h} {s = phase.Found} z d n = let c = zero_of h z n in rests (λ u. grind arith) (grind arith)

not_find : (S : Status) → (S ≡ Find → ⊥) → is_find S ≡ false
not_find Sleeping d = refl
not_find Find d = absurd (d refl)
not_find Found d = refl

absorbs : {t : Graph} {j l : ℕ} {A : View} {k : Held} {e : Bool} {m : Message} {p q : List Message} → Seeks A.held → l < A.held.level → Sane j A → A.held.mark j ≡ Basic →
    Waits t j A.held k e m p q (counting (cond (is_find A.held.status) 1 0) (marking j Branch A.held)) (one j (Initiate A.held.level A.held.name (phase_of A.held.status)))
absorbs {t} {j} {l} {A} {k} {e} {m} {p} {q} (inl f) c s b =
    let o : control (out_to j (one j (Initiate A.held.level A.held.name (phase_of A.held.status)))) ≡ Initiate A.held.level A.held.name phase.Find ∷ [] = rw (to_self j (Initiate A.held.level A.held.name (phase_of A.held.status)), f) in
    adds (record { seeks = f; goes = f; parent = refl; level = refl; name = refl; best = λ z u. u; mark = λ y d. (grind arith); silent = λ y d. ap control (to_other y j (Initiate A.held.level A.held.name (phase_of A.held.status)) (λ u. d (sym u))) })
    (rw f) b (grind arith) (λ u. let v = s.parent_branch u in (grind arith)) (rw o (let c = calls_more p A.held.level A.held.name phase.Find in (grind arith)))
absorbs {t} {j} {l} {A} {k} {e} {m} {p} {q} (inr f) c s b = rests f.0 (let n : is_find A.held.status ≡ false = not_find A.held.status f.0 in (grind arith))

heard_one : {t : Graph} {j : ℕ} {h k : Held} {e : Bool} {r : Option ℕ} {p q : List Message} → (h.parent ≡ Some j → ⊥) → h.status ≡ Find → h.mark j ≡ Branch → ReportOf h k e p q r → (k.status ≡ Find → ⊥) → Waits t j h k e (Report r) p q (bettering j r (hearing h)) []
heard_one {t} {j} {h} {k} {e} {r} {p} {q} c f b o n =
    hears (record { seeks = f; goes = f; parent = refl; level = refl; name = refl; best = λ z u. better_than r h.best_weight z u; mark = λ y d. refl; silent = λ y d. refl }) refl b b c refl refl
    (record { out = o.out; back = o.back; level = o.level; name = o.name; reported = o.reported; best = rw (← o.best) (better_here j r (hearing h)) }) n

-- a node takes m from j
pub waits_on : {t : Graph} {i j : ℕ} {A J : View} {m : Message} {g : Held} {os : List Send} {p q : List Message} → Knows t i j A J p q → Suits m A J → Seeks A.held → Mode i j (t.weight i j) A J p (control1 m ++ q) → (d : Deed t i A.held (got j m) g os) → Waits t j A.held J.held J.own.reported m p q g os
waits_on {t} {i} {j} {A} {J} {p = p} {q} k1 ft sk e (Absorbs {l} c1) = absorbs sk c1 k1.mine (from_basic c1 e)
waits_on {t} {i} {j} {A} {J} {p = p} {q} k1 ft sk e (Merges {l} c1 c2) = calm sk (λ u. no_merge k1.mine u c1 c2 e) refl refl
waits_on {t} {i} {j} {A} {J} {p = p} {q} k1 ft sk e (Begins {l} {f} {s} c1) = let b = head_begin k1.theirs k1.same e in let n = k1.mine in began sk c1 (λ u. grind arith)
waits_on {t} {i} {j} {A} {J} {p = p} {q} k1 ft sk e (Searches-ask {l} {f} k c1) = let b = head_begin k1.theirs k1.same e in let n = k1.mine in let z = zero_of A.held sk (λ u. grind arith) in joins refl refl (starting t j l f (Some k) A.held z) (λ y i d u r. goes_on_lem A.held y j l f t.count _ i d u (test_none y k l f) r)
waits_on {t} {i} {j} {A} {J} {p = p} {q} k1 ft sk e (Searches-report {l} {f} c1 c2 c3) = calmed refl c2
waits_on {t} {i} {j} {A} {J} {p = p} {q} k1 ft sk e (Searches-wait {l} {f} c1 c2) = let b = head_begin k1.theirs k1.same e in let n = k1.mine in let z = zero_of A.held sk (λ u. grind arith) in joins refl refl (starting t j l f None A.held z) (λ y i d u r. goes_on_lem A.held y j l f t.count _ i d u (refl) r)
waits_on {t} {i} {j} {A} {J} {p = p} {q} k1 ft sk e (Accepts {l} {f} c1 c2) = keeping sk refl refl refl refl refl (λ z u. u) (λ y. refl) (λ y. no_control y j Accept refl) refl
waits_on {t} {i} {j} {A} {J} {p = p} {q} k1 ft sk e (Rejects {l} {f} c1 c2 c3) = keeping sk refl refl refl refl refl (λ z u. u) (λ y. same_mark j A.held y) (λ y. no_control y j Reject refl) refl
waits_on {t} {i} {j} {A} {J} {p = p} {q} k1 ft sk e (Crosses-ask {l} {f} k c1 c2 c3 c4) = keeping sk refl refl refl refl refl (λ z u. u) (λ y. same_mark j A.held y) (λ y. test_none y k A.held.level A.held.name) refl
waits_on {t} {i} {j} {A} {J} {p = p} {q} k1 ft sk e (Crosses-report {l} {f} c1 c2 c3 c4 c5 c6) = calmed refl c5
waits_on {t} {i} {j} {A} {J} {p = p} {q} k1 ft sk e (Crosses-wait {l} {f} c1 c2 c3 c4 c5) = keeping sk refl refl refl refl refl (λ z u. u) (λ y. same_mark j A.held y) (λ y. refl) refl
waits_on {t} {i} {j} {A} {J} {p = p} {q} k1 ft sk e (Accepted-report c1 c2) = calmed refl c1
waits_on {t} {i} {j} {A} {J} {p = p} {q} k1 ft sk e (Accepted-wait c1) = keeping sk refl refl refl refl refl (λ z u. better_than (Some (t.weight i j)) A.held.best_weight z u) (λ y. refl) (λ y. refl) refl
waits_on {t} {i} {j} {A} {J} {p = p} {q} k1 ft sk e (Rejected-ask k c1) = keeping sk refl refl refl refl refl (λ z u. u) (λ y. same_mark j A.held y) (λ y. test_none y k A.held.level A.held.name) refl
waits_on {t} {i} {j} {A} {J} {p = p} {q} k1 ft sk e (Rejected-report c1 c2 c3) = calmed refl c2
waits_on {t} {i} {j} {A} {J} {p = p} {q} k1 ft sk e (Rejected-wait c1 c2) = keeping sk refl refl refl refl refl (λ z u. u) (λ y. same_mark j A.held y) (λ y. refl) refl
waits_on {t} {i} {j} {A} {J} {p = p} {q} k1 ft sk e (Hears-report {w} c1 c2 c3) = calmed refl c2
waits_on {t} {i} {j} {A} {J} {p = p} {q} k1 ft sk e (Hears-wait {w} c1 c2) = let v = from_child c1 e in let f = head_hears c1 e in let o = tells_of k1.mine f v in heard_one c1 f v.mark_a o (λ u. let n = k1.theirs in grind arith)
waits_on {t} {i} {j} {A} {J} {p = p} {q} k1 ft sk e (Decides-passes {w} k c1 c2 c3 c4 c5) = calm sk c2 refl refl
waits_on {t} {i} {j} {A} {J} {p = p} {q} k1 ft sk e (Decides-joins {w} k c1 c2 c3 c4 c5) = calm sk c2 refl refl
waits_on {t} {i} {j} {A} {J} {p = p} {q} k1 ft sk e (Halts {w} c1 c2 c3 c4) = calm sk c2 refl refl
waits_on {t} {i} {j} {A} {J} {p = p} {q} k1 ft sk e (Rests {w} c1 c2 c3 c4) = calm sk c2 refl refl
waits_on {t} {i} {j} {A} {J} {p = p} {q} k1 ft sk e (Changed-passes k c1 c2) = let b = head_change k1.same e in let n = k1.mine in calm sk (λ u. grind arith) refl refl
waits_on {t} {i} {j} {A} {J} {p = p} {q} k1 ft sk e (Changed-joins k c1 c2) = let b = head_change k1.same e in let n = k1.mine in calm sk (λ u. grind arith) refl refl
