-- The ways that the two ends of an edge can stand to each other.
use Rattle.std.proofs.Common.{◌≡◌, ℕ, suc, ◌<◌, ◌≤◌, Bool, true, false, cond, ◌||◌, ◌⊎◌, List, [], ◌∷◌, Some, None, Option}
use Rattle.message.specs.declared.messages.Message.{Message}
use Rattle.message.specs.declared.messages.Message.TheVariants.{Connect, Initiate, Test, Accept, Reject, Report, Change}
use Rattle.node.specs.declared.state.Status.{Status}
use Rattle.node.specs.declared.state.Status.TheVariants.{Sleeping, Find, Found}
use Rattle.graph.specs.declared.mark.Mark.TheVariants.{Basic, Branch, Rejected}
use Rattle.node.specs.Rules.{is_finding, lighter}
use Rattle.protocol.proofs.Ghost.{undecided, decided, View}
use Rattle.protocol.proofs.Held.{Held}
use Rattle.message.specs.declared.messages.Phase.TheVariants as phase

-- is a wish to begin under way, and one to seek
abbrev pub busy : List Message → Bool
busy [] = false
busy (Connect l ∷ q) = busy q
busy (Initiate l f s ∷ q) = true
busy (Test l f ∷ q) = busy q
busy (Accept ∷ q) = busy q
busy (Reject ∷ q) = busy q
busy (Report w ∷ q) = busy q
busy (Change ∷ q) = busy q

abbrev pub calls : List Message → Bool
calls [] = false
calls (Connect l ∷ q) = calls q
calls (Initiate l f s ∷ q) = is_finding s || calls q
calls (Test l f ∷ q) = calls q
calls (Accept ∷ q) = calls q
calls (Reject ∷ q) = calls q
calls (Report w ∷ q) = calls q
calls (Change ∷ q) = calls q

-- words to begin, of rising levels, from above a node at (l, f) up to one at (L, F) in state S
abbrev pub Chain : ℕ → ℕ → Status → ℕ → ℕ → List Message → Type 0
Chain L F S l f [] = (l ≡ L) × (f ≡ F)
Chain L F S l f (Connect k ∷ q) = ⊥
Chain L F S l f (Initiate k n s ∷ q) = (l < k) × (s ≡ phase.Find → (q ≡ []) × (S ≡ Find)) × Chain L F S k n q
Chain L F S l f (Test k n ∷ q) = ⊥
Chain L F S l f (Accept ∷ q) = ⊥
Chain L F S l f (Reject ∷ q) = ⊥
Chain L F S l f (Report w ∷ q) = ⊥
Chain L F S l f (Change ∷ q) = ⊥

-- a report of weight r under way to a node h, which has reported or not, over what was the core: h will not act on it
pub record Old (x w : ℕ) (h : Held) (e : Bool) (r : Option ℕ) : Type 0 where
  pub parent : h.parent ≡ Some x
  pub name : h.name ≡ w
  pub still : h.status ≡ Found
  pub reported : e ≡ true
  pub lighter : lighter r h.best_weight ≡ true

abbrev pub Down : ℕ → ℕ → ℕ → ℕ → Status → Held → Bool → List Message → Type 0
Down x w L F S h e [] = Chain L F S h.level h.name []
Down x w L F S h e (Connect k ∷ q) = ⊥
Down x w L F S h e (Initiate k n s ∷ q) = Chain L F S h.level h.name (Initiate k n s ∷ q)
Down x w L F S h e (Test k n ∷ q) = ⊥
Down x w L F S h e (Accept ∷ q) = ⊥
Down x w L F S h e (Reject ∷ q) = ⊥
Down x w L F S h e (Report r ∷ q) = Old x w h e r × Chain L F S h.level h.name q
Down x w L F S h e (Change ∷ q) = ⊥

-- A is node x, B node y, the edge between them is w long; p is under way from A to B, q from B to A
pub record Free (x y w : ℕ) (A B : View) (p q : List Message) : Type 0 where
  pub mark_a : A.held.mark y ≡ Branch → ⊥
  pub mark_b : B.held.mark x ≡ Branch → ⊥
  pub out : p ≡ []
  pub back : q ≡ []
  pub rejected_a : A.held.mark y ≡ Rejected → A.own.label ≡ B.own.label
  pub rejected_b : B.held.mark x ≡ Rejected → A.own.label ≡ B.own.label

pub record Connecting (x y w : ℕ) (A B : View) (p q : List Message) : Type 0 where
  pub mark_a : A.held.mark y ≡ Basic
  pub mark_b : B.held.mark x ≡ Branch
  pub out : p ≡ []
  pub back : q ≡ Connect B.held.level ∷ []
  pub differ : A.own.label ≡ B.own.label → ⊥
  pub up_b : B.own.up ≡ Some x
  pub changed_b : B.own.changed ≡ true
  pub current_b : B.held.level ≡ B.fragment.level
  pub least_b : B.fragment.least ≡ decided (Some w)
  pub levels : B.held.level ≤ A.held.level
  pub sends_b : B.fragment.sends ≡ y
  pub gets_b : B.fragment.gets ≡ x

pub record Crossing (x y w : ℕ) (A B : View) (p q : List Message) : Type 0 where
  pub mark_a : A.held.mark y ≡ Branch
  pub mark_b : B.held.mark x ≡ Branch
  pub out : p ≡ Connect A.held.level ∷ []
  pub back : q ≡ Connect B.held.level ∷ []
  pub differ : A.own.label ≡ B.own.label → ⊥
  pub up_a : A.own.up ≡ Some y
  pub up_b : B.own.up ≡ Some x
  pub changed_a : A.own.changed ≡ true
  pub changed_b : B.own.changed ≡ true
  pub current_a : A.held.level ≡ A.fragment.level
  pub current_b : B.held.level ≡ B.fragment.level
  pub least_a : A.fragment.least ≡ decided (Some w)
  pub least_b : B.fragment.least ≡ decided (Some w)
  pub levels : A.held.level ≡ B.held.level
  pub sends_a : A.fragment.sends ≡ x
  pub gets_a : A.fragment.gets ≡ y
  pub sends_b : B.fragment.sends ≡ y
  pub gets_b : B.fragment.gets ≡ x

-- A has taken B's connect; the queues of merged 1 and merged 2 are the difference
pub record Joint (x y w : ℕ) (A B : View) : Type 0 where
  pub mark_a : A.held.mark y ≡ Branch
  pub mark_b : B.held.mark x ≡ Branch
  pub same : A.own.label ≡ B.own.label
  pub up_a : A.own.up ≡ Some y
  pub up_b : B.own.up ≡ Some x
  pub in_search_a : A.own.in_search ≡ true
  pub in_search_b : B.own.in_search ≡ true
  pub name : A.fragment.name ≡ w
  pub least : A.fragment.least ≡ undecided

pub record Merged1 (x y w : ℕ) (A B : View) (p q : List Message) : Type 0 where
  pub joint : Joint x y w A B
  pub out : p ≡ Connect A.held.level ∷ (Initiate (suc A.held.level) w phase.Find ∷ [])
  pub back : q ≡ []
  pub changed_a : A.own.changed ≡ true
  pub changed_b : B.own.changed ≡ true
  pub levels : A.held.level ≡ B.held.level
  pub stale : A.fragment.level ≡ suc A.held.level

pub record Merged2 (x y w : ℕ) (A B : View) (p q : List Message) : Type 0 where
  pub joint : Joint x y w A B
  pub out : p ≡ Initiate (suc A.held.level) w phase.Find ∷ []
  pub back : q ≡ Initiate (suc B.held.level) w phase.Find ∷ []
  pub changed_a : A.own.changed ≡ true
  pub changed_b : B.own.changed ≡ true
  pub levels : A.held.level ≡ B.held.level
  pub stale : A.fragment.level ≡ suc A.held.level

-- A has begun, B not yet
pub record Half (x y w : ℕ) (A B : View) (p q : List Message) : Type 0 where
  pub joint : Joint x y w A B
  pub out : p ≡ Initiate A.held.level w phase.Find ∷ cond A.own.reported (Report A.held.best_weight ∷ []) []
  pub back : q ≡ []
  pub parent_a : A.held.parent ≡ Some y
  pub name_a : A.held.name ≡ w
  pub changed_a : A.own.changed ≡ false
  pub changed_b : B.own.changed ≡ true
  pub levels : A.held.level ≡ suc B.held.level
  pub current_a : A.held.level ≡ A.fragment.level

-- nothing to tell yet; the report is under way; it was heard by one that reported too and knows of nothing lighter
abbrev pub Told : View → View → List Message → Type 0
Told A B p =
    ((p ≡ []) × (A.own.reported ≡ false)) ⊎ (((p ≡ Report A.held.best_weight ∷ []) × (A.own.reported ≡ true))
    ⊎ ((p ≡ []) × (A.own.reported ≡ true) × (B.own.reported ≡ true) × (lighter B.held.best_weight A.held.best_weight ≡ false)))

pub record Core (x y w : ℕ) (A B : View) (p q : List Message) : Type 0 where
  pub mark_a : A.held.mark y ≡ Branch
  pub mark_b : B.held.mark x ≡ Branch
  pub same : A.own.label ≡ B.own.label
  pub up_a : A.own.up ≡ Some y
  pub up_b : B.own.up ≡ Some x
  pub in_search_a : A.own.in_search ≡ true
  pub in_search_b : B.own.in_search ≡ true
  pub parent_a : A.held.parent ≡ Some y
  pub parent_b : B.held.parent ≡ Some x
  pub changed_a : A.own.changed ≡ false
  pub changed_b : B.own.changed ≡ false
  pub levels : A.held.level ≡ B.held.level
  pub name_a : A.held.name ≡ w
  pub name_b : B.held.name ≡ w
  pub current_a : A.held.level ≡ A.fragment.level
  pub out : Told A B p
  pub back : Told B A q
  pub least : (A.fragment.least ≡ undecided) ⊎ ((A.fragment.least ≡ decided None) × (A.held.best_weight ≡ None) × (B.held.best_weight ≡ None) × (A.own.reported ≡ true) × (B.own.reported ≡ true))

-- the word to change is under way from A to B
pub record Changing (x y w : ℕ) (A B : View) (p q : List Message) : Type 0 where
  pub mark_a : A.held.mark y ≡ Branch
  pub mark_b : B.held.mark x ≡ Branch
  pub same : A.own.label ≡ B.own.label
  pub out : p ≡ Change ∷ []
  pub back : q ≡ []
  pub up_a : A.own.up ≡ Some y
  pub up_b : B.own.up ≡ Some x
  pub changed_a : A.own.changed ≡ true
  pub changed_b : B.own.changed ≡ false
  pub best_a : A.held.best ≡ Some y
  pub parent_b : B.held.parent ≡ Some x
  pub levels : A.held.level ≡ B.held.level
  pub names : A.held.name ≡ B.held.name
  pub current_a : A.held.level ≡ A.fragment.level
  pub least_a : A.fragment.least ≡ decided A.held.best_weight
  pub least_b : A.held.best_weight ≡ B.held.best_weight
  pub finite : A.held.best_weight ≡ None → ⊥
  pub sends : A.fragment.sends ≡ x
  pub gets : A.fragment.gets ≡ y
  pub in_search_a : A.own.in_search ≡ true
  pub in_search_b : B.own.in_search ≡ true

-- of A that has reported and B below it: B has reported too, of nothing lighter, or has changed
abbrev pub Heard : View → View → Type 0
Heard A B = ((B.own.reported ≡ true) × (lighter B.held.best_weight A.held.best_weight ≡ false)) ⊎ (B.own.changed ≡ true)

-- B hangs below A
pub record Child (x y w : ℕ) (A B : View) (p q : List Message) : Type 0 where
  pub mark_a : A.held.mark y ≡ Branch
  pub mark_b : B.held.mark x ≡ Branch
  pub same : A.own.label ≡ B.own.label
  pub up_a : A.own.up ≡ Some y → ⊥
  pub up_b : B.own.up ≡ Some x
  pub down : Down x w A.held.level A.held.name A.held.status B.held B.own.reported p
  pub back : (q ≡ []) ⊎ ((q ≡ Report B.held.best_weight ∷ []) × (busy p ≡ false) × (B.own.reported ≡ true) × (B.own.in_search ≡ true) × (B.held.parent ≡ Some x) × (A.held.level ≡ A.fragment.level) × (A.held.status ≡ Find))
  pub asked : A.held.level ≡ A.fragment.level → busy p ≡ true → B.own.in_search ≡ calls p
  pub finds : (busy p ≡ true) ⊎ ((B.held.status ≡ Find → A.held.status ≡ Find) × ((B.held.parent ≡ Some x) ⊎ (B.own.changed ≡ true)))
  pub spent : (busy p ≡ true) ⊎ ((p ≡ []) ⊎ (A.own.changed ≡ true))
  pub rank : A.own.rank < B.own.rank
  pub alike : (A.held.level ≡ A.fragment.level) ⊎ (B.own.in_search ≡ A.own.in_search)
  pub calmer : B.own.in_search ≡ true → A.own.in_search ≡ true
  pub heard : A.held.level ≡ A.fragment.level → A.own.reported ≡ true → B.own.in_search ≡ true → (B.held.level ≡ B.fragment.level) × Heard A B

pub data Mode (x y w : ℕ) (A B : View) (p q : List Message) : Type 0 where
  free : Free x y w A B p q → Mode x y w A B p q
  offered : Connecting x y w A B p q → Mode x y w A B p q
  offers : Connecting y x w B A q p → Mode x y w A B p q
  crossing : Crossing x y w A B p q → Mode x y w A B p q
  took : Merged1 x y w A B p q → Mode x y w A B p q
  taken : Merged1 y x w B A q p → Mode x y w A B p q
  merged : Merged2 x y w A B p q → Mode x y w A B p q
  ahead : Half x y w A B p q → Mode x y w A B p q
  behind : Half y x w B A q p → Mode x y w A B p q
  core : Core x y w A B p q → Mode x y w A B p q
  tells : Changing x y w A B p q → Mode x y w A B p q
  told : Changing y x w B A q p → Mode x y w A B p q
  above : Child x y w A B p q → Mode x y w A B p q
  below : Child y x w B A q p → Mode x y w A B p q

-- of one node, at the other end y of an edge: N1, N3, N5, N6
pub record Sane (y : ℕ) (A : View) : Type 0 where
  pub low : A.held.level ≤ A.fragment.level
  pub name : A.held.level ≡ A.fragment.level → A.held.name ≡ A.fragment.name
  pub find_current : A.held.status ≡ Find → A.held.level ≡ A.fragment.level
  pub find_undecided : A.held.status ≡ Find → A.fragment.least ≡ undecided
  pub find_in_search : A.held.status ≡ Find → A.own.in_search ≡ true
  pub find_reported : A.held.status ≡ Find → A.own.reported ≡ false
  pub find_changed : A.held.status ≡ Find → A.own.changed ≡ false
  pub up_branch : A.own.up ≡ Some y → A.held.mark y ≡ Branch
  pub up_parent : (A.own.changed ≡ true) ⊎ (A.own.up ≡ A.held.parent)
  pub parent_branch : A.held.parent ≡ Some y → A.held.mark y ≡ Branch
  pub ranked : 1 ≤ A.own.rank
  pub unchanged : A.fragment.least ≡ undecided → A.held.level ≡ A.fragment.level → A.own.changed ≡ false
  pub sleeping_reported : A.held.status ≡ Sleeping → A.own.reported ≡ false
  pub settles : A.held.parent ≡ Some y → A.held.level ≡ A.fragment.level → (A.held.status ≡ Find → ⊥) → A.own.in_search ≡ A.own.reported
