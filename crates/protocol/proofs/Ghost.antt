-- What the proof carries beside the nodes: of each node to which fragment it really belongs, and of each fragment what it has come to.
use Rattle.std.proofs.Common.{ℕ, suc, ◌+◌, Bool, true, false, cond, not, ◌&&◌, ◌||◌, eqb, List, Some, None, Option}
use Rattle.node.specs.Rules.{is_find}
use Rattle.graph.specs.Graph.{Graph}
use Rattle.protocol.proofs.Deed.{In, Deed, Alone, WokeTo, Absorbs, Merges, Begins, Searches-ask, Searches-report, Searches-wait, Accepts, Rejects, Crosses-ask, Crosses-report, Crosses-wait, Accepted-report, Accepted-wait, Rejected-ask, Rejected-report, Rejected-wait, Hears-report, Hears-wait, Decides-passes, Decides-joins, Halts, Rests, Changed-passes, Changed-joins}
use Rattle.protocol.proofs.Frame.{Lifted}
use Rattle.protocol.proofs.Held.{Send, Held}

-- what a fragment has come to: it still looks for the lightest edge that leads out of it, or has found it
pub data Least : Type 0 where
  undecided : Least
  decided : Option ℕ → Least

pub record Own : Type 0 where
  pub label : ℕ
  pub up : (Option ℕ)
  pub changed : Bool
  pub reported : Bool
  pub in_search : Bool
  pub rank : ℕ

-- sends, gets: once it has found that edge, over which edge the word of it is under way, inside the fragment or out of it
pub record Fragment : Type 0 where
  pub level : ℕ
  pub name : ℕ
  pub least : Least
  pub sends : ℕ
  pub gets : ℕ

pub record Ghost : Type 0 where
  pub own : ℕ → Own
  pub fragment : ℕ → Fragment

-- a node with all that is known of it
pub record View : Type 0 where
  pub held : Held
  pub own : Own
  pub fragment : Fragment

abbrev pub view : Lifted → Ghost → ℕ → View
view n γ a = record { held = n.held a; own = γ.own a; fragment = γ.fragment (γ.own a).label }

-- what a deed is to the ghost
pub data Turn : Type 0 where
  idle : Turn
  starts : (me best : ℕ) → (Option ℕ) → Option ℕ → Turn
  absorb : Turn
  merge : (long : ℕ) → Turn
  begin : (from : ℕ) → (core : Bool) → (reports : Bool) → Turn
  report : Turn
  decide : (me best : ℕ) → Turn
  change : (me best : ℕ) → Turn
  end : Turn

abbrev pub turn : {t : Graph} {i : ℕ} {h g : Held} {inp : In} {os : List Send} → Deed t i h inp g os → Turn
turn {t} {i} (Alone c1) = starts i i None None
turn {t} {i} (WokeTo k c1) = starts i k (Some k) (Some (t.weight i k))
turn (Absorbs {j} {l} c1) = absorb
turn {t} {i} (Merges {j} {l} c1 c2) = merge (t.weight i j)
turn {t} {i} (Begins {j} {l} {f} {s} c1) = begin j (eqb (t.weight i j) f) false
turn {t} {i} (Searches-ask {j} {l} {f} k c1) = begin j (eqb (t.weight i j) f) false
turn {t} {i} (Searches-report {j} {l} {f} c1 c2 c3) = begin j (eqb (t.weight i j) f) true
turn {t} {i} (Searches-wait {j} {l} {f} c1 c2) = begin j (eqb (t.weight i j) f) false
turn (Accepts {j} {l} {f} c1 c2) = idle
turn (Rejects {j} {l} {f} c1 c2 c3) = idle
turn (Crosses-ask {j} {l} {f} k c1 c2 c3 c4) = idle
turn (Crosses-report {j} {l} {f} c1 c2 c3 c4 c5 c6) = report
turn (Crosses-wait {j} {l} {f} c1 c2 c3 c4 c5) = idle
turn (Accepted-report {j} c1 c2) = report
turn (Accepted-wait {j} c1) = idle
turn (Rejected-ask {j} k c1) = idle
turn (Rejected-report {j} c1 c2 c3) = report
turn (Rejected-wait {j} c1 c2) = idle
turn (Hears-report {j} {w} c1 c2 c3) = report
turn (Hears-wait {j} {w} c1 c2) = idle
turn {t} {i} (Decides-passes {j} {w} k c1 c2 c3 c4 c5) = decide i k
turn {t} {i} (Decides-joins {j} {w} k c1 c2 c3 c4 c5) = decide i k
turn (Halts {j} {w} c1 c2 c3 c4) = end
turn (Rests {j} {w} c1 c2 c3 c4) = idle
turn {t} {i} (Changed-passes {j} k c1 c2) = change i k
turn {t} {i} (Changed-joins {j} k c1 c2) = change i k

-- what becomes of the node that acts itself: up, changed, reported, rank; A acts, J is where the message came from
abbrev pub mine : Turn → View → View → Own
mine idle A J = A.own
mine (starts me b k z) A J = record { label = A.own.label; up = k; changed = true; reported = A.own.reported; in_search = A.own.in_search; rank = A.own.rank }
mine absorb A J = A.own
mine (merge w) A J = A.own
mine (begin j c r) A J = record { label = A.own.label; up = Some j; changed = false; reported = r; in_search = A.own.in_search; rank = A.own.rank }
mine report A J = record { label = A.own.label; up = A.own.up; changed = A.own.changed; reported = true; in_search = A.own.in_search; rank = A.own.rank }
mine (decide me k) A J = record { label = A.own.label; up = Some k; changed = true; reported = A.own.reported; in_search = A.own.in_search; rank = 0 }
mine (change me k) A J = record { label = A.own.label; up = Some k; changed = true; reported = A.own.reported; in_search = A.own.in_search; rank = 0 }
mine end A J = A.own

-- which labels a turn moves into A's fragment, and whether those who move are asked in its search
abbrev pub moves : Turn → View → View → ℕ → Bool
moves idle A J l = false
moves (starts me b k z) A J l = false
moves absorb A J l = eqb l J.own.label
moves (merge w) A J l = not (eqb A.own.label J.own.label) && (eqb l A.own.label || eqb l J.own.label)
moves (begin j c r) A J l = false
moves report A J l = false
moves (decide me k) A J l = false
moves (change me k) A J l = false
moves end A J l = false

abbrev pub enters : Turn → View → Bool
enters idle A = false
enters (starts me b k z) A = false
enters absorb A = cond (eqb A.held.level A.fragment.level) (is_find A.held.status) A.own.in_search
enters (merge w) A = true
enters (begin j c r) A = false
enters report A = false
enters (decide me k) A = false
enters (change me k) A = false
enters end A = false

-- by how much those of a label rise
abbrev pub rises : Turn → View → View → ℕ → ℕ
rises idle A J l = 0
rises (starts me b k z) A J l = 0
rises absorb A J l = cond (eqb l J.own.label) (A.own.rank + 1) 0
rises (merge w) A J l = 0
rises (begin j c r) A J l = 0
rises report A J l = 0
rises (decide me k) A J l = cond (eqb l A.own.label) 1 0
rises (change me k) A J l = cond (eqb l A.own.label) 1 0
rises end A J l = 0

-- what becomes of A's fragment
abbrev pub fragments : Turn → View → View → Fragment
fragments idle A J = A.fragment
fragments (starts me b k z) A J = record { level = A.fragment.level; name = A.fragment.name; least = decided z; sends = me; gets = b }
fragments absorb A J = A.fragment
fragments (merge w) A J = record { level = cond (eqb A.own.label J.own.label) A.fragment.level (suc A.held.level); name = cond (eqb A.own.label J.own.label) A.fragment.name w; least = cond (eqb A.own.label J.own.label) A.fragment.least undecided; sends = A.fragment.sends; gets = A.fragment.gets }
fragments (begin j c r) A J = A.fragment
fragments report A J = A.fragment
fragments (decide me k) A J = record { level = A.fragment.level; name = A.fragment.name; least = decided A.held.best_weight; sends = me; gets = k }
fragments (change me k) A J = record { level = A.fragment.level; name = A.fragment.name; least = A.fragment.least; sends = me; gets = k }
fragments end A J = record { level = A.fragment.level; name = A.fragment.name; least = decided None; sends = A.fragment.sends; gets = A.fragment.gets }

-- everybody else, and the node that acts too once its own changes are made
abbrev pub moved : Turn → View → View → Own → Own
moved u A J o = record { label = cond (moves u A J o.label) A.own.label o.label; up = o.up; changed = o.changed; reported = o.reported; in_search = cond (moves u A J o.label) (enters u A) o.in_search; rank = o.rank + rises u A J o.label }

abbrev pub inside : Turn → View → View → ℕ → Bool
inside u A J l = eqb l A.own.label || moves u A J l

abbrev pub follow : Turn → View → View → View → View
follow u A J B =
    record {
      held = B.held;
      own = moved u A J B.own;
      fragment = record { level = cond (inside u A J B.own.label) (fragments u A J).level B.fragment.level; name = cond (inside u A J B.own.label) (fragments u A J).name B.fragment.name; least = cond (inside u A J B.own.label) (fragments u A J).least B.fragment.least; sends = cond (inside u A J B.own.label) (fragments u A J).sends B.fragment.sends; gets = cond (inside u A J B.own.label) (fragments u A J).gets B.fragment.gets };
    }

abbrev pub acted : Turn → Held → View → View → View
acted u g A J = follow u A J (record { held = g; own = mine u A J; fragment = A.fragment })

-- the ghost's own step
abbrev pub stepped : Turn → (i : ℕ) → View → View → Ghost → Ghost
stepped u i A J γ =
    record {
      own = λ a. record {
        label = cond (moves u A J (γ.own a).label) A.own.label (γ.own a).label;
        up = cond (eqb a i) (mine u A J).up (γ.own a).up;
        changed = cond (eqb a i) (mine u A J).changed (γ.own a).changed;
        reported = cond (eqb a i) (mine u A J).reported (γ.own a).reported;
        in_search = cond (moves u A J (γ.own a).label) (enters u A) (γ.own a).in_search;
        rank = cond (eqb a i) (mine u A J).rank (γ.own a).rank + rises u A J (γ.own a).label;
      };
      fragment = λ l. record { level = cond (eqb l A.own.label) (fragments u A J).level (γ.fragment l).level; name = cond (eqb l A.own.label) (fragments u A J).name (γ.fragment l).name; least = cond (eqb l A.own.label) (fragments u A J).least (γ.fragment l).least; sends = cond (eqb l A.own.label) (fragments u A J).sends (γ.fragment l).sends; gets = cond (eqb l A.own.label) (fragments u A J).gets (γ.fragment l).gets };
    }
