-- A node that seeks waits for somebody or asks somebody.
use Rattle.std.proofs.Common.{◌≡◌, ℕ, ◌+◌, ◌≤◌, false, cond, ◌&&◌, eqb, ◌⊎◌, List, Some, None, Option, refl, inl, inr, arith}
use Rattle.node.specs.declared.state.Status.TheVariants.{Find}
use Rattle.node.specs.Rules.{is_find}
use Rattle.graph.specs.Graph.{Graph}
use Rattle.protocol.proofs.Deed.{In, Deed, Alone, WokeTo, Absorbs, Merges, Begins, Searches-ask, Searches-report, Searches-wait, Accepts, Rejects, Crosses-ask, Crosses-report, Crosses-wait, Accepted-report, Accepted-wait, Rejected-ask, Rejected-report, Rejected-wait, Hears-report, Hears-wait, Decides-passes, Decides-joins, Halts, Rests, Changed-passes, Changed-joins}
use Rattle.protocol.proofs.Frame.{start, Lifted, Event, OneNode, unmoved, acting, node}
use Rattle.protocol.proofs.Held.{Send, Held, is_none}

-- who seeks still counts somebody, or asks over some edge
abbrev pub Busy : Held → Type 0
Busy h = h.status ≡ Find → (1 ≤ h.find_count) ⊎ ((k : ℕ) × (h.testing ≡ Some k))

waits_some : (c : ℕ) (w : Option ℕ) → (eqb c 0 && is_none w) ≡ false → (1 ≤ c) ⊎ ((k : ℕ) × (w ≡ Some k))
waits_some c None e = inl (grind arith)
waits_some c (Some k) e = inr (k, refl)

more : (c d : ℕ) (w : Option ℕ) → (1 ≤ c) ⊎ ((k : ℕ) × (w ≡ Some k)) → (1 ≤ c + d) ⊎ ((k : ℕ) × (w ≡ Some k))
more c d w (inl u) = inl (omega arith)
more c d w (inr u) = inr u

-- what a node does keeps it so
busy_deed : {t : Graph} {i : ℕ} {h g : Held} {inp : In} {os : List Send} → Deed t i h inp g os → Busy h → Busy g
busy_deed (Alone c1) b s = absurd (grind arith)
busy_deed (WokeTo k c1) b s = absurd (grind arith)
busy_deed {h = h} (Absorbs {j} {l} c1) b s = more h.find_count (cond (is_find h.status) 1 0) h.testing (b s)
busy_deed (Merges {j} {l} c1 c2) b s = b s
busy_deed (Begins {j} {l} {f} {s} c1) b u = absurd (grind arith)
busy_deed (Searches-ask {j} {l} {f} k c1) b s = inr (k, refl)
busy_deed (Searches-report {j} {l} {f} c1 c2 c3) b s = absurd (grind arith)
busy_deed {t} {i} {h} {g} (Searches-wait {j} {l} {f} c1 c2) b s = waits_some g.find_count g.testing c2
busy_deed (Accepts {j} {l} {f} c1 c2) b s = b s
busy_deed (Rejects {j} {l} {f} c1 c2 c3) b s = b s
busy_deed (Crosses-ask {j} {l} {f} k c1 c2 c3 c4) b s = inr (k, refl)
busy_deed (Crosses-report {j} {l} {f} c1 c2 c3 c4 c5 c6) b s = absurd (grind arith)
busy_deed {t} {i} {h} {g} (Crosses-wait {j} {l} {f} c1 c2 c3 c4 c5) b s = waits_some g.find_count g.testing c5
busy_deed (Accepted-report {j} c1 c2) b s = absurd (grind arith)
busy_deed {t} {i} {h} {g} (Accepted-wait {j} c1) b s = waits_some g.find_count g.testing c1
busy_deed (Rejected-ask {j} k c1) b s = inr (k, refl)
busy_deed (Rejected-report {j} c1 c2 c3) b s = absurd (grind arith)
busy_deed {t} {i} {h} {g} (Rejected-wait {j} c1 c2) b s = waits_some g.find_count g.testing c2
busy_deed (Hears-report {j} {w} c1 c2 c3) b s = absurd (grind arith)
busy_deed {t} {i} {h} {g} (Hears-wait {j} {w} c1 c2) b s = waits_some g.find_count g.testing c2
busy_deed (Decides-passes {j} {w} k c1 c2 c3 c4 c5) b s = b s
busy_deed (Decides-joins {j} {w} k c1 c2 c3 c4 c5) b s = b s
busy_deed (Halts {j} {w} c1 c2 c3 c4) b s = b s
busy_deed (Rests {j} {w} c1 c2 c3 c4) b s = b s
busy_deed (Changed-passes {j} k c1 c2) b s = b s
busy_deed (Changed-joins {j} k c1 c2) b s = b s

busy_node : {t : Graph} {n : Lifted} {a : ℕ} {h g : Held} → OneNode t n a h g → Busy h → Busy g
busy_node unmoved b = b
busy_node (acting inp os r d) b = busy_deed d b

-- at first nobody seeks, and every step keeps it so
pub busy_start : (a : ℕ) → Busy (start.held a)
busy_start a s = absurd (grind arith)

pub busy_step : {t : Graph} {n m : Lifted} → Event t n m → ((a : ℕ) → Busy (n.held a)) → (a : ℕ) → Busy (m.held a)
busy_step v b a = busy_node (node v a) (b a)
