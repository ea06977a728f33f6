-- What holds of one node goes on to hold.
use Rattle.std.proofs.Common.{◌≡◌, ℕ, ◌<◌, ◌≤◌, List, ◌++◌, None, inl, inr, arith, Option}
use Rattle.std.proofs.lemmas.Bool.Decides.{eqb_tells}
use Rattle.message.specs.declared.messages.Message.{Message}
use Rattle.node.specs.declared.state.Status.TheVariants.{Sleeping, Find}
use Rattle.graph.specs.Graph.{Graph}
use Rattle.protocol.proofs.Control.{control1}
use Rattle.protocol.proofs.Deed.{woke, got, Deed, Alone, WokeTo, Absorbs, Merges, Begins, Searches-ask, Searches-report, Searches-wait, Accepts, Rejects, Crosses-ask, Crosses-report, Crosses-wait, Accepted-report, Accepted-wait, Rejected-ask, Rejected-report, Rejected-wait, Hears-report, Hears-wait, Decides-passes, Decides-joins, Halts, Rests, Changed-passes, Changed-joins}
use Rattle.protocol.proofs.Deeds.{Knows, Suits}
use Rattle.protocol.proofs.Ghost.{decided, View, idle, absorb, merge, decide, change, end, turn, follow, acted}
use Rattle.protocol.proofs.Heads.{head_absorb, head_merge, head_begin, head_turn, head_end, head_change, head_hears}
use Rattle.protocol.proofs.Held.{Send, Held}
use Rattle.protocol.proofs.Mode.{Mode, Sane}

-- the node that acts
pub sane_acts : {t : Graph} {i j y : ℕ} {A J : View} {m : Message} {g : Held} {os : List Send} {p q : List Message} → Knows t i j A J p q → (A.held.status ≡ Sleeping → ⊥) → Suits m A J → Sane y A → Mode i j (t.weight i j) A J p (control1 m ++ q) → (d : Deed t i A.held (got j m) g os) → Sane y (acted (turn d) g A J)
sane_acts {t} {i} {j} {y} {A} {J} kj aw ft v e (Absorbs {l} c1) = let a = head_absorb c1 e in record { low = grind arith; name = λ u1. grind arith; find_current = λ u1. grind arith; find_undecided = λ u1. grind arith; find_in_search = λ u1. grind arith; find_reported = λ u1. grind arith; find_changed = λ u1. grind arith; up_branch = λ u1. grind arith; up_parent = grind arith; parent_branch = λ u1. grind arith; ranked = grind arith; unchanged = λ u1 u2. grind arith; sleeping_reported = λ u1. grind arith; settles = λ u1 u2 u3. grind arith }
sane_acts {t} {i} {j} {y} {A} {J} kj aw ft v e (Merges {l} c1 c2) = elim (head_merge c1 c2 e) [ inl a ↦ record { low = grind arith; name = λ u1. grind arith; find_current = λ u1. grind arith; find_undecided = λ u1. grind arith; find_in_search = λ u1. grind arith; find_reported = λ u1. grind arith; find_changed = λ u1. grind arith; up_branch = λ u1. grind arith; up_parent = grind arith; parent_branch = λ u1. grind arith; ranked = grind arith; unchanged = λ u1 u2. grind arith; sleeping_reported = λ u1. grind arith; settles = λ u1 u2 u3. grind arith } | inr a ↦ record { low = grind arith; name = λ u1. grind arith; find_current = λ u1. grind arith; find_undecided = λ u1. grind arith; find_in_search = λ u1. grind arith; find_reported = λ u1. grind arith; find_changed = λ u1. grind arith; up_branch = λ u1. grind arith; up_parent = grind arith; parent_branch = λ u1. grind arith; ranked = grind arith; unchanged = λ u1 u2. grind arith; sleeping_reported = λ u1. grind arith; settles = λ u1 u2 u3. grind arith } ]
sane_acts {t} {i} {j} {y} {A} {J} kj aw ft v e (Begins {l} {f} {s} c1) = let a = head_begin kj.theirs kj.same e in record { low = grind arith; name = λ u1. grind arith; find_current = λ u1. grind arith; find_undecided = λ u1. grind arith; find_in_search = λ u1. grind arith; find_reported = λ u1. grind arith; find_changed = λ u1. grind arith; up_branch = λ u1. grind arith; up_parent = grind arith; parent_branch = λ u1. grind arith; ranked = grind arith; unchanged = λ u1 u2. grind arith; sleeping_reported = λ u1. grind arith; settles = λ u1 u2 u3. grind arith }
sane_acts {t} {i} {j} {y} {A} {J} kj aw ft v e (Searches-ask {l} {f} k c1) = let a = head_begin kj.theirs kj.same e in record { low = grind arith; name = λ u1. grind arith; find_current = λ u1. grind arith; find_undecided = λ u1. grind arith; find_in_search = λ u1. grind arith; find_reported = λ u1. grind arith; find_changed = λ u1. grind arith; up_branch = λ u1. grind arith; up_parent = grind arith; parent_branch = λ u1. grind arith; ranked = grind arith; unchanged = λ u1 u2. grind arith; sleeping_reported = λ u1. grind arith; settles = λ u1 u2 u3. grind arith }
sane_acts {t} {i} {j} {y} {A} {J} kj aw ft v e (Searches-report {l} {f} c1 c2 c3) = let a = head_begin kj.theirs kj.same e in record { low = grind arith; name = λ u1. grind arith; find_current = λ u1. grind arith; find_undecided = λ u1. grind arith; find_in_search = λ u1. grind arith; find_reported = λ u1. grind arith; find_changed = λ u1. grind arith; up_branch = λ u1. grind arith; up_parent = grind arith; parent_branch = λ u1. grind arith; ranked = grind arith; unchanged = λ u1 u2. grind arith; sleeping_reported = λ u1. grind arith; settles = λ u1 u2 u3. grind arith }
sane_acts {t} {i} {j} {y} {A} {J} kj aw ft v e (Searches-wait {l} {f} c1 c2) = let a = head_begin kj.theirs kj.same e in record { low = grind arith; name = λ u1. grind arith; find_current = λ u1. grind arith; find_undecided = λ u1. grind arith; find_in_search = λ u1. grind arith; find_reported = λ u1. grind arith; find_changed = λ u1. grind arith; up_branch = λ u1. grind arith; up_parent = grind arith; parent_branch = λ u1. grind arith; ranked = grind arith; unchanged = λ u1 u2. grind arith; sleeping_reported = λ u1. grind arith; settles = λ u1 u2 u3. grind arith }
sane_acts {t} {i} {j} {y} {A} {J} kj aw ft v e (Accepts {l} {f} c1 c2) = record { low = grind arith; name = λ u1. grind arith; find_current = λ u1. grind arith; find_undecided = λ u1. grind arith; find_in_search = λ u1. grind arith; find_reported = λ u1. grind arith; find_changed = λ u1. grind arith; up_branch = λ u1. grind arith; up_parent = grind arith; parent_branch = λ u1. grind arith; ranked = grind arith; unchanged = λ u1 u2. grind arith; sleeping_reported = λ u1. grind arith; settles = λ u1 u2 u3. grind arith }
sane_acts {t} {i} {j} {y} {A} {J} kj aw ft v e (Rejects {l} {f} c1 c2 c3) = record { low = grind arith; name = λ u1. grind arith; find_current = λ u1. grind arith; find_undecided = λ u1. grind arith; find_in_search = λ u1. grind arith; find_reported = λ u1. grind arith; find_changed = λ u1. grind arith; up_branch = λ u1. grind arith; up_parent = grind arith; parent_branch = λ u1. grind arith; ranked = grind arith; unchanged = λ u1 u2. grind arith; sleeping_reported = λ u1. grind arith; settles = λ u1 u2 u3. grind arith }
sane_acts {t} {i} {j} {y} {A} {J} kj aw ft v e (Crosses-ask {l} {f} k c1 c2 c3 c4) = let a = kj.asks in record { low = grind arith; name = λ u1. grind arith; find_current = λ u1. grind arith; find_undecided = λ u1. grind arith; find_in_search = λ u1. grind arith; find_reported = λ u1. grind arith; find_changed = λ u1. grind arith; up_branch = λ u1. grind arith; up_parent = grind arith; parent_branch = λ u1. grind arith; ranked = grind arith; unchanged = λ u1 u2. grind arith; sleeping_reported = λ u1. grind arith; settles = λ u1 u2 u3. grind arith }
sane_acts {t} {i} {j} {y} {A} {J} kj aw ft v e (Crosses-report {l} {f} c1 c2 c3 c4 c5 c6) = let a = kj.asks in record { low = grind arith; name = λ u1. grind arith; find_current = λ u1. grind arith; find_undecided = λ u1. grind arith; find_in_search = λ u1. grind arith; find_reported = λ u1. grind arith; find_changed = λ u1. grind arith; up_branch = λ u1. grind arith; up_parent = grind arith; parent_branch = λ u1. grind arith; ranked = grind arith; unchanged = λ u1 u2. grind arith; sleeping_reported = λ u1. grind arith; settles = λ u1 u2 u3. grind arith }
sane_acts {t} {i} {j} {y} {A} {J} kj aw ft v e (Crosses-wait {l} {f} c1 c2 c3 c4 c5) = let a = kj.asks in record { low = grind arith; name = λ u1. grind arith; find_current = λ u1. grind arith; find_undecided = λ u1. grind arith; find_in_search = λ u1. grind arith; find_reported = λ u1. grind arith; find_changed = λ u1. grind arith; up_branch = λ u1. grind arith; up_parent = grind arith; parent_branch = λ u1. grind arith; ranked = grind arith; unchanged = λ u1 u2. grind arith; sleeping_reported = λ u1. grind arith; settles = λ u1 u2 u3. grind arith }
sane_acts {t} {i} {j} {y} {A} {J} kj aw ft v e (Accepted-report c1 c2) = record { low = grind arith; name = λ u1. grind arith; find_current = λ u1. grind arith; find_undecided = λ u1. grind arith; find_in_search = λ u1. grind arith; find_reported = λ u1. grind arith; find_changed = λ u1. grind arith; up_branch = λ u1. grind arith; up_parent = grind arith; parent_branch = λ u1. grind arith; ranked = grind arith; unchanged = λ u1 u2. grind arith; sleeping_reported = λ u1. grind arith; settles = λ u1 u2 u3. grind arith }
sane_acts {t} {i} {j} {y} {A} {J} kj aw ft v e (Accepted-wait c1) = record { low = grind arith; name = λ u1. grind arith; find_current = λ u1. grind arith; find_undecided = λ u1. grind arith; find_in_search = λ u1. grind arith; find_reported = λ u1. grind arith; find_changed = λ u1. grind arith; up_branch = λ u1. grind arith; up_parent = grind arith; parent_branch = λ u1. grind arith; ranked = grind arith; unchanged = λ u1 u2. grind arith; sleeping_reported = λ u1. grind arith; settles = λ u1 u2 u3. grind arith }
sane_acts {t} {i} {j} {y} {A} {J} kj aw ft v e (Rejected-ask k c1) = record { low = grind arith; name = λ u1. grind arith; find_current = λ u1. grind arith; find_undecided = λ u1. grind arith; find_in_search = λ u1. grind arith; find_reported = λ u1. grind arith; find_changed = λ u1. grind arith; up_branch = λ u1. grind arith; up_parent = grind arith; parent_branch = λ u1. grind arith; ranked = grind arith; unchanged = λ u1 u2. grind arith; sleeping_reported = λ u1. grind arith; settles = λ u1 u2 u3. grind arith }
sane_acts {t} {i} {j} {y} {A} {J} kj aw ft v e (Rejected-report c1 c2 c3) = record { low = grind arith; name = λ u1. grind arith; find_current = λ u1. grind arith; find_undecided = λ u1. grind arith; find_in_search = λ u1. grind arith; find_reported = λ u1. grind arith; find_changed = λ u1. grind arith; up_branch = λ u1. grind arith; up_parent = grind arith; parent_branch = λ u1. grind arith; ranked = grind arith; unchanged = λ u1 u2. grind arith; sleeping_reported = λ u1. grind arith; settles = λ u1 u2 u3. grind arith }
sane_acts {t} {i} {j} {y} {A} {J} kj aw ft v e (Rejected-wait c1 c2) = record { low = grind arith; name = λ u1. grind arith; find_current = λ u1. grind arith; find_undecided = λ u1. grind arith; find_in_search = λ u1. grind arith; find_reported = λ u1. grind arith; find_changed = λ u1. grind arith; up_branch = λ u1. grind arith; up_parent = grind arith; parent_branch = λ u1. grind arith; ranked = grind arith; unchanged = λ u1 u2. grind arith; sleeping_reported = λ u1. grind arith; settles = λ u1 u2 u3. grind arith }
sane_acts {t} {i} {j} {y} {A} {J} kj aw ft v e (Hears-report {w} c1 c2 c3) = let a = head_hears c1 e in record { low = grind arith; name = λ u1. grind arith; find_current = λ u1. grind arith; find_undecided = λ u1. grind arith; find_in_search = λ u1. grind arith; find_reported = λ u1. grind arith; find_changed = λ u1. grind arith; up_branch = λ u1. grind arith; up_parent = grind arith; parent_branch = λ u1. grind arith; ranked = grind arith; unchanged = λ u1 u2. grind arith; sleeping_reported = λ u1. grind arith; settles = λ u1 u2 u3. grind arith }
sane_acts {t} {i} {j} {y} {A} {J} kj aw ft v e (Hears-wait {w} c1 c2) = let a = head_hears c1 e in record { low = grind arith; name = λ u1. grind arith; find_current = λ u1. grind arith; find_undecided = λ u1. grind arith; find_in_search = λ u1. grind arith; find_reported = λ u1. grind arith; find_changed = λ u1. grind arith; up_branch = λ u1. grind arith; up_parent = grind arith; parent_branch = λ u1. grind arith; ranked = grind arith; unchanged = λ u1 u2. grind arith; sleeping_reported = λ u1. grind arith; settles = λ u1 u2 u3. grind arith }
sane_acts {t} {i} {j} {y} {A} {J} kj aw ft v e (Decides-passes {w} k c1 c2 c3 c4 c5) = let a = head_turn kj.mine c1 c2 c3 e in record { low = grind arith; name = λ u1. grind arith; find_current = λ u1. grind arith; find_undecided = λ u1. grind arith; find_in_search = λ u1. grind arith; find_reported = λ u1. grind arith; find_changed = λ u1. grind arith; up_branch = λ u1. grind arith; up_parent = grind arith; parent_branch = λ u1. grind arith; ranked = grind arith; unchanged = λ u1 u2. grind arith; sleeping_reported = λ u1. grind arith; settles = λ u1 u2 u3. grind arith }
sane_acts {t} {i} {j} {y} {A} {J} kj aw ft v e (Decides-joins {w} k c1 c2 c3 c4 c5) = let a = head_turn kj.mine c1 c2 c3 e in record { low = grind arith; name = λ u1. grind arith; find_current = λ u1. grind arith; find_undecided = λ u1. grind arith; find_in_search = λ u1. grind arith; find_reported = λ u1. grind arith; find_changed = λ u1. grind arith; up_branch = λ u1. grind arith; up_parent = grind arith; parent_branch = λ u1. grind arith; ranked = grind arith; unchanged = λ u1 u2. grind arith; sleeping_reported = λ u1. grind arith; settles = λ u1 u2 u3. grind arith }
sane_acts {t} {i} {j} {y} {A} {J} kj aw ft v e (Halts {w} c1 c2 c3 c4) = let a = head_end kj.mine c1 c2 c3 c4 e in record { low = grind arith; name = λ u1. grind arith; find_current = λ u1. grind arith; find_undecided = λ u1. grind arith; find_in_search = λ u1. grind arith; find_reported = λ u1. grind arith; find_changed = λ u1. grind arith; up_branch = λ u1. grind arith; up_parent = grind arith; parent_branch = λ u1. grind arith; ranked = grind arith; unchanged = λ u1 u2. grind arith; sleeping_reported = λ u1. grind arith; settles = λ u1 u2 u3. grind arith }
sane_acts {t} {i} {j} {y} {A} {J} kj aw ft v e (Rests {w} c1 c2 c3 c4) = record { low = grind arith; name = λ u1. grind arith; find_current = λ u1. grind arith; find_undecided = λ u1. grind arith; find_in_search = λ u1. grind arith; find_reported = λ u1. grind arith; find_changed = λ u1. grind arith; up_branch = λ u1. grind arith; up_parent = grind arith; parent_branch = λ u1. grind arith; ranked = grind arith; unchanged = λ u1 u2. grind arith; sleeping_reported = λ u1. grind arith; settles = λ u1 u2 u3. grind arith }
sane_acts {t} {i} {j} {y} {A} {J} kj aw ft v e (Changed-passes k c1 c2) = let a = head_change kj.same e in record { low = grind arith; name = λ u1. grind arith; find_current = λ u1. grind arith; find_undecided = λ u1. grind arith; find_in_search = λ u1. grind arith; find_reported = λ u1. grind arith; find_changed = λ u1. grind arith; up_branch = λ u1. grind arith; up_parent = grind arith; parent_branch = λ u1. grind arith; ranked = grind arith; unchanged = λ u1 u2. grind arith; sleeping_reported = λ u1. grind arith; settles = λ u1 u2 u3. grind arith }
sane_acts {t} {i} {j} {y} {A} {J} kj aw ft v e (Changed-joins k c1 c2) = let a = head_change kj.same e in record { low = grind arith; name = λ u1. grind arith; find_current = λ u1. grind arith; find_undecided = λ u1. grind arith; find_in_search = λ u1. grind arith; find_reported = λ u1. grind arith; find_changed = λ u1. grind arith; up_branch = λ u1. grind arith; up_parent = grind arith; parent_branch = λ u1. grind arith; ranked = grind arith; unchanged = λ u1 u2. grind arith; sleeping_reported = λ u1. grind arith; settles = λ u1 u2 u3. grind arith }

-- the others: C acts, J sent
pub sane_absorb : {y : ℕ} {B : View} (C J : View) → (B.own.label ≡ C.own.label → B.fragment ≡ C.fragment) → (B.own.label ≡ J.own.label → B.fragment ≡ J.fragment) → C.held.level ≤ C.fragment.level → J.held.level < C.held.level → J.held.level ≡ J.fragment.level → (z : Option ℕ) → J.fragment.least ≡ decided z → Sane y B → Sane y (follow absorb C J B)
sane_absorb {y} {B} C J bc bj c l k z f v = elim (eqb_tells B.own.label J.own.label) [ inl t ↦ let sk : B.held.status ≡ Find → ⊥ = λ u. grind arith in let lt : B.held.level < C.fragment.level = grind arith in record { low = grind arith; name = λ u1. grind arith; find_current = λ u1. grind arith; find_undecided = λ u1. grind arith; find_in_search = λ u1. grind arith; find_reported = λ u1. grind arith; find_changed = λ u1. grind arith; up_branch = λ u1. grind arith; up_parent = grind arith; parent_branch = λ u1. grind arith; ranked = grind arith; unchanged = λ u1 u2. grind arith; sleeping_reported = λ u1. grind arith; settles = λ u1 u2 u3. grind arith } | inr t ↦ record { low = grind arith; name = λ u1. grind arith; find_current = λ u1. grind arith; find_undecided = λ u1. grind arith; find_in_search = λ u1. grind arith; find_reported = λ u1. grind arith; find_changed = λ u1. grind arith; up_branch = λ u1. grind arith; up_parent = grind arith; parent_branch = λ u1. grind arith; ranked = grind arith; unchanged = λ u1 u2. grind arith; sleeping_reported = λ u1. grind arith; settles = λ u1 u2 u3. grind arith } ]

pub sane_merge : {y : ℕ} (w : ℕ) {B : View} (C J : View) → (B.own.label ≡ C.own.label → B.fragment ≡ C.fragment) → (B.own.label ≡ J.own.label → B.fragment ≡ J.fragment) → C.held.level ≡ C.fragment.level → J.held.level ≡ C.held.level → J.held.level ≡ J.fragment.level → (z : Option ℕ) → J.fragment.least ≡ decided z → C.fragment.least ≡ decided z → Sane y B → Sane y (follow (merge w) C J B)
sane_merge {y} w {B} C J bc bj c l k z f h v = elim (eqb_tells B.own.label J.own.label) [ inl t ↦ let sk : B.held.status ≡ Find → ⊥ = λ u. grind arith in let lt : B.held.level ≤ C.held.level = grind arith in record { low = grind arith; name = λ u1. grind arith; find_current = λ u1. grind arith; find_undecided = λ u1. grind arith; find_in_search = λ u1. grind arith; find_reported = λ u1. grind arith; find_changed = λ u1. grind arith; up_branch = λ u1. grind arith; up_parent = grind arith; parent_branch = λ u1. grind arith; ranked = grind arith; unchanged = λ u1 u2. grind arith; sleeping_reported = λ u1. grind arith; settles = λ u1 u2 u3. grind arith } | inr t ↦ elim (eqb_tells B.own.label C.own.label) [ inl o ↦ let sk : B.held.status ≡ Find → ⊥ = λ u. grind arith in let lt : B.held.level ≤ C.held.level = grind arith in record { low = grind arith; name = λ u1. grind arith; find_current = λ u1. grind arith; find_undecided = λ u1. grind arith; find_in_search = λ u1. grind arith; find_reported = λ u1. grind arith; find_changed = λ u1. grind arith; up_branch = λ u1. grind arith; up_parent = grind arith; parent_branch = λ u1. grind arith; ranked = grind arith; unchanged = λ u1 u2. grind arith; sleeping_reported = λ u1. grind arith; settles = λ u1 u2 u3. grind arith } | inr o ↦ record { low = grind arith; name = λ u1. grind arith; find_current = λ u1. grind arith; find_undecided = λ u1. grind arith; find_in_search = λ u1. grind arith; find_reported = λ u1. grind arith; find_changed = λ u1. grind arith; up_branch = λ u1. grind arith; up_parent = grind arith; parent_branch = λ u1. grind arith; ranked = grind arith; unchanged = λ u1 u2. grind arith; sleeping_reported = λ u1. grind arith; settles = λ u1 u2 u3. grind arith } ] ]

-- nobody of C's fragment seeks
pub sane_decide : {y : ℕ} (me k : ℕ) {B : View} (C J : View) → (B.own.label ≡ C.own.label → B.fragment ≡ C.fragment) → (B.own.label ≡ C.own.label → B.held.status ≡ Find → ⊥) → Sane y B → Sane y (follow (decide me k) C J B)
sane_decide {y} me k {B} C J bc n v = elim (eqb_tells B.own.label C.own.label) [ inl t ↦ let sk : B.held.status ≡ Find → ⊥ = n t.1 in record { low = grind arith; name = λ u1. grind arith; find_current = λ u1. grind arith; find_undecided = λ u1. grind arith; find_in_search = λ u1. grind arith; find_reported = λ u1. grind arith; find_changed = λ u1. grind arith; up_branch = λ u1. grind arith; up_parent = grind arith; parent_branch = λ u1. grind arith; ranked = grind arith; unchanged = λ u1 u2. grind arith; sleeping_reported = λ u1. grind arith; settles = λ u1 u2 u3. grind arith } | inr t ↦ record { low = grind arith; name = λ u1. grind arith; find_current = λ u1. grind arith; find_undecided = λ u1. grind arith; find_in_search = λ u1. grind arith; find_reported = λ u1. grind arith; find_changed = λ u1. grind arith; up_branch = λ u1. grind arith; up_parent = grind arith; parent_branch = λ u1. grind arith; ranked = grind arith; unchanged = λ u1 u2. grind arith; sleeping_reported = λ u1. grind arith; settles = λ u1 u2 u3. grind arith } ]

pub sane_end : {y : ℕ} {B : View} (C J : View) → (B.own.label ≡ C.own.label → B.fragment ≡ C.fragment) → (B.own.label ≡ C.own.label → B.held.status ≡ Find → ⊥) → Sane y B → Sane y (follow end C J B)
sane_end {y} {B} C J bc n v = elim (eqb_tells B.own.label C.own.label) [ inl t ↦ let sk : B.held.status ≡ Find → ⊥ = n t.1 in record { low = grind arith; name = λ u1. grind arith; find_current = λ u1. grind arith; find_undecided = λ u1. grind arith; find_in_search = λ u1. grind arith; find_reported = λ u1. grind arith; find_changed = λ u1. grind arith; up_branch = λ u1. grind arith; up_parent = grind arith; parent_branch = λ u1. grind arith; ranked = grind arith; unchanged = λ u1 u2. grind arith; sleeping_reported = λ u1. grind arith; settles = λ u1 u2 u3. grind arith } | inr t ↦ record { low = grind arith; name = λ u1. grind arith; find_current = λ u1. grind arith; find_undecided = λ u1. grind arith; find_in_search = λ u1. grind arith; find_reported = λ u1. grind arith; find_changed = λ u1. grind arith; up_branch = λ u1. grind arith; up_parent = grind arith; parent_branch = λ u1. grind arith; ranked = grind arith; unchanged = λ u1 u2. grind arith; sleeping_reported = λ u1. grind arith; settles = λ u1 u2 u3. grind arith } ]

pub sane_change : {y : ℕ} (me k : ℕ) {B : View} (C J : View) → (B.own.label ≡ C.own.label → B.fragment ≡ C.fragment) → Sane y B → Sane y (follow (change me k) C J B)
sane_change {y} me k {B} C J bc v = record { low = grind arith; name = λ u1. grind arith; find_current = λ u1. grind arith; find_undecided = λ u1. grind arith; find_in_search = λ u1. grind arith; find_reported = λ u1. grind arith; find_changed = λ u1. grind arith; up_branch = λ u1. grind arith; up_parent = grind arith; parent_branch = λ u1. grind arith; ranked = grind arith; unchanged = λ u1 u2. grind arith; sleeping_reported = λ u1. grind arith; settles = λ u1 u2 u3. grind arith }

pub sane_idle : {y : ℕ} {B : View} (C J : View) → (B.own.label ≡ C.own.label → B.fragment ≡ C.fragment) → Sane y B → Sane y (follow idle C J B)
sane_idle {y} {B} C J bc v = record { low = grind arith; name = λ u1. grind arith; find_current = λ u1. grind arith; find_undecided = λ u1. grind arith; find_in_search = λ u1. grind arith; find_reported = λ u1. grind arith; find_changed = λ u1. grind arith; up_branch = λ u1. grind arith; up_parent = grind arith; parent_branch = λ u1. grind arith; ranked = grind arith; unchanged = λ u1 u2. grind arith; sleeping_reported = λ u1. grind arith; settles = λ u1 u2 u3. grind arith }

pub sane_wake : {t : Graph} {i y : ℕ} {A : View} (J : View) {g : Held} {os : List Send} → A.held.status ≡ Sleeping → A.held.level ≡ 0 → A.fragment.level ≡ 0 → A.held.name ≡ A.fragment.name → A.held.parent ≡ None → Sane y A → (d : Deed t i A.held woke g os) → Sane y (acted (turn d) g A J)
sane_wake {A = A} J a b c e f v (Alone c1) = record { low = grind arith; name = λ u1. grind arith; find_current = λ u1. grind arith; find_undecided = λ u1. grind arith; find_in_search = λ u1. grind arith; find_reported = λ u1. grind arith; find_changed = λ u1. grind arith; up_branch = λ u1. grind arith; up_parent = grind arith; parent_branch = λ u1. grind arith; ranked = grind arith; unchanged = λ u1 u2. grind arith; sleeping_reported = λ u1. grind arith; settles = λ u1 u2 u3. grind arith }
sane_wake {A = A} J a b c e f v (WokeTo k c1) = record { low = grind arith; name = λ u1. grind arith; find_current = λ u1. grind arith; find_undecided = λ u1. grind arith; find_in_search = λ u1. grind arith; find_reported = λ u1. grind arith; find_changed = λ u1. grind arith; up_branch = λ u1. grind arith; up_parent = grind arith; parent_branch = λ u1. grind arith; ranked = grind arith; unchanged = λ u1 u2. grind arith; sleeping_reported = λ u1. grind arith; settles = λ u1 u2 u3. grind arith }
