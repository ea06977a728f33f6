-- What each deed does to the best edges: of the node that acts, and of its neighbours that have their best edge to it.
use Rattle.std.proofs.Common.{◌≡◌, ℕ, ◌≤◌, Bool, true, false, cond, eqb, List, ◌∷◌, ◌++◌, Some, None, Option, sym, refl, ◌∙◌, inl, inr, arith}
use Rattle.message.specs.declared.messages.Message.{Message}
use Rattle.message.specs.declared.messages.Message.TheVariants.{Connect, Report, Change}
use Rattle.node.specs.declared.state.Status.TheVariants.{Sleeping, Find}
use Rattle.graph.specs.declared.mark.Mark.TheVariants.{Basic, Branch}
use Rattle.node.specs.Rules.{is_find, lighter}
use Rattle.graph.specs.Graph.{Graph}
use Rattle.protocol.proofs.Chain.{bool, down_low}
use Rattle.protocol.proofs.Choice.{Answered, Spread, absorbing, merging, again, calm}
use Rattle.protocol.proofs.Control.{control1}
use Rattle.protocol.proofs.Deed.{woke, got, Deed, Alone, WokeTo, Absorbs, Merges, Begins, Searches-ask, Searches-report, Searches-wait, Accepts, Rejects, Crosses-ask, Crosses-report, Crosses-wait, Accepted-report, Accepted-wait, Rejected-ask, Rejected-report, Rejected-wait, Hears-report, Hears-wait, Decides-passes, Decides-joins, Halts, Rests, Changed-passes, Changed-joins}
use Rattle.protocol.proofs.Deeds.{Knows, Suits}
use Rattle.protocol.proofs.Else.{Labels}
use Rattle.protocol.proofs.Ghost.{Turn, View, idle, starts, absorb, begin, report, decide, change, end, turn, follow, acted}
use Rattle.protocol.proofs.Heads.{head_absorb, head_merge, head_begin, head_change, head_hears}
use Rattle.protocol.proofs.Held.{Send, Held, put, marking, rejecting, testing_now, finding, counting, hearing, halting, bettering, joining, woken_held}
use Rattle.protocol.proofs.Leads.{Leads, leads_absorb, leads_merge}
use Rattle.protocol.proofs.Mode.{tells, Mode, free, offered, offers, crossing, took, taken, merged, ahead, behind, core, told, above, below, Sane}
use Rattle.protocol.proofs.Turn.{Best}
use Rattle.message.specs.declared.messages.Phase.TheVariants as phase

-- who takes the connect of its own level has sent its own
head_joins : {x y w : ℕ} {A B : View} {p q : List Message} {l : ℕ} → A.held.level ≤ l → (A.held.mark y ≡ Basic → ⊥) → Mode x y w A B p (Connect l ∷ q) → A.own.changed ≡ true
head_joins c d (free v) = absurd (grind arith)
head_joins c d (offered v) = absurd (grind arith)
head_joins c d (offers v) = absurd (grind arith)
head_joins c d (crossing v) = grind arith
head_joins c d (took v) = absurd (grind arith)
head_joins c d (taken v) = grind arith
head_joins c d (merged v) = absurd (grind arith)
head_joins c d (ahead v) = absurd (grind arith)
head_joins c d (behind v) = absurd (grind arith)
head_joins c d (core v) = absurd (grind arith)
head_joins c d (tells v) = absurd (grind arith)
head_joins c d (told v) = absurd (grind arith)
head_joins c d (above v) = absurd (grind arith)
head_joins c d (below v) = absurd (grind arith)

-- a report that decides comes from the other end of the core
head_core : {x y w : ℕ} {A B : View} {p q : List Message} {r : Option ℕ} → A.held.parent ≡ Some y → lighter A.held.best_weight r ≡ true → Mode x y w A B p (Report r ∷ q) → Sane y A → (A.held.status ≡ Find → ⊥) → B.held.parent ≡ Some x
head_core a c (free v) n b = absurd (grind arith)
head_core a c (offered v) n b = absurd (grind arith)
head_core a c (offers v) n b = absurd (grind arith)
head_core a c (crossing v) n b = absurd (grind arith)
head_core a c (took v) n b = absurd (grind arith)
head_core a c (taken v) n b = absurd (grind arith)
head_core a c (merged v) n b = absurd (grind arith)
head_core a c (ahead v) n b = absurd (grind arith)
head_core a c (behind v) n b = absurd (grind arith)
head_core a c (core v) n b = grind arith
head_core a c (tells v) n b = absurd (grind arith)
head_core a c (told v) n b = absurd (grind arith)
head_core a c (above v) n b = absurd (grind arith)
head_core a c (below v) n b = absurd (grind arith)

-- who tells to change has changed
head_changed : {x y w : ℕ} {A B : View} {p q : List Message} → Mode x y w A B p (Change ∷ q) → B.own.changed ≡ true
head_changed (free v) = absurd (grind arith)
head_changed (offered v) = absurd (grind arith)
head_changed (offers v) = absurd (grind arith)
head_changed (crossing v) = absurd (grind arith)
head_changed (took v) = absurd (grind arith)
head_changed (taken v) = absurd (grind arith)
head_changed (merged v) = absurd (grind arith)
head_changed (ahead v) = absurd (grind arith)
head_changed (behind v) = absurd (grind arith)
head_changed (core v) = absurd (grind arith)
head_changed (tells v) = absurd (grind arith)
head_changed (told v) = grind arith
head_changed (above v) = absurd (grind arith)
head_changed (below v) = absurd (grind arith)

-- B hangs below A and has reported
abbrev Under : ℕ → View → View → Type 0
Under x A B = (B.held.parent ≡ Some x) × (B.own.reported ≡ true) × (B.own.changed ≡ false) × (B.held.level ≡ A.held.level) × (B.held.name ≡ A.held.name) × (B.held.best_weight ≡ A.held.best_weight)

-- a report from below tells of the best edge of one that has reported
record Heard (x y : ℕ) (A B : View) (r : Option ℕ) : Type 0 where
  pub mark : A.held.mark y ≡ Branch
  pub weight : r ≡ B.held.best_weight
  pub parent : B.held.parent ≡ Some x
  pub reported : B.own.reported ≡ true
  pub changed : B.own.changed ≡ false
  pub level : B.held.level ≡ A.held.level
  pub name : B.held.name ≡ A.held.name

head_heard : {x y w : ℕ} {A B : View} {p q : List Message} {r : Option ℕ} → (A.held.parent ≡ Some y → ⊥) → Sane y A → Sane x B → (A.own.label ≡ B.own.label → A.fragment ≡ B.fragment) → Mode x y w A B p (Report r ∷ q) → Heard x y A B r
head_heard {x} {y} {w} {A} {B} {p} {q} a sa sb same (free v) = absurd (grind arith)
head_heard {x} {y} {w} {A} {B} {p} {q} a sa sb same (offered v) = absurd (grind arith)
head_heard {x} {y} {w} {A} {B} {p} {q} a sa sb same (offers v) = absurd (grind arith)
head_heard {x} {y} {w} {A} {B} {p} {q} a sa sb same (crossing v) = absurd (grind arith)
head_heard {x} {y} {w} {A} {B} {p} {q} a sa sb same (took v) = absurd (grind arith)
head_heard {x} {y} {w} {A} {B} {p} {q} a sa sb same (taken v) = absurd (grind arith)
head_heard {x} {y} {w} {A} {B} {p} {q} a sa sb same (merged v) = absurd (grind arith)
head_heard {x} {y} {w} {A} {B} {p} {q} a sa sb same (ahead v) = absurd (grind arith)
head_heard {x} {y} {w} {A} {B} {p} {q} a sa sb same (behind v) = absurd (grind arith)
head_heard {x} {y} {w} {A} {B} {p} {q} a sa sb same (core v) = absurd (grind arith)
head_heard {x} {y} {w} {A} {B} {p} {q} a sa sb same (tells v) = absurd (grind arith)
head_heard {x} {y} {w} {A} {B} {p} {q} a sa sb same (told v) = absurd (grind arith)
head_heard {x} {y} {w} {A} {B} {p} {q} a sa sb same (above v) = let low = down_low x w A.held.level A.held.name A.held.status B.held B.own.reported p v.down in let f = same v.same in record { mark = v.mark_a; weight = grind arith; parent = grind arith; reported = grind arith; changed = sb.unchanged (grind arith) (grind arith); level = grind arith; name = grind arith }
head_heard {x} {y} {w} {A} {B} {p} {q} a sa sb same (below v) = absurd (grind arith)

-- the two ends of a branch that one has and that leads to the other's parent are of one fragment
together : {x y w : ℕ} {A B : View} {p q : List Message} → A.held.mark y ≡ Branch → B.held.mark x ≡ Branch → A.own.changed ≡ false → Mode y x w B A p q → A.own.label ≡ B.own.label
together a b c (free v) = absurd (grind arith)
together a b c (offered v) = absurd (grind arith)
together a b c (offers v) = absurd (grind arith)
together a b c (crossing v) = absurd (grind arith)
together a b c (took v) = grind arith
together a b c (taken v) = grind arith
together a b c (merged v) = grind arith
together a b c (ahead v) = grind arith
together a b c (behind v) = grind arith
together a b c (core v) = grind arith
together a b c (tells v) = grind arith
together a b c (told v) = grind arith
together a b c (above v) = grind arith
together a b c (below v) = grind arith

-- neither end acts
pub leads_far : {x y w : ℕ} {A B : View} {u : Turn} (C J : View) → Labels A B C J → Sane y A → Sane x B → Spread C J u → Leads x y w A B → Leads x y w (follow u C J A) (follow u C J B)
leads_far C J n sa sb (absorbing c l k d) v = leads_absorb C J n sa sb c l k v
leads_far C J n sa sb (merging z c l k d) v = leads_merge z C J n sa sb c l k d v
leads_far {A = A} {B} C J n sa sb (again z e) v = λ c u b. let cu : A.held.level ≡ A.fragment.level = grind arith in let o = v c cu b in record { mark = o.mark; parent = o.parent; out = λ h. ((o.out h).0, (λ k. (o.out h).1 (grind arith)), (o.out h).2); on = o.on }
leads_far {A = A} {B} C J n sa sb (calm f m) v = λ c u b. let ma = m A.own.label in let mb = m B.own.label in let cu : A.held.level ≡ A.fragment.level = grind arith in let o = v c cu b in record { mark = o.mark; parent = o.parent; out = λ h. ((o.out h).0, (λ k. (o.out h).1 (grind arith)), (o.out h).2); on = o.on }

-- A becomes A', with the same best edge as far as y is concerned
leads_as : {x y w : ℕ} {A B : View} (A' : View) → Leads x y w A B → (A'.own.changed ≡ false → A.own.changed ≡ false) → (A'.held.best ≡ Some y → (A.held.best ≡ Some y) × (A'.held.best_weight ≡ A.held.best_weight)) → A'.held.mark y ≡ A.held.mark y → A'.held.level ≡ A.held.level → A'.fragment.level ≡ A.fragment.level → A'.held.parent ≡ A.held.parent → A'.held.name ≡ A.held.name → A'.own.label ≡ A.own.label → Leads x y w A' B
leads_as {x} {y} {w} {A} {B} A' v ch be mk lv fl pa na la c u b = let e = be b in let o = v (ch c) (grind arith) e.0 in record { mark = grind arith; parent = λ h. o.parent (sym pa ∙ h); out = λ h. grind arith; on = λ h. grind arith }

-- B becomes B'
leads_to : {x y w : ℕ} {A B : View} (B' : View) → Leads x y w A B → B.held.level ≤ B'.held.level → B'.own.label ≡ B.own.label → (A.own.changed ≡ false → A.held.level ≡ A.fragment.level → (A.held.parent ≡ Some y → ⊥) → A.held.mark y ≡ Branch → Under x A B → Under x A B') → Leads x y w A B'
leads_to {x} {y} {w} {A} {B} B' v lv la un c u b = let o = v c u b in record { mark = o.mark; parent = o.parent; out = λ h. grind arith; on = λ h. un c u o.parent h (o.on h) }

-- a best edge inside the fragment is a branch
inside_branch : {x y w : ℕ} {A B : View} → Best x y w A B → A.own.label ≡ B.own.label → A.held.mark y ≡ Branch
inside_branch o e = elim o.mark [ inl h ↦ absurd ((o.out h).1 e) | inr h ↦ h ]

-- the edge that the message came by
pub leads_over : {t : Graph} {i y : ℕ} {A B : View} {m : Message} {g : Held} {os : List Send} {p q : List Message} → Knows t i y A B p q → Suits m A B → Answered y m A B → Mode i y (t.weight i y) A B p (control1 m ++ q) → (d : Deed t i A.held (got y m) g os) → Leads i y (t.weight i y) A B → Leads i y (t.weight i y) (acted (turn d) g A B) (follow (turn d) A B B)
leads_over {t} {i} {y} {A} {B} {p = p} {q} kj ft an e (Absorbs {l} c1) v = λ c u b. let a = head_absorb c1 e in let cu : A.held.level ≡ A.fragment.level = grind arith in let o = v c cu b in absurd (grind arith)
leads_over {t} {i} {y} {A} {B} {p = p} {q} kj ft an e (Merges {l} c1 c2) v = λ c u b. absurd (let a = head_joins c1 c2 e in grind arith)
leads_over {t} {i} {y} {A} {B} {p = p} {q} kj ft an e (Begins {l} {f} {s} c1) v = λ c u b. absurd (grind arith)
leads_over {t} {i} {y} {A} {B} {p = p} {q} kj ft an e (Searches-ask {l} {f} k c1) v = λ c u b. absurd (grind arith)
leads_over {t} {i} {y} {A} {B} {p = p} {q} kj ft an e (Searches-report {l} {f} c1 c2 c3) v = λ c u b. absurd (grind arith)
leads_over {t} {i} {y} {A} {B} {p = p} {q} kj ft an e (Searches-wait {l} {f} c1 c2) v = λ c u b. absurd (grind arith)
leads_over {t} {i} {y} {A} {B} {p = p} {q} kj ft an e (Accepts {l} {f} c1 c2) v = λ c u b. let cu : A.held.level ≡ A.fragment.level = grind arith in let o = v c cu b in record { mark = grind arith; parent = λ h. grind arith; out = λ h. grind arith; on = λ h. grind arith }
leads_over {t} {i} {y} {A} {B} {p = p} {q} kj ft an e (Rejects {l} {f} c1 c2 c3) v = λ c u b. let cu : A.held.level ≡ A.fragment.level = grind arith in let o = v c cu b in let z = inside_branch o (ft c2) in record { mark = grind arith; parent = λ h. grind arith; out = λ h. grind arith; on = λ h. grind arith }
leads_over {t} {i} {y} {A} {B} {p = p} {q} kj ft an e (Crosses-ask {l} {f} k c1 c2 c3 c4) v = λ c u b. let cu : A.held.level ≡ A.fragment.level = grind arith in let o = v c cu b in let z = inside_branch o (ft c2) in record { mark = grind arith; parent = λ h. grind arith; out = λ h. grind arith; on = λ h. grind arith }
leads_over {t} {i} {y} {A} {B} {p = p} {q} kj ft an e (Crosses-report {l} {f} c1 c2 c3 c4 c5 c6) v = λ c u b. let cu : A.held.level ≡ A.fragment.level = grind arith in let o = v c cu b in let z = inside_branch o (ft c2) in record { mark = grind arith; parent = λ h. grind arith; out = λ h. grind arith; on = λ h. grind arith }
leads_over {t} {i} {y} {A} {B} {p = p} {q} kj ft an e (Crosses-wait {l} {f} c1 c2 c3 c4 c5) v = λ c u b. let cu : A.held.level ≡ A.fragment.level = grind arith in let o = v c cu b in let z = inside_branch o (ft c2) in record { mark = grind arith; parent = λ h. grind arith; out = λ h. grind arith; on = λ h. grind arith }
leads_over {t} {i} {y} {A} {B} {p = p} {q} kj ft an e (Accepted-report c1 c2) v = elim (bool (lighter (Some (t.weight i y)) A.held.best_weight)) [ inl s ↦ (λ c u b. record { mark = inl an.1; parent = λ h. absurd (let z = kj.mine.parent_branch h in let k = an.1 in grind arith); out = λ h. (grind arith, (λ k. an.2 (grind arith)), an.3); on = λ h. absurd (let k = an.1 in grind arith) }) | inr s ↦ (λ c u b. let cu : A.held.level ≡ A.fragment.level = grind arith in let o = v c cu (grind arith) in record { mark = grind arith; parent = λ h. grind arith; out = λ h. grind arith; on = λ h. grind arith }) ]
leads_over {t} {i} {y} {A} {B} {p = p} {q} kj ft an e (Accepted-wait c1) v = elim (bool (lighter (Some (t.weight i y)) A.held.best_weight)) [ inl s ↦ (λ c u b. record { mark = inl an.1; parent = λ h. absurd (let z = kj.mine.parent_branch h in let k = an.1 in grind arith); out = λ h. (grind arith, (λ k. an.2 (grind arith)), an.3); on = λ h. absurd (let k = an.1 in grind arith) }) | inr s ↦ (λ c u b. let cu : A.held.level ≡ A.fragment.level = grind arith in let o = v c cu (grind arith) in record { mark = grind arith; parent = λ h. grind arith; out = λ h. grind arith; on = λ h. grind arith }) ]
leads_over {t} {i} {y} {A} {B} {p = p} {q} kj ft an e (Rejected-ask k c1) v = λ c u b. let cu : A.held.level ≡ A.fragment.level = grind arith in let o = v c cu b in let z = inside_branch o ft.1 in record { mark = grind arith; parent = λ h. grind arith; out = λ h. grind arith; on = λ h. grind arith }
leads_over {t} {i} {y} {A} {B} {p = p} {q} kj ft an e (Rejected-report c1 c2 c3) v = λ c u b. let cu : A.held.level ≡ A.fragment.level = grind arith in let o = v c cu b in let z = inside_branch o ft.1 in record { mark = grind arith; parent = λ h. grind arith; out = λ h. grind arith; on = λ h. grind arith }
leads_over {t} {i} {y} {A} {B} {p = p} {q} kj ft an e (Rejected-wait c1 c2) v = λ c u b. let cu : A.held.level ≡ A.fragment.level = grind arith in let o = v c cu b in let z = inside_branch o ft.1 in record { mark = grind arith; parent = λ h. grind arith; out = λ h. grind arith; on = λ h. grind arith }
leads_over {t} {i} {y} {A} {B} {p = p} {q} kj ft an e (Hears-report {w} c1 c2 c3) v = let a = head_heard c1 kj.mine kj.theirs kj.same e in elim (bool (lighter w A.held.best_weight)) [ inl s ↦ (λ c u b. record { mark = inr a.mark; parent = c1; out = λ h. absurd (let k = a.mark in grind arith); on = λ h. (a.parent, a.reported, a.changed, a.level, a.name, grind arith) }) | inr s ↦ (λ c u b. let cu : A.held.level ≡ A.fragment.level = grind arith in let o = v c cu (grind arith) in record { mark = grind arith; parent = λ h. grind arith; out = λ h. grind arith; on = λ h. grind arith }) ]
leads_over {t} {i} {y} {A} {B} {p = p} {q} kj ft an e (Hears-wait {w} c1 c2) v = let a = head_heard c1 kj.mine kj.theirs kj.same e in elim (bool (lighter w A.held.best_weight)) [ inl s ↦ (λ c u b. record { mark = inr a.mark; parent = c1; out = λ h. absurd (let k = a.mark in grind arith); on = λ h. (a.parent, a.reported, a.changed, a.level, a.name, grind arith) }) | inr s ↦ (λ c u b. let cu : A.held.level ≡ A.fragment.level = grind arith in let o = v c cu (grind arith) in record { mark = grind arith; parent = λ h. grind arith; out = λ h. grind arith; on = λ h. grind arith }) ]
leads_over {t} {i} {y} {A} {B} {p = p} {q} kj ft an e (Decides-passes {w} k c1 c2 c3 c4 c5) v = λ c u b. absurd (grind arith)
leads_over {t} {i} {y} {A} {B} {p = p} {q} kj ft an e (Decides-joins {w} k c1 c2 c3 c4 c5) v = λ c u b. absurd (grind arith)
leads_over {t} {i} {y} {A} {B} {p = p} {q} kj ft an e (Halts {w} c1 c2 c3 c4) v = λ c u b. let cu : A.held.level ≡ A.fragment.level = grind arith in let o = v c cu b in record { mark = grind arith; parent = λ h. grind arith; out = λ h. grind arith; on = λ h. grind arith }
leads_over {t} {i} {y} {A} {B} {p = p} {q} kj ft an e (Rests {w} c1 c2 c3 c4) v = λ c u b. let cu : A.held.level ≡ A.fragment.level = grind arith in let o = v c cu b in record { mark = grind arith; parent = λ h. grind arith; out = λ h. grind arith; on = λ h. grind arith }
leads_over {t} {i} {y} {A} {B} {p = p} {q} kj ft an e (Changed-passes k c1 c2) v = λ c u b. absurd (grind arith)
leads_over {t} {i} {y} {A} {B} {p = p} {q} kj ft an e (Changed-joins k c1 c2) v = λ c u b. absurd (grind arith)

better_else : (j y : ℕ) (w z : Option ℕ) (b : Option ℕ) → (y ≡ j → ⊥) → cond (lighter w z) (Some j) b ≡ Some y → (b ≡ Some y) × (cond (lighter w z) w z ≡ z)
better_else j y w z b d e = go (lighter w z) e
  where
    go : (s : Bool) → cond s (Some j) b ≡ Some y → (b ≡ Some y) × (cond s w z ≡ z)
    go true e = absurd (d (grind arith))
    go false e = (e, refl)

-- its other edges
pub leads_beside : {t : Graph} {i j y w : ℕ} {A B J : View} {m : Message} {g : Held} {os : List Send} {p q : List Message} → Knows t i j A J p q → (y ≡ j → ⊥) → Labels A B A J → Sane y A → Sane i B → Mode i j (t.weight i j) A J p (control1 m ++ q) → (d : Deed t i A.held (got j m) g os) → Leads i y w A B → Leads i y w (acted (turn d) g A J) (follow (turn d) A J B)
leads_beside {t} {i} {j} {y} {A = A} {B} {J} kj ne lab sa sb e (Absorbs {l} c1) v = let a = head_absorb c1 e in leads_as (acted absorb (counting (cond (is_find A.held.status) 1 0) (marking j Branch A.held)) A J) (leads_far A J lab sa sb (absorbing kj.mine.low a.low a.current a.differ) v) (λ c. c) (λ b. (b, refl)) (grind arith) refl refl refl refl refl
leads_beside {t} {i} {j} {y} {A = A} {B} {J} kj ne lab sa sb e (Merges {l} c1 c2) v = leads_far A J lab sa sb (elim (head_merge c1 c2 e) [ inl a ↦ merging (t.weight i j) a.current_a a.levels a.current a.differ | inr u ↦ again (t.weight i j) u ]) v
leads_beside {t} {i} {j} {y} {A = A} {B} {J} kj ne lab sa sb e (Begins {l} {f} {s} c1) v = λ c u b. absurd (grind arith)
leads_beside {t} {i} {j} {y} {A = A} {B} {J} kj ne lab sa sb e (Searches-ask {l} {f} k c1) v = λ c u b. absurd (grind arith)
leads_beside {t} {i} {j} {y} {A = A} {B} {J} kj ne lab sa sb e (Searches-report {l} {f} c1 c2 c3) v = λ c u b. absurd (grind arith)
leads_beside {t} {i} {j} {y} {A = A} {B} {J} kj ne lab sa sb e (Searches-wait {l} {f} c1 c2) v = λ c u b. absurd (grind arith)
leads_beside {t} {i} {j} {y} {A = A} {B} {J} kj ne lab sa sb e (Accepts {l} {f} c1 c2) v = leads_far {u = idle} A J lab sa sb (calm refl (λ z. refl)) v
leads_beside {t} {i} {j} {y} {A = A} {B} {J} kj ne lab sa sb e (Rejects {l} {f} c1 c2 c3) v = leads_as (acted idle (rejecting j A.held) A J) (leads_far {u = idle} A J lab sa sb (calm refl (λ z. refl)) v) (λ c. c) (λ b. (b, refl)) (grind arith) refl refl refl refl refl
leads_beside {t} {i} {j} {y} {A = A} {B} {J} kj ne lab sa sb e (Crosses-ask {l} {f} k c1 c2 c3 c4) v = leads_as (acted idle (testing_now (Some k) (rejecting j A.held)) A J) (leads_far {u = idle} A J lab sa sb (calm refl (λ z. refl)) v) (λ c. c) (λ b. (b, refl)) (grind arith) refl refl refl refl refl
leads_beside {t} {i} {j} {y} {A = A} {B} {J} kj ne lab sa sb e (Crosses-report {l} {f} c1 c2 c3 c4 c5 c6) v = leads_as (acted report (finding (testing_now None (rejecting j A.held))) A J) (leads_far {u = report} A J lab sa sb (calm refl (λ z. refl)) v) (λ c. c) (λ b. (b, refl)) (grind arith) refl refl refl refl refl
leads_beside {t} {i} {j} {y} {A = A} {B} {J} kj ne lab sa sb e (Crosses-wait {l} {f} c1 c2 c3 c4 c5) v = leads_as (acted idle (testing_now None (rejecting j A.held)) A J) (leads_far {u = idle} A J lab sa sb (calm refl (λ z. refl)) v) (λ c. c) (λ b. (b, refl)) (grind arith) refl refl refl refl refl
leads_beside {t} {i} {j} {y} {A = A} {B} {J} kj ne lab sa sb e (Accepted-report c1 c2) v = leads_as (acted report (finding (bettering j (Some (t.weight i j)) (testing_now None A.held))) A J) (leads_far {u = report} A J lab sa sb (calm refl (λ z. refl)) v) (λ c. c) (λ b. better_else j y (Some (t.weight i j)) A.held.best_weight A.held.best ne b) refl refl refl refl refl refl
leads_beside {t} {i} {j} {y} {A = A} {B} {J} kj ne lab sa sb e (Accepted-wait c1) v = leads_as (acted idle (bettering j (Some (t.weight i j)) (testing_now None A.held)) A J) (leads_far {u = idle} A J lab sa sb (calm refl (λ z. refl)) v) (λ c. c) (λ b. better_else j y (Some (t.weight i j)) A.held.best_weight A.held.best ne b) refl refl refl refl refl refl
leads_beside {t} {i} {j} {y} {A = A} {B} {J} kj ne lab sa sb e (Rejected-ask k c1) v = leads_as (acted idle (testing_now (Some k) (rejecting j A.held)) A J) (leads_far {u = idle} A J lab sa sb (calm refl (λ z. refl)) v) (λ c. c) (λ b. (b, refl)) (grind arith) refl refl refl refl refl
leads_beside {t} {i} {j} {y} {A = A} {B} {J} kj ne lab sa sb e (Rejected-report c1 c2 c3) v = leads_as (acted report (finding (testing_now None (rejecting j A.held))) A J) (leads_far {u = report} A J lab sa sb (calm refl (λ z. refl)) v) (λ c. c) (λ b. (b, refl)) (grind arith) refl refl refl refl refl
leads_beside {t} {i} {j} {y} {A = A} {B} {J} kj ne lab sa sb e (Rejected-wait c1 c2) v = leads_as (acted idle (testing_now None (rejecting j A.held)) A J) (leads_far {u = idle} A J lab sa sb (calm refl (λ z. refl)) v) (λ c. c) (λ b. (b, refl)) (grind arith) refl refl refl refl refl
leads_beside {t} {i} {j} {y} {A = A} {B} {J} kj ne lab sa sb e (Hears-report {w} c1 c2 c3) v = leads_as (acted report (finding (bettering j w (hearing A.held))) A J) (leads_far {u = report} A J lab sa sb (calm refl (λ z. refl)) v) (λ c. c) (λ b. better_else j y w A.held.best_weight A.held.best ne b) refl refl refl refl refl refl
leads_beside {t} {i} {j} {y} {A = A} {B} {J} kj ne lab sa sb e (Hears-wait {w} c1 c2) v = leads_as (acted idle (bettering j w (hearing A.held)) A J) (leads_far {u = idle} A J lab sa sb (calm refl (λ z. refl)) v) (λ c. c) (λ b. better_else j y w A.held.best_weight A.held.best ne b) refl refl refl refl refl refl
leads_beside {t} {i} {j} {y} {A = A} {B} {J} kj ne lab sa sb e (Decides-passes {w} k c1 c2 c3 c4 c5) v = λ c u b. absurd (grind arith)
leads_beside {t} {i} {j} {y} {A = A} {B} {J} kj ne lab sa sb e (Decides-joins {w} k c1 c2 c3 c4 c5) v = λ c u b. absurd (grind arith)
leads_beside {t} {i} {j} {y} {A = A} {B} {J} kj ne lab sa sb e (Halts {w} c1 c2 c3 c4) v = leads_as (acted end (halting A.held) A J) (leads_far {u = end} A J lab sa sb (calm refl (λ z. refl)) v) (λ c. c) (λ b. (b, refl)) refl refl refl refl refl refl
leads_beside {t} {i} {j} {y} {A = A} {B} {J} kj ne lab sa sb e (Rests {w} c1 c2 c3 c4) v = leads_far {u = idle} A J lab sa sb (calm refl (λ z. refl)) v
leads_beside {t} {i} {j} {y} {A = A} {B} {J} kj ne lab sa sb e (Changed-passes k c1 c2) v = λ c u b. absurd (grind arith)
leads_beside {t} {i} {j} {y} {A = A} {B} {J} kj ne lab sa sb e (Changed-joins k c1 c2) v = λ c u b. absurd (grind arith)

-- the edges that end at it: C acts, at node i, and x has an edge to i
pub leads_partner : {t : Graph} {i j x w z : ℕ} {A C J : View} {m : Message} {g : Held} {os : List Send} {p q p' q' : List Message} → Knows t i j C J p q → Suits m C J → (x ≡ j → A ≡ J) → Labels A C C J → Sane i A → Sane x C → Mode i x z C A p' q' → Mode i j (t.weight i j) C J p (control1 m ++ q) → (d : Deed t i C.held (got j m) g os) → Leads x i w A C → Leads x i w (follow (turn d) C J A) (acted (turn d) g C J)
leads_partner {t} {i} {j} {x} {A = A} {C} {J} kj ft jx lab sa sc ex e (Absorbs {l} c1) v = let a = head_absorb c1 e in leads_to (acted absorb (counting (cond (is_find C.held.status) 1 0) (marking j Branch C.held)) C J) (leads_far C J lab sa sc (absorbing kj.mine.low a.low a.current a.differ) v) (grind arith) refl (λ c u n k h. h)
leads_partner {t} {i} {j} {x} {A = A} {C} {J} kj ft jx lab sa sc ex e (Merges {l} c1 c2) v = leads_far C J lab sa sc (elim (head_merge c1 c2 e) [ inl a ↦ merging (t.weight i j) a.current_a a.levels a.current a.differ | inr u ↦ again (t.weight i j) u ]) v
leads_partner {t} {i} {j} {x} {A = A} {C} {J} kj ft jx lab sa sc ex e (Begins {l} {f} {s} c1) v = let a = head_begin kj.theirs kj.same e in leads_to (acted (begin j (eqb (t.weight i j) f) false) (joining t j l f s C.held) C J) (leads_far {u = (begin j (eqb (t.weight i j) f) false)} C J lab sa sc (calm refl (λ z. refl)) v) (grind arith) refl (λ c u n k h. absurd (let s0 = together k (sc.parent_branch h.0) c ex in let f0 = lab.ab s0 in grind arith))
leads_partner {t} {i} {j} {x} {A = A} {C} {J} kj ft jx lab sa sc ex e (Searches-ask {l} {f} k c1) v = let a = head_begin kj.theirs kj.same e in leads_to (acted (begin j (eqb (t.weight i j) f) false) (testing_now (Some k) (joining t j l f phase.Find C.held)) C J) (leads_far {u = (begin j (eqb (t.weight i j) f) false)} C J lab sa sc (calm refl (λ z. refl)) v) (grind arith) refl (λ c u n k h. absurd (let s0 = together k (sc.parent_branch h.0) c ex in let f0 = lab.ab s0 in grind arith))
leads_partner {t} {i} {j} {x} {A = A} {C} {J} kj ft jx lab sa sc ex e (Searches-report {l} {f} c1 c2 c3) v = let a = head_begin kj.theirs kj.same e in leads_to (acted (begin j (eqb (t.weight i j) f) true) (finding (testing_now None (joining t j l f phase.Find C.held))) C J) (leads_far {u = (begin j (eqb (t.weight i j) f) true)} C J lab sa sc (calm refl (λ z. refl)) v) (grind arith) refl (λ c u n k h. absurd (let s0 = together k (sc.parent_branch h.0) c ex in let f0 = lab.ab s0 in grind arith))
leads_partner {t} {i} {j} {x} {A = A} {C} {J} kj ft jx lab sa sc ex e (Searches-wait {l} {f} c1 c2) v = let a = head_begin kj.theirs kj.same e in leads_to (acted (begin j (eqb (t.weight i j) f) false) (testing_now None (joining t j l f phase.Find C.held)) C J) (leads_far {u = (begin j (eqb (t.weight i j) f) false)} C J lab sa sc (calm refl (λ z. refl)) v) (grind arith) refl (λ c u n k h. absurd (let s0 = together k (sc.parent_branch h.0) c ex in let f0 = lab.ab s0 in grind arith))
leads_partner {t} {i} {j} {x} {A = A} {C} {J} kj ft jx lab sa sc ex e (Accepts {l} {f} c1 c2) v = leads_far {u = idle} C J lab sa sc (calm refl (λ z. refl)) v
leads_partner {t} {i} {j} {x} {A = A} {C} {J} kj ft jx lab sa sc ex e (Rejects {l} {f} c1 c2 c3) v = leads_to (acted idle (rejecting j C.held) C J) (leads_far {u = idle} C J lab sa sc (calm refl (λ z. refl)) v) (omega arith) refl (λ c u n k h. h)
leads_partner {t} {i} {j} {x} {A = A} {C} {J} kj ft jx lab sa sc ex e (Crosses-ask {l} {f} k c1 c2 c3 c4) v = leads_to (acted idle (testing_now (Some k) (rejecting j C.held)) C J) (leads_far {u = idle} C J lab sa sc (calm refl (λ z. refl)) v) (omega arith) refl (λ c u n k h. h)
leads_partner {t} {i} {j} {x} {A = A} {C} {J} kj ft jx lab sa sc ex e (Crosses-report {l} {f} c1 c2 c3 c4 c5 c6) v = leads_to (acted report (finding (testing_now None (rejecting j C.held))) C J) (leads_far {u = report} C J lab sa sc (calm refl (λ z. refl)) v) (omega arith) refl (λ c u n k h. (h.0, refl, h.2, h.3, h.4, h.5))
leads_partner {t} {i} {j} {x} {A = A} {C} {J} kj ft jx lab sa sc ex e (Crosses-wait {l} {f} c1 c2 c3 c4 c5) v = leads_to (acted idle (testing_now None (rejecting j C.held)) C J) (leads_far {u = idle} C J lab sa sc (calm refl (λ z. refl)) v) (omega arith) refl (λ c u n k h. h)
leads_partner {t} {i} {j} {x} {A = A} {C} {J} kj ft jx lab sa sc ex e (Accepted-report c1 c2) v = leads_to (acted report (finding (bettering j (Some (t.weight i j)) (testing_now None C.held))) C J) (leads_far {u = report} C J lab sa sc (calm refl (λ z. refl)) v) (omega arith) refl (λ c u n k h. absurd (let r = sc.find_reported ft in grind arith))
leads_partner {t} {i} {j} {x} {A = A} {C} {J} kj ft jx lab sa sc ex e (Accepted-wait c1) v = leads_to (acted idle (bettering j (Some (t.weight i j)) (testing_now None C.held)) C J) (leads_far {u = idle} C J lab sa sc (calm refl (λ z. refl)) v) (omega arith) refl (λ c u n k h. absurd (let r = sc.find_reported ft in grind arith))
leads_partner {t} {i} {j} {x} {A = A} {C} {J} kj ft jx lab sa sc ex e (Rejected-ask k c1) v = leads_to (acted idle (testing_now (Some k) (rejecting j C.held)) C J) (leads_far {u = idle} C J lab sa sc (calm refl (λ z. refl)) v) (omega arith) refl (λ c u n k h. h)
leads_partner {t} {i} {j} {x} {A = A} {C} {J} kj ft jx lab sa sc ex e (Rejected-report c1 c2 c3) v = leads_to (acted report (finding (testing_now None (rejecting j C.held))) C J) (leads_far {u = report} C J lab sa sc (calm refl (λ z. refl)) v) (omega arith) refl (λ c u n k h. (h.0, refl, h.2, h.3, h.4, h.5))
leads_partner {t} {i} {j} {x} {A = A} {C} {J} kj ft jx lab sa sc ex e (Rejected-wait c1 c2) v = leads_to (acted idle (testing_now None (rejecting j C.held)) C J) (leads_far {u = idle} C J lab sa sc (calm refl (λ z. refl)) v) (omega arith) refl (λ c u n k h. h)
leads_partner {t} {i} {j} {x} {A = A} {C} {J} kj ft jx lab sa sc ex e (Hears-report {w} c1 c2 c3) v = leads_to (acted report (finding (bettering j w (hearing C.held))) C J) (leads_far {u = report} C J lab sa sc (calm refl (λ z. refl)) v) (omega arith) refl (λ c u n k h. absurd (let r = sc.find_reported (head_hears c1 e) in grind arith))
leads_partner {t} {i} {j} {x} {A = A} {C} {J} kj ft jx lab sa sc ex e (Hears-wait {w} c1 c2) v = leads_to (acted idle (bettering j w (hearing C.held)) C J) (leads_far {u = idle} C J lab sa sc (calm refl (λ z. refl)) v) (omega arith) refl (λ c u n k h. absurd (let r = sc.find_reported (head_hears c1 e) in grind arith))
leads_partner {t} {i} {j} {x} {A = A} {C} {J} kj ft jx lab sa sc ex e (Decides-passes {w} k c1 c2 c3 c4 c5) v = leads_to (acted (decide i k) C.held C J) (leads_far {u = (decide i k)} C J lab sa sc (calm refl (λ z. refl)) v) (omega arith) refl (λ c u n k' h. absurd (let s0 : x ≡ j = grind arith in let s1 = head_core c1 c3 e kj.mine c2 in let s2 = jx s0 in n (rw s2 s1)))
leads_partner {t} {i} {j} {x} {A = A} {C} {J} kj ft jx lab sa sc ex e (Decides-joins {w} k c1 c2 c3 c4 c5) v = leads_to (acted (decide i k) (marking k Branch C.held) C J) (leads_far {u = (decide i k)} C J lab sa sc (calm refl (λ z. refl)) v) (omega arith) refl (λ c u n k' h. absurd (let s0 : x ≡ j = grind arith in let s1 = head_core c1 c3 e kj.mine c2 in let s2 = jx s0 in n (rw s2 s1)))
leads_partner {t} {i} {j} {x} {A = A} {C} {J} kj ft jx lab sa sc ex e (Halts {w} c1 c2 c3 c4) v = leads_to (acted end (halting C.held) C J) (leads_far {u = end} C J lab sa sc (calm refl (λ z. refl)) v) (omega arith) refl (λ c u n k h. h)
leads_partner {t} {i} {j} {x} {A = A} {C} {J} kj ft jx lab sa sc ex e (Rests {w} c1 c2 c3 c4) v = leads_far {u = idle} C J lab sa sc (calm refl (λ z. refl)) v
leads_partner {t} {i} {j} {x} {A = A} {C} {J} kj ft jx lab sa sc ex e (Changed-passes k c1 c2) v = let a = head_change kj.same e in leads_to (acted (change i k) C.held C J) (leads_far {u = (change i k)} C J lab sa sc (calm refl (λ z. refl)) v) (omega arith) refl (λ c u n k' h. absurd (let s0 : x ≡ j = grind arith in let s1 = head_changed e in let s2 = jx s0 in grind arith))
leads_partner {t} {i} {j} {x} {A = A} {C} {J} kj ft jx lab sa sc ex e (Changed-joins k c1 c2) v = let a = head_change kj.same e in leads_to (acted (change i k) (marking k Branch C.held) C J) (leads_far {u = (change i k)} C J lab sa sc (calm refl (λ z. refl)) v) (omega arith) refl (λ c u n k' h. absurd (let s0 : x ≡ j = grind arith in let s1 = head_changed e in let s2 = jx s0 in grind arith))

-- it wakes
pub leads_wake : {t : Graph} {i y w : ℕ} (A B J : View) {g : Held} {os : List Send} → (d : Deed t i A.held woke g os) → Leads i y w (acted (turn d) g A J) (follow (turn d) A J B)
leads_wake A B J (Alone c1) = λ c u b. absurd (grind arith)
leads_wake A B J (WokeTo k c1) = λ c u b. absurd (grind arith)

pub leads_woken : {t : Graph} {i x w : ℕ} {A C : View} (J : View) {g : Held} {os : List Send} → C.held.status ≡ Sleeping → C.held.level ≡ 0 → Labels A C C J → Sane i A → Sane x C → (d : Deed t i C.held woke g os) → Leads x i w A C → Leads x i w (follow (turn d) C J A) (acted (turn d) g C J)
leads_woken {t} {i} {A = A} {C} J s l lab sa sc (Alone c1) v = leads_to (acted (starts i i None None) (woken_held true C.held.mark C.held) C J) (leads_far {u = starts i i None None} C J lab sa sc (calm refl (λ z. refl)) v) (grind arith) refl (λ c u n k h. absurd (let r = sc.sleeping_reported s in grind arith))
leads_woken {t} {i} {A = A} {C} J s l lab sa sc (WokeTo k c1) v = leads_to (acted (starts i k (Some k) (Some (t.weight i k))) (woken_held C.held.halted (put k Branch C.held.mark) C.held) C J) (leads_far {u = starts i k (Some k) (Some (t.weight i k))} C J lab sa sc (calm refl (λ z. refl)) v) (grind arith) refl (λ c u n k' h. absurd (let r = sc.sleeping_reported s in grind arith))
