-- When both ends of a core have heard each other, one of them has halted, or the core is no more.
use Rattle.std.proofs.Common.{◌≡◌, ℕ, ◌+◌, Bool, true, false, ◌&&◌, eqb, ◌⊎◌, List, [], ◌∷◌, ◌++◌, Some, Option, sym, refl, ap, ◌∙◌, subst, inl, inr, arith, None}
use Rattle.std.proofs.lemmas.Bool.Decides.{eqb_tells}
use Rattle.message.specs.declared.messages.Message.{Message}
use Rattle.message.specs.declared.messages.Message.TheVariants.{Initiate, Report}
use Rattle.message.specs.declared.messages.Phase.{Phase}
use Rattle.node.specs.Rules.{phase_of, is_nothing, lighter}
use Rattle.graph.specs.Graph.{Graph, Edge, Weights}
use Rattle.protocol.proofs.Base.{Good}
use Rattle.protocol.proofs.Bests.{Bests}
use Rattle.protocol.proofs.Control.{control1, control, control-++}
use Rattle.protocol.proofs.Deed.{In, woke, got, one, Deed, Alone, WokeTo, Absorbs, Merges, Begins, Searches-ask, Searches-report, Searches-wait, Accepts, Rejects, Crosses-ask, Crosses-report, Crosses-wait, Accepted-report, Accepted-wait, Rejected-ask, Rejected-report, Rejected-wait, Hears-report, Hears-wait, Decides-passes, Decides-joins, Halts, Rests, Changed-passes, Changed-joins}
use Rattle.protocol.proofs.Deeds.{to_self, onward_self}
use Rattle.protocol.proofs.Edges.{offs, Edges, first, next, apart, turned}
use Rattle.protocol.proofs.Frame.{start, Lifted, Act, Off, Event, act, off}
use Rattle.protocol.proofs.Ghost.{Turn, Ghost, View, view, turn, mine, stepped}
use Rattle.protocol.proofs.Held.{Send, Held, onward, send_to}
use Rattle.protocol.proofs.Mode.{tells, Told, Core, Mode, free, offered, offers, crossing, took, taken, merged, ahead, behind, core, told, above, below, Sane}
use Rattle.protocol.proofs.Outs.{out_to}
use Rattle.protocol.proofs.Tips.{up_parent_lem, ends_differ}
use Rattle.message.specs.declared.messages.Phase.TheVariants as phase

-- a and b lead up to each other, have both reported, and nothing is under way between them
pub record Exchanged (n : Lifted) (γ : Ghost) (a b : ℕ) : Type 0 where
  pub up_a : (γ.own a).up ≡ Some b
  pub up_b : (γ.own b).up ≡ Some a
  pub changed_a : (γ.own a).changed ≡ false
  pub changed_b : (γ.own b).changed ≡ false
  pub reported_a : (γ.own a).reported ≡ true
  pub reported_b : (γ.own b).reported ≡ true
  pub out : control (n.way a b) ≡ []
  pub back : control (n.way b a) ≡ []

-- THE INVARIANT: then one of them has halted
abbrev pub Exchanges : Graph → Lifted → Ghost → Type 0
Exchanges t n γ = (a b : ℕ) → Edge t a b → Exchanged n γ a b → ((n.held a).halted ≡ true) ⊎ ((n.held b).halted ≡ true)

pub exchanges_start : (t : Graph) → Exchanges t start first
exchanges_start t a b l e = absurd (let u = e.up_a in grind arith)

-- the message x was a report that told A of nothing lighter, and not both know of nothing
record Rested (A : View) (x : Message) : Type 0 where
  r : Option ℕ
  is : x ≡ Report r
  lighter : lighter A.held.best_weight r ≡ false
  some : (is_nothing r && is_nothing A.held.best_weight) ≡ false

-- what was so before A acted on x from j
record Before (A : View) (g : Held) (b j : ℕ) (x : Message) : Type 0 where
  up : A.own.up ≡ Some b
  changed : A.own.changed ≡ false
  reported : A.own.reported ≡ true
  halted : g.halted ≡ A.held.halted
  head : j ≡ b → (control1 x ≡ []) ⊎ Rested A x

not_none : {m : Message} {q : List Message} → m ∷ q ≡ [] → ⊥
not_none e = grind arith

-- a report to the parent is under way
told_up : (w : Option ℕ) (b : ℕ) (r : Option ℕ) → w ≡ Some b → control (out_to b (send_to w (Report r))) ≡ [] → ⊥
told_up w b r e o = let s = to_self b (Report r) in not_none (sym (ap control s) ∙ sym (ap (λ z. control (out_to b (send_to z (Report r)))) e) ∙ o)

sent_back : (j b l f : ℕ) (s : Phase) → j ≡ b → control (out_to b (one j (Initiate l f s))) ≡ [] → ⊥
sent_back j b l f s e o = let k = to_self b (Initiate l f s) in not_none (sym (ap control k) ∙ sym (ap (λ z. control (out_to b (one z (Initiate l f s)))) e) ∙ o)

one_some : {a b : ℕ} → Some a ≡ Some b → a ≡ b
one_some e = grind arith

-- A acts on x from j, and afterwards leads up to b, has not changed, has reported, and sends b nothing: it has halted, or was so before
acts : {t : Graph} {i j : ℕ} {x : Message} (A J : View) (b : ℕ) (g : Held) (os : List Send) → (d : Deed t i A.held (got j x) g os) → (A.own.changed ≡ true) ⊎ (A.own.up ≡ A.held.parent) → (mine (turn d) A J).up ≡ Some b → (mine (turn d) A J).changed ≡ false → (mine (turn d) A J).reported ≡ true → control (out_to b os) ≡ [] → (g.halted ≡ true) ⊎ Before A g b j x
acts A J b g os (Absorbs {j} {l} c1) s u c r o = inr (record { up = u; changed = c; reported = r; halted = refl; head = λ e. absurd (sent_back j b A.held.level A.held.name (phase_of A.held.status) e o) })
acts {t} {i} A J b g os (Merges {j} {l} c1 c2) s u c r o = inr (record { up = u; changed = c; reported = r; halted = refl; head = λ e. absurd (sent_back j b (A.held.level + 1) (t.weight i j) phase.Find e o) })
acts A J b g os (Begins {j} {l} {f} {s} c1) z u c r o = absurd (grind arith)
acts A J b g os (Searches-ask {j} {l} {f} k c1) s u c r o = absurd (grind arith)
acts {t} A J b g os (Searches-report {j} {l} {f} c1 c2 c3) s u c r o = absurd (let e : j ≡ b = one_some u in told_up (Some j) b None u (sym (onward_self A.held b l f phase.Find t.count (send_to (Some j) (Report None))) ∙ subst (λ k. control (out_to b (onward A.held k (Initiate l f phase.Find) t.count ++ send_to (Some j) (Report None))) ≡ []) e o))
acts A J b g os (Searches-wait {j} {l} {f} c1 c2) s u c r o = absurd (grind arith)
acts A J b g os (Accepts {j} {l} {f} c1 c2) s u c r o = inr (record { up = u; changed = c; reported = r; halted = refl; head = λ e. inl refl })
acts A J b g os (Rejects {j} {l} {f} c1 c2 c3) s u c r o = inr (record { up = u; changed = c; reported = r; halted = refl; head = λ e. inl refl })
acts A J b g os (Crosses-ask {j} {l} {f} k c1 c2 c3 c4) s u c r o = inr (record { up = u; changed = c; reported = r; halted = refl; head = λ e. inl refl })
acts A J b g os (Crosses-report {j} {l} {f} c1 c2 c3 c4 c5 c6) s u c r o = absurd (told_up A.held.parent b A.held.best_weight (up_parent_lem s c u) o)
acts A J b g os (Crosses-wait {j} {l} {f} c1 c2 c3 c4 c5) s u c r o = inr (record { up = u; changed = c; reported = r; halted = refl; head = λ e. inl refl })
acts {t} {i} A J b g os (Accepted-report {j} c1 c2) s u c r o = absurd (told_up A.held.parent b g.best_weight (up_parent_lem s c u) o)
acts A J b g os (Accepted-wait {j} c1) s u c r o = inr (record { up = u; changed = c; reported = r; halted = refl; head = λ e. inl refl })
acts A J b g os (Rejected-ask {j} k c1) s u c r o = inr (record { up = u; changed = c; reported = r; halted = refl; head = λ e. inl refl })
acts A J b g os (Rejected-report {j} c1 c2 c3) s u c r o = absurd (told_up A.held.parent b A.held.best_weight (up_parent_lem s c u) o)
acts A J b g os (Rejected-wait {j} c1 c2) s u c r o = inr (record { up = u; changed = c; reported = r; halted = refl; head = λ e. inl refl })
acts A J b g os (Hears-report {j} {w} c1 c2 c3) s u c r o = absurd (told_up A.held.parent b g.best_weight (up_parent_lem s c u) o)
acts A J b g os (Hears-wait {j} {w} c1 c2) s u c r o = inr (record { up = u; changed = c; reported = r; halted = refl; head = λ e. absurd (c1 (up_parent_lem s c u ∙ ap Some (sym e))) })
acts A J b g os (Decides-passes {j} {w} k c1 c2 c3 c4 c5) s u c r o = absurd (grind arith)
acts A J b g os (Decides-joins {j} {w} k c1 c2 c3 c4 c5) s u c r o = absurd (grind arith)
acts A J b g os (Halts {j} {w} c1 c2 c3 c4) s u c r o = inl refl
acts A J b g os (Rests {j} {w} c1 c2 c3 c4) s u c r o = inr (record { up = u; changed = c; reported = r; halted = refl; head = λ e. inr (record { r = w; is = refl; lighter = c3; some = c4 }) })
acts A J b g os (Changed-passes {j} k c1 c2) s u c r o = absurd (grind arith)
acts A J b g os (Changed-joins {j} k c1 c2) s u c r o = absurd (grind arith)

woke_changed : {t : Graph} {i : ℕ} {h g : Held} {os : List Send} (A J : View) (d : Deed t i h woke g os) → (mine (turn d) A J).changed ≡ true
woke_changed A J (Alone c1) = refl
woke_changed A J (WokeTo k c1) = refl

-- who leads up to whom it gets a report from, and is led up to by it, is of a core
report_core : {x y w : ℕ} {A B : View} {p q : List Message} {r : Option ℕ} {k : List Message} → q ≡ Report r ∷ k → A.own.up ≡ Some y → B.own.up ≡ Some x → Mode x y w A B p q → Core x y w A B p q
report_core e a b (free v) = absurd (let o = v.back in grind arith)
report_core e a b (offered v) = absurd (let o = v.back in grind arith)
report_core e a b (offers v) = absurd (let o = v.out in grind arith)
report_core e a b (crossing v) = absurd (let o = v.back in grind arith)
report_core e a b (took v) = absurd (let o = v.back in grind arith)
report_core e a b (taken v) = absurd (let o = v.out in grind arith)
report_core e a b (merged v) = absurd (let o = v.back in grind arith)
report_core e a b (ahead v) = absurd (let o = v.back in grind arith)
report_core e a b (behind v) = absurd (let o = v.out in grind arith)
report_core e a b (core v) = v
report_core e a b (tells v) = absurd (let o = v.back in grind arith)
report_core e a b (told v) = absurd (let o = v.out in grind arith)
report_core e a b (above v) = absurd (v.up_a a)
report_core e a b (below v) = absurd (v.up_a b)

-- two weights, neither lighter, and not both nothing
equal_weights : (a b : Option ℕ) → lighter a b ≡ false → lighter b a ≡ false → (is_nothing b && is_nothing a) ≡ false → (v : ℕ) × ((a ≡ Some v) × (b ≡ Some v))
equal_weights None None e f s = absurd (grind arith)
equal_weights None (Some b) e f s = absurd (grind arith)
equal_weights (Some a) None e f s = absurd (grind arith)
equal_weights (Some a) (Some b) e f s = (a, (refl, ap Some (same a b e f)))
  where
    same : (a b : ℕ) → lighter (Some a) (Some b) ≡ false → lighter (Some b) (Some a) ≡ false → b ≡ a
    same a b e f = grind arith

told_same : (A B : View) {p k : List Message} {r : Option ℕ} → p ≡ Report r ∷ k → Told A B p → r ≡ A.held.best_weight
told_same A B e (inl h) = absurd (let u = h.0 in grind arith)
told_same A B e (inr (inl h)) = let u = h.0 in grind arith
told_same A B e (inr (inr h)) = absurd (let u = h.0 in grind arith)

told_heavier : (A B : View) {p : List Message} → p ≡ [] → A.own.reported ≡ true → Told A B p → lighter B.held.best_weight A.held.best_weight ≡ false
told_heavier A B e r (inl h) = absurd (let u = h.1 in grind arith)
told_heavier A B e r (inr (inl h)) = absurd (let u = h.0 in grind arith)
told_heavier A B e r (inr (inr h)) = h.3

-- the step leaves of one that does not act what it was, and who acts is as the turn says
own_here : (u : Turn) (i : ℕ) (A J : View) (γ : Ghost) → (((stepped u i A J γ).own i).up ≡ (mine u A J).up) × (((stepped u i A J γ).own i).changed ≡ (mine u A J).changed) × (((stepped u i A J γ).own i).reported ≡ (mine u A J).reported)
own_here u i A J γ = let e : eqb i i ≡ true = grind arith in (rw e, rw e, rw e)

own_there : (u : Turn) (i : ℕ) (A J : View) (γ : Ghost) (b : ℕ) → (b ≡ i → ⊥) → (((stepped u i A J γ).own b).up ≡ (γ.own b).up) × (((stepped u i A J γ).own b).changed ≡ (γ.own b).changed) × (((stepped u i A J γ).own b).reported ≡ (γ.own b).reported)
own_there u i A J γ b d = let e : eqb b i ≡ false = grind arith in (rw e, rw e, rw e)

none_both : (p q : List Message) → p ++ q ≡ [] → (p ≡ []) × (q ≡ [])
none_both [] q e = (refl, e)
none_both (m ∷ p) q e = absurd (not_none e)

opposite : {b : Bool} → b ≡ true → b ≡ false → ⊥
opposite e f = grind arith

turned_over : {n : Lifted} {γ : Ghost} (a b : ℕ) → Exchanged n γ a b → Exchanged n γ b a
turned_over a b e = record { up_a = e.up_b; up_b = e.up_a; changed_a = e.changed_b; changed_b = e.changed_a; reported_a = e.reported_b; reported_b = e.reported_a; out = e.back; back = e.out }

abbrev Halted : Lifted → ℕ → ℕ → Type 0
Halted m a b = ((m.held a).halted ≡ true) ⊎ ((m.held b).halted ≡ true)

other_way : (m : Lifted) (a b : ℕ) → Halted m a b → Halted m b a
other_way m a b (inl u) = inr u
other_way m a b (inr u) = inl u

module _ (t : Graph) (weights : Weights t) (n m : Lifted) (γ : Ghost) (G : Good t n) (sane : (a y : ℕ) → Edge t a y → Sane y (view n γ a)) (E : Edges t n γ) (K : Bests t n γ) (D : Exchanges t n γ) where
  -- a core whose two ends have heard each other does not rest: the two best edges would be of one weight
  restless : (i b : ℕ) (x : Message) (r : List Message) → Edge t i b → (γ.own i).up ≡ Some b → (γ.own i).changed ≡ false → (γ.own i).reported ≡ true → (γ.own b).up ≡ Some i → (γ.own b).changed ≡ false → control (n.way i b) ≡ [] → n.way b i ≡ x ∷ r → Rested (view n γ i) x → ⊥
  restless i b x r l up ch re up_b chB out w z =
      let k : control (n.way b i) ≡ Report z.r ∷ control r = ap control w ∙ ap (λ y. control1 y ++ control r) z.is in
      let c = report_core k up up_b (E i b l) in
      let s = told_same (view n γ b) (view n γ i) k c.back in
      let v = told_heavier (view n γ i) (view n γ b) out re c.out in
      let q = equal_weights (n.held i).best_weight z.r z.lighter (subst (λ o. lighter o (n.held i).best_weight ≡ false) (sym s) v) z.some in
      ends_differ t weights n γ G sane E K i b q.0 (apart t weights i b l) up up_b c.same (record { unchanged = ch; current = c.current_a; best = q.1.0 })
      (record { unchanged = chB; current = sym c.levels ∙ c.current_a ∙ ap (λ f. (γ.fragment f).level) c.same; best = sym s ∙ q.1.1 })

  abbrev Next : {i : ℕ} {inp : In} {g : Held} {os : List Send} → (j : ℕ) → Act t n m i inp g os → Ghost
  Next {i} j c = stepped (turn c.does) i (view n γ i) (view n γ j) γ

  at_got : {i : ℕ} {g : Held} {os : List Send} (j : ℕ) (x : Message) (c : Act t n m i (got j x) g os) (b : ℕ) → Edge t i b → Exchanged m (Next j c) i b → Halted m i b
  at_got {i} {g} {os} j x c b l e = go (acts (view n γ i) (view n γ j) b g os c.does (sane i b l).up_parent (sym h.0 ∙ e.up_a) (sym h.1 ∙ e.changed_a) (sym h.2 ∙ e.reported_a) queue.1)
    where
      bi : b ≡ i → ⊥
      bi q = apart t weights i b l (sym q)

      h : (((Next j c).own i).up ≡ (mine (turn c.does) (view n γ i) (view n γ j)).up) × (((Next j c).own i).changed ≡ (mine (turn c.does) (view n γ i) (view n γ j)).changed) × (((Next j c).own i).reported ≡ (mine (turn c.does) (view n γ i) (view n γ j)).reported)
      h = own_here (turn c.does) i (view n γ i) (view n γ j) γ

      k : (((Next j c).own b).up ≡ (γ.own b).up) × (((Next j c).own b).changed ≡ (γ.own b).changed) × (((Next j c).own b).reported ≡ (γ.own b).reported)
      k = own_there (turn c.does) i (view n γ i) (view n γ j) γ b bi

      queue : (control (n.way i b) ≡ []) × (control (out_to b os) ≡ [])
      queue = none_both (control (n.way i b)) (control (out_to b os)) (sym (control-++ (n.way i b) (out_to b os)) ∙ sym (ap control (c.sent b bi)) ∙ e.out)

      before : Before (view n γ i) g b j x → control (n.way b i) ≡ [] → Halted m i b
      before v q = elim (D i b l (record { up_a = v.up; up_b = sym k.0 ∙ e.up_b; changed_a = v.changed; changed_b = sym k.1 ∙ e.changed_b; reported_a = v.reported; reported_b = sym k.2 ∙ e.reported_b; out = queue.0; back = q })) [ inl y ↦ inl (ap (λ z. z.halted) c.self ∙ v.halted ∙ y) | inr y ↦ inr (ap (λ z. z.halted) (c.others b bi) ∙ y) ]

      taking : Before (view n γ i) g b j x → ((j ≡ b) × (n.way b i ≡ x ∷ m.way b i)) ⊎ ((j ≡ b → ⊥) × (m.way b i ≡ n.way b i)) → Halted m i b
      taking v (inl (q, w)) = elim (v.head q) [ inl z ↦ before v (ap control w ∙ ap (λ y. y ++ control (m.way b i)) z ∙ e.back) | inr z ↦ absurd (restless i b x (m.way b i) l v.up v.changed v.reported (sym k.0 ∙ e.up_b) (sym k.1 ∙ e.changed_b) queue.0 w z) ]
      taking v (inr (q, w)) = before v (sym (ap control w) ∙ e.back)

      go : (g.halted ≡ true) ⊎ Before (view n γ i) g b j x → Halted m i b
      go (inl u) = inl (ap (λ z. z.halted) c.self ∙ u)
      go (inr v) = taking v (c.took b bi)

  at_woke : {i : ℕ} {g : Held} {os : List Send} (c : Act t n m i woke g os) (b : ℕ) → Edge t i b → Exchanged m (Next i c) i b → Halted m i b
  at_woke {i} c b l e = absurd (opposite ((own_here (turn c.does) i (view n γ i) (view n γ i) γ).1 ∙ woke_changed (view n γ i) (view n γ i) c.does) e.changed_a)

  far : {i : ℕ} {inp : In} {g : Held} {os : List Send} (j : ℕ) (c : Act t n m i inp g os) (a b : ℕ) → (a ≡ i → ⊥) → (b ≡ i → ⊥) → Edge t a b → Exchanged m (Next j c) a b → Halted m a b
  far {i} j c a b da db l e =
      let h = own_there (turn c.does) i (view n γ i) (view n γ j) γ a da in
      let k = own_there (turn c.does) i (view n γ i) (view n γ j) γ b db in
      elim (D a b l (record {
        up_a = sym h.0 ∙ e.up_a;
        up_b = sym k.0 ∙ e.up_b;
        changed_a = sym h.1 ∙ e.changed_a;
        changed_b = sym k.1 ∙ e.changed_b;
        reported_a = sym h.2 ∙ e.reported_a;
        reported_b = sym k.2 ∙ e.reported_b;
        out = sym (ap control (c.far a b da db)) ∙ e.out;
        back = sym (ap control (c.far b a db da)) ∙ e.back;
      }))
      [ inl y ↦ inl (ap (λ z. z.halted) (c.others a da) ∙ y) | inr y ↦ inr (ap (λ z. z.halted) (c.others b db) ∙ y) ]

  all : {i : ℕ} {inp : In} {g : Held} {os : List Send} (j : ℕ) (c : Act t n m i inp g os) → ((b : ℕ) → Edge t i b → Exchanged m (Next j c) i b → Halted m i b) → Exchanges t m (Next j c)
  all {i} j c f a b l e = go (eqb_tells a i) (eqb_tells b i)
    where
      go : ((eqb a i ≡ true) × (a ≡ i)) ⊎ ((eqb a i ≡ false) × (a ≡ i → ⊥)) → ((eqb b i ≡ true) × (b ≡ i)) ⊎ ((eqb b i ≡ false) × (b ≡ i → ⊥)) → Halted m a b
      go (inl u) v = subst (λ z. Edge t z b → Exchanged m (Next j c) z b → Halted m z b) (sym u.1) (f b) l e
      go (inr u) (inl v) = other_way m b a (subst (λ z. Edge t z a → Exchanged m (Next j c) z a → Halted m z a) (sym v.1) (f a) (turned t weights a b l) (turned_over a b e))
      go (inr u) (inr v) = far j c a b u.1 v.1 l e

  put_off : (i j : ℕ) (x : Message) (front back : List Message) → Off t n m i j x front back → Exchanges t m γ
  put_off i j x front back c a b l e =
      elim (D a b l (record { up_a = e.up_a; up_b = e.up_b; changed_a = e.changed_a; changed_b = e.changed_b; reported_a = e.reported_a; reported_b = e.reported_b; out = sym (queue a b l) ∙ e.out; back = sym (queue b a (turned t weights a b l)) ∙ e.back }))
      [ inl y ↦ inl (ap (λ z. z.halted) (c.helds a) ∙ y) | inr y ↦ inr (ap (λ z. z.halted) (c.helds b) ∙ y) ]
    where
      off_line : Edge t j i → control (m.way j i) ≡ control (n.way j i)
      off_line l = ap control c.after ∙ offs x front back c.yet (subst (λ q. Mode i j (t.weight i j) (view n γ i) (view n γ j) (control (n.way i j)) (control q)) c.before (E i j (turned t weights j i l))) ∙ sym (ap control c.before)

      queue : (a b : ℕ) → Edge t a b → control (m.way a b) ≡ control (n.way a b)
      queue a b l = go (eqb_tells a j) (eqb_tells b i)
        where
          go : ((eqb a j ≡ true) × (a ≡ j)) ⊎ ((eqb a j ≡ false) × (a ≡ j → ⊥)) → ((eqb b i ≡ true) × (b ≡ i)) ⊎ ((eqb b i ≡ false) × (b ≡ i → ⊥)) → control (m.way a b) ≡ control (n.way a b)
          go (inl u) (inl v) = rw (u.1, v.1) (off_line (subst (λ z. Edge t z i) u.1 (subst (λ z. Edge t a z) v.1 l)))
          go (inl u) (inr v) = ap control (c.far a b (λ q. v.1 q.1))
          go (inr u) v = ap control (c.far a b (λ q. u.1 q.0))

  -- every step keeps it so
  pub exchanges_step : (s : Event t n m) → Exchanges t m (next γ s)
  exchanges_step (act i woke g os c) = all i c (at_woke c)
  exchanges_step (act i (got j x) g os c) = all j c (at_got j x c)
  exchanges_step (off i j x front back c) = put_off i j x front back c
