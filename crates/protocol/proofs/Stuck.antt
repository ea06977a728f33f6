-- Where nobody sleeps or has halted, some message can be taken.
use Rattle.std.proofs.Common.{◌≡◌, ℕ, zero, suc, ◌+◌, ◌<◌, ◌≤◌, Bool, true, false, cond, ◌⊎◌, [], ◌∷◌, Some, sym, refl, ap, ◌∙◌, subst, inl, inr, arith, None, Option}
use native.Mathlib.Decide.{dec_lt, ℕ_discrete}
use Rattle.message.specs.declared.messages.Message.{Message}
use Rattle.message.specs.declared.messages.Message.TheVariants.{Connect, Initiate, Test, Accept, Reject, Report, Change}
use Rattle.node.specs.declared.state.Status.{Status}
use Rattle.node.specs.declared.state.Status.TheVariants.{Sleeping, Find, Found}
use Rattle.graph.specs.declared.mark.Mark.{Mark}
use Rattle.graph.specs.declared.mark.Mark.TheVariants.{Basic, Branch}
use Rattle.node.specs.Rules.{lighter}
use Rattle.graph.specs.Graph.{Graph, Edge, Weights}
use Rattle.protocol.proofs.Asleep.{Alones}
use Rattle.protocol.proofs.Awaits.{below_seeker}
use Rattle.protocol.proofs.Base.{Good}
use Rattle.protocol.proofs.Busy.{Busy}
use Rattle.protocol.proofs.Control.{control}
use Rattle.protocol.proofs.CoreEdge.{Mutual, Holds, CoreEdges}
use Rattle.protocol.proofs.Edges.{Edges, turned}
use Rattle.protocol.proofs.Exchange.{Exchanges}
use Rattle.protocol.proofs.FindCount.{awaited, FindCount}
use Rattle.protocol.proofs.Finished.{Finished}
use Rattle.protocol.proofs.Frame.{Later, Lifted}
use Rattle.protocol.proofs.Ghost.{Least, undecided, decided, Ghost, view}
use Rattle.protocol.proofs.Inside.{Inside, itself, via, Insides}
use Rattle.protocol.proofs.LeastOutgoing.{Outward}
use Rattle.protocol.proofs.Mode.{Connecting, Told, Core, Sane}
use Rattle.protocol.proofs.Pending.{child_even, even, core_of, connects, unanswered, told_all, awaited_so, child_seeks}
use Rattle.protocol.proofs.Questions.{Talks}
use Rattle.protocol.proofs.Queues.{Has}
use Rattle.protocol.proofs.Tips.{top}
use Rattle.protocol.proofs.Underway.{has_control, has_asks, has_replies, Calm, changes_not}
use Rattle.protocol.proofs.Wait.{count}
use Rattle.protocol.proofs.Zero.{Zeros}

-- the word of what x's fragment decided is under way from s to g
pub record Announced (t : Graph) (n : Lifted) (γ : Ghost) (x s g : ℕ) : Type 0 where
  pub edge : Edge t s g
  pub label : (γ.own s).label ≡ (γ.own x).label
  pub word : (control (n.way s g) ≡ Change ∷ []) ⊎ (control (n.way s g) ≡ Connect (n.held s).level ∷ [])

-- a fragment that has decided on an edge has sent word of it
abbrev pub Announces : Graph → Lifted → Ghost → Type 0
Announces t n γ = (x w : ℕ) → (γ.fragment (γ.own x).label).least ≡ decided (Some w) → (s : ℕ) × ((g : ℕ) × Announced t n γ x s g)

-- what is used of the invariants
pub record Grounds (t : Graph) (n : Lifted) (γ : Ghost) : Type 0 where
  pub good : Good t n
  pub sane : (a y : ℕ) → Edge t a y → Sane y (view n γ a)
  pub edges : Edges t n γ
  pub talks : Talks t n γ
  pub counts : FindCount t n γ
  pub cores : CoreEdges t n γ
  pub outward : Outward t (view n γ)
  pub finished : Finished (view n γ)
  pub insides : Insides t n γ
  pub zeros : Zeros t n γ
  pub alones : Alones t n γ
  pub busy : (a : ℕ) → Busy (n.held a)
  pub exchanges : Exchanges t n γ
  pub announces : Announces t n γ

-- a set of nodes that no edge leads out of, all awake and none halted, to which nothing is under way but what they put off
pub record Waiting (t : Graph) (n : Lifted) (C : ℕ → Bool) : Type 0 where
  pub real : (x : ℕ) → C x ≡ true → x < t.count
  pub closed : (x y : ℕ) → C x ≡ true → Edge t x y → C y ≡ true
  pub awake : (x : ℕ) → C x ≡ true → (n.held x).status ≡ Sleeping → ⊥
  pub going : (x : ℕ) → C x ≡ true → (n.held x).halted ≡ true → ⊥
  pub deferred : (x y : ℕ) (m : Message) → C x ≡ true → Edge t x y → Has (n.way y x) m → Later y m (n.held x)

sleeps : (s : Status) → (s ≡ Sleeping) ⊎ (s ≡ Sleeping → ⊥)
sleeps Sleeping = inl refl
sleeps Find = inr (λ e. grind arith)
sleeps Found = inr (λ e. grind arith)

some_here : (p : ℕ → Bool) (n : ℕ) (b : Bool) → p n ≡ b → (1 ≤ count p n → (j : ℕ) × ((j < n) × (p j ≡ true))) → 1 ≤ cond b 1 0 + count p n → (j : ℕ) × ((j < suc n) × (p j ≡ true))
some_here p n true e ih h = (n, (omega arith, e))
some_here p n false e ih h = let r = ih (omega arith) in (r.0, ((let z = r.1.0 in omega arith), r.1.1))

-- a count that is not 0 counts somebody
some_of : (p : ℕ → Bool) (n : ℕ) → 1 ≤ count p n → (j : ℕ) × ((j < n) × (p j ≡ true))
unfolding count
some_of p zero h = absurd (omega arith)
some_of p (suc n) h = some_here p n (p n) refl (λ g. some_of p n g) h

module _ (t : Graph) (weights : Weights t) (n : Lifted) (γ : Ghost) (S : Grounds t n γ) (C : ℕ → Bool) (W : Waiting t n C) where
  back : (x y : ℕ) → Edge t x y → Edge t y x
  back x y l = turned t weights x y l

  calm : (x y : ℕ) → C x ≡ true → Edge t x y → Calm (control (n.way y x))
  calm x y c l = record { begins = λ k f s h. W.deferred x y (Initiate k f s) c l (has_control (n.way y x) (Initiate k f s) h); changes = λ h. W.deferred x y Change c l (has_control (n.way y x) Change h) }

  calm_to : (x y : ℕ) → C x ≡ true → Edge t x y → Calm (control (n.way x y))
  calm_to x y c l = calm y x (W.closed x y c l) (back x y l)

  -- all of a fragment are in the set, and of one level
  inside_c : {x y : ℕ} → Inside t n γ x y → C x ≡ true → C y ≡ true
  inside_c itself c = c
  inside_c (via {a = x} b e r) c = inside_c r (W.closed x b c e.edge)

  inside_level : {x y : ℕ} → Inside t n γ x y → C x ≡ true → (n.held x).level ≡ (n.held y).level
  inside_level itself c = refl
  inside_level (via {a = x} b e r) c = even (calm_to x b c e.edge) (calm x b c e.edge) e.mine e.same (S.edges x b e.edge) ∙ inside_level r (W.closed x b c e.edge)

  real_as : (x z : ℕ) → C x ≡ true → (γ.own z).label ≡ (γ.own x).label → z < t.count
  real_as x z c e = elim (dec_lt z t.count) [ yes h ↦ h | no h ↦ absurd (go h (sleeps (n.held z).status)) ]
    where
      differ : (z < t.count → ⊥) → x ≡ z → ⊥
      differ h q = h (subst (λ k. k < t.count) q (W.real x c))

      go : (z < t.count → ⊥) → ((n.held z).status ≡ Sleeping) ⊎ ((n.held z).status ≡ Sleeping → ⊥) → ⊥
      go h (inl u) = (S.alones.sleepers z u).lone x (differ h) (sym e)
      go h (inr u) = (S.alones.hermits z u (λ y l. h l.0)).lone x (differ h) (sym e)

  same_inside : (x z : ℕ) → C x ≡ true → (γ.own z).label ≡ (γ.own x).label → Inside t n γ x z
  same_inside x z c e = S.insides x z (W.real x c) (real_as x z c e) (sym e)

  same_c : (x z : ℕ) → C x ≡ true → (γ.own z).label ≡ (γ.own x).label → C z ≡ true
  same_c x z c e = inside_c (same_inside x z c e) c

  same_level : (x z : ℕ) → C x ≡ true → (γ.own z).label ≡ (γ.own x).label → (n.held x).level ≡ (n.held z).level
  same_level x z c e = inside_level (same_inside x z c e) c

  -- each has an edge: one without has halted
  with_edge : (x : ℕ) → C x ≡ true → ((y : ℕ) → Edge t x y → ⊥) → ⊥
  with_edge x c f = W.going x c (ap (λ V. V.held.halted) (S.alones.hermits x (W.awake x c) f).made)

  -- two that lead up to each other
  core_at : {f : ℕ} (a b : ℕ) → C a ≡ true → Edge t a b → Holds f a b (t.weight a b) (view n γ a) (view n γ b) → Mutual a b (view n γ a) (view n γ b) → Core a b (t.weight a b) (view n γ a) (view n γ b) (control (n.way a b)) (control (n.way b a))
  core_at a b c l h u = core_of (calm_to a b c l) (calm a b c l) h.mark_a (h.label_a ∙ sym h.label_b) u.0 u.1 (S.edges a b l)

  core_current : {f : ℕ} (a b : ℕ) → C a ≡ true → Edge t a b → Holds f a b (t.weight a b) (view n γ a) (view n γ b) → (n.held a).level ≡ (γ.fragment (γ.own a).label).level
  core_current a b c l h = elim h.stands [ inl u ↦ (core_at a b c l h u).current_a | inr z ↦ z.current_a ]

  -- everybody is current
  current_by : (x y : ℕ) → C x ≡ true → Edge t x y → (n.held x).level ≡ (γ.fragment (γ.own x).label).level
  current_by x y c l =
      elim (dec_lt 0 (γ.fragment (γ.own x).label).level) [
        | yes h ↦ (let o = S.cores x (W.real x c) h in let e = o.holds.label_a in same_level x o.a c e ∙ core_current o.a o.b (same_c x o.a c e) o.edge o.holds ∙ ap (λ k. (γ.fragment k).level) e)
        | no h ↦ (let z = (S.sane x y l).low in omega arith)
      ]

  current : (x : ℕ) → C x ≡ true → (n.held x).level ≡ (γ.fragment (γ.own x).label).level
  current x c = elim (ℕ_discrete (n.held x).level (γ.fragment (γ.own x).label).level) [ yes e ↦ e | no d ↦ absurd (with_edge x c (λ y l. d (current_by x y c l))) ]

  -- nobody is of a lower level
  abbrev Low : ℕ → Type 0
  Low x = (y : ℕ) → C y ≡ true → (n.held y).level < (n.held x).level → ⊥

  low_as : (x y : ℕ) → (n.held y).level ≡ (n.held x).level → Low x → Low y
  low_as x y e low z c h = low z c (omega arith)

  -- one of lowest level asks nobody
  no_testing : (i j : ℕ) → C i ≡ true → Low i → (n.held i).testing ≡ Some j → ⊥
  no_testing i j c low e =
      let l : Edge t i j = (S.good.helds i j j).testing e in
      let cj = W.closed i j c l in
      low j cj (unanswered e (λ k f h. W.deferred j i (Test k f) cj (back i j l) (has_asks (n.way i j) (Test k f) h)) (λ h. W.deferred i j Accept c l (has_replies (n.way j i) Accept h)) (λ h. W.deferred i j Reject c l (has_replies (n.way j i) Reject h))
      (λ k f h. W.deferred i j (Test k f) c l (has_asks (n.way j i) (Test k f) h)) (S.talks i j l))

  branch_edge : (i j : ℕ) → (n.held i).mark j ≡ Branch → Edge t i j
  branch_edge i j m = elim (S.good.helds i j j).mark [ inl e ↦ absurd (grind arith) | inr l ↦ l ]

  -- one that seeks and waits for another: that one seeks too, below it
  record Deeper (i : ℕ) : Type 0 where
    to : ℕ
    inside : C to ≡ true
    level : (n.held to).level ≡ (n.held i).level
    seeks : (n.held to).status ≡ Find
    rank : (γ.own i).rank < (γ.own to).rank

  deeper : (i : ℕ) → C i ≡ true → (n.held i).status ≡ Find → 1 ≤ (n.held i).find_count → Deeper i
  deeper i c s h = go (some_of (awaited n i) t.count (subst (λ k. 1 ≤ k) (S.counts.counts i s) h))
    where
      go : (j : ℕ) × ((j < t.count) × (awaited n i j ≡ true)) → Deeper i
      go (j, (lt, aw)) =
          let a = awaited_so j (n.held i) (n.held j).status (control (n.way i j)) (control (n.way j i)) aw in
          let l : Edge t i j = branch_edge i j a.mark in
          let v = below_seeker (S.sane i j l) s a.mark a.other (S.edges i j l) in
          let q = calm_to i j c l in
          record {
            to = j;
            inside = W.closed i j c l;
            level = child_even q v;
            rank = v.rank;
            seeks = child_seeks q v (λ r. a.other (W.deferred i j (Report (n.held j).best_weight) c l (has_control (n.way j i) (Report (n.held j).best_weight) r)).0) a;
          }

  module _ (b : ℕ) (above : (x : ℕ) → x < t.count → (γ.own x).rank < b) where
    seeks : (d i : ℕ) → b < (γ.own i).rank + d → C i ≡ true → Low i → (n.held i).status ≡ Find → ⊥
    seeks zero i h c low s = let z = above i (W.real i c) in omega arith
    seeks (suc d) i h c low s =
        elim (S.busy i s) [
          | inl g ↦ (let p = deeper i c s g in let r = p.rank in seeks d p.to (omega arith) p.inside (low_as i p.to p.level low) p.seeks)
          | inr g ↦ no_testing i g.0 c low g.1
        ]

  -- one of lowest level does not seek
  rests : (i : ℕ) → C i ≡ true → Low i → (n.held i).status ≡ Find → ⊥
  rests i c low s = let b = top (λ x. (γ.own x).rank) t.count in seeks b.0 b.1 (suc b.0) i (omega arith) c low s

  -- the report of one end of the core has been taken by the other
  heard_over : (a b : ℕ) → C b ≡ true → Edge t b a → ((n.held b).status ≡ Find → ⊥) → Told (view n γ a) (view n γ b) (control (n.way a b)) → (γ.own a).reported ≡ true → control (n.way a b) ≡ []
  heard_over a b c l s q r = told_all (view n γ a) (view n γ b) q r (λ h. s (W.deferred b a (Report (n.held a).best_weight) c l (has_control (n.way a b) (Report (n.held a).best_weight) h)).1)

  -- a core of lowest level has ended, so one of its ends has halted
  core_rests : (a b : ℕ) → C a ≡ true → Edge t a b → Low a → Core a b (t.weight a b) (view n γ a) (view n γ b) (control (n.way a b)) (control (n.way b a)) → ⊥
  core_rests a b c l low q =
      let cb = W.closed a b c l in
      let sa = rests a c low in
      let sb = rests b cb (low_as a b (sym q.levels) low) in
      let ra : (γ.own a).reported ≡ true = sym ((S.sane a b l).settles q.parent_a (current a c) sa) ∙ q.in_search_a in
      let rb : (γ.own b).reported ≡ true = sym ((S.sane b a (back a b l)).settles q.parent_b (current b cb) sb) ∙ q.in_search_b in
      elim (S.exchanges a b l (record { up_a = q.up_a; up_b = q.up_b; changed_a = q.changed_a; changed_b = q.changed_b; reported_a = ra; reported_b = rb; out = heard_over a b cb (back a b l) sb q.out ra; back = heard_over b a c l sa q.back rb }))
      [ inl h ↦ W.going a c h | inr h ↦ W.going b cb h ]

  -- so the fragment has decided
  not_undecided : (x : ℕ) → C x ≡ true → Low x → (γ.fragment (γ.own x).label).least ≡ undecided → ⊥
  not_undecided x c low d =
      elim (dec_lt 0 (γ.fragment (γ.own x).label).level) [
        | yes h ↦ (let o = S.cores x (W.real x c) h in let e = o.holds.label_a in let ca = same_c x o.a c e in
            let u : (γ.fragment (γ.own o.a).label).least ≡ undecided = ap (λ k. (γ.fragment k).least) e ∙ d in
            elim o.holds.stands [
              | inl m ↦ core_rests o.a o.b ca o.edge (low_as x o.a (sym (same_level x o.a c e)) low) (core_at o.a o.b ca o.edge o.holds m)
              | inr z ↦ either u z.least
            ])
        | no h ↦ with_edge x c (λ y l.
            let z = current x c in
            let k = (S.zeros x y l (W.awake x c) (omega arith)).changed in
            let f = (S.sane x y l).unchanged d z in
            flag k f)
      ]
    where
      either : {l : Least} {v : Option ℕ} → l ≡ undecided → l ≡ decided v → ⊥
      either a b = grind arith

      flag : {b : Bool} → b ≡ true → b ≡ false → ⊥
      flag a b = grind arith

  -- and its connect is under way over its lightest edge, to a node of the same level that puts it off
  record Offer (x : ℕ) : Type 0 where
    from : ℕ
    over : ℕ
    edge : Edge t from over
    label : (γ.own from).label ≡ (γ.own x).label
    mode : Connecting over from (t.weight from over) (view n γ over) (view n γ from) (control (n.way over from)) (control (n.way from over))
    even : (n.held over).level ≡ (n.held from).level

  sends_by : (x s g : ℕ) → C x ≡ true → Announced t n γ x s g → Offer x
  sends_by x s g c w = go w.word
    where
      cs : C s ≡ true
      cs = same_c x s c w.label

      go : (control (n.way s g) ≡ Change ∷ []) ⊎ (control (n.way s g) ≡ Connect (n.held s).level ∷ []) → Offer x
      go (inl e) = absurd (changes_not (calm_to s g cs w.edge) e)
      go (inr e) =
          let q : Later s (Connect (n.held s).level) (n.held g) = W.deferred g s (Connect (n.held s).level) (W.closed s g cs w.edge) (back s g w.edge) (has_control (n.way s g) (Connect (n.held s).level) (subst (λ z. Has z (Connect (n.held s).level)) (sym e) (inl refl))) in
          let m = connects e q.0 (S.edges s g w.edge) in
          record { from = s; over = g; edge = w.edge; label = w.label; mode = m; even = (let a = q.1 in let b = m.levels in omega arith) }

  sends : (x : ℕ) (d : Least) → C x ≡ true → Low x → (γ.fragment (γ.own x).label).least ≡ d → Offer x
  sends x undecided c low e = absurd (not_undecided x c low e)
  sends x (decided None) c low e = let z = S.finished.says x e in absurd (W.going z.0 (same_c x z.0 c z.1.0) z.1.1)
  sends x (decided (Some w)) c low e = let z = S.announces x w e in sends_by x z.0 z.1.0 c z.1.1

  -- the fragment on the other side sends its own over a lighter edge
  no_heavier : (a b : ℕ) → lighter (Some a) (Some b) ≡ false → b ≤ a
  no_heavier a b e = grind arith

  marks : {m : Mark} → m ≡ Branch → m ≡ Basic → ⊥
  marks a b = grind arith

  shorter : (x : ℕ) (s : Offer x) (r : Offer s.over) → t.weight r.from r.over < t.weight s.from s.over
  shorter x s r =
      let k = back s.from s.over s.edge in
      let d : (γ.fragment (γ.own s.over).label).least ≡ decided (Some (t.weight r.from r.over)) = ap (λ z. (γ.fragment z).least) (sym r.label) ∙ r.mode.least_b in
      let le = no_heavier (t.weight s.over s.from) (t.weight r.from r.over) (S.outward.lightest s.over s.from k (Some (t.weight r.from r.over)) s.mode.differ d) in
      let sy = weights.both s.from s.over in
      let ne : t.weight r.from r.over ≡ t.weight s.from s.over → ⊥ = λ e.
      elim (weights.differ r.from r.over s.from s.over r.edge s.edge e) [
        | inl z ↦ s.mode.differ (sym r.label ∙ ap (λ v. (γ.own v).label) z.0)
        | inr z ↦ marks (subst (λ v. (n.held s.over).mark v ≡ Branch) z.1 (subst (λ v. (n.held v).mark r.over ≡ Branch) z.0 r.mode.mark_b)) s.mode.mark_a
      ] in
      omega arith

  down : (d x : ℕ) (s : Offer x) → C x ≡ true → Low x → t.weight s.from s.over < d → ⊥
  down zero x s c low h = omega arith
  down (suc d) x s c low h =
      let cf = same_c x s.from c s.label in
      let lf = low_as x s.from (sym (same_level x s.from c s.label)) low in
      let co = W.closed s.from s.over cf s.edge in
      let lo = low_as s.from s.over s.even lf in
      let r = sends s.over (γ.fragment (γ.own s.over).label).least co lo refl in
      let sh = shorter x s r in
      down d s.over r co lo (omega arith)

  lowest : (l x : ℕ) → (n.held x).level < l → C x ≡ true → ⊥
  lowest zero x h c = omega arith
  lowest (suc l) x h c =
      let low : Low x = λ y d g. lowest l y (omega arith) d in
      let s = sends x (γ.fragment (γ.own x).label).least c low refl in
      down (suc (t.weight s.from s.over)) x s c low (omega arith)

-- THE THEOREM: there is no such set but the empty one
pub never_stuck : (t : Graph) (weights : Weights t) (n : Lifted) (γ : Ghost) → Grounds t n γ → (C : ℕ → Bool) → Waiting t n C → (x : ℕ) → C x ≡ true → ⊥
never_stuck t weights n γ S C W x c = lowest t weights n γ S C W (suc (n.held x).level) x (omega arith) c
