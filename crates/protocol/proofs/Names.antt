-- Every name that a node, a fragment or a word to begin carries is the weight of an edge inside its fragment.
use Rattle.std.proofs.Common.{◌≡◌, ℕ, zero, suc, ◌+◌, ◌≤◌, Bool, true, false, cond, eqb, ◌⊎◌, List, [], ◌∷◌, ◌++◌, Some, None, Option, sym, refl, ◌∙◌, subst, inl, inr, arith}
use Rattle.std.proofs.lemmas.Bool.Decides.{eqb_tells}
use Rattle.message.specs.declared.messages.Message.{Message}
use Rattle.message.specs.declared.messages.Message.TheVariants.{Connect, Initiate, Test, Accept, Reject, Report, Change}
use Rattle.message.specs.declared.messages.Phase.{Phase}
use Rattle.node.specs.declared.state.Status.TheVariants.{Sleeping, Find}
use Rattle.node.specs.Rules.{phase_of}
use Rattle.graph.specs.Graph.{Graph, Edge, Weights}
use Rattle.protocol.proofs.Base.{Good}
use Rattle.protocol.proofs.Control.{control}
use Rattle.protocol.proofs.Deed.{woke, In, got, one, Deed, Alone, WokeTo, Absorbs, Merges, Begins, Searches-ask, Searches-report, Searches-wait, Accepts, Rejects, Crosses-ask, Crosses-report, Crosses-wait, Accepted-report, Accepted-wait, Rejected-ask, Rejected-report, Rejected-wait, Hears-report, Hears-wait, Decides-passes, Decides-joins, Halts, Rests, Changed-passes, Changed-joins}
use Rattle.protocol.proofs.Edges.{Edges, first, next, turned}
use Rattle.protocol.proofs.Outs.{out_to, out_to-++, out_to_onward}
use Rattle.protocol.proofs.Frame.{Lifted, start, Awake, Act, Event, act, off}
use Rattle.protocol.proofs.Ghost.{Turn, Ghost, View, view, idle, starts, absorb, merge, begin, report, decide, change, end, turn, moves, fragments, stepped}
use Rattle.protocol.proofs.Held.{Send, Held, onward, send_to}
use Rattle.protocol.proofs.Mode.{tells, Mode, free, offered, offers, crossing, took, taken, merged, ahead, behind, core, told, above, below}
use Rattle.protocol.proofs.Queues.{Has, has-++}
use Rattle.protocol.proofs.Talk.{asks_seeks}
use Rattle.protocol.proofs.InsideEdge.{InsideEdge, relabel, coarsen, relabel_own, one_fragment}
use Rattle.message.specs.declared.messages.Phase.TheVariants as phase

-- of a node under label l: at level 0 it has no name, above it the name of an edge inside; who seeks is above level 0
pub record Named (t : Graph) (γ : Ghost) (h : Held) (l : ℕ) : Type 0 where
  pub low : h.level ≡ 0 → h.name ≡ 0
  pub high : 1 ≤ h.level → InsideEdge t γ h.name l
  pub seeks : h.status ≡ Find → 1 ≤ h.level

-- every name is the weight of an edge inside
pub record Names (t : Graph) (n : Lifted) (γ : Ghost) : Type 0 where
  pub nodes : (a : ℕ) → Named t γ (n.held a) (γ.own a).label
  pub begins : (a b l f : ℕ) (s : Phase) → Has (n.way a b) (Initiate l f s) → (1 ≤ l) × InsideEdge t γ f (γ.own a).label
  pub fragments : (a : ℕ) → 1 ≤ (γ.fragment (γ.own a).label).level → InsideEdge t γ (γ.fragment (γ.own a).label).name (γ.own a).label

-- at first nobody has a name
pub names_start : (t : Graph) → Names t start first
names_start t = record { nodes = λ a. record { low = λ u. refl; high = λ u. absurd (omega arith); seeks = λ u. grind arith }; begins = λ a b l f s u. absurd u; fragments = λ a u. absurd (omega arith) }

named_coarsen : {t : Graph} {γ : Ghost} {h : Held} {l : ℕ} (u : Turn) (i : ℕ) (A J : View) → Named t γ h l → Named t (stepped u i A J γ) h (relabel u A J l)
named_coarsen u i A J v = record { low = v.low; high = λ e. coarsen u i A J (v.high e); seeks = v.seeks }

-- what a message brings to node i, which is under label l: a connect an edge inside, a word to begin a name
abbrev Brings : Graph → Ghost → ℕ → ℕ → In → Type 0
Brings t γ i l woke = Unit {0}
Brings t γ i l (got j (Connect k)) = InsideEdge t γ (t.weight i j) l
Brings t γ i l (got j (Initiate k f s)) = (1 ≤ k) × InsideEdge t γ f l
Brings t γ i l (got j (Test k f)) = Unit {0}
Brings t γ i l (got j Accept) = Unit {0}
Brings t γ i l (got j Reject) = Unit {0}
Brings t γ i l (got j (Report r)) = Unit {0}
Brings t γ i l (got j Change) = Unit {0}

-- the name of the node that acts
named_acts : {t : Graph} {γ : Ghost} {i z : ℕ} {h g : Held} {inp : In} {os : List Send} → (h.status ≡ Sleeping → h.level ≡ 0) → Awake h inp → Named t γ h z → Brings t γ i z inp → Deed t i h inp g os → Named t γ g z
named_acts lo aw v b (Alone c1) = record { low = λ u. v.low (lo aw); high = λ u. absurd (omega arith); seeks = λ u. grind arith }
named_acts lo aw v b (WokeTo k c1) = record { low = λ u. v.low (lo aw); high = λ u. absurd (omega arith); seeks = λ u. grind arith }
named_acts lo aw v b (Absorbs {j} {l} c1) = record { low = v.low; high = v.high; seeks = v.seeks }
named_acts lo aw v b (Merges {j} {l} c1 c2) = record { low = v.low; high = v.high; seeks = v.seeks }
named_acts lo aw v b (Begins {j} {l} {f} {s} c1) = record { low = λ u. absurd (let o = b.0 in grind arith); high = λ u. b.1; seeks = λ u. b.0 }
named_acts lo aw v b (Searches-ask {j} {l} {f} k c1) = record { low = λ u. absurd (let o = b.0 in grind arith); high = λ u. b.1; seeks = λ u. b.0 }
named_acts lo aw v b (Searches-report {j} {l} {f} c1 c2 c3) = record { low = λ u. absurd (let o = b.0 in grind arith); high = λ u. b.1; seeks = λ u. b.0 }
named_acts lo aw v b (Searches-wait {j} {l} {f} c1 c2) = record { low = λ u. absurd (let o = b.0 in grind arith); high = λ u. b.1; seeks = λ u. b.0 }
named_acts lo aw v b (Accepts {j} {l} {f} c1 c2) = record { low = v.low; high = v.high; seeks = v.seeks }
named_acts lo aw v b (Rejects {j} {l} {f} c1 c2 c3) = record { low = v.low; high = v.high; seeks = v.seeks }
named_acts lo aw v b (Crosses-ask {j} {l} {f} k c1 c2 c3 c4) = record { low = v.low; high = v.high; seeks = v.seeks }
named_acts lo aw v b (Crosses-report {j} {l} {f} c1 c2 c3 c4 c5 c6) = record { low = v.low; high = v.high; seeks = λ u. grind arith }
named_acts lo aw v b (Crosses-wait {j} {l} {f} c1 c2 c3 c4 c5) = record { low = v.low; high = v.high; seeks = v.seeks }
named_acts lo aw v b (Accepted-report {j} c1 c2) = record { low = v.low; high = v.high; seeks = λ u. grind arith }
named_acts lo aw v b (Accepted-wait {j} c1) = record { low = v.low; high = v.high; seeks = v.seeks }
named_acts lo aw v b (Rejected-ask {j} k c1) = record { low = v.low; high = v.high; seeks = v.seeks }
named_acts lo aw v b (Rejected-report {j} c1 c2 c3) = record { low = v.low; high = v.high; seeks = λ u. grind arith }
named_acts lo aw v b (Rejected-wait {j} c1 c2) = record { low = v.low; high = v.high; seeks = v.seeks }
named_acts lo aw v b (Hears-report {j} {w} c1 c2 c3) = record { low = v.low; high = v.high; seeks = λ u. grind arith }
named_acts lo aw v b (Hears-wait {j} {w} c1 c2) = record { low = v.low; high = v.high; seeks = v.seeks }
named_acts lo aw v b (Decides-passes {j} {w} k c1 c2 c3 c4 c5) = record { low = v.low; high = v.high; seeks = v.seeks }
named_acts lo aw v b (Decides-joins {j} {w} k c1 c2 c3 c4 c5) = record { low = v.low; high = v.high; seeks = v.seeks }
named_acts lo aw v b (Halts {j} {w} c1 c2 c3 c4) = record { low = v.low; high = v.high; seeks = v.seeks }
named_acts lo aw v b (Rests {j} {w} c1 c2 c3 c4) = record { low = v.low; high = v.high; seeks = v.seeks }
named_acts lo aw v b (Changed-passes {j} k c1 c2) = record { low = v.low; high = v.high; seeks = v.seeks }
named_acts lo aw v b (Changed-joins {j} k c1 c2) = record { low = v.low; high = v.high; seeks = v.seeks }

no_report : (w : Option ℕ) (y : ℕ) (r : Option ℕ) (k f : ℕ) (s : Phase) → Has (out_to y (send_to w (Report r))) (Initiate k f s) → ⊥
no_report None y r k f s u = u
no_report (Some j) y r k f s u = grind arith

says_one : (y j k k' f f' : ℕ) (s s' : Phase) → Has (out_to y (one j (Initiate k' f' s'))) (Initiate k f s) → (k ≡ k') × (f ≡ f')
says_one y j k k' f f' s s' u = grind arith

says_onward : (y j k k' f f' : ℕ) (s s' : Phase) (h : Held) (n : ℕ) (os : List Send) → (Has (out_to y os) (Initiate k f s) → ⊥) → Has (out_to y (onward h j (Initiate k' f' s') n ++ os)) (Initiate k f s) → (k ≡ k') × (f ≡ f')
says_onward y j k k' f f' s s' h n os d u = go (has-++ (out_to y (onward h j (Initiate k' f' s') n)) (out_to y os) (Initiate k f s) (rw (sym (out_to-++ y (onward h j (Initiate k' f' s') n) os)) u))
  where
    go : Has (out_to y (onward h j (Initiate k' f' s') n)) (Initiate k f s) ⊎ Has (out_to y os) (Initiate k f s) → (k ≡ k') × (f ≡ f')
    go (inl v) = let e = out_to_onward y h j (Initiate k' f' s') n in grind arith
    go (inr v) = absurd (d v)

brought : {t : Graph} {γ : Ghost} {k k' f f' z : ℕ} → (k ≡ k') × (f ≡ f') → (1 ≤ k') × InsideEdge t γ f' z → (1 ≤ k) × InsideEdge t γ f z
brought e b = rw (e.0, e.1) b

-- the words to begin that it sends
sends_acts : {t : Graph} {γ : Ghost} {i z : ℕ} {h g : Held} {inp : In} {os : List Send} → Named t γ h z → Brings t γ i z inp → Deed t i h inp g os → (y l f : ℕ) (s : Phase) → Has (out_to y os) (Initiate l f s) → (1 ≤ l) × InsideEdge t γ f z
sends_acts {t} {γ} {i} {z} {h} v b (Alone c1) y l' f' s' u = absurd u
sends_acts {t} {γ} {i} {z} {h} v b (WokeTo k c1) y l' f' s' u = absurd (grind arith)
sends_acts {t} {γ} {i} {z} {h} v b (Absorbs {j} {l} c1) y l' f' s' u = let o : 1 ≤ h.level = omega arith in brought (says_one y j l' h.level f' h.name s' (phase_of h.status) u) (o, v.high o)
sends_acts {t} {γ} {i} {z} {h} v b (Merges {j} {l} c1 c2) y l' f' s' u = brought (says_one y j l' (h.level + 1) f' (t.weight i j) s' phase.Find u) (omega arith, b)
sends_acts {t} {γ} {i} {z} {h} v b (Begins {j} {l} {f} {s} c1) y l' f' s' u = brought (says_onward y j l' l f' f s' s h t.count [] (λ x. x) u) b
sends_acts {t} {γ} {i} {z} {h} v b (Searches-ask {j} {l} {f} k c1) y l' f' s' u = brought (says_onward y j l' l f' f s' phase.Find h t.count (one k (Test l f)) (λ x. grind arith) u) b
sends_acts {t} {γ} {i} {z} {h} v b (Searches-report {j} {l} {f} c1 c2 c3) y l' f' s' u = brought (says_onward y j l' l f' f s' phase.Find h t.count (one j (Report None)) (λ x. grind arith) u) b
sends_acts {t} {γ} {i} {z} {h} v b (Searches-wait {j} {l} {f} c1 c2) y l' f' s' u = brought (says_onward y j l' l f' f s' phase.Find h t.count [] (λ x. x) u) b
sends_acts {t} {γ} {i} {z} {h} v b (Accepts {j} {l} {f} c1 c2) y l' f' s' u = absurd (grind arith)
sends_acts {t} {γ} {i} {z} {h} v b (Rejects {j} {l} {f} c1 c2 c3) y l' f' s' u = absurd (grind arith)
sends_acts {t} {γ} {i} {z} {h} v b (Crosses-ask {j} {l} {f} k c1 c2 c3 c4) y l' f' s' u = absurd (grind arith)
sends_acts {t} {γ} {i} {z} {h} v b (Crosses-report {j} {l} {f} c1 c2 c3 c4 c5 c6) y l' f' s' u = absurd (no_report h.parent y _ l' f' s' u)
sends_acts {t} {γ} {i} {z} {h} v b (Crosses-wait {j} {l} {f} c1 c2 c3 c4 c5) y l' f' s' u = absurd u
sends_acts {t} {γ} {i} {z} {h} v b (Accepted-report {j} c1 c2) y l' f' s' u = absurd (no_report h.parent y _ l' f' s' u)
sends_acts {t} {γ} {i} {z} {h} v b (Accepted-wait {j} c1) y l' f' s' u = absurd u
sends_acts {t} {γ} {i} {z} {h} v b (Rejected-ask {j} k c1) y l' f' s' u = absurd (grind arith)
sends_acts {t} {γ} {i} {z} {h} v b (Rejected-report {j} c1 c2 c3) y l' f' s' u = absurd (no_report h.parent y _ l' f' s' u)
sends_acts {t} {γ} {i} {z} {h} v b (Rejected-wait {j} c1 c2) y l' f' s' u = absurd u
sends_acts {t} {γ} {i} {z} {h} v b (Hears-report {j} {w} c1 c2 c3) y l' f' s' u = absurd (no_report h.parent y _ l' f' s' u)
sends_acts {t} {γ} {i} {z} {h} v b (Hears-wait {j} {w} c1 c2) y l' f' s' u = absurd u
sends_acts {t} {γ} {i} {z} {h} v b (Decides-passes {j} {w} k c1 c2 c3 c4 c5) y l' f' s' u = absurd (grind arith)
sends_acts {t} {γ} {i} {z} {h} v b (Decides-joins {j} {w} k c1 c2 c3 c4 c5) y l' f' s' u = absurd (grind arith)
sends_acts {t} {γ} {i} {z} {h} v b (Halts {j} {w} c1 c2 c3 c4) y l' f' s' u = absurd u
sends_acts {t} {γ} {i} {z} {h} v b (Rests {j} {w} c1 c2 c3 c4) y l' f' s' u = absurd u
sends_acts {t} {γ} {i} {z} {h} v b (Changed-passes {j} k c1 c2) y l' f' s' u = absurd (grind arith)
sends_acts {t} {γ} {i} {z} {h} v b (Changed-joins {j} k c1 c2) y l' f' s' u = absurd (grind arith)

-- at a merge the new name is that of an edge inside
abbrev Joins : Graph → Ghost → ℕ → Turn → Type 0
Joins t γ z idle = Unit {0}
Joins t γ z (starts me k w r) = Unit {0}
Joins t γ z absorb = Unit {0}
Joins t γ z (merge w) = InsideEdge t γ w z
Joins t γ z (begin j c r) = Unit {0}
Joins t γ z report = Unit {0}
Joins t γ z (decide me k) = Unit {0}
Joins t γ z (change me k) = Unit {0}
Joins t γ z end = Unit {0}

joins_of : {t : Graph} (γ : Ghost) (z : ℕ) {i : ℕ} {h g : Held} {inp : In} {os : List Send} → Brings t γ i z inp → (d : Deed t i h inp g os) → Joins t γ z (turn d)
joins_of γ z b (Alone c1) = tt
joins_of γ z b (WokeTo k c1) = tt
joins_of γ z b (Absorbs {j} {l} c1) = tt
joins_of γ z b (Merges {j} {l} c1 c2) = b
joins_of γ z b (Begins {j} {l} {f} {s} c1) = tt
joins_of γ z b (Searches-ask {j} {l} {f} k c1) = tt
joins_of γ z b (Searches-report {j} {l} {f} c1 c2 c3) = tt
joins_of γ z b (Searches-wait {j} {l} {f} c1 c2) = tt
joins_of γ z b (Accepts {j} {l} {f} c1 c2) = tt
joins_of γ z b (Rejects {j} {l} {f} c1 c2 c3) = tt
joins_of γ z b (Crosses-ask {j} {l} {f} k c1 c2 c3 c4) = tt
joins_of γ z b (Crosses-report {j} {l} {f} c1 c2 c3 c4 c5 c6) = tt
joins_of γ z b (Crosses-wait {j} {l} {f} c1 c2 c3 c4 c5) = tt
joins_of γ z b (Accepted-report {j} c1 c2) = tt
joins_of γ z b (Accepted-wait {j} c1) = tt
joins_of γ z b (Rejected-ask {j} k c1) = tt
joins_of γ z b (Rejected-report {j} c1 c2 c3) = tt
joins_of γ z b (Rejected-wait {j} c1 c2) = tt
joins_of γ z b (Hears-report {j} {w} c1 c2 c3) = tt
joins_of γ z b (Hears-wait {j} {w} c1 c2) = tt
joins_of γ z b (Decides-passes {j} {w} k c1 c2 c3 c4 c5) = tt
joins_of γ z b (Decides-joins {j} {w} k c1 c2 c3 c4 c5) = tt
joins_of γ z b (Halts {j} {w} c1 c2 c3 c4) = tt
joins_of γ z b (Rests {j} {w} c1 c2 c3 c4) = tt
joins_of γ z b (Changed-passes {j} k c1 c2) = tt
joins_of γ z b (Changed-joins {j} k c1 c2) = tt

-- the name of A's fragment
heart : {t : Graph} {γ : Ghost} (u : Turn) (i : ℕ) (A J : View) → Joins t (stepped u i A J γ) A.own.label u → (1 ≤ A.fragment.level → InsideEdge t γ A.fragment.name A.own.label) → 1 ≤ (fragments u A J).level → InsideEdge t (stepped u i A J γ) (fragments u A J).name A.own.label
heart idle i A J w v o = coarsen idle i A J (v o)
heart (starts me k x r) i A J w v o = coarsen (starts me k x r) i A J (v o)
heart {t} {γ} absorb i A J w v o = subst (λ l. InsideEdge t (stepped absorb i A J γ) A.fragment.name l) (relabel_own absorb A J) (coarsen absorb i A J (v o))
heart {t} {γ} (merge x) i A J w v o = elim (eqb_tells A.own.label J.own.label) [ inl e ↦ old e.0 | inr e ↦ new e.0 ]
  where
    new : eqb A.own.label J.own.label ≡ false → InsideEdge t (stepped (merge x) i A J γ) (fragments (merge x) A J).name A.own.label
    new e = let n : (fragments (merge x) A J).name ≡ x = rw e in subst (λ f. InsideEdge t (stepped (merge x) i A J γ) f A.own.label) (sym n) w

    old : eqb A.own.label J.own.label ≡ true → InsideEdge t (stepped (merge x) i A J γ) (fragments (merge x) A J).name A.own.label
    old e = let o' : 1 ≤ A.fragment.level = grind arith in let n : (fragments (merge x) A J).name ≡ A.fragment.name = rw e in
        subst (λ f. InsideEdge t (stepped (merge x) i A J γ) f A.own.label) (sym n) (subst (λ l. InsideEdge t (stepped (merge x) i A J γ) A.fragment.name l) (relabel_own (merge x) A J) (coarsen (merge x) i A J (v o')))
heart (begin j c r) i A J w v o = coarsen (begin j c r) i A J (v o)
heart report i A J w v o = coarsen report i A J (v o)
heart (decide me k) i A J w v o = coarsen (decide me k) i A J (v o)
heart (change me k) i A J w v o = coarsen (change me k) i A J (v o)
heart end i A J w v o = coarsen end i A J (v o)

-- a fragment looked up by its label: K acts
at_label : {t : Graph} {γ : Ghost} (K L : ℕ) (N M : ℕ → ℕ) (k f : ℕ) → (1 ≤ k → InsideEdge t γ f K) → ((L ≡ K → ⊥) → 1 ≤ N L → InsideEdge t γ (M L) L) → 1 ≤ cond (eqb L K) k (N L) → InsideEdge t γ (cond (eqb L K) f (M L)) L
at_label {t} {γ} K L N M k f p q u = go (eqb L K) refl (eqb_tells L K) u
  where
    go : (c : Bool) → eqb L K ≡ c → ((eqb L K ≡ true) × (L ≡ K)) ⊎ ((eqb L K ≡ false) × (L ≡ K → ⊥)) → 1 ≤ cond c k (N L) → InsideEdge t γ (cond c f (M L)) L
    go true e (inl x) u = rw x.1 (p u)
    go true e (inr x) u = absurd (grind arith)
    go false e (inl x) u = absurd (grind arith)
    go false e (inr x) u = q x.1 u

unmoved : {t : Graph} {γ : Ghost} (b : Bool) (K L : ℕ) (N M : ℕ → ℕ) → (1 ≤ N L → InsideEdge t γ (M L) (cond b K L)) → (cond b K L ≡ K → ⊥) → 1 ≤ N (cond b K L) → InsideEdge t γ (M (cond b K L)) (cond b K L)
unmoved true K L N M v d u = absurd (d refl)
unmoved false K L N M v d u = v u

-- who takes a connect is of one fragment with its sender afterwards
one_label : {t : Graph} {i j k : ℕ} {h g : Held} {os : List Send} (d : Deed t i h (got j (Connect k)) g os) (A J : View) → relabel (turn d) A J J.own.label ≡ relabel (turn d) A J A.own.label
one_label (Absorbs c1) A J = grind arith
one_label (Merges c1 c2) A J = grind arith

-- and who takes a word to begin is of one fragment with its sender before
head_same : {x y w : ℕ} {A B : View} {p q : List Message} {l f : ℕ} {s : Phase} → Mode x y w A B p (Initiate l f s ∷ q) → A.own.label ≡ B.own.label
head_same (free v) = absurd (grind arith)
head_same (offered v) = absurd (grind arith)
head_same (offers v) = absurd (grind arith)
head_same (crossing v) = absurd (grind arith)
head_same (took v) = absurd (grind arith)
head_same (taken v) = absurd (grind arith)
head_same (merged v) = v.joint.same
head_same (ahead v) = absurd (grind arith)
head_same (behind v) = sym v.joint.same
head_same (core v) = absurd (grind arith)
head_same (tells v) = absurd (grind arith)
head_same (told v) = absurd (grind arith)
head_same (above v) = absurd (grind arith)
head_same (below v) = sym v.same

module _ (t : Graph) (weights : Weights t) where
  -- a message comes over an edge
  pub comes_of : (n : Lifted) → Good t n → (i j : ℕ) (x : Message) (rest : List Message) → n.way j i ≡ x ∷ rest → Edge t i j
  comes_of n P i j x rest e = turned t weights j i (P.queues j i x (rw e (inl refl)))

  -- two nodes of one name, both above level 0, are of one fragment
  pub same_name : (n : Lifted) (γ : Ghost) → Names t n γ → (a b : ℕ) → 1 ≤ (n.held a).level → 1 ≤ (n.held b).level → (n.held a).name ≡ (n.held b).name → (γ.own a).label ≡ (γ.own b).label
  same_name n γ N a b u v e = one_fragment weights (subst (λ f. InsideEdge t γ f (γ.own a).label) e ((N.nodes a).high u)) ((N.nodes b).high v)

  -- a name above level 0 is at least 1, so who shares it is above level 0 too
  pub named_above : (n : Lifted) (γ : Ghost) → Names t n γ → (a b : ℕ) → 1 ≤ (n.held a).level → (n.held a).name ≡ (n.held b).name → 1 ≤ (n.held b).level
  named_above n γ N a b u e = let w = (N.nodes a).high u in raised (n.held b).level (n.held b).name (N.nodes b).low (subst (λ f. 1 ≤ f) (w.weight ∙ e) w.edge.2)
    where
      raised : (l f : ℕ) → (l ≡ 0 → f ≡ 0) → 1 ≤ f → 1 ≤ l
      raised zero f h o = absurd (let z : f ≡ 0 = h refl in omega arith)
      raised (suc l) f h o = omega arith

  -- who asks a node of its own name asks inside its fragment
  pub names_asked : (n : Lifted) (γ : Ghost) → Names t n γ → ((a : ℕ) → ((n.held a).testing ≡ None) ⊎ ((n.held a).status ≡ Find)) → (i j : ℕ) → Edge t i j → (n.held i).testing ≡ Some j → (n.held i).name ≡ (n.held j).name → (γ.own i).label ≡ (γ.own j).label
  names_asked n γ N S i j l a e = let o : 1 ≤ (n.held i).level = (N.nodes i).seeks (asks_seeks (S i) a) in same_name n γ N i j o (named_above n γ N i j o e) e

  module _ (n m : Lifted) (γ : Ghost) (P : Good t n) (E : Edges t n γ) (N : Names t n γ) where
    acts : {i : ℕ} {inp : In} {g : Held} {os : List Send} (j : ℕ) (c : Act t n m i inp g os) → Brings t (stepped (turn c.does) i (view n γ i) (view n γ j) γ) i (relabel (turn c.does) (view n γ i) (view n γ j) (γ.own i).label) inp → Names t m (stepped (turn c.does) i (view n γ i) (view n γ j) γ)
    acts {i} {inp} {g} {os} j c b = record { nodes = nodes; begins = begins; fragments = frags }
      where
        u : Turn
        u = turn c.does

        A : View
        A = view n γ i

        J : View
        J = view n γ j

        mine : Named t (stepped u i A J γ) (n.held i) (relabel u A J (γ.own i).label)
        mine = named_coarsen u i A J (N.nodes i)

        nodes : (a : ℕ) → Named t (stepped u i A J γ) (m.held a) (relabel u A J (γ.own a).label)
        nodes a = elim (eqb_tells a i) [ inl e ↦ rw (e.1, c.self) (named_acts (λ s. ((P.helds i i i).sleeps s).2) c.ready.awake mine b c.does) | inr e ↦ rw (c.others a e.1) (named_coarsen u i A J (N.nodes a)) ]

        begins : (a y l f : ℕ) (s : Phase) → Has (m.way a y) (Initiate l f s) → (1 ≤ l) × InsideEdge t (stepped u i A J γ) f (relabel u A J (γ.own a).label)
        begins a y l f s h = go (c.came a y (Initiate l f s) h)
          where
            go : Has (n.way a y) (Initiate l f s) ⊎ ((a ≡ i) × Has (out_to y os) (Initiate l f s)) → (1 ≤ l) × InsideEdge t (stepped u i A J γ) f (relabel u A J (γ.own a).label)
            go (inl k) = let w = N.begins a y l f s k in (w.0, coarsen u i A J w.1)
            go (inr (e, k)) = rw e (sends_acts mine b c.does y l f s k)

        frags : (a : ℕ) → 1 ≤ ((stepped u i A J γ).fragment (relabel u A J (γ.own a).label)).level → InsideEdge t (stepped u i A J γ) ((stepped u i A J γ).fragment (relabel u A J (γ.own a).label)).name (relabel u A J (γ.own a).label)
        frags a = at_label A.own.label (relabel u A J (γ.own a).label) (λ l. (γ.fragment l).level) (λ l. (γ.fragment l).name) (fragments u A J).level (fragments u A J).name
            (heart u i A J (subst (λ l. Joins t (stepped u i A J γ) l u) (relabel_own u A J) (joins_of (stepped u i A J γ) (relabel u A J A.own.label) b c.does)) (N.fragments i))
            (unmoved (moves u A J (γ.own a).label) A.own.label (γ.own a).label (λ l. (γ.fragment l).level) (λ l. (γ.fragment l).name) (λ o. coarsen u i A J (N.fragments a o)))

    brings : {i j : ℕ} (x : Message) {g : Held} {os : List Send} (c : Act t n m i (got j x) g os) → Brings t (stepped (turn c.does) i (view n γ i) (view n γ j) γ) i (relabel (turn c.does) (view n γ i) (view n γ j) (γ.own i).label) (got j x)
    brings {i} {j} (Connect k) c = record { this = i; that = j; edge = comes_of n P i j (Connect k) c.ready.source.0 c.ready.source.1; weight = refl; here = refl; there = one_label c.does (view n γ i) (view n γ j) }
    brings {i} {j} (Initiate k f s) c = let w = N.begins j i k f s (rw c.ready.source.1 (inl refl)) in (w.0, coarsen (turn c.does) i (view n γ i) (view n γ j) (rw same w.1))
      where
        same : (γ.own i).label ≡ (γ.own j).label
        same = head_same (subst (λ q. Mode i j (t.weight i j) (view n γ i) (view n γ j) (control (n.way i j)) (control q)) c.ready.source.1 (E i j (comes_of n P i j (Initiate k f s) c.ready.source.0 c.ready.source.1)))
    brings (Test k f) c = tt
    brings Accept c = tt
    brings Reject c = tt
    brings (Report r) c = tt
    brings Change c = tt

    names_of : (v : Event t n m) → Names t m (next γ v)
    names_of (act i woke g os c) = acts i c tt
    names_of (act i (got j x) g os c) = acts j c (brings x c)
    names_of (off i j x front back c) = record { nodes = λ a. rw (c.helds a) (N.nodes a); begins = λ a b l f s h. N.begins a b l f s (c.came a b (Initiate l f s) h); fragments = N.fragments }

  -- THE THEOREM: each step keeps every name that of an edge inside
  pub names_step : (n m : Lifted) (γ : Ghost) → Good t n → Edges t n γ → Names t n γ → (v : Event t n m) → Names t m (next γ v)
  names_step n m γ P E N v = names_of n m γ P E N v
