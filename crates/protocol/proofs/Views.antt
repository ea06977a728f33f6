-- The ghost's step, as each node sees it.
use Rattle.std.proofs.Common.{◌≡◌, ℕ, Bool, true, false, cond, ◌||◌, eqb, sym, refl, ◌∙◌, arith}
use Rattle.protocol.proofs.Frame.{Lifted}
use Rattle.protocol.proofs.Ghost.{Turn, begin, Own, Ghost, View, view, idle, starts, absorb, merge, report, decide, change, end, mine, moves, fragments, follow, acted, stepped}
use Rattle.protocol.proofs.Held.{Held}

ext : (A B : View) → A.held ≡ B.held → A.own.label ≡ B.own.label → A.own.up ≡ B.own.up → A.own.changed ≡ B.own.changed → A.own.reported ≡ B.own.reported → A.own.in_search ≡ B.own.in_search → A.own.rank ≡ B.own.rank →
    A.fragment.level ≡ B.fragment.level → A.fragment.name ≡ B.fragment.name → A.fragment.least ≡ B.fragment.least → A.fragment.sends ≡ B.fragment.sends → A.fragment.gets ≡ B.fragment.gets → A ≡ B
ext A B h a b c d e f x y z v w = λ i. record { held = h i; own = record { label = a i; up = b i; changed = c i; reported = d i; in_search = e i; rank = f i }; fragment = record { level = x i; name = y i; least = z i; sends = v i; gets = w i } }

pub mine_label : (u : Turn) (A J : View) → ((mine u A J).label ≡ A.own.label) × ((mine u A J).in_search ≡ A.own.in_search)
mine_label idle A J = (refl, refl)
mine_label (starts me b k z) A J = (refl, refl)
mine_label absorb A J = (refl, refl)
mine_label (merge w) A J = (refl, refl)
mine_label (begin j c r) A J = (refl, refl)
mine_label report A J = (refl, refl)
mine_label (decide me k) A J = (refl, refl)
mine_label (change me k) A J = (refl, refl)
mine_label end A J = (refl, refl)

eqb_self : (y : ℕ) → eqb y y ≡ true
eqb_self y = grind arith

either : {V : Type 0} (c : Bool) (v w : V) → v ≡ cond (c || true) v w
either true v w = refl
either false v w = refl

alike : {V : Type 0} (c : Bool) (v w : V) → cond c v w ≡ cond (c || false) v w
alike true v w = refl
alike false v w = refl

-- a value that is looked up by label
looked : {V : Type 0} (b : Bool) (l k : ℕ) (v : V) (f : ℕ → V) → cond (eqb (cond b k l) k) v (f (cond b k l)) ≡ cond (eqb l k || b) v (f l)
looked true l k v f = rw (eqb_self k) (either (eqb l k) v (f l))
looked false l k v f = alike (eqb l k) v (f l)

pub view_else : (u : Turn) (i : ℕ) (A J : View) (γ : Ghost) (m : Lifted) (a : ℕ) (h : Held) → m.held a ≡ h → (a ≡ i → ⊥) → view m (stepped u i A J γ) a ≡ follow u A J (record { held = h; own = γ.own a; fragment = γ.fragment (γ.own a).label })
view_else u i A J γ m a h e d =
    let n : eqb a i ≡ false = grind arith in
    ext (view m (stepped u i A J γ) a) (follow u A J (record { held = h; own = γ.own a; fragment = γ.fragment (γ.own a).label })) e refl (rw n) (rw n) (rw n) refl (rw n)
    (looked (moves u A J (γ.own a).label) (γ.own a).label A.own.label (fragments u A J).level (λ l. (γ.fragment l).level))
    (looked (moves u A J (γ.own a).label) (γ.own a).label A.own.label (fragments u A J).name (λ l. (γ.fragment l).name))
    (looked (moves u A J (γ.own a).label) (γ.own a).label A.own.label (fragments u A J).least (λ l. (γ.fragment l).least))
    (looked (moves u A J (γ.own a).label) (γ.own a).label A.own.label (fragments u A J).sends (λ l. (γ.fragment l).sends))
    (looked (moves u A J (γ.own a).label) (γ.own a).label A.own.label (fragments u A J).gets (λ l. (γ.fragment l).gets))

-- the same of what acts, whose label and search its own changes leave alone
acted_own : (u : Turn) (h : Held) (A J : View) (o : Own) → o.label ≡ A.own.label → o.in_search ≡ A.own.in_search → follow u A J (record { held = h; own = o; fragment = A.fragment }) ≡ follow u A J (record { held = h; own = record { label = A.own.label; up = o.up; changed = o.changed; reported = o.reported; in_search = A.own.in_search; rank = o.rank }; fragment = A.fragment })
acted_own u h A J o e f = λ k. follow u A J (record { held = h; own = record { label = e k; up = o.up; changed = o.changed; reported = o.reported; in_search = f k; rank = o.rank }; fragment = A.fragment })

pub view_acted : (u : Turn) (i : ℕ) (J : View) (γ : Ghost) (n m : Lifted) (g : Held) → m.held i ≡ g → view m (stepped u i (view n γ i) J γ) i ≡ acted u g (view n γ i) J
view_acted u i J γ n m g e =
    let A : View = view n γ i in
    let y : eqb i i ≡ true = eqb_self i in
    ext (view m (stepped u i A J γ) i) (follow u A J (record { held = g; own = record { label = A.own.label; up = (mine u A J).up; changed = (mine u A J).changed; reported = (mine u A J).reported; in_search = A.own.in_search; rank = (mine u A J).rank }; fragment = A.fragment })) e refl (rw y) (rw y) (rw y) refl (rw y)
    (looked (moves u A J (γ.own i).label) (γ.own i).label A.own.label (fragments u A J).level (λ l. (γ.fragment l).level))
    (looked (moves u A J (γ.own i).label) (γ.own i).label A.own.label (fragments u A J).name (λ l. (γ.fragment l).name))
    (looked (moves u A J (γ.own i).label) (γ.own i).label A.own.label (fragments u A J).least (λ l. (γ.fragment l).least))
    (looked (moves u A J (γ.own i).label) (γ.own i).label A.own.label (fragments u A J).sends (λ l. (γ.fragment l).sends))
    (looked (moves u A J (γ.own i).label) (γ.own i).label A.own.label (fragments u A J).gets (λ l. (γ.fragment l).gets))
    ∙ sym (acted_own u g A J (mine u A J) (mine_label u A J).0 (mine_label u A J).1)
