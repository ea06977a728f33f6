-- Each way through an event ends where its definition says.
use Rattle.std.proofs.Common.{◌≡◌, ℕ, ◌<◌, Bool, true, false, cond, List, [], ◌∷◌, ◌++◌, map, length, get_or, set, Some, None, Ok, Err, vec_items, vec_len, Option, Result, sym, refl, ap, ◌∙◌, arith}
use Rattle.std.proofs.lemmas.List.{length-map, set-get_or, get_or-set_same}
use Rattle.std.specs.Vec.{with_item}
use Rattle.message.specs.declared.refusals.Refusal.{Refusal}
use Rattle.message.specs.declared.refusals.Refusal.TheVariants.{NotNext, NotAwaited}
use Rattle.message.specs.declared.packets.Packet.{Packet}
use Rattle.message.specs.declared.packets.Acknowledgement.{Acknowledgement}
use Rattle.link.specs.declared.ends.Link.{Link}
use Rattle.link.specs.Ends.{End, end_of, is_next, received, why_not_taken, is_awaited, settled, why_not_settled}
use Rattle.station.specs.declared.state.Station.{Station}
use Rattle.station.specs.declared.outcome.Transmission.{Transmission}
use Rattle.station.specs.State.{State, state_of, no_link, link_at, with_link, woken}
use Rattle.station.specs.Work.{Progress, at_work}
use Rattle.station.specs.Events.{Did, oldest_to, answer_to, firsts, each, idle_in, turned_away, on_wake, if_next, arrived, if_awaited, acknowledged, over_link}
use Rattle.station.proofs.Links.{link_read, link_changed}

-- stations of one state have as many links
pub same_long : (a b : Station) → state_of a ≡ state_of b → vec_len a.links ≡ vec_len b.links
same_long a b e =
    let m : length (map end_of (vec_items a.links)) ≡ length (map end_of (vec_items b.links)) = ap (λ s. length s.links) e in
    let p = length-map (vec_items a.links) end_of in
    let q = length-map (vec_items b.links) end_of in
    omega (arith, a.links.ok.0, b.links.ok.0)

-- one link of a copy has changed
pub state_changed : (a : Station) (k : ℕ) (l x : Link) (f : End → End) (s : State) → state_of a ≡ s → k < vec_len a.links → x ≡ get_or (vec_items a.links) k x → end_of l ≡ f (end_of x) →
    state_of (record { number = a.number; node = a.node; links = with_item a.links k l }) ≡ with_link k (f (link_at s k)) s
state_changed a k l x f s e h r c =
    ap (λ v. record { number = a.number; node = a.node; links = v }) (link_changed (vec_items a.links) k l x f (omega (arith, a.links.ok.0)) r c) ∙
    ap (λ v. with_link k (f (link_at v k)) v) e

-- the link that was written is read back
pub read_back : (a : Station) (k : ℕ) (l y : Link) → k < vec_len a.links → y ≡ get_or (set (vec_items a.links) k l) k y → y ≡ l
read_back a k l y h e = e ∙ get_or-set_same (vec_items a.links) k l y (omega (arith, a.links.ok.0))

pub link_of : (a : Station) (k : ℕ) (x : Link) (s : State) → state_of a ≡ s → k < vec_len a.links → x ≡ get_or (vec_items a.links) k x → end_of x ≡ link_at s k
link_of a k x s e h r = sym (link_read (vec_items a.links) k x (omega (arith, a.links.ok.0)) r) ∙ ap (λ v. link_at v k) e

pub woke_did : (s t : State) (none sends : List Transmission) (refusals : List Refusal) → t ≡ woken s → none ≡ [] → sends ≡ none ++ firsts each t.links (length t.links) → refusals ≡ [] →
    ◌≡◌ {A = Did} (record { state = t; sends = sends; refusals = refusals }) (on_wake s)
woke_did s t none sends refusals e n f r =
    ap (λ v. record { state = t; sends = v; refusals = refusals }) (f ∙ ap (λ v. v ++ firsts each t.links (length t.links)) n) ∙
    (ap (λ v. record { state = v; sends = firsts each v.links (length v.links); refusals = refusals }) e ∙
    ap (λ v. record { state = woken s; sends = firsts each (woken s).links (length (woken s).links); refusals = v }) r)

unchanged : (p : Packet) (e : End) → is_next e.taken p.number ≡ false → received p e ≡ e
unchanged p e f = rw f

some_none : {A : Type 0} {x : A} → ◌≡◌ {A = Option A} None (Some x) → ⊥
some_none e = let z : ◌≡◌ {A = ℕ} 0 1 = cc in omega arith

-- what came over a link came over the one at its place
pub over_place : {X : Type 0} (read : Result X Refusal) (o : Option ℕ) (k : ℕ) (x : X) → over_link read o ≡ Ok (k, x) → o ≡ Some k
over_place {X} read o k x e = go read o (ap place_in e)
  where
    place_in : Result (ℕ × X) Refusal → Option ℕ
    place_in (Err r) = None
    place_in (Ok p) = Some p.0

    go : (read : Result X Refusal) (o : Option ℕ) → place_in (over_link read o) ≡ Some k → o ≡ Some k
    go (Err r) o e = absurd (some_none e)
    go (Ok y) None e = absurd (some_none e)
    go (Ok y) (Some j) e = e

-- a packet that is not the next leaves all as it is
pub late_did : (p : Packet) (k : ℕ) (s t : State) (r : Refusal) (sends : List Transmission) (refusals : List Refusal) → why_not_taken p (link_at s k) ≡ Some r → t ≡ with_link k (link_at s k) s →
    sends ≡ answer_to (link_at s k) ∷ [] → refusals ≡ r ∷ [] → ◌≡◌ {A = Did} (record { state = t; sends = sends; refusals = refusals }) (arrived p (Some k) s)
late_did p k s t r sends refusals why e f g = go (is_next (link_at s k).taken p.number) refl
  where
    go : (b : Bool) → is_next (link_at s k).taken p.number ≡ b → ◌≡◌ {A = Did} (record { state = t; sends = sends; refusals = refusals }) (if_next b k p s)
    go true y = absurd (some_none (sym (ap (λ b. cond b None (Some NotNext)) y) ∙ why))
    go false y =
        let same : t ≡ s = e ∙ ap (λ v. record { number = s.number; node = s.node; links = v }) (set-get_or s.links k no_link) in
        let reason : r ≡ NotNext = (let z : Some r ≡ Some NotNext = sym why ∙ ap (λ b. cond b None (Some NotNext)) y in cc) in
        let told : refusals ≡ NotNext ∷ [] = g ∙ ap (λ v. v ∷ []) reason in
        λ i. record { state = same i; sends = f i; refusals = told i }

-- one that is the next is taken
pub next_did : (p : Packet) (k : ℕ) (s t u : State) (w : Progress) (sends₀ sends : List Transmission) → why_not_taken p (link_at s k) ≡ None → t ≡ with_link k (received p (link_at s k)) s →
    u ≡ woken t → w ≡ at_work u → sends₀ ≡ answer_to (received p (link_at s k)) ∷ [] → sends ≡ sends₀ ++ firsts (idle_in s.links) w.state.links (length w.state.links) →
    ◌≡◌ {A = Did} (record { state = w.state; sends = sends; refusals = w.refusals }) (arrived p (Some k) s)
next_did p k s t u w sends₀ sends why e y x f g = go (is_next (link_at s k).taken p.number) refl
  where
    whole : w ≡ at_work (woken (with_link k (received p (link_at s k)) s))
    whole = x ∙ ap at_work (y ∙ ap woken e)

    out : sends ≡ answer_to (received p (link_at s k)) ∷ firsts (idle_in s.links) w.state.links (length w.state.links)
    out = g ∙ ap (λ v. v ++ firsts (idle_in s.links) w.state.links (length w.state.links)) f

    go : (b : Bool) → is_next (link_at s k).taken p.number ≡ b → ◌≡◌ {A = Did} (record { state = w.state; sends = sends; refusals = w.refusals }) (if_next b k p s)
    go false z = absurd (some_none (sym why ∙ ap (λ b. cond b None (Some NotNext)) z))
    go true z =
        ap (λ v. record { state = w.state; sends = v; refusals = w.refusals }) out ∙
        ap (λ (v : Progress). record { state = v.state; sends = answer_to (received p (link_at s k)) ∷ firsts (idle_in s.links) v.state.links (length v.state.links); refusals = v.refusals }) whole

module _ (a : Acknowledgement) (k : ℕ) (s : State) where
  -- an acknowledgement that is not waited for changes nothing
  pub unawaited_did : (r : Refusal) → why_not_settled a (link_at s k) ≡ Some r → turned_away r s ≡ acknowledged a (Some k) s
  unawaited_did r q = go (is_awaited a (link_at s k)) refl
    where
      go : (b : Bool) → is_awaited a (link_at s k) ≡ b → turned_away r s ≡ if_awaited b k a s
      go true y = absurd (some_none (sym (ap (λ b. cond b None (Some NotAwaited)) y) ∙ q))
      go false y = let reason : r ≡ NotAwaited = (let z : Some r ≡ Some NotAwaited = sym q ∙ ap (λ b. cond b None (Some NotAwaited)) y in cc) in ap (λ v. turned_away v s) reason

  -- one that is settles the oldest message
  pub settled_did : (t : State) (none sends : List Transmission) (refusals : List Refusal) → why_not_settled a (link_at s k) ≡ None → t ≡ with_link k (settled a (link_at s k)) s → none ≡ [] →
      sends ≡ none ++ oldest_to (settled a (link_at s k)) → refusals ≡ [] → ◌≡◌ {A = Did} (record { state = t; sends = sends; refusals = refusals }) (acknowledged a (Some k) s)
  settled_did t none sends refusals q e n f g = go (is_awaited a (link_at s k)) refl
    where
      go : (b : Bool) → is_awaited a (link_at s k) ≡ b → ◌≡◌ {A = Did} (record { state = t; sends = sends; refusals = refusals }) (if_awaited b k a s)
      go false y = absurd (some_none (sym q ∙ ap (λ b. cond b None (Some NotAwaited)) y))
      go true y = let out : sends ≡ oldest_to (settled a (link_at s k)) = f ∙ ap (λ v. v ++ oldest_to (settled a (link_at s k))) n in λ i. record { state = e i; sends = out i; refusals = g i }
