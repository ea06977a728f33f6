-- A station by its neighbours: what it holds of each, whatever places they have.
use Rattle.std.proofs.Common.{◌≡◌, ℕ, zero, suc, ◌<◌, ◌≤◌, Bool, true, false, cond, eqb, ltb, ◌⊎◌, List, [], ◌∷◌, ◌++◌, map, length, get_or, set, Some, None, Option, sym, refl, ap, ◌∙◌, subst, inl, inr, append-nil, arith}
use native.Mathlib.Decide.{dec_lt}
use Rattle.std.proofs.lemmas.Bool.Decides.{eqb_tells}
use Rattle.std.proofs.lemmas.List.{length-map, get_or-map, get_or_past, get_or-set_same, get_or-set_other}
use Rattle.message.specs.declared.messages.Message.{Message}
use Rattle.node.specs.declared.state.Node.{Node}
use Rattle.node.specs.declared.state.Turn.{Turn}
use Rattle.node.specs.Rules.{Sends}
use Rattle.node.specs.Laws.{sent_over}
use Rattle.link.specs.Ends.{End, giving}
use Rattle.station.specs.State.{State, no_link, link_in, link_at, with_link, gave_at, gave_below, acted}
use Rattle.station.proofs.Given.{gave_long}
use Rattle.protocol.specs.Net.{given, over}
use Rattle.protocol.proofs.Lift.{Once, once_rest, once_head}
use Rattle.protocol.proofs.Carry.{over_none, over_at, place}

-- the end of the link to a neighbour, and none where there is no such link
unfoldable pub link_to : List End → ℕ → End
link_to [] j = no_link
link_to (e ∷ es) j = cond (eqb e.neighbour j) e (link_to es j)

pub record View : Type 0 where
  pub node : Node
  pub acknowledged : ℕ → ℕ
  pub outbox : ℕ → List Message
  pub taken : ℕ → ℕ
  pub inbox : ℕ → List Message

abbrev pub view_of : State → View
view_of s =
    record {
      node = s.node;
      acknowledged = λ j. (link_to s.links j).acknowledged;
      outbox = λ j. (link_to s.links j).outbox;
      taken = λ j. (link_to s.links j).taken;
      inbox = λ j. (link_to s.links j).inbox;
    }

-- the neighbours to which links lead, in order
abbrev pub leads : List End → List ℕ
leads es = map (λ e. e.neighbour) es

-- what becomes of a view: something else stands in the inbox from j; or other messages were taken from j; or acknowledged by j; or the node has done a turn
abbrev pub inboxed : ℕ → List Message → View → View
inboxed j q v = record { node = v.node; acknowledged = v.acknowledged; outbox = v.outbox; taken = v.taken; inbox = λ b. cond (eqb b j) q (v.inbox b) }

abbrev pub came : ℕ → ℕ → List Message → View → View
came j n q v = record { node = v.node; acknowledged = v.acknowledged; outbox = v.outbox; taken = λ b. cond (eqb b j) n (v.taken b); inbox = λ b. cond (eqb b j) q (v.inbox b) }

abbrev pub done : ℕ → ℕ → List Message → View → View
done j n q v = record { node = v.node; acknowledged = λ b. cond (eqb b j) n (v.acknowledged b); outbox = λ b. cond (eqb b j) q (v.outbox b); taken = v.taken; inbox = v.inbox }

abbrev pub turned : Node → (ℕ → List Message) → View → View
turned n more v = record { node = n; acknowledged = v.acknowledged; outbox = λ b. v.outbox b ++ more b; taken = v.taken; inbox = v.inbox }

view_path : {n : Node} {a a' t t' : ℕ → ℕ} {o o' q q' : ℕ → List Message} → ((b : ℕ) → a b ≡ a' b) → ((b : ℕ) → o b ≡ o' b) → ((b : ℕ) → t b ≡ t' b) → ((b : ℕ) → q b ≡ q' b) →
    ◌≡◌ {A = View} (record { node = n; acknowledged = a; outbox = o; taken = t; inbox = q }) (record { node = n; acknowledged = a'; outbox = o'; taken = t'; inbox = q' })
view_path {n} e f g h = λ p. record { node = n; acknowledged = λ b. e b p; outbox = λ b. f b p; taken = λ b. g b p; inbox = λ b. h b p }

pub leads_long : (es : List End) (ns : List ℕ) → leads es ≡ ns → length es ≡ length ns
leads_long es ns e = sym (length-map es (λ x. x.neighbour)) ∙ ap length e

-- the link at a place leads to the neighbour there
pub leads_at : (es : List End) (k : ℕ) → k < length es → (link_in es k).neighbour ≡ get_or (leads es) k 0
leads_at es k l = sym (get_or-map (λ e. e.neighbour) es k no_link 0 l)

-- so it is the link to that neighbour
pub to_at : (es : List End) (k : ℕ) → Once (leads es) → k < length es → link_to es (get_or (leads es) k 0) ≡ link_in es k
unfolding link_to
to_at [] k o l = absurd (omega arith)
to_at (e ∷ es) zero o l = let y : eqb e.neighbour e.neighbour ≡ true = grind arith in rw y
to_at (e ∷ es) (suc k) o l =
    let m = length-map es (λ e. e.neighbour) in
    let h = once_head e.neighbour (leads es) o k (omega arith) in
    let y : eqb e.neighbour (get_or (leads es) k 0) ≡ false = grind arith in
    rw y (to_at es k (once_rest e.neighbour (leads es) o) (omega arith))

-- where no link leads there is none
pub to_none : (es : List End) (b : ℕ) → ((k : ℕ) → k < length (leads es) → get_or (leads es) k 0 ≡ b → ⊥) → link_to es b ≡ no_link
unfolding link_to
to_none [] b h = refl
to_none (e ∷ es) b h =
    let d = h 0 (omega arith) in
    let y : eqb e.neighbour b ≡ false = grind arith in
    rw y (to_none es b (λ k p q. h (suc k) (omega arith) q))

-- a link that is replaced leads where it led
pub leads_set : (es : List End) (k : ℕ) (e : End) → e.neighbour ≡ (link_in es k).neighbour → leads (set es k e) ≡ leads es
leads_set [] k e h = refl
leads_set (x ∷ es) zero e h = ap (λ n. n ∷ leads es) h
leads_set (x ∷ es) (suc k) e h = ap (λ ns. x.neighbour ∷ ns) (leads_set es k e h)

first_set : (e x y : End) (b : ℕ) → e.neighbour ≡ x.neighbour → cond (eqb e.neighbour b) e y ≡ cond (eqb b x.neighbour) e (cond (eqb x.neighbour b) x y)
first_set e x y b h = elim (eqb_tells b x.neighbour) [
  | inl u ↦ let v : eqb e.neighbour b ≡ true = grind arith in rw (u.0, v)
  | inr u ↦ let v : eqb e.neighbour b ≡ false = grind arith in let z : eqb x.neighbour b ≡ false = grind arith in rw (u.0, v, z)
]

later_set : (e x y z : End) (b j : ℕ) → (x.neighbour ≡ j → ⊥) → z ≡ cond (eqb b j) e y → cond (eqb x.neighbour b) x z ≡ cond (eqb b j) e (cond (eqb x.neighbour b) x y)
later_set e x y z b j d h = elim (eqb_tells b j) [
  | inl u ↦ let v : eqb x.neighbour b ≡ false = grind arith in rw (u.0, v) (rw u.0 at h)
  | inr u ↦ rw u.0 (ap (λ w. cond (eqb x.neighbour b) x w) (rw u.0 at h))
]

to_set : (es : List End) (k : ℕ) (e : End) (b : ℕ) → Once (leads es) → k < length es → e.neighbour ≡ (link_in es k).neighbour →
    link_to (set es k e) b ≡ cond (eqb b (link_in es k).neighbour) e (link_to es b)
unfolding link_to
to_set [] k e b o l h = absurd (omega arith)
to_set (x ∷ es) zero e b o l h = first_set e x (link_to es b) b h
to_set (x ∷ es) (suc k) e b o l h =
    let m = length-map es (λ e. e.neighbour) in
    let d = once_head x.neighbour (leads es) o k (omega arith) in
    later_set e x (link_to es b) (link_to (set es k e) b) b (link_in es k).neighbour (λ q. d (q ∙ leads_at es k (omega arith)))
    (to_set es k e b (once_rest x.neighbour (leads es) o) (omega arith) h)

-- The link at place k of a station is replaced by one to the same neighbour: of that neighbour, and of no other, the station holds something else.
module _ (near : List ℕ) (once : Once near) (s : State) (same : leads s.links ≡ near) (k : ℕ) (lt : k < length near) where
  pub inside : k < length s.links
  inside = let n = leads_long s.links near same in omega arith

  once_here : Once (leads s.links)
  once_here = subst (λ ns. Once ns) (sym same) once

  pub neighbour_at : (link_at s k).neighbour ≡ get_or near k 0
  neighbour_at = leads_at s.links k inside ∙ ap (λ ns. get_or ns k 0) same

  pub link_at_lem : link_to s.links (get_or near k 0) ≡ link_at s k
  link_at_lem = ap (λ ns. link_to s.links (get_or ns k 0)) (sym same) ∙ to_at s.links k once_here inside

  linked : (e : End) → e.neighbour ≡ (link_at s k).neighbour → (b : ℕ) → link_to (set s.links k e) b ≡ cond (eqb b (get_or near k 0)) e (link_to s.links b)
  linked e h b = to_set s.links k e b once_here inside h ∙ ap (λ j. cond (eqb b j) e (link_to s.links b)) neighbour_at

  -- a field of it, where the field changes and where it does not
  changed : {A : Type 0} (f : End → A) (e : End) → e.neighbour ≡ (link_at s k).neighbour → (b : ℕ) → f (link_to (set s.links k e) b) ≡ cond (eqb b (get_or near k 0)) (f e) (f (link_to s.links b))
  changed f e h b = ap f (linked e h b) ∙ pushed (eqb b (get_or near k 0))
    where
      pushed : (c : Bool) → f (cond c e (link_to s.links b)) ≡ cond c (f e) (f (link_to s.links b))
      pushed true = refl
      pushed false = refl

  unchanged : {A : Type 0} (f : End → A) (e : End) → e.neighbour ≡ (link_at s k).neighbour → f e ≡ f (link_at s k) → (b : ℕ) → f (link_to (set s.links k e) b) ≡ f (link_to s.links b)
  unchanged f e h q b = changed f e h b ∙ two (eqb_tells b (get_or near k 0))
    where
      two : ((eqb b (get_or near k 0) ≡ true) × (b ≡ get_or near k 0)) ⊎ ((eqb b (get_or near k 0) ≡ false) × (b ≡ get_or near k 0 → ⊥)) → cond (eqb b (get_or near k 0)) (f e) (f (link_to s.links b)) ≡ f (link_to s.links b)
      two (inl (y, z)) = rw (y, q) (ap f (sym link_at_lem) ∙ ap (λ v. f (link_to s.links v)) (sym z))
      two (inr (y, z)) = rw y

  pub view_inboxed : (e : End) → e.neighbour ≡ (link_at s k).neighbour → e.acknowledged ≡ (link_at s k).acknowledged → e.outbox ≡ (link_at s k).outbox → e.taken ≡ (link_at s k).taken →
      view_of (with_link k e s) ≡ inboxed (get_or near k 0) e.inbox (view_of s)
  view_inboxed e h a o t = view_path (unchanged (λ x. x.acknowledged) e h a) (unchanged (λ x. x.outbox) e h o) (unchanged (λ x. x.taken) e h t) (changed (λ x. x.inbox) e h)

  pub view_came : (e : End) → e.neighbour ≡ (link_at s k).neighbour → e.acknowledged ≡ (link_at s k).acknowledged → e.outbox ≡ (link_at s k).outbox →
      view_of (with_link k e s) ≡ came (get_or near k 0) e.taken e.inbox (view_of s)
  view_came e h a o = view_path (unchanged (λ x. x.acknowledged) e h a) (unchanged (λ x. x.outbox) e h o) (changed (λ x. x.taken) e h) (changed (λ x. x.inbox) e h)

  pub view_done : (e : End) → e.neighbour ≡ (link_at s k).neighbour → e.taken ≡ (link_at s k).taken → e.inbox ≡ (link_at s k).inbox →
      view_of (with_link k e s) ≡ done (get_or near k 0) e.acknowledged e.outbox (view_of s)
  view_done e h t q = view_path (changed (λ x. x.acknowledged) e h) (changed (λ x. x.outbox) e h) (unchanged (λ x. x.taken) e h t) (unchanged (λ x. x.inbox) e h q)

-- What a node sends from its places stands in the outboxes there.
abbrev gave_more : List Message → End → End
gave_more more e = record { neighbour = e.neighbour; acknowledged = e.acknowledged; outbox = e.outbox ++ more; taken = e.taken; inbox = e.inbox }

gave_nothing : (e : End) → e ≡ gave_more [] e
gave_nothing e = λ p. record { neighbour = e.neighbour; acknowledged = e.acknowledged; outbox = sym (append-nil e.outbox) p; taken = e.taken; inbox = e.inbox }

pub leads_gave : (o : Option Message) (k : ℕ) (es : List End) → leads (gave_at k o es) ≡ leads es
leads_gave None k es = refl
leads_gave (Some m) k es = leads_set es k (giving m (link_in es k)) refl

pub leads_below : (sends : Sends) (es : List End) (n : ℕ) → leads (gave_below sends es n) ≡ leads es
unfolding gave_below
leads_below sends es zero = refl
leads_below sends es (suc n) = leads_gave (sent_over sends n) n (gave_below sends es n) ∙ leads_below sends es n

gave_at_lem : (o : Option Message) (k : ℕ) (es : List End) (l : ℕ) → l < length es → link_in (gave_at k o es) l ≡ gave_more (cond (eqb l k) (given o) []) (link_in es l)
gave_at_lem None k es l h = elim (eqb l k) as (λ b. link_in es l ≡ gave_more (cond b [] []) (link_in es l)) [ true ↦ gave_nothing (link_in es l) | false ↦ gave_nothing (link_in es l) ]
gave_at_lem (Some m) k es l h = elim (eqb_tells l k) [
  | inl u ↦ rw (u.0, u.1) (get_or-set_same es k (giving m (link_in es k)) no_link (subst (λ v. v < length es) u.1 h))
  | inr u ↦ rw u.0 (get_or-set_other es k l (giving m (link_in es k)) no_link u.1 ∙ gave_nothing (link_in es l))
]

gave_twice : (e : End) (n l : ℕ) (x : List Message) → gave_more (cond (eqb l n) x []) (gave_more (cond (ltb l n) x []) e) ≡ gave_more (cond (ltb l (suc n)) x []) e
gave_twice e n l x = λ p. record { neighbour = e.neighbour; acknowledged = e.acknowledged; outbox = joined p; taken = e.taken; inbox = e.inbox }
  where
    joined : (e.outbox ++ cond (ltb l n) x []) ++ cond (eqb l n) x [] ≡ e.outbox ++ cond (ltb l (suc n)) x []
    joined = grind (arith, append-nil)

gave_below_lem : (sends : Sends) (es : List End) (n l : ℕ) → l < length es → link_in (gave_below sends es n) l ≡ gave_more (cond (ltb l n) (given (sent_over sends l)) []) (link_in es l)
unfolding gave_below
gave_below_lem sends es zero l h = let y : ltb l 0 ≡ false = grind arith in rw y (gave_nothing (link_in es l))
gave_below_lem sends es (suc n) l h =
    gave_at_lem (sent_over sends n) n (gave_below sends es n) l (let m = gave_long sends es n in omega arith) ∙ same_place (eqb_tells l n)
    ∙ ap (λ e. gave_more (cond (eqb l n) (given (sent_over sends l)) []) e) (gave_below_lem sends es n l h) ∙ gave_twice (link_in es l) n l (given (sent_over sends l))
  where
    same_place : ((eqb l n ≡ true) × (l ≡ n)) ⊎ ((eqb l n ≡ false) × (l ≡ n → ⊥)) →
        gave_more (cond (eqb l n) (given (sent_over sends n)) []) (link_in (gave_below sends es n) l) ≡ gave_more (cond (eqb l n) (given (sent_over sends l)) []) (link_in (gave_below sends es n) l)
    same_place (inl (y, z)) = rw z
    same_place (inr (y, z)) = rw y

-- and the inboxes are as they were
pub gave_inbox : (sends : Sends) (es : List End) (n l : ℕ) → (link_in (gave_below sends es n) l).inbox ≡ (link_in es l).inbox
gave_inbox sends es n l = elim (dec_lt l (length es)) [
  | yes h ↦ ap (λ e. e.inbox) (gave_below_lem sends es n l h)
  | no h ↦ ap (λ e. e.inbox) (get_or_past (gave_below sends es n) l no_link (let m = gave_long sends es n in omega arith) ∙ sym (get_or_past es l no_link (omega arith)))
]

-- A node has done a turn: what it sends to a neighbour stands behind what is to be handed over to it.
module _ (near : List ℕ) (once : Once near) (few : length near ≤ 16) (s : State) (same : leads s.links ≡ near) (t : Turn) where
  pub leads_acted : leads (acted t s).links ≡ near
  leads_acted = leads_below t.sends s.links 16 ∙ same

  to_acted : (b : ℕ) → link_to (acted t s).links b ≡ gave_more (over near t.sends b) (link_to s.links b)
  to_acted b = two (place near b)
    where
      two : ((k : ℕ) × (k < length near) × (get_or near k 0 ≡ b)) ⊎ ((k : ℕ) → k < length near → get_or near k 0 ≡ b → ⊥) → link_to (acted t s).links b ≡ gave_more (over near t.sends b) (link_to s.links b)
      two (inl (k, l, e)) =
          let y : ltb k 16 ≡ true = grind arith in
          subst (λ v. link_to (acted t s).links v ≡ gave_more (over near t.sends v) (link_to s.links v)) e
          (link_at_lem near once (acted t s) leads_acted k l ∙ gave_below_lem t.sends s.links 16 k (inside near once s same k l)
          ∙ ap (λ c. gave_more (cond c (given (sent_over t.sends k)) []) (link_at s k)) y
          ∙ ap (λ x. gave_more x (link_at s k)) (sym (over_at near t.sends k once l)) ∙ ap (λ x. gave_more (over near t.sends (get_or near k 0)) x) (sym (link_at_lem near once s same k l)))
      two (inr z) =
          to_none (acted t s).links b (subst (λ ns. (k : ℕ) → k < length ns → get_or ns k 0 ≡ b → ⊥) (sym leads_acted) z) ∙ sym (to_none s.links b (subst (λ ns. (k : ℕ) → k < length ns → get_or ns k 0 ≡ b → ⊥) (sym same) z))
          ∙ gave_nothing (link_to s.links b) ∙ ap (λ x. gave_more x (link_to s.links b)) (sym (over_none near t.sends b z))

  pub view_acted : view_of (acted t s) ≡ turned t.node (λ b. over near t.sends b) (view_of s)
  view_acted =
      view_path (λ b. ap (λ e. e.acknowledged) (to_acted b)) (λ b. ap (λ e. e.outbox) (to_acted b)) (λ b. ap (λ e. e.taken) (to_acted b)) (λ b. ap (λ e. e.inbox) (to_acted b))
