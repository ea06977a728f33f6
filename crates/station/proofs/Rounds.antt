-- Each round that takes something leaves fewer messages, so that rounds come to an end, however many are allowed.
use Rattle.std.proofs.Common.{◌≡◌, ℕ, zero, suc, ◌<◌, ◌≤◌, Bool, true, false, ◌⊎◌, List, [], ◌∷◌, length, set, Some, None, sum_by, Option, sym, refl, ap, ◌∙◌, inl, inr, arith}
use native.Mathlib.Decide.{dec_lt}
use Rattle.std.proofs.lemmas.List.{length-append, set_past}
use Rattle.std.proofs.lemmas.List.Sums.{sum_by-set}
use Rattle.message.specs.declared.messages.Message.{Message}
use Rattle.node.specs.declared.state.Taking.{Taking}
use Rattle.node.specs.declared.state.Taking.TheVariants.{Taken, Deferred, Refused}
use Rattle.node.specs.Rules.{Sends, takes}
use Rattle.node.specs.Laws.{sent_over}
use Rattle.link.specs.Ends.{End, head_of, rest, turned, giving, taking, deferring}
use Rattle.station.specs.State.{no_link, link_in, link_at, gave_at, gave_below}
use Rattle.station.specs.Work.{Progress, look_by, look_at, look, looks, waiting_at, round, afresh, lap, rounds, waiting, works}

abbrev inboxed : End → ℕ
inboxed e = length e.inbox

-- how many wait after a link was replaced
set_waits : (es : List End) (k : ℕ) (e : End) → inboxed e ≤ inboxed (link_in es k) → sum_by inboxed (set es k e) ≤ sum_by inboxed es
set_waits es k e le = elim (dec_lt k (length es)) [
  | yes h ↦ omega (arith, sum_by-set inboxed es k e no_link h)
  | no h ↦ (let q = set_past es k e (omega arith) in rw q (omega arith))
]

set_fewer : (es : List End) (k : ℕ) (e : End) → k < length es → inboxed e < inboxed (link_in es k) → sum_by inboxed (set es k e) < sum_by inboxed es
set_fewer es k e h lt = omega (arith, sum_by-set inboxed es k e no_link h)

gave_at_waits : (o : Option Message) (k : ℕ) (es : List End) → sum_by inboxed (gave_at k o es) ≤ sum_by inboxed es
gave_at_waits None k es = omega arith
gave_at_waits (Some m) k es = set_waits es k (giving m (link_in es k)) (omega arith)

pub gave_waits : (s : Sends) (es : List End) (n : ℕ) → sum_by inboxed (gave_below s es n) ≤ sum_by inboxed es
unfolding gave_below
gave_waits s es zero = omega arith
gave_waits s es (suc n) = omega (arith, gave_at_waits (sent_over s n) n (gave_below s es n), gave_waits s es n)

turned_long : (ms : List Message) → length (turned ms) ≡ length ms
turned_long [] = refl
turned_long (m ∷ ms) = length-append ms (m ∷ []) ∙ omega arith

-- a place with a head is one of the links
pub inside : (es : List End) (k : ℕ) (m : Message) → head_of (link_in es k).inbox ≡ Some m → k < length es
inside [] k m e = let z : ◌≡◌ {A = ℕ} 0 1 = cc in absurd (omega arith)
inside (x ∷ es) zero m e = omega arith
inside (x ∷ es) (suc k) m e = let h = inside es k m e in omega arith

rest_fewer : (ms : List Message) (m : Message) → head_of ms ≡ Some m → length (rest ms) < length ms
rest_fewer [] m e = let z : ◌≡◌ {A = ℕ} 0 1 = cc in absurd (omega arith)
rest_fewer (x ∷ ms) m e = omega arith

-- no more wait than before; and if something was taken that had not been, fewer
pub record Falls (p q : Progress) : Type 0 where
  pub most : waiting q.state ≤ waiting p.state
  pub took : q.took ≡ true → (p.took ≡ true) ⊎ (waiting q.state < waiting p.state)

pub falls_none : (p : Progress) → Falls p p
falls_none p = record { most = omega arith; took = λ t. inl t }

pub falls_through : (p q r : Progress) → Falls p q → Falls q r → Falls p r
falls_through p q r a b =
    record {
      most = omega (arith, a.most, b.most);
      took = λ t. elim (b.took t) [ inl u ↦ elim (a.took u) [ inl v ↦ inl v | inr v ↦ inr (omega (arith, b.most)) ] | inr u ↦ inr (omega (arith, a.most)) ];
    }

by_falls : (k : ℕ) (p : Progress) (m : Message) (r : Taking) → head_of (link_at p.state k).inbox ≡ Some m → Falls p (look_by k r p)
by_falls k p m (Taken t) e =
    let f = set_fewer p.state.links k (taking (link_at p.state k)) (inside p.state.links k m e) (rest_fewer (link_at p.state k).inbox m e) in
    let g = gave_waits t.sends (set p.state.links k (taking (link_at p.state k))) 16 in
    record { most = omega arith; took = λ u. inr (omega arith) }
by_falls k p m (Deferred n) e =
    let f = set_waits p.state.links k (deferring (link_at p.state k)) (omega (arith, turned_long (link_at p.state k).inbox)) in
    record { most = f; took = λ u. inl u }
by_falls k p m (Refused n r) e =
    let f = set_fewer p.state.links k (taking (link_at p.state k)) (inside p.state.links k m e) (rest_fewer (link_at p.state k).inbox m e) in
    record { most = omega arith; took = λ u. inr f }

at_falls : (k : ℕ) (p : Progress) (o : Option Message) → head_of (link_at p.state k).inbox ≡ o → Falls p (look_at k o p)
at_falls k p None e = falls_none p
at_falls k p (Some m) e = by_falls k p m (takes k m p.state.node) e

pub look_falls : (k : ℕ) (p : Progress) → Falls p (look k p)
unfolding look
look_falls k p = at_falls k p (head_of (link_at p.state k).inbox) refl

pub looks_falls : (k n : ℕ) (p : Progress) → Falls p (looks k n p)
unfolding looks
looks_falls k zero p = falls_none p
looks_falls k (suc n) p = falls_through p (looks k n p) (look k (looks k n p)) (looks_falls k n p) (look_falls k (looks k n p))

pub round_falls : (n : ℕ) (p : Progress) → Falls p (round n p)
unfolding round
round_falls zero p = falls_none p
round_falls (suc n) p =
    falls_through p (round n p) (looks n (waiting_at n (round n p)) (round n p)) (round_falls n p) (looks_falls n (waiting_at n (round n p)) (round n p))

-- a round that took something leaves fewer
pub lap_fewer : (p : Progress) → (lap p).took ≡ true → waiting (lap p).state < waiting p.state
lap_fewer p t = elim ((round_falls (length p.state.links) (afresh p)).took t) [ inl u ↦ (let z : ◌≡◌ {A = ℕ} 0 1 = cc in absurd (omega arith)) | inr u ↦ u ]

-- on with the rounds, if the last one took something
abbrev pub goes_on : Bool → ℕ → Progress → Progress
goes_on true n q = rounds n q
goes_on false n q = q

pub rounds_step : (n : ℕ) (p : Progress) → rounds (suc n) p ≡ goes_on (lap p).took n (lap p)
unfolding rounds
rounds_step n p = elim (lap p).took as (λ b. elim b [ true ↦ rounds n (lap p) | false ↦ lap p ] ≡ goes_on b n (lap p)) [ true ↦ refl | false ↦ refl ]

same_on : (b : Bool) (n m : ℕ) (q : Progress) → (b ≡ true → rounds n q ≡ rounds m q) → goes_on b n q ≡ goes_on b m q
same_on false n m q f = refl
same_on true n m q f = f refl

-- more rounds than messages lead to the same
pub rounds_same : (n m : ℕ) (p : Progress) → waiting p.state < n → waiting p.state < m → rounds n p ≡ rounds m p
rounds_same zero m p h g = absurd (omega arith)
rounds_same (suc n) zero p h g = absurd (omega arith)
rounds_same (suc n) (suc m) p h g =
    rounds_step n p ∙ (same_on (lap p).took n m (lap p) (λ e. let f = lap_fewer p e in rounds_same n m (lap p) (omega arith) (omega arith)) ∙ sym (rounds_step m p))

-- whether something was taken before does not matter
pub works_afresh : (p : Progress) → works (afresh p) ≡ works p
works_afresh p = rounds_step (waiting p.state) (afresh p) ∙ sym (rounds_step (waiting p.state) p)

pub works_on : (p : Progress) → (lap p).took ≡ true → works (lap p) ≡ works p
works_on p e =
    let f = lap_fewer p e in
    rounds_same (suc (waiting (lap p).state)) (waiting p.state) (lap p) (omega arith) f ∙ sym (rounds_step (waiting p.state) p ∙ ap (λ b. goes_on b (waiting p.state) (lap p)) e)

pub works_last : (p : Progress) → (lap p).took ≡ false → lap p ≡ works p
works_last p e = sym (rounds_step (waiting p.state) p ∙ ap (λ b. goes_on b (waiting p.state) (lap p)) e)
