-- Once the inboxes are worked off, none of what is left in them can be taken yet.
use Rattle.std.proofs.Common.{◌≡◌, ℕ, zero, suc, ◌<◌, Bool, true, false, eqb, ◌⊎◌, List, [], ◌∷◌, ◌++◌, length, Some, None, Option, sym, refl, ap, ◌∙◌, subst, inl, inr, append_assoc, append-nil, arith}
use native.Mathlib.Decide.{dec_lt}
use Rattle.std.proofs.lemmas.Bool.Decides.{eqb_tells}
use Rattle.std.proofs.lemmas.List.{get_or_past, get_or-set_same, get_or-set_other}
use Rattle.message.specs.declared.messages.Message.{Message}
use Rattle.node.specs.declared.state.Node.{Node}
use Rattle.node.specs.declared.state.Taking.{Taking}
use Rattle.node.specs.declared.state.Taking.TheVariants.{Taken, Deferred, Refused}
use Rattle.node.specs.Rules.{is_sleeping, takes, wakes}
use Rattle.node.proofs.Sent.{after_set}
use Rattle.node.proofs.Took as took
use Rattle.link.specs.Ends.{End, head_of, turned, deferring}
use Rattle.link.specs.Copper.{Was, first, later}
use Rattle.station.specs.State.{State, no_link, link_at, with_link, woken}
use Rattle.station.specs.Work.{Progress, look_by, look_at, look, looks, waiting_at, round, afresh, lap, rounds, waiting, works}
use Rattle.station.proofs.Looks.{look_head}
use Rattle.station.proofs.Rounds.{lap_fewer}
use Rattle.network.proofs.View.{gave_inbox}
use Rattle.network.proofs.Awake.{Up, woken_awake}

-- none of some messages from place k can be taken yet
abbrev Later : ℕ → Node → List Message → Type 0
Later k n q = (m : Message) → Was m q → takes k m n ≡ Deferred n

abbrev pub Rested : State → Type 0
Rested s = (k : ℕ) → Later k s.node (link_at s k).inbox

-- what waits cannot be taken yet, and nothing waits at one that sleeps
pub record Calm (s : State) : Type 0 where
  pub rest : Rested s
  pub sleep : is_sleeping s.node.status ≡ true → (k : ℕ) → (link_at s k).inbox ≡ []

-- a round that took something does not forget it
by_took : (k : ℕ) (p : Progress) (c : Taking) → (look_by k c p).took ≡ false → p.took ≡ false
by_took k p (Taken t) e = let z : ◌≡◌ {A = ℕ} 0 1 = cc in absurd (omega arith)
by_took k p (Deferred n) e = e
by_took k p (Refused n r) e = let z : ◌≡◌ {A = ℕ} 0 1 = cc in absurd (omega arith)

look_took : (k : ℕ) (p : Progress) → (look k p).took ≡ false → p.took ≡ false
unfolding look
look_took k p e = two (head_of (link_at p.state k).inbox) e
  where
    two : (o : Option Message) → (look_at k o p).took ≡ false → p.took ≡ false
    two None e = e
    two (Some m) e = by_took k p (takes k m p.state.node) e

looks_took : (k n : ℕ) (p : Progress) → (looks k n p).took ≡ false → p.took ≡ false
unfolding looks
looks_took k zero p e = e
looks_took k (suc n) p e = looks_took k n p (look_took k (looks k n p) e)

-- the first look apart
looks_first : (k n : ℕ) (p : Progress) → looks k (suc n) p ≡ looks k n (look k p)
unfolding looks
looks_first k zero p = refl
looks_first k (suc n) p = ap (λ q. look k q) (looks_first k n p)

-- where something waits there is a link
waits_inside : (s : State) (k : ℕ) (m : Message) (q : List Message) → (link_at s k).inbox ≡ m ∷ q → k < length s.links
waits_inside s k m q e = elim (dec_lt k (length s.links)) [
  | yes l ↦ l
  | no l ↦ let z : (link_at s k).inbox ≡ [] = ap (λ x. x.inbox) (get_or_past s.links k no_link (omega arith)) in let y : ◌≡◌ {A = ℕ} 0 1 = cc in absurd (omega arith)
]

-- nothing was taken: the inbox at k has been turned round, and the rest is as it was
record Turned (k : ℕ) (front back : List Message) (p r : Progress) : Type 0 where
  pub node : r.state.node ≡ p.state.node
  pub line : (link_at r.state k).inbox ≡ back ++ front
  pub others : (l : ℕ) → (l ≡ k → ⊥) → (link_at r.state l).inbox ≡ (link_at p.state l).inbox
  pub all : Later k p.state.node front

later_more : (k : ℕ) (n : Node) (m : Message) (q : List Message) → takes k m n ≡ Deferred n → Later k n q → Later k n (m ∷ q)
later_more k n m q e h _ first = e
later_more k n m q e h x (later w) = h x w

looks_turn : (k : ℕ) (front back : List Message) (p : Progress) → (link_at p.state k).inbox ≡ front ++ back → (looks k (length front) p).took ≡ false → Turned k front back p (looks k (length front) p)
unfolding looks
looks_turn k [] back p q t = record { node = refl; line = q ∙ sym (append-nil back); others = λ l d. refl; all = λ m w. elim w [ ] }
looks_turn k (m ∷ front) back p q t = subst (λ r. Turned k (m ∷ front) back p r) (sym (looks_first k (length front) p)) (tries (λ r e y. looks_turn k front (back ++ (m ∷ [])) r e y) (takes k m p.state.node) refl)
  where
    took_false : (looks k (length front) (look k p)).took ≡ false
    took_false = ap (λ r. r.took) (sym (looks_first k (length front) p)) ∙ t

    looked : (c : Taking) → takes k m p.state.node ≡ c → look k p ≡ look_by k c p
    looked c e = look_head k p m c (ap head_of q) e

    stopped : (c : Taking) → takes k m p.state.node ≡ c → (look_by k c p).took ≡ true → ⊥
    stopped c e y = let z = looks_took k (length front) (look k p) took_false in let x : (look_by k c p).took ≡ false = ap (λ r. r.took) (sym (looked c e)) ∙ z in let u : ◌≡◌ {A = ℕ} 0 1 = cc in omega arith

    tries : ((r : Progress) → (link_at r.state k).inbox ≡ front ++ (back ++ (m ∷ [])) → (looks k (length front) r).took ≡ false → Turned k front (back ++ (m ∷ [])) r (looks k (length front) r)) →
        (c : Taking) → takes k m p.state.node ≡ c → Turned k (m ∷ front) back p (looks k (length front) (look k p))
    tries ih (Taken x) e = absurd (stopped (Taken x) e refl)
    tries ih (Refused n r) e = absurd (stopped (Refused n r) e refl)
    tries ih (Deferred n) e = on (ih (look k p) now took_false)
      where
        l : k < length p.state.links
        l = waits_inside p.state k m (front ++ back) q

        mine : (link_at (look k p).state k).inbox ≡ (front ++ back) ++ (m ∷ [])
        mine = ap (λ r. (link_at r.state k).inbox) (looked (Deferred n) e) ∙ ap (λ x. x.inbox) (get_or-set_same p.state.links k (deferring (link_at p.state k)) no_link l) ∙ ap turned q

        now : (link_at (look k p).state k).inbox ≡ front ++ (back ++ (m ∷ []))
        now = mine ∙ append_assoc front back (m ∷ [])

        same : (look k p).state.node ≡ p.state.node
        same = ap (λ r. r.state.node) (looked (Deferred n) e)

        on : Turned k front (back ++ (m ∷ [])) (look k p) (looks k (length front) (look k p)) → Turned k (m ∷ front) back p (looks k (length front) (look k p))
        on h =
            record {
              node = h.node ∙ same;
              line = h.line ∙ append_assoc back (m ∷ []) front;
              others = λ x d. h.others x d ∙ ap (λ r. (link_at r.state x).inbox) (looked (Deferred n) e) ∙ ap (λ y. y.inbox) (get_or-set_other p.state.links k x (deferring (link_at p.state k)) no_link d);
              all = later_more k p.state.node m front (e ∙ ap Deferred (took.why_deferred p.state.node n k m e).0) (subst (λ y. Later k y front) same h.all);
            }

record Same (p r : Progress) : Type 0 where
  pub node : r.state.node ≡ p.state.node
  pub inbox : (k : ℕ) → (link_at r.state k).inbox ≡ (link_at p.state k).inbox

-- a round that took nothing: nothing can be taken at any of its places
record Round (n : ℕ) (p r : Progress) : Type 0 where
  pub same : Same p r
  pub all : (k : ℕ) → k < n → Later k p.state.node (link_at p.state k).inbox

round_turn : (n : ℕ) (p : Progress) → (round n p).took ≡ false → Round n p (round n p)
unfolding round
round_turn zero p t = record { same = record { node = refl; inbox = λ k. refl }; all = λ k l. absurd (omega arith) }
round_turn (suc n) p t =
    let h = looks_turn n (link_at (round n p).state n).inbox [] (round n p) (sym (append-nil (link_at (round n p).state n).inbox)) t in
    on (round_turn n p (looks_took n (waiting_at n (round n p)) (round n p) t)) h
  where
    on : Round n p (round n p) → Turned n (link_at (round n p).state n).inbox [] (round n p) (looks n (waiting_at n (round n p)) (round n p)) → Round (suc n) p (looks n (waiting_at n (round n p)) (round n p))
    on r h =
        record {
          same = record { node = h.node ∙ r.same.node; inbox = λ k. inbox k (eqb_tells k n) ∙ r.same.inbox k };
          all = λ k l. all k l (eqb_tells k n);
        }
      where
        inbox : (k : ℕ) → ((eqb k n ≡ true) × (k ≡ n)) ⊎ ((eqb k n ≡ false) × (k ≡ n → ⊥)) → (link_at (looks n (waiting_at n (round n p)) (round n p)).state k).inbox ≡ (link_at (round n p).state k).inbox
        inbox k (inl (y, z)) = rw z h.line
        inbox k (inr (y, z)) = h.others k z

        all : (k : ℕ) → k < suc n → ((eqb k n ≡ true) × (k ≡ n)) ⊎ ((eqb k n ≡ false) × (k ≡ n → ⊥)) → Later k p.state.node (link_at p.state k).inbox
        all k l (inl (y, z)) =
            subst (λ x. Later x p.state.node (link_at p.state x).inbox) (sym z)
            (subst (λ q. Later n p.state.node q) (r.same.inbox n) (subst (λ x. Later n x (link_at (round n p).state n).inbox) r.same.node h.all))
        all k l (inr (y, z)) = r.all k (omega arith)

lap_rested : (p : Progress) → (lap p).took ≡ false → Rested (lap p).state
lap_rested p t k =
    let r = round_turn (length p.state.links) (afresh p) t in
    subst (λ n. Later k n (link_at (lap p).state k).inbox) (sym r.same.node) (subst (λ q. Later k p.state.node q) (sym (r.same.inbox k)) (everywhere r (dec_lt k (length p.state.links))))
  where
    everywhere : Round (length p.state.links) (afresh p) (lap p) → Dec (k < length p.state.links) → Later k p.state.node (link_at p.state k).inbox
    everywhere r (yes l) = r.all k l
    everywhere r (no l) = let z : (link_at p.state k).inbox ≡ [] = ap (λ x. x.inbox) (get_or_past p.state.links k no_link (omega arith)) in rw z (λ m w. elim w [ ])

rounds_rested : (n : ℕ) (p : Progress) → waiting p.state < n → Rested (rounds n p).state
unfolding rounds
rounds_rested zero p l = absurd (omega arith)
rounds_rested (suc n) p l = two (lap p).took refl (λ h. rounds_rested n (lap p) h)
  where
    two : (b : Bool) → (lap p).took ≡ b → (waiting (lap p).state < n → Rested (rounds n (lap p)).state) → Rested (elim b as (λ v. Progress) [ true ↦ rounds n (lap p) | false ↦ lap p ]).state
    two true e ih = let h = lap_fewer p e in ih (omega arith)
    two false e ih = lap_rested p e

pub works_rested : (p : Progress) → Rested (works p).state
works_rested p = rounds_rested (suc (waiting p.state)) p (omega arith)

-- a link is replaced by one with the same inbox
pub calm_with : (s : State) (k : ℕ) (e : End) → e.inbox ≡ (link_at s k).inbox → Calm s → Calm (with_link k e s)
calm_with s k e h c = record { rest = λ l. subst (λ q. Later l s.node q) (sym (inbox l)) (c.rest l); sleep = λ z l. inbox l ∙ c.sleep z l }
  where
    inbox : (l : ℕ) → (link_at (with_link k e s) l).inbox ≡ (link_at s l).inbox
    inbox l = elim (after_set s.links k l e no_link) [ inl x ↦ ap (λ y. y.inbox) x | inr x ↦ ap (λ y. y.inbox) x.2 ∙ h ∙ ap (λ y. (link_at s y).inbox) (sym x.0) ]

-- a station that wakes is calm, since nothing waited
pub calm_woken : (s : State) → Calm s → Up (woken s).node → Calm (woken s)
calm_woken s c u = two (is_sleeping s.node.status) refl
  where
    two : (b : Bool) → is_sleeping s.node.status ≡ b → Calm (woken s)
    two false e = subst (λ r. Calm r) (sym (woken_awake s e)) c
    two true e =
        record {
          rest = λ k m w. elim (subst (λ q. Was m q) (gave_inbox (wakes s.node).sends s.links 16 k ∙ c.sleep e k) w) [ ];
          sleep = λ z. absurd (let y : ◌≡◌ {A = ℕ} 0 1 = cc in omega arith);
        }
