-- Once the inboxes are worked off, nothing of what is left can be taken: the last round took nothing, so it left the node as it was, and it looked at every message once.
use Rattle.std.proofs.Common.{◌≡◌, ℕ, zero, suc, ◌<◌, ◌≤◌, Bool, true, false, ◌⊎◌, List, [], ◌∷◌, ◌++◌, length, Some, None, Option, sym, refl, ap, ◌∙◌, subst, inl, inr, append_assoc, append-nil, arith}
use Rattle.std.specs.List.{AllByRecursion as All}
use Rattle.std.proofs.lemmas.List.{get_or_past, get_or-set_same, get_or-set_other}
use Rattle.std.proofs.lemmas.Bool.{cases_lt, cases_eq, both_ways}
use Rattle.message.specs.declared.messages.Message.{Message}
use Rattle.node.specs.declared.state.Node.{Node}
use Rattle.node.specs.declared.state.Taking.{Taking}
use Rattle.node.specs.declared.state.Taking.TheVariants.{Taken, Deferred, Refused}
use Rattle.node.specs.Rules.{takes}
use Rattle.node.proofs.Took.{why_deferred}
use Rattle.link.specs.Ends.{head_of, turned, deferring}
use Rattle.link.specs.Copper.{Was, first, later}
use Rattle.station.specs.State.{no_link, link_at}
use Rattle.station.specs.Work.{Progress, look_by, look_at, look, looks, waiting_at, round, afresh, lap, rounds, waiting}
use Rattle.station.specs.Laws.{InboxesCalm}
use Rattle.station.proofs.Looks.{look_head}
use Rattle.station.proofs.Rounds.{inside, lap_fewer, goes_on, rounds_step}

-- each of these messages, over this edge, has to wait
abbrev AllWait : ℕ → Node → List Message → Type 0
AllWait k n ms = All (λ m. takes k m n ≡ Deferred n) ms

-- what was taken in a round stays taken
by_took : (k : ℕ) (r : Taking) (p : Progress) → p.took ≡ true → (look_by k r p).took ≡ true
by_took k (Taken t) p h = refl
by_took k (Deferred n) p h = h
by_took k (Refused n r) p h = refl

at_took : (k : ℕ) (o : Option Message) (p : Progress) → p.took ≡ true → (look_at k o p).took ≡ true
at_took k None p h = h
at_took k (Some m) p h = by_took k (takes k m p.state.node) p h

looks_took : (k n : ℕ) (p : Progress) → p.took ≡ true → (looks k n p).took ≡ true
unfolding looks look
looks_took k zero p h = h
looks_took k (suc n) p h = at_took k (head_of (link_at (looks k n p).state k).inbox) (looks k n p) (looks_took k n p h)

-- the first look, and then the others
looks_first : (k n : ℕ) (p : Progress) → looks k (suc n) p ≡ looks k n (look k p)
unfolding looks
looks_first k zero p = refl
looks_first k (suc n) p = ap (look k) (looks_first k n p)

-- nothing was taken: the front of the inbox has gone behind the rest, and all of it has to wait
record Turned (k : ℕ) (front back : List Message) (p q : Progress) : Type 0 where
  pub node : q.state.node ≡ p.state.node
  pub line : (link_at q.state k).inbox ≡ back ++ front
  pub others : (j : ℕ) → (j ≡ k → ⊥) → link_at q.state j ≡ link_at p.state j
  pub wait : AllWait k p.state.node front

-- one message deferred
deferred : (k : ℕ) (m : Message) (ms : List Message) (n : Node) (p q : Progress) → (link_at p.state k).inbox ≡ m ∷ ms → takes k m p.state.node ≡ Deferred n → q ≡ look_by k (Deferred n) p → Turned k (m ∷ []) ms p q
deferred k m ms n p q e t s =
    subst (Turned k (m ∷ []) ms p) (sym s)
    (record {
      node = refl;
      line = ap (λ v. v.inbox) (get_or-set_same p.state.links k (deferring (link_at p.state k)) no_link (inside p.state.links k m (ap head_of e))) ∙ ap turned e;
      others = λ j f. get_or-set_other p.state.links k j (deferring (link_at p.state k)) no_link f;
      wait = (t ∙ ap Deferred (why_deferred p.state.node n k m t).0, tt);
    })

then_turned : (k : ℕ) (m : Message) (front back : List Message) (p q r : Progress) → Turned k (m ∷ []) (front ++ back) p q → Turned k front (back ++ (m ∷ [])) q r → Turned k (m ∷ front) back p r
then_turned k m front back p q r a b =
    record {
      node = b.node ∙ a.node;
      line = b.line ∙ append_assoc back (m ∷ []) front;
      others = λ j f. b.others j f ∙ a.others j f;
      wait = (a.wait.0, subst (λ n. AllWait k n front) a.node b.wait);
    }

looks_turn : (k : ℕ) (front back : List Message) (p : Progress) → (link_at p.state k).inbox ≡ front ++ back → ((looks k (length front) p).took ≡ true) ⊎ Turned k front back p (looks k (length front) p)
unfolding looks
looks_turn k [] back p e = inr (record { node = refl; line = e ∙ sym (append-nil back); others = λ j f. refl; wait = tt })
looks_turn k (m ∷ front) back p e =
    subst (λ q. (q.took ≡ true) ⊎ Turned k (m ∷ front) back p q) (sym (looks_first k (length front) p)) (by (λ q. looks_turn k front (back ++ (m ∷ [])) q) (takes k m p.state.node) refl)
  where
    by : ((q : Progress) → (link_at q.state k).inbox ≡ front ++ (back ++ (m ∷ [])) → ((looks k (length front) q).took ≡ true) ⊎ Turned k front (back ++ (m ∷ [])) q (looks k (length front) q)) →
        (r : Taking) → takes k m p.state.node ≡ r → ((looks k (length front) (look k p)).took ≡ true) ⊎ Turned k (m ∷ front) back p (looks k (length front) (look k p))
    by ih (Taken t) q = inl (looks_took k (length front) (look k p) (ap (λ v. v.took) (look_head k p m (Taken t) (ap head_of e) q)))
    by ih (Refused n r) q = inl (looks_took k (length front) (look k p) (ap (λ v. v.took) (look_head k p m (Refused n r) (ap head_of e) q)))
    by ih (Deferred n) q =
        let d = deferred k m (front ++ back) n p (look k p) e q (look_head k p m (Deferred n) (ap head_of e) q) in
        elim (ih (look k p) (d.line ∙ append_assoc front back (m ∷ [])))
        [ inl h ↦ inl h | inr v ↦ inr (then_turned k m front back p (look k p) (looks k (length front) (look k p)) d v) ]

-- the node and every inbox are as they were
record Same (p q : Progress) : Type 0 where
  pub node : q.state.node ≡ p.state.node
  pub inbox : (j : ℕ) → (link_at q.state j).inbox ≡ (link_at p.state j).inbox

-- what is at a place has to wait
abbrev Waits : Progress → ℕ → Type 0
Waits p j = AllWait j p.state.node (link_at p.state j).inbox

-- as many looks as messages wait take something, or turn the inbox round once
looked_over : (n : ℕ) (p : Progress) → ((looks n (waiting_at n p) p).took ≡ true) ⊎ (Same p (looks n (waiting_at n p) p) × Waits p n)
looked_over n p =
    elim (looks_turn n (link_at p.state n).inbox [] p (sym (append-nil (link_at p.state n).inbox))) [
      | inl h ↦ inl h
      | inr v ↦ inr (record { node = v.node; inbox = λ j. here v j (cases_eq j n) }, v.wait)
    ]
  where
    here : {q : Progress} → Turned n (link_at p.state n).inbox [] p q → (j : ℕ) → (j ≡ n) ⊎ (j ≡ n → ⊥) → (link_at q.state j).inbox ≡ (link_at p.state j).inbox
    here v j (inl e) = rw e v.line
    here v j (inr f) = ap (λ e. e.inbox) (v.others j f)

-- a round over the first n places takes something, or all that waits there has to wait
round_turn : (n : ℕ) (p : Progress) → ((round n p).took ≡ true) ⊎ (Same p (round n p) × ((j : ℕ) → j < n → Waits p j))
unfolding round
round_turn zero p = inr (record { node = refl; inbox = λ j. refl }, λ j h. absurd (omega arith))
round_turn (suc n) p = by (round n p) (round_turn n p)
  where
    at_last : (q : Progress) → Same p q → Waits q n → Waits p n
    at_last q e w = subst (λ v. AllWait n v (link_at p.state n).inbox) e.node (subst (AllWait n q.state.node) (e.inbox n) w)

    last : (q : Progress) → Same p q → ((j : ℕ) → j < n → Waits p j) → Waits q n → (j : ℕ) → j < suc n → (j ≡ n) ⊎ (j ≡ n → ⊥) → Waits p j
    last q e all w j h (inl f) = rw f (at_last q e w)
    last q e all w j h (inr f) = all j (omega arith)

    by : (q : Progress) → (q.took ≡ true) ⊎ (Same p q × ((j : ℕ) → j < n → Waits p j)) →
        ((looks n (waiting_at n q) q).took ≡ true) ⊎ (Same p (looks n (waiting_at n q) q) × ((j : ℕ) → j < suc n → Waits p j))
    by q (inl h) = inl (looks_took n (waiting_at n q) q h)
    by q (inr (e, all)) =
        elim (looked_over n q) [
          | inl h ↦ inl h
          | inr (f, w) ↦ inr (record { node = f.node ∙ e.node; inbox = λ j. f.inbox j ∙ e.inbox j }, λ j h. last q e all w j h (cases_eq j n))
        ]

-- all that waits anywhere has to wait
abbrev AllCalm : Progress → Type 0
AllCalm p = (j : ℕ) → Waits p j

-- after a round that took nothing
lap_calm : (p : Progress) → (lap p).took ≡ false → AllCalm (lap p)
lap_calm p f = by (round_turn (length p.state.links) (afresh p))
  where
    at_place : (j : ℕ) → (j < length p.state.links) ⊎ (length p.state.links ≤ j) → (j < length p.state.links → Waits p j) → Waits p j
    at_place j (inl h) w = w h
    at_place j (inr h) w = subst (λ e. AllWait j p.state.node e.inbox) (sym (get_or_past p.state.links j no_link h)) tt

    by : ((lap p).took ≡ true) ⊎ (Same (afresh p) (lap p) × ((j : ℕ) → j < length p.state.links → Waits (afresh p) j)) → AllCalm (lap p)
    by (inl h) = absurd (both_ways (lap p).took f h)
    by (inr (e, all)) = λ j.
        subst (λ n. AllWait j n (link_at (lap p).state j).inbox) (sym e.node)
        (subst (AllWait j p.state.node) (sym (e.inbox j)) (at_place j (cases_lt j (length p.state.links)) (all j)))

goes_calm : (b : Bool) (n : ℕ) (q : Progress) → (b ≡ true → AllCalm (rounds n q)) → (b ≡ false → AllCalm q) → AllCalm (goes_on b n q)
goes_calm true n q f g = f refl
goes_calm false n q f g = g refl

rounds_calm : (n : ℕ) (p : Progress) → waiting p.state < n → AllCalm (rounds n p)
rounds_calm zero p h = absurd (omega arith)
rounds_calm (suc n) p h =
    subst AllCalm (sym (rounds_step n p)) (goes_calm (lap p).took n (lap p) (λ t. rounds_calm n (lap p) (let f = lap_fewer p t in omega arith)) (lap_calm p))

all_was : {X : Type 0} (P : X → Type 0) (x : X) (xs : List X) → All P xs → Was x xs → P x
all_was P x [] a w = elim w [ ]
all_was P _ (x ∷ xs) a first = a.0
all_was P x (y ∷ xs) a (later w) = all_was P x xs a.1 w

pub inboxes_calm : InboxesCalm
inboxes_calm s k m w =
    let p : Progress = record { state = s; refusals = []; took = false } in
    all_was (λ v. takes k v (rounds (suc (waiting s)) p).state.node ≡ Deferred (rounds (suc (waiting s)) p).state.node) m (link_at (rounds (suc (waiting s)) p).state k).inbox
    (rounds_calm (suc (waiting s)) p (omega arith) k) w
