-- What holds of each event: acknowledgements name what the new state has, what is refused changes nothing, and the node went on by steps of its own.
use Rattle.std.proofs.Common.{◌≡◌, ℕ, zero, suc, Bool, true, false, cond, List, [], ◌∷◌, length, Some, None, Ok, Err, Option, Result, sym, refl, ap, ◌∙◌, subst, inl, inr, arith}
use Rattle.std.proofs.lemmas.List.{get_or-set_same, length-set}
use Rattle.message.specs.declared.refusals.Refusal.{Refusal}
use Rattle.message.specs.declared.messages.Message.{Message}
use Rattle.message.specs.declared.packets.Packet.{Packet}
use Rattle.message.specs.declared.packets.Acknowledgement.{Acknowledgement}
use Rattle.message.specs.Bytes.{packet_of, acknowledgement_of}
use Rattle.node.specs.declared.state.Node.{Node}
use Rattle.node.specs.declared.state.Taking.{Taking}
use Rattle.node.specs.declared.state.Taking.TheVariants.{Taken, Deferred, Refused}
use Rattle.node.specs.Rules.{takes, wakes}
use Rattle.node.specs.Laws.{Run, start, next}
use Rattle.node.proofs.Runs.{marks_last}
use Rattle.link.specs.Ends.{End, head_of, oldest, is_next, received, is_awaited, settled}
use Rattle.link.specs.Copper.{Was}
use Rattle.link.proofs.Was.{was_split, was_one}
use Rattle.station.specs.declared.outcome.Transmission.{Transmission}
use Rattle.station.specs.declared.outcome.Transmission.TheVariants as transmission
use Rattle.station.specs.State.{State, no_link, link_in, link_at, with_link, place_of, woken}
use Rattle.station.specs.Work.{Progress, look_by, look_at, look, looks, waiting_at, round, afresh, lap, rounds, waiting, at_work}
use Rattle.station.specs.Events.{packet_to, oldest_to, answer_to, firsts, each, idle_in, took, if_next, arrived, decoded, on_packet, if_awaited, acknowledged, decoded_answer, on_acknowledgement}
use Rattle.station.specs.Laws.{Kept, Held, AcknowledgedIsHeld, RefusedChangesNothing, MarksOn, MarksByMessages}
use Rattle.station.proofs.Rounds.{goes_on, rounds_step}
use Rattle.station.proofs.Kept.{set_each, kept_through, woken_kept, work_kept, same_places, place_kept, place_leads}

-- ACKNOWLEDGED IS HELD. Packets are no acknowledgements.
no_answer : (j : ℕ) (a : Acknowledgement) (i : ℕ) (p : Packet) → ◌≡◌ {A = Transmission} (transmission.Acknowledgement j a) (transmission.Packet i p) → ⊥
no_answer j a i p e = let z : ◌≡◌ {A = ℕ} 0 1 = cc in omega arith

packet_no_answer : (j : ℕ) (a : Acknowledgement) (i : ℕ) (o : Option Packet) → Was (transmission.Acknowledgement j a) (packet_to i o) → ⊥
packet_no_answer j a i None w = elim w [ ]
packet_no_answer j a i (Some p) w = no_answer j a i p (was_one _ _ w)

cond_no_answer : (b : Bool) (j : ℕ) (a : Acknowledgement) (e : End) → Was (transmission.Acknowledgement j a) (cond b (oldest_to e) []) → ⊥
cond_no_answer true j a e w = packet_no_answer j a e.neighbour (oldest e) w
cond_no_answer false j a e w = elim w [ ]

pub firsts_no_answer : (picks : ℕ → Bool) (es : List End) (n j : ℕ) (a : Acknowledgement) → Was (transmission.Acknowledgement j a) (firsts picks es n) → ⊥
unfolding firsts
firsts_no_answer picks es zero j a w = elim w [ ]
firsts_no_answer picks es (suc n) j a w = elim (was_split (firsts picks es n) w) [ inl v ↦ firsts_no_answer picks es n j a v | inr v ↦ cond_no_answer (picks n) j a (link_in es n) v ]

-- of one acknowledgement there is one neighbour and one number
same_answer : (i : ℕ) (b : Acknowledgement) (j : ℕ) (a : Acknowledgement) → ◌≡◌ {A = Transmission} (transmission.Acknowledgement j a) (transmission.Acknowledgement i b) → (j ≡ i) × (a ≡ b)
same_answer i b j a e = (cc, cc)

-- a link is replaced by one to the same neighbour
pub replaced_place : (k : ℕ) (e : End) (s : State) → e.neighbour ≡ (link_at s k).neighbour → (j : ℕ) → place_of (with_link k e s).links j ≡ place_of s.links j
replaced_place k e s h j =
    same_places s.links (with_link k e s).links j (length-set s.links k e) (set_each (λ x y. y.neighbour ≡ x.neighbour) no_link (λ x. refl) s.links k e h)

-- an answer over a link to i, whose place has the same number in t
answer_held : (e : End) (t : State) (i k : ℕ) → e.neighbour ≡ i → place_of t.links i ≡ Some k → (link_at t k).taken ≡ e.taken → (j : ℕ) (a : Acknowledgement) → transmission.Acknowledgement j a ≡ answer_to e →
    (k : ℕ) × (place_of t.links j ≡ Some k) × ((link_at t k).taken ≡ a.number)
answer_held e t i k h at n j a q =
    let b = same_answer e.neighbour (record { number = e.taken }) j a q in
    (k, ap (place_of t.links) (b.0 ∙ h) ∙ at, n ∙ sym (ap (λ v. v.number) b.1))

-- working off what came leaves the link with the number of what was taken
pub took_kept : (k : ℕ) (p : Packet) (s : State) → Kept (with_link k (received p (link_at s k)) s) (took k p s).state
took_kept k p s = kept_through (woken_kept (with_link k (received p (link_at s k)) s)) (work_kept (woken (with_link k (received p (link_at s k)) s)))

module _ (s : State) (i k : ℕ) (at : place_of s.links i ≡ Some k) where
  pub took_place : (p : Packet) → place_of (took k p s).state.links i ≡ Some k
  took_place p = place_kept (took_kept k p s) i ∙ (replaced_place k (received p (link_at s k)) s refl i ∙ at)

  pub took_number : (p : Packet) → (link_at (took k p s).state k).taken ≡ (received p (link_at s k)).taken
  took_number p = ((took_kept k p s).each k).taken ∙ ap (λ v. v.taken) (get_or-set_same s.links k (received p (link_at s k)) no_link (place_leads s.links i k at).0)

  next_held : (b : Bool) (p : Packet) → Held (if_next b k p s)
  next_held true p j a w =
      elim (was_split (answer_to (received p (link_at s k)) ∷ []) w) [
        | inl v ↦ answer_held (received p (link_at s k)) (took k p s).state i k (place_leads s.links i k at).1 (took_place p) (took_number p) j a (was_one _ _ v)
        | inr v ↦ absurd (firsts_no_answer (idle_in s.links) (took k p s).state.links (length (took k p s).state.links) j a v)
      ]
  next_held false p j a w = answer_held (link_at s k) s i k (place_leads s.links i k at).1 at refl j a (was_one _ _ w)

awaited_held : (b : Bool) (k : ℕ) (c : Acknowledgement) (s : State) → Held (if_awaited b k c s)
awaited_held true k c s j a w = absurd (packet_no_answer j a (link_at s k).neighbour (oldest (settled c (link_at s k))) w)
awaited_held false k c s j a w = elim w [ ]

packet_held : (i : ℕ) (r : Result Packet Refusal) (s : State) → Held (decoded i r s)
packet_held i (Err r) s = λ j a w. elim w [ ]
packet_held i (Ok p) s = by (place_of s.links i) refl
  where
    by : (o : Option ℕ) → place_of s.links i ≡ o → Held (arrived p o s)
    by None e = λ j a w. elim w [ ]
    by (Some k) e = next_held s i k e (is_next (link_at s k).taken p.number) p

answered_held : (i : ℕ) (r : Result Acknowledgement Refusal) (s : State) → Held (decoded_answer i r s)
answered_held i (Err r) s = λ j a w. elim w [ ]
answered_held i (Ok c) s = by (place_of s.links i)
  where
    by : (o : Option ℕ) → Held (acknowledged c o s)
    by None = λ j a w. elim w [ ]
    by (Some k) = awaited_held (is_awaited c (link_at s k)) k c s

pub acknowledged_is_held : AcknowledgedIsHeld
acknowledged_is_held s =
    (λ j a w. absurd (firsts_no_answer each (woken s).links (length (woken s).links) j a w), λ j bytes. (packet_held j (packet_of bytes) s, answered_held j (acknowledgement_of bytes) s))

-- REFUSED CHANGES NOTHING: so the definition says, once it is known which way it goes.
pub refused_changes_nothing : RefusedChangesNothing
refused_changes_nothing s j bytes = (
  λ r e. rw e (record { same = refl; told = refl }),
  λ p e f. rw (e, f) (record { same = refl; told = refl }),
  λ p k e f g. rw (e, f, g) (record { same = refl; told = refl }),
  λ r e. rw e (record { same = refl; told = refl }),
  λ a e f. rw (e, f) (record { same = refl; told = refl }),
  λ a k e f g. rw (e, f, g) (record { same = refl; told = refl }),
)

-- THE NODE'S OWN STEPS. Whatever happens to the station, its node wakes and takes messages, and does nothing else.
module _ {n : Node} where
  pub woken_runs : (s : State) → Run n s.node → Run n (woken s).node
  woken_runs s r = next (wakes s.node) r (inl refl)

  by_runs : (k : ℕ) (m : Message) (c : Taking) (p : Progress) → takes k m p.state.node ≡ c → Run n p.state.node → Run n (look_by k c p).state.node
  by_runs k m (Taken t) p e r = next t r (inr (k, m, e))
  by_runs k m (Deferred o) p e r = r
  by_runs k m (Refused o f) p e r = r

  at_runs : (k : ℕ) (o : Option Message) (p : Progress) → Run n p.state.node → Run n (look_at k o p).state.node
  at_runs k None p r = r
  at_runs k (Some m) p r = by_runs k m (takes k m p.state.node) p refl r

  looks_runs : (k i : ℕ) (p : Progress) → Run n p.state.node → Run n (looks k i p).state.node
  unfolding looks look
  looks_runs k zero p r = r
  looks_runs k (suc i) p r = at_runs k (head_of (link_at (looks k i p).state k).inbox) (looks k i p) (looks_runs k i p r)

  round_runs : (i : ℕ) (p : Progress) → Run n p.state.node → Run n (round i p).state.node
  unfolding round
  round_runs zero p r = r
  round_runs (suc i) p r = looks_runs i (waiting_at i (round i p)) (round i p) (round_runs i p r)

  goes_runs : (b : Bool) (i : ℕ) (q : Progress) → Run n (rounds i q).state.node → Run n q.state.node → Run n (goes_on b i q).state.node
  goes_runs true i q f g = f
  goes_runs false i q f g = g

  rounds_runs : (i : ℕ) (p : Progress) → Run n p.state.node → Run n (rounds i p).state.node
  unfolding rounds
  rounds_runs zero p r = r
  rounds_runs (suc i) p r =
      let l = round_runs (length p.state.links) (afresh p) r in
      subst (λ q. Run n q.state.node) (sym (rounds_step i p)) (goes_runs (lap p).took i (lap p) (rounds_runs i (lap p) l) l)

  pub work_runs : (s : State) → Run n s.node → Run n (at_work s).state.node
  work_runs s r = rounds_runs (suc (waiting s)) (record { state = s; refusals = []; took = false }) r

  next_runs : (b : Bool) (k : ℕ) (p : Packet) (s : State) → Run n s.node → Run n (if_next b k p s).state.node
  next_runs true k p s r = work_runs (woken (with_link k (received p (link_at s k)) s)) (woken_runs (with_link k (received p (link_at s k)) s) r)
  next_runs false k p s r = r

  arrived_runs : (p : Packet) (o : Option ℕ) (s : State) → Run n s.node → Run n (arrived p o s).state.node
  arrived_runs p None s r = r
  arrived_runs p (Some k) s r = next_runs (is_next (link_at s k).taken p.number) k p s r

  decoded_runs : (j : ℕ) (d : Result Packet Refusal) (s : State) → Run n s.node → Run n (decoded j d s).state.node
  decoded_runs j (Ok p) s r = arrived_runs p (place_of s.links j) s r
  decoded_runs j (Err e) s r = r

  pub packet_runs : (j : ℕ) (bytes : List ℕ) (s : State) → Run n s.node → Run n (on_packet j bytes s).state.node
  packet_runs j bytes s r = decoded_runs j (packet_of bytes) s r

-- an acknowledgement does not concern the node
awaited_node : (b : Bool) (k : ℕ) (a : Acknowledgement) (s : State) → (if_awaited b k a s).state.node ≡ s.node
awaited_node true k a s = refl
awaited_node false k a s = refl

acknowledged_node : (a : Acknowledgement) (o : Option ℕ) (s : State) → (acknowledged a o s).state.node ≡ s.node
acknowledged_node a None s = refl
acknowledged_node a (Some k) s = awaited_node (is_awaited a (link_at s k)) k a s

decoded_node : (j : ℕ) (d : Result Acknowledgement Refusal) (s : State) → (decoded_answer j d s).state.node ≡ s.node
decoded_node j (Ok a) s = acknowledged_node a (place_of s.links j) s
decoded_node j (Err e) s = refl

pub answer_node : (j : ℕ) (bytes : List ℕ) (s : State) → (on_acknowledgement j bytes s).state.node ≡ s.node
answer_node j bytes s = decoded_node j (acknowledgement_of bytes) s

-- so lamps do not turn back
pub marks_by_messages : MarksByMessages
marks_by_messages s = (
  λ k. marks_last s.node (woken s).node k (woken_runs s start),
  λ j bytes. (λ k. marks_last s.node (on_packet j bytes s).state.node k (packet_runs j bytes s start), subst (MarksOn s.node) (sym (answer_node j bytes s)) (λ k. marks_last s.node s.node k start)),
)
