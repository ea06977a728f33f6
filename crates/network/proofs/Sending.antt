-- What a station sends is what it holds, so that it may stand in the histories of the copper.
use Rattle.std.proofs.Common.{◌≡◌, ℕ, zero, suc, ◌<◌, ◌≤◌, Bool, true, false, cond, eqb, ◌⊎◌, List, [], ◌∷◌, ◌++◌, length, take, Some, None, Option, refl, ap, ◌∙◌, subst, inl, inr, arith}
use Rattle.std.proofs.lemmas.Bool.Decides.{eqb_tells}
use Rattle.message.specs.declared.packets.Packet as packet
use Rattle.message.specs.declared.packets.Acknowledgement as acknowledgement
use Rattle.message.specs.Bytes.{fits, packet_bytes, acknowledgement_bytes}
use Rattle.message.proofs.Carried.{acknowledgement_returns}
use Rattle.link.specs.Ends.{numbered, oldest}
use Rattle.link.specs.Copper.{Was, first, later}
use Rattle.link.proofs.Edge.{Edge, PacketSent, AnswerSent, numbered_is, oldest_returns}
use Rattle.station.specs.declared.outcome.Transmission.{Transmission}
use Rattle.station.specs.declared.outcome.Transmission.TheVariants.{Packet, Acknowledgement}
use Rattle.station.specs.State.{State, link_in, link_at}
use Rattle.station.specs.Events.{packet_to, oldest_to, answer_to, firsts}
use Rattle.protocol.proofs.Lift.{Once}
use Rattle.network.specs.Network.{packets_to, answers_to}
use Rattle.network.proofs.View.{View, view_of, leads, neighbour_at, link_at_lem}

-- a packet of the oldest message that is not acknowledged, or an acknowledgement of what was taken
abbrev pub Right : View → Transmission → Type 0
Right v (Packet j p) = numbered (v.acknowledged j) (v.outbox j) ≡ Some p
Right v (Acknowledgement j a) = a.number ≤ v.taken j

abbrev pub Rights : View → List Transmission → Type 0
Rights v [] = Unit {0}
Rights v (o ∷ os) = Right v o × Rights v os

rights-++ : (v : View) (os ps : List Transmission) → Rights v os → Rights v ps → Rights v (os ++ ps)
rights-++ v [] ps a b = b
rights-++ v (o ∷ os) ps a b = (a.0, rights-++ v os ps a.1 b)

pub rights_take : (v : View) (k : ℕ) (os : List Transmission) → Rights v os → Rights v (take k os)
rights_take v zero os a = tt
rights_take v (suc k) [] a = tt
rights_take v (suc k) (o ∷ os) a = (a.0, rights_take v k os a.1)

-- the oldest message of each link, and the last number taken from it
module _ (near : List ℕ) (once : Once near) (s : State) (same : leads s.links ≡ near) where
  held : (k : ℕ) → k < length near → (view_of s).acknowledged (link_at s k).neighbour ≡ (link_at s k).acknowledged
  held k l = ap (λ j. (view_of s).acknowledged j) (neighbour_at near once s same k l) ∙ ap (λ e. e.acknowledged) (link_at_lem near once s same k l)

  waits : (k : ℕ) → k < length near → (view_of s).outbox (link_at s k).neighbour ≡ (link_at s k).outbox
  waits k l = ap (λ j. (view_of s).outbox j) (neighbour_at near once s same k l) ∙ ap (λ e. e.outbox) (link_at_lem near once s same k l)

  pub rights_oldest : (k : ℕ) → k < length near → Rights (view_of s) (oldest_to (link_at s k))
  rights_oldest k l = two (oldest (link_at s k)) refl
    where
      two : (o : Option packet.Packet) → oldest (link_at s k) ≡ o → Rights (view_of s) (packet_to (link_at s k).neighbour o)
      two None e = tt
      two (Some p) e = (ap (λ n. numbered n ((view_of s).outbox (link_at s k).neighbour)) (held k l) ∙ ap (λ q. numbered (link_at s k).acknowledged q) (waits k l) ∙ e, tt)

  pub right_answer : (k : ℕ) → k < length near → Right (view_of s) (answer_to (link_at s k))
  right_answer k l = let e = ap (λ j. (view_of s).taken j) (neighbour_at near once s same k l) ∙ ap (λ e. e.taken) (link_at_lem near once s same k l) in omega arith

  pub rights_firsts : (picks : ℕ → Bool) (n : ℕ) → n ≤ length near → Rights (view_of s) (firsts picks s.links n)
  unfolding firsts
  rights_firsts picks zero l = tt
  rights_firsts picks (suc n) l =
      rights-++ (view_of s) (firsts picks s.links n) (cond (picks n) (oldest_to (link_in s.links n)) []) (rights_firsts picks n (omega arith))
      (elim (picks n) as (λ b. Rights (view_of s) (cond b (oldest_to (link_in s.links n)) [])) [ true ↦ rights_oldest n (omega arith) | false ↦ tt ])

was_cond : {X : Type 0} (c : Bool) (x : X) (xs ys : List X) → Was x (cond c xs ys) → ((c ≡ true) × Was x xs) ⊎ Was x ys
was_cond true x xs ys w = inl (refl, w)
was_cond false x xs ys w = inr w

-- bytes of packets to b
module _ (v : View) (b : ℕ) {taken : ℕ} {packets answers : List (List ℕ)} (e : Edge (v.acknowledged b) (v.outbox b) taken packets answers) where
  packet_sent : (p : packet.Packet) → numbered (v.acknowledged b) (v.outbox b) ≡ Some p → PacketSent (v.acknowledged b) (v.outbox b) (packet_bytes p)
  packet_sent p o =
      let n = numbered_is (v.acknowledged b) (v.outbox b) p o in
      record { packet = p; decoded = oldest_returns p n e; told = record { small = n.small; known = inr (n.next, n.head) } }

  pub packets_sent : (os : List Transmission) → Rights v os → (bytes : List ℕ) → Was bytes (packets_to b os) → PacketSent (v.acknowledged b) (v.outbox b) bytes
  unfolding packets_to
  packets_sent [] r bytes w = elim w [ ]
  packets_sent (Packet j p ∷ os) r bytes w = two (packets_sent os r.1 bytes) (eqb_tells j b) w
    where
      head : (bytes : List ℕ) → j ≡ b → Was bytes (packet_bytes p ∷ packets_to b os) → (Was bytes (packets_to b os) → PacketSent (v.acknowledged b) (v.outbox b) bytes) → PacketSent (v.acknowledged b) (v.outbox b) bytes
      head _ z first f = packet_sent p (subst (λ x. numbered (v.acknowledged x) (v.outbox x) ≡ Some p) z r.0)
      head bytes z (later u) f = f u

      two : (Was bytes (packets_to b os) → PacketSent (v.acknowledged b) (v.outbox b) bytes) → ((eqb j b ≡ true) × (j ≡ b)) ⊎ ((eqb j b ≡ false) × (j ≡ b → ⊥)) →
          Was bytes (cond (eqb j b) (cond (fits p.message) (packet_bytes p ∷ packets_to b os) (packets_to b os)) (packets_to b os)) → PacketSent (v.acknowledged b) (v.outbox b) bytes
      two f (inl (y, z)) u = elim (was_cond (fits p.message) bytes (packet_bytes p ∷ packets_to b os) (packets_to b os) (rw y at u)) [ inl x ↦ head bytes z x.1 f | inr x ↦ f x ]
      two f (inr (y, z)) u = f (rw y at u)
  packets_sent (Acknowledgement j a ∷ os) r bytes w = packets_sent os r.1 bytes w

-- bytes of acknowledgements to b
module _ (v : View) (b : ℕ) (small : v.taken b ≤ 4294967295) where
  answer_sent : (a : acknowledgement.Acknowledgement) → a.number ≤ v.taken b → AnswerSent (v.taken b) (acknowledgement_bytes a)
  answer_sent a l = record { answer = a; decoded = acknowledgement_returns a (omega arith); reached = l }

  pub answers_sent : (os : List Transmission) → Rights v os → (bytes : List ℕ) → Was bytes (answers_to b os) → AnswerSent (v.taken b) bytes
  unfolding answers_to
  answers_sent [] r bytes w = elim w [ ]
  answers_sent (Packet j p ∷ os) r bytes w = answers_sent os r.1 bytes w
  answers_sent (Acknowledgement j a ∷ os) r bytes w = two (answers_sent os r.1 bytes) (eqb_tells j b) w
    where
      head : (bytes : List ℕ) → j ≡ b → Was bytes (acknowledgement_bytes a ∷ answers_to b os) → (Was bytes (answers_to b os) → AnswerSent (v.taken b) bytes) → AnswerSent (v.taken b) bytes
      head _ z first f = answer_sent a (subst (λ x. a.number ≤ v.taken x) z r.0)
      head bytes z (later u) f = f u

      two : (Was bytes (answers_to b os) → AnswerSent (v.taken b) bytes) → ((eqb j b ≡ true) × (j ≡ b)) ⊎ ((eqb j b ≡ false) × (j ≡ b → ⊥)) →
          Was bytes (cond (eqb j b) (acknowledgement_bytes a ∷ answers_to b os) (answers_to b os)) → AnswerSent (v.taken b) bytes
      two f (inl (y, z)) u = head bytes z (rw y at u) f
      two f (inr (y, z)) u = f (rw y at u)
