-- What becomes of the numbers when a station sends again, takes a packet, or gets an acknowledgement.
use Rattle.std.proofs.Common.{◌≡◌, ℕ, zero, suc, ◌+◌, ◌<◌, ◌≤◌, Bool, true, false, cond, eqb, ◌⊎◌, List, [], ◌∷◌, ◌++◌, length, Some, Ok, sym, refl, ap, ◌∙◌, subst, inl, inr, arith}
use Rattle.std.proofs.lemmas.Bool.Decides.{eqb_tells}
use Rattle.message.specs.declared.packets.Packet as packet
use Rattle.message.specs.declared.packets.Acknowledgement as acknowledgement
use Rattle.message.specs.Bytes.{fits, packet_bytes, packet_of, acknowledgement_bytes, acknowledgement_of}
use Rattle.node.specs.Rules.{wakes}
use Rattle.link.specs.Ends.{End, holds, oldest, numbered, is_next, received, is_awaited}
use Rattle.link.specs.Copper.{Was, first, later, PacketMayCome, AnswerMayCome}
use Rattle.link.proofs.Was.{was_more}
use Rattle.link.proofs.Edge.{holds_more, Told, told_by, reached_by}
use Rattle.station.specs.declared.outcome.Transmission.{Transmission}
use Rattle.station.specs.declared.outcome.Transmission.TheVariants.{Packet, Acknowledgement}
use Rattle.station.specs.State.{State, link_in, link_at, place_of, woken}
use Rattle.station.specs.Events.{Did, packet_to, oldest_to, answer_to, firsts, each, idle_in, on_wake, took, if_next, arrived, decoded, on_packet, if_awaited, acknowledged, decoded_answer, on_acknowledgement}
use Rattle.graph.specs.Graph.{Graph}
use Rattle.protocol.specs.Net.{Near, neighbour, over}
use Rattle.protocol.proofs.Lift.{Once}
use Rattle.network.specs.Network.{packets_to, answers_to}
use Rattle.network.proofs.View.{View, view_of, link_to, leads, leads_long, neighbour_at, link_at_lem, view_acted}
use Rattle.network.proofs.Abstract.{seat}
use Rattle.network.proofs.Lined.{History, edge_in, edge_out}
use Rattle.network.proofs.Moves.{Ground, At, woken_goes}
use Rattle.network.proofs.Arrivals.{Placing, placed_at, next_goes, next_viewed, awaited_viewed}

pub was_behind : {X : Type 0} {x : X} (xs : List X) {ys : List X} → Was x ys → Was x (xs ++ ys)
was_behind [] w = w
was_behind (y ∷ xs) w = later (was_behind xs w)

-- what goes out stands in the histories
pub packets_of : (b : ℕ) (p : packet.Packet) (os : List Transmission) → fits p.message ≡ true → Was (Packet b p) os → Was (packet_bytes p) (packets_to b os)
unfolding packets_to
packets_of b p _ f first = let e : eqb b b ≡ true = grind arith in rw (e, f) first
packets_of b p _ f (later {y} {xs} w) = skip y (packets_of b p xs f w)
  where
    skip : (y : Transmission) → Was (packet_bytes p) (packets_to b xs) → Was (packet_bytes p) (packets_to b (y ∷ xs))
    skip (Packet j q) v = two (eqb j b) (fits q.message)
      where
        two : (c d : Bool) → Was (packet_bytes p) (cond c (cond d (packet_bytes q ∷ packets_to b xs) (packets_to b xs)) (packets_to b xs))
        two true true = later v
        two true false = v
        two false d = v
    skip (Acknowledgement j a) v = v

pub answers_of : (b : ℕ) (a : acknowledgement.Acknowledgement) (os : List Transmission) → Was (Acknowledgement b a) os → Was (acknowledgement_bytes a) (answers_to b os)
unfolding answers_to
answers_of b a _ first = let e : eqb b b ≡ true = grind arith in rw e first
answers_of b a _ (later {y} {xs} w) = skip y (answers_of b a xs w)
  where
    skip : (y : Transmission) → Was (acknowledgement_bytes a) (answers_to b xs) → Was (acknowledgement_bytes a) (answers_to b (y ∷ xs))
    skip (Packet j q) v = v
    skip (Acknowledgement j c) v = elim (eqb j b) as (λ x. Was (acknowledgement_bytes a) (cond x (acknowledgement_bytes c ∷ answers_to b xs) (answers_to b xs))) [ true ↦ later v | false ↦ v ]

-- the oldest of each link goes out
resent : (k n : ℕ) (es : List End) (o : Transmission) → k < n → Was o (oldest_to (link_in es k)) → Was o (firsts each es n)
unfolding firsts
resent k zero es o l w = absurd (omega arith)
resent k (suc n) es o l w = two (λ h. resent k n es o h w) (eqb_tells k n)
  where
    two : (k < n → Was o (firsts each es n)) → ((eqb k n ≡ true) × (k ≡ n)) ⊎ ((eqb k n ≡ false) × (k ≡ n → ⊥)) → Was o (firsts each es n ++ oldest_to (link_in es n))
    two ih (inl (y, e)) = was_behind (firsts each es n) (subst (λ x. Was o (oldest_to (link_in es x))) e w)
    two ih (inr (y, e)) = was_more (oldest_to (link_in es n)) (ih (omega arith))

not_next : (taken n : ℕ) → is_next taken n ≡ false → taken ≤ n → n ≤ taken + 1 → taken ≡ n
not_next taken n e l h = grind arith

module _ (g : Graph) (near : Near) (ground : Ground g near) (P A : History) (f : ℕ → View) (others i : ℕ) (inside : i < g.count) (s : State) (a : At g near ground P A f others i inside s) where
  once : Once (near i)
  once = ground.placed.once i

  -- WAKING: no number changes, what waits still waits, and the oldest goes out
  pub wake_keeps : (b : ℕ) → (view_of (woken s)).acknowledged b ≡ (view_of s).acknowledged b
  wake_keeps = (woken_goes g near ground P A f others i inside s a).acknowledged

  pub wake_holds : (b : ℕ) → holds ((view_of s).outbox b) ≡ true → holds ((view_of (woken s)).outbox b) ≡ true
  wake_holds b h =
      ap (λ v. holds (v.outbox b)) (view_acted (near i) once (ground.placed.few i) s a.links (wakes s.node)) ∙ holds_more ((view_of s).outbox b) (over (near i) (wakes s.node).sends b) h

  pub wake_sends : (k : ℕ) → k < length (near i) → (p : packet.Packet) → numbered ((view_of (woken s)).acknowledged (neighbour near i k)) ((view_of (woken s)).outbox (neighbour near i k)) ≡ Some p →
      Was (Packet (neighbour near i k) p) (on_wake s).sends
  wake_sends k l p o =
      resent k (length (woken s).links) (woken s).links (Packet (neighbour near i k) p) (let n = leads_long (woken s).links (near i) leading in omega arith)
      (subst (λ x. Was (Packet (neighbour near i k) p) (packet_to (link_at (woken s) k).neighbour x)) (sym old) (subst (λ x. Was (Packet (neighbour near i k) p) (Packet x p ∷ [])) (sym (neighbour_at (near i) once (woken s) leading k l)) first))
    where
      leading : leads (woken s).links ≡ near i
      leading = (woken_goes g near ground P A f others i inside s a).links

      old : oldest (link_at (woken s) k) ≡ Some p
      old = ap oldest (sym (link_at_lem (near i) once (woken s) leading k l)) ∙ o

  -- A PACKET of the number that is next, or of the last one: no number that j acknowledged changes, and the answer is of that number
  module _ (j : ℕ) (bytes : List ℕ) (p : packet.Packet) (may : PacketMayCome (P j i) bytes) (dec : packet_of bytes ≡ Ok p) (k : ℕ) (at : place_of s.links j ≡ Some k) (low : (view_of s).taken j ≤ p.number) (high : p.number ≤ (view_of s).taken j + 1) where
    pub record Heard (d : Did) : Type 0 where
      pub keeps : (b : ℕ) → (view_of d.state).acknowledged b ≡ (view_of s).acknowledged b
      pub answer : Was (Acknowledgement j (record { number = p.number })) d.sends

    put : Placing s.links j k
    put = placed_at s.links j k at

    lt : k < length (near i)
    lt = let n = leads_long s.links (near i) a.links in let b = put.below in omega arith

    who : neighbour near i k ≡ j
    who = sym (neighbour_at (near i) once s a.links k lt) ∙ put.there

    taken_at : (view_of s).taken j ≡ (link_at s k).taken
    taken_at = ap (λ x. (view_of s).taken x) (sym who) ∙ ap (λ e. e.taken) (link_at_lem (near i) once s a.links k lt)

    told : Told ((seat i (view_of s) f (neighbour near i k)).acknowledged i) ((seat i (view_of s) f (neighbour near i k)).outbox i) p
    told = told_by bytes p (edge_in P A f i (view_of s) a.lined (neighbour near i k)) (subst (λ x. PacketMayCome (P x i) bytes) (sym who) may) dec

    heard : (b : Bool) → is_next (link_at s k).taken p.number ≡ b → Heard (if_next b k p s)
    heard true e =
        record {
          keeps = λ b. (next_goes g near ground P A f others i inside s a k lt p e told).acknowledged b ∙ ap (λ v. v.acknowledged b) (next_viewed g near ground P A f others i inside s a k lt p e told);
          answer = subst (λ o. Was (Acknowledgement j (record { number = p.number })) (o ∷ firsts (idle_in s.links) (took k p s).state.links (length (took k p s).state.links))) same first;
        }
      where
        same : Acknowledgement j (record { number = p.number }) ≡ answer_to (received p (link_at s k))
        same = ap (λ x. Acknowledgement x (record { number = p.number })) (sym put.there) ∙ ap (λ b. Acknowledgement (link_at s k).neighbour (record { number = cond b p.number (link_at s k).taken })) (sym e)
    heard false e =
        record {
          keeps = λ b. refl;
          answer =
              subst (λ o. Was (Acknowledgement j (record { number = p.number })) (o ∷ []))
              (ap (λ x. Acknowledgement x (record { number = p.number })) (sym put.there) ∙ ap (λ n. Acknowledgement (link_at s k).neighbour (record { number = n })) (sym (not_next (link_at s k).taken p.number e (subst (λ n. n ≤ p.number) taken_at low) (subst (λ n. p.number ≤ n + 1) taken_at high)))) first;
        }

    pub packet_heard : Heard (on_packet j bytes s)
    packet_heard =
        subst (λ d. Heard d) (sym (ap (λ r. decoded j r s) dec ∙ ap (λ o. arrived p o s) at)) (heard (is_next (link_at s k).taken p.number) refl)

  -- AN ACKNOWLEDGEMENT that is waited for
  pub answer_settles : (j : ℕ) (bytes : List ℕ) (x : acknowledgement.Acknowledgement) → AnswerMayCome (A i j) bytes → acknowledgement_of bytes ≡ Ok x → (k : ℕ) → place_of s.links j ≡ Some k →
      holds ((view_of s).outbox j) ≡ true → x.number ≡ (view_of s).acknowledged j + 1 → (b : ℕ) → (view_of (on_acknowledgement j bytes s).state).acknowledged b ≡ cond (eqb b j) x.number ((view_of s).acknowledged b)
  answer_settles j bytes x may dec k at h n b =
      ap (λ d. (view_of d.state).acknowledged b) (ap (λ r. decoded_answer j r s) dec ∙ ap (λ o. acknowledged x o s) at ∙ ap (λ c. if_awaited c k x s) awaited)
      ∙ ap (λ v. v.acknowledged b) (awaited_viewed g near ground P A f others i inside s a k lt x awaited reached) ∙ ap (λ y. cond (eqb b y) x.number ((view_of s).acknowledged b)) who
    where
      put : Placing s.links j k
      put = placed_at s.links j k at

      lt : k < length (near i)
      lt = let n = leads_long s.links (near i) a.links in let b = put.below in omega arith

      who : neighbour near i k ≡ j
      who = sym (neighbour_at (near i) once s a.links k lt) ∙ put.there

      linked : link_to s.links j ≡ link_at s k
      linked = ap (λ y. link_to s.links y) (sym who) ∙ link_at_lem (near i) once s a.links k lt

      awaited : is_awaited x (link_at s k) ≡ true
      awaited =
          let y : holds (link_at s k).outbox ≡ true = ap (λ e. holds e.outbox) (sym linked) ∙ h in
          let z : x.number ≡ (link_at s k).acknowledged + 1 = n ∙ ap (λ e. e.acknowledged + 1) linked in
          let t : is_next (link_at s k).acknowledged x.number ≡ true = grind arith in rw (y, t)

      reached : x.number ≤ (seat i (view_of s) f (neighbour near i k)).taken i
      reached = reached_by bytes x (edge_out P A f i (view_of s) a.lined (neighbour near i k)) (subst (λ y. AnswerMayCome (A i y) bytes) (sym who) may) dec
