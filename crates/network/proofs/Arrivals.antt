-- What a station does with each event is some steps of the net, and what it sends is what it holds.
use Rattle.std.proofs.Common.{◌≡◌, ℕ, zero, suc, ◌+◌, ◌<◌, ◌≤◌, Bool, true, false, cond, not, ◌&&◌, eqb, ltb, ◌⊎◌, List, [], ◌∷◌, ◌++◌, length, Some, None, Ok, Err, Option, Result, sym, refl, ap, ◌∙◌, subst, inl, inr, arith}
use Rattle.std.proofs.lemmas.Bool.Decides.{eqb_tells}
use Rattle.std.proofs.lemmas.List.{get_or-set_same}
use Rattle.message.specs.declared.refusals.Refusal.{Refusal}
use Rattle.message.specs.declared.refusals.Refusal.TheVariants.{NotAwaited, NoSuchEdge}
use Rattle.message.specs.declared.messages.Message.{Message}
use Rattle.message.specs.declared.packets.Packet.{Packet}
use Rattle.message.specs.declared.packets.Acknowledgement.{Acknowledgement}
use Rattle.message.specs.Bytes.{packet_of, acknowledgement_of}
use Rattle.link.specs.Ends.{End, rest, holds, is_next, received, is_awaited, settled}
use Rattle.link.specs.Copper.{PacketMayCome, AnswerMayCome}
use Rattle.link.proofs.Edge.{Told, told_by, reached_by, Takes, takes_or_leaves, Settles, settles, settles_or_stays}
use Rattle.station.specs.State.{State, no_link, link_in, link_at, with_link, passed, place_of, woken}
use Rattle.station.specs.Work.{waiting}
use Rattle.station.specs.Events.{Did, oldest_to, answer_to, firsts, each, idle_in, turned_away, on_wake, took, if_next, arrived, decoded, on_packet, if_awaited, acknowledged, decoded_answer, on_acknowledgement}
use Rattle.graph.specs.Graph.{Graph}
use Rattle.protocol.specs.Net as net
use Rattle.protocol.specs.Net.{Near, Run, neighbour}
use Rattle.protocol.proofs.Arrives.{run_on}
use Rattle.protocol.proofs.Lift.{Once}
use Rattle.network.proofs.View.{View, view_of, leads, leads_long, came, done, leads_set, inside as inside-links, neighbour_at, link_at_lem, view_came, view_done}
use Rattle.network.proofs.Amount.{amount_with}
use Rattle.network.proofs.Abstract.{seat, way_of, net_path, came_way, done_way}
use Rattle.network.proofs.Lined.{History, Lined, edge_in, edge_out, came_lined, done_lined}
use Rattle.network.proofs.Rest.{Calm, works_rested, calm_with, calm_woken}
use Rattle.network.proofs.Moves.{Ground, no_steps, net_at, At, Goes, at_end, goes_on_lem, woken_goes, rounds_goes}
use Rattle.network.proofs.Sending.{Right, Rights, rights_oldest, right_answer, rights_firsts}

-- the place of a neighbour is that of a link to it
passed_leads : (es : List End) (j : ℕ) → passed es j < length es → (link_in es (passed es j)).neighbour ≡ j
passed_leads [] j l = absurd (omega arith)
passed_leads (e ∷ es) j l = two (eqb_tells e.neighbour j) (passed_leads es j) l
  where
    two : ((eqb e.neighbour j ≡ true) × (e.neighbour ≡ j)) ⊎ ((eqb e.neighbour j ≡ false) × (e.neighbour ≡ j → ⊥)) →
        (passed es j < length es → (link_in es (passed es j)).neighbour ≡ j) → cond (not (eqb e.neighbour j)) (1 + passed es j) 0 < length (e ∷ es) →
        (link_in (e ∷ es) (cond (not (eqb e.neighbour j)) (1 + passed es j) 0)).neighbour ≡ j
    two (inl (y, z)) ih l = rw y z
    two (inr (y, z)) ih l = let h : 1 + passed es j < length (e ∷ es) = rw y at l in let n : 1 + passed es j ≡ suc (passed es j) = omega arith in rw (y, n) (ih (omega arith))

passed_low : (es : List End) (j k : ℕ) → k < length es → (link_in es k).neighbour ≡ j → passed es j ≤ k
passed_low [] j k l e = absurd (omega arith)
passed_low (x ∷ es) j zero l e = let y : eqb x.neighbour j ≡ true = grind arith in rw y (omega arith)
passed_low (x ∷ es) j (suc k) l e = two (eqb x.neighbour j) (passed_low es j k (omega arith) e)
  where
    two : (c : Bool) → passed es j ≤ k → cond (not c) (1 + passed es j) 0 ≤ suc k
    two true ih = omega arith
    two false ih = omega arith

pub record Placing (es : List End) (j k : ℕ) : Type 0 where
  pub below : k < length es
  pub there : (link_in es k).neighbour ≡ j

pub placed_at : (es : List End) (j k : ℕ) → place_of es j ≡ Some k → Placing es j k
placed_at es j k e = two (ltb (passed es j) (length es)) refl e
  where
    two : (b : Bool) → ltb (passed es j) (length es) ≡ b → cond b (Some (passed es j)) None ≡ Some k → Placing es j k
    two true y z = let p : passed es j ≡ k = cc in let l : passed es j < length es = grind arith in subst (λ x. Placing es j x) p (record { below = l; there = passed_leads es j l })
    two false y z = let p : ◌≡◌ {A = ℕ} 0 1 = cc in absurd (omega arith)

-- a neighbour to which a link leads has a place
pub place_found : (es : List End) (j k : ℕ) → k < length es → (link_in es k).neighbour ≡ j → (l : ℕ) × (place_of es j ≡ Some l)
place_found es j k l e = let p = passed_low es j k l e in let y : ltb (passed es j) (length es) ≡ true = grind arith in (passed es j, rw y)

asleep_not : {b : Bool} → b ≡ true → b ≡ false → ⊥
asleep_not e f = let z : ◌≡◌ {A = ℕ} 0 1 = cc in omega arith

-- the number that is acknowledged now and what waits are as much as before
settled_amount : {acknowledged : ℕ} {outbox : List Message} {taken n : ℕ} → Settles acknowledged outbox taken n true → n + length (rest outbox) ≡ acknowledged + length outbox
settled_amount {acknowledged} {outbox} {taken} {n} (settles m others q ahead has) = rw has (omega arith)

module _ (g : Graph) (near : Near) (ground : Ground g near) (P A : History) (f : ℕ → View) (others i : ℕ) (inside : i < g.count) where
  once : Once (near i)
  once = ground.placed.once i

  -- AN EVENT at station s, by which it does d
  pub record Follows (s : State) (d : Did) : Type 0 where
    pub run : Run g near (net_at g near ground P A f others i inside s) (net_at g near ground P A f others i inside d.state)
    pub number : d.state.number ≡ i
    pub links : leads d.state.links ≡ near i
    pub lined : Lined P A (seat i (view_of d.state) f)
    pub rights : Rights (view_of d.state) d.sends
    pub calm : Calm s → Calm d.state

  module _ (s : State) (a : At g near ground P A f others i inside s) where
    -- nothing happens
    pub away_follows : (r : Refusal) → Follows s (turned_away r s)
    away_follows r = record { run = net.still; number = a.number; links = a.links; lined = a.lined; rights = tt; calm = λ c. c }

    firsts_right : (r : State) → leads r.links ≡ near i → (picks : ℕ → Bool) → Rights (view_of r) (firsts picks r.links (length r.links))
    firsts_right r e picks = rights_firsts (near i) once r e picks (length r.links) (let n = leads_long r.links (near i) e in omega arith)

    pub wake_follows : Follows s (on_wake s)
    wake_follows =
        let h = woken_goes g near ground P A f others i inside s a in
        record { run = h.run; number = h.number ∙ a.number; links = h.links; lined = h.lined; rights = firsts_right (woken s) h.links each; calm = λ c. calm_woken s c h.up }

    -- A PACKET that is the next, over the link at place k
    module _ (k : ℕ) (lt : k < length (near i)) (p : Packet) (next : is_next (link_at s k).taken p.number ≡ true)
        (told : Told ((seat i (view_of s) f (neighbour near i k)).acknowledged i) ((seat i (view_of s) f (neighbour near i k)).outbox i) p) where
      abbrev pub there : State
      there = with_link k (received p (link_at s k)) s

      before : (view_of s).taken (neighbour near i k) ≡ (link_at s k).taken
      before = ap (λ e. e.taken) (link_at_lem (near i) once s a.links k lt)

      taking : Takes ((seat i (view_of s) f (neighbour near i k)).acknowledged i) ((seat i (view_of s) f (neighbour near i k)).outbox i) ((view_of s).taken (neighbour near i k)) p true
      taking =
          subst (λ b. Takes ((seat i (view_of s) f (neighbour near i k)).acknowledged i) ((seat i (view_of s) f (neighbour near i k)).outbox i) ((view_of s).taken (neighbour near i k)) p b)
          (ap (λ n. is_next n p.number) before ∙ next) (takes_or_leaves p (edge_in P A f i (view_of s) a.lined (neighbour near i k)) told)

      pub next_viewed : view_of there ≡ came (neighbour near i k) p.number ((view_of s).inbox (neighbour near i k) ++ (p.message ∷ [])) (view_of s)
      next_viewed =
          view_came (near i) once s a.links k lt (received p (link_at s k)) refl refl refl
          ∙ ap (λ b. came (neighbour near i k) (cond b p.number (link_at s k).taken) (cond b ((link_at s k).inbox ++ (p.message ∷ [])) (link_at s k).inbox) (view_of s)) next
          ∙ ap (λ e. came (neighbour near i k) p.number (e.inbox ++ (p.message ∷ [])) (view_of s)) (sym (link_at_lem (near i) once s a.links k lt))

      same_net : net_at g near ground P A f others i inside s ≡ net_at g near ground P A f others i inside there
      same_net =
          net_path (λ x. refl) (λ x y. came_way f i (neighbour near i k) (view_of s) p taking x y ∙ ap (λ v. way_of (seat i v f) x y) (sym next_viewed))
          (ap (λ c. others + c) (sym (amount_with s k (received p (link_at s k)) refl)))

      at_there : At g near ground P A f others i inside there
      at_there =
          record {
            number = a.number;
            links = leads_set s.links k (received p (link_at s k)) refl ∙ a.links;
            lined = subst (λ v. Lined P A (seat i v f)) (sym next_viewed) (came_lined P A f i (view_of s) a.lined (neighbour near i k) p ((view_of s).inbox (neighbour near i k) ++ (p.message ∷ [])) told.small taking);
            reach = subst (λ n. net.Reach g near n) same_net a.reach;
          }

      pub next_goes : Goes g near ground P A f others i inside there (took k p s).state
      next_goes =
          let h = woken_goes g near ground P A f others i inside there at_there in
          goes_on_lem g near ground P A f others i inside h
          (rounds_goes g near ground P A f others i inside (suc (waiting (woken there))) (record { state = woken there; refusals = []; took = false }) (at_end g near ground P A f others i inside at_there h) h.up)

      answer_right : Right (view_of (took k p s).state) (answer_to (received p (link_at s k)))
      answer_right =
          let e : link_at there k ≡ received p (link_at s k) = get_or-set_same s.links k (received p (link_at s k)) no_link (inside-links (near i) once s a.links k lt) in
          let r : Right (view_of there) (answer_to (received p (link_at s k))) = subst (λ x. Right (view_of there) (answer_to x)) e (right_answer (near i) once there at_there.links k lt) in
          subst (λ x. (received p (link_at s k)).taken ≤ x) (sym (next_goes.taken (link_at s k).neighbour)) r

      pub next_follows : Follows s (if_next true k p s)
      next_follows =
          record {
            run = run_on g near (no_steps same_net) next_goes.run;
            number = next_goes.number ∙ a.number;
            links = next_goes.links;
            lined = next_goes.lined;
            rights = (answer_right, firsts_right (took k p s).state next_goes.links (idle_in s.links));
            calm = λ c. record { rest = works_rested (record { state = woken there; refusals = []; took = false }); sleep = λ z. absurd (asleep_not z next_goes.up) };
          }

    -- AN ACKNOWLEDGEMENT that is waited for, over the link at place k
    module _ (k : ℕ) (lt : k < length (near i)) (c : Acknowledgement) (awaited : is_awaited c (link_at s k) ≡ true) (reached : c.number ≤ (seat i (view_of s) f (neighbour near i k)).taken i) where
      abbrev pub after : State
      after = with_link k (settled c (link_at s k)) s

      linked : (view_of s).acknowledged (neighbour near i k) ≡ (link_at s k).acknowledged
      linked = ap (λ e. e.acknowledged) (link_at_lem (near i) once s a.links k lt)

      waits : (view_of s).outbox (neighbour near i k) ≡ (link_at s k).outbox
      waits = ap (λ e. e.outbox) (link_at_lem (near i) once s a.links k lt)

      settling : Settles ((view_of s).acknowledged (neighbour near i k)) ((view_of s).outbox (neighbour near i k)) ((seat i (view_of s) f (neighbour near i k)).taken i) c.number true
      settling =
          subst (λ b. Settles ((view_of s).acknowledged (neighbour near i k)) ((view_of s).outbox (neighbour near i k)) ((seat i (view_of s) f (neighbour near i k)).taken i) c.number b)
          (ap (λ q. holds q && is_next ((view_of s).acknowledged (neighbour near i k)) c.number) waits ∙ ap (λ n. holds (link_at s k).outbox && is_next n c.number) linked ∙ awaited)
          (settles_or_stays c.number (edge_out P A f i (view_of s) a.lined (neighbour near i k)) reached)

      pub awaited_viewed : view_of after ≡ done (neighbour near i k) c.number (rest ((view_of s).outbox (neighbour near i k))) (view_of s)
      awaited_viewed =
          view_done (near i) once s a.links k lt (settled c (link_at s k)) refl refl refl
          ∙ ap (λ b. done (neighbour near i k) (cond b c.number (link_at s k).acknowledged) (cond b (rest (link_at s k).outbox) (link_at s k).outbox) (view_of s)) awaited
          ∙ ap (λ q. done (neighbour near i k) c.number (rest q) (view_of s)) (sym waits)

      amount_same : (settled c (link_at s k)).acknowledged + length (settled c (link_at s k)).outbox ≡ (link_at s k).acknowledged + length (link_at s k).outbox
      amount_same =
          ap (λ b. cond b c.number (link_at s k).acknowledged + length (cond b (rest (link_at s k).outbox) (link_at s k).outbox)) awaited
          ∙ ap (λ q. c.number + length (rest q)) (sym waits) ∙ settled_amount settling ∙ ap (λ n. n + length ((view_of s).outbox (neighbour near i k))) linked ∙ ap (λ q. (link_at s k).acknowledged + length q) waits

      net_same : net_at g near ground P A f others i inside s ≡ net_at g near ground P A f others i inside after
      net_same =
          net_path (λ x. refl) (λ x y. done_way f i (neighbour near i k) (view_of s) c.number settling x y ∙ ap (λ v. way_of (seat i v f) x y) (sym awaited_viewed))
          (ap (λ n. others + n) (sym (amount_with s k (settled c (link_at s k)) amount_same)))

      links_after : leads after.links ≡ near i
      links_after = leads_set s.links k (settled c (link_at s k)) refl ∙ a.links

      pub awaited_follows : Follows s (if_awaited true k c s)
      awaited_follows =
          record {
            run = no_steps net_same;
            number = a.number;
            links = links_after;
            lined = subst (λ v. Lined P A (seat i v f)) (sym awaited_viewed) (done_lined P A f i (view_of s) a.lined (neighbour near i k) c.number settling);
            rights =
                subst (λ e. Rights (view_of after) (oldest_to e)) (get_or-set_same s.links k (settled c (link_at s k)) no_link (inside-links (near i) once s a.links k lt))
                (rights_oldest (near i) once after links_after k lt);
            calm = calm_with s k (settled c (link_at s k)) refl;
          }

    -- Bytes come from j as a packet.
    module _ (j : ℕ) (bytes : List ℕ) where
      packet_at : (p : Packet) (k : ℕ) → PacketMayCome (P j i) bytes → packet_of bytes ≡ Ok p → Placing s.links j k → Follows s (arrived p (Some k) s)
      packet_at p k c d q = two (is_next (link_at s k).taken p.number) refl
        where
          lt : k < length (near i)
          lt = let n = leads_long s.links (near i) a.links in let b = q.below in omega arith

          who : neighbour near i k ≡ j
          who = sym (neighbour_at (near i) once s a.links k lt) ∙ q.there

          told : Told ((seat i (view_of s) f (neighbour near i k)).acknowledged i) ((seat i (view_of s) f (neighbour near i k)).outbox i) p
          told = told_by bytes p (edge_in P A f i (view_of s) a.lined (neighbour near i k)) (subst (λ x. PacketMayCome (P x i) bytes) (sym who) c) d

          two : (b : Bool) → is_next (link_at s k).taken p.number ≡ b → Follows s (if_next b k p s)
          two true e = next_follows k lt p e told
          two false e = record { run = net.still; number = a.number; links = a.links; lined = a.lined; rights = (right_answer (near i) once s a.links k lt, tt); calm = λ c. c }

      pub packet_follows : PacketMayCome (P j i) bytes → Follows s (on_packet j bytes s)
      packet_follows c = two (packet_of bytes) refl
        where
          arrives : (p : Packet) → packet_of bytes ≡ Ok p → (o : Option ℕ) → place_of s.links j ≡ o → Follows s (arrived p o s)
          arrives p d None e = away_follows NoSuchEdge
          arrives p d (Some k) e = packet_at p k c d (placed_at s.links j k e)

          two : (r : Result Packet Refusal) → packet_of bytes ≡ r → Follows s (decoded j r s)
          two (Ok p) d = arrives p d (place_of s.links j) refl
          two (Err r) d = away_follows r

      -- Bytes come from j as an acknowledgement.
      answer_at : (x : Acknowledgement) (k : ℕ) → AnswerMayCome (A i j) bytes → acknowledgement_of bytes ≡ Ok x → Placing s.links j k → Follows s (acknowledged x (Some k) s)
      answer_at x k c d q = two (is_awaited x (link_at s k)) refl
        where
          lt : k < length (near i)
          lt = let n = leads_long s.links (near i) a.links in let b = q.below in omega arith

          who : neighbour near i k ≡ j
          who = sym (neighbour_at (near i) once s a.links k lt) ∙ q.there

          two : (b : Bool) → is_awaited x (link_at s k) ≡ b → Follows s (if_awaited b k x s)
          two true e = awaited_follows k lt x e (reached_by bytes x (edge_out P A f i (view_of s) a.lined (neighbour near i k)) (subst (λ y. AnswerMayCome (A i y) bytes) (sym who) c) d)
          two false e = away_follows NotAwaited

      pub answer_follows : AnswerMayCome (A i j) bytes → Follows s (on_acknowledgement j bytes s)
      answer_follows c = two (acknowledgement_of bytes) refl
        where
          arrives : (x : Acknowledgement) → acknowledgement_of bytes ≡ Ok x → (o : Option ℕ) → place_of s.links j ≡ o → Follows s (acknowledged x o s)
          arrives x d None e = away_follows NoSuchEdge
          arrives x d (Some k) e = answer_at x k c d (placed_at s.links j k e)

          two : (r : Result Acknowledgement Refusal) → acknowledgement_of bytes ≡ r → Follows s (decoded_answer j r s)
          two (Ok x) d = arrives x d (place_of s.links j) refl
          two (Err r) d = away_follows r
