-- Waking and working off the inboxes forget nothing: each link keeps its neighbour and its numbers, and what it has to hand over only gets more at its end.
use Rattle.std.proofs.Common.{◌≡◌, ℕ, zero, suc, ◌+◌, ◌<◌, Bool, true, false, cond, not, eqb, List, [], ◌∷◌, ◌++◌, length, get_or, set, Some, None, Option, sym, refl, ap, ◌∙◌, subst, append_assoc, append-nil, arith}
use Rattle.std.proofs.lemmas.List.{length-set}
use Rattle.std.proofs.lemmas.Bool.{eqb-true}
use Rattle.message.specs.declared.messages.Message.{Message}
use Rattle.node.specs.declared.state.Turn.{Turn}
use Rattle.node.specs.declared.state.Taking.{Taking}
use Rattle.node.specs.declared.state.Taking.TheVariants.{Taken, Deferred, Refused}
use Rattle.node.specs.Rules.{Sends, takes, wakes}
use Rattle.node.specs.Laws.{sent_over}
use Rattle.link.specs.Ends.{End, head_of, giving, taking, deferring}
use Rattle.station.specs.State.{State, no_link, link_in, link_at, with_link, passed, place_of, gave_at, gave_below, acted, woken}
use Rattle.station.specs.Work.{Progress, look_by, look_at, look, looks, waiting_at, round, afresh, lap, rounds, at_work, waiting}
use Rattle.station.specs.Laws.{Keeps, Kept, NothingForgotten}
use Rattle.station.proofs.Given.{gave_long}
use Rattle.station.proofs.Links.{place_is}
use Rattle.station.proofs.Rounds.{goes_on, rounds_step}

-- what becomes of each element when one is replaced
pub set_each : {X : Type 0} (R : X → X → Type 0) (d : X) → ((x : X) → R x x) → (xs : List X) (k : ℕ) (x : X) → R (get_or xs k d) x → (j : ℕ) → R (get_or xs j d) (get_or (set xs k x) j d)
set_each R d same [] k x h j = same d
set_each R d same (y ∷ ys) zero x h zero = h
set_each R d same (y ∷ ys) zero x h (suc j) = same (get_or ys j d)
set_each R d same (y ∷ ys) (suc k) x h zero = same y
set_each R d same (y ∷ ys) (suc k) x h (suc j) = set_each R d same ys k x h j

pub keeps_all : (e : End) → Keeps e e
keeps_all e = record { neighbour = refl; acknowledged = refl; taken = refl; given = ([], sym (append-nil e.outbox)) }

pub keeps_through : {e f g : End} → Keeps e f → Keeps f g → Keeps e g
keeps_through {e} {f} {g} a b =
    record {
      neighbour = b.neighbour ∙ a.neighbour;
      acknowledged = b.acknowledged ∙ a.acknowledged;
      taken = b.taken ∙ a.taken;
      given = (a.given.0 ++ b.given.0, b.given.1 ∙ (ap (λ v. v ++ b.given.0) a.given.1 ∙ append_assoc e.outbox a.given.0 b.given.0));
    }

pub kept_all : (s : State) → Kept s s
kept_all s = record { number = refl; long = refl; each = λ k. keeps_all (link_at s k) }

pub kept_through : {s t u : State} → Kept s t → Kept t u → Kept s u
kept_through a b = record { number = b.number ∙ a.number; long = b.long ∙ a.long; each = λ k. keeps_through (a.each k) (b.each k) }

-- a link is replaced by one that keeps all
pub link_kept : (k : ℕ) (e : End) (s : State) → Keeps (link_at s k) e → Kept s (with_link k e s)
link_kept k e s h = record { number = refl; long = length-set s.links k e; each = set_each Keeps no_link keeps_all s.links k e h }

gave_at_kept : (k : ℕ) (o : Option Message) (es : List End) (j : ℕ) → Keeps (link_in es j) (link_in (gave_at k o es) j)
gave_at_kept k None es j = keeps_all (link_in es j)
gave_at_kept k (Some m) es j =
    set_each Keeps no_link keeps_all es k (giving m (link_in es k)) (record { neighbour = refl; acknowledged = refl; taken = refl; given = (m ∷ [], refl) }) j

gave_kept : (sends : Sends) (es : List End) (n j : ℕ) → Keeps (link_in es j) (link_in (gave_below sends es n) j)
unfolding gave_below
gave_kept sends es zero j = keeps_all (link_in es j)
gave_kept sends es (suc n) j = keeps_through (gave_kept sends es n j) (gave_at_kept n (sent_over sends n) (gave_below sends es n) j)

pub acted_kept : (t : Turn) (s : State) → Kept s (acted t s)
acted_kept t s = record { number = refl; long = gave_long t.sends s.links 16; each = gave_kept t.sends s.links 16 }

pub woken_kept : (s : State) → Kept s (woken s)
woken_kept s = acted_kept (wakes s.node) s

-- a look changes the inbox of its place, and what a turn sends is given
taking_kept : (k : ℕ) (s : State) → Kept s (with_link k (taking (link_at s k)) s)
taking_kept k s = link_kept k (taking (link_at s k)) s (record { neighbour = refl; acknowledged = refl; taken = refl; given = (keeps_all (link_at s k)).given })

by_kept : (k : ℕ) (r : Taking) (p : Progress) → Kept p.state (look_by k r p).state
by_kept k (Taken t) p = kept_through (taking_kept k p.state) (acted_kept t (with_link k (taking (link_at p.state k)) p.state))
by_kept k (Deferred n) p =
    link_kept k (deferring (link_at p.state k)) p.state (record { neighbour = refl; acknowledged = refl; taken = refl; given = (keeps_all (link_at p.state k)).given })
by_kept k (Refused n r) p = taking_kept k p.state

at_kept : (k : ℕ) (o : Option Message) (p : Progress) → Kept p.state (look_at k o p).state
at_kept k None p = kept_all p.state
at_kept k (Some m) p = by_kept k (takes k m p.state.node) p

pub look_kept : (k : ℕ) (p : Progress) → Kept p.state (look k p).state
unfolding look
look_kept k p = at_kept k (head_of (link_at p.state k).inbox) p

pub looks_kept : (k n : ℕ) (p : Progress) → Kept p.state (looks k n p).state
unfolding looks
looks_kept k zero p = kept_all p.state
looks_kept k (suc n) p = kept_through (looks_kept k n p) (look_kept k (looks k n p))

pub round_kept : (n : ℕ) (p : Progress) → Kept p.state (round n p).state
unfolding round
round_kept zero p = kept_all p.state
round_kept (suc n) p = kept_through (round_kept n p) (looks_kept n (waiting_at n (round n p)) (round n p))

pub lap_kept : (p : Progress) → Kept p.state (lap p).state
lap_kept p = round_kept (length p.state.links) (afresh p)

goes_kept : (b : Bool) (n : ℕ) (q : Progress) → Kept q.state (rounds n q).state → Kept q.state (goes_on b n q).state
goes_kept true n q h = h
goes_kept false n q h = kept_all q.state

pub rounds_kept : (n : ℕ) (p : Progress) → Kept p.state (rounds n p).state
unfolding rounds
rounds_kept zero p = kept_all p.state
rounds_kept (suc n) p =
    subst (λ q. Kept p.state q.state) (sym (rounds_step n p)) (kept_through (lap_kept p) (goes_kept (lap p).took n (lap p) (rounds_kept n (lap p))))

pub work_kept : (s : State) → Kept s (at_work s).state
work_kept s = rounds_kept (suc (waiting s)) (record { state = s; refusals = []; took = false })

pub nothing_forgotten : NothingForgotten
nothing_forgotten s = (woken_kept s, work_kept s)

-- Links that lead to the same neighbours stand at the same places.
passed_same : (es fs : List End) (j : ℕ) → length fs ≡ length es → ((k : ℕ) → (link_in fs k).neighbour ≡ (link_in es k).neighbour) → passed fs j ≡ passed es j
passed_same [] [] j l h = refl
passed_same [] (f ∷ fs) j l h = absurd (omega arith)
passed_same (e ∷ es) [] j l h = absurd (omega arith)
passed_same (e ∷ es) (f ∷ fs) j l h = rw (h 0, passed_same es fs j (omega arith) (λ k. h (suc k)))

pub same_places : (es fs : List End) (j : ℕ) → length fs ≡ length es → ((k : ℕ) → (link_in fs k).neighbour ≡ (link_in es k).neighbour) → place_of fs j ≡ place_of es j
same_places es fs j l h = rw (passed_same es fs j l h, l)

pub place_kept : {s t : State} → Kept s t → (j : ℕ) → place_of t.links j ≡ place_of s.links j
place_kept {s} {t} a j = same_places s.links t.links j a.long (λ k. (a.each k).neighbour)

-- the place of a neighbour has a link to it
passed_leads : (es : List End) (j : ℕ) → passed es j < length es → (link_in es (passed es j)).neighbour ≡ j
passed_leads [] j h = absurd (omega arith)
passed_leads (f ∷ es) j h = by (passed_leads es j) (eqb f.neighbour j) refl h
  where
    by : (passed es j < length es → (link_in es (passed es j)).neighbour ≡ j) → (b : Bool) → eqb f.neighbour j ≡ b → cond (not b) (1 + passed es j) 0 < suc (length es) →
        (link_in (f ∷ es) (cond (not b) (1 + passed es j) 0)).neighbour ≡ j
    by ih true e l = eqb-true f.neighbour j e
    by ih false e l = let one : 1 + passed es j ≡ suc (passed es j) = omega arith in rw one (ih (omega arith))

pub place_leads : (es : List End) (j k : ℕ) → place_of es j ≡ Some k → (k < length es) × ((link_in es k).neighbour ≡ j)
place_leads es j k e =
    let p = place_is es j k e in
    (omega arith, ap (λ v. (link_in es v).neighbour) (sym p.1) ∙ passed_leads es j p.0)
