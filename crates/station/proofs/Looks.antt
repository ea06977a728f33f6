-- One look, some looks, a round: what each is by the one before.
use Rattle.std.proofs.Common.{◌≡◌, ℕ, ◌+◌, ◌<◌, ◌≤◌, Bool, ◌||◌, length, get_or, Some, None, vec_items, sym, refl, ap, ◌∙◌, add-one}
use Rattle.std.proofs.Math.Bool.{or_comm, or_assoc}
use Rattle.message.specs.declared.messages.Message.{Message}
use Rattle.node.specs.declared.state.Taking.{Taking}
use Rattle.node.specs.Rules.{takes}
use Rattle.link.specs.declared.ends.Link.{Link}
use Rattle.link.specs.Ends.{end_of, head_of}
use Rattle.station.specs.declared.work.Work.{Work}
use Rattle.station.specs.State.{link_at}
use Rattle.station.specs.Work.{Progress, progress_of, look_by, look, looks, waiting_at, round}
use Rattle.station.proofs.Links.{link_read, link_past}

pub look_nothing : (k : ℕ) (p : Progress) → head_of (link_at p.state k).inbox ≡ None → look k p ≡ p
unfolding look
look_nothing k p e = rw e

pub look_head : (k : ℕ) (p : Progress) (m : Message) (r : Taking) → head_of (link_at p.state k).inbox ≡ Some m → takes k m p.state.node ≡ r → look k p ≡ look_by k r p
unfolding look
look_head k p m r e t = rw (e, t)

pub looks_none : (k : ℕ) (p : Progress) → looks k 0 p ≡ p
unfolding looks
looks_none k p = refl

pub looks_more : (k n : ℕ) (p : Progress) → looks k (n + 1) p ≡ look k (looks k n p)
unfolding looks
looks_more k n p = rw add-one

pub round_none : (p : Progress) → round 0 p ≡ p
unfolding round
round_none p = refl

pub round_more : (n : ℕ) (p : Progress) → round (n + 1) p ≡ looks n (waiting_at n (round n p)) (round n p)
unfolding round
round_more n p = rw add-one

-- The same of a station at work, as the code holds it, in a round that took something or not.
module _ (w : Work) (b : Bool) (k : ℕ) where
  pub seen_past : length (vec_items w.station.links) ≤ k → look k (progress_of w b) ≡ progress_of w b
  seen_past h = look_nothing k (progress_of w b) (ap (λ e. head_of e.inbox) (link_past (vec_items w.station.links) k h))

  pub waits_past : length (vec_items w.station.links) ≤ k → waiting_at k (progress_of w b) ≡ 0
  waits_past h = ap (λ e. length e.inbox) (link_past (vec_items w.station.links) k h)

  module _ (x : Link) (h : k < length (vec_items w.station.links)) (e : x ≡ get_or (vec_items w.station.links) k x) where
    pub waits_here : waiting_at k (progress_of w b) ≡ length (end_of x).inbox
    waits_here = ap (λ v. length v.inbox) (link_read (vec_items w.station.links) k x h e)

    pub seen_nothing : None ≡ head_of (end_of x).inbox → look k (progress_of w b) ≡ progress_of w b
    seen_nothing o = look_nothing k (progress_of w b) (ap (λ v. head_of v.inbox) (link_read (vec_items w.station.links) k x h e) ∙ sym o)

    pub seen_head : (m : Message) (r : Taking) → Some m ≡ head_of (end_of x).inbox → r ≡ takes k m w.station.node → look k (progress_of w b) ≡ look_by k r (progress_of w b)
    seen_head m r o t = look_head k (progress_of w b) m r (ap (λ v. head_of v.inbox) (link_read (vec_items w.station.links) k x h e) ∙ sym o) (sym t)

-- whether this turn took something, or those before
pub took_more : (before took more : Bool) → ((took || more) || before) ≡ (more || (took || before))
took_more before took more = ap (λ b. b || before) (or_comm took more) ∙ or_assoc more took before
