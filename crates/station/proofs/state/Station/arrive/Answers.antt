-- The copy's link takes the packet and the inboxes are worked off, or nothing changes.
use Rattle.std.proofs.Common.{◌≡◌, ◌<◌, false, [], ◌∷◌, Some, vec_items, vec_len, sym, ap, ◌∙◌, subst, rules, arith}
use Rattle.std.proofs.lemmas.Result.{MatchResult-at_ok, MatchResult-at_err}
use Rattle.std.specs.Vec.{with_item}
use Rattle.link.specs.Ends.{end_of, received, why_not_taken, WhyUnreceived}
use Rattle.station.specs.State.{state_of, link_at}
use Rattle.station.specs.Work.{progress_of}
use Rattle.station.specs.Events.{answer_to, idle_in}
use Rattle.station.proofs.Happened.{same_long, state_changed, read_back, link_of, late_did, next_did}
use Rattle.station.proofs.state.Station.arrive.Goals as goal

pub returns-in_ok-vec-in-Err-Refused : goal.returns-in_ok-vec-in-Err-Refused
returns-in_ok-vec-in-Err-Refused c =
    let s = c.in_ok-station.station in
    let z = state_of c.args.self.now in
    let k = c.args.place in
    let l = c.receive-received.new.self in
    let h : k < vec_len s.links = omega (arith, same_long s c.args.self.now c.in_ok-station.ensures.cases, c.requires) in
    let x = link_of s k c.index_mut.result.now z c.in_ok-station.ensures.cases h c.index_mut.ensures.value in
    let q = MatchResult-at_err _ _ c.in-Err-Refused.field-0 c.in-Err-Refused.is c.receive-received.ensures in
    let why : why_not_taken c.args.packet (end_of c.index_mut.result.now) ≡ Some c.in-Err-Refused.refusal =
    subst (λ v. WhyUnreceived v c.args.packet (end_of c.index_mut.result.now)) (rw c.in-Err-Refused.is at c.in-Err-Refused.field-0-is) q.0 in
    let y : end_of c.index.result.now ≡ link_at z k = ap end_of (read_back s k l c.index.result.now h c.index.ensures) ∙ (q.1 ∙ x) in
    late_did c.args.packet k z (state_of (record { number = s.number; node = s.node; links = with_item s.links k l })) c.in-Err-Refused.refusal (vec_items c.in_ok-sends.sends)
    (vec_items c.in_ok-vec-in-Err-Refused.field-0) (ap (why_not_taken c.args.packet) (sym x) ∙ why)
    (state_changed s k l c.index_mut.result.now (λ e. e) z c.in_ok-station.ensures.cases h c.index_mut.ensures.value q.1)
    (c.in_ok-sends.ensures.items ∙ ap (λ v. v ∷ []) (c.answer.ensures ∙ ap answer_to y)) c.in_ok-vec-in-Err-Refused.ensures.items

pub returns-in_ok-push_picked-in-Ok : goal.returns-in_ok-push_picked-in-Ok
returns-in_ok-push_picked-in-Ok c =
    let s = c.in_ok-station.station in
    let z = state_of c.args.self.now in
    let k = c.args.place in
    let l = c.receive-received.new.self in
    let h : k < vec_len s.links = omega (arith, same_long s c.args.self.now c.in_ok-station.ensures.cases, c.requires) in
    let x = link_of s k c.index_mut.result.now z c.in_ok-station.ensures.cases h c.index_mut.ensures.value in
    let q = MatchResult-at_ok _ _ c.in-Ok.field-0 c.in-Ok.is c.receive-received.ensures in
    let y : end_of c.index.result.now ≡ received c.args.packet (link_at z k) = ap end_of (read_back s k l c.index.result.now h c.index.ensures) ∙ (q.1 ∙ ap (received c.args.packet) x) in
    next_did c.args.packet k z (state_of (record { number = s.number; node = s.node; links = with_item s.links k l })) (state_of c.rouse.new.self) (progress_of c.in_ok-station-in-Ok.field-0 false)
    (vec_items c.in_ok-sends.sends) (vec_items c.push_picked.new.sends) (ap (why_not_taken c.args.packet) (sym x) ∙ q.0)
    (state_changed s k l c.index_mut.result.now (received c.args.packet) z c.in_ok-station.ensures.cases h c.index_mut.ensures.value q.1) c.in_ok-rouse-in-Ok.ensures c.in_ok-station-in-Ok.ensures
    (c.in_ok-sends.ensures.items ∙ ap (λ v. v ∷ []) (c.answer.ensures ∙ ap answer_to y)) (c.in_ok-push_picked-in-Ok.ensures (idle_in z.links) (λ k b h. search rules))
