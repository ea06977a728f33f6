-- The copy's link is settled, or nothing changes.
use Rattle.std.proofs.Common.{◌≡◌, ◌<◌, ◌++◌, IfOk, vec_items, vec_len, ap, sym, ◌∙◌, subst, arith}
use Rattle.std.specs.Vec.{with_item}
use Rattle.link.specs.Ends.{end_of, settled, why_not_settled}
use Rattle.station.specs.State.{state_of, link_at}
use Rattle.station.specs.Events.{did_of, oldest_to}
use Rattle.station.proofs.Happened.{same_long, state_changed, read_back, link_of, unawaited_did, settled_did}
use Rattle.station.proofs.state.Station.settle.Goals as goal

pub returns-in-Err : goal.returns-in-Err
returns-in-Err c =
    let s = c.in_ok-station.station in
    let h : c.args.place < vec_len s.links = omega (arith, same_long s c.args.self.now c.in_ok-station.ensures.cases, c.requires) in
    let x = link_of s c.args.place c.index_mut.result.now (state_of c.args.self.now) c.in_ok-station.ensures.cases h c.index_mut.ensures.value in
    subst (λ v. IfOk c.turn_away.result (λ o. did_of o ≡ v))
    (unawaited_did c.args.acknowledgement c.args.place (state_of c.args.self.now) c.in-Err.refusal (ap (why_not_settled c.args.acknowledgement) (sym x) ∙ sym c.in-Err.ensures.why))
    c.turn_away.ensures

pub returns : goal.returns
returns c =
    let s = c.in_ok-station.station in
    let z = state_of c.args.self.now in
    let h : c.args.place < vec_len s.links = omega (arith, same_long s c.args.self.now c.in_ok-station.ensures.cases, c.requires) in
    let x = link_of s c.args.place c.index_mut.result.now z c.in_ok-station.ensures.cases h c.index_mut.ensures.value in
    let y : end_of c.index.result.now ≡ settled c.args.acknowledgement (link_at z c.args.place) =
    ap end_of (read_back s c.args.place c.settle.new.self c.index.result.now h c.index.ensures) ∙ (c.settle.ensures.after ∙ ap (settled c.args.acknowledgement) x) in
    settled_did c.args.acknowledgement c.args.place z
    (state_of (record { number = s.number; node = s.node; links = with_item s.links c.args.place c.settle.new.self })) (vec_items c.new-sends.result) (vec_items c.push_oldest.new.sends) (vec_items c.new.result)
    (ap (why_not_settled c.args.acknowledgement) (sym x) ∙ sym c.in_default.ensures.why)
    (state_changed s c.args.place c.settle.new.self c.index_mut.result.now (settled c.args.acknowledgement) z c.in_ok-station.ensures.cases h c.index_mut.ensures.value c.settle.ensures.after)
    c.new-sends.ensures.items (c.in_ok-push_oldest.ensures ∙ ap (λ v. vec_items c.new-sends.result ++ oldest_to v) y) c.new.ensures.items
