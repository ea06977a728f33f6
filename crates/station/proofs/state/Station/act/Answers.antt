-- Each turn gives what goes over one place more.
use Rattle.std.proofs.Common.{get_or, None, sym, refl, ap, ◌∙◌}
use Rattle.station.specs.State.{state_of, give_at}
use Rattle.station.proofs.Given.{gave_none, gave_more_lem}
use Rattle.station.proofs.state.Station.act.Goals as goal

pub loop-place-init : goal.loop-place-init
loop-place-init c =
    ap (λ v. record { number = c.args.self.now.number; node = c.args.turn.node; links = v }) (sym (gave_none c.args.turn.sends (state_of c.args.self.now).links))

pub loop-place-preserved : goal.loop-place-preserved
loop-place-preserved c =
    c.in_ok-give_at.ensures ∙
    (ap (give_at c.loop-place.place (get_or c.args.turn.sends c.loop-place.place None)) c.loop-place.invariant ∙
    ap (λ v. record { number = c.args.self.now.number; node = c.args.turn.node; links = v })
    (sym (gave_more_lem c.args.turn.sends (state_of c.args.self.now).links c.loop-place.place (get_or c.args.turn.sends c.loop-place.place None) refl)))
