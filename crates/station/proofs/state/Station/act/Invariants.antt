-- What goes over the first places is given.
use Rattle.std.proofs.Common.{◌≡◌}
use Rattle.station.specs.State.{state_of, gave_below}
use Rattle.station.proofs.state.Station.act.Given as goal

abbrev pub invariant-loop-place : goal.invariant-loop-place
invariant-loop-place l =
    state_of l.self ≡ record { number = l.initial.self.number; node = l.initial.self.node; links = gave_below l.fn.turn.sends (state_of l.initial.self).links l.place }
