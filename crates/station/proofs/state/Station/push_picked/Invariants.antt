-- Of the first links those that are picked have sent their oldest message.
use Rattle.std.proofs.Common.{◌≡◌, ℕ, ◌++◌, Bool, map, vec_items}
use Rattle.link.specs.Ends.{end_of}
use Rattle.station.specs.Events.{firsts}
use Rattle.station.proofs.state.Station.push_picked.Given as goal

abbrev pub invariant-loop-place : goal.invariant-loop-place
invariant-loop-place g l =
    (chosen : ℕ → Bool) → ((k : ℕ) (b : Bool) → goal.F-post g l.picks k b → b ≡ chosen k) →
    vec_items l.sends ≡ vec_items l.initial.sends ++ firsts chosen (map end_of (vec_items l.self.links)) l.place
