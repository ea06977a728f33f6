-- The first neighbours have no fault.
use Rattle.std.proofs.Common.{◌≡◌, None}
use Rattle.station.specs.Making.{fault_below}
use Rattle.station.proofs.making.check_station.Given as goal

abbrev pub invariant-loop-place : goal.invariant-loop-place
invariant-loop-place l = fault_below l.number l.neighbours l.place ≡ None
