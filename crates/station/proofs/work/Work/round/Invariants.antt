-- The first places have had their looks.
use Rattle.std.proofs.Common.{◌≡◌, false}
use Rattle.station.specs.Work.{progress_of, round}
use Rattle.station.proofs.work.Work.round.Given as goal

abbrev pub invariant-loop-place : goal.invariant-loop-place
invariant-loop-place l = progress_of l.self l.took ≡ round l.place (progress_of l.initial.self false)
