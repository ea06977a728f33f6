-- The rounds that are left lead to where all rounds lead.
use Rattle.std.proofs.Common.{◌≡◌, false}
use Rattle.station.specs.Work.{progress_of, waiting, works}
use Rattle.station.proofs.work.Work.work_off.Given as goal

abbrev pub invariant-loop : goal.invariant-loop
invariant-loop l = works (progress_of l.self false) ≡ works (progress_of l.initial.self false)

abbrev pub decreases-loop : goal.decreases-loop
decreases-loop l = waiting (progress_of l.self false).state
