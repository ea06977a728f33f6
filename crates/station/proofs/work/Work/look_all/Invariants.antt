-- So many looks were taken.
use Rattle.std.proofs.Common.{◌≡◌, Bool, ◌||◌}
use Rattle.station.specs.Work.{progress_of, looks}
use Rattle.station.proofs.work.Work.look_all.Given as goal

abbrev pub invariant-loop-look : goal.invariant-loop-look
invariant-loop-look l = (before : Bool) → progress_of l.self (l.took || before) ≡ looks l.place l._look (progress_of l.initial.self before)
