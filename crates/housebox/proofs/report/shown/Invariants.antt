-- The lamps of the first places are there.
use Rattle.std.proofs.Common.{length, string_bytes}
use Rattle.std.specs.Slice.Iter.{iter_rest}
use Rattle.std.specs.Iterator.Adapters.{zip_first, zip_second}
use Rattle.housebox.proofs.Lamps.{Lit}
use Rattle.housebox.proofs.report.shown.Given as goal

abbrev pub invariant-loop-link : goal.invariant-loop-link
invariant-loop-link l = Lit l.station (length l.yielded) (iter_rest (zip_first l.link-iterator)) (iter_rest (zip_second l.link-iterator)) (string_bytes l.text)
