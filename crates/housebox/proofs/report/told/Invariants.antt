-- The lines of the first are there.
use Rattle.std.proofs.Common.{◌≡◌, ◌++◌, take, string_bytes}
use Rattle.std.specs.List.{flat_map}
use Rattle.housebox.specs.Report.{refusal_line, send_line}
use Rattle.housebox.proofs.report.told.Given as goal

abbrev pub invariant-loop-refusal : goal.invariant-loop-refusal
invariant-loop-refusal l = string_bytes l.text ≡ flat_map refusal_line (take l.refusal-index l.refusal-items)

abbrev pub invariant-loop-send : goal.invariant-loop-send
invariant-loop-send l = string_bytes l.text ≡ string_bytes l.initial.text ++ flat_map send_line (take l.send-index l.send-items)
