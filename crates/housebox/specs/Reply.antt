-- What a command comes to.
use Rattle.std.specs.Prelude.{ℕ, List, string_bytes}
use Rattle.message.specs.declared.refusals.Refusal.TheVariants.{Malformed}
use Rattle.station.specs.State.{State}
use Rattle.station.specs.Events.{Did, did_of, on_wake, on_packet, on_acknowledgement}
use Rattle.housebox.specs.Command.{Said, wakes, packet, answers, shows, nothing, unknown}
use Rattle.housebox.specs.Report.{refusal_line, shown_of}
use Rattle.housebox.specs.declared.reply.Reply.{Reply}
use Rattle.housebox.specs.declared.reply.Reply.TheVariants.{Silence, Lines, Event}

-- nothing, lines to print, or an event of the station
pub data Replied : Type 0 where
  silence : Replied
  lines : List ℕ → Replied
  event : Did → Replied

-- what the code holds
abbrev pub replied_by : Reply → Replied
replied_by Silence = silence
replied_by (Lines text) = lines (string_bytes text)
replied_by (Event o) = event (did_of o)

-- `wake`, `packet` and `answer` are events; what is not understood is refused by 1
abbrev pub reply_of : Said → State → Replied
reply_of wakes s = event (on_wake s)
reply_of (packet d) s = event (on_packet d.from d.bytes s)
reply_of (answers d) s = event (on_acknowledgement d.from d.bytes s)
reply_of shows s = lines (shown_of s)
reply_of nothing s = silence
reply_of unknown s = lines (refusal_line Malformed)
