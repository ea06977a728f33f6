-- Why a box stops.
use Rattle.page.specs.declared.reasons.Unread.{Unread}
use Rattle.page.specs.declared.reasons.Unread.TheVariants as unread
use Rattle.page.specs.declared.reasons.Unwritten.{Unwritten}
use Rattle.page.specs.declared.reasons.Unwritten.TheVariants as unwritten
use Rattle.housebox.specs.declared.step.Unstepped.{Unstepped}
use Rattle.housebox.specs.declared.step.Unstepped.TheVariants as unstepped
use Rattle.housebox.specs.declared.trouble.Trouble.{Trouble}
use Rattle.housebox.specs.declared.trouble.Trouble.TheVariants as trouble

-- a fresh house that has no page
abbrev pub unmade_by : Unwritten → Trouble
unmade_by unwritten.Memory = trouble.Memory
unmade_by unwritten.Full = trouble.Full

-- a page in the file that is not read
abbrev pub unresumed_by : Unread → Trouble
unresumed_by unread.Memory = trouble.Memory
unresumed_by unread.Foreign = trouble.Foreign

-- an event that comes to no step; a message that has no bytes has none on a page
abbrev pub unsettled_by : Unstepped → Trouble
unsettled_by unstepped.Memory = trouble.Memory
unsettled_by unstepped.Full = trouble.Full
unsettled_by unstepped.Unfit = trouble.Full
