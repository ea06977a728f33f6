-- Why an event comes to no step.
use Rattle.message.specs.declared.messages.Unsent.{Unsent}
use Rattle.message.specs.declared.messages.Unsent.TheVariants as unsent
use Rattle.page.specs.declared.reasons.Unwritten.{Unwritten}
use Rattle.page.specs.declared.reasons.Unwritten.TheVariants as unwritten
use Rattle.housebox.specs.declared.step.Unstepped.{Unstepped}
use Rattle.housebox.specs.declared.step.Unstepped.TheVariants as unstepped

-- what has no page
abbrev pub unkept_by : Unwritten → Unstepped
unkept_by unwritten.Memory = unstepped.Memory
unkept_by unwritten.Full = unstepped.Full

-- what has no bytes is not told
abbrev pub untold_by : Unsent → Unstepped
untold_by unsent.Memory = unstepped.Memory
untold_by unsent.Unfit = unstepped.Unfit
