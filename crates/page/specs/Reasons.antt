-- What becomes of a reason in the layer above.
use Rattle.message.specs.declared.messages.Unsent.{Unsent}
use Rattle.message.specs.declared.messages.Unsent.TheVariants as unsent
use Rattle.page.specs.declared.reasons.Unwritten.{Unwritten}
use Rattle.page.specs.declared.reasons.Unwritten.TheVariants as unwritten
use Rattle.page.specs.declared.reasons.Unread.{Unread}
use Rattle.page.specs.declared.reasons.Unread.TheVariants as unread

-- a message that has no bytes of its own has none on a page
abbrev pub unwritten_by : Unsent → Unwritten
unwritten_by unsent.Memory = unwritten.Memory
unwritten_by unsent.Unfit = unwritten.Full

-- bytes of what has no page are no page
abbrev pub unread_by : Unwritten → Unread
unread_by unwritten.Memory = unread.Memory
unread_by unwritten.Full = unread.Foreign
