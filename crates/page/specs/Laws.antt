-- What a page promises: what is written is read to itself, nothing else is read, and a page has its limit.
use Rattle.std.specs.Prelude.{◌≡◌, ℕ, ◌≤◌, true, List, length, Some}
use Rattle.std.specs.List.{AllByRecursion}
use Rattle.message.specs.Laws.{Short, ShortOutgoing, ShortMessage}
use Rattle.node.specs.declared.state.Node.{Node}
use Rattle.node.specs.Rules.{best_weight}
use Rattle.link.specs.Ends.{End}
use Rattle.station.specs.State.{State}
use Rattle.page.specs.Page.{page_bytes, fits}
use Rattle.page.specs.Reading.{reads_page}

-- names and weights have 32 bits, and there are sixteen places, as in the code's own types
abbrev pub ShortNode : Node → Type 0
ShortNode n = Short n.name × ShortOutgoing (best_weight n.best) × AllByRecursion Short n.weights × (length n.weights ≡ 16) × (length n.marks ≡ 16)

abbrev pub ShortEnd : End → Type 0
ShortEnd e = Short e.taken × AllByRecursion ShortMessage e.outbox × AllByRecursion ShortMessage e.inbox

abbrev pub ShortState : State → Type 0
ShortState s = ShortNode s.node × AllByRecursion ShortEnd s.links

-- a state that fits is read from its page
abbrev pub PageReturns : Type 0
PageReturns = (s : State) → ShortState s → fits s ≡ true → reads_page (page_bytes s) ≡ Some s

-- bytes that are read are the page of what comes of them, and of nothing else
abbrev pub PageReadOnly : Type 0
PageReadOnly = (bs : List ℕ) (s : State) → reads_page bs ≡ Some s → (bs ≡ page_bytes s) × (fits s ≡ true)

-- 16 KiB at most
abbrev pub PageShort : Type 0
PageShort = (s : State) → fits s ≡ true → length (page_bytes s) ≤ 16384
