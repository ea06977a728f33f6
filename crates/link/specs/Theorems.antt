-- What a link promises, whatever the copper does: after every list of moves, from the first on.
use Rattle.std.specs.Prelude.{◌≡◌, ℕ, ◌+◌, ◌<◌, ◌≤◌, true, List, ◌++◌, length}
use Rattle.message.specs.declared.messages.Message.{Message}
use Rattle.link.specs.Ends.{holds}
use Rattle.link.specs.Copper.{Direction, unused, Moves, Delivery, Deliveries}

-- TAKEN IN ORDER, EACH ONCE. What was taken is the beginning of what was given, in order, and its number says how much that is: nothing is taken that was not given, nothing twice, nothing out of turn.
abbrev pub TakenInOrder : Type 0
TakenInOrder = (i j : ℕ) (d : Direction) → Moves (unused i j) d → ((left : List Message) × (d.given ≡ d.took ++ left)) × (length d.took ≡ d.to.taken)

-- NUMBERS DO NOT WRAP. The numbers of the two ends are the same or one apart, and at most 4,294,967,295; once that one is taken, nothing is taken any more, whatever comes.
abbrev pub NumbersEnd : Type 0
NumbersEnd =
    (i j : ℕ) (d : Direction) → Moves (unused i j) d →
    (d.from.acknowledged ≤ d.to.taken) × (d.to.taken ≤ d.from.acknowledged + 1) × (d.to.taken ≤ 4294967295) ×
    (d.to.taken ≡ 4294967295 → (e : Direction) → Moves d e → e.took ≡ d.took)

-- ALL IS TAKEN IN THE END. After as many deliveries as messages were waiting, whatever else happened, everything that had been given by then is taken.
abbrev pub AllDelivered : Type 0
AllDelivered =
    (i j n : ℕ) (d e : Direction) → Moves (unused i j) d → length d.from.outbox ≤ n → Deliveries n d e → (more : List Message) × (e.took ≡ d.given ++ more)

-- And a delivery is always possible while something waits and numbers last: one that is made of moves, so that the copper may do it.
abbrev pub CanDeliver : Type 0
CanDeliver = (i j : ℕ) (d : Direction) → Moves (unused i j) d → holds d.from.outbox ≡ true → d.from.acknowledged < 4294967295 → (e : Direction) × Delivery d e × Moves d e
