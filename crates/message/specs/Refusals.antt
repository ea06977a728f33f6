-- The numbers and the words of the refusals.
use Rattle.std.specs.Prelude.{ℕ, List, codes}
use Rattle.message.specs.declared.refusals.Refusal.{Refusal}
use Rattle.message.specs.declared.refusals.Refusal.TheVariants.{Malformed, NotNext, NotAwaited, NoSuchEdge, OutOfPlace, ForeignPage, UnsoundGraph}

-- 1: bytes that are no packet or acknowledgement; 2: a packet whose number is not the next; 3: an acknowledgement that nobody waits for;
-- 4: no such edge; 5: a message that cannot come in this state; 6: a file that is not this node's page; 7: an unsound valley file
abbrev pub number_of : Refusal → ℕ
number_of Malformed = 1
number_of NotNext = 2
number_of NotAwaited = 3
number_of NoSuchEdge = 4
number_of OutOfPlace = 5
number_of ForeignPage = 6
number_of UnsoundGraph = 7

-- what a person is told of a refusal
abbrev pub words_of : Refusal → List ℕ
words_of Malformed = codes "not understood"
words_of NotNext = codes "not the next number"
words_of NotAwaited = codes "no answer that is waited for"
words_of NoSuchEdge = codes "no such line"
words_of OutOfPlace = codes "cannot come now"
words_of ForeignPage = codes "no page of this house and its lines"
words_of UnsoundGraph = codes "an unsound valley"
