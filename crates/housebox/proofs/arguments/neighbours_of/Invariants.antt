-- What is there, and the neighbours of the words that are left, are those of all words.
use Rattle.std.proofs.Common.{◌≡◌, map, drop, vec_items, string_bytes}
use Rattle.housebox.specs.Arguments.{neighbours_of}
use Rattle.housebox.proofs.Behind.{behind}
use Rattle.housebox.proofs.arguments.neighbours_of.Given as goal

abbrev pub invariant-loop-word : goal.invariant-loop-word
invariant-loop-word l = behind (vec_items l.neighbours) (neighbours_of (map string_bytes (drop l.word-index l.words))) ≡ neighbours_of (map string_bytes l.words)
