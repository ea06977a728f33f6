-- What is there, and the bytes of the digits that are left, are the bytes of the text.
use Rattle.std.proofs.Common.{◌≡◌, vec_items}
use Rattle.std.specs.Slice.Iter.{chunks_rest, chunks_size}
use Rattle.housebox.specs.Hex.{bytes_of}
use Rattle.housebox.proofs.Behind.{behind}
use Rattle.housebox.proofs.hexadecimal.decode.Given as goal

abbrev pub invariant-loop-digits : goal.invariant-loop-digits
invariant-loop-digits l = (chunks_size l.digits-iterator ≡ 2) × (behind (vec_items l.bytes) (bytes_of (chunks_rest l.digits-iterator)) ≡ bytes_of l.text)
