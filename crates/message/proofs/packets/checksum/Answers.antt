-- What the fold adds up is the sum, cut once.
use Rattle.std.proofs.Common.{rules, ◌≡◌, ◌+◌, ◌%◌, arith}
use Rattle.std.specs.List.{fold}
use Rattle.message.proofs.Checksum.{adding}
use Rattle.message.proofs.packets.checksum.Goals as goal

pub returns : goal.returns
returns c =
    let folded : c.fold.result ≡ fold (λ s b. (s + b) % 65536) 0 c.args.bytes.now = search rules in
    let added = adding 0 c.args.bytes.now in
    omega (arith, folded, added)
