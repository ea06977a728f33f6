-- Five parts, one behind the other.
use Rattle.std.proofs.Common.{◌≡◌, sym, append_assoc, rules}
use Rattle.message.specs.Bytes.{weight_or_zero}
use Rattle.node.specs.Rules.{best_weight}
use Rattle.page.specs.Page.{flag_byte}
use Rattle.page.proofs.fields.put_fields.Goals as goal

pub returns : goal.returns
returns c =
    let flag : c.from.result ≡ flag_byte c.args.node.halted = search rules in
    let weight : c.unwrap_or.result ≡ weight_or_zero (best_weight c.args.node.best) = search rules in (
      sym c.if-not-node_fits.ensures,
      rw (c.in_ok-extend_from_slice-3.ensures.items, c.in_ok-put-2.ensures.1, c.in_ok-extend_from_slice-2.ensures.items, c.in_ok-put.ensures.1, c.in_ok-extend_from_slice.ensures.items)
          (rw (c.status_byte.ensures, c.place_byte-parent.ensures, c.place_byte-best.ensures, c.edge.ensures, weight, c.place_byte.ensures, flag) (simp append_assoc)),
    )
