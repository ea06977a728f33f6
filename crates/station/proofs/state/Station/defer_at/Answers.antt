-- The link at the place defers its head, if there is one.
use Rattle.std.proofs.Common.{vec_items, arith}
use Rattle.link.specs.Ends.{deferring}
use Rattle.station.proofs.Links.{link_changed}
use Rattle.station.proofs.state.Station.defer_at.Goals as goal

pub returns-in-Some : goal.returns-in-Some
returns-in-Some c =
    let e = c.in-Some.ensures in
    grind (
      arith,
      link_changed (vec_items c.args.self.now.links) c.args.place c.defer_head.new.self c.in-Some.link.now deferring
          (omega (arith, e.item.3.0)) (grind (arith, e.value)) c.defer_head.ensures,
    )
