-- The place of a neighbour is one of the links.
use Rattle.std.proofs.Common.{vec_items, sym, ◌∙◌, arith}
use Rattle.station.specs.State.{state_of, place_of}
use Rattle.station.proofs.Links.{place_inside}
use Rattle.station.proofs.Happened.{over_place}
use Rattle.station.proofs.state.Station.acknowledge.Goals as goal

pub settle-requires : goal.settle-requires
settle-requires c =
    let e = c.args.self.now.links.ok.0 in
    let at = over_place c.decode.result (place_of (state_of c.args.self.now).links c.args.from) c.in-Ok.place c.in-Ok.acknowledgement (sym c.over_link.ensures ∙ c.in-Ok.is) in
    omega (arith, place_inside (vec_items c.args.self.now.links) c.args.from c.in-Ok.place at)
