-- The links are copied one by one.
use Rattle.std.proofs.Common.{vec_items, ap}
use Rattle.station.proofs.Links.{ends_copied}
use Rattle.station.proofs.state.StationClone.clone.Goals as goal

pub returns : goal.returns
returns c =
    let s = c.args.self.now in
    record { cases = ap (λ v. record { number = s.number; node = s.node; links = v }) (ends_copied (vec_items s.links) (vec_items c.in_ok-clone.field-0) c.in_ok-clone.ensures.cases.0) }
