-- Each link that the closure makes is a new end.
use Rattle.std.proofs.Common.{rules}
use Rattle.std.proofs.lemmas.Iterator.{YieldsList-from_slice, YieldsList-from_map_by}
use Rattle.std.proofs.lemmas.Iterator.Consumers.{map_from_collect}
use Rattle.link.specs.Ends.{end_of, new_end}
use Rattle.station.proofs.making.links_of.Goals as goal

pub returns : goal.returns
returns c =
    map_from_collect _ c.collect.ensures.ran
    (YieldsList-from_map_by _ end_of (λ n. new_end n.node) (YieldsList-from_slice c.args.neighbours.now (cc)) c.map.ensures.closure (λ x r q k. search rules))
