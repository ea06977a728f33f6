-- What came so far fits, and is written.
use Rattle.std.proofs.Common.{◌≡◌, true, ◌++◌, take, vec_items}
use Rattle.std.specs.List.{flat_map, list_all}
use Rattle.page.proofs.to_page.put_all.Given as goal

abbrev pub invariant-loop-item : goal.invariant-loop-item
invariant-loop-item g l =
    let t = g.T.ToPage in
    record { passed : list_all t.is_fit (take l.item-index l.items) ≡ true; written : vec_items l.page ≡ vec_items l.initial.page ++ flat_map t.bytes_of (take l.item-index l.items) }
