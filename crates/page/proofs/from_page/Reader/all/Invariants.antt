-- What is left to read behind what was read is all that there was to read.
use Rattle.std.proofs.Common.{◌≡◌, ◌-◌, [], map, vec_items}
use Rattle.page.specs.Reading.{fronts}
use Rattle.page.proofs.from_page.Reader.all.Given as goal

abbrev pub invariant-loop : goal.invariant-loop
invariant-loop g l =
    let t = g.T.FromPage in
    fronts t.front (l.count - l.counter) (map t.view (vec_items l.items)) l.self.left.now ≡ fronts t.front l.count [] l.initial.self.left.now
