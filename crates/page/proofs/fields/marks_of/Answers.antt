-- Each mark from its byte.
use Rattle.std.proofs.Common.{◌≡◌, ℕ, ◌<◌, length, map, get_or, sym, ◌∙◌, arith, rules}
use Rattle.std.proofs.lemmas.List.{same_lists, length-map, get_or-map}
use Rattle.graph.specs.declared.mark.Mark.{Mark}
use Rattle.page.specs.Reading.{mark_of}
use Rattle.page.proofs.fields.marks_of.Goals as goal

pub returns : goal.returns
returns c =
    let bs = c.args.bytes.now in
    let made = c.map.ensures.items in
    let few : length c.map.result ≡ 16 = made.long in
    let long : length bs ≡ 16 = c.told-bytes in
    let each : (k : ℕ) (d : Mark) → k < length c.map.result → get_or c.map.result k d ≡ get_or (map mark_of bs) k d =
    λ k d h.
    let n : k < 16 = omega arith in
    let called = made.at k 0 d n in
    let read : get_or c.map.result k d ≡ mark_of (get_or bs k 0) = search rules in
    read ∙ sym (get_or-map mark_of bs k 0 d (omega arith)) in
    same_lists c.map.result (map mark_of bs) (few ∙ sym (length-map bs mark_of ∙ long)) each
