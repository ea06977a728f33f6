-- Each field from its place.
use Rattle.std.proofs.Common.{◌-◌, ◌≤◌, length, take, drop, sym, ap, ◌∙◌, arith, length-drop, rules}
use Rattle.std.proofs.lemmas.List.{take_rest, drop-drop}
use Rattle.page.proofs.NodeRead.{node_read}
use Rattle.page.proofs.fields.node_front.Goals as goal

pub returns : goal.returns
returns c =
    let bs = c.args.bytes.now in
    let h : 8 ≤ length bs = search rules in
    let mid = take (length bs - 8) (drop 8 bs) in
    let g : 8 ≤ length mid = search rules in
    let middle = take_rest bs 8 in
    let part = take_rest mid 8 ∙ (ap (drop 8) middle ∙ drop-drop 8 8 bs) in
    let first = c.in_ok-weights.ensures.cases in
    let second = c.in_ok-marks.ensures.cases in
    let total = ap length part ∙ length-drop 16 bs in
    let long : 96 ≤ length bs = omega (arith, first.2, second.2) in
    let node = node_read bs mid c.in_ok-weights.weights.now c.in_ok-weights.rest.now c.in_ok-marks.marks.now c.in_ok-marks.rest.now
    middle (first.0 ∙ ap (take 64) part) (first.1 ∙ ap (drop 64) part) second.0 second.1 long in
    rw (c.status_of.ensures, c.from.ensures, c.weights_of.ensures, c.marks_of.ensures, c.from_be_bytes.ensures, c.place_of.ensures, c.best_of.ensures, c.from_be_bytes-2.ensures, c.place_of-2.ensures) (sym node)
