-- Each turn reads one word.
use Rattle.std.proofs.Common.{◌+◌, map, drop, refl, vec_items, string_bytes, ap, ◌∙◌}
use Rattle.housebox.specs.Arguments.{neighbour_of, neighbours_of}
use Rattle.housebox.proofs.Behind.{read_start, read_more, read_none, read_all}
use Rattle.housebox.proofs.Neighbours.{next_word, no_word}
use Rattle.housebox.proofs.arguments.neighbours_of.Goals as goal

pub loop-word-init : goal.loop-word-init
loop-word-init c = let all = neighbours_of (map string_bytes c.args.words.now) in read_start all all (vec_items c.new-neighbours.result) refl c.new-neighbours.ensures.items

pub loop-word-preserved : goal.loop-word-preserved
loop-word-preserved c =
    let ws = c.args.words.now in
    let i = c.loop-word.word-index in
    let w = c.word-item.result in
    read_more (neighbours_of (map string_bytes ws)) (neighbours_of (map string_bytes (drop i ws))) (neighbours_of (map string_bytes (drop (i + 1) ws))) (neighbour_of (string_bytes w)) c.in-Some.neighbour
    (vec_items c.loop-word.neighbours) (vec_items c.push.new.self) (next_word string_bytes ws i w c.loop-word-test.true c.word-item.is) (c.in-Some.ensures ∙ ap neighbour_of c.as_bytes.ensures.value)
    c.in_ok-push.ensures.items c.loop-word.invariant

pub returns-in_default : goal.returns-in_default
returns-in_default c =
    let ws = c.args.words.now in
    let i = c.loop-word.word-index in
    let w = c.word-item.result in
    read_none (neighbours_of (map string_bytes ws)) (neighbours_of (map string_bytes (drop i ws))) (neighbours_of (map string_bytes (drop (i + 1) ws))) (neighbour_of (string_bytes w))
    (vec_items c.loop-word.neighbours) (next_word string_bytes ws i w c.loop-word-test.true c.word-item.is) (c.in_default.ensures ∙ ap neighbour_of c.as_bytes.ensures.value) c.loop-word.invariant

pub returns : goal.returns
returns c =
    let ws = c.args.words.now in
    let i = c.loop-word.word-index in
    read_all (neighbours_of (map string_bytes ws)) (neighbours_of (map string_bytes (drop i ws))) (vec_items c.loop-word.neighbours) (no_word string_bytes ws i c.loop-word-test.false) c.loop-word.invariant
