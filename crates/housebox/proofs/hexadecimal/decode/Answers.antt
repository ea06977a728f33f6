-- Each turn takes two digits.
use Rattle.std.proofs.Common.{◌≡◌, min, length, vec_items, ◌∙◌, rules}
use Rattle.std.specs.Slice.Iter.{chunks_rest}
use Rattle.housebox.specs.Hex.{pair_of, bytes_of}
use Rattle.housebox.proofs.Behind.{read_start, read_more, read_none, read_all}
use Rattle.housebox.proofs.Digits.{next_digits, no_digits}
use Rattle.housebox.proofs.hexadecimal.decode.Goals as goal

pub loop-digits-init : goal.loop-digits-init
loop-digits-init c = (
  search rules,
  read_start (bytes_of c.args.text.now) (bytes_of (chunks_rest c.into_iter-digits-iterator.result)) (vec_items c.new-bytes.result) (search rules) c.new-bytes.ensures.items,
)

pub loop-digits-preserved : goal.loop-digits-preserved
loop-digits-preserved c =
    let h = c.in-Some.ensures.steps in
    let before = chunks_rest c.loop-digits.digits-iterator in
    let rest = chunks_rest c.next.new.self in
    let ds = c.in-Some.digits.now in
    let two : length ds ≡ min 2 (length before) = rw c.loop-digits.invariant.0 at h.1.1 in (
      h.0 ∙ c.loop-digits.invariant.0,
      read_more (bytes_of c.args.text.now) (bytes_of before) (bytes_of rest) (pair_of ds) c.in-Some-byte.byte (vec_items c.loop-digits.bytes) (vec_items c.push.new.self)
          (next_digits before ds rest h.1.0 two h.1.2) c.in-Some-byte.ensures c.in_ok-push.ensures.items c.loop-digits.invariant.1,
    )

pub returns-in_default : goal.returns-in_default
returns-in_default c =
    let h = c.in-Some.ensures.steps in
    let before = chunks_rest c.loop-digits.digits-iterator in
    let rest = chunks_rest c.next.new.self in
    let ds = c.in-Some.digits.now in
    let two : length ds ≡ min 2 (length before) = rw c.loop-digits.invariant.0 at h.1.1 in
    read_none (bytes_of c.args.text.now) (bytes_of before) (bytes_of rest) (pair_of ds) (vec_items c.loop-digits.bytes) (next_digits before ds rest h.1.0 two h.1.2) c.in_default.ensures
    c.loop-digits.invariant.1

pub returns : goal.returns
returns c =
    let rest = chunks_rest c.loop-digits.digits-iterator in
    read_all (bytes_of c.args.text.now) (bytes_of rest) (vec_items c.loop-digits.bytes) (no_digits rest c.in-None.ensures.steps.1.0) c.loop-digits.invariant.1
