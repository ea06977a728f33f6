-- Each turn puts the lamp of one place.
use Rattle.std.proofs.Common.{◌≡◌, ◌⊎◌, inl, inr, length, [], ◌∷◌, string_bytes, ap, ◌∙◌, append_assoc, arith, rules, length-append}
use Rattle.std.specs.Slice.Iter.{iter_rest}
use Rattle.std.specs.Iterator.Adapters.{zip_first, zip_second}
use Rattle.station.specs.State.{state_of}
use Rattle.housebox.proofs.Lamps.{lit_none, lit_more, lit_all, lamps_done, lamps_open}
use Rattle.housebox.proofs.report.shown.Goals as goal
use Rattle.housebox.proofs.report.shown.Goals.{then-station+in_ok-push_str, else-station}

pub loop-link-init : goal.loop-link-init
loop-link-init c =
    let i = c.into_iter-link-iterator.result in
    lit_none c.args.station.now (iter_rest (zip_first i)) (iter_rest (zip_second i)) (string_bytes c.new-text.result) (search rules) (search rules) (search rules)

pub loop-link-preserved : goal.loop-link-preserved
loop-link-preserved c =
    let h = c.in-Some.ensures.steps in
    let i = c.loop-link.link-iterator in
    let j = c.next.new.self in
    lit_more c.args.station.now (length c.loop-link.yielded) _ (iter_rest (zip_first i)) (iter_rest (zip_first j)) (iter_rest (zip_second i)) (iter_rest (zip_second j)) c.in-Some.link.now c.in-Some.mark.now
    (string_bytes c.loop-link.text) (string_bytes c.writeln.new.self) (length-append c.loop-link.yielded ((c.in-Some.link, c.in-Some.mark) ∷ [])) h.0 h.1 (c.in_ok-writeln.ensures.bytes ∙ simp append_assoc) c.loop-link.invariant

pub returns : goal.returns
returns c =
    let s = c.args.station.now in
    let i = c.loop-link.link-iterator in
    let ended : (length (iter_rest (zip_first i)) ≡ 0) ⊎ (length (iter_rest (zip_second i)) ≡ 0) =
    elim c.in-None.ensures.steps [ inl h ↦ inl h.1.0 | inr h ↦ inr h.1.0 ]
    in
    let all = lit_all s (length c.loop-link.yielded) (iter_rest (zip_first i)) (iter_rest (zip_second i)) (string_bytes c.loop-link.text) (omega arith) ended c.loop-link.invariant in
    elim c.if-station.branch [
      | then-station+in_ok-push_str w ↦ lamps_done (state_of s) (string_bytes c.loop-link.text) (string_bytes c.if-station.text) all w.if-station.true (ap (λ v. string_bytes v) w.text-is ∙ w.in_ok-push_str.ensures.bytes)
      | else-station w ↦ lamps_open (state_of s) (string_bytes c.loop-link.text) (string_bytes c.if-station.text) all w.if-station.false (ap (λ v. string_bytes v) w.text-is)
    ]
