-- Each turn looks at one place more.
use Rattle.std.proofs.Common.{◌≡◌, false, length, vec_items, sym, ap, ◌∙◌, arith}
use Rattle.std.proofs.lemmas.List.{length-map}
use Rattle.std.proofs.Math.Bool.{or_comm}
use Rattle.link.specs.Ends.{end_of}
use Rattle.station.specs.Work.{progress_of, looks, waiting_at, round}
use Rattle.station.proofs.Looks.{round_none, round_more}
use Rattle.station.proofs.work.Work.round.Goals as goal

pub loop-place-init : goal.loop-place-init
loop-place-init c = sym (round_none (progress_of c.args.self.now false))

pub loop-place-preserved : goal.loop-place-preserved
loop-place-preserved c =
    ap (progress_of c.look_all.new.self) (or_comm c.loop-place.took c.in_ok-took.field-0) ∙
    (c.in_ok-took.ensures c.loop-place.took ∙
    (ap (λ p. looks c.loop-place.place (waiting_at c.loop-place.place p) p) c.loop-place.invariant ∙ sym (round_more c.loop-place.place (progress_of c.args.self.now false))))

pub returns : goal.returns
returns c =
    let p = progress_of c.args.self.now false in
    let ls = vec_items c.args.self.now.station.links in
    let e = c.args.self.now.station.links.ok.0 in
    let l = c.len-place-end.ensures in
    let m = length-map ls end_of in
    let k = c.loop-place.auto.place-end in
    let n : c.loop-place.place ≡ length p.state.links = omega (arith, c.loop-place-test.false) in
    c.loop-place.invariant ∙ ap (λ v. round v p) n
