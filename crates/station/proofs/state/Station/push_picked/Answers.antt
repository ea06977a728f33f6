-- Each turn sends the oldest message of one link more, if it is picked.
use Rattle.std.proofs.Common.{◌++◌, map, length, vec_items, sym, ap, ◌∙◌, arith}
use Rattle.std.proofs.lemmas.List.{length-map}
use Rattle.link.specs.Ends.{end_of}
use Rattle.station.specs.Events.{firsts}
use Rattle.station.proofs.Links.{link_read_as}
use Rattle.station.proofs.Firsts.{firsts_start, firsts_sent, firsts_passed}
use Rattle.station.proofs.state.Station.push_picked.Goals as goal
use Rattle.station.proofs.state.Station.push_picked.Goals.{then-picks+in_ok-push_oldest, else-picks}

pub loop-place-init : goal.loop-place-init
loop-place-init g c = λ chosen h. firsts_start chosen (map end_of (vec_items c.args.self.now.links)) (vec_items c.args.sends.now)

pub loop-place-preserved : goal.loop-place-preserved
loop-place-preserved g c =
    let ls = vec_items c.args.self.now.links in
    let k = c.loop-place.place in
    let before = vec_items c.args.sends.now in
    elim c.if-picks.branch [
      | then-picks+in_ok-push_oldest w ↦
          (λ chosen h.
          firsts_sent chosen (map end_of ls) k before (vec_items c.loop-place.sends) (vec_items c.if-picks.sends) (end_of c.link-item.result)
          (sym (h k c.picks.result c.picks.ensures) ∙ w.if-picks.true)
          (link_read_as c.deref-link-items.result.now ls k c.link-item.result c.deref-link-items.ensures.value c.loop-place-test.true c.link-item.is)
          (c.loop-place.invariant chosen h) (ap (λ v. vec_items v) w.sends-is ∙ w.in_ok-push_oldest.ensures))
      | else-picks w ↦
          (λ chosen h.
          firsts_passed chosen (map end_of ls) k before (vec_items c.if-picks.sends) (sym (h k c.picks.result c.picks.ensures) ∙ w.if-picks.false)
          (ap (λ v. vec_items v) w.sends-is ∙ c.loop-place.invariant chosen h))
    ]

pub returns : goal.returns
returns g c = λ chosen h.
    let ls = vec_items c.args.self.now.links in
    let s = ap length c.deref-link-items.ensures.value in
    let m = length-map ls end_of in
    let k = c.loop-place.auto.place-end in
    c.loop-place.invariant chosen h ∙ ap (λ v. vec_items c.args.sends.now ++ firsts chosen (map end_of ls) v) (omega (arith, c.loop-place-test.false))
