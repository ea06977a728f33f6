-- Each way is one of the three things that come of a head, or there is none.
use Rattle.std.proofs.Common.{◌≡◌, true, map, vec_items, sym, ap, ◌∙◌, arith}
use Rattle.node.specs.declared.state.Taking.TheVariants.{Taken, Deferred, Refused}
use Rattle.link.specs.Ends.{end_of, taking, deferring}
use Rattle.station.specs.State.{state_of, link_at, with_link, acted}
use Rattle.station.proofs.Links.{link_kept, link_changed}
use Rattle.station.proofs.Looks.{seen_past, seen_nothing, seen_head}
use Rattle.station.proofs.work.Work.look.Goals as goal

pub returns-in_default : goal.returns-in_default
returns-in_default c = λ before. sym (seen_past c.args.self.now before c.args.place c.in_default.ensures.item.3)

pub returns-in_default-head : goal.returns-in_default-head
returns-in_default-head c = λ before.
    let w = c.args.self.now in
    let k = c.args.place in
    let x = c.in-Some.link.now in
    let e = c.in-Some.ensures in
    ap (λ v. record { state = record { number = w.station.number; node = w.station.node; links = map end_of v }; refusals = vec_items w.refusals; took = before }) (link_kept (vec_items w.station.links) k x e.value) ∙
    sym (seen_nothing w before k x e.item.3.0 e.value (sym c.in_default-head.is ∙ c.head.ensures))

pub returns-in_ok-act-in-Taken : goal.returns-in_ok-act-in-Taken
returns-in_ok-act-in-Taken c = λ before.
    let w = c.args.self.now in
    let k = c.args.place in
    let e = c.in-Some.ensures in
    ap (λ v. record { state = v; refusals = vec_items w.refusals; took = true })
    (c.in_ok-act-in-Taken.ensures ∙
    ap (λ v. acted c.in-Taken.turn (record { number = w.station.number; node = w.station.node; links = v }))
    (link_changed (vec_items w.station.links) k c.take_head.new.self c.in-Some.link.now taking e.item.3.0 e.value c.take_head.ensures)) ∙
    sym (seen_head w before k c.in-Some.link.now e.item.3.0 e.value c.in-Some-head.message (Taken c.in-Taken.turn) (sym c.in-Some-head.is ∙ c.head.ensures) (sym c.in-Taken.is ∙ c.take.ensures))

pub returns-in-Deferred : goal.returns-in-Deferred
returns-in-Deferred c = λ before.
    let w = c.args.self.now in
    let k = c.args.place in
    let e = c.in-Some.ensures in
    let same = link_kept (vec_items w.station.links) k c.in-Some.link.now e.value in
    let d : state_of c.defer_at.new.self ≡ with_link k (deferring (link_at (state_of w.station) k)) (state_of w.station) = grind (arith, c.defer_at.ensures, same) in
    ap (λ v. record { state = v; refusals = vec_items w.refusals; took = before }) d ∙
    sym (seen_head w before k c.in-Some.link.now e.item.3.0 e.value c.in-Some-head.message (Deferred c.in-Deferred.field-0) (sym c.in-Some-head.is ∙ c.head.ensures) (sym c.in-Deferred.is ∙ c.take.ensures))

pub returns-in_ok-push-in-Refused : goal.returns-in_ok-push-in-Refused
returns-in_ok-push-in-Refused c = λ before.
    let w = c.args.self.now in
    let k = c.args.place in
    let e = c.in-Some.ensures in
    ap (λ v. record { state = record { number = w.station.number; node = w.station.node; links = v }; refusals = vec_items c.push.new.self; took = true })
    (link_changed (vec_items w.station.links) k c.take_head-in-Refused.new.self c.in-Some.link.now taking e.item.3.0 e.value c.take_head-in-Refused.ensures) ∙
    (ap (λ v. record { state = with_link k (taking (link_at (state_of w.station) k)) (state_of w.station); refusals = v; took = true }) c.in_ok-push-in-Refused.ensures.items ∙
    sym (seen_head w before k c.in-Some.link.now e.item.3.0 e.value c.in-Some-head.message (Refused c.in-Refused.field-0 c.in-Refused.refusal) (sym c.in-Some-head.is ∙ c.head.ensures) (sym c.in-Refused.is ∙ c.take.ensures)))
