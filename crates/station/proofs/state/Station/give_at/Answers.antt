-- A link is given the message, if there is one at the place.
use Rattle.std.proofs.Common.{vec_items, sym, refl, ap, ◌∙◌, arith}
use Rattle.std.proofs.lemmas.Result.{MatchResult-weaker}
use Rattle.link.specs.Ends.{giving}
use Rattle.station.specs.State.{state_of, give_at}
use Rattle.station.proofs.Links.{link_changed}
use Rattle.station.proofs.state.Station.give_at.Goals as goal

pub returns : goal.returns
returns c =
    let s = c.args.self.now in
    let e = s.links.ok.0 in
    let f = c.in-Some-get_mut.ensures in
    MatchResult-weaker c.give.result c.give.ensures
    (λ _ h.
    ap (λ v. record { number = s.number; node = s.node; links = v })
    (link_changed (vec_items s.links) c.args.place c.give.new.self c.in-Some-get_mut.link.now (giving c.in-Some.message) (omega (arith, f.variant.0 refl)) f.value h) ∙
    ap (λ o. give_at c.args.place o (state_of s)) (sym c.in-Some.is))
    (λ _ _. tt)
