-- The copy wakes, and sends.
use Rattle.std.proofs.Common.{vec_items, ap, ◌∙◌, rules}
use Rattle.station.specs.State.{state_of, woken}
use Rattle.station.specs.Events.{each}
use Rattle.station.proofs.Happened.{woke_did}
use Rattle.station.proofs.state.Station.wake.Goals as goal

pub returns : goal.returns
returns c =
    woke_did (state_of c.args.self.now) (state_of c.rouse.new.self) (vec_items c.new-sends.result) (vec_items c.push_picked.new.sends) (vec_items c.new.result)
    (c.in_ok-rouse.ensures ∙ ap woken c.in_ok-station.ensures.cases) c.new-sends.ensures.items (c.in_ok-push_picked.ensures each (λ k b h. search rules)) c.new.ensures.items
