-- What a node sends goes into the outboxes, place by place.
use Rattle.std.proofs.Common.{◌≡◌, ℕ, zero, suc, ◌+◌, List, length, Some, None, Option, refl, ◌∙◌, add-one}
use Rattle.std.proofs.lemmas.List.{length-set}
use Rattle.message.specs.declared.messages.Message.{Message}
use Rattle.node.specs.Rules.{Sends}
use Rattle.node.specs.Laws.{sent_over}
use Rattle.link.specs.Ends.{End, giving}
use Rattle.station.specs.State.{link_in, gave_at, gave_below}

pub gave_none : (s : Sends) (es : List End) → gave_below s es 0 ≡ es
unfolding gave_below
gave_none s es = refl

pub gave_more_lem : (s : Sends) (es : List End) (k : ℕ) (o : Option Message) → sent_over s k ≡ o → gave_below s es (k + 1) ≡ gave_at k o (gave_below s es k)
unfolding gave_below
gave_more_lem s es k o e = rw (add-one, e)

-- as many links as before
set_long : (o : Option Message) (k : ℕ) (es : List End) → length (gave_at k o es) ≡ length es
set_long None k es = refl
set_long (Some m) k es = length-set es k (giving m (link_in es k))

pub gave_long : (s : Sends) (es : List End) (n : ℕ) → length (gave_below s es n) ≡ length es
unfolding gave_below
gave_long s es zero = refl
gave_long s es (suc n) = set_long (sent_over s n) n (gave_below s es n) ∙ gave_long s es n
