-- How many messages a station was ever given, when its links change.
use Rattle.std.proofs.Common.{◌≡◌, ℕ, zero, suc, ◌+◌, ◌≤◌, List, [], ◌∷◌, length, take, Some, None, sum_by, Option, refl, ap, ◌∙◌, arith, length-append}
use native.Mathlib.Decide.{dec_lt}
use Rattle.std.proofs.lemmas.List.{set_past, take_all}
use Rattle.std.proofs.lemmas.List.Sums.{sum_by-set}
use Rattle.message.specs.declared.messages.Message.{Message}
use Rattle.node.specs.declared.state.Turn.{Turn}
use Rattle.node.specs.Rules.{Sends}
use Rattle.node.specs.Laws.{sent_over}
use Rattle.link.specs.Ends.{End, giving}
use Rattle.station.specs.State.{State, no_link, link_in, link_at, with_link, gave_at, gave_below, acted}
use Rattle.station.proofs.Given.{gave_long}
use Rattle.protocol.specs.Net.{given, messages}
use Rattle.network.specs.Theorem.{given_by}

abbrev amount : End → ℕ
amount e = e.acknowledged + length e.outbox

-- a link is replaced by one of the same amount
pub amount_with : (s : State) (k : ℕ) (e : End) → amount e ≡ amount (link_at s k) → given_by (with_link k e s) ≡ given_by s
amount_with s k e h = elim (dec_lt k (length s.links)) [
  | yes l ↦ omega (arith, sum_by-set amount s.links k e no_link l)
  | no l ↦ ap (λ es. sum_by amount es) (set_past s.links k e (omega arith))
]

amount_at : (o : Option Message) (k : ℕ) (es : List End) → (length es ≤ k → o ≡ None) → sum_by amount (gave_at k o es) ≡ sum_by amount es + length (given o)
amount_at None k es h = omega arith
amount_at (Some m) k es h = elim (dec_lt k (length es)) [
  | yes l ↦ omega (arith, sum_by-set amount es k (giving m (link_in es k)) no_link l, length-append (link_in es k).outbox (m ∷ []))
  | no l ↦ let e = h (omega arith) in let z : ◌≡◌ {A = ℕ} 0 1 = cc in absurd (omega arith)
]

messages_more : (s : Sends) (n : ℕ) → messages (take (suc n) s) ≡ messages (take n s) + length (given (sent_over s n))
messages_more [] zero = refl
messages_more [] (suc n) = refl
messages_more (o ∷ s) zero = omega arith
messages_more (o ∷ s) (suc n) = omega (arith, messages_more s n)

amount_below : (s : Sends) (es : List End) (n : ℕ) → ((k : ℕ) → length es ≤ k → sent_over s k ≡ None) → sum_by amount (gave_below s es n) ≡ sum_by amount es + messages (take n s)
unfolding gave_below
amount_below s es zero h = omega arith
amount_below s es (suc n) h =
    omega (arith, amount_at (sent_over s n) n (gave_below s es n) (λ l. h n (let m = gave_long s es n in omega arith)), amount_below s es n h, messages_more s n)

-- A node has done a turn: all that it sends is given to its links.
pub amount_acted : (t : Turn) (s : State) → length t.sends ≤ 16 → ((k : ℕ) → length s.links ≤ k → sent_over t.sends k ≡ None) → given_by (acted t s) ≡ given_by s + messages t.sends
amount_acted t s l h = amount_below t.sends s.links 16 h ∙ ap (λ x. given_by s + messages x) (take_all 16 t.sends l)
