-- Every node is sound, and every message under way fits.
use Rattle.std.proofs.Common.{◌≡◌, ℕ, suc, ◌<◌, ◌≤◌, Bool, true, false, cond, eqb, ◌⊎◌, List, [], ◌∷◌, ◌++◌, map, length, get_or, Some, None, Option, sym, refl, ap, subst, inl, inr}
use Rattle.node.proofs.Within.{fresh_fit}
use Rattle.std.proofs.lemmas.Bool.Decides.{eqb_tells}
use Rattle.message.specs.declared.messages.Message.{Message}
use Rattle.message.specs.Bytes.{fits}
use Rattle.node.specs.declared.state.Turn.{Turn}
use Rattle.node.specs.Rules.{Sends, wakes}
use Rattle.node.specs.Laws.{Steps, sent_over, Sound}
use Rattle.graph.specs.Graph.{Graph}
use Rattle.protocol.proofs.Events.{queue_has, left_has, off_has}
use Rattle.protocol.proofs.Queues.{Has, has-++}
use Rattle.node.proofs.Fits.{sends_fit}
use Rattle.protocol.specs.Net.{Net, Near, Placed, Step, waking, taking, deferring, Reach, begin, then, neighbour, after, queueing, over, given, start as netStart}
use Rattle.std.proofs.lemmas.List.{length-map, get_or-map}

-- every node is sound, and what is under way fits
pub record Sounds (g : Graph) (n : Net) : Type 0 where
  pub sound : (i : ℕ) → i < g.count → Sound (n.node i)
  pub fit : (a b : ℕ) (x : Message) → Has (n.way a b) x → fits x ≡ true

-- what is in the queue of one message at most is that message
given_has : (c : Bool) (o : Option Message) (x : Message) → Has (cond c (given o) []) x → o ≡ Some x
given_has true None x h = absurd h
given_has true (Some m) x (inl e) = ap Some (sym e)
given_has true (Some m) x (inr h) = absurd h
given_has false o x h = absurd h

-- what goes to a neighbour went out at a place
pub over_has : (near : List ℕ) (s : Sends) (b : ℕ) (x : Message) → Has (over near s b) x → (k : ℕ) × (sent_over s k ≡ Some x)
over_has [] s b x h = absurd h
over_has (a ∷ near) [] b x h = absurd h
over_has (a ∷ near) (o ∷ s) b x h = elim (has-++ (cond (eqb a b) (given o) []) (over near s b) x h) [
  | inl u ↦ (0, given_has (eqb a b) o x u)
  | inr u ↦ let r = over_has near s b x u in (suc r.0, r.1)
]

-- a node has done a turn
module _ (g : Graph) (near : Near) (n : Net) (S : Sounds g n) (i : ℕ) (lt : i < g.count) (t : Turn) (way : ℕ → ℕ → List Message) (steps : Steps (n.node i) t) (was : (a b : ℕ) (x : Message) → Has (way a b) x → Has (n.way a b) x) where
  sounds_after : Sounds g (after near i t way n)
  sounds_after = record { sound = λ a l. sound a l (eqb_tells a i); fit = λ a b x h. fit a b x (eqb_tells a i) h }
    where
      sound : (a : ℕ) → a < g.count → ((eqb a i ≡ true) × (a ≡ i)) ⊎ ((eqb a i ≡ false) × (a ≡ i → ⊥)) → Sound (cond (eqb a i) t.node (n.node a))
      sound a l (inl u) = rw u.0 (sends_fit (n.node i) t steps (S.sound i lt)).0
      sound a l (inr u) = rw u.0 (S.sound a l)

      fit : (a b : ℕ) (x : Message) → ((eqb a i ≡ true) × (a ≡ i)) ⊎ ((eqb a i ≡ false) × (a ≡ i → ⊥)) → Has (cond (eqb a i) (way a b ++ over (near i) t.sends b) (way a b)) x → fits x ≡ true
      fit a b x (inl u) h = elim (has-++ (way a b) (over (near i) t.sends b) x (subst (λ c. Has (cond c (way a b ++ over (near i) t.sends b) (way a b)) x) u.0 h)) [
        | inl v ↦ S.fit a b x (was a b x v)
        | inr v ↦ let r = over_has (near i) t.sends b x v in (sends_fit (n.node i) t steps (S.sound i lt)).1 r.0 x r.1
      ]
      fit a b x (inr u) h = S.fit a b x (was a b x (subst (λ c. Has (cond c (way a b ++ over (near i) t.sends b) (way a b)) x) u.0 h))

-- at first edges weigh something, and nothing is under way
sounds_start : (g : Graph) (near : Near) → Placed g near → Sounds g (netStart g near)
sounds_start g near p = record { sound = λ i lt. (fresh_fit (map (g.weight i) (near i))).1 (λ k l. weigh i lt k (subst (λ v. k < v) (length-map (near i) (g.weight i)) l)); fit = λ a b x h. absurd h }
  where
    weigh : (i : ℕ) → i < g.count → (k : ℕ) → k < length (near i) → 1 ≤ get_or (map (g.weight i) (near i)) k 0
    weigh i lt k l = subst (λ v. 1 ≤ v) (sym (get_or-map (g.weight i) (near i) k 0 0 l)) (p.real i k lt l).2

-- each step keeps them so
sounds_step : {g : Graph} {near : Near} {n m : Net} → Sounds g n → Step g near n m → Sounds g m
sounds_step {g} {near} S (waking n i lt z) = sounds_after g near n S i lt (wakes (n.node i)) n.way (inl refl) (λ a b x h. h)
sounds_step {g} {near} S (taking n i k m rest t lt q e) =
    sounds_after g near n S i lt t (queueing (neighbour near i k) i rest n.way) (inr (k, m, e)) (queue_has (neighbour near i k) i rest n.way (λ y v. left_has (n.way (neighbour near i k) i) rest m y q v))
sounds_step {g} {near} S (deferring n i k m front back lt a q e) =
    record { sound = S.sound; fit = λ c d x h. S.fit c d x (queue_has (neighbour near i k) i (front ++ (m ∷ back)) n.way (off_has front back m n.way (neighbour near i k) i q) c d x h) }

-- so they are in every net that can be reached
pub sounds : (g : Graph) (near : Near) → Placed g near → (n : Net) → Reach g near n → Sounds g n
sounds g near p _ begin = sounds_start g near p
sounds g near p _ (then {n} {m} r s) = sounds_step (sounds g near p n r) s
