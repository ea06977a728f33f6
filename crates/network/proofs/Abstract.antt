-- The net that stations carry, and what becomes of it when one of them changes.
use Rattle.std.proofs.Common.{◌≡◌, ℕ, true, cond, eqb, ltb, List, [], ◌∷◌, ◌++◌, map, sym, ap, inl, inr, append_assoc, arith}
use Rattle.std.proofs.lemmas.Bool.Decides.{eqb_tells}
use Rattle.message.specs.declared.messages.Message.{Message}
use Rattle.message.specs.declared.packets.Packet.{Packet}
use Rattle.node.specs.declared.state.Node.{Node}
use Rattle.node.specs.Rules.{fresh}
use Rattle.link.specs.Ends.{rest}
use Rattle.link.proofs.Edge.{Takes, takes, Settles, settles}
use Rattle.link.proofs.Handed.{still, still_take, still_settle}
use Rattle.graph.specs.Graph.{Graph}
use Rattle.protocol.specs.Net.{Near, Net, queueing}
use Rattle.protocol.proofs.Events.{both}
use Rattle.network.proofs.View.{View, inboxed, came, done, turned}

-- the stations, where i is another
abbrev pub seat : ℕ → View → (ℕ → View) → ℕ → View
seat i v f a =
    record {
      node = cond (eqb a i) v.node (f a).node;
      acknowledged = λ b. cond (eqb a i) (v.acknowledged b) ((f a).acknowledged b);
      outbox = λ b. cond (eqb a i) (v.outbox b) ((f a).outbox b);
      taken = λ b. cond (eqb a i) (v.taken b) ((f a).taken b);
      inbox = λ b. cond (eqb a i) (v.inbox b) ((f a).inbox b);
    }

-- under way from a to b is what waits at b, then what a has still to hand over
abbrev pub way_of : (ℕ → View) → ℕ → ℕ → List Message
way_of f a b = (f b).inbox a ++ still ((f a).acknowledged b) ((f b).taken a) ((f a).outbox b)

-- THE NET of the stations; where there is no station it has a node as made
abbrev pub net_of : Graph → Near → (ℕ → View) → ℕ → Net
net_of g near f c = record { node = λ a. cond (ltb a g.count) (f a).node (fresh (map (g.weight a) (near a))); way = way_of f; count = c }

-- nets are equal if their parts are
pub net_path : {h h' : ℕ → Node} {w w' : ℕ → ℕ → List Message} {c c' : ℕ} → ((a : ℕ) → h a ≡ h' a) → ((a b : ℕ) → w a b ≡ w' a b) → c ≡ c' →
    ◌≡◌ {A = Net} (record { node = h; way = w; count = c }) (record { node = h'; way = w'; count = c' })
net_path p q r = λ i. record { node = λ a. p a i; way = λ a b. q a b i; count = r i }

pub same : (i : ℕ) → eqb i i ≡ true
same i = grind arith

neither : {A : Type 0} (a b i j : ℕ) → ((a ≡ i) × (b ≡ j) → ⊥) → (x y z : A) → cond (eqb a i) (cond (eqb b j) x y) z ≡ cond (eqb a i) y z
neither a b i j h x y z = elim (eqb_tells a i) [ inl u ↦ elim (eqb_tells b j) [ inl k ↦ absurd (h (u.1, k.1)) | inr k ↦ rw (u.0, k.0) ] | inr u ↦ rw u.0 ]

-- what is under way to i, which is v
pub way_in : (f : ℕ → View) (i j : ℕ) (v : View) → way_of (seat i v f) j i ≡ v.inbox j ++ still ((seat i v f j).acknowledged i) (v.taken j) ((seat i v f j).outbox i)
way_in f i j v = rw (same i)

-- a message is put off
pub off_way : (f : ℕ → View) (i j : ℕ) (v : View) (m : Message) (ms back : List Message) → v.inbox j ≡ m ∷ ms → back ≡ still ((seat i v f j).acknowledged i) (v.taken j) ((seat i v f j).outbox i) →
    (a b : ℕ) → queueing j i (ms ++ (m ∷ back)) (way_of (seat i v f)) a b ≡ way_of (seat i (inboxed j (ms ++ (m ∷ [])) v) f) a b
off_way f i j v m ms back q e a b = grind (arith, append_assoc ms (m ∷ []) back)

-- a message is taken, and the node has more to send
pub take_way : (f : ℕ → View) (i j : ℕ) (v : View) (n : Node) (more : ℕ → List Message) (m : Message) (ms back : List Message) →
    v.inbox j ≡ m ∷ ms → back ≡ still ((seat i v f j).acknowledged i) (v.taken j) ((seat i v f j).outbox i) → (a b : ℕ) →
    still ((seat i v f a).acknowledged b) ((seat i v f b).taken a) ((seat i v f a).outbox b ++ more b) ≡ still ((seat i v f a).acknowledged b) ((seat i v f b).taken a) ((seat i v f a).outbox b) ++ more b →
    cond (eqb a i) (queueing j i (ms ++ back) (way_of (seat i v f)) a b ++ more b) (queueing j i (ms ++ back) (way_of (seat i v f)) a b) ≡ way_of (seat i (turned n more (inboxed j ms v)) f) a b
take_way f i j v n more m ms back q e a b k = grind (arith, append_assoc)

-- a node wakes
pub wake_way : (f : ℕ → View) (i : ℕ) (v : View) (n : Node) (more : ℕ → List Message) (a b : ℕ) →
    still ((seat i v f a).acknowledged b) ((seat i v f b).taken a) ((seat i v f a).outbox b ++ more b) ≡ still ((seat i v f a).acknowledged b) ((seat i v f b).taken a) ((seat i v f a).outbox b) ++ more b →
    cond (eqb a i) (way_of (seat i v f) a b ++ more b) (way_of (seat i v f) a b) ≡ way_of (seat i (turned n more v) f) a b
wake_way f i v n more a b k = grind (arith, append_assoc)

-- a message comes: it was still to be handed over, and waits now
still_taken : {acknowledged : ℕ} {outbox : List Message} {taken : ℕ} (p : Packet) → Takes acknowledged outbox taken p true → still acknowledged taken outbox ≡ p.message ∷ still acknowledged p.number outbox
still_taken {acknowledged} {outbox} {taken} p (takes others even n has) = rw has (still_take acknowledged taken p.number p.message others even n)

came_one : (f : ℕ → View) (i j : ℕ) (v : View) (n : ℕ) (m : Message) →
    still ((seat i v f j).acknowledged i) (v.taken j) ((seat i v f j).outbox i) ≡ m ∷ still ((seat i v f j).acknowledged i) n ((seat i v f j).outbox i) →
    (a b : ℕ) → way_of (seat i v f) a b ≡ way_of (seat i (came j n (v.inbox j ++ (m ∷ [])) v) f) a b
came_one f i j v n m e a b = grind (arith, append_assoc)

pub came_way : (f : ℕ → View) (i j : ℕ) (v : View) (p : Packet) → Takes ((seat i v f j).acknowledged i) ((seat i v f j).outbox i) (v.taken j) p true →
    (a b : ℕ) → way_of (seat i v f) a b ≡ way_of (seat i (came j p.number (v.inbox j ++ (p.message ∷ [])) v) f) a b
came_way f i j v p t = came_one f i j v p.number p.message (still_taken p t)

-- an acknowledgement comes: its message was handed over before
still_settled : {acknowledged : ℕ} {outbox : List Message} {taken n : ℕ} → Settles acknowledged outbox taken n true → still n taken (rest outbox) ≡ still acknowledged taken outbox
still_settled {acknowledged} {outbox} {taken} {n} (settles m others q ahead has) = rw has (still_settle acknowledged taken n m others q ahead)

done_one : (f : ℕ → View) (i j : ℕ) (v : View) (n : ℕ) (q : List Message) → still n ((seat i v f j).taken i) q ≡ still (v.acknowledged j) ((seat i v f j).taken i) (v.outbox j) →
    (a b : ℕ) → way_of (seat i v f) a b ≡ way_of (seat i (done j n q v) f) a b
done_one f i j v n q e a b = elim (both a b i j) [
  | inl u ↦ rw (u.0, u.1, same i, same j) (ap (λ x. (seat i v f j).inbox i ++ x) (sym e))
  | inr z ↦ rw (neither a b i j z n (v.acknowledged b) ((f a).acknowledged b), neither a b i j z q (v.outbox b) ((f a).outbox b))
]

pub done_way : (f : ℕ → View) (i j : ℕ) (v : View) (n : ℕ) → Settles (v.acknowledged j) (v.outbox j) ((seat i v f j).taken i) n true →
    (a b : ℕ) → way_of (seat i v f) a b ≡ way_of (seat i (done j n (rest (v.outbox j)) v) f) a b
done_way f i j v n t = done_one f i j v n (rest (v.outbox j)) (still_settled t)
