-- Numbers line up on every link, whatever a station does.
use Rattle.std.proofs.Common.{◌≡◌, ℕ, ◌≤◌, Bool, true, false, cond, eqb, ◌⊎◌, List, [], ◌++◌, refl, inl, inr, arith}
use Rattle.message.specs.declared.messages.Message.{Message}
use Rattle.message.specs.declared.packets.Packet.{Packet}
use Rattle.node.specs.declared.state.Node.{Node}
use Rattle.link.specs.Ends.{rest}
use Rattle.link.specs.Copper.{Was}
use Rattle.link.proofs.Was.{was_split}
use Rattle.link.proofs.Edge.{Carried, Edge, edge_give, Takes, edge_take, Settles, edge_settle, PacketSent, AnswerSent}
use Rattle.protocol.proofs.Events.{both}
use Rattle.network.proofs.View.{View, came, done, turned}
use Rattle.network.proofs.Abstract.{seat, same}

-- packets a b: all bytes that a ever sent to b; answers a b: all that b ever sent back
abbrev pub History : Type 0
History = ℕ → ℕ → List (List ℕ)

abbrev pub Lined : History → History → (ℕ → View) → Type 0
Lined P A f = (a b : ℕ) → Edge ((f a).acknowledged b) ((f a).outbox b) ((f b).taken a) (P a b) (A a b)

edge_as : {p q : ℕ} {u v : List Message} {k l : ℕ} {ps ks : List (List ℕ)} → p ≡ q → u ≡ v → k ≡ l → Edge q v l ps ks → Edge p u k ps ks
edge_as a b c e = rw (a, b, c) e

-- a node has more to send
give_if : (x : Bool) (p q : ℕ) (u v more : List Message) (k : ℕ) (ps ks : List (List ℕ)) → ((m : Message) → Was m more → Carried m) → Edge (cond x p q) (cond x u v) k ps ks → Edge (cond x p q) (cond x (u ++ more) v) k ps ks
give_if true p q u v more k ps ks c e = edge_give more c e
give_if false p q u v more k ps ks c e = e

module _ (P A : History) (f : ℕ → View) (i : ℕ) (v : View) (l : Lined P A (seat i v f)) where
  pub turned_lined : (n : Node) (more : ℕ → List Message) → ((b : ℕ) (m : Message) → Was m (more b) → Carried m) → Lined P A (seat i (turned n more v) f)
  turned_lined n more c a b =
      give_if (eqb a i) (v.acknowledged b) ((f a).acknowledged b) (v.outbox b) ((f a).outbox b) (more b) ((seat i v f b).taken a) (P a b) (A a b) (c b) (l a b)

  -- the link to i, as i takes and as it hands over
  pub edge_in : (j : ℕ) → Edge ((seat i v f j).acknowledged i) ((seat i v f j).outbox i) (v.taken j) (P j i) (A j i)
  edge_in j = edge_as refl refl (let e = same i in grind arith) (l j i)

  pub edge_out : (j : ℕ) → Edge (v.acknowledged j) (v.outbox j) ((seat i v f j).taken i) (P i j) (A i j)
  edge_out j = edge_as (let e = same i in grind arith) (let e = same i in grind arith) refl (l i j)

  -- the next packet comes from j
  pub came_lined : (j : ℕ) (p : Packet) (q : List Message) → p.number ≤ 4294967295 → Takes ((seat i v f j).acknowledged i) ((seat i v f j).outbox i) (v.taken j) p true → Lined P A (seat i (came j p.number q v) f)
  came_lined j p q small t a b = two (both a b j i)
    where
      here : Edge ((seat i v f j).acknowledged i) ((seat i v f j).outbox i) ((seat i (came j p.number q v) f i).taken j) (P j i) (A j i)
      here = edge_as refl refl (grind arith) (edge_take p small t (edge_in j))

      two : ((a ≡ j) × (b ≡ i)) ⊎ ((a ≡ j) × (b ≡ i) → ⊥) → Edge ((seat i v f a).acknowledged b) ((seat i v f a).outbox b) ((seat i (came j p.number q v) f b).taken a) (P a b) (A a b)
      two (inl (e, k)) = rw (e, k) here
      two (inr z) = edge_as refl refl (grind arith) (l a b)

  -- the acknowledgement that is waited for comes from j
  pub done_lined : (j n : ℕ) → Settles (v.acknowledged j) (v.outbox j) ((seat i v f j).taken i) n true → Lined P A (seat i (done j n (rest (v.outbox j)) v) f)
  done_lined j n t a b = two (both a b i j)
    where
      here : Edge ((seat i (done j n (rest (v.outbox j)) v) f i).acknowledged j) ((seat i (done j n (rest (v.outbox j)) v) f i).outbox j) ((seat i v f j).taken i) (P i j) (A i j)
      here = edge_as (grind arith) (grind arith) refl (edge_settle t (edge_out j))

      two : ((a ≡ i) × (b ≡ j)) ⊎ ((a ≡ i) × (b ≡ j) → ⊥) →
          Edge ((seat i (done j n (rest (v.outbox j)) v) f a).acknowledged b) ((seat i (done j n (rest (v.outbox j)) v) f a).outbox b) ((seat i v f b).taken a) (P a b) (A a b)
      two (inl (e, k)) = rw (e, k) here
      two (inr z) = edge_as (grind arith) (grind arith) refl (l a b)

-- what is sent is what the ends hold: then it may stand in the histories
edge_more : {acknowledged : ℕ} {outbox : List Message} {taken : ℕ} {packets answers : List (List ℕ)} (ps ks : List (List ℕ)) →
    ((bytes : List ℕ) → Was bytes ps → PacketSent acknowledged outbox bytes) → ((bytes : List ℕ) → Was bytes ks → AnswerSent taken bytes) →
    Edge acknowledged outbox taken packets answers → Edge acknowledged outbox taken (packets ++ ps) (answers ++ ks)
edge_more {packets = packets} {answers = answers} ps ks f g e =
    record {
      low = e.low;
      high = e.high;
      small = e.small;
      waits = e.waits;
      carried = e.carried;
      forth = λ b w. elim (was_split packets w) [ inl v ↦ e.forth b v | inr v ↦ f b v ];
      back = λ b w. elim (was_split answers w) [ inl v ↦ e.back b v | inr v ↦ g b v ];
    }

sent_if : (x y : Bool) (p q : ℕ) (u v : List Message) (k l : ℕ) (ps ks qs ls : List (List ℕ)) → ((bytes : List ℕ) → Was bytes qs → PacketSent p u bytes) → ((bytes : List ℕ) → Was bytes ls → AnswerSent k bytes) →
    Edge (cond x p q) (cond x u v) (cond y k l) ps ks → Edge (cond x p q) (cond x u v) (cond y k l) (ps ++ cond x qs []) (ks ++ cond y ls [])
sent_if true true p q u v k l ps ks qs ls f g e = edge_more qs ls f g e
sent_if true false p q u v k l ps ks qs ls f g e = edge_more qs [] f (λ b w. elim w [ ]) e
sent_if false true p q u v k l ps ks qs ls f g e = edge_more [] ls (λ b w. elim w [ ]) g e
sent_if false false p q u v k l ps ks qs ls f g e = edge_more [] [] (λ b w. elim w [ ]) (λ b w. elim w [ ]) e

-- Station i sends: packets b to each b, and acknowledgements a of what came from each a.
pub sent_lined : (P A : History) (f : ℕ → View) (i : ℕ) (v : View) (packets answers : ℕ → List (List ℕ)) → ((b : ℕ) (bytes : List ℕ) → Was bytes (packets b) → PacketSent (v.acknowledged b) (v.outbox b) bytes) →
    ((a : ℕ) (bytes : List ℕ) → Was bytes (answers a) → AnswerSent (v.taken a) bytes) → Lined P A (seat i v f) →
    Lined (λ a b. P a b ++ cond (eqb a i) (packets b) []) (λ a b. A a b ++ cond (eqb b i) (answers a) []) (seat i v f)
sent_lined P A f i v packets answers p q l a b =
    sent_if (eqb a i) (eqb b i) (v.acknowledged b) ((f a).acknowledged b) (v.outbox b) ((f a).outbox b) (v.taken a) ((f b).taken a) (P a b) (A a b) (packets b) (answers a) (p b) (q a) (l a b)
