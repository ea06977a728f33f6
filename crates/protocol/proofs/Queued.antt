-- Queues are short: beside words to begin, no more than one other word, one question and one answer are under way each way.
use Rattle.std.proofs.Common.{◌≡◌, ℕ, suc, ◌+◌, ◌^◌, ◌<◌, ◌≤◌, Bool, true, false, cond, List, [], ◌∷◌, length, refl, ap, subst, inl, inr, arith, Option}
use Rattle.message.specs.declared.messages.Message.{Message}
use Rattle.message.specs.declared.messages.Message.TheVariants.{Connect, Initiate, Test, Accept, Reject, Report, Change}
use Rattle.message.specs.declared.messages.Phase.{Phase}
use Rattle.node.specs.declared.state.Status.{Status}
use Rattle.graph.specs.Graph.{Graph, Edge, Weights}
use Rattle.protocol.proofs.Books.{inits}
use Rattle.protocol.proofs.Control.{control}
use Rattle.protocol.proofs.Dues.{edge_inits}
use Rattle.protocol.proofs.Events.{lift}
use Rattle.protocol.proofs.Frame.{Lifted}
use Rattle.protocol.proofs.Ghost.{Ghost, View}
use Rattle.protocol.proofs.Held.{Held}
use Rattle.protocol.proofs.Invariant.{Inv}
use Rattle.protocol.proofs.Mode.{tells, Chain, Down, Mode, free, offered, offers, crossing, took, taken, merged, ahead, behind, core, told, above, below}
use Rattle.protocol.proofs.Reaches.{reached}
use Rattle.protocol.proofs.Sizes.{level_bound}
use Rattle.protocol.proofs.Talk.{still, asks, replies, Ask, asking, yes', no', Talk, both, crossed, left}
use Rattle.protocol.specs.Theorems.{ShortQueues}
use Rattle.message.specs.declared.messages.Phase.TheVariants as phase

-- each message is a question, an answer, or neither
parts : (q : List Message) → length q ≡ length (control q) + length (asks q) + length (replies q)
parts [] = refl
parts (Connect l ∷ q) = let ih = parts q in omega arith
parts (Initiate l f s ∷ q) = let ih = parts q in omega arith
parts (Test l f ∷ q) = let ih = parts q in omega arith
parts (Accept ∷ q) = let ih = parts q in omega arith
parts (Reject ∷ q) = let ih = parts q in omega arith
parts (Report w ∷ q) = let ih = parts q in omega arith
parts (Change ∷ q) = let ih = parts q in omega arith

-- a chain has words to begin alone
chain_short : (L F : ℕ) (S : Status) (l f : ℕ) (p : List Message) → Chain L F S l f p → length p ≤ inits p
chain_short L F S l f [] c = omega arith
chain_short L F S l f (Connect k ∷ p) c = absurd c
chain_short L F S l f (Test k n ∷ p) c = absurd c
chain_short L F S l f (Accept ∷ p) c = absurd c
chain_short L F S l f (Reject ∷ p) c = absurd c
chain_short L F S l f (Report r ∷ p) c = absurd c
chain_short L F S l f (Change ∷ p) c = absurd c
chain_short L F S l f (Initiate k n s ∷ p) c = let ih = chain_short L F S k n p c.2 in omega arith

-- down to a child goes at most one old report besides
down_short : (x w L F : ℕ) (S : Status) (h : Held) (e : Bool) (p : List Message) → Down x w L F S h e p → length p ≤ inits p + 1
down_short x w L F S h e [] c = omega arith
down_short x w L F S h e (Connect k ∷ p) c = absurd c
down_short x w L F S h e (Test k n ∷ p) c = absurd c
down_short x w L F S h e (Accept ∷ p) c = absurd c
down_short x w L F S h e (Reject ∷ p) c = absurd c
down_short x w L F S h e (Change ∷ p) c = absurd c
down_short x w L F S h e (Initiate k n z ∷ p) c = let o = chain_short L F S h.level h.name (Initiate k n z ∷ p) c in omega arith
down_short x w L F S h e (Report r ∷ p) c = let o = chain_short L F S h.level h.name p c.1 in omega arith

half_short : (r : Bool) (k n : ℕ) (z : Option ℕ) (s : Phase) → length (Initiate k n s ∷ cond r (Report z ∷ []) []) ≤ inits (Initiate k n s ∷ cond r (Report z ∷ []) []) + 1
half_short true k n z s = omega arith
half_short false k n z s = omega arith

-- in every mode at most one word is under way that is no word to begin
pub mode_short : {x y w : ℕ} {A B : View} {p q : List Message} → Mode x y w A B p q → length p ≤ inits p + 1
mode_short (free v) = rw v.out (omega arith)
mode_short (offered v) = rw v.out (omega arith)
mode_short (offers v) = rw v.back (omega arith)
mode_short (crossing v) = rw v.out (omega arith)
mode_short (took v) = rw v.out (omega arith)
mode_short (taken v) = rw v.back (omega arith)
mode_short (merged v) = rw v.out (omega arith)
mode_short {w = w} {A} (ahead v) = rw v.out (half_short A.own.reported A.held.level w A.held.best_weight phase.Find)
mode_short (behind v) = rw v.back (omega arith)
mode_short (core v) = elim v.out [ inl e ↦ rw e.0 (omega arith) | inr (inl e) ↦ rw e.0 (omega arith) | inr (inr e) ↦ rw e.0 (omega arith) ]
mode_short (tells v) = rw v.out (omega arith)
mode_short (told v) = rw v.back (omega arith)
mode_short {x} {y} {w} {A} {B} {p} (above v) = down_short x w A.held.level A.held.name A.held.status B.held B.own.reported p v.down
mode_short (below v) = elim v.back [ inl e ↦ rw e (omega arith) | inr e ↦ rw e.0 (omega arith) ]

ask_short : {x y : ℕ} {A B : View} {T S : List Message} → Ask x y A B T S → (length T ≤ 1) × (length S ≤ 1)
ask_short (still v) = rw (v.out, v.back) (omega arith, omega arith)
ask_short (asking v) = rw (v.out, v.back) (omega arith, omega arith)
ask_short (yes' v) = rw (v.out, v.back) (omega arith, omega arith)
ask_short (no' v) = rw (v.out, v.back) (omega arith, omega arith)

-- at most one question and one answer are under way each way
pub talk_short : {x y : ℕ} {A B : View} {T S U R : List Message} → Talk x y A B T S U R → (length T ≤ 1) × (length R ≤ 1)
talk_short (both a b) = ((ask_short a).0, (ask_short b).1)
talk_short (crossed v) = rw (v.out, v.said) (omega arith, omega arith)
talk_short (left v) = rw (v.asked, v.back) (omega arith, omega arith)

module _ (t : Graph) (weights : Weights t) (n : Lifted) (γ : Ghost) (I : Inv t n γ) (k : ℕ) (small : t.count < 2 ^ suc k) where
  -- over an edge: words to begin are no more than the levels of a fragment
  edge_short : (a b : ℕ) → Edge t a b → length (n.way a b) ≤ k + 3
  edge_short a b e =
      let c = mode_short (I.edges a b e) in
      let d = talk_short (I.talks a b e) in
      let d0 = d.0 in
      let d1 = d.1 in
      let i = (edge_inits (I.edges a b e) (I.sane b a (e.1, e.0, rw (weights.both b a) e.2)) (I.sane a b e) (λ z. ap γ.fragment z)).0 in
      let l = level_bound t γ I.sizes k small b e.1 in
      let s = parts (n.way a b) in
      omega arith

  -- and where there is no edge nothing is under way
  pub queue_short : (a b : ℕ) → length (n.way a b) ≤ k + 3
  queue_short a b = go (n.way a b) refl
    where
      go : (q : List Message) → n.way a b ≡ q → length q ≤ k + 3
      go [] e = omega arith
      go (m ∷ q) e = subst (λ v. length v ≤ k + 3) e (edge_short a b (I.good.queues a b m (rw e (inl refl))))

pub short_queues : ShortQueues
short_queues g w near p k small n r i j = let b = reached g w near p n r in queue_short g w (lift near n) b.ghost b.inv k small i j
