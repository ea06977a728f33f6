-- A message in one part of a queue is under way; what a queue without words to begin is like.
use Rattle.std.proofs.Common.{◌≡◌, ℕ, false, List, [], ◌∷◌, sym, refl, subst, inl, inr, arith}
use Rattle.message.specs.declared.messages.Message.{Message}
use Rattle.message.specs.declared.messages.Message.TheVariants.{Connect, Initiate, Test, Accept, Reject, Report, Change}
use Rattle.message.specs.declared.messages.Phase.{Phase}
use Rattle.protocol.proofs.Control.{control1, control}
use Rattle.protocol.proofs.Mode.{busy}
use Rattle.protocol.proofs.Queues.{Has, has-++}
use Rattle.protocol.proofs.Talk.{asks1, replies1, asks, replies}

one_control : (k m : Message) → Has (control1 k) m → m ≡ k
one_control (Connect l) m h = grind arith
one_control (Initiate l f s) m h = grind arith
one_control (Test l f) m h = grind arith
one_control Accept m h = grind arith
one_control Reject m h = grind arith
one_control (Report w) m h = grind arith
one_control Change m h = grind arith

-- no question and no answer
pub has_control : (q : List Message) (m : Message) → Has (control q) m → Has q m
has_control [] m h = h
has_control (k ∷ q) m h = elim (has-++ (control1 k) (control q) m h) [ inl a ↦ inl (one_control k m a) | inr b ↦ inr (has_control q m b) ]

one_asks : (k m : Message) → Has (asks1 k) m → m ≡ k
one_asks (Connect l) m h = grind arith
one_asks (Initiate l f s) m h = grind arith
one_asks (Test l f) m h = grind arith
one_asks Accept m h = grind arith
one_asks Reject m h = grind arith
one_asks (Report w) m h = grind arith
one_asks Change m h = grind arith

-- a question
pub has_asks : (q : List Message) (m : Message) → Has (asks q) m → Has q m
has_asks [] m h = h
has_asks (k ∷ q) m h = elim (has-++ (asks1 k) (asks q) m h) [ inl a ↦ inl (one_asks k m a) | inr b ↦ inr (has_asks q m b) ]

one_replies : (k m : Message) → Has (replies1 k) m → m ≡ k
one_replies (Connect l) m h = grind arith
one_replies (Initiate l f s) m h = grind arith
one_replies (Test l f) m h = grind arith
one_replies Accept m h = grind arith
one_replies Reject m h = grind arith
one_replies (Report w) m h = grind arith
one_replies Change m h = grind arith

-- an answer
pub has_replies : (q : List Message) (m : Message) → Has (replies q) m → Has q m
has_replies [] m h = h
has_replies (k ∷ q) m h = elim (has-++ (replies1 k) (replies q) m h) [ inl a ↦ inl (one_replies k m a) | inr b ↦ inr (has_replies q m b) ]

-- neither a word to begin nor one to change is under way
pub record Calm (p : List Message) : Type 0 where
  pub begins : (l f : ℕ) (s : Phase) → Has p (Initiate l f s) → ⊥
  pub changes : Has p Change → ⊥

pub begins_not : {l f : ℕ} {s : Phase} {p r : List Message} → Calm p → p ≡ Initiate l f s ∷ r → ⊥
begins_not {l} {f} {s} c e = c.begins l f s (subst (λ z. Has z (Initiate l f s)) (sym e) (inl refl))

pub begins_next : {l f : ℕ} {s : Phase} {m : Message} {p r : List Message} → Calm p → p ≡ m ∷ (Initiate l f s ∷ r) → ⊥
begins_next {l} {f} {s} c e = c.begins l f s (subst (λ z. Has z (Initiate l f s)) (sym e) (inr (inl refl)))

pub changes_not : {p r : List Message} → Calm p → p ≡ Change ∷ r → ⊥
changes_not c e = c.changes (subst (λ z. Has z Change) (sym e) (inl refl))

pub not_busy : (p : List Message) → ((l f : ℕ) (s : Phase) → Has p (Initiate l f s) → ⊥) → busy p ≡ false
not_busy [] n = refl
not_busy (Connect l ∷ p) n = not_busy p (λ k g z h. n k g z (inr h))
not_busy (Initiate l f s ∷ p) n = absurd (n l f s (inl refl))
not_busy (Test l f ∷ p) n = not_busy p (λ k g z h. n k g z (inr h))
not_busy (Accept ∷ p) n = not_busy p (λ k g z h. n k g z (inr h))
not_busy (Reject ∷ p) n = not_busy p (λ k g z h. n k g z (inr h))
not_busy (Report w ∷ p) n = not_busy p (λ k g z h. n k g z (inr h))
not_busy (Change ∷ p) n = not_busy p (λ k g z h. n k g z (inr h))
