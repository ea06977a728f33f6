-- Messages in a queue.
use Rattle.std.proofs.Common.{◌≡◌, ◌⊎◌, List, [], ◌∷◌, ◌++◌, inl, inr}
use Rattle.message.specs.declared.messages.Message.{Message}

-- a message is in a queue
abbrev pub Has : List Message → Message → Type 0
Has [] x = ⊥
Has (y ∷ q) x = (x ≡ y) ⊎ Has q x

pub has-++ : (p q : List Message) (x : Message) → Has (p ++ q) x → Has p x ⊎ Has q x
has-++ [] q x h = inr h
has-++ (y ∷ p) q x (inl e) = inl (inl e)
has-++ (y ∷ p) q x (inr h) = elim (has-++ p q x h) [ inl a ↦ inl (inr a) | inr b ↦ inr b ]

pub has_l : (p q : List Message) (x : Message) → Has p x → Has (p ++ q) x
has_l [] q x h = elim h [ ]
has_l (y ∷ p) q x (inl e) = inl e
has_l (y ∷ p) q x (inr h) = inr (has_l p q x h)

pub has_off : (front back : List Message) (m x : Message) → Has (front ++ (m ∷ back)) x → Has (m ∷ (front ++ back)) x
has_off [] back m x h = h
has_off (y ∷ front) back m x (inl e) = inr (inl e)
has_off (y ∷ front) back m x (inr h) = elim (has_off front back m x h) [ inl e ↦ inl e | inr k ↦ inr (inr k) ]
