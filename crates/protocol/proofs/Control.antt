-- The messages of a queue that are no questions and no answers.
use Rattle.std.proofs.Common.{◌≡◌, ◌⊎◌, List, [], ◌∷◌, ◌++◌, sym, refl, inl, inr, append_assoc, append-nil, arith}
use Rattle.message.specs.declared.messages.Message.{Message}
use Rattle.message.specs.declared.messages.Message.TheVariants.{Connect, Initiate, Test, Accept, Reject, Report, Change}

abbrev pub control1 : Message → List Message
control1 (Connect l) = Connect l ∷ []
control1 (Initiate l f s) = Initiate l f s ∷ []
control1 (Test l f) = []
control1 Accept = []
control1 Reject = []
control1 (Report w) = Report w ∷ []
control1 Change = Change ∷ []

abbrev pub control : List Message → List Message
control [] = []
control (m ∷ q) = control1 m ++ control q

pub control-++ : (p q : List Message) → control (p ++ q) ≡ control p ++ control q
control-++ [] q = refl
control-++ (m ∷ p) q = let ih = control-++ p q in rw ih (sym (append_assoc (control1 m) (control p) (control q)))

-- a message that stands alone among those stays alone wherever it goes; one that is none of them leaves them as they are
pub control_off : (m : Message) (front back : List Message) → (control1 m ≡ []) ⊎ (control (front ++ back) ≡ []) → control (front ++ (m ∷ back)) ≡ control (m ∷ (front ++ back))
control_off m [] back h = refl
control_off m (x ∷ front) back (inl e) = let ih = control_off m front back (inl e) in grind arith
control_off m (x ∷ front) back (inr e) = let k = alone x (front ++ back) e in let ih = control_off m front back (inr k.1) in rw (ih, k.0, k.1, append-nil)
  where
    alone : (x : Message) (q : List Message) → control1 x ++ control q ≡ [] → (control1 x ≡ []) × (control q ≡ [])
    alone x q e = grind arith
