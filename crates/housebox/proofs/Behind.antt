-- A list that is read piece by piece, where one piece that is none makes the whole none.
use Rattle.std.proofs.Common.{◌≡◌, List, [], ◌∷◌, ◌++◌, Some, None, Option, sym, refl, ap, ◌∙◌, append_assoc, append-nil}
use Rattle.housebox.specs.Both.{both}

-- what is there already, and then the rest
abbrev pub behind : {A : Type 0} → List A → Option (List A) → Option (List A)
behind xs None = None
behind xs (Some ys) = Some (xs ++ ys)

behind_more : {A : Type 0} (xs : List A) (x : A) (o : Option (List A)) → behind xs (both (λ y ys. y ∷ ys) (Some x) o) ≡ behind (xs ++ x ∷ []) o
behind_more xs x None = refl
behind_more xs x (Some ys) = ap (λ z. Some z) (sym (append_assoc xs (x ∷ []) ys))

behind_none : {A : Type 0} (o : Option (List A)) → behind [] o ≡ o
behind_none None = refl
behind_none (Some ys) = refl

-- xs is read of what comes to all, and rest is what is left of it
module _ {A : Type 0} (all : Option (List A)) where
  pub read_start : (rest : Option (List A)) (xs : List A) → rest ≡ all → xs ≡ [] → behind xs rest ≡ all
  read_start rest xs r e = ap (λ z. behind z rest) e ∙ (behind_none rest ∙ r)

  pub read_more : (before rest : Option (List A)) (p : Option A) (x : A) (xs ys : List A) → before ≡ both (λ y ys. y ∷ ys) p rest → Some x ≡ p → ys ≡ xs ++ x ∷ [] → behind xs before ≡ all → behind ys rest ≡ all
  read_more before rest p x xs ys b s e ih =
      ap (λ z. behind z rest) e ∙ (sym (behind_more xs x rest) ∙ (ap (λ o. behind xs (both (λ y ys. y ∷ ys) o rest)) s ∙ (ap (λ o. behind xs o) (sym b) ∙ ih)))

  pub read_none : (before rest : Option (List A)) (p : Option A) (xs : List A) → before ≡ both (λ y ys. y ∷ ys) p rest → None ≡ p → behind xs before ≡ all → None ≡ all
  read_none before rest p xs b s ih = ap (λ o. behind xs (both (λ y ys. y ∷ ys) o rest)) s ∙ (ap (λ o. behind xs o) (sym b) ∙ ih)

  pub read_all : (rest : Option (List A)) (xs : List A) → rest ≡ Some [] → behind xs rest ≡ all → Some xs ≡ all
  read_all rest xs r ih = ap (λ z. Some z) (sym (append-nil xs)) ∙ (ap (λ o. behind xs o) (sym r) ∙ ih)
