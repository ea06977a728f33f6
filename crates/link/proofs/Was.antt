-- Where something stands in a list that was made of others.
use Rattle.std.proofs.Common.{◌≡◌, ◌⊎◌, List, [], ◌∷◌, ◌++◌, refl, inl, inr}
use Rattle.message.specs.declared.messages.Message.{Message}
use Rattle.link.specs.Ends.{rest}
use Rattle.link.specs.Copper.{Was, first, later}

-- in the one or in the other of two joined lists
pub was_split : {A : Type 0} {x : A} (xs : List A) {ys : List A} → Was x (xs ++ ys) → Was x xs ⊎ Was x ys
was_split [] w = inr w
was_split (y ∷ xs) first = inl first
was_split (y ∷ xs) (later w) = elim (was_split xs w) [ inl v ↦ inl (later v) | inr v ↦ inr v ]

-- what stood there still does when more follow
pub was_more : {A : Type 0} {x : A} {xs : List A} (ys : List A) → Was x xs → Was x (xs ++ ys)
was_more ys first = first
was_more ys (later w) = later (was_more ys w)

-- what was put at the end stands there
pub was_last : {A : Type 0} (x : A) (xs : List A) → Was x (xs ++ (x ∷ []))
was_last x [] = first
was_last x (y ∷ xs) = later (was_last x xs)

-- in a list of one
pub was_one : {A : Type 0} (x y : A) → Was x (y ∷ []) → x ≡ y
was_one _ y first = refl
was_one x y (later w) = elim w [ ]

-- behind the first
pub was_rest : (m : Message) (ms : List Message) → Was m (rest ms) → Was m ms
was_rest m [] w = w
was_rest m (x ∷ ms) w = later w
