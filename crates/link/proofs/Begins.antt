-- A list that another one begins with.
use Rattle.std.proofs.Common.{◌≡◌, ◌≤◌, List, [], ◌∷◌, ◌++◌, length, sym, refl, ap, ◌∙◌, subst, append_assoc, append-nil, arith, length-append}
use Rattle.link.specs.Copper.{Was}
use Rattle.link.proofs.Was.{was_more}

abbrev pub Begins : {A : Type 0} → List A → List A → Type 0
Begins {A} xs ys = (more : List A) × (ys ≡ xs ++ more)

pub begins_itself : {A : Type 0} (xs : List A) → Begins xs xs
begins_itself xs = ([], sym (append-nil xs))

pub begins_through : {A : Type 0} (xs ys zs : List A) → Begins xs ys → Begins ys zs → Begins xs zs
begins_through xs ys zs (more, p) (others, q) = (more ++ others, q ∙ ap (λ l. l ++ others) p ∙ append_assoc xs more others)

-- what stood in the beginning stands in the whole
pub was_begins : {A : Type 0} (x : A) (xs ys : List A) → Begins xs ys → Was x xs → Was x ys
was_begins x xs ys (more, p) w = subst (λ l. Was x l) (sym p) (was_more more w)

-- of two beginnings of one list the shorter begins the longer
pub begins_shorter : {A : Type 0} (xs ys us vs : List A) → xs ++ us ≡ ys ++ vs → length xs ≤ length ys → Begins xs ys
begins_shorter [] ys us vs e le = (ys, refl)
begins_shorter (x ∷ xs) [] us vs e le = absurd (omega arith)
begins_shorter (x ∷ xs) (y ∷ ys) us vs e le = let b = begins_shorter xs ys us vs (cc) (omega arith) in let q = b.1 in (b.0, cc)

-- and one that is as long is the whole
pub begins_all : {A : Type 0} (xs ys : List A) → Begins xs ys → length xs ≡ length ys → ys ≡ xs
begins_all xs ys ([], p) e = p ∙ append-nil xs
begins_all xs ys (m ∷ more, p) e = absurd (omega (arith, ap length p, length-append xs (m ∷ more)))
