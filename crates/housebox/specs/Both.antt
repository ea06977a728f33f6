-- Two things that may be missing.
use Rattle.std.specs.Prelude.{Some, None, Option}

-- what is made of both, if both are there
abbrev pub both : {A B C : Type 0} → (A → B → C) → Option A → Option B → Option C
both f None b = None
both f (Some x) None = None
both f (Some x) (Some y) = Some (f x y)
