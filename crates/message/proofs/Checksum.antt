-- Adding bytes one at a time and cutting each time to 16 bits gives what one cut at the end does.
use Rattle.std.proofs.Common.{◌≡◌, ℕ, ◌+◌, ◌%◌, List, [], ◌∷◌, sum, ◌∙◌, arith}
use Rattle.std.specs.List.{fold}
use Rattle.std.proofs.lemmas.List.Sums.{sum_by-cons}

pub adding : (s : ℕ) (bs : List ℕ) → fold (λ s b. (s + b) % 65536) (s % 65536) bs ≡ (s + sum bs) % 65536
adding s [] = omega arith
adding s (b ∷ bs) =
    let step : (s % 65536 + b) % 65536 ≡ (s + b) % 65536 = omega arith in
    let next : (s + b + sum bs) % 65536 ≡ (s + sum (b ∷ bs)) % 65536 = omega (arith, sum_by-cons (λ x. x) b bs) in
    rw step (adding (s + b) bs ∙ next)
