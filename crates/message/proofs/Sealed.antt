-- A sum behind the bytes is found again, and only behind the bytes that it sums up.
use Rattle.std.proofs.Common.{◌≡◌, ℕ, ◌+◌, ◌-◌, ◌*◌, ◌/◌, ◌%◌, ◌≤◌, true, List, [], ◌∷◌, ◌++◌, length, get_or, take, drop, sym, ap, ◌∙◌, arith, length-append, take-append-drop, drop_of_length-le}
use lib.Seq.{take-append_seam}
use Rattle.std.proofs.lemmas.List.{drop_more, get_or-append-add}
use Rattle.message.specs.Bytes.{checksum_of, sealed, is_sealed}
use Rattle.message.specs.Laws.{Bytes}

module _ (bs : List ℕ) where
  abbrev pub seal : List ℕ
  seal = (checksum_of bs / 256 % 256) ∷ (checksum_of bs % 256) ∷ []

  pub front : take (length (sealed bs) - 2) (sealed bs) ≡ bs
  front =
      let n : length (sealed bs) - 2 ≡ length bs = omega (arith, length-append bs seal) in
      rw n (take-append_seam bs seal)

  pub is_sealed_lem : is_sealed (sealed bs) ≡ true
  is_sealed_lem =
      let n : length (sealed bs) - 2 ≡ length bs + 0 = omega (arith, length-append bs seal) in
      let o : length (sealed bs) - 1 ≡ length bs + 1 = omega (arith, length-append bs seal) in
      let high : get_or (sealed bs) (length (sealed bs) - 2) 0 ≡ checksum_of bs / 256 % 256 = rw n (get_or-append-add bs seal 0 0) in
      let low : get_or (sealed bs) (length (sealed bs) - 1) 0 ≡ checksum_of bs % 256 = rw o (get_or-append-add bs seal 1 0) in
      rw (front, high, low) (grind arith)

  pub sealed_back : Bytes bs → 2 ≤ length bs → is_sealed bs ≡ true → bs ≡ sealed (take (length bs - 2) bs)
  sealed_back h two e =
      let n = length bs - 2 in
      let high = h n (omega arith) in
      let low = h (n + 1) (omega arith) in
      let last : n + 1 ≡ length bs - 1 = omega arith in
      let ends : drop n bs ≡ get_or bs n 0 ∷ get_or bs (n + 1) 0 ∷ [] =
      drop_more bs n 0 (omega arith) ∙ ap (λ r. get_or bs n 0 ∷ r) (drop_more bs (n + 1) 0 (omega arith) ∙ ap (λ r. get_or bs (n + 1) 0 ∷ r) (drop_of_length-le bs {i = n + 1 + 1} (omega arith))) in
      let sums : checksum_of (take n bs) ≡ get_or bs n 0 * 256 + get_or bs (n + 1) 0 = rw last (grind arith) in
      let upper : get_or bs n 0 ≡ checksum_of (take n bs) / 256 % 256 = omega arith in
      let lower : get_or bs (n + 1) 0 ≡ checksum_of (take n bs) % 256 = omega arith in
      sym (take-append-drop n bs) ∙ ap (λ r. take n bs ++ r) (ends ∙ cc)
