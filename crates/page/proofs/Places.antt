-- Numbers of four bytes, one behind the other.
use Rattle.std.proofs.Common.{◌≡◌, ℕ, zero, suc, ◌+◌, get_or, ◌-◌, ◌/◌, ◌<◌, List, [], ◌∷◌, map, length, take, drop, refl, sym, ap, ◌∙◌, subst, arith}
use Rattle.std.specs.Simd.{first_chunks}
use Rattle.std.specs.Fn.{Called, Mut}
use Rattle.std.specs.Array.{IsFromFnResult, IsFromFnResultFrom}
use Rattle.message.specs.Bytes.{word_at}
use Rattle.page.specs.Reading.{words_of}

pub words_none : (bs : List ℕ) → words_of 0 bs ≡ []
unfolding words_of
words_none bs = refl

pub words_more : (n : ℕ) (bs : List ℕ) → 0 < n → words_of n bs ≡ word_at (take 4 bs) 0 ∷ words_of (n - 1) (drop 4 bs)
unfolding words_of
words_more zero bs h = absurd (omega arith)
words_more (suc n) bs h = let s : suc n - 1 ≡ n = omega arith in rw s

pub words_are : (words : List (List ℕ)) (bs : List ℕ) → words ≡ first_chunks 4 (length bs / 4) bs → length bs ≡ 64 → map (λ w. word_at w 0) words ≡ words_of 16 bs
unfolding words_of
words_are words bs e h =
    let n : length bs / 4 ≡ 16 = ap (λ k. k / 4) h in
    ap (map (λ w. word_at w 0)) (e ∙ ap (λ k. first_chunks 4 k bs) n)

module _ {F B : Type 0} {g : Mut F (ℕ × Unit {0}) B} (S : F → Type 0) (R : ℕ → B → Type 0) (step : (f q : F) (i : ℕ) (y : B) → S f → Called g f (i, tt) y q → S q × R i y) where
  from_fn_each : (n i j k : ℕ) (f : F) (ys : List B) (d : B) → S f → IsFromFnResultFrom g f ys i n → k < n → i + k ≡ j → R j (get_or ys j d)
  from_fn_each zero i j k f ys d s made h e = absurd (omega arith)
  from_fn_each (suc n) i j zero f ys d s made h e =
      let here : i ≡ j = omega arith in
      let first = subst (R i) (sym (made.2.1 d)) (step f made.0 i made.1 s made.3).1 in
      subst (λ x. R x (get_or ys x d)) here first
  from_fn_each (suc n) i j (suc k) f ys d s made h e = from_fn_each n (i + 1) j k made.0 ys d (step f made.0 i made.1 s made.3).0 made.4 (omega arith) (omega arith)

  -- what each call of a closure gave that keeps what it captures
  pub from_fn_at : (n : ℕ) (f : F) (ys : List B) → IsFromFnResult g f ys n → S f → (k : ℕ) (d : B) → k < n → R k (get_or ys k d)
  from_fn_at n f ys made s k d h = from_fn_each n 0 k k f ys d s made.each h (omega arith)
