-- Four bytes are the bytes of the number that they are.
use Rattle.std.proofs.Common.{◌≡◌, ℕ, ◌+◌, ◌*◌, ◌/◌, ◌%◌, ◌<◌, [], ◌∷◌, arith}
use Rattle.message.specs.Bytes.{word}

pub word_back : (a b c d : ℕ) → a < 256 → b < 256 → c < 256 → d < 256 → word (a * 16777216 + b * 65536 + c * 256 + d) ≡ a ∷ b ∷ c ∷ d ∷ []
word_back a b c d p q r s =
    let w : a / 1 ≡ a = omega arith in
    let x : (a * 16777216 + b * 65536 + c * 256 + d) / 16777216 % 256 ≡ a = omega arith in
    let y : (a * 16777216 + b * 65536 + c * 256 + d) / 65536 % 256 ≡ b = omega arith in
    let z : (a * 16777216 + b * 65536 + c * 256 + d) / 256 % 256 ≡ c = omega arith in
    let v : (a * 16777216 + b * 65536 + c * 256 + d) % 256 ≡ d = omega arith in
    cc
