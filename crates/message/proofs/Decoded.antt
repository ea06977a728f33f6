-- Bytes that are decoded to a message are the bytes of that message.
use Rattle.std.proofs.Common.{◌≡◌, ℕ, ◌<◌, ◌≤◌, true, false, eqb, List, [], ◌∷◌, length, Ok, Err, arith, lit<}
use Rattle.message.specs.declared.refusals.Refusal.TheVariants.{Malformed}
use Rattle.message.specs.declared.messages.Message.{Message}
use Rattle.message.specs.Bytes.{message_bytes, message_of, fits}
use Rattle.message.specs.Laws.{MessageDecodedOnly}
use Rattle.message.proofs.Words.{word_back}

abbrev Only : List ℕ → Message → Type 0
Only bs m = message_of bs ≡ Ok m → (bs ≡ message_bytes m) × (fits m ≡ true)

only0 : (m : Message) → Only [] m
only0 m e = grind arith

only1 : (a : ℕ) (m : Message) → Only (a ∷ []) m
only1 a m e = grind arith

only2 : (a b : ℕ) (m : Message) → Only (a ∷ b ∷ []) m
only2 a b m e = grind arith

only5 : (a b c d x : ℕ) (m : Message) → b < 256 → c < 256 → d < 256 → x < 256 → Only (a ∷ b ∷ c ∷ d ∷ x ∷ []) m
only5 a b c d x m p q r s e = let w = word_back b c d x p q r s in grind arith

only6 : (a l b c d x : ℕ) (m : Message) → b < 256 → c < 256 → d < 256 → x < 256 → Only (a ∷ l ∷ b ∷ c ∷ d ∷ x ∷ []) m
only6 a l b c d x m p q r s e = let w = word_back b c d x p q r s in grind arith

only7 : (a l b c d x y : ℕ) (m : Message) → b < 256 → c < 256 → d < 256 → x < 256 → Only (a ∷ l ∷ b ∷ c ∷ d ∷ x ∷ y ∷ []) m
only7 a l b c d x y m p q r s e = let w = word_back b c d x p q r s in grind arith

-- no message has more than seven bytes
too_long : (bs : List ℕ) → 8 ≤ length bs → message_of bs ≡ Err Malformed
too_long bs h =
    let not1 : eqb (length bs) 1 ≡ false = grind arith in
    let not2 : eqb (length bs) 2 ≡ false = grind arith in
    let not5 : eqb (length bs) 5 ≡ false = grind arith in
    let not6 : eqb (length bs) 6 ≡ false = grind arith in
    let not7 : eqb (length bs) 7 ≡ false = grind arith in
    simp (not1, not2, not5, not6, not7)

never_long : (bs : List ℕ) (m : Message) → 8 ≤ length bs → Only bs m
never_long bs m h e = let f = too_long bs h in let z : ◌≡◌ {A = ℕ} 0 1 = cc in absurd (omega arith)

pub decoded_only : MessageDecodedOnly
decoded_only [] m h e = only0 m e
decoded_only (a ∷ []) m h e = only1 a m e
decoded_only (a ∷ b ∷ []) m h e = only2 a b m e
decoded_only (a ∷ b ∷ c ∷ []) m h e = grind arith
decoded_only (a ∷ b ∷ c ∷ d ∷ []) m h e = grind arith
decoded_only (a ∷ b ∷ c ∷ d ∷ x ∷ []) m h e = only5 a b c d x m (h 1 (lit< tt)) (h 2 (lit< tt)) (h 3 (lit< tt)) (h 4 (lit< tt)) e
decoded_only (a ∷ l ∷ b ∷ c ∷ d ∷ x ∷ []) m h e = only6 a l b c d x m (h 2 (lit< tt)) (h 3 (lit< tt)) (h 4 (lit< tt)) (h 5 (lit< tt)) e
decoded_only (a ∷ l ∷ b ∷ c ∷ d ∷ x ∷ y ∷ []) m h e = only7 a l b c d x y m (h 2 (lit< tt)) (h 3 (lit< tt)) (h 4 (lit< tt)) (h 5 (lit< tt)) e
decoded_only (a ∷ l ∷ b ∷ c ∷ d ∷ x ∷ y ∷ z ∷ bs) m h e = never_long (a ∷ l ∷ b ∷ c ∷ d ∷ x ∷ y ∷ z ∷ bs) m (omega arith) e
