-- Waiting messages are read from their bytes, whatever follows.
use Rattle.std.proofs.Common.{◌≡◌, ℕ, ◌+◌, ◌-◌, ◌*◌, ◌/◌, ◌%◌, ◌<◌, ◌≤◌, true, List, [], ◌∷◌, ◌++◌, length, Some, sym, refl, ap, ◌∙◌, append_assoc, append-nil, arith, length-append}
use Rattle.std.specs.List.{flat_map, AllByRecursion as All, list_all}
use Rattle.std.proofs.lemmas.Bool.{and_parts}
use Rattle.message.specs.declared.messages.Message.{Message}
use Rattle.message.specs.declared.messages.Message.TheVariants.{Connect, Initiate, Test, Accept, Reject, Report, Change}
use Rattle.message.specs.Bytes.{fits, message_bytes}
use Rattle.message.specs.Laws.{ShortMessage}
use Rattle.message.proofs.Carried.{message_returns}
use Rattle.page.specs.Page.{queue_bytes}
use Rattle.page.specs.Reading.{with_rest, message_front, fronts, queue_front}
use Rattle.page.proofs.Fronts.{front_read, fronts_none, fronts_more, queue_read}

module _ (rest : List ℕ) where
  message_front_lem : (m : Message) → ShortMessage m → fits m ≡ true → message_front (message_bytes m ++ rest) ≡ Some (m, rest)
  message_front_lem (Connect l) s f = front_read (message_bytes (Connect l) ++ rest) 2 refl (omega arith) (omega arith) ∙ ap (λ r. with_rest r rest) (message_returns (Connect l) s f)
  message_front_lem (Initiate l n p) s f = front_read (message_bytes (Initiate l n p) ++ rest) 7 refl (omega arith) (omega arith) ∙ ap (λ r. with_rest r rest) (message_returns (Initiate l n p) s f)
  message_front_lem (Test l n) s f = front_read (message_bytes (Test l n) ++ rest) 6 refl (omega arith) (omega arith) ∙ ap (λ r. with_rest r rest) (message_returns (Test l n) s f)
  message_front_lem Accept s f = front_read (message_bytes Accept ++ rest) 1 refl (omega arith) (omega arith) ∙ ap (λ r. with_rest r rest) (message_returns Accept s f)
  message_front_lem Reject s f = front_read (message_bytes Reject ++ rest) 1 refl (omega arith) (omega arith) ∙ ap (λ r. with_rest r rest) (message_returns Reject s f)
  message_front_lem (Report b) s f = front_read (message_bytes (Report b) ++ rest) 5 refl (omega arith) (omega arith) ∙ ap (λ r. with_rest r rest) (message_returns (Report b) s f)
  message_front_lem Change s f = front_read (message_bytes Change ++ rest) 1 refl (omega arith) (omega arith) ∙ ap (λ r. with_rest r rest) (message_returns Change s f)

-- each message has a byte at least
some_byte : (m : Message) → 1 ≤ length (message_bytes m)
some_byte (Connect l) = omega arith
some_byte (Initiate l n p) = omega arith
some_byte (Test l n) = omega arith
some_byte Accept = omega arith
some_byte Reject = omega arith
some_byte (Report b) = omega arith
some_byte Change = omega arith

pub no_more : (ms : List Message) → length ms ≤ length (flat_map message_bytes ms)
no_more [] = omega arith
no_more (m ∷ ms) = let ih = no_more ms in let one = some_byte m in let sum = length-append (message_bytes m) (flat_map message_bytes ms) in omega arith

messages_front_lem : (ms done : List Message) (rest : List ℕ) → All ShortMessage ms → list_all fits ms ≡ true → fronts message_front (length ms) done (flat_map message_bytes ms ++ rest) ≡ Some (done ++ ms, rest)
messages_front_lem [] done rest s f = fronts_none message_front 0 done rest refl ∙ ap (λ ms. Some (ms, rest)) (sym (append-nil done))
messages_front_lem (m ∷ ms) done rest s f =
    let fit = and_parts (fits m) (list_all fits ms) f in
    let split = append_assoc (message_bytes m) (flat_map message_bytes ms) rest in
    let head = ap message_front split ∙ message_front_lem (flat_map message_bytes ms ++ rest) m s.0 fit.0 in
    let step = fronts_more message_front (length (m ∷ ms)) done (flat_map message_bytes (m ∷ ms) ++ rest) (m, flat_map message_bytes ms ++ rest) (omega arith) head in
    let count : length (m ∷ ms) - 1 ≡ length ms = omega arith in
    let ih = messages_front_lem ms (done ++ (m ∷ [])) rest s.1 fit.1 in
    let join = append_assoc done (m ∷ []) ms in
    step ∙ (ap (λ n. fronts message_front n (done ++ (m ∷ [])) (flat_map message_bytes ms ++ rest)) count ∙ (ih ∙ ap (λ ms. Some (ms, rest)) join))

pub pair_returns : (n : ℕ) → n < 65536 → (n / 256 % 256) * 256 + (n % 256) ≡ n
pair_returns n h = omega arith

pub queue_front_lem : (ms : List Message) (rest : List ℕ) → length ms < 65536 → All ShortMessage ms → list_all fits ms ≡ true → queue_front (queue_bytes ms ++ rest) ≡ Some (ms, rest)
queue_front_lem ms rest h s f =
    queue_read (queue_bytes ms ++ rest) (length ms) (flat_map message_bytes ms ++ rest) (sym (pair_returns (length ms) h)) refl (omega arith) ∙ messages_front_lem ms [] rest s f
