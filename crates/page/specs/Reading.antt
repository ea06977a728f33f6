-- Reading a page: what its bytes would be is taken from them without a test, written again and compared, so that nothing but a page is accepted.
use Rattle.std.specs.Prelude.{◌≡◌, ℕ, zero, suc, ◌+◌, ◌-◌, ◌*◌, cond, ◌&&◌, ◌||◌, List, [], ◌∷◌, ◌++◌, map, length, take, drop, Some, None, Ok, Err, Option, Result, MatchResult, ◌==◌, nat_lt, slice_index}
use Rattle.std.specs.Borrow.{Bor}
use Rattle.std.specs.Simd.{first_chunks}
use Rattle.std.specs.Str.{bytes_eq}
use Rattle.message.specs.declared.refusals.Refusal.{Refusal}
use Rattle.message.specs.declared.messages.Message.{Message}
use Rattle.message.specs.Bytes.{word_at, message_of}
use Rattle.node.specs.declared.state.Status.{Status}
use Rattle.node.specs.declared.state.Status.TheVariants.{Sleeping, Find, Found}
use Rattle.graph.specs.declared.mark.Mark.{Mark}
use Rattle.graph.specs.declared.mark.Mark.TheVariants.{Basic, Branch, Rejected}
use Rattle.node.specs.declared.state.Best.{Best}
use Rattle.node.specs.declared.state.Best.TheVariants.{Nothing, Over}
use Rattle.node.specs.declared.state.Node.{Node}
use Rattle.link.specs.Ends.{End}
use Rattle.station.specs.State.{State}
use Rattle.page.specs.declared.reasons.Unread.{Unread}
use Rattle.page.specs.declared.reasons.Unread.TheVariants.{Memory, Foreign}
use Rattle.page.specs.Page.{page_bytes, fits}

-- the number that two bytes are, from the i-th on
abbrev pub pair_at : List ℕ → ℕ → ℕ
pair_at bs i = slice_index bs i * 256 + slice_index bs (i + 1)

abbrev pub status_of : ℕ → Status
status_of b = cond (b == 0) Sleeping (cond (b == 1) Find Found)

abbrev pub mark_of : ℕ → Mark
mark_of b = cond (b == 0) Basic (cond (b == 1) Branch Rejected)

abbrev pub place_of : ℕ → Option ℕ
place_of b = cond (b == 0) None (Some (b - 1))

abbrev pub best_of : ℕ → ℕ → Best
best_of b w = cond (b == 0) Nothing (Over (b - 1) w)

-- n numbers of four bytes
unfoldable pub words_of : ℕ → List ℕ → List ℕ
words_of n bs = map (λ w. word_at w 0) (first_chunks 4 n bs)

-- the node that 96 bytes are
unfoldable pub node_of : List ℕ → Node
node_of bs =
    record {
      status = status_of (slice_index bs 0);
      edges = slice_index bs 1;
      level = slice_index bs 2;
      name = word_at bs 3;
      find_count = slice_index bs 7;
      parent = place_of (slice_index bs 8);
      best = best_of (slice_index bs 9) (word_at bs 10);
      testing = place_of (slice_index bs 14);
      halted = (slice_index bs 15 == 1);
      weights = words_of 16 (take 64 (drop 16 bs));
      marks = map mark_of (take 16 (drop 80 bs));
    }

-- what comes of something that may be missing
abbrev pub and_then : {A B : Type 0} → Option A → (A → Option B) → Option B
and_then None f = None
and_then (Some x) f = f x

-- each reading gives what it reads, and the bytes behind
abbrev pub Front : Type 0 → Type 0
Front A = Option (A × List ℕ)

abbrev pub node_front : List ℕ → Front Node
node_front bs = cond (nat_lt (length bs) 96) None (Some (node_of (take 96 bs), drop 96 bs))

-- how many bytes a message of this kind has
abbrev pub size_of : ℕ → ℕ
size_of k = cond (k == 1) 2 (cond (k == 2) 7 (cond (k == 3) 6 (cond (k == 6) 5 1)))

abbrev pub with_rest : Result Message Refusal → List ℕ → Front Message
with_rest (Ok m) bs = Some (m, bs)
with_rest (Err r) bs = None

unfoldable pub message_front : List ℕ → Front Message
message_front bs =
    cond (nat_lt (length bs) 1 || nat_lt (length bs) (size_of (slice_index bs 0))) None
    (with_rest (message_of (take (size_of (slice_index bs 0)) bs)) (drop (size_of (slice_index bs 0)) bs))

-- n of a kind behind those that were read
unfoldable pub fronts : {A : Type 0} → (List ℕ → Front A) → ℕ → List A → List ℕ → Front (List A)
fronts f zero xs bs = Some (xs, bs)
fronts f (suc n) xs bs = and_then (f bs) (λ p. fronts f n (xs ++ (p.0 ∷ [])) p.1)

unfoldable pub queue_front : List ℕ → Front (List Message)
queue_front bs = cond (nat_lt (length bs) 2) None (fronts message_front (pair_at bs 0) [] (drop 2 bs))

abbrev pub end_at : List ℕ → List Message → List Message → End
end_at bs outbox inbox = record { neighbour = pair_at bs 0; acknowledged = word_at bs 2; outbox = outbox; taken = word_at bs 6; inbox = inbox }

unfoldable pub link_front : List ℕ → Front End
link_front bs =
    cond (nat_lt (length bs) 10) None
    (and_then (queue_front (drop 10 bs)) (λ out. and_then (queue_front out.1) (λ inn. Some (end_at bs out.0 inn.0, inn.1))))

-- the state that these bytes would be; what follows its links is left to the comparison
unfoldable pub state_front : List ℕ → Option State
state_front bs =
    cond (nat_lt (length bs) 7) None
    (and_then (node_front (drop 7 bs)) (λ n. and_then (fronts link_front n.0.edges [] n.1) (λ ls. Some (record { number = pair_at bs 5; node = n.0; links = ls.0 }))))

-- it is accepted if it has a page and these bytes are it
abbrev pub if_page : List ℕ → Option State → Option State
if_page bs None = None
if_page bs (Some s) = cond (fits s && bytes_eq (page_bytes s) bs) (Some s) None

-- READING A PAGE: the state whose page these bytes are, or that they are none.
abbrev pub reads_page : List ℕ → Option State
reads_page bs = if_page bs (state_front bs)

-- why there is no station: bytes that are a page may still lack memory
abbrev pub WhyUnread : {A : Type 0} → Unread → Option A → Type 0
WhyUnread Memory o = Unit {0}
WhyUnread Foreign o = o ≡ None

-- what the code read, or why it read nothing
abbrev pub ReadAs : {A B : Type 0} → (A → B) → Result A Unread → Option B → Type 0
ReadAs f r o = MatchResult r (λ x. o ≡ Some (f x)) (λ e. WhyUnread e o)

-- what the code read, with the bytes behind it
abbrev pub viewed : {A : Type 0} → Option (A × Bor (List ℕ)) → Front A
viewed None = None
viewed (Some p) = Some (p.0, p.1.now)
