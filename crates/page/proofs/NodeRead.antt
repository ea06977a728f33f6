-- A node is read from its three parts.
use Rattle.std.proofs.Common.{◌≡◌, ℕ, ◌+◌, ◌≤◌, false, eqb, ltb, List, map, length, get_or, take, drop, Some, sym, ap, ◌∙◌, arith}
use Rattle.std.proofs.lemmas.Bool.{le-ltb}
use Rattle.std.proofs.lemmas.List.{get_or-take, get_or-drop, drop-take, take-take, drop-drop}
use Rattle.message.specs.Bytes.{word_at}
use Rattle.page.specs.Reading.{status_of, mark_of, place_of, best_of, words_of, node_of, node_front}

-- the weights and the marks do not reach beyond 96 bytes
inner_weights : (bs : List ℕ) → take 64 (drop 16 (take 96 bs)) ≡ take 64 (drop 16 bs)
inner_weights bs = ap (take 64) (drop-take 16 80 bs) ∙ take-take 64 80 (drop 16 bs) (omega arith)

inner_marks : (bs : List ℕ) → take 16 (drop 80 (take 96 bs)) ≡ take 16 (drop 80 bs)
inner_marks bs = ap (take 16) (drop-take 80 16 bs) ∙ take-take 16 16 (drop 80 bs) (omega arith)

pub node_read : (bs mid ws r ms rest : List ℕ) → mid ≡ drop 8 bs → ws ≡ take 64 (drop 16 bs) → r ≡ drop 64 (drop 16 bs) → ms ≡ take 16 r → rest ≡ drop 16 r → 96 ≤ length bs →
    node_front bs ≡
    Some (
      record {
        status = status_of (get_or bs 0 0);
        edges = get_or bs 1 0;
        level = get_or bs 2 0;
        name = word_at bs 3;
        find_count = get_or bs 7 0;
        parent = place_of (get_or mid 0 0);
        best = best_of (get_or mid 1 0) (word_at mid 2);
        testing = place_of (get_or mid 6 0);
        halted = eqb (get_or mid 7 0) 1;
        weights = words_of 16 ws;
        marks = map mark_of ms;
      },
      rest,
    )
unfolding node_of
node_read bs mid ws r ms rest m e f g h long =
    let at : (i : ℕ) → i + 1 ≤ 96 → get_or (take 96 bs) i 0 ≡ get_or bs i 0 = λ i l. get_or-take 96 bs i 0 (omega arith) in
    let past : (i k : ℕ) → i ≡ 8 + k → i + 1 ≤ 96 → get_or (take 96 bs) i 0 ≡ get_or mid k 0 = λ i k p l. at i l ∙ (ap (λ j. get_or bs j 0) p ∙ (sym (get_or-drop 8 bs k 0) ∙ ap (λ xs. get_or xs k 0) (sym m))) in
    let far : ltb (length bs) 96 ≡ false = le-ltb (length bs) 96 long in
    let back : drop 96 bs ≡ rest = sym (h ∙ ap (drop 16) (f ∙ drop-drop 64 16 bs) ∙ drop-drop 16 80 bs) in
    let marks : take 16 (drop 80 (take 96 bs)) ≡ ms = inner_marks bs ∙ sym (g ∙ ap (take 16) (f ∙ drop-drop 64 16 bs)) in
    let weights : take 64 (drop 16 (take 96 bs)) ≡ ws = inner_weights bs ∙ sym e in
    rw (far, back, marks, weights, at 0 (omega arith), at 1 (omega arith), at 2 (omega arith), at 3 (omega arith), at 4 (omega arith), at 5 (omega arith), at 6 (omega arith), at 7 (omega arith), past 8 0 (omega arith) (omega arith), past 9 1 (omega arith) (omega arith), past 10 2 (omega arith) (omega arith), past 11 3 (omega arith) (omega arith), past 12 4 (omega arith) (omega arith), past 13 5 (omega arith) (omega arith), past 14 6 (omega arith) (omega arith), past 15 7 (omega arith) (omega arith))
