-- A node is read from its bytes, whatever follows.
use Rattle.std.proofs.Common.{◌≡◌, ℕ, ◌+◌, ◌-◌, ◌*◌, ◌/◌, ◌%◌, ◌≤◌, Bool, true, false, cond, eqb, List, [], ◌∷◌, ◌++◌, map, length, take, drop, Some, None, Option, sym, refl, ap, ◌∙◌, arith, length-append, rules}
use Rattle.std.specs.List.{flat_map, AllByRecursion as All}
use Rattle.std.proofs.lemmas.List.{take_at, drop_at, take_all, length-map}
use Rattle.std.proofs.lemmas.Bool.{le-ltb}
use Rattle.message.specs.Bytes.{word, weight_or_zero}
use Rattle.message.specs.Laws.{Short, ShortOutgoing}
use Rattle.node.specs.declared.state.Status.{Status}
use Rattle.node.specs.declared.state.Status.TheVariants.{Sleeping, Find, Found}
use Rattle.graph.specs.declared.mark.Mark.{Mark}
use Rattle.graph.specs.declared.mark.Mark.TheVariants.{Basic, Branch, Rejected}
use Rattle.node.specs.declared.state.Best.{Best}
use Rattle.node.specs.declared.state.Best.TheVariants.{Nothing, Over}
use Rattle.node.specs.declared.state.Node.{Node}
use Rattle.node.specs.Rules.{best_weight}
use Rattle.page.specs.Page.{status_byte, mark_byte, place_byte, flag_byte, best_edge, node_bytes}
use Rattle.page.specs.Reading.{status_of, mark_of, place_of, best_of, words_of, node_of, node_front}
use Rattle.page.specs.Laws.{ShortNode}
use Rattle.page.proofs.Places.{words_none, words_more}

status_returns : (s : Status) → status_of (status_byte s) ≡ s
status_returns Sleeping = refl
status_returns Find = refl
status_returns Found = refl

marks_return : (ms : List Mark) → map mark_of (map mark_byte ms) ≡ ms
marks_return [] = refl
marks_return (Basic ∷ ms) = ap (λ r. Basic ∷ r) (marks_return ms)
marks_return (Branch ∷ ms) = ap (λ r. Branch ∷ r) (marks_return ms)
marks_return (Rejected ∷ ms) = ap (λ r. Rejected ∷ r) (marks_return ms)

place_returns : (p : Option ℕ) → place_of (place_byte p) ≡ p
place_returns None = refl
place_returns (Some k) = let n : k + 1 - 1 ≡ k = omega arith in let z : eqb (k + 1) 0 ≡ false = grind arith in rw (z, n)

flag_returns : (b : Bool) → eqb (flag_byte b) 1 ≡ b
flag_returns true = refl
flag_returns false = refl

-- the number that four bytes are
abbrev joins : ℕ → ℕ
joins w = (w / 16777216 % 256) * 16777216 + (w / 65536 % 256) * 65536 + (w / 256 % 256) * 256 + (w % 256)

pub word_returns : (w : ℕ) → Short w → joins w ≡ w
word_returns w h = search rules

best_returns : (b : Best) → ShortOutgoing (best_weight b) → best_of (place_byte (best_edge b)) (joins (weight_or_zero (best_weight b))) ≡ b
best_returns Nothing h = refl
best_returns (Over k w) h =
    let n : k + 1 - 1 ≡ k = omega arith in
    let z : eqb (k + 1) 0 ≡ false = grind arith in
    rw (z, n, word_returns w h)

words_return : (ws : List ℕ) → All Short ws → words_of (length ws) (flat_map word ws) ≡ ws
words_return [] h = words_none []
words_return (w ∷ ws) h =
    let n : length (w ∷ ws) - 1 ≡ length ws = omega arith in
    words_more (length (w ∷ ws)) (flat_map word (w ∷ ws)) (omega arith) ∙ rw (n, word_returns w h.0, words_return ws h.1)

length_words : (ws : List ℕ) → length (flat_map word ws) ≡ 4 * length ws
length_words [] = refl
length_words (w ∷ ws) = let ih = length_words ws in omega arith

module _ (n : Node) (h : ShortNode n) where
  weights : words_of 16 (take 64 (drop 16 (node_bytes n))) ≡ n.weights
  weights =
      let long : length (flat_map word n.weights) ≡ 64 = omega (arith, length_words n.weights, h.3) in
      let part = take_at (flat_map word n.weights) (map mark_byte n.marks) 64 long in
      ap (words_of 16) part ∙ (ap (λ k. words_of k (flat_map word n.weights)) (sym h.3) ∙ words_return n.weights h.2)

  marks : map mark_of (take 16 (drop 80 (node_bytes n))) ≡ n.marks
  marks =
      let long : length (flat_map word n.weights) ≡ 64 = omega (arith, length_words n.weights, h.3) in
      let part = drop_at (flat_map word n.weights) (map mark_byte n.marks) 64 long in
      let all = take_all 16 (map mark_byte n.marks) (omega (arith, length-map n.marks mark_byte, h.4)) in
      ap (λ bs. map mark_of (take 16 bs)) part ∙ (ap (map mark_of) all ∙ marks_return n.marks)

  node_returns : node_of (node_bytes n) ≡ n
  unfolding node_of
  node_returns =
      rw (status_returns n.status, weights, marks, word_returns n.name h.0, place_returns n.parent, best_returns n.best h.1, place_returns n.testing, flag_returns n.halted)

  length_node : length (node_bytes n) ≡ 96
  length_node =
      let long = length_words n.weights in
      let marks = length-map n.marks mark_byte in
      let sum = length-append (flat_map word n.weights) (map mark_byte n.marks) in
      omega (arith, h.3, h.4)

  pub node_front_lem : (rest : List ℕ) → node_front (node_bytes n ++ rest) ≡ Some (n, rest)
  node_front_lem rest =
      let bs = node_bytes n ++ rest in
      let long : 96 ≤ length bs = omega (arith, length_node, length-append (node_bytes n) rest) in
      let far = le-ltb (length bs) 96 long in
      let front = take_at (node_bytes n) rest 96 length_node in
      let back = drop_at (node_bytes n) rest 96 length_node in
      ap (λ b. cond b None (Some (node_of (take 96 bs), drop 96 bs))) far ∙
      (ap (λ x. Some (node_of x, drop 96 bs)) front ∙ (ap (λ x. Some (x, drop 96 bs)) node_returns ∙ ap (λ x. Some (n, x)) back))
