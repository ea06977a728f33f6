-- The neighbours of the words that are left.
use Rattle.std.proofs.Common.{◌≡◌, ℕ, ◌+◌, ◌<◌, ◌≤◌, List, [], ◌∷◌, map, length, get_or, drop, Some, sym, ap, ◌∙◌}
use Rattle.std.proofs.lemmas.List.{drop_more, drop_all}
use Rattle.housebox.specs.Both.{both}
use Rattle.housebox.specs.Arguments.{neighbour_of, neighbours_of}

module _ {X : Type 0} (f : X → List ℕ) (ws : List X) where
  pub next_word : (i : ℕ) (w : X) → i < length ws → w ≡ get_or ws i w → neighbours_of (map f (drop i ws)) ≡ both (λ n ns. n ∷ ns) (neighbour_of (f w)) (neighbours_of (map f (drop (i + 1) ws)))
  unfolding neighbours_of
  next_word i w h e = ap (λ z. neighbours_of (map f z)) (drop_more ws i w h) ∙ ap (λ z. both (λ n ns. n ∷ ns) (neighbour_of (f z)) (neighbours_of (map f (drop (i + 1) ws)))) (sym e)

  pub no_word : (i : ℕ) → length ws ≤ i → neighbours_of (map f (drop i ws)) ≡ Some []
  unfolding neighbours_of
  no_word i h = ap (λ z. neighbours_of (map f z)) (drop_all i ws h)
