-- What holds of all pairs of a link and a weight beside the neighbours holds place by place.
use Rattle.std.proofs.Common.{◌≡◌, ℕ, zero, suc, ◌≤◌, ◌&&◌, Bool, List, length, get_or, take, ap, ◌∙◌, refl, add-one, arith}
use Rattle.std.specs.List.{list_all, zip}
use Rattle.std.proofs.lemmas.List.Folds.{list_all_more}
use Rattle.std.proofs.lemmas.Slice.Zip.{get_or-zip, length-zip}
use Rattle.graph.specs.declared.edge.Neighbour.{Neighbour}
use Rattle.link.specs.Ends.{End}
use Rattle.station.specs.State.{State, no_link}
use Rattle.station.specs.Making.{nobody}
use Rattle.page.specs.Serving.{is_line, lines_below}

module _ (s : State) (ns : List Neighbour) where
  abbrev pub beside : List ((End × ℕ) × Neighbour)
  beside = zip (zip s.links s.node.weights) ns

  abbrev pub is_one : (End × ℕ) × Neighbour → Bool
  is_one l = is_line l.0.0 l.0.1 l.1

  abbrev none : (End × ℕ) × Neighbour
  none = ((no_link, 0), nobody)

  pub lines_beside : (k : ℕ) → k ≤ length s.links → k ≤ length s.node.weights → k ≤ length ns → list_all is_one (take k beside) ≡ lines_below s ns k
  unfolding lines_below
  lines_beside zero l w n = refl
  lines_beside (suc k) l w n =
      let pairs = zip s.links s.node.weights in
      let two = length-zip s.links s.node.weights in
      let all = length-zip pairs ns in
      let more = list_all_more is_one beside k none (omega (arith, two, all)) in
      let at = get_or-zip pairs ns k none (omega (arith, two)) (omega arith) in
      let of = get_or-zip s.links s.node.weights k none.0 (omega arith) (omega arith) in
      let before = lines_beside k (omega arith) (omega arith) (omega arith) in
      rw add-one at more ∙ ap (λ b. b && is_one (get_or beside k none)) before ∙ ap (λ o. lines_below s ns k && is_one o) (at ∙ ap (λ o. (o, get_or ns k nobody)) of)
