-- Parts that are written one behind the other.
use Rattle.std.proofs.Common.{◌≡◌, true, List, [], ◌∷◌, refl}
use Rattle.std.specs.List.{list_all}
use Rattle.std.proofs.lemmas.List.{length-map}
use Rattle.std.proofs.lemmas.List.Concat.{flat_map_single}
use Rattle.std.proofs.lemmas.List.Folds.{flat_map-map, list_all-map}

-- what always fits
pub always : {X : Type 0} (xs : List X) → list_all (λ _. true) xs ≡ true
always [] = refl
always (x ∷ xs) = always xs

-- what a list of parts comes to
pub ruleset parts = (always, flat_map_single, flat_map-map, list_all-map, length-map)
