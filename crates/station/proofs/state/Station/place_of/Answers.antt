-- The links that are passed over are the ends that are.
use Rattle.std.proofs.Common.{◌≡◌, ℕ, eqb, List, [], ◌∷◌, map, vec_items, sym, refl, ◌∙◌, rules, tests}
use Rattle.std.specs.List.{position, position_or_len}
use Rattle.std.proofs.lemmas.List.{length-map}
use Rattle.std.proofs.lemmas.Iterator.{YieldsList-from_slice}
use Rattle.std.proofs.lemmas.Iterator.Search.{position_from_yields_List}
use Rattle.link.specs.declared.ends.Link.{Link}
use Rattle.link.specs.Ends.{end_of}
use Rattle.station.specs.State.{passed, place_of}
use Rattle.station.proofs.state.Station.place_of.Goals as goal

passed_ends : (ls : List Link) (j : ℕ) → passed (map end_of ls) j ≡ position_or_len (λ l. eqb l.neighbour j) ls
passed_ends [] j = refl
passed_ends (l ∷ ls) j = rw (passed_ends ls j) refl

found : (ls : List Link) (j : ℕ) → place_of (map end_of ls) j ≡ position (λ l. eqb l.neighbour j) ls
found ls j = rw (passed_ends ls j, length-map ls end_of) refl

pub returns : goal.returns
returns c =
    let ls = vec_items c.args.self.now.links in
    let j = c.args.neighbour in
    position_from_yields_List (λ l. eqb l.neighbour j) _ _ _ c.position.ensures.ran (YieldsList-from_slice ls (cc)) (λ x b q k. search (rules, tests)) ∙ sym (found ls j)
