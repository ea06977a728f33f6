-- The links and the weights are looked at in pairs, beside the neighbours.
use Rattle.std.proofs.Common.{◌≡◌, ◌&&◌, List, [], ◌∷◌, map, vec_items, ℕ, refl, ap, ◌∙◌, ◌≤◌, length, sym, arith, rules}
use Rattle.std.specs.List.{list_all, zip}
use Rattle.std.proofs.lemmas.Iterator.{YieldsList-from_slice, YieldsList-from_zip}
use Rattle.std.proofs.lemmas.Iterator.Search.{all_from_yields_List}
use Rattle.std.proofs.lemmas.List.{take_all, length-map}
use Rattle.std.proofs.lemmas.Slice.Zip.{length-zip}
use borrow.Author.Tests.{tests}
use Rattle.graph.specs.declared.edge.Neighbour.{Neighbour}
use Rattle.link.specs.declared.ends.Link.{Link}
use Rattle.link.specs.Ends.{end_of}
use Rattle.station.specs.State.{state_of}
use Rattle.page.specs.Serving.{is_line}
use Rattle.page.proofs.Lines.{is_one, lines_beside}
use Rattle.page.proofs.serving.lines.Goals as goal

-- as it is of links, it is of their ends
of_ends : (ls : List Link) (ws : List ℕ) (ns : List Neighbour) →
    list_all (λ l. is_line (end_of l.0.0) l.0.1 l.1) (zip (zip ls ws) ns) ≡ list_all (λ l. is_line l.0.0 l.0.1 l.1) (zip (zip (map end_of ls) ws) ns)
of_ends [] ws ns = refl
of_ends (l ∷ ls) [] ns = refl
of_ends (l ∷ ls) (w ∷ ws) [] = refl
of_ends (l ∷ ls) (w ∷ ws) (n ∷ ns) = ap (λ b. is_line (end_of l) w n && b) (of_ends ls ws ns)

pub returns : goal.returns
returns c =
    let ls = vec_items c.args.station.now.links in
    let ws = c.args.station.now.node.weights in
    let ns = c.args.neighbours.now in
    let s = state_of c.args.station.now in
    let ends : length (map end_of ls) ≡ length ls = length-map ls end_of in
    let sixteen : length ws ≡ 16 = search rules in
    let n = length ns in
    let pairs = zip (map end_of ls) ws in
    let long : length (zip pairs ns) ≤ n = omega (arith, length-zip pairs ns) in
    let whole = ap (list_all (is_one s ns)) (take_all n (zip pairs ns) long) in
    all_from_yields_List (λ (l : (Link × ℕ) × Neighbour). is_line (end_of l.0.0) l.0.1 l.1) c.all.new.self _ c.all.result c.all.ensures.ran
    (YieldsList-from_zip (YieldsList-from_zip (YieldsList-from_slice ls cc) (YieldsList-from_slice ws cc)) (YieldsList-from_slice ns cc)) (λ x b q k. search (rules, tests)) ∙
    of_ends ls ws ns ∙ sym whole ∙ lines_beside s ns n (omega (arith, ends, c.requires.links)) (omega (arith, sixteen, c.requires.few)) (omega arith)
