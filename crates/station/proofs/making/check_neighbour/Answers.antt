-- What is left to the two looks at those before.
use Rattle.std.proofs.Common.{◌≡◌, ℕ, ◌<◌, ◌≤◌, false, cond, eqb, List, Some, None, sym, ap, ◌∙◌, rules, tests, arith}
use Rattle.std.proofs.lemmas.Iterator.{YieldsList-from_slice}
use Rattle.std.proofs.lemmas.Iterator.Search.{any_from_yields_List}
use Rattle.graph.specs.declared.edge.Neighbour.{Neighbour}
use Rattle.graph.specs.declared.fault.Fault.TheVariants.{WeightTwice}
use Rattle.station.specs.Making.{is_among, weighs_among, neighbour_fault}
use Rattle.station.proofs.making.check_neighbour.Goals as goal

last : (i : ℕ) (earlier : List Neighbour) (n : Neighbour) → n.node < 256 → (n.node ≡ i → ⊥) → 1 ≤ n.weight → n.weight ≤ 1000000 → is_among earlier n.node ≡ false →
    neighbour_fault i earlier n ≡ cond (weighs_among earlier n.weight) (Some WeightTwice) None
last i earlier n a b c d e = grind arith

pub returns-then-any-2 : goal.returns-then-any-2
returns-then-any-2 c =
    let n = c.args.neighbour in
    let es = c.args.earlier.now in
    let e = any_from_yields_List (λ o. eqb o.node n.node) _ _ _ c.any.ensures.ran (YieldsList-from_slice es (cc)) (λ x b q k. search (rules, tests)) in
    let w = any_from_yields_List (λ o. eqb o.weight n.weight) _ _ _ c.any-2.ensures.ran (YieldsList-from_slice es (cc)) (λ x b q k. search (rules, tests)) in
    let f = c.new.ensures in
    let r = rw (c.if-not-contains.false, f.start, f.end) at c.contains.ensures.cases in
    sym (last c.args.number es n c.if-neighbour-ge256.false c.if-neighbour-number.false (search (rules, tests)) (search (rules, tests)) (sym e ∙ c.if-any.false) ∙
    ap (λ b. cond b (Some WeightTwice) None) (sym w ∙ c.if-any-2.true))

pub returns : goal.returns
returns c =
    let n = c.args.neighbour in
    let es = c.args.earlier.now in
    let e = any_from_yields_List (λ o. eqb o.node n.node) _ _ _ c.any.ensures.ran (YieldsList-from_slice es (cc)) (λ x b q k. search (rules, tests)) in
    let w = any_from_yields_List (λ o. eqb o.weight n.weight) _ _ _ c.any-2.ensures.ran (YieldsList-from_slice es (cc)) (λ x b q k. search (rules, tests)) in
    let f = c.new.ensures in
    let r = rw (c.if-not-contains.false, f.start, f.end) at c.contains.ensures.cases in
    sym (last c.args.number es n c.if-neighbour-ge256.false c.if-neighbour-number.false (search (rules, tests)) (search (rules, tests)) (sym e ∙ c.if-any.false) ∙
    ap (λ b. cond b (Some WeightTwice) None) (sym w ∙ c.if-any-2.false))
