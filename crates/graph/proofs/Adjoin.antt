-- The neighbours that stand beside a list of edges, after one edge more.
use Rattle.std.proofs.Common.{◌≡◌, ℕ, List, [], ◌∷◌, ◌++◌, length, get_or, replicate, sym, refl, ap, ◌∙◌, inl, inr, arith}
use Rattle.std.specs.List.{AllZip}
use Rattle.std.proofs.lemmas.List.{append-nil, length-replicate, get_or-replicate, nil_from_length}
use Rattle.std.proofs.lemmas.List.Elements.{length_all_zip}
use Rattle.std.proofs.lemmas.Bool.{cases_eq, eq-eqb, ne_eqb}
use Rattle.arrayvec.specs.ArrayVec.{ArrayVec}
use Rattle.graph.specs.Edges.{seen_from, neighbours_of, alone, Beside}
use Rattle.graph.specs.Build.{Grows}
use Rattle.graph.proofs.Push.{neighbours_push}
use Rattle.graph.specs.declared.edge.WeightedEdge.{WeightedEdge}
use Rattle.graph.specs.declared.edge.Neighbour.{Neighbour}

module _ (e : WeightedEdge) (vs ws us : List (ArrayVec Neighbour)) (ne : e.a ≡ e.b → ⊥) (f : Grows vs ws e.a (record { node = e.b; weight = e.weight }))
    (g : Grows ws us e.b (record { node = e.a; weight = e.weight })) where
  -- beside a node stands what stood there, and then what the edge is to it
  Grown : ℕ → Type 0
  Grown x = (get_or us x alone).items ≡ (get_or vs x alone).items ++ seen_from e x

  at_a : Grown e.a
  unfolding Grown
  at_a = ap (λ (v : ArrayVec Neighbour). v.items) (g.others e.a ne) ∙ rw (eq-eqb e.a e.a refl) f.more

  at_b : Grown e.b
  unfolding Grown
  at_b =
      rw (ne_eqb e.a e.b ne, eq-eqb e.b e.b refl)
      (g.more ∙ ap (λ (v : ArrayVec Neighbour). v.items ++ record { node = e.a; weight = e.weight } ∷ []) (f.others e.b (λ h. ne (sym h))))

  at_other : (x : ℕ) → (x ≡ e.a → ⊥) → (x ≡ e.b → ⊥) → Grown x
  unfolding Grown
  at_other x p q =
      rw (ne_eqb e.a x (λ h. p (sym h)), ne_eqb e.b x (λ h. q (sym h)))
      (ap (λ (v : ArrayVec Neighbour). v.items) (g.others x q ∙ f.others x p) ∙ sym (append-nil (get_or vs x alone).items))

  at_each : (x : ℕ) → Grown x
  at_each x = elim (cases_eq x e.a) [ inl p ↦ rw p at_a | inr p ↦ elim (cases_eq x e.b) [ inl q ↦ rw q at_b | inr q ↦ at_other x p q ] ]

  -- The neighbours stand beside the list with the edge, too.
  pub beside_push : (n : ℕ) (es ts : List WeightedEdge) → ts ≡ es ++ e ∷ [] → Beside n es vs → Beside n ts us
  unfolding Grown
  beside_push n es ts p h =
      record {
        places = omega (arith, h.places, f.long, g.long);
        held = λ x l. rw (p, neighbours_push es e x) (at_each x ∙ ap (λ ns. ns ++ seen_from e x) (h.held x l));
      }

-- Beside no edges nobody stands.
pub beside_none : (n : ℕ) (es : List WeightedEdge) (vs : List (ArrayVec Neighbour)) → es ≡ [] → vs ≡ replicate n alone → Beside n es vs
unfolding neighbours_of
beside_none n es vs p e =
    rw (p, e) (record { places = length-replicate n alone; held = λ x h. ap (λ (v : ArrayVec Neighbour). v.items) (get_or-replicate n x alone alone h) })

-- a copy of an empty vector is empty
abbrev filled : List Neighbour → ArrayVec Neighbour
filled ns = record { items = ns }

pub empty_alone : (v : ArrayVec Neighbour) → v.items ≡ [] → v ≡ alone
empty_alone v e = ap (λ (ns : List Neighbour). filled ns) e

pub copied_none : (R : Neighbour → Neighbour → Type 0) (v w : ArrayVec Neighbour) → v.items ≡ [] → AllZip R v.items w.items → w ≡ v
copied_none R v w e c =
    let l : length w.items ≡ 0 = omega (arith, length_all_zip R v.items w.items c, ap length e) in
    let n : w.items ≡ v.items = nil_from_length w.items l ∙ sym e in
    ap (λ (ns : List Neighbour). filled ns) n
