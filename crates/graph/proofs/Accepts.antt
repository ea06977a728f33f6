-- A text is accepted exactly if it describes a sound list of edges.
use Rattle.std.proofs.Common.{◌≡◌, ℕ, ◌+◌, List, [], ◌∷◌, ◌++◌, Some, None, Option, sym, refl, ap, ◌∙◌, subst, arith}
use Rattle.std.proofs.lemmas.List.{append_assoc, append-nil}
use Rattle.graph.specs.Edges.{Sound}
use Rattle.graph.specs.Exact.{Listing, Describes, Exact, SoundWeights, AlwaysSound}
use Rattle.graph.specs.Faults.{edge_fault, count_fault}
use Rattle.graph.specs.Items.{items_of}
use Rattle.graph.specs.Lists.{edges_of}
use Rattle.graph.specs.Reading.{Reading, accepted, refused, unless, edges_from, reading_of}
use Rattle.graph.specs.declared.edge.WeightedEdge.{WeightedEdge}
use Rattle.graph.specs.declared.fault.Fault.{Fault}
use Rattle.graph.specs.declared.item.Item.{Item}
use Rattle.graph.specs.declared.item.Item.TheVariants.{Blank, Houses, Line, Unknown}
use Rattle.graph.proofs.Edges.{sound_weights}
use Rattle.graph.proofs.Fronts.{sound_front, sound_push, sound_none, no_fault}

not_both : (k : ℕ) (f : Fault) (n : ℕ) (es : List WeightedEdge) → refused k f ≡ accepted n es → ⊥
not_both k f n es e = let z : ◌≡◌ {A = ℕ} 0 1 = cc in omega arith

same_count : (n m : ℕ) (es ds : List WeightedEdge) → accepted n es ≡ accepted m ds → n ≡ m
same_count n m es ds e = cc

same_edges : (n m : ℕ) (es ds : List WeightedEdge) → accepted n es ≡ accepted m ds → es ≡ ds
same_edges n m es ds e = cc

-- what an accepted rest of a file has added
record More (n : ℕ) (es : List WeightedEdge) (is : List Item) (m : ℕ) (fs : List WeightedEdge) : Type 0 where
  count : n ≡ m
  added : List WeightedEdge
  all : es ++ added ≡ fs
  listed : Listing is added
  sound : Sound n fs

more_blank : (n : ℕ) (es : List WeightedEdge) (is : List Item) (m : ℕ) (fs : List WeightedEdge) → More n es is m fs → More n es (Blank ∷ is) m fs
more_blank n es is m fs w = record { count = w.count; added = w.added; all = w.all; listed = Listing.blank w.listed; sound = w.sound }

more_line : (n : ℕ) (es : List WeightedEdge) (e : WeightedEdge) (is : List Item) (m : ℕ) (fs : List WeightedEdge) → More n (es ++ e ∷ []) is m fs → More n es (Line e ∷ is) m fs
more_line n es e is m fs w =
    record { count = w.count; added = e ∷ w.added; all = sym (append_assoc es (e ∷ []) w.added) ∙ w.all; listed = Listing.line e w.listed; sound = w.sound }

by_fault : (n : ℕ) (es : List WeightedEdge) (e : WeightedEdge) (k : ℕ) (is : List Item) (m : ℕ) (fs : List WeightedEdge) (r : Reading) →
    (r ≡ accepted m fs → Sound n (es ++ e ∷ []) → More n (es ++ e ∷ []) is m fs) → Sound n es → (o : Option Fault) → o ≡ edge_fault n es e → unless o k r ≡ accepted m fs → More n es (Line e ∷ is) m fs
by_fault n es e k is m fs r ih s None q h = more_line n es e is m fs (ih h (sound_push n es e s q))
by_fault n es e k is m fs r ih s (Some f) q h = absurd (not_both k f m fs h)

accepted_more : (n : ℕ) (es : List WeightedEdge) (k : ℕ) (is : List Item) (m : ℕ) (fs : List WeightedEdge) → edges_from n es k is ≡ accepted m fs → Sound n es → More n es is m fs
unfolding edges_from
accepted_more n es k [] m fs h s =
    let e = same_edges n m es fs h in
    record { count = same_count n m es fs h; added = []; all = append-nil es ∙ e; listed = Listing.none; sound = subst (Sound n) e s }
accepted_more n es k (Blank ∷ is) m fs h s = more_blank n es is m fs (accepted_more n es (k + 1) is m fs h s)
accepted_more n es k (Houses j ∷ is) m fs h s = absurd (not_both (k + 1) _ m fs h)
accepted_more n es k (Line e ∷ is) m fs h s =
    by_fault n es e (k + 1) is m fs (edges_from n (es ++ e ∷ []) (k + 1) is) (accepted_more n (es ++ e ∷ []) (k + 1) is m fs) s (edge_fault n es e) refl h
accepted_more n es k (Unknown ∷ is) m fs h s = absurd (not_both (k + 1) _ m fs h)

-- the other way round
listed_accepted : (n : ℕ) (es : List WeightedEdge) (k : ℕ) {is : List Item} {ds : List WeightedEdge} → Listing is ds → Sound n (es ++ ds) → edges_from n es k is ≡ accepted n (es ++ ds)
unfolding edges_from
listed_accepted n es k Listing.none s = ap (accepted n) (sym (append-nil es))
listed_accepted n es k (Listing.blank l) s = listed_accepted n es (k + 1) l s
listed_accepted n es k (Listing.line {is = is} {es = ds} e l) s =
    let p = append_assoc es (e ∷ []) ds in
    let t : Sound n ((es ++ e ∷ []) ++ ds) = subst (Sound n) (sym p) s in
    let f = no_fault n es e (sound_front n (es ++ e ∷ []) ds t) in
    ap (λ o. unless o (k + 1) (edges_from n (es ++ e ∷ []) (k + 1) is)) f ∙ listed_accepted n (es ++ e ∷ []) (k + 1) l t ∙ ap (accepted n) p

-- whole files
opened : (n : ℕ) (is : List Item) (m : ℕ) (fs : List WeightedEdge) → More n [] is m fs → Describes m fs (Houses n ∷ is) × Sound m fs
opened n is m fs w =
    let d : Describes n fs (Houses n ∷ is) = Describes.houses n (subst (λ (ds : List WeightedEdge). Listing is ds) w.all w.listed) in
    (subst (λ (j : ℕ). Describes j fs (Houses n ∷ is)) w.count d, subst (λ (j : ℕ). Sound j fs) w.count w.sound)

by_count : (n k : ℕ) (is : List Item) (m : ℕ) (fs : List WeightedEdge) (o : Option Fault) → o ≡ count_fault n → unless o k (edges_from n [] k is) ≡ accepted m fs →
    Describes m fs (Houses n ∷ is) × Sound m fs
by_count n k is m fs None q h = opened n is m fs (accepted_more n [] k is m fs h (sound_none n q))
by_count n k is m fs (Some f) q h = absurd (not_both k f m fs h)

describes : (k : ℕ) (is : List Item) (m : ℕ) (fs : List WeightedEdge) → reading_of k is ≡ accepted m fs → Describes m fs is × Sound m fs
unfolding reading_of
describes k [] m fs h = absurd (not_both (k + 1) _ m fs h)
describes k (Blank ∷ is) m fs h = let d = describes (k + 1) is m fs h in (Describes.blank d.0, d.1)
describes k (Houses n ∷ is) m fs h = by_count n (k + 1) is m fs (count_fault n) refl h
describes k (Line e ∷ is) m fs h = absurd (not_both (k + 1) _ m fs h)
describes k (Unknown ∷ is) m fs h = absurd (not_both (k + 1) _ m fs h)

fair_count : (n : ℕ) (es : List WeightedEdge) → Sound n es → count_fault n ≡ None
fair_count n es s = let p = s.some in let q = s.few in grind arith

described : (k : ℕ) {n : ℕ} {es : List WeightedEdge} {is : List Item} → Describes n es is → Sound n es → reading_of k is ≡ accepted n es
unfolding reading_of
described k (Describes.blank d) s = described (k + 1) d s
described k (Describes.houses {es} {is} n l) s = ap (λ o. unless o (k + 1) (edges_from n [] (k + 1) is)) (fair_count n es s) ∙ listed_accepted n [] (k + 1) l s

pub exact : Exact
exact text n es = (describes 0 (items_of text) n es, λ d s. described 0 d s)

pub weights : SoundWeights
weights n es s = sound_weights n es s.valid s.separate

pub always_sound : AlwaysSound
always_sound l = (l.sound, sound_weights l.nodes (edges_of l) l.sound.valid l.sound.separate)
