-- One item of a reading after the other.
use Rattle.std.proofs.Common.{◌≡◌, ℕ, ◌+◌, ◌⊎◌, List, [], ◌∷◌, length, Bool, true, false, Some, None, Option, Ok, Err, Result, inl, inr, sym, refl, ap, ◌∙◌, subst, arith}
use Rattle.std.specs.Fn.{CalledAt}
use Rattle.std.specs.Iterator.{Yields, FindsItem}
use Rattle.std.specs.List.{FoldsTo}
use denote.Param.Members.{Mut}
use denote.Ref.{Bor}
use Rattle.graph.specs.Turns.{left_of, lines_in, Next, Sought, Opened}
use Rattle.graph.specs.Reading.{Reading, Taken, RefusedBy, accepted, refused, item_fault, after_item, unless, edges_from, first_fault, after_first, reading_of}
use Rattle.graph.specs.Build.{Started}
use Rattle.graph.specs.Lists.{edges_of}
use Rattle.graph.specs.declared.edge_list.EdgeList.{EdgeList}
use Rattle.graph.specs.declared.valley_file.Refusal.{Refusal}
use Rattle.graph.specs.declared.edge.WeightedEdge.{WeightedEdge}
use Rattle.graph.specs.declared.fault.Fault.{Fault}
use Rattle.graph.specs.declared.fault.Fault.TheVariants.{NoCount, NoMemory}
use Rattle.graph.specs.declared.items.Items.{Items}
use Rattle.graph.specs.declared.item.Item.{Item}
use Rattle.graph.specs.declared.item.Item.TheVariants.{Blank, Houses}
use Rattle.graph.specs.Faults.{count_fault}

pub edges_none : (n : ℕ) (es : List WeightedEdge) (k : ℕ) (is : List Item) → is ≡ [] → edges_from n es k is ≡ accepted n es
unfolding edges_from
edges_none n es k is e = rw e refl

pub edges_step : (n : ℕ) (es : List WeightedEdge) (k : ℕ) (i : Item) (is js : List Item) → is ≡ i ∷ js →
    edges_from n es k is ≡ unless (item_fault n es i) (k + 1) (edges_from n (after_item es i) (k + 1) js)
unfolding edges_from
edges_step n es k i is js e = rw e refl

-- an item that is taken, and one that is not
pub edges_on : (n : ℕ) (es : List WeightedEdge) (k : ℕ) (i : Item) (is js : List Item) → is ≡ i ∷ js → item_fault n es i ≡ None → edges_from n es k is ≡ edges_from n (after_item es i) (k + 1) js
edges_on n es k i is js e f = edges_step n es k i is js e ∙ ap (λ o. unless o (k + 1) (edges_from n (after_item es i) (k + 1) js)) f

pub edges_stop : (n : ℕ) (es : List WeightedEdge) (k : ℕ) (i : Item) (is js : List Item) (f : Fault) → is ≡ i ∷ js → item_fault n es i ≡ Some f → edges_from n es k is ≡ refused (k + 1) f
edges_stop n es k i is js f e h = edges_step n es k i is js e ∙ ap (λ o. unless o (k + 1) (edges_from n (after_item es i) (k + 1) js)) h

pub reading_none : (k : ℕ) (is : List Item) → is ≡ [] → reading_of k is ≡ refused (k + 1) NoCount
unfolding reading_of
reading_none k is e = rw e refl

pub reading_step : (k : ℕ) (i : Item) (is js : List Item) → is ≡ i ∷ js → reading_of k is ≡ unless (first_fault i) (k + 1) (after_first i (k + 1) js (reading_of (k + 1) js))
unfolding reading_of
reading_step k i is js e = rw e refl

pub reading_on : (k : ℕ) (i : Item) (is js : List Item) → is ≡ i ∷ js → first_fault i ≡ None → reading_of k is ≡ after_first i (k + 1) js (reading_of (k + 1) js)
reading_on k i is js e h = reading_step k i is js e ∙ ap (λ o. unless o (k + 1) (after_first i (k + 1) js (reading_of (k + 1) js))) h

pub reading_stop : (k : ℕ) (i : Item) (is js : List Item) (f : Fault) → is ≡ i ∷ js → first_fault i ≡ Some f → reading_of k is ≡ refused (k + 1) f
reading_stop k i is js f e h = reading_step k i is js e ∙ ap (λ o. unless o (k + 1) (after_first i (k + 1) js (reading_of (k + 1) js))) h

-- a turn, in the words of the code: R is the whole reading, k lines are read before item i and m with it
module _ (R : Reading) (k m : ℕ) (i : Item) (is js : List Item) (before : R ≡ reading_of k is) (next : is ≡ i ∷ js) (line : m ≡ k + 1) where
  pub on_blank : i ≡ Blank → R ≡ reading_of m js
  on_blank e = before ∙ reading_on k i is js next (ap first_fault e) ∙ rw (e, line) refl

  pub on_houses : (n l : ℕ) (es : List WeightedEdge) → i ≡ Houses n → count_fault n ≡ None → l ≡ n → es ≡ [] → R ≡ edges_from l es m js
  on_houses n l es e f p q = before ∙ reading_on k i is js next (ap first_fault e ∙ f) ∙ rw (e, line, p, q) refl

  pub stops : (f : Fault) → first_fault i ≡ Some f → R ≡ refused m f
  stops f h = before ∙ reading_stop k i is js f next h ∙ rw line refl

module _ (R : Reading) (n : ℕ) (es : List WeightedEdge) (k m : ℕ) (i : Item) (is js : List Item) (before : R ≡ edges_from n es k is) (next : is ≡ i ∷ js) (line : m ≡ k + 1) where
  pub on_taken : (l : ℕ) (ds : List WeightedEdge) → item_fault n es i ≡ None → l ≡ n → ds ≡ after_item es i → R ≡ edges_from l ds m js
  on_taken l ds f p q = before ∙ edges_on n es k i is js next f ∙ rw (line, p, q) refl

  pub stops_at : (f : Fault) → item_fault n es i ≡ Some f → R ≡ refused m f
  stops_at f h = before ∙ edges_stop n es k i is js f next h ∙ rw line refl

module _ {F : Type 0} (g : Mut F (Bor Item × Unit {0}) Bool) (f : F) (passes : (x : Item) (q : F) → CalledAt g f x false q → (q ≡ f) × (x ≡ Blank))
    (stops_at : (x : Item) (q : F) → CalledAt g f x true q → x ≡ Blank → ⊥) where
  over_blanks : (xs : List Item) (s t : Items) (h : F) → Yields Next s xs t → FoldsTo (λ p x q. CalledAt g p x false q) f xs h →
      (reading_of s.line (left_of s) ≡ reading_of t.line (left_of t)) × (lines_in t ≡ lines_in s) × (f ≡ h)
  over_blanks [] s t h y w = (ap (λ (s : Items). reading_of s.line (left_of s)) y, ap lines_in (sym y), w)
  over_blanks (x ∷ xs) s t h y w =
      let a = passes x w.0 w.1 in
      let n = y.1 in
      let r = over_blanks xs y.0 t h y.2 (subst (λ (p : F). FoldsTo (λ p x q. CalledAt g p x false q) p xs h) a.0 w.2) in (
        on_blank (reading_of s.line (left_of s)) s.line y.0.line x (left_of s) (left_of y.0) refl n.0 n.1 a.1 ∙ r.0,
        r.1 ∙ omega (arith, ap length n.0, n.1),
        r.2,
      )

  pub sought : (s u : Items) (r : Option Item) → FindsItem Next g s f r u → Sought s r u
  sought s u None w =
      let t = w.2 in
      let b = over_blanks w.0 s t.0 w.1 t.1 w.3 in
      record { at = t.0; reads = b.0; lines = b.1; next = t.2; solid = tt }
  sought s u (Some x) w =
      let t = w.2 in
      let b = over_blanks w.0 s t.0 w.1 t.1 w.3 in
      record { at = t.0; reads = b.0; lines = b.1; next = t.2; solid = stops_at x w.4.0 (subst (λ (p : F). CalledAt g p x true w.4.0) (sym b.2) w.4.1) }

-- a fault on a line
abbrev pub on_line : {T : Type 0} → ℕ → Result T Fault → Result T Refusal
on_line line (Ok x) = Ok x
on_line line (Err f) = Err (record { line = line; fault = f })

-- the first item that is not blank, as the reading sees it
module _ (s u : Items) where
  pub first_none : Sought s None u → reading_of s.line (left_of s) ≡ refused (u.line + 1) NoCount
  first_none w = w.reads ∙ reading_none w.at.line (left_of w.at) w.next.0 ∙ ap (λ k. refused (k + 1) NoCount) (sym w.next.2)

  pub first_stops : (i : Item) (f : Fault) → Sought s (Some i) u → first_fault i ≡ Some f → reading_of s.line (left_of s) ≡ refused u.line f
  first_stops i f w h = stops (reading_of s.line (left_of s)) w.at.line u.line i (left_of w.at) (left_of u) w.reads w.next.0 w.next.1 f h

  pub first_opens : (n : ℕ) → Sought s (Some (Houses n)) u → (r : Result EdgeList Fault) → Started n r → Opened s u (on_line u.line r)
  first_opens n w (Ok l) g = (
    on_houses (reading_of s.line (left_of s)) w.at.line u.line (Houses n) (left_of w.at) (left_of u) w.reads w.next.0 w.next.1 n l.nodes (edges_of l) refl g.0 g.1 g.2,
    omega (arith, ap length w.next.0, w.next.1, w.lines),
  )
  first_opens n w (Err f) (inl h) = inl (first_stops (Houses n) f w h)
  first_opens n w (Err f) (inr h) = inr h

-- an item that is taken or refused
module _ (R : Reading) (l m : EdgeList) (s t : Items) (i : Item) (before : R ≡ edges_from l.nodes (edges_of l) s.line (left_of s)) (next : left_of s ≡ i ∷ left_of t) (line : t.line ≡ s.line + 1) where
  pub taken_goes : (u : Unit {0}) → Taken l m i (Ok u) → R ≡ edges_from m.nodes (edges_of m) t.line (left_of t)
  taken_goes u h = on_taken R l.nodes (edges_of l) s.line t.line i (left_of s) (left_of t) before next line m.nodes (edges_of m) h.0 h.1 h.2

  pub taken_stops : (r : Result (Unit {0}) Fault) (e : Refusal) → Err e ≡ on_line t.line r → Taken l m i r → RefusedBy R e
  taken_stops (Ok u) e q h = absurd (cc)
  taken_stops (Err f) e q h = let same : e ≡ record { line = t.line; fault = f } = cc in rw same (by h.0)
    where
      by : (item_fault l.nodes (edges_of l) i ≡ Some f) ⊎ (f ≡ NoMemory) → RefusedBy R (record { line = t.line; fault = f })
      by (inl k) = inl (stops_at R l.nodes (edges_of l) s.line t.line i (left_of s) (left_of t) before next line f k)
      by (inr k) = inr k
