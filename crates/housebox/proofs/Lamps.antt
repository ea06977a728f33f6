-- Lamps, one after the other.
use Rattle.std.proofs.Common.{◌≡◌, ℕ, zero, suc, ◌+◌, ◌-◌, ◌<◌, ◌≤◌, true, false, cond, ltb, ◌⊎◌, inl, inr, List, [], ◌∷◌, ◌++◌, map, length, get_or, drop, vec_items, codes, sym, refl, ap, ◌∙◌, append-nil, add-one, arith}
use Rattle.std.proofs.lemmas.List.{drop_more, length-drop, length-map, get_or-map}
use Rattle.link.specs.declared.ends.Link.{Link}
use Rattle.link.specs.Ends.{end_of}
use Rattle.graph.specs.declared.mark.Mark.{Mark}
use Rattle.graph.specs.declared.mark.Mark.TheVariants.{Basic}
use Rattle.station.specs.declared.state.Station.{Station}
use Rattle.station.specs.State.{State, state_of, link_at, no_link}
use Rattle.housebox.specs.Report.{lamp_line, lamp_at, lamps_below, shown_of}

-- the first n lamps are in t, and the links and marks behind them are left
pub record Lit (s : Station) (n : ℕ) (links : List Link) (marks : List Mark) (t : List ℕ) : Type 0 where
  links_left : links ≡ drop n (vec_items s.links)
  marks_left : marks ≡ drop n s.node.marks
  within : n ≤ length s.node.marks
  lamps : t ≡ lamps_below (state_of s) n

-- what stands first behind the first n
first_left : {X : Type 0} (xs rest : List X) (n : ℕ) (x d : X) → drop n xs ≡ x ∷ rest → (n < length xs) × (get_or xs n d ≡ x) × (drop (n + 1) xs ≡ rest)
first_left xs rest n x d e =
    let l : length xs - n ≡ suc (length rest) = sym (length-drop n xs) ∙ ap length e in
    let h : n < length xs = omega arith in
    let m = drop_more xs n d h in
    (h, cc, cc)

pub lit_none : (s : Station) (links : List Link) (marks : List Mark) (t : List ℕ) → links ≡ vec_items s.links → marks ≡ s.node.marks → t ≡ [] → Lit s 0 links marks t
unfolding lamps_below
lit_none s links marks t l m e = record { links_left = l; marks_left = m; within = omega arith; lamps = e }

lamp_read : (s : Station) (k : ℕ) (l : Link) (m : Mark) → k < length (vec_items s.links) → get_or (vec_items s.links) k l ≡ l → get_or s.node.marks k Basic ≡ m → lamp_at (state_of s) k ≡ lamp_line l.neighbour m
lamp_read s k l m h e f =
    let n = length-map (vec_items s.links) end_of in
    let there : ltb k (length (map end_of (vec_items s.links))) ≡ true = grind arith in
    let link : link_at (state_of s) k ≡ end_of l = get_or-map end_of (vec_items s.links) k l no_link h ∙ ap end_of e in
    ap (λ t. cond t (lamp_line (link_at (state_of s) k).neighbour (get_or s.node.marks k Basic)) []) there ∙
    (ap (λ e. lamp_line e.neighbour (get_or s.node.marks k Basic)) link ∙ ap (λ z. lamp_line l.neighbour z) f)

-- one lamp more
pub lit_more : (s : Station) (n k : ℕ) (links links' : List Link) (marks marks' : List Mark) (l : Link) (m : Mark) (t u : List ℕ) → k ≡ n + 1 → links ≡ l ∷ links' → marks ≡ m ∷ marks' →
    u ≡ t ++ lamp_line l.neighbour m → Lit s n links marks t → Lit s k links' marks' u
unfolding lamps_below
lit_more s n k links links' marks marks' l m t u p q r e lit =
    let a = first_left (vec_items s.links) links' n l l (sym lit.links_left ∙ q) in
    let b = first_left s.node.marks marks' n m Basic (sym lit.marks_left ∙ r) in
    let more : n + 1 ≤ length s.node.marks = omega arith in
    rw (p) (record {
      links_left = sym a.2;
      marks_left = sym b.2;
      within = more;
      lamps = rw add-one (e ∙ (ap (λ z. z ++ lamp_line l.neighbour m) lit.lamps ∙ ap (λ z. lamps_below (state_of s) n ++ z) (sym (lamp_read s n l m a.0 a.1 b.1))));
    })

-- behind the last link there are no lamps
lamp_past : (s : Station) (k : ℕ) → length (vec_items s.links) ≤ k → lamp_at (state_of s) k ≡ []
lamp_past s k h =
    let n = length-map (vec_items s.links) end_of in
    let past : ltb k (length (map end_of (vec_items s.links))) ≡ false = grind arith in
    ap (λ b. cond b (lamp_line (link_at (state_of s) k).neighbour (get_or s.node.marks k Basic)) []) past

lamps_past : (s : Station) (n m : ℕ) → length (vec_items s.links) ≤ n → lamps_below (state_of s) (m + n) ≡ lamps_below (state_of s) n
unfolding lamps_below
lamps_past s n zero h = let e : zero + n ≡ n = omega arith in rw e refl
lamps_past s n (suc m) h =
    let e : suc m + n ≡ suc (m + n) = omega arith in
    let past : length (vec_items s.links) ≤ m + n = omega arith in
    rw (e, lamp_past s (m + n) past) (append-nil (lamps_below (state_of s) (m + n)) ∙ lamps_past s n m h)

-- none is left to put
pub lit_all : (s : Station) (n : ℕ) (links : List Link) (marks : List Mark) (t : List ℕ) → length s.node.marks ≡ 16 → (length links ≡ 0) ⊎ (length marks ≡ 0) → Lit s n links marks t → t ≡ lamps_below (state_of s) 16
lit_all s n links marks t full (inl none) lit =
    let e : length (vec_items s.links) - n ≡ 0 = sym (length-drop n (vec_items s.links)) ∙ (ap length (sym lit.links_left) ∙ none) in
    let h : length (vec_items s.links) ≤ n = omega arith in
    let w = lit.within in
    let k : 16 - n + n ≡ 16 = omega arith in
    lit.lamps ∙ (sym (lamps_past s n (16 - n) h) ∙ ap (λ z. lamps_below (state_of s) z) k)
lit_all s n links marks t full (inr none) lit =
    let e : length s.node.marks - n ≡ 0 = sym (length-drop n s.node.marks) ∙ (ap length (sym lit.marks_left) ∙ none) in
    let w = lit.within in
    let k : n ≡ 16 = omega arith in
    lit.lamps ∙ ap (λ z. lamps_below (state_of s) z) k

-- the last line says whether all is done
pub lamps_done : (s : State) (t u : List ℕ) → t ≡ lamps_below s 16 → s.node.halted ≡ true → u ≡ t ++ codes "done\n" → u ≡ shown_of s
lamps_done s t u e h p = p ∙ (ap (λ z. z ++ codes "done\n") e ∙ ap (λ b. lamps_below s 16 ++ cond b (codes "done\n") []) (sym h))

pub lamps_open : (s : State) (t u : List ℕ) → t ≡ lamps_below s 16 → s.node.halted ≡ false → u ≡ t → u ≡ shown_of s
lamps_open s t u e h p = p ∙ (e ∙ (sym (append-nil (lamps_below s 16)) ∙ ap (λ b. lamps_below s 16 ++ cond b (codes "done\n") []) (sym h)))
