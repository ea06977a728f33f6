-- Links as the code holds them, and as the definitions see them.
use Rattle.std.proofs.Common.{◌≡◌, ℕ, ◌<◌, ◌≤◌, List, [], ◌∷◌, map, length, get_or, set, Some, sym, refl, ap, ◌∙◌, subst, arith}
use Rattle.std.proofs.lemmas.List.{get_or-map, get_or_past, length-map, map-set, set-get_or, set_past}
use Rattle.std.specs.List.{AllZip}
use Rattle.link.specs.declared.ends.Link.{Link}
use Rattle.link.specs.Ends.{End, end_of}
use Rattle.station.specs.State.{no_link, link_in, passed, place_of}

-- a link that was read is the one at its place
pub link_read : (ls : List Link) (k : ℕ) (l : Link) → k < length ls → l ≡ get_or ls k l → link_in (map end_of ls) k ≡ end_of l
link_read ls k l h e = get_or-map end_of ls k l no_link h ∙ ap end_of (sym e)

-- the same of a slice that has the links
pub link_read_as : (xs ls : List Link) (k : ℕ) (l : Link) → xs ≡ ls → k < length xs → l ≡ get_or xs k l → link_in (map end_of ls) k ≡ end_of l
link_read_as xs ls k l s h e = subst (λ v. link_in (map end_of v) k ≡ end_of l) s (link_read xs k l h e)

pub link_past : (ls : List Link) (k : ℕ) → length ls ≤ k → link_in (map end_of ls) k ≡ no_link
link_past ls k h = get_or_past (map end_of ls) k no_link (let e = length-map ls end_of in omega arith)

-- a link is replaced by what becomes of it
pub link_changed : (ls : List Link) (k : ℕ) (l x : Link) (f : End → End) → k < length ls → x ≡ get_or ls k x → end_of l ≡ f (end_of x) →
    map end_of (set ls k l) ≡ set (map end_of ls) k (f (link_in (map end_of ls) k))
link_changed ls k l x f h e c =
    map-set end_of ls k l ∙ ap (λ v. set (map end_of ls) k v) (c ∙ ap f (sym (link_read ls k x h e)))

-- a link that is put back as it was read changes nothing
pub link_kept : (ls : List Link) (k : ℕ) (l : Link) → l ≡ get_or ls k l → set ls k l ≡ ls
link_kept ls k l e = ap (set ls k) e ∙ set-get_or ls k l

-- a change where there is no link changes nothing
pub link_unchanged : (ls : List Link) (k : ℕ) (e : End) → length ls ≤ k → map end_of ls ≡ set (map end_of ls) k e
link_unchanged ls k e h = sym (set_past (map end_of ls) k e (let z = length-map ls end_of in omega arith))

-- links that were copied one by one are the same ends
pub ends_copied : (ls ms : List Link) → AllZip (λ l m. end_of m ≡ end_of l) ls ms → map end_of ms ≡ map end_of ls
ends_copied [] [] a = refl
ends_copied [] (m ∷ ms) a = absurd a
ends_copied (l ∷ ls) [] a = absurd a
ends_copied (l ∷ ls) (m ∷ ms) a = ap (λ e. e ∷ map end_of ms) a.0 ∙ ap (λ es. end_of l ∷ es) (ends_copied ls ms a.1)

-- the place of a neighbour is the first link that leads there
pub place_is : (es : List End) (j k : ℕ) → place_of es j ≡ Some k → (passed es j < length es) × (passed es j ≡ k)
place_is es j k e = grind arith

pub place_inside : (ls : List Link) (j k : ℕ) → place_of (map end_of ls) j ≡ Some k → k < length ls
place_inside ls j k e = let a = length-map ls end_of in let b = place_is (map end_of ls) j k e in omega arith
