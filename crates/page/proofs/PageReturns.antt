-- A state that fits is read from its page, and nothing else is read.
use Rattle.std.proofs.Common.{◌≡◌, ℕ, ◌+◌, ◌-◌, ◌/◌, ◌%◌, ◌<◌, ◌≤◌, Bool, true, false, cond, ◌&&◌, eqb, ltb, leb, List, [], ◌∷◌, ◌++◌, length, Some, None, Option, sym, refl, ap, ◌∙◌, append_assoc, append-nil, arith, length-append}
use Rattle.std.specs.List.{flat_map, AllByRecursion as All, list_all}
use Rattle.std.specs.Str.{bytes_eq}
use Rattle.std.proofs.lemmas.Bool.{and_parts, ltb-true, leb-true, eqb-true}
use Rattle.std.proofs.lemmas.Slice.Eq.{bytes_eq-Decides}
use Rattle.message.specs.Bytes as message
use Rattle.message.specs.Bytes.{word, checksum_of, message_bytes}
use Rattle.link.specs.Ends.{End}
use Rattle.station.specs.State.{State}
use Rattle.page.specs.Page.{node_bytes, queue_bytes, link_bytes, body_bytes, page_bytes, numbers_fit, link_fits, node_fits, head_fits, fields_fit, fits}
use Rattle.page.specs.Reading.{node_front, queue_front, fronts, link_front, state_front, if_page}
use Rattle.page.specs.Laws.{ShortEnd, ShortState, PageReturns, PageReadOnly, PageShort}
use Rattle.page.proofs.Fronts.{link_all, fronts_none, fronts_more, state_all}
use Rattle.page.proofs.NodeReturns.{word_returns, node_front_lem}
use Rattle.page.proofs.QueueReturns.{pair_returns, no_more, queue_front_lem}

-- a queue has no more messages than bytes
short_queue : (e : End) → length (link_bytes e) ≤ 16384 → (length e.outbox < 65536) × (length e.inbox < 65536)
short_queue e h =
    let out = no_more e.outbox in
    let inn = no_more e.inbox in
    let sum = length-append (flat_map message_bytes e.outbox) (queue_bytes e.inbox) in
    (omega arith, omega arith)

link_front_lem : (e : End) (rest : List ℕ) → length (link_bytes e) ≤ 16384 → ShortEnd e → link_fits e ≡ true → link_front (link_bytes e ++ rest) ≡ Some (e, rest)
link_front_lem e rest h s f =
    let parts = and_parts (numbers_fit e && list_all message.fits e.outbox) (list_all message.fits e.inbox) f in
    let first = and_parts (numbers_fit e) (list_all message.fits e.outbox) parts.0 in
    let numbers = and_parts (ltb e.neighbour 65536) (leb (e.acknowledged + length e.outbox) 4294967295) first.0 in
    let near = ltb-true e.neighbour 65536 numbers.0 in
    let last = leb-true (e.acknowledged + length e.outbox) 4294967295 numbers.1 in
    let short = short_queue e h in
    let split = append_assoc (queue_bytes e.outbox) (queue_bytes e.inbox) rest in
    let bs = link_bytes e ++ rest in
    let behind = (queue_bytes e.outbox ++ queue_bytes e.inbox) ++ rest in
    let out = ap queue_front split ∙ queue_front_lem e.outbox (queue_bytes e.inbox ++ rest) short.0 s.1 first.1 in
    let inn = queue_front_lem e.inbox rest short.1 s.2 parts.1 in
    link_all bs behind (e.outbox, queue_bytes e.inbox ++ rest) (e.inbox, rest) e.neighbour e.acknowledged e.taken refl (omega arith) out inn
    (sym (pair_returns e.neighbour near)) (sym (word_returns e.acknowledged (omega arith))) (sym (word_returns e.taken s.0))

links_front_lem : (ls done : List End) (rest : List ℕ) → length (flat_map link_bytes ls) ≤ 16384 → All ShortEnd ls → list_all link_fits ls ≡ true →
    fronts link_front (length ls) done (flat_map link_bytes ls ++ rest) ≡ Some (done ++ ls, rest)
links_front_lem [] done rest h s f = fronts_none link_front 0 done rest refl ∙ ap (λ ls. Some (ls, rest)) (sym (append-nil done))
links_front_lem (l ∷ ls) done rest h s f =
    let fit = and_parts (link_fits l) (list_all link_fits ls) f in
    let sum = length-append (link_bytes l) (flat_map link_bytes ls) in
    let here : length (link_bytes l) ≤ 16384 = omega arith in
    let more : length (flat_map link_bytes ls) ≤ 16384 = omega arith in
    let split = append_assoc (link_bytes l) (flat_map link_bytes ls) rest in
    let head = ap link_front split ∙ link_front_lem l (flat_map link_bytes ls ++ rest) here s.0 fit.0 in
    let step = fronts_more link_front (length (l ∷ ls)) done (flat_map link_bytes (l ∷ ls) ++ rest) (l, flat_map link_bytes ls ++ rest) (omega arith) head in
    let count : length (l ∷ ls) - 1 ≡ length ls = omega arith in
    let ih = links_front_lem ls (done ++ (l ∷ [])) rest more s.1 fit.1 in
    step ∙ (ap (λ n. fronts link_front n (done ++ (l ∷ [])) (flat_map link_bytes ls ++ rest)) count ∙ (ih ∙ ap (λ ls. Some (ls, rest)) (append_assoc done (l ∷ []) ls)))

-- the two bytes of the sum
abbrev sum_bytes : List ℕ → List ℕ
sum_bytes bs = (checksum_of bs / 256 % 256) ∷ (checksum_of bs % 256) ∷ []

record Fitting (s : State) : Type 0 where
  short : length (page_bytes s) ≤ 16384
  number : s.number < 65536
  edges : s.node.edges ≡ length s.links
  links : list_all link_fits s.links ≡ true

fitting : (s : State) → fits s ≡ true → Fitting s
unfolding fields_fit
fitting s f =
    let two = and_parts (leb (length (page_bytes s)) 16384) (fields_fit s) f in
    let rest = and_parts (head_fits s) (list_all link_fits s.links) two.1 in
    let head = and_parts (ltb s.number 65536 && eqb s.node.edges (length s.links)) (node_fits s.node) rest.0 in
    let numbers = and_parts (ltb s.number 65536) (eqb s.node.edges (length s.links)) head.0 in
    record { short = leb-true (length (page_bytes s)) 16384 two.0; number = ltb-true s.number 65536 numbers.0; edges = eqb-true s.node.edges (length s.links) numbers.1; links = rest.1 }

state_front_lem : (s : State) → ShortState s → Fitting s → state_front (page_bytes s) ≡ Some s
unfolding body_bytes
state_front_lem s h f =
    let bs = page_bytes s in
    let node = node_bytes s.node in
    let links = flat_map link_bytes s.links in
    let end = sum_bytes (body_bytes s) in
    let near : length links ≤ 16384 = omega (arith, simp length-append at f.short) in
    let first = ap node_front (append_assoc node links end) ∙ node_front_lem s.node h.0 (links ++ end) in
    let all = ap (λ n. fronts link_front n [] (links ++ end)) f.edges ∙ links_front_lem s.links [] end near h.1 f.links in
    state_all bs ((node ++ links) ++ end) (s.node, links ++ end) (s.links, end) s.number refl (omega arith) first all (sym (pair_returns s.number f.number))

pub page_returns : PageReturns
page_returns s h f =
    let same : bytes_eq (page_bytes s) (page_bytes s) ≡ true = (bytes_eq-Decides (page_bytes s) (page_bytes s)).1 refl in
    ap (if_page (page_bytes s)) (state_front_lem s h (fitting s f)) ∙ rw (f, same)

opened : (b : Bool) (t s : State) → cond b (Some t) None ≡ Some s → (b ≡ true) × (t ≡ s)
opened true t s e = (refl, cc)
opened false t s e = let z : ◌≡◌ {A = ℕ} 0 1 = cc in absurd (omega arith)

-- what is accepted
accepted : (bs : List ℕ) (o : Option State) (s : State) → if_page bs o ≡ Some s → (bs ≡ page_bytes s) × (fits s ≡ true)
accepted bs None s e = let z : ◌≡◌ {A = ℕ} 0 1 = cc in absurd (omega arith)
accepted bs (Some t) s e =
    let o = opened (fits t && bytes_eq (page_bytes t) bs) t s e in
    let both = and_parts (fits t) (bytes_eq (page_bytes t) bs) o.0 in
    (sym ((bytes_eq-Decides (page_bytes t) bs).0 both.1) ∙ ap page_bytes o.1, ap fits (sym o.1) ∙ both.0)

pub page_read_only : PageReadOnly
page_read_only bs s e = accepted bs (state_front bs) s e

pub page_short : PageShort
page_short s f = (fitting s f).short
