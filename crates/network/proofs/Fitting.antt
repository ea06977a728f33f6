-- When a station's state has a page: its numbers have their bytes, and twelve messages in an outbox and eleven in an inbox, of at most seven bytes each, are far below a page.
use Rattle.std.proofs.Common.{◌≡◌, ℕ, ◌+◌, ◌*◌, ◌<◌, ◌≤◌, Bool, true, ◌&&◌, eqb, ltb, leb, List, [], ◌∷◌, ◌++◌, map, length, Some, None, sum_by, Option, sym, refl, ap, ◌∙◌, arith}
use Rattle.std.specs.List.{flat_map, AllByRecursion as All, list_all}
use Rattle.std.proofs.lemmas.List.{length-append, length-map}
use Rattle.std.proofs.ByRecursion.{All-from_get_or, All-weaker, sum_by_le, Decides-by_and}
use Rattle.std.proofs.lemmas.List.Sums.{sum_by-cons}
use Rattle.std.proofs.lemmas.Bool.{lt-ltb, le-leb, and_from}
use Rattle.message.specs.declared.messages.Message.{Message}
use Rattle.message.specs.declared.messages.Message.TheVariants.{Connect, Initiate, Test, Accept, Reject, Report, Change}
use Rattle.message.specs.Bytes as message
use Rattle.message.specs.Bytes.{word, message_bytes}
use Rattle.node.specs.declared.state.Best.{Best}
use Rattle.node.specs.declared.state.Best.TheVariants.{Nothing, Over}
use Rattle.node.specs.declared.state.Node.{Node}
use Rattle.node.specs.Laws.{There, Sound, Within}
use Rattle.link.specs.Ends.{End}
use Rattle.link.specs.Copper.{Was, first, later}
use Rattle.station.specs.State.{State, no_link, link_at}
use Rattle.page.specs.Page.{mark_byte, best_edge, field_bytes, node_bytes, queue_bytes, number_bytes, link_bytes, body_bytes, page_bytes, place_fits, node_fits, numbers_fit, link_fits, head_fits, fields_fit, fits}

-- no place, or one of sixteen
abbrev pub Below16 : Option ℕ → Type 0
Below16 None = Unit {0}
Below16 (Some k) = k < 16

-- what a node, a link and a station have to be for a page
pub record NodeRoom (n : Node) : Type 0 where
  pub low : n.level ≤ 8
  pub counts : n.find_count < 256
  pub parent : Below16 n.parent
  pub best : Below16 (best_edge n.best)
  pub testing : Below16 n.testing
  pub weight_places : length n.weights ≡ 16
  pub mark_places : length n.marks ≡ 16

pub record LinkRoom (e : End) : Type 0 where
  pub neighbour : e.neighbour < 256
  pub outbox : length e.outbox ≤ 12
  pub inbox : length e.inbox ≤ 11
  pub numbers : e.acknowledged + length e.outbox ≤ 4294967295
  pub outbox_fits : (m : Message) → Was m e.outbox → message.fits m ≡ true
  pub inbox_fits : (m : Message) → Was m e.inbox → message.fits m ≡ true

pub record Room (s : State) : Type 0 where
  pub number : s.number < 256
  pub edges : s.node.edges ≡ length s.links
  pub few : length s.links ≤ 16
  pub node : NodeRoom s.node
  pub links : (k : ℕ) → k < length s.links → LinkRoom (link_at s k)

-- a node that is sound and within its edges, as one is at every moment, needs only its count to be small
there_below : (n : Node) (o : Option ℕ) → There n o → Below16 o
there_below n None t = tt
there_below n (Some k) t = grind arith

pub node_room : (n : Node) → Sound n → Within n → n.find_count < 256 → NodeRoom n
node_room n s w c =
    record {
      low = s.low;
      counts = c;
      parent = there_below n n.parent w.parent_there;
      best = best n.best w.best_there;
      testing = there_below n n.testing w.testing_there;
      weight_places = w.weight_places;
      mark_places = w.mark_places;
    }
  where
    best : (b : Best) → There n (Rattle.node.specs.Laws.best_edge b) → Below16 (best_edge b)
    best Nothing t = tt
    best (Over k w) t = there_below n (Some k) t

-- how long a list is that is made of others
joined_long : {X : Type 0} (f : X → List ℕ) (xs : List X) → length (flat_map f xs) ≡ sum_by (λ x. length (f x)) xs
joined_long f [] = refl
joined_long f (x ∷ xs) = length-append (f x) (flat_map f xs) ∙ (ap (λ v. length (f x) + v) (joined_long f xs) ∙ sym (sum_by-cons (λ y. length (f y)) x xs))

joined_most : {X : Type 0} (f : X → List ℕ) (most : ℕ) (xs : List X) → All (λ x. length (f x) ≤ most) xs → length (flat_map f xs) ≤ length xs * most
joined_most f most xs h = rw (joined_long f xs) (sum_by_le (λ x. length (f x)) most xs h)

all_so : {X : Type 0} (P : X → Type 0) → ((x : X) → P x) → (xs : List X) → All P xs
all_so P h [] = tt
all_so P h (x ∷ xs) = (h x, all_so P h xs)

all_from_was : {X : Type 0} (P : X → Type 0) (xs : List X) → ((x : X) → Was x xs → P x) → All P xs
all_from_was P [] h = tt
all_from_was P (x ∷ xs) h = (h x first, all_from_was P xs (λ y w. h y (later w)))

passes : {X : Type 0} (p : X → Bool) (xs : List X) → All (λ x. p x ≡ true) xs → list_all p xs ≡ true
passes p xs h = (Decides-by_and p (λ x. p x ≡ true) (list_all p) (λ x. (λ e. e, λ e. e)) refl (λ x ys. refl) xs).1 h

-- THE LENGTH OF A PAGE, part by part.
pub message_long : (m : Message) → length (message_bytes m) ≤ 7
message_long (Connect l) = omega arith
message_long (Initiate l n p) = omega arith
message_long (Test l n) = omega arith
message_long Accept = omega arith
message_long Reject = omega arith
message_long (Report b) = omega arith
message_long Change = omega arith

pub queue_long : (ms : List Message) → length (queue_bytes ms) ≤ 2 + length ms * 7
queue_long ms = omega (arith, joined_most message_bytes 7 ms (all_so (λ m. length (message_bytes m) ≤ 7) message_long ms))

pub field_long : (n : Node) → length (field_bytes n) ≡ 16
field_long n = refl

pub node_long : (n : Node) → NodeRoom n → length (node_bytes n) ≤ 96
node_long n r =
    let w = joined_most word 4 n.weights (all_so (λ k. length (word k) ≤ 4) (λ k. omega arith) n.weights) in
    rw (length-append (field_bytes n) (flat_map word n.weights ++ map mark_byte n.marks), length-append (flat_map word n.weights) (map mark_byte n.marks), length-map n.marks mark_byte)
    (omega (arith, field_long n, r.weight_places, r.mark_places))

pub number_long : (e : End) → length (number_bytes e) ≡ 10
number_long e = refl

pub link_long : (e : End) → LinkRoom e → length (link_bytes e) ≤ 175
link_long e r =
    rw (length-append (number_bytes e) (queue_bytes e.outbox ++ queue_bytes e.inbox), length-append (queue_bytes e.outbox) (queue_bytes e.inbox))
    (omega (arith, number_long e, queue_long e.outbox, queue_long e.inbox, r.outbox, r.inbox))

module _ (s : State) (r : Room s) where
  links_room : All LinkRoom s.links
  links_room = All-from_get_or LinkRoom s.links no_link r.links

  pub body_long : length (body_bytes s) ≤ 2903
  unfolding body_bytes
  body_long =
      let l = joined_most link_bytes 175 s.links (All-weaker LinkRoom (λ e. length (link_bytes e) ≤ 175) link_long s.links links_room) in
      rw (length-append (node_bytes s.node) (flat_map link_bytes s.links)) (omega (arith, node_long s.node r.node, r.few))

  pub page_long : length (page_bytes s) ≤ 2905
  page_long = rw length-append (omega (arith, body_long))

-- EACH FIELD FITS.
place_fits_lem : (o : Option ℕ) → Below16 o → place_fits o ≡ true
place_fits_lem None h = refl
place_fits_lem (Some k) h = lt-ltb k 255 (omega arith)

pub node_fits_lem : (n : Node) → n.edges ≤ 16 → NodeRoom n → node_fits n ≡ true
node_fits_lem n e r =
    let a = place_fits_lem n.parent r.parent in
    let b = place_fits_lem (best_edge n.best) r.best in
    let c = place_fits_lem n.testing r.testing in
    by (place_fits n.parent) (place_fits (best_edge n.best)) (place_fits n.testing) a b c r.low r.counts
  where
    by : (a b c : Bool) → a ≡ true → b ≡ true → c ≡ true → n.level ≤ 8 → n.find_count < 256 → (leb n.edges 16 && ltb n.level 256 && ltb n.find_count 256 && a && b && c) ≡ true
    by a b c p q t l f = grind arith

pub link_fits_lem : (e : End) → LinkRoom e → link_fits e ≡ true
link_fits_lem e r =
    by (list_all message.fits e.outbox) (list_all message.fits e.inbox) (all_fit e.outbox r.outbox_fits) (all_fit e.inbox r.inbox_fits) r.neighbour r.numbers
  where
    all_fit : (ms : List Message) → ((m : Message) → Was m ms → message.fits m ≡ true) → list_all message.fits ms ≡ true
    all_fit ms h = passes message.fits ms (all_from_was (λ m. message.fits m ≡ true) ms h)

    by : (a b : Bool) → a ≡ true → b ≡ true → e.neighbour < 256 → e.acknowledged + length e.outbox ≤ 4294967295 → (numbers_fit e && a && b) ≡ true
    by a b p q l f = grind arith

module _ (s : State) (r : Room s) where
  pub head_fits_lem : head_fits s ≡ true
  head_fits_lem = by (node_fits s.node) (node_fits_lem s.node (omega (arith, r.edges, r.few)) r.node) r.number r.edges
    where
      by : (a : Bool) → a ≡ true → s.number < 256 → s.node.edges ≡ length s.links → (ltb s.number 65536 && eqb s.node.edges (length s.links) && a) ≡ true
      by a p l e = grind arith

  pub fields_fit_lem : fields_fit s ≡ true
  unfolding fields_fit
  fields_fit_lem = and_from (head_fits s) (list_all link_fits s.links) head_fits_lem (passes link_fits s.links (All-weaker LinkRoom (λ e. link_fits e ≡ true) link_fits_lem s.links (links_room s r)))

  -- WHAT HAS ROOM HAS A PAGE.
  pub room_fits : fits s ≡ true
  room_fits = and_from (leb (length (page_bytes s)) 16384) (fields_fit s) (le-leb (length (page_bytes s)) 16384 (omega (arith, page_long s r))) fields_fit_lem
