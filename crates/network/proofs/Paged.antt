-- Every station of a standing world has its page: each field has its bytes, and the page is far from full.
use Rattle.std.proofs.Common.{◌≡◌, ℕ, zero, suc, ◌+◌, ◌*◌, ◌<◌, ◌≤◌, Bool, true, ◌&&◌, eqb, ltb, leb, List, [], ◌∷◌, ◌++◌, map, length, get_or, Some, None, Option, refl, arith, length-append}
use Rattle.std.proofs.lemmas.List.{length-map}
use Rattle.std.specs.List.{flat_map, list_all}
use Rattle.message.specs.declared.messages.Message.{Message}
use Rattle.message.specs.declared.messages.Message.TheVariants.{Connect, Initiate, Test, Accept, Reject, Report, Change}
use Rattle.message.specs.Bytes as message
use Rattle.message.specs.Bytes.{word, message_bytes, sealed}
use Rattle.node.specs.declared.state.Best.{Best}
use Rattle.node.specs.declared.state.Best.TheVariants.{Nothing, Over}
use Rattle.node.specs.declared.state.Node.{Node}
use Rattle.node.specs.Laws as laws
use Rattle.node.specs.Laws.{There, Within}
use Rattle.link.specs.Ends.{End}
use Rattle.link.specs.Copper.{Was, first, later}
use Rattle.station.specs.State.{State, no_link, link_in}
use Rattle.page.specs.Page.{mark_byte, best_edge, field_bytes, node_bytes, queue_bytes, number_bytes, link_bytes, body_bytes, page_bytes, place_fits, node_fits, numbers_fit, link_fits, head_fits, fields_fit, fits}
use Rattle.graph.specs.Graph.{Graph}
use Rattle.protocol.specs.Net.{Near}
use Rattle.network.specs.Network.{state_in, World}
use Rattle.network.proofs.View.{leads_long}
use Rattle.network.proofs.Moves.{Ground}
use Rattle.network.proofs.Worlds.{Stands}
use Rattle.network.proofs.Holding.{node_shape, node_sound, count_low, neighbour_low, inbox_short, outbox_short, inbox_fits_lem, outbox_fits_lem, numbers_low}

-- all of a list pass
pass_all : {X : Type 0} (p : X → Bool) (d : X) (xs : List X) → ((k : ℕ) → k < length xs → p (get_or xs k d) ≡ true) → list_all p xs ≡ true
pass_all p d [] h = refl
pass_all p d (x ∷ xs) h = let a = h 0 (omega arith) in rw a (pass_all p d xs (λ k l. h (suc k) (omega arith)))

pass_was : (ms : List Message) → ((m : Message) → Was m ms → message.fits m ≡ true) → list_all message.fits ms ≡ true
pass_was [] h = refl
pass_was (m ∷ ms) h = let a = h m first in rw a (pass_was ms (λ x v. h x (later v)))

-- joined lists of at most c each
joined_most : {X : Type 0} (f : X → List ℕ) (c : ℕ) (d : X) (xs : List X) (n : ℕ) → length xs ≤ n → ((k : ℕ) → k < length xs → length (f (get_or xs k d)) ≤ c) → length (flat_map f xs) ≤ n * c
joined_most f c d [] n l h = omega arith
joined_most f c d (x ∷ xs) zero l h = absurd (omega arith)
joined_most f c d (x ∷ xs) (suc n) l h = omega (arith, length-append (f x) (flat_map f xs), h 0 (omega arith), joined_most f c d xs n (omega arith) (λ k g. h (suc k) (omega arith)))

message_short : (m : Message) → length (message_bytes m) ≤ 7
message_short (Connect l) = omega arith
message_short (Initiate l n p) = omega arith
message_short (Test l n) = omega arith
message_short Accept = omega arith
message_short Reject = omega arith
message_short (Report b) = omega arith
message_short Change = omega arith

queue_short : (ms : List Message) (n : ℕ) → length ms ≤ n → length (queue_bytes ms) ≤ 2 + n * 7
queue_short ms n l = let j = joined_most message_bytes 7 Accept ms n l (λ k h. message_short (get_or ms k Accept)) in omega arith

link_short : (e : End) → length e.outbox ≤ 12 → length e.inbox ≤ 11 → length (link_bytes e) ≤ 175
link_short e o q =
    omega (arith, length-append (number_bytes e) (queue_bytes e.outbox ++ queue_bytes e.inbox), length-append (queue_bytes e.outbox) (queue_bytes e.inbox), queue_short e.outbox 12 o, queue_short e.inbox 11 q)

node_long : (n : Node) → Within n → length (node_bytes n) ≤ 96
node_long n w =
    let a = joined_most word 4 0 n.weights 16 (let e = w.weight_places in omega arith) (λ k l. omega arith) in
    let b = length-map n.marks mark_byte in
    let c = w.mark_places in
    omega (arith, length-append (field_bytes n) (flat_map word n.weights ++ map mark_byte n.marks), length-append (flat_map word n.weights) (map mark_byte n.marks))

-- a place that is there has its byte
place_fits_lem : (n : Node) (o : Option ℕ) → There n o → place_fits o ≡ true
place_fits_lem n None h = refl
place_fits_lem n (Some k) h = grind arith

best_fits : (n : Node) (b : Best) → There n (laws.best_edge b) → place_fits (best_edge b) ≡ true
best_fits n Nothing h = refl
best_fits n (Over k v) h = place_fits_lem n (Some k) h

all_of : (a b c d e f : Bool) → a ≡ true → b ≡ true → c ≡ true → d ≡ true → e ≡ true → f ≡ true → (a && b && c && d && e && f) ≡ true
all_of a b c d e f p q r s t u = rw (p, q, r, s, t, u)

node_fits_lem : (n : Node) → Within n → laws.Sound n → n.find_count ≤ 16 → node_fits n ≡ true
node_fits_lem n w s c =
    all_of (leb n.edges 16) (ltb n.level 256) (ltb n.find_count 256) (place_fits n.parent) (place_fits (best_edge n.best)) (place_fits n.testing)
    (let l = w.few in grind arith) (let l = s.low in grind arith) (grind arith) (place_fits_lem n n.parent w.parent_there) (best_fits n n.best w.best_there) (place_fits_lem n n.testing w.testing_there)

both_of_lem : (a b : Bool) → a ≡ true → b ≡ true → (a && b) ≡ true
both_of_lem a b p q = rw (p, q)

link_fits_lem : (e : End) → e.neighbour < 256 → e.acknowledged + length e.outbox ≤ 142592 → ((m : Message) → Was m e.outbox → message.fits m ≡ true) → ((m : Message) → Was m e.inbox → message.fits m ≡ true) → link_fits e ≡ true
link_fits_lem e n a o q =
    both_of_lem (numbers_fit e && list_all message.fits e.outbox) (list_all message.fits e.inbox)
    (both_of_lem (numbers_fit e) (list_all message.fits e.outbox) (both_of_lem (ltb e.neighbour 65536) (leb (e.acknowledged + length e.outbox) 4294967295) (grind arith) (grind arith)) (pass_was e.outbox o)) (pass_was e.inbox q)

sealed_long : (bs : List ℕ) → length (sealed bs) ≡ length bs + 2
sealed_long bs = length-append bs _

page_short : (s : State) → Within s.node → length s.links ≤ 16 → ((k : ℕ) → k < length s.links → length (link_bytes (link_in s.links k)) ≤ 175) → length (page_bytes s) ≤ 16384
unfolding body_bytes
page_short s w l h =
    let a = node_long s.node w in
    let b = joined_most link_bytes 175 no_link s.links 16 l h in
    omega (arith, sealed_long (body_bytes s), length-append (node_bytes s.node) (flat_map link_bytes s.links))

fields_fit_lem : (s : State) → head_fits s ≡ true → list_all link_fits s.links ≡ true → fields_fit s ≡ true
unfolding fields_fit
fields_fit_lem s a b = both_of_lem (head_fits s) (list_all link_fits s.links) a b

module _ (g : Graph) (near : Near) (ground : Ground g near) (w : World) (world : Stands g near w) (i : ℕ) (inside : i < g.count) where
  abbrev s : State
  s = state_in w.states i

  long : length s.links ≡ length (near i)
  long = leads_long s.links (near i) (world.links i inside)

  lower : (k : ℕ) → k < length s.links → k < length (near i)
  lower k l = let e = long in omega arith

  short : length (page_bytes s) ≤ 16384
  short =
      page_short s (node_shape g near ground w world i inside).within (let e = long in let f = ground.placed.few i in omega arith)
      (λ k l. link_short (link_in s.links k) (outbox_short g near ground w world i inside k (lower k l)) (inbox_short g near ground w world i inside k (lower k l)))

  heads : head_fits s ≡ true
  heads =
      both_of_lem (ltb s.number 65536 && eqb s.node.edges (length s.links)) (node_fits s.node)
      (both_of_lem (ltb s.number 65536) (eqb s.node.edges (length s.links)) (let e = world.number i inside in let f = ground.few in grind arith) (let e = (node_shape g near ground w world i inside).edges in let f = long in grind arith))
      (node_fits_lem s.node (node_shape g near ground w world i inside).within (node_sound g near ground w world i inside) (count_low g near ground w world i inside))

  all_links : list_all link_fits s.links ≡ true
  all_links =
      pass_all link_fits no_link s.links
      (λ k l. link_fits_lem (link_in s.links k) (neighbour_low g near ground w world i inside k (lower k l)) (numbers_low g near ground w world i inside k (lower k l)) (outbox_fits_lem g near ground w world i inside k (lower k l)) (inbox_fits_lem g near ground w world i inside k (lower k l)))

  -- EVERY PAGE IS THERE.
  pub page_fits : fits (state_in w.states i) ≡ true
  page_fits = both_of_lem (leb (length (page_bytes s)) 16384) (fields_fit s) (let l = short in grind arith) (fields_fit_lem s heads all_links)
