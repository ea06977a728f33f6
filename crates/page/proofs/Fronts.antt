-- What is read from the front of bytes, one step at a time.
use Rattle.std.proofs.Common.{◌≡◌, ℕ, zero, suc, ◌-◌, ◌<◌, ◌≤◌, false, ltb, List, [], ◌∷◌, ◌++◌, length, get_or, take, drop, Some, Option, sym, ap, ◌∙◌, arith}
use Rattle.std.proofs.lemmas.Bool.{le-ltb}
use Rattle.message.specs.declared.messages.Message.{Message}
use Rattle.message.specs.Bytes.{word_at, message_of}
use Rattle.link.specs.Ends.{End}
use Rattle.node.specs.declared.state.Node.{Node}
use Rattle.station.specs.State.{State}
use Rattle.page.specs.Reading.{pair_at, size_of, with_rest, and_then, end_at, Front, fronts, node_front, message_front, queue_front, link_front, state_front}

module _ (bs : List ℕ) where
  pub front_read : (n : ℕ) → n ≡ size_of (get_or bs 0 0) → 1 ≤ length bs → n ≤ length bs → message_front bs ≡ with_rest (message_of (take n bs)) (drop n bs)
  unfolding message_front
  front_read n e p q =
      let a = le-ltb (length bs) 1 p in
      let b : ltb (length bs) (size_of (get_or bs 0 0)) ≡ false = ap (ltb (length bs)) (sym e) ∙ le-ltb (length bs) n q in
      rw (a, b) (ap (λ k. with_rest (message_of (take k bs)) (drop k bs)) (sym e))

module _ {A : Type 0} (f : List ℕ → Front A) where
  pub fronts_none : (n : ℕ) (xs : List A) (bs : List ℕ) → n ≡ 0 → fronts f n xs bs ≡ Some (xs, bs)
  unfolding fronts
  fronts_none n xs bs e = rw e

  pub fronts_step : (n : ℕ) (xs : List A) (bs : List ℕ) → 0 < n → fronts f n xs bs ≡ and_then (f bs) (λ p. fronts f (n - 1) (xs ++ (p.0 ∷ [])) p.1)
  unfolding fronts
  fronts_step zero xs bs h = absurd (omega arith)
  fronts_step (suc n) xs bs h = let s : suc n - 1 ≡ n = omega arith in rw s

  pub fronts_more : (n : ℕ) (xs : List A) (bs : List ℕ) (p : A × List ℕ) → 0 < n → f bs ≡ Some p → fronts f n xs bs ≡ fronts f (n - 1) (xs ++ (p.0 ∷ [])) p.1
  fronts_more n xs bs p h e = fronts_step n xs bs h ∙ ap (λ o. and_then o (λ q. fronts f (n - 1) (xs ++ (q.0 ∷ [])) q.1)) e

module _ (bs : List ℕ) where
  pub queue_read : (n : ℕ) (rest : List ℕ) → n ≡ pair_at bs 0 → rest ≡ drop 2 bs → 2 ≤ length bs → queue_front bs ≡ fronts message_front n [] rest
  unfolding queue_front
  queue_read n rest e f h = let a = le-ltb (length bs) 2 h in rw (a, e, f)

  -- a link, and a link whose outbox is known
  abbrev pub with_inbox : List Message × List ℕ → List Message × List ℕ → Option (End × List ℕ)
  with_inbox out inn = Some (end_at bs out.0 inn.0, inn.1)

  abbrev pub with_outbox : List Message × List ℕ → Option (End × List ℕ)
  with_outbox out = and_then (queue_front out.1) (with_inbox out)

  pub link_read : (rest : List ℕ) → rest ≡ drop 10 bs → 10 ≤ length bs → link_front bs ≡ and_then (queue_front rest) with_outbox
  unfolding link_front
  link_read rest f h = let a = le-ltb (length bs) 10 h in rw (a, f)

  pub link_out : (rest : List ℕ) (out : List Message × List ℕ) → rest ≡ drop 10 bs → 10 ≤ length bs → queue_front rest ≡ Some out → link_front bs ≡ with_outbox out
  link_out rest out f h e = link_read rest f h ∙ ap (λ o. and_then o with_outbox) e

  pub link_all : (rest : List ℕ) (out inn : List Message × List ℕ) (n a t : ℕ) → rest ≡ drop 10 bs → 10 ≤ length bs → queue_front rest ≡ Some out → queue_front out.1 ≡ Some inn →
      n ≡ pair_at bs 0 → a ≡ word_at bs 2 → t ≡ word_at bs 6 →
      link_front bs ≡ Some (record { neighbour = n; acknowledged = a; outbox = out.0; taken = t; inbox = inn.0 }, inn.1)
  link_all rest out inn n a t f h e g p q r = link_out rest out f h e ∙ (ap (λ o. and_then o (with_inbox out)) g ∙ rw (p, q, r))

  -- a state, and a state whose node is known
  abbrev pub with_links : Node → List End × List ℕ → Option State
  with_links n ls = Some (record { number = pair_at bs 5; node = n; links = ls.0 })

  abbrev pub with_node : Node × List ℕ → Option State
  with_node n = and_then (fronts link_front n.0.edges [] n.1) (with_links n.0)

  pub state_read : (rest : List ℕ) → rest ≡ drop 7 bs → 7 ≤ length bs → state_front bs ≡ and_then (node_front rest) with_node
  unfolding state_front
  state_read rest f h = let a = le-ltb (length bs) 7 h in rw (a, f)

  pub state_node : (rest : List ℕ) (n : Node × List ℕ) → rest ≡ drop 7 bs → 7 ≤ length bs → node_front rest ≡ Some n → state_front bs ≡ with_node n
  state_node rest n f h e = state_read rest f h ∙ ap (λ o. and_then o with_node) e

  pub state_all : (rest : List ℕ) (n : Node × List ℕ) (ls : List End × List ℕ) (k : ℕ) → rest ≡ drop 7 bs → 7 ≤ length bs → node_front rest ≡ Some n → fronts link_front n.0.edges [] n.1 ≡ Some ls →
      k ≡ pair_at bs 5 → state_front bs ≡ Some (record { number = k; node = n.0; links = ls.0 })
  state_all rest n ls k f h e g p = state_node rest n f h e ∙ (ap (λ o. and_then o (with_links n.0)) g ∙ rw p)
