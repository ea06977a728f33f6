-- What every move of a direction keeps, and so what holds after all of them.
use Rattle.std.proofs.Common.{◌≡◌, ℕ, ◌≤◌, [], ◌∷◌, sym, refl, subst, arith}
use Rattle.message.specs.Bytes.{packet_bytes, packet_of, acknowledgement_of}
use Rattle.link.specs.Copper.{Direction, unused, took_of, answer_of, Move, gives, sends, comes, answers, comes_back, works, Moves}
use Rattle.link.specs.Theorems.{TakenInOrder, NumbersEnd}
use Rattle.link.proofs.Was.{was_one}
use Rattle.link.proofs.Begins.{Begins, begins_itself, begins_through, begins_all}
use Rattle.link.proofs.Edge.{Carried, Edge, edge_unused, edge_give, edge_send, edge_answer, numbered_is}
use Rattle.link.proofs.Handed.{still, Handed, handed_unused, handed_give}
use Rattle.link.proofs.Came.{edge_came, handed_came, edge_came_back, handed_came_back, came_rises, came_back_rises}

-- THE INVARIANT of a direction.
pub record Whole (d : Direction) : Type 0 where
  pub edge : Edge d.from.acknowledged d.from.outbox d.to.taken d.packets d.answers
  pub handed : Handed d.from.acknowledged d.from.outbox d.to.taken d.given d.took

pub whole_unused : (i j : ℕ) → Whole (unused i j)
whole_unused i j = record { edge = edge_unused; handed = handed_unused }

-- Every move keeps it.
pub move_whole : {d e : Direction} → Move d e → Whole d → Whole e
move_whole (gives d m f s) v =
    record { edge = edge_give (m ∷ []) (λ x w. subst (λ y. Carried y) (sym (was_one x m w)) (record { fit = f; short = s })) v.edge; handed = handed_give (m ∷ []) v.edge v.handed }
move_whole (sends d p o) v = record { edge = edge_send p (numbered_is d.from.acknowledged d.from.outbox p o) v.edge; handed = v.handed }
move_whole (comes d bytes c) v = record { edge = edge_came d.to bytes c v.edge; handed = handed_came d.to bytes c v.edge v.handed }
move_whole (answers d) v = record { edge = edge_answer v.edge; handed = v.handed }
move_whole (comes_back d bytes c) v = record { edge = edge_came_back d.from bytes c v.edge; handed = handed_came_back d.from bytes c v.edge v.handed }
move_whole (works d inbox) v = record { edge = v.edge; handed = v.handed }

pub moves_whole : {d e : Direction} → Moves d e → Whole d → Whole e
moves_whole Moves.none v = v
moves_whole (Moves.more ms m) v = move_whole m (moves_whole ms v)

-- What every move leaves: numbers do not fall, and what was given, taken or sent is not forgotten.
pub record Later (d e : Direction) : Type 0 where
  pub acknowledged : d.from.acknowledged ≤ e.from.acknowledged
  pub taken : d.to.taken ≤ e.to.taken
  pub given : Begins d.given e.given
  pub took : Begins d.took e.took
  pub packets : Begins d.packets e.packets
  pub answers : Begins d.answers e.answers

pub later_itself : (d : Direction) → Later d d
later_itself d =
    record { acknowledged = omega arith; taken = omega arith; given = begins_itself d.given; took = begins_itself d.took; packets = begins_itself d.packets; answers = begins_itself d.answers }

pub later_through : {d e f : Direction} → Later d e → Later e f → Later d f
later_through {d} {e} {f} a b =
    record {
      acknowledged = omega (arith, a.acknowledged, b.acknowledged);
      taken = omega (arith, a.taken, b.taken);
      given = begins_through d.given e.given f.given a.given b.given;
      took = begins_through d.took e.took f.took a.took b.took;
      packets = begins_through d.packets e.packets f.packets a.packets b.packets;
      answers = begins_through d.answers e.answers f.answers a.answers b.answers;
    }

pub move_later : {d e : Direction} → Move d e → Later d e
move_later (gives d m f s) =
    let i = later_itself d in record { acknowledged = i.acknowledged; taken = i.taken; given = (m ∷ [], refl); took = i.took; packets = i.packets; answers = i.answers }
move_later (sends d p o) =
    let i = later_itself d in record { acknowledged = i.acknowledged; taken = i.taken; given = i.given; took = i.took; packets = (packet_bytes p ∷ [], refl); answers = i.answers }
move_later (comes d bytes c) =
    let i = later_itself d in
    record { acknowledged = i.acknowledged; taken = came_rises d.to (packet_of bytes); given = i.given; took = (took_of (packet_of bytes) d.to, refl); packets = i.packets; answers = i.answers }
move_later (answers d) =
    let i = later_itself d in record { acknowledged = i.acknowledged; taken = i.taken; given = i.given; took = i.took; packets = i.packets; answers = (answer_of d ∷ [], refl) }
move_later (comes_back d bytes c) =
    let i = later_itself d in
    record { acknowledged = came_back_rises d.from (acknowledgement_of bytes); taken = i.taken; given = i.given; took = i.took; packets = i.packets; answers = i.answers }
move_later (works d inbox) =
    let i = later_itself d in record { acknowledged = i.acknowledged; taken = i.taken; given = i.given; took = i.took; packets = i.packets; answers = i.answers }

pub moves_later : {d e : Direction} → Moves d e → Later d e
moves_later (Moves.none {d = d}) = later_itself d
moves_later (Moves.more ms m) = later_through (moves_later ms) (move_later m)

-- The first theorem: what the invariant says of given and took.
pub taken_in_order : TakenInOrder
taken_in_order i j d ms = let v = moves_whole ms (whole_unused i j) in ((still d.from.acknowledged d.to.taken d.from.outbox, v.handed.order), v.handed.count)

-- Once the last number is taken, none is left that could be taken.
none_left : {d e : Direction} → Whole d → Whole e → Later d e → d.to.taken ≡ 4294967295 → e.took ≡ d.took
none_left {d} {e} v w l a =
    begins_all d.took e.took l.took (omega (arith, v.handed.count, w.handed.count, v.edge.low, l.taken, w.edge.small))

-- The second theorem.
pub numbers_end : NumbersEnd
numbers_end i j d ms =
    let v = moves_whole ms (whole_unused i j) in
    (v.edge.low, v.edge.high, v.edge.small, λ a e ns. none_left v (moves_whole ns v) (moves_later ns) a)
