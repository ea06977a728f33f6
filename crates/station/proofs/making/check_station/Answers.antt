-- Each turn passes over a neighbour without a fault.
use Rattle.std.proofs.Common.{◌≡◌, ℕ, zero, suc, ◌+◌, ◌-◌, ◌<◌, ◌≤◌, List, length, get_or, take, Some, None, sym, refl, ◌∙◌, add-one, arith}
use Rattle.std.proofs.lemmas.Result.{err_from_is_err_and}
use Rattle.graph.specs.declared.edge.Neighbour.{Neighbour}
use Rattle.graph.specs.declared.fault.Fault.{Fault}
use Rattle.station.specs.Making.{nobody, neighbour_fault, fault_below, station_fault}
use Rattle.station.proofs.making.check_station.Goals as goal

fault_more : (i : ℕ) (ns : List Neighbour) (k : ℕ) → fault_below i ns k ≡ None → fault_below i ns (k + 1) ≡ neighbour_fault i (take k ns) (get_or ns k nobody)
unfolding fault_below
fault_more i ns k e = rw (add-one, e)

-- the first fault is the fault of all
fault_on : (i : ℕ) (ns : List Neighbour) (k : ℕ) (f : Fault) → fault_below i ns k ≡ Some f → (m : ℕ) → fault_below i ns (k + m) ≡ Some f
unfolding fault_below
fault_on i ns k f e zero = let z : k + 0 ≡ k = omega arith in rw z e
fault_on i ns k f e (suc m) = let z : k + suc m ≡ suc (k + m) = omega arith in rw (z, fault_on i ns k f e m)

fault_all : (i : ℕ) (ns : List Neighbour) (k : ℕ) (f : Fault) → k < length ns → fault_below i ns (k + 1) ≡ Some f → fault_below i ns (length ns) ≡ Some f
fault_all i ns k f h e = let z : k + 1 + (length ns - (k + 1)) ≡ length ns = omega arith in rw z at (fault_on i ns (k + 1) f e (length ns - (k + 1)))

checked : (i : ℕ) (ns : List Neighbour) → i < 256 → length ns ≤ 16 → station_fault i ns ≡ fault_below i ns (length ns)
checked i ns h l = grind arith

pub loop-place-init : goal.loop-place-init
unfolding fault_below
loop-place-init c = refl

pub returns-in_err-check_neighbour : goal.returns-in_err-check_neighbour
returns-in_err-check_neighbour c =
    let i = c.args.number in
    let ns = c.args.neighbours.now in
    let k = c.loop-place.place in
    let p = err_from_is_err_and c.from_residual.result c.from_residual.ensures.1 in
    rw (p.1, p.2)
    (sym (checked i ns c.if-number-ge256.false c.if-neighbours-gt16.false ∙
    fault_all i ns k c.in_err-check_neighbour.field-0.0 c.loop-place-test.true (fault_more i ns k c.loop-place.invariant ∙ sym c.in_err-check_neighbour.ensures)))

pub loop-place-preserved : goal.loop-place-preserved
loop-place-preserved c = fault_more c.args.number c.args.neighbours.now c.loop-place.place c.loop-place.invariant ∙ sym c.in_ok-check_neighbour.ensures
