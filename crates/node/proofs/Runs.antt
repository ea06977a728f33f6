-- What holds over any number of steps.
use Rattle.node.specs.declared.state.Node.{Node}
use Rattle.node.specs.Laws.{Run, start, next, MarksLast, AlwaysFit, Sound, Within}
use Rattle.node.proofs.Stays.{marks_stay}
use Rattle.node.proofs.Fits.{sends_fit}
use Rattle.node.proofs.Within.{within_edges, fresh_fit}

pub marks_last : MarksLast
marks_last n _ k start = (λ h. h, λ h. h)
marks_last n _ k (next {o} t r s) =
    let before = marks_last n o k r in
    let step = marks_stay o t k s in
    (λ h. step.0 (before.0 h), λ h. step.1 (before.1 h))

run_fit : (n o : Node) → Run n o → Sound n → Within n → Sound o × Within o
run_fit n _ start s w = (s, w)
run_fit n _ (next {o} t r e) s w =
    let before = run_fit n o r s w in
    ((sends_fit o t e before.0).0, (within_edges o t e before.1).0)

pub always_fit : AlwaysFit
always_fit ws n few weights r = let f = fresh_fit ws in run_fit _ n r (f.1 weights) (f.0 few)
