-- A round that took something leaves fewer messages, and the same end; one that took nothing is the end.
use Rattle.std.proofs.Common.{◌≡◌, ◌<◌, Bool, true, false, sym, ap, ◌∙◌, subst}
use Rattle.station.specs.declared.work.Work.{Work}
use Rattle.station.specs.Work.{Progress, progress_of, lap, waiting, works}
use Rattle.station.proofs.Rounds.{lap_fewer, works_afresh, works_on, works_last}
use Rattle.station.proofs.work.Work.work_off.Goals as goal

module _ (p s : Progress) (w : Work) (b : Bool) (e : progress_of w b ≡ lap p) where
  fewer : b ≡ true → waiting (progress_of w false).state < waiting p.state
  fewer t = subst (λ v. waiting v.state < waiting p.state) (sym e) (lap_fewer p (ap (λ v. v.took) (sym e) ∙ t))

  on : b ≡ true → works p ≡ works s → works (progress_of w false) ≡ works s
  on t i = works_afresh (progress_of w b) ∙ (ap works e ∙ (works_on p (ap (λ v. v.took) (sym e) ∙ t) ∙ i))

  last : b ≡ false → works p ≡ works s → progress_of w false ≡ works s
  last t i = ap (progress_of w) (sym t) ∙ (e ∙ (works_last p (ap (λ v. v.took) (sym e) ∙ t) ∙ i))

pub loop-smaller : goal.loop-smaller
loop-smaller c = fewer (progress_of c.loop.self false) (progress_of c.args.self.now false) c.round.new.self c.in_ok-round.field-0 c.in_ok-round.ensures c.if-branch.true

pub loop-preserved : goal.loop-preserved
loop-preserved c = on (progress_of c.loop.self false) (progress_of c.args.self.now false) c.round.new.self c.in_ok-round.field-0 c.in_ok-round.ensures c.if-branch.true c.loop.invariant

pub returns : goal.returns
returns c = last (progress_of c.loop.self false) (progress_of c.args.self.now false) c.round.new.self c.in_ok-round.field-0 c.in_ok-round.ensures c.if-branch.false c.loop.invariant
