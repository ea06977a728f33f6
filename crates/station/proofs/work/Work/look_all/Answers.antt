-- Each turn is one look more.
use Rattle.std.proofs.Common.{◌≡◌, ℕ, Bool, ◌||◌, length, Some, None, Bor, Option, MatchOption, vec_items, sym, ap, ◌∙◌, subst, rules, arith}
use Rattle.std.specs.Slice.{IsItemAt}
use Rattle.link.specs.declared.ends.Link.{Link}
use Rattle.link.specs.Ends.{end_of}
use Rattle.station.specs.declared.work.Work.{Work}
use Rattle.station.specs.Work.{progress_of, look, looks, waiting_at}
use Rattle.station.proofs.Looks.{looks_none, looks_more, waits_past, waits_here, took_more}
use Rattle.station.proofs.work.Work.look_all.Goals as goal

waits_at : (w : Work) (b : Bool) (k : ℕ) (o : Option (Bor Link)) (n : ℕ) {R : Bor Link → Type 0} → IsItemAt (vec_items w.station.links) k o → MatchOption o (n ≡ 0) R →
    ((x : Bor Link) → R x → n ≡ length (end_of x.now).inbox) → n ≡ waiting_at k (progress_of w b)
waits_at w b k None n i m f = m ∙ sym (waits_past w b k i.3)
waits_at w b k (Some x) n i m f = f x m ∙ sym (waits_here w b k x.now i.3.0 i.1)

pub loop-look-init : goal.loop-look-init
loop-look-init c = λ before. sym (looks_none c.args.place (progress_of c.args.self.now before))

pub loop-look-preserved : goal.loop-look-preserved
loop-look-preserved c = λ before.
    ap (progress_of c.look.new.self) (took_more before c.loop-look.took c.in_ok-took.field-0) ∙
    (c.in_ok-took.ensures (c.loop-look.took || before) ∙ (ap (look c.args.place) (c.loop-look.invariant before) ∙ sym (looks_more c.args.place c.loop-look._look (progress_of c.args.self.now before))))

pub returns : goal.returns
returns c = λ before.
    let w = c.args.self.now in
    let z = waits_at w before c.args.place c.get.result c.map_or-waiting.result (subst (λ v. IsItemAt v c.args.place c.get.result) c.deref.ensures.value c.get.ensures.lookup) c.map_or-waiting.ensures (λ x h. search rules) in
    let k = c.loop-look.auto._look-end in
    c.loop-look.invariant before ∙ ap (λ n. looks c.args.place n (progress_of w before)) (omega (arith, c.loop-look-test.false))
