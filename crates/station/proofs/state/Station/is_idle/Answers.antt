-- Where there is no link there is nothing to hand over.
use Rattle.std.proofs.Common.{◌≡◌, ℕ, Bool, List, map, Some, None, Bor, Option, IsTrue, MatchOption, vec_items, sym, ap, ◌∙◌, subst, rules}
use Rattle.std.specs.Slice.{IsItemAt}
use Rattle.link.specs.declared.ends.Link.{Link}
use Rattle.link.specs.Ends.{end_of, is_idle}
use Rattle.station.specs.Events.{idle_in}
use Rattle.station.proofs.Links.{link_read, link_past}
use Rattle.station.proofs.state.Station.is_idle.Goals as goal

idle_at : (ls : List Link) (k : ℕ) (o : Option (Bor Link)) (b : Bool) {R : Bor Link → Type 0} → IsItemAt ls k o → MatchOption o (IsTrue b) R → ((x : Bor Link) → R x → b ≡ is_idle (end_of x.now)) → b ≡ idle_in (map end_of ls) k
idle_at ls k None b i m f = m ∙ sym (ap is_idle (link_past ls k i.3))
idle_at ls k (Some x) b i m f = f x m ∙ sym (ap is_idle (link_read ls k x.now i.3.0 i.1))

pub returns : goal.returns
returns c =
    idle_at (vec_items c.args.self.now.links) c.args.place c.get.result c.is_none_or.result (subst (λ v. IsItemAt v c.args.place c.get.result) c.deref.ensures.value c.get.ensures.lookup)
    c.is_none_or.ensures (λ x h. search rules)
