-- The letters and the number, the node, and the links.
use Rattle.std.proofs.Common.{◌≡◌, true, vec_items, ap, ◌∙◌, sym, append_assoc}
use Rattle.std.specs.List.{list_all}
use Rattle.std.proofs.lemmas.Bool.{and_from}
use Rattle.std.proofs.lemmas.List.Folds.{flat_map-map, list_all-map}
use Rattle.link.specs.Ends.{end_of}
use Rattle.station.specs.State.{state_of}
use Rattle.page.specs.Page.{link_bytes, link_fits, head_fits, fields_fit, body_bytes}
use Rattle.page.proofs.writing.StationToPage.put.Goals as goal

pub returns : goal.returns
unfolding fields_fit body_bytes
returns c =
    let s = state_of c.args.self.now in
    let links = c.args.self.now.links in
    let at = c.deref.ensures.value in
    let done = c.in_ok-put_all.ensures in
    let bytes = flat_map-map link_bytes end_of (vec_items links) in
    let fit : list_all link_fits s.links ≡ true = list_all-map link_fits end_of (vec_items links) ∙ (ap (list_all (λ l. link_fits (end_of l))) (sym at) ∙ done.0) in (
      and_from (head_fits s) (list_all link_fits s.links) (sym c.if-not-head_fits.ensures) fit,
      rw (done.1, at, ← bytes, c.in_ok-put.ensures.1, c.in_ok-extend_from_slice-2.ensures.items, c.in_ok-extend_from_slice.ensures.items, c.pair.ensures) (simp append_assoc),
    )
