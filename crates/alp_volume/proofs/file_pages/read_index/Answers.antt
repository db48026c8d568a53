use Rattle.std.specs.Prelude.{Some, Option}
use Rattle.std.proofs.Common.{◌≡◌, List, ℕ, sym, ◌∙◌, ap, subst}
use Rattle.alp_fields.specs.Forms.{whole}
use Rattle.alp_pages.specs.Nodes.{IndexOf}
use Rattle.alp_pages.specs.Pages.{index_page}
use Rattle.alp_pages.specs.Damage.{Name, added, names_of, row_there}
use Rattle.alp_volume.specs.Reached.{AreMarks}
use Rattle.alp_volume.proofs.file_pages.read_index.Goals as goal

pub returns-clause-marked : goal.returns-clause-marked
returns-clause-marked g c home names f b tells marks fresh ok =
    let row : whole index_page (g.R.PageReader.pages c.args.reader.now c.args.place) ≡ Some c.as_slice.result.now =
    ap (whole index_page) (sym (c.bytes.ensures.same ∙ c.in_ok-page.ensures.page tells)) ∙ sym c.decode_index.ensures ∙ c.in-Some.is ∙ ap Some (sym c.as_slice.ensures.same) in
    subst (λ (xs : List ℕ). AreMarks home (added names (names_of (IndexOf f b) xs)) c.mark_row.new.places) (sym (ap row_there row)) (c.mark_row.ensures.marked home names (IndexOf f b) marks fresh ok)
