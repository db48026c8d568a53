use Rattle.std.specs.Prelude.{Some, true, slice_set}
use Rattle.std.proofs.Common.{◌≡◌, ◌∙◌, ◌%◌, ℕ, refl, sym, ap, subst, arith}
use Rattle.std.proofs.lemmas.Result.{on_ok_weaker}
use Rattle.std.specs.FinMap as map
use Rattle.alp_base.specs.declared.key.Key.TheVariants.{PageOf}
use Rattle.std.proofs.Common.{◌∷◌, []}
use Rattle.alp_base.specs.declared.cell.Cell.TheVariants as cell
use Rattle.alp_files.specs.Edits.{Put, after}
use Rattle.alp_volume.specs.declared.catalog.Catalog.{Catalog}
use Rattle.alp_volume.specs.Drafts.{Changed, IsDraft, laid}
use Rattle.alp_volume.proofs.PutLaws.{names_new, free_place, page_new}
use Rattle.alp_volume.proofs.put_page.put_new_page.Goals as goal

pub page-requires : goal.page-requires
page-requires c =
    let bounds = free_place c.requires.home.0 c.args.catalog.now c.in_ok-place.place c.requires.home.1 c.in_ok-place.ensures.free in
    rw c.set.ensures (names_new c.args.row.now (c.args.number % 128) c.in_ok-place.place (omega (arith, c.requires.row)) (omega (arith, bounds.0)))

pub returns-clause-put : goal.returns-clause-put
returns-clause-put c home base m f d sized here reads zero_ =
    let old = c.args.draft.now.pages in
    let catalog = c.args.catalog.now in
    let p = c.in_ok-place.place in
    on_ok_weaker c.write.result
    (λ w. subst (λ (k : Catalog). IsDraft home (laid c.write.new.self.pages base) (after (Put (PageOf f c.args.number) (cell.Page c.args.page) ∷ []) m) k) (sym c.in_ok-place.ensures.taken)
    (page_new home base old c.write.new.self.pages m catalog d f c.args.number c.args.index_at here c.args.row.now reads c.args.page p c.page-2.result zero_ sized c.in_ok-place.ensures.free (c.page-2.ensures ∙ ap Some c.set.ensures)
    (w ∙ ap (λ (s : Changed). map.insert s c.args.index_at c.page-2.result) c.in_ok-share.ensures.ok) (slice_set catalog.places p true) refl))
    c.write.ensures.ok
