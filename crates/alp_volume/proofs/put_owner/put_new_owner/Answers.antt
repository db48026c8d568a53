use Rattle.std.specs.Prelude.{true, slice_set}
use Rattle.std.specs.FinMap as map
use Rattle.std.proofs.Common.{◌≡◌, ◌<◌, ◌∷◌, [], ℕ, refl, sym, subst}
use Rattle.std.proofs.lemmas.Result.{on_ok_weaker}
use Rattle.alp_base.specs.declared.key.Key.TheVariants.{OwnerOf}
use Rattle.alp_base.specs.declared.cell.Cell.TheVariants as cell
use Rattle.alp_files.specs.Edits.{Put, after}
use Rattle.alp_volume.specs.declared.catalog.Catalog.{Catalog}
use Rattle.alp_volume.specs.Drafts.{IsDraft, laid}
use Rattle.alp_tables.proofs.FreeLaws.{free_within}
use Rattle.alp_volume.proofs.DraftLaws.{owner_made}
use Rattle.alp_volume.proofs.put_owner.put_new_owner.Goals as goal

pub returns-clause-put : goal.returns-clause-put
returns-clause-put g c home m tells draft =
    let catalog = c.args.catalog.now in
    let o = c.args.owner.now in
    let row = c.in-Ok.row in
    let long = free_within catalog.rows row c.in-Ok.ensures.free in
    let low : row < 256 = subst (λ (n : ℕ). row < n) c.requires.sized.rows long in
    on_ok_weaker c.write_row.result
    (λ w. subst (λ (k : Catalog). IsDraft home (laid c.write_row.new.draft.pages (g.R.PageReader.pages c.args.reader.now)) (after (Put (OwnerOf o.name) (cell.Owner o) ∷ []) m) k) (sym c.in-Ok.ensures.taken)
    (owner_made home (g.R.PageReader.pages c.args.reader.now) c.args.draft.now.pages c.write_row.new.draft.pages m row o w.0 w.1 w.2 catalog draft c.requires.new low long c.in-Ok.ensures.free (map.insert catalog.owners o.name row) (slice_set catalog.rows row true) refl refl))
    (c.write_row.ensures.written tells)

pub returns-clause-sized : goal.returns-clause-sized
returns-clause-sized g c = c.take_row.ensures.sized (g.R.PageReader.home c.args.reader.now) c.requires.sized
