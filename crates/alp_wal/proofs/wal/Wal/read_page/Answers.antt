use Rattle.std.proofs.Common.{◌≡◌, Some, None, refl, sym, ap, ◌∙◌, arith}
use Rattle.std.specs.Prelude.{slice_index_or}
use Rattle.std.specs.Option.{option_copied}
use Rattle.alp_record.proofs.Bodies.{on_ok}
use Rattle.alp_wal.specs.Reading.{home_pages, home_first}
use Rattle.alp_wal.proofs.States.{shown_some, shown_none, page_from, length-pages_from}
use Rattle.alp_wal.proofs.Commits.{known_kept}
use Rattle.alp_wal.proofs.wal.Wal.read_page.Goals as goal

pub returns-in-Some-clause-page : goal.returns-in-Some-clause-page
returns-in-Some-clause-page g c told =
    let w = c.args.self.now in
    let image = g.D.Disk.seen w.disk in
    let there : slice_index_or w.index c.args.at None ≡ Some c.in-Some.image.now = sym c.get.ensures ∙ ap option_copied c.in-Some.is in
    c.copied.ensures ∙ sym (shown_some (home_pages image w.anchor) w.index c.args.at c.in-Some.image.now there (omega (arith, c.requires.at, length-pages_from image (home_first w.anchor) w.anchor.sizes.home)))

pub returns-clause-page : goal.returns-clause-page
returns-clause-page g c told =
    let w = c.args.self.now in
    let image = g.D.Disk.seen w.disk in
    let none : slice_index_or w.index c.args.at None ≡ None = sym c.get.ensures ∙ ap option_copied c.in_default.is in
    on_ok c.read.result _ _
    (λ bytes. bytes ∙ sym (shown_none (home_pages image w.anchor) w.index c.args.at none ∙ page_from image (home_first w.anchor) w.anchor.sizes.home c.args.at c.requires.at))
    (c.read.ensures.bytes told)

pub returns-clause-known : goal.returns-clause-known
returns-clause-known g c known = known_kept (sym c.read.ensures.size) (sym c.read.ensures.seen) c.read.ensures.crash refl refl refl refl known
