use Rattle.std.specs.Prelude.{option_map, ℕ}
use Rattle.std.specs.FinMap as map
use Rattle.std.proofs.Common.{sym, ◌∙◌, ap, subst}
use Rattle.alp_base.specs.declared.faults.Sizes.{Sizes}
use Rattle.alp_base.specs.declared.cell.Cell.TheVariants as cell
use Rattle.alp_pages.specs.Volume.{Spells}
use Rattle.alp_wal.specs.Wal.{anchor_of}
use Rattle.alp_volume.proofs.KnowsLaws.{leader_there}
use Rattle.alp_store.specs.Shelves.{shelf_log}
use Rattle.alp_store.specs.Told.{pages_of, told_by, contents_of}
use Rattle.alp_store.proofs.CellLaws.{no_late}
use Rattle.alp_store.proofs.Holdings.{read_shelf}
use Rattle.alp_store.proofs.shelf.Shelf.page_of.Goals as goal

pub returns-then-number-ge-PAGES_PER_FILE-clause-cell : goal.returns-then-number-ge-PAGES_PER_FILE-clause-cell
returns-then-number-ge-PAGES_PER_FILE-clause-cell g c told =
    let w = shelf_log c.args.self.now in
    no_late (anchor_of w).sizes.home (pages_of (told_by g.D.Disk w)) (contents_of g.D.Disk w).cells c.args.file c.args.number (c.requires.knows told).stands c.if-number-ge-PAGES_PER_FILE.true

pub returns-in_err-page-clause-shelf : goal.returns-in_err-page-clause-shelf
returns-in_err-page-clause-shelf g c = read_shelf g.D.Disk c.args.self.now c.fetch_page.new.reader c.fetch_page.ensures.read.on c.requires

pub returns-in-Some-2-clause-shelf : goal.returns-in-Some-2-clause-shelf
returns-in-Some-2-clause-shelf g c = read_shelf g.D.Disk c.args.self.now c.fetch_page.new.reader c.fetch_page.ensures.read.on c.requires

pub returns-in-None-clause-shelf : goal.returns-in-None-clause-shelf
returns-in-None-clause-shelf g c = read_shelf g.D.Disk c.args.self.now c.fetch_page.new.reader c.fetch_page.ensures.read.on c.requires

pub returns-in-Some-2-clause-cell : goal.returns-in-Some-2-clause-cell
returns-in-Some-2-clause-cell g c told =
    let w = shelf_log c.args.self.now in
    let p = c.requires.knows told in
    let view = map.get (contents_of g.D.Disk w).cells in
    let at = pages_of (told_by g.D.Disk w) in
    let there = leader_there (anchor_of w).sizes.home p.stands.volume c.args.self.now.catalog p.knows c.args.file c.in-Some.kept (sym c.get.ensures ∙ c.in-Some.is) in
    let spells = subst (λ (h : ℕ). Spells h at p.stands.volume view) (ap (λ (z : Sizes). z.home) (sym c.sizes-home.ensures)) p.stands.spells in
    ap (option_map cell.Page) (sym c.in-Some-2.is) ∙ c.in_ok-page.ensures.page p.stands.volume view told spells there

pub returns-in-None-clause-cell : goal.returns-in-None-clause-cell
returns-in-None-clause-cell g c told =
    let w = shelf_log c.args.self.now in
    let p = c.requires.knows told in
    let view = map.get (contents_of g.D.Disk w).cells in
    let at = pages_of (told_by g.D.Disk w) in
    let there = leader_there (anchor_of w).sizes.home p.stands.volume c.args.self.now.catalog p.knows c.args.file c.in-Some.kept (sym c.get.ensures ∙ c.in-Some.is) in
    let spells = subst (λ (h : ℕ). Spells h at p.stands.volume view) (ap (λ (z : Sizes). z.home) (sym c.sizes-home.ensures)) p.stands.spells in
    ap (option_map cell.Page) (sym c.in-None.is) ∙ c.in_ok-page.ensures.page p.stands.volume view told spells there
