use Rattle.std.specs.Prelude.{true, false, not}
use Rattle.std.specs.FinMap as map
use Rattle.std.proofs.Common.{◌≡◌, sym, ◌∙◌, ap}
use Rattle.alp_base.specs.declared.key.Key.TheVariants.{OwnerOf}
use Rattle.alp_files.specs.Cells.{same_name}
use Rattle.alp_files.proofs.SameLemmas.{same_name-itself}
use Rattle.alp_wal.specs.Wal.{anchor_of}
use Rattle.alp_store.specs.Shelves.{shelf_log}
use Rattle.alp_store.specs.Told.{contents_of}
use Rattle.alp_store.proofs.CellLaws.{an_owner, no_owner, own_name}
use Rattle.alp_store.proofs.Holdings.{read_shelf}
use Rattle.alp_store.proofs.shelf.Shelf.owner.Goals as goal

pub returns-in_err-record-clause-shelf : goal.returns-in_err-record-clause-shelf
returns-in_err-record-clause-shelf g c = read_shelf g.D.Disk c.args.self.now c.fetch_owner.new.reader c.fetch_owner.ensures.read.on c.requires

pub returns-in_default-2-clause-shelf : goal.returns-in_default-2-clause-shelf
returns-in_default-2-clause-shelf g c = read_shelf g.D.Disk c.args.self.now c.fetch_owner.new.reader c.fetch_owner.ensures.read.on c.requires

pub returns-then-ne-clause-shelf : goal.returns-then-ne-clause-shelf
returns-then-ne-clause-shelf g c = read_shelf g.D.Disk c.args.self.now c.fetch_owner.new.reader c.fetch_owner.ensures.read.on c.requires

pub returns-clause-shelf : goal.returns-clause-shelf
returns-clause-shelf g c = read_shelf g.D.Disk c.args.self.now c.fetch_owner.new.reader c.fetch_owner.ensures.read.on c.requires

pub returns-in_default-2-clause-cell : goal.returns-in_default-2-clause-cell
returns-in_default-2-clause-cell g c told =
    let w = shelf_log c.args.self.now in
    let p = c.requires.knows told in
    let m = (contents_of g.D.Disk w).cells in
    let row = sym (p.knows.rows c.args.name.now) ∙ (sym c.get.ensures ∙ c.in-Some.is) in
    no_owner m c.args.name.now p.stands.sound.0 (sym c.in_default-2.is ∙ c.in_ok-record.ensures.record (anchor_of w).sizes.home p.stands.volume (map.get m) c.args.name.now told p.stands.spells row)

pub returns-clause-cell : goal.returns-clause-cell
returns-clause-cell g c told =
    let w = shelf_log c.args.self.now in
    let p = c.requires.knows told in
    let m = (contents_of g.D.Disk w).cells in
    let row = sym (p.knows.rows c.args.name.now) ∙ (sym c.get.ensures ∙ c.in-Some.is) in
    an_owner (map.get m (OwnerOf c.args.name.now)) c.in-Some-2.record (sym c.in-Some-2.is ∙ c.in_ok-record.ensures.record (anchor_of w).sizes.home p.stands.volume (map.get m) c.args.name.now told p.stands.spells row)

pub returns-then-ne-clause-cell : goal.returns-then-ne-clause-cell
returns-then-ne-clause-cell g c told =
    let w = shelf_log c.args.self.now in
    let p = c.requires.knows told in
    let m = (contents_of g.D.Disk w).cells in
    let row = sym (p.knows.rows c.args.name.now) ∙ (sym c.get.ensures ∙ c.in-Some.is) in
    let same = own_name m c.args.name.now c.in-Some-2.record p.stands.sound.0 (sym c.in-Some-2.is ∙ c.in_ok-record.ensures.record (anchor_of w).sizes.home p.stands.volume (map.get m) c.args.name.now told p.stands.spells row) in
    let yes : same_name c.in-Some-2.record.name c.args.name.now ≡ true = ap (same_name c.in-Some-2.record.name) (sym same) ∙ same_name-itself c.in-Some-2.record.name in
    let other : true ≡ not (same_name c.in-Some-2.record.name c.args.name.now) = sym c.if-ne.true ∙ c.ne.ensures in
    let bad : true ≡ false = other ∙ ap not yes in
    cc
