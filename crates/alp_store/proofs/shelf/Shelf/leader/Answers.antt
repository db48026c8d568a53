use Rattle.std.specs.Prelude.{Some, option_map}
use Rattle.std.specs.FinMap as map
use Rattle.std.proofs.Common.{◌≡◌, sym, ◌∙◌, ap, arith}
use Rattle.alp_base.specs.declared.key.Key.TheVariants.{Leader as LeaderKey}
use Rattle.alp_base.specs.declared.cell.Cell.TheVariants as cell
use Rattle.alp_wal.specs.Wal.{anchor_of}
use Rattle.alp_volume.proofs.KnowsLaws.{leader_there}
use Rattle.alp_store.specs.Shelves.{shelf_log}
use Rattle.alp_store.specs.Told.{pages_of, told_by, contents_of}
use Rattle.alp_store.proofs.CellLaws.{no_large}
use Rattle.alp_store.proofs.Holdings.{read_shelf}
use Rattle.alp_store.proofs.shelf.Shelf.leader.Goals as goal

pub returns-in_err-props-clause-shelf : goal.returns-in_err-props-clause-shelf
returns-in_err-props-clause-shelf g c = read_shelf g.D.Disk c.args.self.now c.fetch_leader.new.reader c.fetch_leader.ensures.read.on c.requires

pub returns-in_default-2-clause-shelf : goal.returns-in_default-2-clause-shelf
returns-in_default-2-clause-shelf g c = read_shelf g.D.Disk c.args.self.now c.fetch_leader.new.reader c.fetch_leader.ensures.read.on c.requires

pub returns-then-props-gt-PAGES_PER_FILE-clause-shelf : goal.returns-then-props-gt-PAGES_PER_FILE-clause-shelf
returns-then-props-gt-PAGES_PER_FILE-clause-shelf g c = read_shelf g.D.Disk c.args.self.now c.fetch_leader.new.reader c.fetch_leader.ensures.read.on c.requires

pub returns-clause-shelf : goal.returns-clause-shelf
returns-clause-shelf g c = read_shelf g.D.Disk c.args.self.now c.fetch_leader.new.reader c.fetch_leader.ensures.read.on c.requires

pub returns-in_default-2-clause-cell : goal.returns-in_default-2-clause-cell
returns-in_default-2-clause-cell g c told =
    let w = shelf_log c.args.self.now in
    let p = c.requires.knows told in
    let there = leader_there (anchor_of w).sizes.home p.stands.volume c.args.self.now.catalog p.knows c.args.file c.in-Some.kept (sym c.get.ensures ∙ c.in-Some.is) in
    ap (option_map cell.Leader) (sym c.in_default-2.is) ∙ c.in_ok-props.ensures.props (anchor_of w).sizes.home p.stands.volume (map.get (contents_of g.D.Disk w).cells) c.args.file told p.stands.spells there

pub returns-clause-cell : goal.returns-clause-cell
returns-clause-cell g c told =
    let w = shelf_log c.args.self.now in
    let p = c.requires.knows told in
    let there = leader_there (anchor_of w).sizes.home p.stands.volume c.args.self.now.catalog p.knows c.args.file c.in-Some.kept (sym c.get.ensures ∙ c.in-Some.is) in
    ap (option_map cell.Leader) (sym c.in-Some-2.is) ∙ c.in_ok-props.ensures.props (anchor_of w).sizes.home p.stands.volume (map.get (contents_of g.D.Disk w).cells) c.args.file told p.stands.spells there

pub returns-then-props-gt-PAGES_PER_FILE-clause-cell : goal.returns-then-props-gt-PAGES_PER_FILE-clause-cell
returns-then-props-gt-PAGES_PER_FILE-clause-cell g c told =
    let w = shelf_log c.args.self.now in
    let p = c.requires.knows told in
    let there = leader_there (anchor_of w).sizes.home p.stands.volume c.args.self.now.catalog p.knows c.args.file c.in-Some.kept (sym c.get.ensures ∙ c.in-Some.is) in
    let got : Some (cell.Leader c.in-Some-2.props) ≡ map.get (contents_of g.D.Disk w).cells (LeaderKey c.args.file) =
    ap (option_map cell.Leader) (sym c.in-Some-2.is) ∙ c.in_ok-props.ensures.props (anchor_of w).sizes.home p.stands.volume (map.get (contents_of g.D.Disk w).cells) c.args.file told p.stands.spells there in
    absurd (no_large (anchor_of w).sizes (pages_of (told_by g.D.Disk w)) (contents_of g.D.Disk w).cells c.args.file c.in-Some-2.props (omega (arith, c.requires.store.sizes.least_home)) p.stands (sym got) c.if-props-gt-PAGES_PER_FILE.true)
