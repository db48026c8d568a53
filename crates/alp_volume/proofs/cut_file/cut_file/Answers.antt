use Rattle.std.specs.Prelude.{None, Some}
use Rattle.std.specs.FinMap as map
use Rattle.std.proofs.Common.{◌≡◌, ◌∙◌, ◌≤◌, ℕ, sym, subst, arith}
use Rattle.alp_files.specs.Cells.{View}
use Rattle.alp_volume.specs.Drafts.{IsDraft, laid}
use Rattle.alp_volume.proofs.CutDraft.{cut_nothing}
use Rattle.alp_volume.proofs.HeadLaws.{no_pages, none_past}
use Rattle.alp_volume.proofs.KnowsLaws.{leader_there}
use Rattle.alp_volume.proofs.cut_file.cut_file.Goals as goal

pub returns-in_default-clause-cut : goal.returns-in_default-clause-cut
returns-in_default-clause-cut g c m tells d have =
    let home = g.R.PageReader.home c.args.reader.now in
    let at = laid c.args.draft.now.pages (g.R.PageReader.pages c.args.reader.now) in
    let f = c.args.file in
    let none : map.get c.args.catalog.now.files f ≡ None = sym c.get.ensures ∙ c.in_default.is in
    subst (λ (k : View). IsDraft home at k c.args.catalog.now) (sym (cut_nothing m f c.args.from (λ n late. no_pages home at m c.args.catalog.now d have f none n (omega arith)))) d

pub returns-clause-cut : goal.returns-clause-cut
returns-clause-cut g c m tells d have =
    let there : map.get c.args.catalog.now.files c.args.file ≡ Some c.in-Some.kept = sym c.get.ensures ∙ c.in-Some.is in
    c.cut_there.ensures.cut m d tells (leader_there (g.R.PageReader.home c.args.reader.now) d.volume c.args.catalog.now d.knows c.args.file c.in-Some.kept there) (none_past m c.args.file have)
