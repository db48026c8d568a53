use Rattle.std.specs.Prelude.{None, Some}
use Rattle.std.specs.FinMap as map
use Rattle.std.proofs.Common.{◌≡◌, ◌∙◌, ◌≤◌, ◌<◌, ℕ, length, refl, sym, subst, arith}
use Rattle.alp_files.specs.Cells.{View}
use Rattle.alp_volume.specs.Drafts.{IsDraft, laid}
use Rattle.alp_volume.specs.Known.{IsCatalog}
use Rattle.alp_volume.proofs.DropDraft.{file_dropped}
use Rattle.alp_volume.proofs.HeadLaws.{drop_nothing, no_leader}
use Rattle.alp_volume.proofs.KnowsLaws.{leader_there}
use Rattle.alp_volume.proofs.cut_file.drop_bare.Goals as goal

pub returns-in_default-clause-dropped : goal.returns-in_default-clause-dropped
returns-in_default-clause-dropped g c m tells d none =
    let home = g.R.PageReader.home c.args.reader.now in
    let at = laid c.args.draft.now.pages (g.R.PageReader.pages c.args.reader.now) in
    let absent : map.get c.args.catalog.now.files c.args.file ≡ None = sym c.get.ensures ∙ c.in_default.is in
    subst (λ (k : View). IsDraft home at k c.args.catalog.now) (sym (drop_nothing m c.args.file (no_leader home at m c.args.catalog.now d c.args.file absent) none)) d

pub returns-in-Ok-clause-dropped : goal.returns-in-Ok-clause-dropped
returns-in-Ok-clause-dropped g c m tells d none =
    let home = g.R.PageReader.home c.args.reader.now in
    let base = g.R.PageReader.pages c.args.reader.now in
    let catalog = c.args.catalog.now in
    let f = c.args.file in
    let x = c.in-Some.kept in
    let there : map.get catalog.files f ≡ Some x = sym c.get.ensures ∙ c.in-Some.is in
    let leader = leader_there home d.volume catalog d.knows f x there in
    let least = d.spells.shape.places.least _ x.place leader in
    let within : x.place < length catalog.places = subst (λ (n : ℕ). x.place < n) (sym c.requires.sized.places) (d.spells.shape.places.most _ x.place leader) in
    file_dropped home base c.args.draft.now.pages m catalog d c.requires.sized f x there (λ n. none n (omega arith)) c.in_ok-entries.entries (c.in_ok-entries.ensures.page tells) c.free_file.new.draft.pages c.in-Ok.ensures.pages c.free_file.new.catalog (c.in-Ok.ensures.freed x there refl least within)

pub returns-in-Ok-clause-sized : goal.returns-in-Ok-clause-sized
returns-in-Ok-clause-sized g c = c.free_file.ensures.sized (g.R.PageReader.home c.args.reader.now) c.requires.sized

pub returns-in-Err-clause-sized : goal.returns-in-Err-clause-sized
returns-in-Err-clause-sized g c = c.free_file.ensures.sized (g.R.PageReader.home c.args.reader.now) c.requires.sized
