use Rattle.std.specs.Prelude.{Bool, IsTrue, OnOk}
use Rattle.std.proofs.Common.{◌≡◌, ◌∙◌, ◌∷◌, [], ℕ, sym, subst}
use Rattle.std.proofs.lemmas.Result.{on_ok_weaker}
use Rattle.alp_files.specs.Cells.{View}
use Rattle.alp_files.specs.Edits.{Cut, Drop, after}
use Rattle.alp_volume.specs.Drafts.{IsDraft, laid}
use Rattle.alp_volume.specs.Known.{IsCatalog}
use Rattle.alp_pages.specs.Pages.{Pages}
use Rattle.alp_volume.proofs.CutDraft.{none_after}
use Rattle.alp_volume.proofs.HeadLaws.{drop_after_cut}
use Rattle.alp_volume.proofs.cut_file.drop_file.Goals as goal

pub drop_bare-requires-clause-sized : goal.drop_bare-requires-clause-sized
drop_bare-requires-clause-sized g c = subst (λ (n : ℕ). IsCatalog n c.cut_file.new.catalog) (sym (g.met.R.PageReader.same_home c.args.reader.now c.cut_file.new.reader c.in_ok-cut_file.ensures.read.on)) c.cut_file.ensures.sized

pub returns-clause-sized : goal.returns-clause-sized
returns-clause-sized g c = subst (λ (n : ℕ). IsCatalog n c.drop_bare.new.catalog) (g.met.R.PageReader.same_home c.args.reader.now c.cut_file.new.reader c.in_ok-cut_file.ensures.read.on) c.drop_bare.ensures.sized

pub returns-clause-dropped : goal.returns-clause-dropped
returns-clause-dropped g c m tells d have =
    let r0 = c.args.reader.now in
    let r1 = c.cut_file.new.reader in
    let f = c.args.file in
    let same : g.R.PageReader.pages r1 ≡ g.R.PageReader.pages r0 = g.met.R.PageReader.same_pages r0 r1 c.in_ok-cut_file.ensures.read.on in
    let same_home : g.R.PageReader.home r1 ≡ g.R.PageReader.home r0 = g.met.R.PageReader.same_home r0 r1 c.in_ok-cut_file.ensures.read.on in
    let told : IsTrue (g.R.PageReader.tells r1) = subst (λ (t : Bool). IsTrue t) (sym (g.met.R.PageReader.same_tells r0 r1 c.in_ok-cut_file.ensures.read.on)) tells in
    let m1 = after (Cut f 0 ∷ []) m in
    let cut = c.in_ok-cut_file.ensures.cut m tells d have in
    let here = subst (λ (n : ℕ). IsDraft n (laid c.cut_file.new.draft.pages (g.R.PageReader.pages r1)) m1 c.cut_file.new.catalog) (sym same_home) (subst (λ (y : Pages). IsDraft (g.R.PageReader.home r0) (laid c.cut_file.new.draft.pages y) m1 c.cut_file.new.catalog) (sym same) cut) in
    on_ok_weaker c.drop_bare.result
    (λ w. subst (λ (v : View). IsDraft (g.R.PageReader.home r0) (laid c.drop_bare.new.draft.pages (g.R.PageReader.pages r0)) v c.drop_bare.new.catalog) (drop_after_cut m f 0)
    (subst (λ (n : ℕ). IsDraft n (laid c.drop_bare.new.draft.pages (g.R.PageReader.pages r0)) (after (Drop f ∷ []) m1) c.drop_bare.new.catalog) same_home
    (subst (λ (y : Pages). IsDraft (g.R.PageReader.home r1) (laid c.drop_bare.new.draft.pages y) (after (Drop f ∷ []) m1) c.drop_bare.new.catalog) same w)))
    (c.drop_bare.ensures.dropped m1 told here (none_after m f 0))
