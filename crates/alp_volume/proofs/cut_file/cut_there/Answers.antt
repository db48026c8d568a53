use Rattle.std.specs.Prelude.{Bool, IsTrue, OnOk, Some}
use Rattle.std.proofs.Common.{◌≡◌, ◌∙◌, ◌∷◌, [], ℕ, sym, subst}
use Rattle.std.proofs.lemmas.Result.{on_ok_weaker}
use Rattle.alp_files.specs.Edits.{Cut, after}
use Rattle.alp_volume.specs.Drafts.{IsCutting, laid}
use Rattle.alp_volume.specs.Known.{IsCatalog}
use Rattle.alp_pages.specs.Pages.{Pages}
use Rattle.alp_volume.proofs.cut_file.cut_there.Goals as goal

pub returns-clause-cut : goal.returns-clause-cut
returns-clause-cut g c m d tells there low =
    let r0 = c.args.reader.now in
    let r1 = c.draft_leader.new.reader in
    let f = c.args.file in
    let place = c.args.leader_at in
    let l = c.in-Some.leader in
    let old = c.args.draft.now.pages in
    let catalog = c.args.catalog.now in
    let same : g.R.PageReader.pages r1 ≡ g.R.PageReader.pages r0 = g.met.R.PageReader.same_pages r0 r1 c.in_ok-leader.ensures.read.on in
    let same_home : g.R.PageReader.home r1 ≡ g.R.PageReader.home r0 = g.met.R.PageReader.same_home r0 r1 c.in_ok-leader.ensures.read.on in
    let told : IsTrue (g.R.PageReader.tells r1) = subst (λ (t : Bool). IsTrue t) (sym (g.met.R.PageReader.same_tells r0 r1 c.in_ok-leader.ensures.read.on)) tells in
    let cutting : IsCutting (g.R.PageReader.home r0) (laid old (g.R.PageReader.pages r0)) m catalog f place l = record { draft = d; there = there; reads = sym (c.in_ok-leader.ensures.leader tells) ∙ c.in-Some.is } in
    let here = subst (λ (n : ℕ). IsCutting n (laid old (g.R.PageReader.pages r1)) m catalog f place l) (sym same_home) (subst (λ (y : Pages). IsCutting (g.R.PageReader.home r0) (laid old y) m catalog f place l) (sym same) cutting) in
    on_ok_weaker c.cut_blocks.result
    (λ w. (subst (λ (n : ℕ). IsCutting n (laid c.cut_blocks.new.draft.pages (g.R.PageReader.pages r0)) (after (Cut f c.args.from ∷ []) m) c.cut_blocks.new.catalog f place c.cut_blocks.new.leader) same_home
    (subst (λ (y : Pages). IsCutting (g.R.PageReader.home r1) (laid c.cut_blocks.new.draft.pages y) (after (Cut f c.args.from ∷ []) m) c.cut_blocks.new.catalog f place c.cut_blocks.new.leader) same w)).draft)
    (c.cut_blocks.ensures.cut m told here low)

pub returns-clause-sized : goal.returns-clause-sized
returns-clause-sized g c = subst (λ (n : ℕ). IsCatalog n c.cut_blocks.new.catalog) (g.met.R.PageReader.same_home c.args.reader.now c.draft_leader.new.reader c.in_ok-leader.ensures.read.on) c.cut_blocks.ensures.sized
