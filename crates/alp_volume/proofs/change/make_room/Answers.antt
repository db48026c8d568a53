use Rattle.std.specs.Prelude.{Bool, IsTrue, OnOk}
use Rattle.std.proofs.Common.{◌≡◌, ◌∙◌, List, ℕ, sym, subst}
use Rattle.std.proofs.lemmas.Result.{on_ok_weaker}
use Rattle.alp_base.specs.declared.ids.FileId.{FileId}
use Rattle.alp_files.specs.Edits.{after}
use Rattle.alp_pages.specs.Changes.{cuts_of, drops_of}
use Rattle.alp_volume.specs.Drafts.{HaveLeaders, IsDraft, laid}
use Rattle.alp_volume.specs.Known.{IsCatalog}
use Rattle.alp_pages.specs.Pages.{Pages}
use Rattle.alp_volume.proofs.change.make_room.Goals as goal

pub returns-clause-sized : goal.returns-clause-sized
returns-clause-sized g c = subst (λ (n : ℕ). IsCatalog n c.make_cuts.new.catalog) (g.met.R.PageReader.same_home c.args.reader.now c.make_drops.new.reader c.in_ok-make_drops.ensures.read.on) c.make_cuts.ensures.sized

pub returns-clause-cut : goal.returns-clause-cut
returns-clause-cut g c m tells d have =
    let r0 = c.args.reader.now in
    let r1 = c.make_drops.new.reader in
    let same : g.R.PageReader.pages r1 ≡ g.R.PageReader.pages r0 = g.met.R.PageReader.same_pages r0 r1 c.in_ok-make_drops.ensures.read.on in
    let same_home : g.R.PageReader.home r1 ≡ g.R.PageReader.home r0 = g.met.R.PageReader.same_home r0 r1 c.in_ok-make_drops.ensures.read.on in
    let told : IsTrue (g.R.PageReader.tells r1) = subst (λ (t : Bool). IsTrue t) (sym (g.met.R.PageReader.same_tells r0 r1 c.in_ok-make_drops.ensures.read.on)) tells in
    let mid = after (drops_of c.args.change.now.drops) m in
    let end = after (cuts_of c.as_slice-2.result.now) mid in
    let made = subst (λ (xs : List FileId). IsDraft (g.R.PageReader.home r0) (laid c.make_drops.new.draft.pages (g.R.PageReader.pages r0)) (after (drops_of xs) m) c.make_drops.new.catalog × HaveLeaders (after (drops_of xs) m)) c.as_slice.ensures (c.in_ok-make_drops.ensures.dropped m tells d have) in
    let here = subst (λ (n : ℕ). IsDraft n (laid c.make_drops.new.draft.pages (g.R.PageReader.pages r1)) mid c.make_drops.new.catalog) (sym same_home)
    (subst (λ (y : Pages). IsDraft (g.R.PageReader.home r0) (laid c.make_drops.new.draft.pages y) mid c.make_drops.new.catalog) (sym same) made.0) in
    on_ok_weaker c.make_cuts.result
    (λ w. subst (λ (xs : List (FileId × ℕ)). IsDraft (g.R.PageReader.home r0) (laid c.make_cuts.new.draft.pages (g.R.PageReader.pages r0)) (after (cuts_of xs) mid) c.make_cuts.new.catalog × HaveLeaders (after (cuts_of xs) mid)) c.as_slice-2.ensures (
      subst (λ (n : ℕ). IsDraft n (laid c.make_cuts.new.draft.pages (g.R.PageReader.pages r0)) end c.make_cuts.new.catalog) same_home (subst (λ (y : Pages). IsDraft (g.R.PageReader.home r1) (laid c.make_cuts.new.draft.pages y) end c.make_cuts.new.catalog) same w.0),
      w.1,
    ))
    (c.make_cuts.ensures.cut mid told here made.1)
