use Rattle.std.specs.Prelude.{Bool, IsTrue, Ok}
use Rattle.std.proofs.Common.{◌≡◌, ◌∙◌, ◌+◌, ◌<◌, ◌∷◌, [], List, ℕ, length, drop, get_or, refl, sym, ap, subst, arith}
use Rattle.std.proofs.lemmas.List.{at_drop_more, drop_all}
use Rattle.alp_base.specs.declared.ids.FileId.{FileId}
use Rattle.alp_files.specs.Cells.{View}
use Rattle.alp_files.specs.Edits.{Cut, after}
use Rattle.alp_pages.specs.Changes.{cuts_of}
use Rattle.alp_volume.specs.Drafts.{HaveLeaders, IsDraft, laid}
use Rattle.alp_volume.specs.Known.{IsCatalog}
use Rattle.alp_pages.specs.Pages.{Pages}
use Rattle.alp_volume.proofs.LoopLaws.{read_none, read_then, read_ok}
use Rattle.alp_volume.proofs.HeadLaws.{cut_keeps}
use Rattle.alp_volume.proofs.change.make_cuts.Goals as goal

abbrev no_cut : FileId × ℕ
no_cut = (record { server = 0; epoch = 0; counter = 0 }, 0)

pub loop-cut-preserved : goal.loop-cut-preserved
loop-cut-preserved g c =
    let r0 = c.args.reader.now in
    let r1 = c.loop-cut.reader in
    let inv = c.loop-cut.invariant in
    let i = c.loop-cut.cut-index in
    let same : g.R.PageReader.pages r1 ≡ g.R.PageReader.pages r0 = g.met.R.PageReader.same_pages r0 r1 inv.read.on in
    let same_home : g.R.PageReader.home r1 ≡ g.R.PageReader.home r0 = g.met.R.PageReader.same_home r0 r1 inv.read.on in
    let telling : g.R.PageReader.tells r1 ≡ g.R.PageReader.tells r0 = g.met.R.PageReader.same_tells r0 r1 inv.read.on in
    let x = get_or c.args.cuts.now i no_cut in
    record {
      read = read_ok g.met.R.PageReader.then_on r0 c.cut_file.new.reader c.in_ok-cut_file.field-0 tt (read_then g.met.R.PageReader.then_on r0 r1 c.cut_file.new.reader tt (Ok c.in_ok-cut_file.field-0) inv.read c.in_ok-cut_file.ensures.read);
      sized = subst (λ (n : ℕ). IsCatalog n c.cut_file.new.catalog) same_home c.cut_file.ensures.sized;
      few = omega (arith, inv.few, c.cut_file.ensures.few, at_drop_more (λ (xs : List (FileId × ℕ)). length xs) c.args.cuts.now i no_cut c.loop-cut-test.true);
      back = λ first led. c.cut_file.ensures.back first (inv.back first led);
      told = λ m tells d have.
          let t = inv.told m tells d have in
          let next = after (Cut x.0 x.1 ∷ []) t.0 in
          let told = subst (λ (b : Bool). IsTrue b) (sym telling) tells in
          let here = subst (λ (n : ℕ). IsDraft n (laid c.loop-cut.draft.pages (g.R.PageReader.pages r1)) t.0 c.loop-cut.catalog) (sym same_home)
          (subst (λ (y : Pages). IsDraft (g.R.PageReader.home r0) (laid c.loop-cut.draft.pages y) t.0 c.loop-cut.catalog) (sym same) t.1) in
          let made = c.in_ok-cut_file.ensures.cut t.0 told here t.2 in
          let back = subst (λ (n : ℕ). IsDraft n (laid c.cut_file.new.draft.pages (g.R.PageReader.pages r0)) next c.cut_file.new.catalog) same_home
          (subst (λ (y : Pages). IsDraft (g.R.PageReader.home r1) (laid c.cut_file.new.draft.pages y) next c.cut_file.new.catalog) same made) in
          (next, back, cut_keeps t.0 x.0 x.1 t.2, sym (at_drop_more (λ (xs : List (FileId × ℕ)). after (cuts_of xs) t.0) c.args.cuts.now i no_cut c.loop-cut-test.true) ∙ t.3);
    }

pub returns-clause-cut : goal.returns-clause-cut
returns-clause-cut g c m tells d have =
    let t = c.loop-cut.invariant.told m tells d have in
    let end : t.0 ≡ after (cuts_of c.args.cuts.now) m = sym (ap (λ (xs : List (FileId × ℕ)). after (cuts_of xs) t.0) (drop_all c.loop-cut.cut-index c.args.cuts.now c.loop-cut-test.false)) ∙ t.3 in
    subst (λ (v : View). IsDraft (g.R.PageReader.home c.args.reader.now) (laid c.loop-cut.draft.pages (g.R.PageReader.pages c.args.reader.now)) v c.loop-cut.catalog × HaveLeaders v) end (t.1, t.2)
