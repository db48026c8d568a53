use Rattle.std.specs.Prelude.{Bool, IsTrue, Ok}
use Rattle.std.proofs.Common.{◌≡◌, ◌∙◌, ◌≤◌, ◌<◌, ◌+◌, ◌-◌, ◌*◌, ◌∷◌, [], ℕ, refl, sym, ap, subst, arith}
use Rattle.alp_files.specs.Cells.{View}
use Rattle.alp_files.specs.Edits.{Cut, after}
use Rattle.alp_base.specs.declared.cell.Props.{Props}
use Rattle.alp_volume.specs.Drafts.{HasNoneFrom, IsCutting, laid}
use Rattle.alp_volume.specs.Known.{IsCatalog}
use Rattle.alp_pages.specs.Pages.{Pages}
use Rattle.alp_volume.proofs.CutDraft.{cut_nothing, cut_further, none_after}
use Rattle.alp_volume.proofs.LoopLaws.{read_none, read_then, read_ok}
use Rattle.alp_volume.proofs.SheetLaws.{len_around, len_gone}
use Rattle.alp_volume.proofs.cut_file.cut_blocks.Goals as goal

pub loop-k-init : goal.loop-k-init
loop-k-init g c = record {
  read = read_none g.met.R.PageReader.still c.args.reader.now;
  size = c.requires.size;
  sized = c.requires.sized;
  some = omega arith;
  none = λ low. omega arith;
  back = λ first led. led;
  told = λ m tells cutting low. subst (λ (v : View). IsCutting (g.R.PageReader.home c.args.reader.now) (laid c.args.draft.now.pages (g.R.PageReader.pages c.args.reader.now)) v c.args.catalog.now c.args.file c.args.leader_at c.args.leader.now)
      (sym (cut_nothing m c.args.file (c.args.from + (4096 - c.args.from)) (λ n late. low n (omega (arith, late))))) cutting;
}

pub cut_block-requires-clause-sized : goal.cut_block-requires-clause-sized
cut_block-requires-clause-sized g c = subst (λ (n : ℕ). IsCatalog n c.loop-k.catalog) (sym (g.met.R.PageReader.same_home c.args.reader.now c.loop-k.reader c.loop-k.invariant.read.on)) c.loop-k.invariant.sized

pub loop-k-preserved : goal.loop-k-preserved
loop-k-preserved g c =
    let r0 = c.args.reader.now in
    let r1 = c.loop-k.reader in
    let f = c.args.file in
    let from = c.args.from in
    let k = c.loop-k.k in
    let inv = c.loop-k.invariant in
    let first = c.first_in-first.result in
    let first_is : first ≡ from - 128 * (31 - k) = c.first_in-first.ensures in
    let same : g.R.PageReader.pages r1 ≡ g.R.PageReader.pages r0 = g.met.R.PageReader.same_pages r0 r1 inv.read.on in
    let same_home : g.R.PageReader.home r1 ≡ g.R.PageReader.home r0 = g.met.R.PageReader.same_home r0 r1 inv.read.on in
    let telling : g.R.PageReader.tells r1 ≡ g.R.PageReader.tells r0 = g.met.R.PageReader.same_tells r0 r1 inv.read.on in
    record {
      read = read_ok g.met.R.PageReader.then_on r0 c.cut_block.new.reader c.in_ok-cut_block.field-0 tt (read_then g.met.R.PageReader.then_on r0 r1 c.cut_block.new.reader tt (Ok c.in_ok-cut_block.field-0) inv.read c.in_ok-cut_block.ensures.read);
      size = subst (λ (p : Props). p.size ≤ 4096) (sym c.cut_block.ensures.props) inv.size;
      sized = subst (λ (n : ℕ). IsCatalog n c.cut_block.new.catalog) same_home c.cut_block.ensures.sized;
      some = omega (arith, c.cut_block.ensures.some, inv.none (omega (arith, c.if-first-ge128.false, first_is)));
      none = λ low. omega (arith, c.cut_block.ensures.few (omega (arith, first_is, low)), inv.none (omega (arith, low)));
      back = λ start led. c.cut_block.ensures.back start (inv.back start led);
      told = λ m tells cutting low.
          let told = subst (λ (t : Bool). IsTrue t) (sym telling) tells in
          let bound = from + (128 * (32 - k) - from) in
          let m1 = after (Cut f bound ∷ []) m in
          let here = inv.told m tells cutting low in
          let there = subst (λ (n : ℕ). IsCutting n (laid c.loop-k.draft.pages (g.R.PageReader.pages r1)) m1 c.loop-k.catalog f c.args.leader_at c.loop-k.leader) (sym same_home)
          (subst (λ (y : Pages). IsCutting (g.R.PageReader.home r0) (laid c.loop-k.draft.pages y) m1 c.loop-k.catalog f c.args.leader_at c.loop-k.leader) (sym same) here) in
          let none : HasNoneFrom f (128 * (31 - k + 1)) m1 = λ n late. none_after m f bound n (omega (arith, late, first_is)) in
          let made = c.in_ok-cut_block.ensures.cut m1 told there none in
          let back = subst (λ (n : ℕ). IsCutting n (laid c.cut_block.new.draft.pages (g.R.PageReader.pages r0)) (after (Cut f (128 * (31 - k) + first) ∷ []) m1) c.cut_block.new.catalog f c.args.leader_at c.cut_block.new.leader) same_home
          (subst (λ (y : Pages). IsCutting (g.R.PageReader.home r1) (laid c.cut_block.new.draft.pages y) (after (Cut f (128 * (31 - k) + first) ∷ []) m1) c.cut_block.new.catalog f c.args.leader_at c.cut_block.new.leader) same made) in
          let number_is : 128 * (31 - k) + first ≡ from + (128 * (32 - (k + 1)) - from) = omega (arith, first_is) in
          subst (λ (v : View). IsCutting (g.R.PageReader.home r0) (laid c.cut_block.new.draft.pages (g.R.PageReader.pages r0)) v c.cut_block.new.catalog f c.args.leader_at c.cut_block.new.leader)
          (cut_further m f (128 * (31 - k) + first) bound (omega (arith, first_is)) ∙ ap (λ (n : ℕ). after (Cut f n ∷ []) m) number_is) back;
    }

pub returns-then-first-ge128-clause-cut : goal.returns-then-first-ge128-clause-cut
returns-then-first-ge128-clause-cut g c m tells cutting low =
    let from = c.args.from in
    let done : from + (128 * (32 - c.loop-k.k) - from) ≡ from = omega (arith, c.first_in-first.ensures, c.if-first-ge128.true) in
    subst (λ (n : ℕ). IsCutting (g.R.PageReader.home c.args.reader.now) (laid c.loop-k.draft.pages (g.R.PageReader.pages c.args.reader.now)) (after (Cut c.args.file n ∷ []) m) c.loop-k.catalog c.args.file c.args.leader_at c.loop-k.leader) done (c.loop-k.invariant.told m tells cutting low)

pub returns-clause-cut : goal.returns-clause-cut
returns-clause-cut g c m tells cutting low =
    let from = c.args.from in
    let done : from + (128 * (32 - c.loop-k.k) - from) ≡ from = omega (arith, c.loop-k-test.false) in
    subst (λ (n : ℕ). IsCutting (g.R.PageReader.home c.args.reader.now) (laid c.loop-k.draft.pages (g.R.PageReader.pages c.args.reader.now)) (after (Cut c.args.file n ∷ []) m) c.loop-k.catalog c.args.file c.args.leader_at c.loop-k.leader) done (c.loop-k.invariant.told m tells cutting low)

pub returns-then-first-ge128-clause-few : goal.returns-then-first-ge128-clause-few
returns-then-first-ge128-clause-few g c = omega (arith, len_around c.loop-k.draft.pages c.args.leader_at, c.loop-k.invariant.some, len_gone c.args.draft.now.pages c.args.leader_at)

pub returns-clause-few : goal.returns-clause-few
returns-clause-few g c = omega (arith, len_around c.loop-k.draft.pages c.args.leader_at, c.loop-k.invariant.some, len_gone c.args.draft.now.pages c.args.leader_at)

pub returns-in_err-cut_block-clause-few : goal.returns-in_err-cut_block-clause-few
returns-in_err-cut_block-clause-few g c =
    let same = c.loop-k.invariant.none (omega (arith, c.first_in-first.ensures, c.if-first-ge128.false)) in
    omega (arith, len_around c.cut_block.new.draft.pages c.args.leader_at, c.cut_block.ensures.some, same, len_gone c.args.draft.now.pages c.args.leader_at)
