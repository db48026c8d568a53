use Rattle.std.specs.Prelude.{Bool, IsTrue, Ok}
use Rattle.std.proofs.Common.{◌≡◌, ◌∙◌, ◌+◌, ◌<◌, ◌∷◌, [], List, ℕ, sum_by, drop, get_or, refl, sym, ap, subst, arith}
use Rattle.std.proofs.lemmas.List.{at_drop_more}
use Rattle.std.proofs.lemmas.List.Sums.{sum_by-drop_more}
use Rattle.alp_base.specs.declared.key.Key.{Key}
use Rattle.alp_base.specs.declared.cell.Cell.{Cell}
use Rattle.alp_files.specs.Cells.{View}
use Rattle.alp_volume.specs.Drafts.{HaveLeaders, IsDraft, laid}
use Rattle.alp_volume.specs.Puts.{head_made, head_pages, heads_made}
use Rattle.alp_volume.specs.Known.{IsCatalog}
use Rattle.alp_pages.specs.Pages.{Pages}
use Rattle.alp_volume.proofs.LoopLaws.{read_none, read_then, read_ok}
use Rattle.alp_volume.proofs.PutsLaws.{head_keeps}
use Rattle.alp_volume.proofs.change.put_heads.Goals as goal

pub loop-put-preserved : goal.loop-put-preserved
loop-put-preserved g c =
    let r0 = c.args.reader.now in
    let r1 = c.loop-put.reader in
    let inv = c.loop-put.invariant in
    let i = c.loop-put.put-index in
    let same : g.R.PageReader.pages r1 ≡ g.R.PageReader.pages r0 = g.met.R.PageReader.same_pages r0 r1 inv.read.on in
    let same_home : g.R.PageReader.home r1 ≡ g.R.PageReader.home r0 = g.met.R.PageReader.same_home r0 r1 inv.read.on in
    let telling : g.R.PageReader.tells r1 ≡ g.R.PageReader.tells r0 = g.met.R.PageReader.same_tells r0 r1 inv.read.on in
    let x = c.put-item.result in
    record {
      read = read_ok g.met.R.PageReader.then_on r0 c.put_head.new.reader c.in_ok-put_head.field-0 tt (read_then g.met.R.PageReader.then_on r0 r1 c.put_head.new.reader tt (Ok c.in_ok-put_head.field-0) inv.read c.in_ok-put_head.ensures.read);
      sized = subst (λ (n : ℕ). IsCatalog n c.put_head.new.catalog) same_home c.put_head.ensures.sized;
      few = omega (arith, inv.few, c.put_head.ensures.few, sum_by-drop_more head_pages c.args.puts.now i x c.loop-put-test.true, ap head_pages c.put-item.is);
      back = λ first led. c.put_head.ensures.back first (inv.back first led);
      told = λ m tells d have.
          let t = inv.told m tells d have in
          let next = head_made x t.0 in
          let told = subst (λ (b : Bool). IsTrue b) (sym telling) tells in
          let here = subst (λ (n : ℕ). IsDraft n (laid c.loop-put.draft.pages (g.R.PageReader.pages r1)) t.0 c.loop-put.catalog) (sym same_home)
          (subst (λ (y : Pages). IsDraft (g.R.PageReader.home r0) (laid c.loop-put.draft.pages y) t.0 c.loop-put.catalog) (sym same) t.1) in
          let made = c.in_ok-put_head.ensures.put t.0 told here t.2 in
          let back = subst (λ (n : ℕ). IsDraft n (laid c.put_head.new.draft.pages (g.R.PageReader.pages r0)) next c.put_head.new.catalog) same_home
          (subst (λ (y : Pages). IsDraft (g.R.PageReader.home r1) (laid c.put_head.new.draft.pages y) next c.put_head.new.catalog) same made) in
          (next, back, head_keeps x t.0 t.2, ap (λ (y : Key × Cell). heads_made (y ∷ drop (i + 1) c.args.puts.now) t.0) c.put-item.is ∙ sym (at_drop_more (λ (xs : List (Key × Cell)). heads_made xs t.0) c.args.puts.now i x c.loop-put-test.true) ∙ t.3);
    }
