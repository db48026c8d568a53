use Rattle.std.specs.Prelude.{Bool, IsTrue, Ok}
use Rattle.std.proofs.Common.{◌≡◌, ◌∙◌, ◌+◌, ◌<◌, ◌∷◌, [], List, ℕ, sum_by, drop, get_or, refl, sym, ap, subst, arith}
use Rattle.std.proofs.lemmas.List.{at_drop_more}
use Rattle.std.proofs.lemmas.List.Sums.{sum_by-drop_more}
use Rattle.alp_base.specs.declared.key.Key.{Key}
use Rattle.alp_base.specs.declared.cell.Cell.{Cell}
use Rattle.alp_files.specs.Cells.{View}
use Rattle.alp_volume.specs.Drafts.{IsDraft, laid}
use Rattle.alp_volume.specs.Puts.{HaveLeadersPut, page_made, page_pages, pages_made}
use Rattle.alp_volume.specs.Known.{IsCatalog}
use Rattle.alp_pages.specs.Pages.{Pages}
use Rattle.alp_volume.proofs.LoopLaws.{read_none, read_then, read_ok}
use Rattle.alp_volume.proofs.PutsLaws.{leaders_stay, page_same}
use Rattle.alp_volume.proofs.change.put_pages.Goals as goal

pub loop-put-preserved : goal.loop-put-preserved
loop-put-preserved g c =
    let r0 = c.args.reader.now in
    let r1 = c.loop-put.reader in
    let inv = c.loop-put.invariant in
    let i = c.loop-put.put-index in
    let same : g.R.PageReader.pages r1 ≡ g.R.PageReader.pages r0 = g.met.R.PageReader.same_pages r0 r1 inv.read.on in
    let same_home : g.R.PageReader.home r1 ≡ g.R.PageReader.home r0 = g.met.R.PageReader.same_home r0 r1 inv.read.on in
    let telling : g.R.PageReader.tells r1 ≡ g.R.PageReader.tells r0 = g.met.R.PageReader.same_tells r0 r1 inv.read.on in
    let x = c.put-item.result in
    record {
      read = read_ok g.met.R.PageReader.then_on r0 c.put_late.new.reader c.in_ok-put_late.field-0 tt (read_then g.met.R.PageReader.then_on r0 r1 c.put_late.new.reader tt (Ok c.in_ok-put_late.field-0) inv.read c.in_ok-put_late.ensures.read);
      sized = subst (λ (n : ℕ). IsCatalog n c.put_late.new.catalog) same_home c.put_late.ensures.sized;
      few = omega (arith, inv.few, c.put_late.ensures.few, sum_by-drop_more page_pages c.args.puts.now i x c.loop-put-test.true, ap page_pages c.put-item.is);
      back = λ first led. c.put_late.ensures.back first (inv.back first led);
      told = λ m tells d have.
          let t = inv.told m tells d have in
          let next = page_made x t.0 in
          let told = subst (λ (b : Bool). IsTrue b) (sym telling) tells in
          let here = subst (λ (n : ℕ). IsDraft n (laid c.loop-put.draft.pages (g.R.PageReader.pages r1)) t.0 c.loop-put.catalog) (sym same_home)
          (subst (λ (y : Pages). IsDraft (g.R.PageReader.home r0) (laid c.loop-put.draft.pages y) t.0 c.loop-put.catalog) (sym same) t.1) in
          let left = subst (λ (y : Key × Cell). HaveLeadersPut t.0 (y ∷ drop (i + 1) c.args.puts.now)) (sym c.put-item.is) (subst (λ (ys : List (Key × Cell)). HaveLeadersPut t.0 ys) (at_drop_more (λ (ys : List (Key × Cell)). ys) c.args.puts.now i x c.loop-put-test.true) t.2) in
          let made = c.in_ok-put_late.ensures.put t.0 told here left.0 in
          let back = subst (λ (n : ℕ). IsDraft n (laid c.put_late.new.draft.pages (g.R.PageReader.pages r0)) next c.put_late.new.catalog) same_home
          (subst (λ (y : Pages). IsDraft (g.R.PageReader.home r1) (laid c.put_late.new.draft.pages y) next c.put_late.new.catalog) same made) in
          (next, back, leaders_stay (drop (i + 1) c.args.puts.now) t.0 next (page_same x t.0) left.1, ap (λ (y : Key × Cell). pages_made (y ∷ drop (i + 1) c.args.puts.now) t.0) c.put-item.is ∙ sym (at_drop_more (λ (xs : List (Key × Cell)). pages_made xs t.0) c.args.puts.now i x c.loop-put-test.true) ∙ t.3);
    }
