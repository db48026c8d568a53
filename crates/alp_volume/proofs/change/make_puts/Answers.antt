use Rattle.std.specs.Prelude.{Bool, IsTrue, OnOk}
use Rattle.std.proofs.Common.{◌≡◌, ◌∙◌, ℕ, sym, subst, arith}
use Rattle.std.proofs.lemmas.Result.{on_ok_weaker}
use Rattle.alp_files.specs.Cells.{View}
use Rattle.alp_volume.specs.Drafts.{IsDraft, laid}
use Rattle.alp_volume.specs.Known.{IsCatalog}
use Rattle.alp_pages.specs.Pages.{Pages}
use Rattle.alp_volume.specs.Puts.{heads_made, pages_made}
use Rattle.alp_volume.proofs.PutsLaws.{leaders_put, turns_few, turns_made}
use Rattle.alp_volume.proofs.change.make_puts.Goals as goal

pub put_pages-requires-clause-sized : goal.put_pages-requires-clause-sized
put_pages-requires-clause-sized g c = subst (λ (n : ℕ). IsCatalog n c.put_heads.new.catalog) (sym (g.met.R.PageReader.same_home c.args.reader.now c.put_heads.new.reader c.in_ok-put_heads.ensures.read.on)) c.put_heads.ensures.sized

pub returns-clause-sized : goal.returns-clause-sized
returns-clause-sized g c = subst (λ (n : ℕ). IsCatalog n c.put_pages.new.catalog) (g.met.R.PageReader.same_home c.args.reader.now c.put_heads.new.reader c.in_ok-put_heads.ensures.read.on) c.put_pages.ensures.sized

pub returns-clause-put : goal.returns-clause-put
returns-clause-put g c m tells d have final =
    let r0 = c.args.reader.now in
    let r1 = c.put_heads.new.reader in
    let puts = c.args.puts.now in
    let same : g.R.PageReader.pages r1 ≡ g.R.PageReader.pages r0 = g.met.R.PageReader.same_pages r0 r1 c.in_ok-put_heads.ensures.read.on in
    let same_home : g.R.PageReader.home r1 ≡ g.R.PageReader.home r0 = g.met.R.PageReader.same_home r0 r1 c.in_ok-put_heads.ensures.read.on in
    let told : IsTrue (g.R.PageReader.tells r1) = subst (λ (t : Bool). IsTrue t) (sym (g.met.R.PageReader.same_tells r0 r1 c.in_ok-put_heads.ensures.read.on)) tells in
    let mid = heads_made puts m in
    let made = c.in_ok-put_heads.ensures.put m tells d have in
    let here = subst (λ (n : ℕ). IsDraft n (laid c.put_heads.new.draft.pages (g.R.PageReader.pages r1)) mid c.put_heads.new.catalog) (sym same_home) (subst (λ (y : Pages). IsDraft (g.R.PageReader.home r0) (laid c.put_heads.new.draft.pages y) mid c.put_heads.new.catalog) (sym same) made) in
    on_ok_weaker c.put_pages.result
    (λ w. subst (λ (v : View). IsDraft (g.R.PageReader.home r0) (laid c.put_pages.new.draft.pages (g.R.PageReader.pages r0)) v c.put_pages.new.catalog) (turns_made puts m)
    (subst (λ (n : ℕ). IsDraft n (laid c.put_pages.new.draft.pages (g.R.PageReader.pages r0)) (pages_made puts mid) c.put_pages.new.catalog) same_home
    (subst (λ (y : Pages). IsDraft (g.R.PageReader.home r1) (laid c.put_pages.new.draft.pages y) (pages_made puts mid) c.put_pages.new.catalog) same w)))
    (c.put_pages.ensures.put mid told here (leaders_put puts m final))

pub returns-clause-few : goal.returns-clause-few
returns-clause-few g c = omega (arith, c.put_heads.ensures.few, c.put_pages.ensures.few, turns_few c.args.puts.now)

pub returns-in_err-put_heads-clause-few : goal.returns-in_err-put_heads-clause-few
returns-in_err-put_heads-clause-few g c = omega (arith, c.put_heads.ensures.few, turns_few c.args.puts.now)
