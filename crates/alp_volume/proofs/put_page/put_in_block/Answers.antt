use Rattle.std.specs.Prelude.{Some, IfSome, slice_index}
use Rattle.std.proofs.Common.{◌≡◌, ◌∙◌, ◌%◌, List, ℕ, length, sym, subst}
use Rattle.alp_fields.specs.Forms.{whole}
use Rattle.alp_volume.specs.Drafts.{laid}
use Rattle.alp_volume.specs.Known.{IsCatalog}
use Rattle.alp_pages.specs.Pages.{index_page}
use Rattle.alp_volume.proofs.PutLaws.{page_known}
use Rattle.alp_volume.proofs.put_page.put_in_block.Goals as goal

pub put_new_page-requires-clause-row : goal.put_new_page-requires-clause-row
put_new_page-requires-clause-row g c = subst (λ o. IfSome o (λ (xs : List ℕ). length xs ≡ 128)) c.in-Some.is c.in_ok-row.ensures.long

pub returns-in-Ok-clause-put : goal.returns-in-Ok-clause-put
returns-in-Ok-clause-put g c home m f d same_home tells here =
    let base = g.R.PageReader.pages c.args.reader.now in
    let reads : whole index_page (laid c.args.draft.now.pages base c.args.index_at) ≡ Some c.in-Some.row = sym (c.in_ok-row.ensures.row tells) ∙ c.in-Some.is in
    page_known home base c.args.draft.now.pages c.share.new.self.pages m c.args.catalog.now d f c.args.number c.args.index_at here c.in-Some.row reads c.args.page c.at-old.result c.at-old.ensures c.if-old-ne0.true c.in-Ok.ensures.ok

pub returns-in-Ok-put_new_page-clause-put : goal.returns-in-Ok-put_new_page-clause-put
returns-in-Ok-put_new_page-clause-put g c home m f d same_home tells here =
    let base = g.R.PageReader.pages c.args.reader.now in
    let reads : whole index_page (laid c.args.draft.now.pages base c.args.index_at) ≡ Some c.in-Some.row = sym (c.in_ok-row.ensures.row tells) ∙ c.in-Some.is in
    let sized = subst (λ (n : ℕ). IsCatalog n c.args.catalog.now) (sym same_home) c.requires.sized in
    c.in-Ok-put_new_page.ensures.put home base m f d sized here reads (sym c.at-old.ensures ∙ c.if-old-ne0.false)

pub returns-in-Ok-put_new_page-clause-sized : goal.returns-in-Ok-put_new_page-clause-sized
returns-in-Ok-put_new_page-clause-sized g c = c.put_new_page.ensures.sized (g.R.PageReader.home c.args.reader.now) c.requires.sized

pub returns-in-Err-put_new_page-clause-sized : goal.returns-in-Err-put_new_page-clause-sized
returns-in-Err-put_new_page-clause-sized g c = c.put_new_page.ensures.sized (g.R.PageReader.home c.args.reader.now) c.requires.sized
