use Rattle.std.specs.Prelude.{Some}
use Rattle.std.proofs.Common.{◌≡◌, ◌∙◌, ℕ, sym, ap}
use Rattle.alp_fields.specs.Forms.{whole}
use Rattle.alp_volume.specs.Drafts.{laid}
use Rattle.alp_pages.specs.Pages.{index_page}
use Rattle.alp_volume.proofs.CutDraft.{no_block}
use Rattle.alp_volume.proofs.cut_block.cut_block.Goals as goal

pub returns-then-index_at-eq0-clause-cut : goal.returns-then-index_at-eq0-clause-cut
returns-then-index_at-eq0-clause-cut g c m tells cutting none =
    no_block (g.R.PageReader.home c.args.reader.now) (laid c.args.draft.now.pages (g.R.PageReader.pages c.args.reader.now)) m c.args.catalog.now c.args.file c.args.leader_at c.args.leader.now cutting c.args.block c.args.first c.requires.block none
    (sym c.at-index_at.ensures ∙ c.if-index_at-eq0.true)

pub returns-in-Ok-clause-cut : goal.returns-in-Ok-clause-cut
returns-in-Ok-clause-cut g c m tells cutting none =
    let base = g.R.PageReader.pages c.args.reader.now in
    let at = laid c.args.draft.now.pages base in
    let reads : whole index_page (at c.at-index_at.result) ≡ Some c.in-Some.row = sym (c.in_ok-row.ensures.row tells) ∙ c.in-Some.is in
    c.in-Ok.ensures.cut (g.R.PageReader.home c.args.reader.now) base m c.requires.sized cutting none (ap (λ (q : ℕ). whole index_page (at q)) (sym c.at-index_at.ensures) ∙ reads) (λ z. c.if-index_at-eq0.false (c.at-index_at.ensures ∙ z))

pub returns-in-Ok-clause-sized : goal.returns-in-Ok-clause-sized
returns-in-Ok-clause-sized g c = c.cut_row.ensures.sized (g.R.PageReader.home c.args.reader.now) c.requires.sized

pub returns-in-Err-clause-sized : goal.returns-in-Err-clause-sized
returns-in-Err-clause-sized g c = c.cut_row.ensures.sized (g.R.PageReader.home c.args.reader.now) c.requires.sized
