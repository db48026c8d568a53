use Rattle.std.specs.FinMap as map
use Rattle.std.proofs.Common.{◌≡◌, sym, ◌∙◌}
use Rattle.alp_files.specs.Act.{open_at}
use Rattle.alp_files.specs.Cells.{Cells, pages_at}
use Rattle.alp_files.specs.Needs.{through}
use Rattle.alp_trans.specs.Parts.{own_of}
use Rattle.alp_calls.specs.Parts.{seen}
use Rattle.alp_calls.proofs.LookLemmas.{later}
use Rattle.alp_calls.proofs.PartLemmas.{pages_read}
use Rattle.alp_calls.proofs.page_calls.read_pages.Goals as goal

pub returns-clause-right : goal.returns-clause-right
returns-clause-right g c = λ told.
    pages_read (seen (g.V.Vault.held c.args.vault.now).cells c.args.part.now) (own_of c.args.part.now) (open_at c.args.part.now.opens.items c.args.open_no) c.args.run c.in-Ok.found c.in_ok-pages.pages
    (sym (c.in_ok-found.ensures.found told) ∙ c.in-Ok.is)
    (sym c.is_past.ensures ∙ c.if-is_past.false)
    (later g.V.Vault c.args.vault.now c.opened_file.new.vault c.in_ok-found.ensures.looked.0
    (λ (x : Cells). c.in_ok-pages.pages ≡ pages_at (through c.args.part.now.intents (map.get x)) c.in-Ok.found.opened.file c.args.run.first c.args.run.count)
    c.in_ok-pages.ensures.pages told)
