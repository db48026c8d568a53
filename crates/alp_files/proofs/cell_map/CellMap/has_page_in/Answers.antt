use Rattle.std.proofs.Common.{ap, sym, ◌∙◌}
use Rattle.std.specs.FinMap as map
use Rattle.alp_base.specs.declared.key.Key.TheVariants.{PageOf}
use Rattle.alp_files.specs.Cells.{Cells, View}
use Rattle.alp_files.proofs.CellMapLemmas.{cell_at, seen_at}
use Rattle.alp_files.proofs.KeyRanges.{page_there, no_page}
use Rattle.alp_files.proofs.cell_map.CellMap.has_page_in.Goals as goal

pub returns-clause-page : goal.returns-clause-page
returns-clause-page c is =
    page_there c.args.self.now (cell_at c.self.inside.cells.entries) (ap (λ (m : Cells). map.get m) (sym c.self.view_is) ∙ seen_at c.self.inside.cells.entries)
    c.first_from-found.result c.args.file c.args.first c.args.last c.first_from-found.ensures.found (sym c.is_page_up_to.ensures ∙ is)

pub returns-clause-none : goal.returns-clause-none
returns-clause-none c is n low high =
    ap (λ (m : Cells). map.get m (PageOf c.args.file n)) (sym c.self.view_is) ∙ ap (λ (v : View). v (PageOf c.args.file n)) (seen_at c.self.inside.cells.entries)
    ∙ no_page (cell_at c.self.inside.cells.entries) c.first_from-found.result c.args.file c.args.first c.args.last
    c.first_from-found.ensures.found c.first_from-found.ensures.least c.first_from-found.ensures.none (sym c.is_page_up_to.ensures ∙ is) n low high
