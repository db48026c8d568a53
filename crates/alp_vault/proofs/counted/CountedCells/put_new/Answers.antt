use Rattle.std.specs.FinMap as map
use Rattle.std.proofs.Common.{◌≡◌, ◌+◌, ◌∙◌, ap, sym, subst, arith}
use Rattle.alp_files.specs.Cells.{Cells}
use Rattle.alp_files.specs.Counts.{files_at}
use Rattle.alp_vault.specs.Counted.{AreCounts, places_with}
use Rattle.alp_vault.proofs.CountLemmas.{counts-new}
use Rattle.alp_vault.proofs.counted.CountedCells.put_new.Goals as goal

pub invariant_of-self-2 : goal.invariant_of-self-2
invariant_of-self-2 c =
    let grown = counts-new c.self.inside.files c.self.inside.used c.self.inside.cells c.args.key c.args.cell c.self.invariant (ap (λ (m : Cells). map.get m c.args.key) c.self.view_is ∙ c.requires) in
    let files : c.in-Some.files ≡ c.self.inside.files + files_at c.args.key = grind (arith, c.in-Some.ensures, c.adds-files.ensures.files) in
    let used : c.in-Some-checked_add.used ≡ c.self.inside.used + places_with c.self.inside.cells c.args.key = grind (arith, c.in-Some-checked_add.ensures, c.adds-files.ensures.places) in
    subst (λ (m : Cells). AreCounts c.in-Some.files c.in-Some-checked_add.used m) (sym c.in_ok-put.ensures.ok)
    (record { of_files = files ∙ grown.of_files; of_places = used ∙ grown.of_places })
