-- Intents as a value: their code.
use Rattle.std.specs.Prelude.{refl}
use Rattle.std.specs.Coded.{Coded, code_by, coded×, coded_ℕ}
use Rattle.std.specs.FinMap as map
use Rattle.std.specs.FinSet as set
use Rattle.alp_base.specs.contracts.ids.FileId as id_type
use Rattle.alp_base.specs.contracts.key.Key as key_type
use Rattle.alp_base.specs.contracts.cell.Cell as cell_type
use Rattle.alp_files.specs.Cells.{Cells}
use Rattle.alp_files.specs.Needs.{Intents, Files, CutFiles}

-- as the pairs of what they have
abbrev pub intents_code : Coded Intents
intents_code =
    code_by (Files × (CutFiles × Cells)) (coded× (set.code id_type.the_row.coded) (coded× (map.code id_type.the_row.coded coded_ℕ) (map.code key_type.the_row.coded cell_type.the_row.coded)))
    (λ i. (i.drops, (i.cuts, i.puts))) (λ p. record { drops = p.0; cuts = p.1.0; puts = p.1.1 }) (λ _. refl)
