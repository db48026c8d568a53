-- what the change of a note comes to, each file and key once
use Rattle.std.specs.FinMap as map
use Rattle.std.specs.FinMap.{len-entries}
use Rattle.std.proofs.Common.{◌≡◌, ◌≤◌, List, ◌∙◌, ap, arith}
use Rattle.std.proofs.lemmas.List.{length-map}
use Rattle.alp_files.specs.Cells.{Cells}
use Rattle.alp_files.specs.Edits.{Edit}
use Rattle.alp_files.specs.Needs.{Intents, changed_by, intents_of}
use Rattle.alp_vault.specs.Volumes.{changed_cells}
use Rattle.alp_trans.specs.Counting.{AreCountsOf, counts_by}
use Rattle.alp_trans.specs.Parts.{change_of}
use Rattle.alp_trans.specs.declared.counts.Counts.{Counts}
use Rattle.alp_calls.specs.Parts.{AllFit}
use Rattle.alp_calls.specs.Regained.{IsNoted}
use Rattle.alp_calls.proofs.IntentCounts.{counted_by, are_counts}
use Rattle.alp_calls.proofs.PartLaws.{change_fits}

-- as many cells and files as the intents change
cells_of : (i : Intents) → changed_cells (change_of i) ≡ changed_by i
cells_of i =
    omega (
      arith,
      len-entries i.drops,
      len-entries i.cuts,
      len-entries i.puts,
      length-map (map.entries i.drops) (λ e. e.0),
    )

-- within the limits of a part the change may be noted
pub noted_within : (i : Intents) → changed_by i ≤ 256 → AllFit i.puts → IsNoted (change_of i)
noted_within i few fit = record { fit = change_fits i fit; few = omega (arith, cells_of i, few) }

-- counts are those of all edits that come to the same intents
pub same_counts : (m : Cells) (es fs : List Edit) (n : Counts) → intents_of es ≡ intents_of fs → AreCountsOf m es n → AreCountsOf m fs n
same_counts m es fs n same are = are_counts m fs n (counted_by m es n are ∙ ap (λ (i : Intents). counts_by m i) same)
