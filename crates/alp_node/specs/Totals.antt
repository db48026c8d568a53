-- What live parts come to together.
use Rattle.std.specs.Prelude.{ℕ, ◌+◌, ◌-◌, ◌≤◌, sum_by}
use Rattle.std.specs.FinMap as map
use Rattle.alp_base.specs.declared.ids.TransId.{TransId}
use Rattle.alp_base.specs.declared.faults.Sizes.{Sizes}
use Rattle.alp_base.specs.Orders.{trans_cmp}
use Rattle.alp_files.specs.Cells.{Cells}
use Rattle.alp_files.specs.Counts.{used_of, file_count_of, owner_count_of}
use Rattle.alp_trans.specs.declared.counts.Counts.{Counts}
use Rattle.alp_vault.specs.declared.limits.TheConstants.{FILES_PER_SERVER, OWNERS_PER_SERVER, HEAD_PAGES}
use Rattle.alp_node.specs.declared.lives.Live.{Live}
use Rattle.alp_node.specs.declared.totals.Totals.{Totals}

abbrev pub LiveMap : Type 0
LiveMap = map.FinMap trans_cmp Live

-- one number of all that are live
abbrev pub total : (Live → ℕ) → LiveMap → ℕ
total f m = sum_by (λ (e : TransId × Live). f e.1) (map.entries m)

abbrev pub totals_of : LiveMap → Totals
totals_of m = record { places = total (λ l. l.part.counts.places) m; files = total (λ l. l.part.counts.files) m; owners = total (λ l. l.part.counts.owners) m }

abbrev pub no_totals : Totals
no_totals = record { places = 0; files = 0; owners = 0 }

-- with a part more, and with one less
abbrev pub with_part : Totals → Counts → Totals
with_part t n = record { places = t.places + n.places; files = t.files + n.files; owners = t.owners + n.owners }

abbrev pub without_part : Totals → Counts → Totals
without_part t n = record { places = t.places - n.places; files = t.files - n.files; owners = t.owners - n.owners }

-- no more than the parts of a server come to
pub record AreFewTotals (t : Totals) : Type 0 where
  pub places : t.places ≤ 32768
  pub files : t.files ≤ 32768
  pub owners : t.owners ≤ 32768

-- the cells and all that live parts come to beside them have room on a volume of these sizes
pub record HaveRoom (s : Sizes) (m : Cells) (t : Totals) : Type 0 where
  pub places : used_of m + t.places + HEAD_PAGES ≤ s.home
  pub files : file_count_of m + t.files ≤ FILES_PER_SERVER
  pub owners : owner_count_of m + t.owners ≤ OWNERS_PER_SERVER
