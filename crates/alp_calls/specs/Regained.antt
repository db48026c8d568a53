-- A part that an earlier run left ready, as it is regained from what its note says.
use Rattle.std.specs.Prelude.{◌≡◌, ◌+◌, ◌≤◌, Bool, true, IsTrue, List, ◌++◌, length}
use Rattle.alp_base.specs.declared.change.Change.{Change}
use Rattle.alp_files.specs.Act.{no_opens}
use Rattle.alp_files.specs.Cells.{Cells}
use Rattle.alp_files.specs.Edits.{Edit}
use Rattle.alp_files.specs.Needs.{intents_of}
use Rattle.alp_vault.specs.Volumes.{changed_cells, fit_keys}
use Rattle.alp_trans.specs.Counting.{AreCountsOf}
use Rattle.alp_trans.specs.Parts.{own_of}
use Rattle.alp_trans.specs.declared.part.Part.{Part}
use Rattle.alp_calls.specs.Parts.{IsPart}

-- what a note may say of a part: each cell that is put fits its key, and what goes and what is put is no more than a part may change
pub record IsNoted (c : Change) : Type 0 where
  pub fit : fit_keys c.puts ≡ true
  pub few : changed_cells c ≤ 256

-- the part intends what these edits come to, is counted for them as far as the vault tells, and has no opens
pub record IsRegained (tells : Bool) (held : Cells) (es : List Edit) (p : Part) : Type 0 where
  pub intents : p.intents ≡ intents_of es
  pub counts : IsTrue tells → AreCountsOf held es p.counts
  pub own : own_of p ≡ no_opens

-- what was regained with some edits is regained with these too, which change no more cells than they are
pub record GoesOn (tells : Bool) (held : Cells) (old new : Part) (es : List Edit) : Type 0 where
  pub part : IsPart new
  pub cells : new.counts.cells ≤ old.counts.cells + length es
  pub regained : (before : List Edit) → IsRegained tells held before old → IsRegained tells held (before ++ es) new
