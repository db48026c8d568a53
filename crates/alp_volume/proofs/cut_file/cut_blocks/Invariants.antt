use Rattle.std.specs.Prelude.{IsTrue, Ok}
use Rattle.std.proofs.Common.{◌≡◌, ◌≤◌, ◌+◌, ◌-◌, ◌*◌, ◌∷◌, [], ℕ}
use Rattle.alp_files.specs.Cells.{View}
use Rattle.alp_files.specs.Edits.{Cut, after}
use Rattle.alp_volume.specs.Drafts.{HasNoneFrom, IsCutting, laid, len_beside}
use Rattle.alp_volume.specs.Known.{IsCatalog}
use Rattle.alp_pages.specs.Reading.{HasRead}
use Rattle.alp_volume.specs.Undone.{LeadsOn}
use Rattle.alp_volume.proofs.cut_file.cut_blocks.Given as goal

abbrev pub invariant-loop-k : goal.invariant-loop-k
invariant-loop-k g l = record {
  read : HasRead {T = Unit {0}} g.R.PageReader.ReadOn g.R.PageReader.faults g.R.PageReader.allowance l.fn.reader l.reader (Ok tt);
  size : l.leader.props.size ≤ 4096;
  sized : IsCatalog (g.R.PageReader.home l.fn.reader) l.catalog;
  some : len_beside l.leader_at l.draft.pages ≤ len_beside l.leader_at l.fn.draft.pages + 1;
  none : l.from ≤ 128 * (32 - l.k) → len_beside l.leader_at l.draft.pages ≤ len_beside l.leader_at l.fn.draft.pages;
  back : LeadsOn l.fn.draft.undos.items l.fn.catalog l.draft.undos.items l.catalog;
  told : (m : View) → IsTrue (g.R.PageReader.tells l.fn.reader) → IsCutting (g.R.PageReader.home l.fn.reader) (laid l.fn.draft.pages (g.R.PageReader.pages l.fn.reader)) m l.fn.catalog l.file l.leader_at l.fn.leader → HasNoneFrom l.file 4096 m
      → IsCutting (g.R.PageReader.home l.fn.reader) (laid l.draft.pages (g.R.PageReader.pages l.fn.reader)) (after (Cut l.file (l.from + (128 * (32 - l.k) - l.from)) ∷ []) m) l.catalog l.file l.leader_at l.leader;
}
