use Rattle.std.specs.Prelude.{IsTrue, Ok}
use Rattle.std.specs.FinMap as map
use Rattle.std.proofs.Common.{◌≡◌, ◌≤◌, ◌+◌, ◌*◌, length, sum_by, drop}
use Rattle.alp_files.specs.Cells.{View}
use Rattle.alp_files.specs.Edits.{after}
use Rattle.alp_pages.specs.Changes.{cuts_of}
use Rattle.alp_volume.specs.Drafts.{HaveLeaders, IsDraft, laid}
use Rattle.alp_volume.specs.Known.{IsCatalog}
use Rattle.alp_pages.specs.Reading.{HasRead}
use Rattle.alp_volume.specs.Undone.{LeadsOn}
use Rattle.alp_volume.proofs.change.make_cuts.Given as goal

abbrev pub invariant-loop-cut : goal.invariant-loop-cut
invariant-loop-cut g l = record {
  read : HasRead {T = Unit {0}} g.R.PageReader.ReadOn g.R.PageReader.faults g.R.PageReader.allowance l.fn.reader l.reader (Ok tt);
  sized : IsCatalog (g.R.PageReader.home l.fn.reader) l.catalog;
  few : map.len l.draft.pages + 2 * length (drop l.cut-index l.cuts) ≤ map.len l.fn.draft.pages + 2 * length l.cuts;
  back : LeadsOn l.fn.draft.undos.items l.fn.catalog l.draft.undos.items l.catalog;
  told : (m : View) → IsTrue (g.R.PageReader.tells l.fn.reader) → IsDraft (g.R.PageReader.home l.fn.reader) (laid l.fn.draft.pages (g.R.PageReader.pages l.fn.reader)) m l.fn.catalog → HaveLeaders m → (now : View) × IsDraft (g.R.PageReader.home l.fn.reader) (laid l.draft.pages (g.R.PageReader.pages l.fn.reader)) now l.catalog × HaveLeaders now × (after (cuts_of (drop l.cut-index l.cuts)) now ≡ after (cuts_of l.cuts) m);
}
