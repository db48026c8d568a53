use Rattle.std.specs.Prelude.{slice_index_or}
use Rattle.std.proofs.Common.{◌≡◌, ◌≤◌, ◌<◌, ℕ, length}
use Rattle.alp_volume.specs.Known.{IsCatalog}
use Rattle.alp_volume.specs.Undone.{AreFreeable, LeadsOn}
use Rattle.alp_volume.proofs.FreedLaws.{AreFreedTo}
use Rattle.alp_volume.proofs.cut_block.free_slots.Given as goal

abbrev pub invariant-loop-slot : goal.invariant-loop-slot
invariant-loop-slot l = record {
  from : l.first ≤ l.slot;
  kept : (j : ℕ) → j < l.first → slice_index_or l.row j 0 ≡ slice_index_or l.fn.row j 0;
  done : (j : ℕ) → l.first ≤ j → j < l.slot → slice_index_or l.row j 0 ≡ 0;
  rest : (j : ℕ) → l.slot ≤ j → slice_index_or l.row j 0 ≡ slice_index_or l.fn.row j 0;
  long : length l.row ≡ 128;
  places : AreFreeable l.first l.fn.row l.fn.catalog.places → AreFreedTo l.first l.slot l.fn.row l.fn.catalog.places l.catalog.places;
  only : l.catalog ≡ record l.fn.catalog { places = l.catalog.places };
  all : length l.catalog.places ≡ length l.fn.catalog.places;
  back : LeadsOn l.fn.undos.items l.fn.catalog l.undos.items l.catalog;
  sized : (home : ℕ) → IsCatalog home l.fn.catalog → IsCatalog home l.catalog;
}
