-- What is counted of a part, and what one put more adds to it.
use Rattle.std.specs.Prelude.{◌≡◌, ◌≤◌, ℕ, ◌+◌, ◌-◌, ◌*◌, min, Bool, false, not, List, if◌then◌else◌}
use Rattle.std.specs.FinMap as map
use Rattle.alp_base.specs.declared.key.Key.{Key}
use Rattle.alp_base.specs.declared.key.Key.TheVariants.{Leader, PageOf, OwnerOf}
use Rattle.alp_files.specs.Cells.{Cells}
use Rattle.alp_files.specs.Counts.{used_of, places_at, files_at, blocks_of, block_of}
use Rattle.alp_files.specs.Edits.{Edit, edits_map}
use Rattle.alp_files.specs.Needs.{Intents, is_gone, changed, changed_by, need_of, made_of, missing_in, is_leader, is_owner}
use Rattle.alp_files.specs.Undo.{puts_of}
use Rattle.alp_trans.specs.declared.counts.Counts.{Counts}
use Rattle.alp_trans.specs.declared.counts.Sight.{Sight}
use Rattle.alp_trans.specs.declared.counts.Sight.TheVariants.{Put, Stands, First, Again, Beside}

-- these are the counts of a part with such edits over the committed cells
pub record AreCountsOf (m : Cells) (es : List Edit) (n : Counts) : Type 0 where
  pub cells : n.cells ≡ changed es
  pub places : n.places ≡ need_of m es
  pub files : n.files ≡ made_of is_leader m es
  pub owners : n.owners ≡ made_of is_owner m es

abbrev pub no_counts : Counts
no_counts = record { cells = 0; places = 0; files = 0; owners = 0 }

-- no cell takes more than a place for itself and one for its block, or is more than one file or owner
pub record AreFew (n : Counts) : Type 0 where
  pub places : n.places ≤ 2 * n.cells
  pub files : n.files ≤ n.cells
  pub owners : n.owners ≤ n.cells

-- ---- the counts by what a part intends

-- what is left below it
abbrev pub left_by : Intents → Cells → Cells
left_by i m = map.retain_keys m (λ k. not (is_gone i k))

-- what is there with it
abbrev pub with_intents : Intents → Cells → Cells
with_intents i m = edits_map (puts_of (map.entries i.puts)) (left_by i m)

abbrev pub counts_by : Cells → Intents → Counts
counts_by m i = record {
  cells = changed_by i;
  places = used_of (with_intents i m) - used_of (left_by i m);
  files = missing_in is_leader m (with_intents i m);
  owners = missing_in is_owner m (with_intents i m);
}

-- ---- one put more

abbrev pub owners_at : Key → ℕ
owners_at (Leader f) = 0
owners_at (PageOf f n) = 0
owners_at (OwnerOf name) = 1

-- with a cell more, which takes so many places, and is so many files and owners
abbrev pub with_cell : Counts → (places files owners : ℕ) → Counts
with_cell n places files owners = record { cells = n.cells + 1; places = n.places + places; files = n.files + files; owners = n.owners + owners }

abbrev pub counts_with : Counts → Key → Sight → Counts
counts_with n k Put = n
counts_with n k Stands = with_cell n 0 0 0
counts_with n k First = with_cell n (places_at k + 1) (files_at k) (owners_at k)
counts_with n k Again = with_cell n (places_at k) 0 0
counts_with n k Beside = with_cell n (places_at k) (files_at k) (owners_at k)

abbrev pub has_block : Cells → Key → Bool
has_block m b = map.contains_key (blocks_of (map.entries m)) b

-- a page whose block has none
abbrev pub is_first : Cells → Key → Bool
is_first m (Leader f) = false
is_first m (PageOf f n) = not (has_block m (block_of f n))
is_first m (OwnerOf name) = false

-- what a part that intends this sees at a key, over the committed cells
abbrev pub sight_by : Intents → Cells → Key → Sight
sight_by i m k =
    if map.contains_key i.puts k then Put else if map.contains_key (with_intents i m) k then Stands else if is_first (with_intents i m) k then First
    else if map.contains_key m k then Again else Beside

-- ---- one file in place of what it was

-- With the second counts in place of the first ones among these. The bounds change nothing where these are the counts of a part.
abbrev pub exchanged : Counts → (before after : Counts) → Counts
exchanged n before after =
    record {
      cells = n.cells - before.cells + after.cells;
      places = min (n.places - before.places + after.places) (2 * (n.cells - before.cells + after.cells));
      files = min (n.files - before.files + after.files) (n.cells - before.cells + after.cells);
      owners = min (n.owners - before.owners + after.owners) (n.cells - before.cells + after.cells);
    }
