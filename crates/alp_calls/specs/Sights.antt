-- What a part sees at a key where a call of it puts a cell: through the earlier puts of the call, through what the part intends
-- then, and in the vault.
use Rattle.std.specs.Prelude.{◌≡◌, ◌+◌, Bool, true, false, IsTrue, not, ◌&&◌, ◌||◌, if◌then◌else◌}
use Rattle.std.specs.FinMap as map
use Rattle.alp_base.specs.declared.key.Key.{Key}
use Rattle.alp_base.specs.declared.key.Key.TheVariants.{Leader, PageOf, OwnerOf}
use Rattle.alp_files.specs.Cells.{Cells}
use Rattle.alp_files.specs.Counts.{block_of}
use Rattle.alp_files.specs.Needs.{Intents, is_gone, changed_by}
use Rattle.alp_trans.specs.Counting.{has_block, left_by, counts_by, AreFew}
use Rattle.alp_trans.specs.declared.counts.Counts.{Counts}
use Rattle.alp_trans.specs.declared.counts.Sight.{Sight}
use Rattle.alp_trans.specs.declared.counts.Sight.TheVariants.{Put, Stands, First, Again, Beside}

-- the call or the part puts a cell there
abbrev pub is_own : (more : Cells) → Intents → Key → Bool
is_own more i k = map.contains_key more k || map.contains_key i.puts k

-- a cell is held there, and does not go
abbrev pub is_left : Intents → (held : Cells) → Key → Bool
is_left i held k = not (is_gone i k) && map.contains_key held k

abbrev pub has_block_there : (more : Cells) → Intents → (held : Cells) → Key → Bool
has_block_there more i held b = has_block more b || (has_block i.puts b || has_block (left_by i held) b)

abbrev pub is_first_there : (more : Cells) → Intents → (held : Cells) → Key → Bool
is_first_there more i held (Leader f) = false
is_first_there more i held (PageOf f n) = not (has_block_there more i held (block_of f n))
is_first_there more i held (OwnerOf name) = false

abbrev pub sight_there : (more : Cells) → Intents → (held : Cells) → Key → Sight
sight_there more i held k =
    if is_own more i k then Put else if is_left i held k then Stands else if is_first_there more i held k then First
    else if map.contains_key held k then Again else Beside

abbrev pub was_put : Sight → Bool
was_put Put = true
was_put Stands = false
was_put First = false
was_put Again = false
was_put Beside = false

-- it was seen so, as far as the vault tells
pub record IsSight (tells : Bool) (more : Cells) (i : Intents) (held : Cells) (k : Key) (s : Sight) : Type 0 where
  pub own : was_put s ≡ is_own more i k
  pub there : IsTrue tells → s ≡ sight_there more i held k

-- the counts rose from these to those as what is intended came from the first to the second
pub record IsRaised (tells : Bool) (held : Cells) (before after : Intents) (start n : Counts) : Type 0 where
  pub cells : n.cells + changed_by before ≡ start.cells + changed_by after
  pub few : AreFew n
  pub places : IsTrue tells → n.places + (counts_by held before).places ≡ start.places + (counts_by held after).places
  pub files : IsTrue tells → n.files + (counts_by held before).files ≡ start.files + (counts_by held after).files
  pub owners : IsTrue tells → n.owners + (counts_by held before).owners ≡ start.owners + (counts_by held after).owners

-- where the first counts are of what was intended, the second ones are of what is intended now
pub record IsTurned (tells : Bool) (held : Cells) (before after : Intents) (start n : Counts) : Type 0 where
  pub cells : n.cells ≡ changed_by after
  pub few : AreFew n
  pub counts : IsTrue tells → start ≡ counts_by held before → n ≡ counts_by held after
