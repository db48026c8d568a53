-- Blocks of files that get their first page by a commit: another part that puts a page in such a block needs no place for the block
-- any more.
use Rattle.std.specs.Prelude.{ℕ, ◌-◌, Bool, false, List, [], ◌∷◌, length, filter, Option, None, Some, if◌then◌else◌}
use Rattle.std.specs.FinMap as map
use Rattle.alp_base.specs.declared.ids.TransId.{TransId}
use Rattle.alp_base.specs.declared.key.Key.{Key}
use Rattle.alp_base.specs.declared.key.Key.TheVariants.{Leader, PageOf, OwnerOf}
use Rattle.alp_base.specs.declared.cell.Cell.{Cell}
use Rattle.alp_files.specs.Cells.{Cells}
use Rattle.alp_files.specs.Counts.{Blocks, block_of, with_block}
use Rattle.alp_trans.specs.Counting.{has_block, is_first}
use Rattle.alp_node.specs.Totals.{LiveMap}
use Rattle.alp_node.specs.declared.lives.Live.{Live}

-- the blocks of these pages that have none yet, besides others
abbrev pub new_from : Cells → Blocks → List (Key × Cell) → Blocks
new_from m blocks [] = blocks
new_from m blocks (e ∷ es) = new_from m (if is_first m e.0 then with_block e.0 blocks else blocks) es

abbrev pub new_blocks : Cells → Cells → List Key
new_blocks m puts = map.keys (new_from m map.empty (map.entries puts))

-- whether a page is put in the block of this one
abbrev pub puts_in : Cells → Key → Bool
puts_in puts (Leader f) = false
puts_in puts (PageOf f n) = has_block puts (block_of f n)
puts_in puts (OwnerOf name) = false

-- in how many of these blocks one is put
abbrev pub shared_in : Cells → List Key → ℕ
shared_in puts blocks = length (filter (puts_in puts) blocks)

-- a part that needs no place for these blocks any more
abbrev pub eased_live : List Key → Live → Live
eased_live blocks l = record l { part = record (l.part) { counts = record (l.part.counts) { places = l.part.counts.places - shared_in l.part.intents.puts blocks } } }

abbrev pub eased_if : List Key → LiveMap → TransId → Option Live → LiveMap
eased_if blocks m t None = m
eased_if blocks m t (Some l) = map.insert m t (eased_live blocks l)

-- and so each of these parts that is live
abbrev pub eased : List Key → LiveMap → List TransId → LiveMap
eased blocks m [] = m
eased blocks m (t ∷ ts) = eased blocks (eased_if blocks m t (map.get m t)) ts
