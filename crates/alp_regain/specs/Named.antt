-- What notes name: files that the server made, and locks.
use Rattle.std.specs.Prelude.{ℕ, Bool, true, false, ◌&&◌, ◌==◌, nat_le, Option, None, Some}
use Rattle.alp_base.specs.declared.ids.FileId.{FileId}
use Rattle.alp_base.specs.declared.ids.Stamp.{Stamp}
use Rattle.alp_base.specs.declared.key.Key.{Key}
use Rattle.alp_base.specs.declared.key.Key.TheVariants.{Leader, PageOf, OwnerOf}
use Rattle.alp_base.specs.declared.key.Resource.{Resource}
use Rattle.alp_base.specs.declared.key.Resource.TheVariants.{Whole, Leaf}
use Rattle.alp_fields.specs.declared.clock_note.ClockNote.{ClockNote}
use Rattle.alp_modes.specs.declared.Mode.{Mode}
use Rattle.alp_modes.specs.declared.Mode.TheVariants.{IntendRead, IntendWrite, Read, Update, ReadIntendWrite, Write}
use Rattle.alp_files.specs.Edits.{Edit, Drop, Cut, Put}
use Rattle.alp_files.specs.Holdings.{Holding, covers_held, file_of, mode_on, intention_of}

-- ---- ids

-- a part or a transaction with these numbers was drawn in an epoch up to that one: epochs and counters begin at 1
abbrev pub is_drawn_by : (now : ℕ) → (epoch counter : ℕ) → Bool
is_drawn_by now epoch counter = nat_le 1 epoch && (nat_le 1 counter && nat_le epoch now)

-- a decision with this stamp is of a transaction that was drawn in an epoch up to that of the clock, and no later than it
abbrev pub is_decided_by : ClockNote → Stamp → Bool
is_decided_by clock stamp = is_drawn_by clock.epoch stamp.trans.epoch stamp.trans.counter && nat_le stamp.ts clock.clock

-- the file was made by this server in an epoch up to that one
abbrev pub is_own : (server epoch : ℕ) → FileId → Bool
is_own server epoch f = f.server == server && nat_le f.epoch epoch

abbrev pub is_own_key : (server epoch : ℕ) → Key → Bool
is_own_key server epoch (Leader f) = is_own server epoch f
is_own_key server epoch (PageOf f n) = is_own server epoch f
is_own_key server epoch (OwnerOf name) = true

abbrev pub is_own_resource : (server epoch : ℕ) → Resource → Bool
is_own_resource server epoch (Whole f) = is_own server epoch f
is_own_resource server epoch (Leaf k) = is_own_key server epoch k

abbrev pub is_own_edit : (server epoch : ℕ) → Edit → Bool
is_own_edit server epoch (Drop f) = is_own server epoch f
is_own_edit server epoch (Cut f n) = is_own server epoch f
is_own_edit server epoch (Put k c) = is_own_key server epoch k

-- ---- locks

-- a leaf is locked to be read, to be read and perhaps written, or to be written; a whole file in any mode
abbrev pub is_leaf_mode : Mode → Bool
is_leaf_mode IntendRead = false
is_leaf_mode IntendWrite = false
is_leaf_mode Read = true
is_leaf_mode Update = true
is_leaf_mode ReadIntendWrite = false
is_leaf_mode Write = true

abbrev pub is_mode_on : Resource → Mode → Bool
is_mode_on (Whole f) m = true
is_mode_on (Leaf k) m = is_leaf_mode m

-- what is held on the file covers the intention of a lock on its leaf
abbrev pub has_intention : Holding → Option FileId → Mode → Bool
has_intention held None m = true
has_intention held (Some f) m = covers_held (held (Whole f)) (intention_of m)

-- beside a lock on a leaf of a file is one on the file that covers its intention
abbrev pub is_beside_intention : Holding → Resource → Mode → Bool
is_beside_intention held (Whole f) m = true
is_beside_intention held (Leaf k) m = has_intention held (file_of k) m

-- A file that goes, or of which pages go, is locked to be written. So is each leaf that is put, or its file.
abbrev pub is_covered : Holding → Edit → Bool
is_covered held (Drop f) = covers_held (held (Whole f)) Write
is_covered held (Cut f n) = covers_held (held (Whole f)) Write
is_covered held (Put k c) = covers_held (mode_on held k) Write
