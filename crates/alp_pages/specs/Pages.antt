-- Home pages by place, and what the header, the directory, the owners' pages and index pages say.
use Rattle.std.specs.Prelude.{ℕ, ◌+◌, ◌*◌, ◌/◌, ◌%◌, Bool, not, ◌&&◌, ◌||◌, ◌==◌, List, ◌∷◌, replicate, take, drop, Option, None, Some, option_map, if◌then◌else◌}
use Rattle.std.specs.List.{list_any, list_all}
use Rattle.alp_base.specs.declared.ids.FileId.{FileId}
use Rattle.alp_fields.specs.Forms.{Form, pair, mapped, checked, repeated, zeros_of, u32, whole}
use Rattle.alp_fields.specs.Fields.{file_id}
use Rattle.alp_base.specs.declared.cell.OwnerRecord.{OwnerRecord}
use Rattle.alp_fields.specs.OwnerField.{owner_record}
use Rattle.alp_pages.specs.declared.entry.Entry.{Entry}

-- what each home place holds
abbrev pub Pages : Type 0
Pages = ℕ → List ℕ

-- one page changes
abbrev pub written : ℕ → List ℕ → Pages → Pages
written p bytes pages q = if q == p then bytes else pages q

-- the k-th part of bytes that are divided into parts of that length
abbrev pub part_of : (long k : ℕ) → List ℕ → List ℕ
part_of long k bytes = take long (drop (long * k) bytes)

-- ---- the header

-- `VOLUME1` and the format 1
abbrev pub header_page : List ℕ
header_page = 86 ∷ 79 ∷ 76 ∷ 85 ∷ 77 ∷ 69 ∷ 49 ∷ 1 ∷ replicate 504 0

-- ---- the directory: 4,096 entries, 32 in a page from page 1 on

abbrev pub no_file : FileId
no_file = record { server = 0; epoch = 0; counter = 0 }

-- an entry of no file names no place
abbrev pub entry_of : FileId × (Unit {0} × ℕ) → Option Entry
entry_of x = if x.1.1 == 0 then None else Some (record { file = x.0; place = x.1.1 })

abbrev pub entry_fields : Option Entry → FileId × (Unit {0} × ℕ)
entry_fields None = (no_file, (tt, 0))
entry_fields (Some e) = (e.file, (tt, e.place))

abbrev pub is_no_file : FileId → Bool
is_no_file f = f.server == 0 && f.epoch == 0 && f.counter == 0

-- where no place is named all is zeros
abbrev pub is_entry : FileId × (Unit {0} × ℕ) → Bool
is_entry x = not (x.1.1 == 0) || is_no_file x.0

-- a file id, three zeros, and the place of the file's leader
unfoldable pub entry : Form (Option Entry)
entry = mapped entry_of entry_fields (checked is_entry (pair file_id (pair (zeros_of 3) u32)))

-- the entry of a slot; nothing where it is outside the grammar
abbrev pub entry_in : Pages → ℕ → Option (Option Entry)
entry_in pages slot = whole entry (part_of 16 (slot % 32) (pages (1 + slot / 32)))

-- ---- the owners: 256 rows, two in a page from page 129 on

-- a record, or zeros where the row is unused; nothing where it is outside the grammar
abbrev pub read_row : List ℕ → Option (Option OwnerRecord)
read_row bytes = if list_all (λ b. b == 0) bytes then Some None else option_map Some (whole owner_record bytes)

abbrev pub row_in : Pages → ℕ → Option (Option OwnerRecord)
row_in pages row = read_row (part_of 256 (row % 2) (pages (129 + row / 2)))

-- ---- index pages

-- at least one place is named
abbrev pub has_a_place : List ℕ → Bool
has_a_place ps = list_any (λ p. not (p == 0)) ps

-- 128 places, where 0 means none
unfoldable pub index_page : Form (List ℕ)
index_page = checked has_a_place (repeated u32 128)
