-- What a file of a folder is to the server whose volume it is.
use Rattle.std.specs.Prelude.{◌≡◌, ℕ, ◌*◌, ◌++◌, List, Option, None, Some, codes, string_bytes}
use Rattle.std.specs.Fmt.{decimal}
use Rattle.std.specs.Fs.{metadata_len}
use Rattle.std.specs.declared.fs.attrs.Metadata.{Metadata}
use Rattle.alp_bay.specs.declared.volume_file.Made.{Made}

-- where the volume of a server stands in a folder
abbrev pub volume_path : List ℕ → ℕ → List ℕ
volume_path folder server = folder ++ codes "/server" ++ decimal server ++ codes ".vol"

-- A file that was found with pages has those. One that was found empty has as many as were asked for, that length was synced, and so was the
-- folder.
abbrev pub IsSizedFor : ℕ → (folder : List ℕ) → Metadata → Option Made → ℕ → Type 0
IsSizedFor asked folder found None size = metadata_len found ≡ 512 * size
IsSizedFor asked folder found (Some made) size = (metadata_len found ≡ 0) × (size ≡ asked) × (made.bytes ≡ 512 * size) × (string_bytes made.folder.name.value ≡ folder)
