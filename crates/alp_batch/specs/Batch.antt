-- How a batch is spelled: its images by rising page, then its changes of notes by rising name.
use Rattle.std.specs.Prelude.{◌≡◌, ◌<◌, ℕ, ◌+◌, ◌*◌, ◌^◌, Bool, true, nat_lt, List, [], ◌∷◌, ◌++◌, length, Option, Some, None}
use Rattle.std.specs.List.{AllByRecursion}
use Rattle.alp_base.specs.declared.bytes.NoteChange.{NoteChange}
use Rattle.alp_fields.specs.Forms.{Form, pair, mapped, checked, sized, repeated, bytes_of, Readers, variant, tagged, u8, u16, u32}
use Rattle.alp_fields.specs.Fields.{page}
use Rattle.alp_fields.specs.Rising.{is_rising, text_below}
use Rattle.alp_batch.specs.declared.batch.PageImage.{PageImage}
use Rattle.alp_batch.specs.declared.batch.Batch.{Batch}

-- ---- images

-- the home page, and its bytes
unfoldable pub image : Form PageImage
image = mapped (λ x. record { at = x.0; page = x.1 }) (λ i. (i.at, i.page)) (pair u32 page)

abbrev pub page_below : PageImage → PageImage → Bool
page_below a b = nat_lt a.at b.at

-- how many, and the images
unfoldable pub images : Form (List PageImage)
images = checked (is_rising page_below) (sized u16 (repeated image) length)

-- ---- notes

-- a name and a value: how long, and the bytes
unfoldable pub note_name : Form (List ℕ)
note_name = sized u8 bytes_of length

unfoldable pub note_value : Form (List ℕ)
note_value = sized u32 bytes_of length

abbrev pub ends_note : List ℕ → NoteChange
ends_note name = record { name = name; value = None }

abbrev pub puts_note : List ℕ × List ℕ → NoteChange
puts_note x = record { name = x.0; value = Some x.1 }

-- 0 ends the note of that name, and 1 gives it a value
abbrev pub spell_valued : List ℕ → Option (List ℕ) → List ℕ
spell_valued name None = 0 ∷ note_name.spell name
spell_valued name (Some value) = 1 ∷ (note_name.spell name ++ note_value.spell value)

abbrev pub FitsValued : List ℕ → Option (List ℕ) → Type 0
FitsValued name None = note_name.Fits name
FitsValued name (Some value) = note_name.Fits name × note_value.Fits value

abbrev pub note_readers : Readers NoteChange
note_readers = (0, variant ends_note note_name) ∷ (1, variant puts_note (pair note_name note_value)) ∷ []

unfoldable pub note : Form NoteChange
note = tagged (λ n. spell_valued n.name n.value) (λ n. FitsValued n.name n.value) note_readers

abbrev pub name_below : NoteChange → NoteChange → Bool
name_below a b = text_below a.name b.name

-- how many, and the changes
unfoldable pub notes : Form (List NoteChange)
notes = checked (is_rising name_below) (sized u16 (repeated note) length)

-- ---- the batch

unfoldable pub batch : Form Batch
batch = mapped (λ x. record { images = x.0; notes = x.1 }) (λ b. (b.images, b.notes)) (pair images notes)

-- ---- what the types leave open and the spelling needs

abbrev pub IsShortValue : Option (List ℕ) → Type 0
IsShortValue None = Unit {0}
IsShortValue (Some value) = length value < 2 ^ 32

-- a name of at most 255 bytes, and a value whose length is a number of 32 bits
abbrev pub IsShort : NoteChange → Type 0
IsShort n = (length n.name < 2 ^ 8) × IsShortValue n.value

pub record IsBatch (b : Batch) : Type 0 where
  pub few_images : length b.images < 2 ^ 16
  pub pages_rise : is_rising page_below b.images ≡ true
  pub few_notes : length b.notes < 2 ^ 16
  pub names_rise : is_rising name_below b.notes ≡ true
  pub short : AllByRecursion IsShort b.notes

-- ---- how long it is

abbrev pub valued_length : Option (List ℕ) → ℕ
valued_length None = 0
valued_length (Some value) = 4 + length value

abbrev pub note_length : NoteChange → ℕ
note_length n = 2 + length n.name + valued_length n.value

abbrev pub notes_length : List NoteChange → ℕ
notes_length [] = 0
notes_length (n ∷ ns) = note_length n + notes_length ns

-- two counts, 516 bytes an image, and the changes
abbrev pub batch_length : Batch → ℕ
batch_length b = 4 + 516 * length b.images + notes_length b.notes
