-- The forms of the fields of frames, records and pages.
use Rattle.std.specs.Prelude.{◌≡◌, ℕ, ◌+◌, ◌-◌, ◌*◌, ◌^◌, Bool, true, false, ◌==◌, nat_le, List, [], ◌∷◌, ◌++◌, length, Option, Some, None, if◌then◌else◌}
use Rattle.alp_base.specs.declared.ids.FileId.{FileId}
use Rattle.alp_base.specs.declared.ids.TransId.{TransId}
use Rattle.alp_base.specs.declared.ids.JoinNo.{JoinNo}
use Rattle.alp_base.specs.declared.ids.Stamp.{Stamp}
use Rattle.alp_base.specs.declared.ids.Run.{Run}
use Rattle.alp_base.specs.declared.choices.Choice.{Choice}
use Rattle.alp_base.specs.declared.choices.Choice.TheVariants.{Fail, Wait}
use Rattle.alp_base.specs.declared.choices.Access.{Access}
use Rattle.alp_base.specs.declared.choices.Access.TheVariants.{ReadOnly, Change}
use Rattle.alp_base.specs.declared.key.Key.{Key}
use Rattle.alp_base.specs.declared.key.Key.TheVariants.{Leader, PageOf, OwnerOf}
use Rattle.alp_base.specs.declared.key.Resource.{Resource}
use Rattle.alp_base.specs.declared.key.Resource.TheVariants.{Whole, Leaf}
use Rattle.alp_base.specs.declared.lists.TheConstants.{NAMES_PER_LIST}
use Rattle.alp_base.specs.declared.name.TheConstants.{NAME_BYTES}
use Rattle.alp_base.specs.Names.{is_name}
use Rattle.alp_base.specs.Pages.{page_bytes}
use Rattle.alp_fields.specs.Forms.{Form, ◌>>=◌, pair, mapped, checked, sized, repeated, zeros_behind, Readers, tagged, just, variant, bytes_of, u8, u32, u64}

-- ---- ids, stamps and runs

-- server, epoch and counter
abbrev pub id_parts : Form (ℕ × (ℕ × ℕ))
id_parts = pair u8 (pair u32 u32)

unfoldable pub file_id : Form FileId
file_id = mapped (λ x. record { server = x.0; epoch = x.1.0; counter = x.1.1 }) (λ i. (i.server, (i.epoch, i.counter))) id_parts

unfoldable pub trans_id : Form TransId
trans_id = mapped (λ x. record { server = x.0; epoch = x.1.0; counter = x.1.1 }) (λ i. (i.server, (i.epoch, i.counter))) id_parts

unfoldable pub join_no : Form JoinNo
join_no = mapped (λ x. record { server = x.0; epoch = x.1.0; counter = x.1.1 }) (λ i. (i.server, (i.epoch, i.counter))) id_parts

-- a time of at most 2 ^ 62, and the transaction
abbrev pub is_time : ℕ → Bool
is_time n = nat_le n (2 ^ 62)

unfoldable pub stamp : Form Stamp
stamp = mapped (λ x. record { ts = x.0; trans = x.1 }) (λ s. (s.ts, s.trans)) (pair (checked is_time u64) trans_id)

-- the first page and how many, at least one
abbrev pub is_some_count : ℕ → Bool
is_some_count n = nat_le 1 n

unfoldable pub some_count : Form ℕ
some_count = checked is_some_count u8

unfoldable pub run : Form Run
run = mapped (λ x. record { first = x.0; count = x.1 }) (λ r. (r.first, r.count)) (pair u32 some_count)

-- ---- choices of two

abbrev pub spell_choice : Choice → List ℕ
spell_choice Fail = 0 ∷ []
spell_choice Wait = 1 ∷ []

abbrev pub choice_readers : Readers Choice
choice_readers = (0, just Fail) ∷ (1, just Wait) ∷ []

unfoldable pub choice : Form Choice
choice = tagged spell_choice (λ _. Unit {0}) choice_readers

abbrev pub spell_access : Access → List ℕ
spell_access ReadOnly = 0 ∷ []
spell_access Change = 1 ∷ []

abbrev pub access_readers : Readers Access
access_readers = (0, just ReadOnly) ∷ (1, just Change) ∷ []

unfoldable pub access : Form Access
access = tagged spell_access (λ _. Unit {0}) access_readers

abbrev pub spell_flag : Bool → List ℕ
spell_flag false = 0 ∷ []
spell_flag true = 1 ∷ []

abbrev pub flag_readers : Readers Bool
flag_readers = (0, just false) ∷ (1, just true) ∷ []

unfoldable pub flag : Form Bool
flag = tagged spell_flag (λ _. Unit {0}) flag_readers

-- ---- names, lists and pages

-- its length, and its bytes
unfoldable pub name : Form (List ℕ)
name = checked is_name (sized u8 bytes_of length)

-- how many, and the names
abbrev pub is_list_count : ℕ → Bool
is_list_count n = nat_le n NAMES_PER_LIST

unfoldable pub list_count : Form ℕ
list_count = checked is_list_count u8

unfoldable pub list : Form (List (List ℕ))
list = sized list_count (repeated name) length

-- how many, at least one, and the pages
unfoldable pub page : Form (List ℕ)
page = bytes_of page_bytes

unfoldable pub pages : Form (List (List ℕ))
pages = sized some_count (repeated page) length

-- ---- names and lists of one length whatever they hold

-- a length and that many bytes, with zeros up to the length of the longest name
abbrev pub is_name_length : ℕ → Bool
is_name_length n = nat_le n NAME_BYTES

unfoldable pub name_length : Form ℕ
name_length = checked is_name_length u8

unfoldable pub text_field : Form (List ℕ)
text_field = sized name_length (λ n. zeros_behind (NAME_BYTES - n) (bytes_of n)) length

-- a name in a field
unfoldable pub named_field : Form (List ℕ)
named_field = checked is_name text_field

-- a name in a field, or a field of zeros alone
abbrev pub text_of : Option (List ℕ) → List ℕ
text_of None = []
text_of (Some n) = n

abbrev pub FitsNameField : Option (List ℕ) → Type 0
FitsNameField None = Unit {0}
FitsNameField (Some n) = is_name n ≡ true

unfoldable pub name_field : Form (Option (List ℕ))
name_field = record {
  spell = λ o. text_field.spell (text_of o);
  Fits = FitsNameField;
  read = λ bytes. do
    x ← text_field.read bytes
    if length x.0 == 0 then Some (None, x.1) else if is_name x.0 then Some (Some x.0, x.1) else None;
}

-- the bytes of a name in a field, and of a list in one
abbrev pub name_field_bytes : ℕ
name_field_bytes = 1 + NAME_BYTES

abbrev pub list_field_bytes : ℕ
list_field_bytes = 1 + NAMES_PER_LIST * name_field_bytes

-- how many, that many names in fields, and zeros in place of the names that a list could have besides
unfoldable pub list_field : Form (List (List ℕ))
list_field = sized list_count (λ n. zeros_behind ((NAMES_PER_LIST - n) * name_field_bytes) (repeated named_field n)) length

-- ---- keys and resources

abbrev pub spell_key : Key → List ℕ
spell_key (Leader file) = 1 ∷ file_id.spell file
spell_key (PageOf file number) = 2 ∷ (file_id.spell file ++ u32.spell number)
spell_key (OwnerOf owner) = 3 ∷ name.spell owner

abbrev pub FitsKey : Key → Type 0
FitsKey (Leader file) = file_id.Fits file
FitsKey (PageOf file number) = file_id.Fits file × u32.Fits number
FitsKey (OwnerOf owner) = name.Fits owner

abbrev pub key_readers : Readers Key
key_readers =
    (1, variant Leader file_id)
    ∷ (2, variant (λ x. PageOf x.0 x.1) (pair file_id u32))
    ∷ (3, variant OwnerOf name)
    ∷ []

unfoldable pub key : Form Key
key = tagged spell_key FitsKey key_readers

-- a whole file has tag 0, a leaf that of its key
abbrev pub spell_resource : Resource → List ℕ
spell_resource (Whole file) = 0 ∷ file_id.spell file
spell_resource (Leaf leaf) = spell_key leaf

abbrev pub FitsResource : Resource → Type 0
FitsResource (Whole file) = file_id.Fits file
FitsResource (Leaf leaf) = FitsKey leaf

abbrev pub resource_readers : Readers Resource
resource_readers =
    (0, variant Whole file_id)
    ∷ (1, variant (λ f. Leaf (Leader f)) file_id)
    ∷ (2, variant (λ x. Leaf (PageOf x.0 x.1)) (pair file_id u32))
    ∷ (3, variant (λ n. Leaf (OwnerOf n)) name)
    ∷ []

unfoldable pub resource : Form Resource
resource = tagged spell_resource FitsResource resource_readers
