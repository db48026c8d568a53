-- Enums on the wire: a tag, and behind it the fields of the variant that the tag names.
use Rattle.std.specs.Prelude.{◌≡◌, ℕ, List, [], ◌∷◌, Option, Some, None}
use Rattle.alp_fields.specs.Forms.{Form, Reader, Readers, variant, tagged}

-- a variant of T: its tag, the form of its fields, and the value that has them
pub record Variant (T : Type 0) : Type 1 where
  pub Fields : Type 0
  pub tag : ℕ
  pub form : Form Fields
  pub into : Fields → T

abbrev pub row : {A T : Type 0} → ℕ → Form A → (A → T) → Variant T
row {A} tag form into = record { Fields = A; tag = tag; form = form; into = into }

-- no fields
abbrev pub nothing : Form (Unit {0})
nothing = record { spell = λ _. []; Fits = λ _. Unit {0}; read = λ bytes. Some (tt, bytes) }

-- a variant that is its tag alone
abbrev pub bare : {T : Type 0} → ℕ → T → Variant T
bare tag v = row tag nothing (λ _. v)

-- how a value is sent: its bytes, and what it takes for them to be read back
pub record Sent : Type 1 where
  pub bytes : List ℕ
  pub Fits : Type 0

-- the tag of the variant, and the spelling of its fields
abbrev pub sent : {T : Type 0} (v : Variant T) → v.Fields → Sent
sent v fields = record { bytes = v.tag ∷ v.form.spell fields; Fits = v.form.Fits fields }

-- what is read behind the tag of the variant
abbrev pub fields_of : {T : Type 0} → Variant T → Reader T
fields_of v = variant v.into v.form

-- the reader of the variant, by its tag
abbrev pub by_tag : {T : Type 0} (v : Variant T) → ℕ × Reader T
by_tag v = (v.tag, fields_of v)

-- a type that is sent so, and read so by tag
abbrev pub enum_of : {T : Type 0} → (T → Sent) → Readers T → Form T
enum_of sent_as readers = tagged (λ v. (sent_as v).bytes) (λ v. (sent_as v).Fits) readers

-- A reader behind the tag answered this and stands at new: the value and what follows it, or nothing.
abbrev pub AreFieldsRead : {T : Type 0} → Variant T → List ℕ → List ℕ → Option T → Type 0
AreFieldsRead v old new None = fields_of v old ≡ None
AreFieldsRead v old new (Some x) = fields_of v old ≡ Some (x, new)
