-- Changes of a property on the wire.
use Rattle.std.specs.Prelude.{[], ◌∷◌}
use Rattle.alp_files.specs.declared.call.PropChange.{PropChange}
use Rattle.alp_files.specs.declared.call.PropChange.TheVariants.{Owner, Name, TypeNo, ByteLength, Read, Modify}
use Rattle.alp_fields.specs.Forms.{Form, Readers, u16, u64}
use Rattle.alp_fields.specs.Fields.{name, list}
use Rattle.alp_forms.specs.Variants.{Variant, row, Sent, sent, by_tag, enum_of}

-- ---- each with its tag and its new value

abbrev pub to_owner : Variant PropChange
to_owner = row 1 name Owner

abbrev pub to_name : Variant PropChange
to_name = row 2 name Name

abbrev pub to_type : Variant PropChange
to_type = row 3 u16 TypeNo

abbrev pub to_length : Variant PropChange
to_length = row 4 u64 ByteLength

abbrev pub to_readers : Variant PropChange
to_readers = row 5 list Read

abbrev pub to_changers : Variant PropChange
to_changers = row 6 list Modify

-- ---- all of them

abbrev pub sent_change : PropChange → Sent
sent_change (Owner who) = sent to_owner who
sent_change (Name given) = sent to_name given
sent_change (TypeNo number) = sent to_type number
sent_change (ByteLength count) = sent to_length count
sent_change (Read names) = sent to_readers names
sent_change (Modify names) = sent to_changers names

abbrev pub change_readers : Readers PropChange
change_readers = by_tag to_owner ∷ by_tag to_name ∷ by_tag to_type ∷ by_tag to_length ∷ by_tag to_readers ∷ by_tag to_changers ∷ []

-- a change: its tag, and the new value
unfoldable pub prop_change : Form PropChange
prop_change = enum_of sent_change change_readers
