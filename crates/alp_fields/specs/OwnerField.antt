-- An owner's record in bytes.
use Rattle.std.specs.Prelude.{ℕ, ◌+◌, ◌-◌, List, replicate}
use Rattle.alp_fields.specs.Forms.{Form, pair, mapped, zeros_behind, u32}
use Rattle.alp_fields.specs.Fields.{named_field, name_field_bytes, list_field, list_field_bytes}
use Rattle.alp_fields.specs.declared.rows.TheConstants.{U32_BYTES}
use Rattle.alp_base.specs.declared.cell.OwnerRecord.{OwnerRecord}
use Rattle.alp_fields.specs.declared.owner_field.TheConstants.{OWNER_BYTES}

-- name, quota, charge, and who may create files
abbrev pub OwnerParts : Type 0
OwnerParts = List ℕ × (ℕ × (ℕ × List (List ℕ)))

-- the record that has these fields, and the fields of a record
abbrev pub owner_of : OwnerParts → OwnerRecord
owner_of x = record { name = x.0; quota = x.1.0; charge = x.1.1.0; create = x.1.1.1 }

abbrev pub parts_of : OwnerRecord → OwnerParts
parts_of o = (o.name, (o.quota, (o.charge, o.create)))

-- the fields, one behind the other
unfoldable pub owner_fields : Form OwnerRecord
owner_fields = mapped owner_of parts_of (pair named_field (pair u32 (pair u32 list_field)))

-- the bytes of the fields
abbrev pub owner_fields_bytes : ℕ
owner_fields_bytes = name_field_bytes + U32_BYTES + U32_BYTES + list_field_bytes

-- the record: the fields, and zeros to the end
unfoldable pub owner_record : Form OwnerRecord
owner_record = zeros_behind (OWNER_BYTES - owner_fields_bytes) owner_fields

-- a record of no owner
abbrev pub unused_record : List ℕ
unused_record = replicate OWNER_BYTES 0
