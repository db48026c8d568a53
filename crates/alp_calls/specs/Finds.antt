-- What a call finds before it changes anything, or how it is refused.
use Rattle.std.specs.Prelude.{ℕ, ◌+◌, ◌-◌, ◌||◌, List, Option, None, Some, Result, Ok, Err, if◌then◌else◌}
use Rattle.alp_base.specs.declared.choices.Access.{Access}
use Rattle.alp_base.specs.declared.choices.Access.TheVariants.{ReadOnly, Change}
use Rattle.alp_base.specs.declared.key.Key.TheVariants.{Leader}
use Rattle.alp_modes.specs.declared.Mode.{Mode}
use Rattle.alp_files.specs.declared.call.PropChange.{PropChange}
use Rattle.alp_files.specs.declared.call.PropChange.TheVariants as prop
use Rattle.alp_base.specs.declared.cell.OwnerRecord.{OwnerRecord}
use Rattle.alp_base.specs.declared.cell.Props.{Props}
use Rattle.alp_files.specs.declared.open.Open.{Open}
use Rattle.alp_files.specs.declared.refusal.ListName.{ListName}
use Rattle.alp_files.specs.declared.refusal.ListName.TheVariants as lists
use Rattle.alp_files.specs.declared.refusal.Refusal.{Refusal}
use Rattle.alp_files.specs.declared.refusal.Refusal.TheVariants as refusal
use Rattle.alp_files.specs.Act.{admits, is_over, quota_exceeded, is_changing}
use Rattle.alp_files.specs.Cells.{View, props_in}
use Rattle.alp_calls.specs.declared.finding.OpenedFile.{OpenedFile}

-- ---- files

-- the list that does not admit who opens a file so, if one does not
abbrev pub denied_by : Access → List ℕ → Props → Option ListName
denied_by ReadOnly who p = if admits p.read who p.owner || admits p.modify who p.owner then None else Some lists.Read
denied_by Change who p = if admits p.modify who p.owner then None else Some lists.Modify

-- the open with the properties of its file, where that is there
abbrev pub with_props : Open → Option Props → Result OpenedFile Refusal
with_props o None = Err refusal.UnknownOpen
with_props o (Some p) = Ok (record { opened = o; props = p })

-- what is to be changed needs an open for change
abbrev pub if_allowed : (wanted has : Access) → Result OpenedFile Refusal → Result OpenedFile Refusal
if_allowed ReadOnly has found = found
if_allowed Change ReadOnly found = Err refusal.ReadOnlyOpen
if_allowed Change Change found = found

abbrev pub found_on : Access → View → Option Open → Result OpenedFile Refusal
found_on wanted m None = Err refusal.UnknownOpen
found_on wanted m (Some o) = if_allowed wanted o.access (with_props o (props_in (m (Leader o.file))))

-- the access that pages need which are locked in this mode
abbrev pub access_for : Mode → Access
access_for mode = if is_changing mode then Change else ReadOnly

-- the properties with one of them changed, other than the owner
abbrev pub props_with : PropChange → Props → Props
props_with (prop.Owner n) p = p
props_with (prop.Name n) p = record p { name = n }
props_with (prop.TypeNo n) p = record p { type_no = n }
props_with (prop.ByteLength n) p = record p { byte_length = n }
props_with (prop.Read l) p = record p { read = l }
props_with (prop.Modify l) p = record p { modify = l }

-- ---- owners

-- the owner's record with the charge of so many pages more, where its quota has room for them
abbrev pub raised : OwnerRecord → ℕ → Result OwnerRecord Refusal
raised o asked = if is_over o asked then Err (quota_exceeded o asked) else Ok (record o { charge = o.charge + asked })

-- and with that of so many pages less
abbrev pub lowered : OwnerRecord → ℕ → OwnerRecord
lowered o pages = record o { charge = o.charge - pages }

-- the record of an owner who gets a file of this size from a principal
abbrev pub charged : (who name : List ℕ) → ℕ → Option OwnerRecord → Result OwnerRecord Refusal
charged who name size None = Err refusal.UnknownOwner
charged who name size (Some o) = if admits o.create who name then raised o size else Err (refusal.AccessDenied lists.Create)
