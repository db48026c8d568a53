-- the laws of owners' records
use Rattle.std.proofs.Common.{◌≡◌, ℕ, ◌+◌, ◌-◌, List, [], ◌∷◌, ◌++◌, length, get_or, replicate, Option, Some, None, true, refl, sym, ap, ◌∙◌, arith, length-append}
use Rattle.std.specs.Prelude.{IfOk, Result, Ok, Err}
use Rattle.std.proofs.lemmas.List.{length-replicate}
use Rattle.alp_base.specs.Names.{is_name}
use Rattle.alp_fields.specs.Forms.{IsForm, HasLength, IsSet, pair, u8, u32, whole}
use Rattle.alp_base.specs.Pages.{overwritten}
use Rattle.alp_fields.specs.Fields.{name_length, text_field, named_field, name_field_bytes, list_field}
use Rattle.alp_fields.proofs.FormLaws.{pair_law, mapped_law, zeros_behind_law, whole_spelled}
use Rattle.alp_fields.proofs.FieldLaws.{u32_law}
use Rattle.alp_fields.proofs.FixedLaws.{named_field_law, list_field_law, u32_length, named_field_length, list_field_length}
use Rattle.alp_fields.proofs.PlaceLemmas.{set_pair, set_mapped, set_zeros_behind}
use Rattle.alp_base.specs.declared.cell.OwnerRecord.{OwnerRecord}
use Rattle.alp_fields.specs.declared.owner_field.TheConstants.{OWNER_BYTES}
use Rattle.alp_fields.specs.OwnerField.{owner_of, parts_of, owner_fields, owner_fields_bytes, owner_record, unused_record}

fields_law : IsForm owner_fields
unfolding owner_fields
fields_law = mapped_law owner_of parts_of _ (λ v. refl) (λ x. refl)
    (pair_law named_field _ named_field_law (pair_law u32 _ u32_law (pair_law u32 list_field u32_law list_field_law)))

pub owner_record_law : IsForm owner_record
unfolding owner_record
owner_record_law = zeros_behind_law (OWNER_BYTES - owner_fields_bytes) owner_fields fields_law

fields_length : HasLength owner_fields owner_fields_bytes
unfolding owner_fields
fields_length o fits =
    let create : List ℕ = list_field.spell o.create in
    let charge : List ℕ = u32.spell o.charge ++ create in
    let quota : List ℕ = u32.spell o.quota ++ charge in
    omega (
      arith,
      length-append (named_field.spell o.name) quota,
      length-append (u32.spell o.quota) charge,
      length-append (u32.spell o.charge) create,
      named_field_length o.name fits.0,
      u32_length o.quota,
      u32_length o.charge,
      list_field_length o.create fits.1.1.1,
    )

pub owner_record_length : HasLength owner_record OWNER_BYTES
unfolding owner_record
owner_record_length o fits =
    let unused : ℕ = OWNER_BYTES - owner_fields_bytes in
    omega (arith, length-append (owner_fields.spell o) (replicate unused 0), fields_length o fits.0, length-replicate {A = ℕ} unused 0)

-- ---- the fields put one behind the other

pub fields_set : (o : OwnerRecord) (old one two three new : List ℕ) → length old ≡ OWNER_BYTES
    → IsSet named_field o.name 0 old one → IsSet u32 o.quota name_field_bytes one two → IsSet u32 o.charge (name_field_bytes + 4) two three → IsSet list_field o.create (name_field_bytes + 4 + 4) three new
    → length one ≡ OWNER_BYTES → length two ≡ OWNER_BYTES → IsSet owner_fields o 0 old new
unfolding owner_fields
fields_set o old one two three new room name quota charge create room-1 room-2 =
    let name_end : name_field_bytes ≡ 0 + length (named_field.spell o.name) = omega (arith, named_field_length o.name name.fits) in
    let quota_end : name_field_bytes + 4 ≡ name_field_bytes + length (u32.spell o.quota) = omega (arith, u32_length o.quota) in
    let charge_end : name_field_bytes + 4 + 4 ≡ name_field_bytes + 4 + length (u32.spell o.charge) = omega (arith, u32_length o.charge) in
    set_mapped owner_of parts_of (pair named_field (pair u32 (pair u32 list_field))) o 0 old new
    (set_pair named_field (pair u32 (pair u32 list_field)) o.name (o.quota, (o.charge, o.create)) 0 name_field_bytes old one new (omega arith) name_end name
    (set_pair u32 (pair u32 list_field) o.quota (o.charge, o.create) name_field_bytes (name_field_bytes + 4) one two new (omega arith) quota_end quota
    (set_pair u32 list_field o.charge o.create (name_field_bytes + 4) (name_field_bytes + 4 + 4) two three new (omega arith) charge_end charge create)))

pub owner_set : (o : OwnerRecord) (old mid new : List ℕ) → IsSet owner_fields o 0 old mid → new ≡ overwritten mid owner_fields_bytes (replicate (OWNER_BYTES - owner_fields_bytes) 0) → IsSet owner_record o 0 old new
unfolding owner_record
owner_set o old mid new fields zeros =
    set_zeros_behind owner_fields o (OWNER_BYTES - owner_fields_bytes) 0 owner_fields_bytes old mid new (omega arith) (omega (arith, fields_length o fields.fits)) fields zeros

-- ---- an unused record is no owner's

first_of_fields : (o : OwnerRecord) (rest : List ℕ) → get_or (owner_fields.spell o ++ rest) 0 1 ≡ length o.name
unfolding owner_fields named_field text_field name_length u8
first_of_fields o rest = refl

no_name : (n : List ℕ) → is_name n ≡ true → length n ≡ 0 → ⊥
no_name [] named e = cc
no_name (b ∷ n) named e = omega arith

named_fits : (n : List ℕ) → named_field.Fits n → is_name n ≡ true
unfolding named_field
named_fits n fits = fits.1

fields_fit : (o : OwnerRecord) → owner_fields.Fits o → named_field.Fits o.name
unfolding owner_fields
fields_fit o fits = fits.0

pub unused_is_none : {E : Type 0} (bytes : List ℕ) (answer : Result (Option OwnerRecord) E) → IfOk answer (λ found. found ≡ whole owner_record bytes) → bytes ≡ unused_record → IfOk answer (λ found. found ≡ None)
unfolding owner_record
unused_is_none bytes (Err e) is unused = tt
unused_is_none bytes (Ok None) is unused = refl
unused_is_none bytes (Ok (Some o)) is unused =
    let p = whole_spelled owner_record owner_record_law bytes o (sym is) in
    let zero_first : get_or bytes 0 1 ≡ 0 = ap (λ (bs : List ℕ). get_or bs 0 1) unused in
    let long : length o.name ≡ 0 = sym (first_of_fields o (replicate (OWNER_BYTES - owner_fields_bytes) 0)) ∙ ap (λ (bs : List ℕ). get_or bs 0 1) (sym p.0) ∙ zero_first in
    absurd (no_name o.name (named_fits o.name (fields_fit o p.1.0)) long)
