-- the laws of properties as a field
use Rattle.std.proofs.Common.{refl}
use Rattle.alp_fields.specs.Forms.{IsForm, u16, u32, u64}
use Rattle.alp_fields.specs.Fields.{name, list}
use Rattle.alp_fields.proofs.FormLaws.{pair_law, mapped_law}
use Rattle.alp_fields.proofs.FieldLaws.{u16_law, u32_law, u64_law, name_law, list_law}
use Rattle.alp_fields.specs.PropsField.{numbers, props_of, parts_of, props}

numbers_law : IsForm numbers
unfolding numbers
numbers_law = pair_law u16 _ u16_law (pair_law u64 _ u64_law (pair_law u64 _ u64_law (pair_law u32 u32 u32_law u32_law)))

pub props_law : IsForm props
unfolding props
props_law = mapped_law props_of parts_of _ (λ v. refl) (λ x. refl)
    (pair_law name _ name_law (pair_law name _ name_law (pair_law numbers _ numbers_law (pair_law list list list_law list_law))))
