-- The laws of changes of a property.
use Rattle.std.proofs.Common.{◌≡◌, ℕ, List, ◌∷◌, ◌++◌, Some, refl, arith}
use Rattle.alp_files.specs.declared.call.PropChange.{PropChange}
use Rattle.alp_files.specs.declared.call.PropChange.TheVariants.{Owner, Name, TypeNo, ByteLength, Read, Modify}
use Rattle.alp_fields.specs.Forms.{IsForm, read_choice}
use Rattle.alp_fields.proofs.FieldLaws.{u16_law, u64_law, name_law, list_law}
use Rattle.alp_forms.specs.Variants.{Variant, by_tag}
use Rattle.alp_rpc.specs.Changes.{to_owner, to_name, to_type, to_length, to_readers, to_changers, sent_change, change_readers, prop_change}
use Rattle.alp_forms.proofs.VariantLaws.{ReadsAsSent, reads_variant, variant_is_back, enum_law}

back : (v : PropChange) (rest : List ℕ) → (sent_change v).Fits → read_choice change_readers ((sent_change v).bytes ++ rest) ≡ Some (v, rest)
back (Owner who) rest fits = variant_is_back change_readers to_owner name_law (omega arith) (λ bytes. refl) who rest fits
back (Name given) rest fits = variant_is_back change_readers to_name name_law (omega arith) (λ bytes. refl) given rest fits
back (TypeNo number) rest fits = variant_is_back change_readers to_type u16_law (omega arith) (λ bytes. refl) number rest fits
back (ByteLength count) rest fits = variant_is_back change_readers to_length u64_law (omega arith) (λ bytes. refl) count rest fits
back (Read names) rest fits = variant_is_back change_readers to_readers list_law (omega arith) (λ bytes. refl) names rest fits
back (Modify names) rest fits = variant_is_back change_readers to_changers list_law (omega arith) (λ bytes. refl) names rest fits

reads : (v : Variant PropChange) → IsForm v.form → ((x : v.Fields) → (sent_change (v.into x)).bytes ≡ v.tag ∷ v.form.spell x) → ((x : v.Fields) → v.form.Fits x → (sent_change (v.into x)).Fits) → ReadsAsSent sent_change (by_tag v)
reads v law is fits = reads_variant sent_change v law is fits

pub prop_change_law : IsForm prop_change
unfolding prop_change
prop_change_law = enum_law sent_change change_readers back (
  reads to_owner name_law (λ x. refl) (λ x fits. fits),
  (
    reads to_name name_law (λ x. refl) (λ x fits. fits),
    (
      reads to_type u16_law (λ x. refl) (λ x fits. fits),
      (
        reads to_length u64_law (λ x. refl) (λ x fits. fits),
        (
          reads to_readers list_law (λ x. refl) (λ x fits. fits),
          (
            reads to_changers list_law (λ x. refl) (λ x fits. fits),
            tt,
          ),
        ),
      ),
    ),
  ),
)
