-- The laws of what refusals tell.
use Rattle.std.proofs.Common.{◌≡◌, ℕ, List, ◌∷◌, ◌++◌, Some, refl, arith}
use Rattle.alp_files.specs.declared.refusal.ListName.{ListName}
use Rattle.alp_files.specs.declared.refusal.ListName.TheVariants.{Read, Modify, Create, Admin}
use Rattle.alp_files.specs.declared.refusal.What.{What}
use Rattle.alp_files.specs.declared.refusal.What.TheVariants.{Run, Pages, Opens, Cells, Locks, Files, Owners, Transactions}
use Rattle.alp_files.specs.declared.refusal.Why.{Why}
use Rattle.alp_files.specs.declared.refusal.Why.TheVariants.{UnknownJoin, Waiting, LogFull, ReadFault, ClockEnd}
use Rattle.alp_files.specs.declared.refusal.Cause.{Cause}
use Rattle.alp_files.specs.declared.refusal.Cause.TheVariants.{Asked, TimedOut, Voted, Lost}
use Rattle.alp_fields.specs.Forms.{IsForm, read_choice, u8, u32}
use Rattle.alp_fields.proofs.FormLaws.{pair_law}
use Rattle.alp_fields.proofs.FieldLaws.{u8_law, u32_law}
use Rattle.alp_forms.specs.Variants.{Variant, bare, by_tag}
use Rattle.alp_forms.specs.Reasons.{sent_list_name, list_name_readers, list_name, sent_what, what_readers, what, room_form, sent_why, why_readers, why, voted, lost, sent_cause, cause_readers, cause}
use Rattle.alp_forms.proofs.VariantLaws.{ReadsAsSent, nothing_law, reads_variant, variant_is_back, enum_law}

list_name_back : (v : ListName) (rest : List ℕ) → (sent_list_name v).Fits → read_choice list_name_readers ((sent_list_name v).bytes ++ rest) ≡ Some (v, rest)
list_name_back Read rest fits = variant_is_back list_name_readers (bare 1 Read) nothing_law (omega arith) (λ bytes. refl) tt rest fits
list_name_back Modify rest fits = variant_is_back list_name_readers (bare 2 Modify) nothing_law (omega arith) (λ bytes. refl) tt rest fits
list_name_back Create rest fits = variant_is_back list_name_readers (bare 3 Create) nothing_law (omega arith) (λ bytes. refl) tt rest fits
list_name_back Admin rest fits = variant_is_back list_name_readers (bare 4 Admin) nothing_law (omega arith) (λ bytes. refl) tt rest fits

reads_list_name : (v : Variant ListName) → IsForm v.form → ((x : v.Fields) → (sent_list_name (v.into x)).bytes ≡ v.tag ∷ v.form.spell x) → ((x : v.Fields) → v.form.Fits x → (sent_list_name (v.into x)).Fits) → ReadsAsSent sent_list_name (by_tag v)
reads_list_name v law is fits = reads_variant sent_list_name v law is fits

pub list_name_law : IsForm list_name
unfolding list_name
list_name_law = enum_law sent_list_name list_name_readers list_name_back (
  reads_list_name (bare 1 Read) nothing_law (λ x. refl) (λ x fits. fits),
  (
    reads_list_name (bare 2 Modify) nothing_law (λ x. refl) (λ x fits. fits),
    (
      reads_list_name (bare 3 Create) nothing_law (λ x. refl) (λ x fits. fits),
      (
        reads_list_name (bare 4 Admin) nothing_law (λ x. refl) (λ x fits. fits),
        tt,
      ),
    ),
  ),
)

what_back : (v : What) (rest : List ℕ) → (sent_what v).Fits → read_choice what_readers ((sent_what v).bytes ++ rest) ≡ Some (v, rest)
what_back Run rest fits = variant_is_back what_readers (bare 1 Run) nothing_law (omega arith) (λ bytes. refl) tt rest fits
what_back Pages rest fits = variant_is_back what_readers (bare 2 Pages) nothing_law (omega arith) (λ bytes. refl) tt rest fits
what_back Opens rest fits = variant_is_back what_readers (bare 3 Opens) nothing_law (omega arith) (λ bytes. refl) tt rest fits
what_back Cells rest fits = variant_is_back what_readers (bare 4 Cells) nothing_law (omega arith) (λ bytes. refl) tt rest fits
what_back Locks rest fits = variant_is_back what_readers (bare 5 Locks) nothing_law (omega arith) (λ bytes. refl) tt rest fits
what_back Files rest fits = variant_is_back what_readers (bare 6 Files) nothing_law (omega arith) (λ bytes. refl) tt rest fits
what_back Owners rest fits = variant_is_back what_readers (bare 7 Owners) nothing_law (omega arith) (λ bytes. refl) tt rest fits
what_back Transactions rest fits = variant_is_back what_readers (bare 8 Transactions) nothing_law (omega arith) (λ bytes. refl) tt rest fits

reads_what : (v : Variant What) → IsForm v.form → ((x : v.Fields) → (sent_what (v.into x)).bytes ≡ v.tag ∷ v.form.spell x) → ((x : v.Fields) → v.form.Fits x → (sent_what (v.into x)).Fits) → ReadsAsSent sent_what (by_tag v)
reads_what v law is fits = reads_variant sent_what v law is fits

pub what_law : IsForm what
unfolding what
what_law = enum_law sent_what what_readers what_back (
  reads_what (bare 1 Run) nothing_law (λ x. refl) (λ x fits. fits),
  (
    reads_what (bare 2 Pages) nothing_law (λ x. refl) (λ x fits. fits),
    (
      reads_what (bare 3 Opens) nothing_law (λ x. refl) (λ x fits. fits),
      (
        reads_what (bare 4 Cells) nothing_law (λ x. refl) (λ x fits. fits),
        (
          reads_what (bare 5 Locks) nothing_law (λ x. refl) (λ x fits. fits),
          (
            reads_what (bare 6 Files) nothing_law (λ x. refl) (λ x fits. fits),
            (
              reads_what (bare 7 Owners) nothing_law (λ x. refl) (λ x fits. fits),
              (
                reads_what (bare 8 Transactions) nothing_law (λ x. refl) (λ x fits. fits),
                tt,
              ),
            ),
          ),
        ),
      ),
    ),
  ),
)

why_back : (v : Why) (rest : List ℕ) → (sent_why v).Fits → read_choice why_readers ((sent_why v).bytes ++ rest) ≡ Some (v, rest)
why_back UnknownJoin rest fits = variant_is_back why_readers (bare 1 UnknownJoin) nothing_law (omega arith) (λ bytes. refl) tt rest fits
why_back Waiting rest fits = variant_is_back why_readers (bare 2 Waiting) nothing_law (omega arith) (λ bytes. refl) tt rest fits
why_back (LogFull room asked) rest fits = variant_is_back why_readers room_form (pair_law u32 u32 u32_law u32_law) (omega arith) (λ bytes. refl) (room, asked) rest fits
why_back ReadFault rest fits = variant_is_back why_readers (bare 4 ReadFault) nothing_law (omega arith) (λ bytes. refl) tt rest fits
why_back ClockEnd rest fits = variant_is_back why_readers (bare 5 ClockEnd) nothing_law (omega arith) (λ bytes. refl) tt rest fits

reads_why : (v : Variant Why) → IsForm v.form → ((x : v.Fields) → (sent_why (v.into x)).bytes ≡ v.tag ∷ v.form.spell x) → ((x : v.Fields) → v.form.Fits x → (sent_why (v.into x)).Fits) → ReadsAsSent sent_why (by_tag v)
reads_why v law is fits = reads_variant sent_why v law is fits

pub why_law : IsForm why
unfolding why
why_law = enum_law sent_why why_readers why_back (
  reads_why (bare 1 UnknownJoin) nothing_law (λ x. refl) (λ x fits. fits),
  (
    reads_why (bare 2 Waiting) nothing_law (λ x. refl) (λ x fits. fits),
    (
      reads_why room_form (pair_law u32 u32 u32_law u32_law) (λ x. refl) (λ x fits. fits),
      (
        reads_why (bare 4 ReadFault) nothing_law (λ x. refl) (λ x fits. fits),
        (
          reads_why (bare 5 ClockEnd) nothing_law (λ x. refl) (λ x fits. fits),
          tt,
        ),
      ),
    ),
  ),
)

cause_back : (v : Cause) (rest : List ℕ) → (sent_cause v).Fits → read_choice cause_readers ((sent_cause v).bytes ++ rest) ≡ Some (v, rest)
cause_back Asked rest fits = variant_is_back cause_readers (bare 1 Asked) nothing_law (omega arith) (λ bytes. refl) tt rest fits
cause_back TimedOut rest fits = variant_is_back cause_readers (bare 2 TimedOut) nothing_law (omega arith) (λ bytes. refl) tt rest fits
cause_back (Voted server reason) rest fits = variant_is_back cause_readers voted (pair_law u8 why u8_law why_law) (omega arith) (λ bytes. refl) (server, reason) rest fits
cause_back (Lost epoch) rest fits = variant_is_back cause_readers lost u32_law (omega arith) (λ bytes. refl) epoch rest fits

reads_cause : (v : Variant Cause) → IsForm v.form → ((x : v.Fields) → (sent_cause (v.into x)).bytes ≡ v.tag ∷ v.form.spell x) → ((x : v.Fields) → v.form.Fits x → (sent_cause (v.into x)).Fits) → ReadsAsSent sent_cause (by_tag v)
reads_cause v law is fits = reads_variant sent_cause v law is fits

pub cause_law : IsForm cause
unfolding cause
cause_law = enum_law sent_cause cause_readers cause_back (
  reads_cause (bare 1 Asked) nothing_law (λ x. refl) (λ x fits. fits),
  (
    reads_cause (bare 2 TimedOut) nothing_law (λ x. refl) (λ x fits. fits),
    (
      reads_cause voted (pair_law u8 why u8_law why_law) (λ x. refl) (λ x fits. fits),
      (
        reads_cause lost u32_law (λ x. refl) (λ x fits. fits),
        tt,
      ),
    ),
  ),
)
