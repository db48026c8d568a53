-- The law of replies.
use Rattle.std.proofs.Common.{◌≡◌, ℕ, List, ◌∷◌, ◌++◌, Some, refl, arith}
use Rattle.alp_files.specs.declared.reply.Reply.{Reply}
use Rattle.alp_files.specs.declared.reply.Reply.TheVariants.{Welcome, Begun, Joined, Created, Opened, Plain, Pages, Props, Owner, Committed, Ended, Refused}
use Rattle.alp_fields.proofs.PropsFieldLaw.{props_law}
use Rattle.alp_fields.specs.Forms.{IsForm, read_choice, u32}
use Rattle.alp_fields.specs.Fields.{file_id, name, list}
use Rattle.alp_fields.proofs.FormLaws.{pair_law, mapped_law}
use Rattle.alp_fields.proofs.FieldLaws.{u32_law, file_id_law, trans_id_law, stamp_law, name_law, list_law, pages_law}
use Rattle.alp_forms.specs.Variants.{Variant, bare, by_tag}
use Rattle.alp_rpc.specs.Replies.{owner_of, owner_parts, owner_field, welcome, begun, created, opened, some_pages, some_props, an_owner, committed, has_ended, refused, sent_reply, reply_readers, reply}
use Rattle.alp_forms.proofs.VariantLaws.{ReadsAsSent, nothing_law, reads_variant, variant_is_back, enum_law}
use Rattle.alp_rpc.proofs.EndedLaw.{ended_law}
use Rattle.alp_forms.proofs.RefusalLaw.{refusal_law}

owner_field_law : IsForm owner_field
unfolding owner_field
owner_field_law = mapped_law owner_of owner_parts _ (λ v. refl) (λ x. refl) (pair_law name _ name_law (pair_law u32 _ u32_law (pair_law u32 list u32_law list_law)))

back : (v : Reply) (rest : List ℕ) → (sent_reply v).Fits → read_choice reply_readers ((sent_reply v).bytes ++ rest) ≡ Some (v, rest)
back (Welcome epoch) rest fits = variant_is_back reply_readers welcome u32_law (omega arith) (λ bytes. refl) epoch rest fits
back (Begun trans) rest fits = variant_is_back reply_readers begun trans_id_law (omega arith) (λ bytes. refl) trans rest fits
back Joined rest fits = variant_is_back reply_readers (bare 3 Joined) nothing_law (omega arith) (λ bytes. refl) tt rest fits
back (Created file open_no) rest fits = variant_is_back reply_readers created (pair_law file_id u32 file_id_law u32_law) (omega arith) (λ bytes. refl) (file, open_no) rest fits
back (Opened open_no) rest fits = variant_is_back reply_readers opened u32_law (omega arith) (λ bytes. refl) open_no rest fits
back Plain rest fits = variant_is_back reply_readers (bare 6 Plain) nothing_law (omega arith) (λ bytes. refl) tt rest fits
back (Pages found) rest fits = variant_is_back reply_readers some_pages pages_law (omega arith) (λ bytes. refl) found rest fits
back (Props found) rest fits = variant_is_back reply_readers some_props props_law (omega arith) (λ bytes. refl) found rest fits
back (Owner found) rest fits = variant_is_back reply_readers an_owner owner_field_law (omega arith) (λ bytes. refl) found rest fits
back (Committed at) rest fits = variant_is_back reply_readers committed stamp_law (omega arith) (λ bytes. refl) at rest fits
back (Ended how) rest fits = variant_is_back reply_readers has_ended ended_law (omega arith) (λ bytes. refl) how rest fits
back (Refused reason) rest fits = variant_is_back reply_readers refused refusal_law (omega arith) (λ bytes. refl) reason rest fits

reads : (v : Variant Reply) → IsForm v.form → ((x : v.Fields) → (sent_reply (v.into x)).bytes ≡ v.tag ∷ v.form.spell x) → ((x : v.Fields) → v.form.Fits x → (sent_reply (v.into x)).Fits) → ReadsAsSent sent_reply (by_tag v)
reads v law is fits = reads_variant sent_reply v law is fits

pub reply_law : IsForm reply
unfolding reply
reply_law = enum_law sent_reply reply_readers back (
  reads welcome u32_law (λ x. refl) (λ x fits. fits),
  (
    reads begun trans_id_law (λ x. refl) (λ x fits. fits),
    (
      reads (bare 3 Joined) nothing_law (λ x. refl) (λ x fits. fits),
      (
        reads created (pair_law file_id u32 file_id_law u32_law) (λ x. refl) (λ x fits. fits),
        (
          reads opened u32_law (λ x. refl) (λ x fits. fits),
          (
            reads (bare 6 Plain) nothing_law (λ x. refl) (λ x fits. fits),
            (
              reads some_pages pages_law (λ x. refl) (λ x fits. fits),
              (
                reads some_props props_law (λ x. refl) (λ x fits. fits),
                (
                  reads an_owner owner_field_law (λ x. refl) (λ x fits. fits),
                  (
                    reads committed stamp_law (λ x. refl) (λ x fits. fits),
                    (
                      reads has_ended ended_law (λ x. refl) (λ x fits. fits),
                      (
                        reads refused refusal_law (λ x. refl) (λ x fits. fits),
                        tt,
                      ),
                    ),
                  ),
                ),
              ),
            ),
          ),
        ),
      ),
    ),
  ),
)
