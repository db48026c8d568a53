-- The law of how transactions stand.
use Rattle.std.proofs.Common.{◌≡◌, ℕ, List, ◌∷◌, ◌++◌, Some, refl, arith}
use Rattle.alp_files.specs.declared.reply.Ended.{Ended}
use Rattle.alp_files.specs.declared.reply.Ended.TheVariants.{Running, Committed, Aborted, Unknown}
use Rattle.alp_fields.specs.Forms.{IsForm, read_choice}
use Rattle.alp_fields.proofs.FieldLaws.{stamp_law}
use Rattle.alp_forms.specs.Variants.{Variant, bare, by_tag}
use Rattle.alp_rpc.specs.Endings.{committed_at, sent_ended, ended_readers, ended}
use Rattle.alp_forms.proofs.VariantLaws.{ReadsAsSent, nothing_law, reads_variant, variant_is_back, enum_law}

back : (v : Ended) (rest : List ℕ) → (sent_ended v).Fits → read_choice ended_readers ((sent_ended v).bytes ++ rest) ≡ Some (v, rest)
back Running rest fits = variant_is_back ended_readers (bare 0 Running) nothing_law (omega arith) (λ bytes. refl) tt rest fits
back (Committed at) rest fits = variant_is_back ended_readers committed_at stamp_law (omega arith) (λ bytes. refl) at rest fits
back Aborted rest fits = variant_is_back ended_readers (bare 2 Aborted) nothing_law (omega arith) (λ bytes. refl) tt rest fits
back Unknown rest fits = variant_is_back ended_readers (bare 3 Unknown) nothing_law (omega arith) (λ bytes. refl) tt rest fits

reads : (v : Variant Ended) → IsForm v.form → ((x : v.Fields) → (sent_ended (v.into x)).bytes ≡ v.tag ∷ v.form.spell x) → ((x : v.Fields) → v.form.Fits x → (sent_ended (v.into x)).Fits) → ReadsAsSent sent_ended (by_tag v)
reads v law is fits = reads_variant sent_ended v law is fits

pub ended_law : IsForm ended
unfolding ended
ended_law = enum_law sent_ended ended_readers back (
  reads (bare 0 Running) nothing_law (λ x. refl) (λ x fits. fits),
  (
    reads committed_at stamp_law (λ x. refl) (λ x fits. fits),
    (
      reads (bare 2 Aborted) nothing_law (λ x. refl) (λ x fits. fits),
      (
        reads (bare 3 Unknown) nothing_law (λ x. refl) (λ x fits. fits),
        tt,
      ),
    ),
  ),
)
