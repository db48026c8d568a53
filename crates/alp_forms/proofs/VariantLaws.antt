-- The laws of enums on the wire, from those of their variants' fields.
use Rattle.std.proofs.Common.{◌≡◌, ℕ, ◌<◌, List, ◌∷◌, ◌++◌, Option, Some, refl, subst, ◌∙◌}
use Rattle.std.specs.List.{AllByRecursion}
use Rattle.alp_fields.specs.Forms.{IsForm, Readers, read_tagged, read_choice}
use Rattle.alp_fields.proofs.FormLaws.{Spells, some_is}
use Rattle.alp_fields.proofs.FieldLaws.{ReadsTagged, variant_reads, variant_back, tagged_law, tag_back}
use Rattle.alp_forms.specs.Variants.{Variant, nothing, Sent, sent, fields_of, by_tag, enum_of}

pub nothing_law : IsForm nothing
nothing_law = record {
  back = λ v rest fits. refl;
  spelled = λ bytes v rest e.
      let made : Unit {0} × List ℕ = (tt, bytes) in
      subst (Spells nothing bytes) (some_is made (v, rest) e) (refl, tt);
}

-- The reader of the variant reads what is sent so.
abbrev pub ReadsAsSent : {T : Type 0} → (T → Sent) → ℕ × (List ℕ → Option (T × List ℕ)) → Type 0
ReadsAsSent sent_as = ReadsTagged (λ v. (sent_as v).bytes) (λ v. (sent_as v).Fits)

pub reads_variant : {T : Type 0} (sent_as : T → Sent) (v : Variant T) → IsForm v.form → ((x : v.Fields) → (sent_as (v.into x)).bytes ≡ v.tag ∷ v.form.spell x) → ((x : v.Fields) → v.form.Fits x → (sent_as (v.into x)).Fits) → ReadsAsSent sent_as (by_tag v)
reads_variant sent_as v law is fits = variant_reads (λ w. (sent_as w).bytes) (λ w. (sent_as w).Fits) v.tag v.into v.form law is fits

-- what is sent of the variant is read back by the readers that have it at its tag
pub variant_is_back : {T : Type 0} (readers : Readers T) (v : Variant T) → IsForm v.form → v.tag < 256 → ((bytes : List ℕ) → read_tagged readers v.tag bytes ≡ fields_of v bytes)
    → (x : v.Fields) (rest : List ℕ) → v.form.Fits x → read_choice readers ((sent v x).bytes ++ rest) ≡ Some (v.into x, rest)
variant_is_back readers v law lt found x rest fits = tag_back readers v.tag (v.form.spell x ++ rest) lt ∙ found (v.form.spell x ++ rest) ∙ variant_back v.into v.form law x rest fits

pub enum_law : {T : Type 0} (sent_as : T → Sent) (readers : Readers T) → ((v : T) (rest : List ℕ) → (sent_as v).Fits → read_choice readers ((sent_as v).bytes ++ rest) ≡ Some (v, rest))
    → AllByRecursion (ReadsAsSent sent_as) readers → IsForm (enum_of sent_as readers)
enum_law sent_as readers back reads = tagged_law (λ v. (sent_as v).bytes) (λ v. (sent_as v).Fits) readers back reads
