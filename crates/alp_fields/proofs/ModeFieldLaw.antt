-- the laws of a mode as a field
use Rattle.std.proofs.Common.{◌≡◌, ℕ, List, [], ◌∷◌, ◌++◌, Some, refl, arith}
use Rattle.alp_fields.specs.Forms.{IsForm, just, read_choice}
use Rattle.alp_fields.proofs.FieldLaws.{tagged_law, tag_back, just_reads, ReadsTagged}
use Rattle.alp_modes.specs.declared.Mode.{Mode}
use Rattle.alp_modes.specs.declared.Mode.TheVariants.{IntendRead, IntendWrite, Read, Update, ReadIntendWrite, Write}
use Rattle.alp_fields.specs.ModeField.{spell_mode, mode_readers, mode}

back : (v : Mode) (rest : List ℕ) → Unit {0} → read_choice mode_readers (spell_mode v ++ rest) ≡ Some (v, rest)
back IntendRead rest fits = tag_back mode_readers 1 rest (omega arith)
back IntendWrite rest fits = tag_back mode_readers 2 rest (omega arith)
back Read rest fits = tag_back mode_readers 3 rest (omega arith)
back Update rest fits = tag_back mode_readers 4 rest (omega arith)
back ReadIntendWrite rest fits = tag_back mode_readers 5 rest (omega arith)
back Write rest fits = tag_back mode_readers 6 rest (omega arith)

reads : (tag : ℕ) (v : Mode) → spell_mode v ≡ tag ∷ [] → ReadsTagged spell_mode (λ _. Unit {0}) (tag, just v)
reads tag v is = just_reads spell_mode (λ _. Unit {0}) tag v is tt

pub mode_law : IsForm mode
unfolding mode
mode_law = tagged_law spell_mode (λ _. Unit {0}) mode_readers back
    (reads 1 IntendRead refl, (reads 2 IntendWrite refl, (reads 3 Read refl, (reads 4 Update refl, (reads 5 ReadIntendWrite refl, (reads 6 Write refl, tt))))))
