-- a mode as a field: a byte from 1 to 6, from the least mode to the most
use Rattle.std.specs.Prelude.{ℕ, List, [], ◌∷◌}
use Rattle.alp_fields.specs.Forms.{Form, Readers, just, tagged}
use Rattle.alp_modes.specs.declared.Mode.{Mode}
use Rattle.alp_modes.specs.declared.Mode.TheVariants.{IntendRead, IntendWrite, Read, Update, ReadIntendWrite, Write}

abbrev pub spell_mode : Mode → List ℕ
spell_mode IntendRead = 1 ∷ []
spell_mode IntendWrite = 2 ∷ []
spell_mode Read = 3 ∷ []
spell_mode Update = 4 ∷ []
spell_mode ReadIntendWrite = 5 ∷ []
spell_mode Write = 6 ∷ []

abbrev pub mode_readers : Readers Mode
mode_readers =
    (1, just IntendRead)
    ∷ (2, just IntendWrite)
    ∷ (3, just Read)
    ∷ (4, just Update)
    ∷ (5, just ReadIntendWrite)
    ∷ (6, just Write)
    ∷ []

unfoldable pub mode : Form Mode
mode = tagged spell_mode (λ _. Unit {0}) mode_readers
