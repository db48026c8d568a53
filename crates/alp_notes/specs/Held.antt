-- Notes in memory, as those see them who hold them.
use Rattle.std.specs.Prelude.{ℕ, refl}
use Rattle.std.specs.Coded.{Coded, code_by, coded×, coded_list, coded_ℕ}
use Rattle.std.specs.FinMap as map
use Rattle.alp_base.specs.Notes.{Notes}

-- the notes by their names, and how many more of them take no memory
pub record Held : Type 0 where
  pub notes : Notes
  pub room : ℕ

abbrev pub held_code : Coded Held
held_code = code_by (Notes × ℕ) (coded× (map.code (coded_list coded_ℕ) (coded_list coded_ℕ)) coded_ℕ) (λ h. (h.notes, h.room)) (λ p. record { notes = p.0; room = p.1 }) (λ _. refl)
