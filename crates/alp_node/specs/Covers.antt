-- What a part has locked, and what its changes put.
use Rattle.std.specs.Prelude.{◌≡◌, false, List, [], ◌∷◌, is_some}
use Rattle.alp_base.specs.declared.key.Resource.{Resource}
use Rattle.alp_files.specs.Apart.{IsSized}
use Rattle.alp_files.specs.Edits.{Edit, Drop, Cut, Put}
use Rattle.alp_files.specs.Holdings.{Holding}
use Rattle.alp_journal.specs.Counts.{has_resource}

-- each is named once
abbrev pub AreNamedOnce : List Resource → Type 0
AreNamedOnce [] = Unit {0}
AreNamedOnce (r ∷ rs) = (has_resource r rs ≡ false) × AreNamedOnce rs

-- on just these resources a lock is held, and each is named once
abbrev pub AreHeld : Holding → List Resource → Type 0
AreHeld held rs = ((r : Resource) → has_resource r rs ≡ is_some (held r)) × AreNamedOnce rs

-- the size in each leader that is put is a number of pages
abbrev pub AreSizedEdits : List Edit → Type 0
AreSizedEdits [] = Unit {0}
AreSizedEdits (Drop f ∷ es) = AreSizedEdits es
AreSizedEdits (Cut f n ∷ es) = AreSizedEdits es
AreSizedEdits (Put k c ∷ es) = IsSized c × AreSizedEdits es
