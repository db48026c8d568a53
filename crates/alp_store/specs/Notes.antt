-- The notes of a server, one by one.
use Rattle.std.specs.Prelude.{ℕ, Bool, true, List, Option, None, Some}
use Rattle.alp_vault.specs.Volumes.{is_server_note}

-- the note of that name is in the format of a server, which is one of so many, if it stands
abbrev pub is_good : ℕ → ℕ → List ℕ → Option (List ℕ) → Bool
is_good server servers name None = true
is_good server servers name (Some value) = is_server_note server servers name value
