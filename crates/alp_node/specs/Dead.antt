-- Parts that ended while their clients do not know.
use Rattle.std.specs.Prelude.{ℕ, Bool, not, ◌==◌, ◌&&◌, List, [], ◌∷◌, filter, Option, None, Some, if◌then◌else◌}
use Rattle.alp_base.specs.declared.ids.TransId.{TransId}
use Rattle.alp_files.specs.declared.refusal.Cause.{Cause}
use Rattle.alp_journal.specs.Ids.{same_trans}
use Rattle.alp_node.specs.declared.dead.DeadPart.{DeadPart}

-- it is the client's part of the transaction
abbrev pub is_part : ℕ → TransId → DeadPart → Bool
is_part client t d = d.client == client && same_trans d.trans t

abbrev pub without_part : ℕ → TransId → List DeadPart → List DeadPart
without_part client t ds = filter (λ (d : DeadPart). not (is_part client t d)) ds

abbrev pub without_client : ℕ → List DeadPart → List DeadPart
without_client client ds = filter (λ (d : DeadPart). not (d.client == client)) ds

-- the cause that these name last, and this one where they name none
abbrev pub cause_from : Option Cause → List DeadPart → ℕ → TransId → Option Cause
cause_from c [] client t = c
cause_from c (d ∷ ds) client t = cause_from (if is_part client t d then Some d.cause else c) ds client t

-- why the client's part ended, if it did so: what was said last of it
abbrev pub cause_in : List DeadPart → ℕ → TransId → Option Cause
cause_in ds client t = cause_from None ds client t
