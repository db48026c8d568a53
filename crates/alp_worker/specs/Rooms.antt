-- What ready parts come to in the log.
use Rattle.std.specs.Prelude.{◌≡◌, ℕ, ◌+◌, ◌*◌, max, List, [], ◌∷◌, length, Option}
use Rattle.alp_base.specs.declared.ids.TransId.{TransId}
use Rattle.alp_files.specs.declared.refusal.Why.{Why}
use Rattle.alp_journal.specs.Counts.{weight, ready_sum}
use Rattle.alp_journal.specs.Messages.{part_cells, no_room}
use Rattle.alp_journal.specs.State.{State}
use Rattle.alp_worker.specs.declared.room.PartSize.{PartSize}
use Rattle.alp_worker.specs.declared.room.ReadySum.{ReadySum}

-- the pages that applying a part takes
abbrev pub applying_of : PartSize → ℕ
applying_of n = 4 * n.cells + 4

-- the sum with one part more
abbrev pub sum_with : PartSize → ReadySum → ReadySum
sum_with n k = record { weights = weight n.cells n.locks + k.weights; greatest = max (applying_of n) k.greatest }

abbrev pub sum_of : List PartSize → ReadySum
sum_of [] = record { weights = 0; greatest = 0 }
sum_of (n ∷ ns) = sum_with n (sum_of ns)

-- why there is no room for a part of another server's transaction, and for one of this server's own
abbrev pub room_for : (area : ℕ) → ReadySum → PartSize → Option Why
room_for area k n = no_room area (ready_sum k.weights k.greatest) (ready_sum (sum_with n k).weights (sum_with n k).greatest)

abbrev pub own_room : (area : ℕ) → ReadySum → PartSize → Option Why
own_room area k n = no_room area (ready_sum k.weights 0) (ready_sum k.weights (applying_of n))

-- ---- the parts of a state

-- the transaction's part has this size
abbrev pub IsSizeOf : State → TransId → PartSize → Type 0
IsSizeOf s t n = (part_cells (s.holder.lives t) ≡ n.cells) × (length (s.locked t) ≡ n.locks)

abbrev pub AreSizesOf : State → List TransId → List PartSize → Type 0
AreSizesOf s [] [] = Unit {0}
AreSizesOf s (t ∷ ts) (n ∷ ns) = IsSizeOf s t n × AreSizesOf s ts ns
AreSizesOf s ts ns = ⊥
