use Rattle.std.proofs.Common.{sym, subst}
use Rattle.alp_locks.specs.Sound.{IsSound}
use Rattle.alp_locks.proofs.SoundLemmas.{new-sound}
use Rattle.alp_locks.proofs.table.LockTable.new.Goals as goal

pub returns-clause-sound : goal.returns-clause-sound
returns-clause-sound c =
    subst IsSound (λ i. record { held = sym c.new.ensures i; waiting = sym c.new-2.ensures i; woken = sym c.new-3.ensures.items i }) new-sound
