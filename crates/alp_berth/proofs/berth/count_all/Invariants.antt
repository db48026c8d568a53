use Rattle.std.specs.Vec.{vec_len, vec_capacity}
use Rattle.std.proofs.Common.{◌≡◌, ◌≤◌, length, take}
use Rattle.alp_berth.specs.Sends.{counts_from, count_in, capped}
use Rattle.alp_berth.proofs.berth.count_all.Given as goal

abbrev pub invariant-loop-entry : goal.invariant-loop-entry
invariant-loop-entry l =
    (l.counts.items ≡ counts_from 0 (take l.entry-index l.entries))
    × (l.all ≡ capped (count_in (take l.entry-index l.entries)))
    × (vec_len l.counts ≡ l.entry-index)
    × (length l.entries ≤ vec_capacity l.counts)
