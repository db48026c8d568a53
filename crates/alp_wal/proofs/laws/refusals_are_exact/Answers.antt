use Rattle.alp_wal.proofs.Refusals.{read_is_mounted, no_volume_is_not_damaged, damage_is_in_one_place}
use Rattle.alp_wal.proofs.laws.refusals_are_exact.Goals as goal

pub returns : goal.returns
returns c = record { reading = read_is_mounted; apart = no_volume_is_not_damaged; place = damage_is_in_one_place }
