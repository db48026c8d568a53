use Rattle.alp_wal.proofs.Readings.{reads_once}
use Rattle.alp_wal.proofs.laws.a_disk_has_one_reading.Goals as goal

pub returns : goal.returns
returns c = reads_once
