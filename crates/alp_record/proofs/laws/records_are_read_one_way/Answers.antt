use Rattle.alp_record.proofs.Readings.{body_once, records_once}
use Rattle.alp_record.proofs.laws.records_are_read_one_way.Goals as goal

pub returns : goal.returns
returns c = record { body = body_once; records = records_once }
