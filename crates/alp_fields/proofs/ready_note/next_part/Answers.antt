use Rattle.alp_fields.proofs.ReadyNoteLaw.{lock_law}
use Rattle.alp_fields.proofs.ready_note.next_part.Goals as goal

pub read_rising-requires : goal.read_rising-requires
read_rising-requires c = lock_law
