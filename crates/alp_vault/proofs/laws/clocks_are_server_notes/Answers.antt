use Rattle.alp_vault.proofs.VolumeLemmas.{noted_so_far, changes_so_far, alone_so_far}
use Rattle.alp_vault.proofs.laws.clocks_are_server_notes.Goals as goal

pub returns : goal.returns
returns c = record { notes = noted_so_far; changes = changes_so_far; alone = alone_so_far }
