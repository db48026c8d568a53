use Rattle.std.proofs.Common.{◌≡◌, drop}
use Rattle.alp_pool.specs.Pools.{log_of}
use Rattle.alp_wal.specs.Wal.{notes_of}
use Rattle.alp_store.proofs.NoteLaws.{all_good}
use Rattle.alp_store.proofs.notes.are_server_notes.Given as goal

abbrev pub invariant-loop-name : goal.invariant-loop-name
invariant-loop-name g l = all_good l.server l.servers (notes_of (log_of l.pages)) (drop l.name-index l.names) ≡ all_good l.server l.servers (notes_of (log_of l.pages)) l.names
