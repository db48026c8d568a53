use Rattle.std.proofs.Common.{List, subst, sym}
use Rattle.std.specs.FinMap.{entries_sorted}
use Rattle.alp_base.specs.declared.key.Resource.{Resource}
use Rattle.alp_modes.specs.declared.Mode.{Mode}
use Rattle.alp_locks.specs.Tables.{held_of}
use Rattle.alp_ready.specs.NoteOrder.{AreRising}
use Rattle.alp_server_tests.proofs.tests.ready.noted.Goals as goal

pub noted_locks-requires : goal.noted_locks-requires
noted_locks-requires c = subst (λ (es : List (Resource × Mode)). AreRising es) (sym c.in_ok-listed.ensures) (entries_sorted (held_of c.args.table.now.held c.args.trans))
