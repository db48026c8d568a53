use Rattle.std.proofs.Common.{ℕ, ◌∙◌, ap}
use Rattle.alp_cluster.specs.declared.fault.RunFault.TheVariants as fault
use Rattle.alp_cluster.proofs.RestartLemmas.{starts_again}
use Rattle.alp_cluster.proofs.restarts.start_again.Goals as goal

pub returns-in-Ok : goal.returns-in-Ok
returns-in-Ok g c = starts_again g.V.Vault c.args.pick c.args.node c.in-Ok.node c.fall-fallen.result c.requires.on c.fall-fallen.ensures.fallen c.in-Ok.ensures c.knows-in-Ok.ensures

pub returns-in-Err : goal.returns-in-Err
returns-in-Err g c = (
  c.in-Err.fault,
  ap (λ (k : ℕ). fault.Start k c.in-Err.fault) c.server-server.ensures,
  record { fallen = c.fall-fallen.result; falls = c.fall-fallen.ensures.fallen; stood = c.knows.ensures; stays = c.in-Err.ensures; free = c.knows-in-Err.ensures.free },
)
