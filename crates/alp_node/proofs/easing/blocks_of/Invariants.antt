use Rattle.std.specs.FinMap as map
use Rattle.std.proofs.Common.{◌≡◌, drop, IsTrue}
use Rattle.alp_node.specs.Eases.{new_from}
use Rattle.alp_node.proofs.easing.blocks_of.Given as goal

abbrev pub invariant-loop-put : goal.invariant-loop-put
invariant-loop-put g l = IsTrue (g.V.Vault.tells l.vault) → new_from (g.V.Vault.held l.vault).cells l.blocks (drop l.put-index l.puts) ≡ new_from (g.V.Vault.held l.vault).cells map.empty l.puts
