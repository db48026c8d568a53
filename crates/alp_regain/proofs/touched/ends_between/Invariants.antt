use Rattle.std.specs.Prelude.{IsTrue, None}
use Rattle.std.specs.FinMap as map
use Rattle.alp_files.specs.Needs.{through}
use Rattle.alp_calls.specs.Looks.{Looks}
use Rattle.alp_regain.specs.Seen.{NoneBetween}
use Rattle.alp_regain.proofs.touched.ends_between.Given as goal

abbrev pub invariant-loop-number : goal.invariant-loop-number
invariant-loop-number g l = record {
  left : Looks g.V.Vault l.initial.vault l.vault None;
  none : IsTrue (g.V.Vault.tells l.initial.vault) → NoneBetween (through l.intents (map.get (g.V.Vault.held l.initial.vault).cells)) l.file l.first l.number;
}
