use Rattle.std.specs.Prelude.{None, map as list_map}
use Rattle.std.proofs.Common.{drop}
use Rattle.alp_calls.specs.Looks.{Looks}
use Rattle.alp_regain.specs.Notes.{part_note}
use Rattle.alp_regain.proofs.LiveLemmas.{Taking}
use Rattle.alp_regain.proofs.parts.lives_of.Given as goal

abbrev pub invariant-loop-part : goal.invariant-loop-part
invariant-loop-part g l = record {
  left : Looks g.V.Vault l.initial.vault l.vault None;
  taking : Taking (g.V.Vault.tells l.initial.vault) (g.V.Vault.held l.initial.vault).cells l.of.0 l.of.1 l.lives (list_map part_note l.parts) (list_map part_note (drop l.part-index l.parts));
}
