use Rattle.std.proofs.Common.{◌≡◌, true}
use Rattle.alp_vault.specs.Stages.{is_serving}
use Rattle.alp_store_tests.proofs.tests.turns.play.Given as goal

abbrev pub invariant-loop-turn : goal.invariant-loop-turn
invariant-loop-turn g l = is_serving l.memory.vault.stage ≡ true
