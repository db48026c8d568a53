use Rattle.alp_volume.specs.Known.{IsCatalog}
use Rattle.alp_volume_tests.proofs.tests.turns.wrong_turn.Given as goal

abbrev pub invariant-loop-turn : goal.invariant-loop-turn
invariant-loop-turn l = IsCatalog 300 l.catalog
