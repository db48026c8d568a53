use Rattle.std.specs.Prelude.{All, IsTrue, None}
use Rattle.std.proofs.Common.{take}
use Rattle.alp_calls.specs.Looks.{Looks}
use Rattle.alp_files.specs.Sound.{AreSound}
use Rattle.alp_trans.specs.Counting.{with_intents}
use Rattle.alp_regain.specs.declared.part.RegainedPart.{RegainedPart}
use Rattle.alp_regain.proofs.sound.stay_with_each.Given as goal

abbrev pub invariant-loop-part : goal.invariant-loop-part
invariant-loop-part g l = record {
  left : Looks g.V.Vault l.initial.vault l.vault None;
  all : IsTrue (g.V.Vault.tells l.initial.vault) → All (λ (p : RegainedPart). AreSound (with_intents p.part.intents (g.V.Vault.held l.initial.vault).cells)) (take l.part-index l.parts);
}
