use Rattle.std.specs.Prelude.{All, None, Ok, true, IsTrue}
use Rattle.std.proofs.Common.{◌≡◌, List, subst, rules, arith}
use Rattle.std.proofs.lemmas.List.{take_all}
use Rattle.std.proofs.lemmas.List.Elements.{All-more}
use Rattle.alp_files.specs.Cells.{Cells}
use Rattle.alp_files.specs.Sound.{AreSound}
use Rattle.alp_trans.specs.Counting.{with_intents}
use Rattle.alp_calls.proofs.LookLemmas.{looks_then, later}
use Rattle.alp_regain.specs.declared.part.RegainedPart.{RegainedPart}
use Rattle.alp_regain.proofs.sound.stay_with_each.Goals as goal

pub loop-part-preserved : goal.loop-part-preserved
loop-part-preserved g c =
    let left = c.loop-part.invariant.left in
    let item : RegainedPart = c.part-item.result in
    let held : Cells = (g.V.Vault.held c.args.vault.now).cells in
    let yes : c.stay_sound.result ≡ Ok true = search rules in
    let here : IsTrue (g.V.Vault.tells c.args.vault.now) → AreSound (with_intents item.part.intents held) =
    later g.V.Vault c.args.vault.now c.loop-part.vault left.0 (λ m. AreSound (with_intents item.part.intents m)) (λ told. c.stay_sound.ensures.yes told yes) in
    record {
      left = looks_then g.V.Vault c.args.vault.now c.loop-part.vault c.stay_sound.new.vault None left c.in_ok-stay_sound.ensures.looked;
      all = λ told.
          All-more (λ (p : RegainedPart). AreSound (with_intents p.part.intents held)) c.args.parts.now c.loop-part.part-index item c.loop-part-test.true (c.loop-part.invariant.all told)
          (subst (λ (p : RegainedPart). AreSound (with_intents p.part.intents held)) c.part-item.is (here told));
    }

pub returns-clause-yes : goal.returns-clause-yes
returns-clause-yes g c = λ told is.
    subst (λ (ps : List RegainedPart). All (λ (p : RegainedPart). AreSound (with_intents p.part.intents (g.V.Vault.held c.args.vault.now).cells)) ps)
    (take_all c.loop-part.part-index c.args.parts.now (omega (arith, c.loop-part-test.false))) (c.loop-part.invariant.all told)
