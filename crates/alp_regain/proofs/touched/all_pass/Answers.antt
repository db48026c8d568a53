use Rattle.std.specs.Prelude.{All, None, Ok, true, IsTrue}
use Rattle.std.proofs.Common.{◌≡◌, List, subst, rules, arith}
use Rattle.std.proofs.lemmas.List.{take_all}
use Rattle.std.proofs.lemmas.List.Elements.{All-more}
use Rattle.alp_base.specs.declared.cell.Cell.{Cell}
use Rattle.alp_base.specs.declared.key.Key.{Key}
use Rattle.alp_files.specs.Cells.{Cells}
use Rattle.alp_calls.proofs.LookLemmas.{looks_then, later}
use Rattle.alp_regain.specs.Seen.{Passes}
use Rattle.alp_regain.proofs.touched.all_pass.Goals as goal

pub loop-put-preserved : goal.loop-put-preserved
loop-put-preserved g c =
    let left = c.loop-put.invariant.left in
    let item : Key × Cell = c.put-item.result in
    let held : Cells = (g.V.Vault.held c.args.vault.now).cells in
    let yes : c.passes.result ≡ Ok true = search rules in
    let here : IsTrue (g.V.Vault.tells c.args.vault.now) → Passes c.args.intents.now held item.0 item.1 =
    later g.V.Vault c.args.vault.now c.loop-put.vault left.0 (λ m. Passes c.args.intents.now m item.0 item.1) (λ told. c.passes.ensures.yes told yes) in
    record {
      left = looks_then g.V.Vault c.args.vault.now c.loop-put.vault c.passes.new.vault None left c.in_ok-passes.ensures.looked;
      all = λ told.
          All-more (λ (e : Key × Cell). Passes c.args.intents.now held e.0 e.1) c.args.puts.now c.loop-put.put-index item c.loop-put-test.true (c.loop-put.invariant.all told)
          (subst (λ (e : Key × Cell). Passes c.args.intents.now held e.0 e.1) c.put-item.is (here told));
    }

pub returns-clause-yes : goal.returns-clause-yes
returns-clause-yes g c = λ told is.
    subst (λ (es : List (Key × Cell)). All (λ (e : Key × Cell). Passes c.args.intents.now (g.V.Vault.held c.args.vault.now).cells e.0 e.1) es)
    (take_all c.loop-put.put-index c.args.puts.now (omega (arith, c.loop-put-test.false))) (c.loop-put.invariant.all told)
