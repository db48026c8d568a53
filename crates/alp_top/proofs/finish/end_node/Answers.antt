use Rattle.std.specs.Prelude.{IsTrue, Ok, Err}
use Rattle.std.proofs.Common.{◌≡◌, ℕ, refl, sym, ◌∙◌, ap, subst}
use Rattle.alp_base.specs.declared.allowance.Allowance.TheVariants.{Free}
use Rattle.alp_cluster.specs.Servers.{HasGoneBy}
use Rattle.alp_cluster.specs.declared.fault.RunFault.TheVariants as fault
use Rattle.alp_cluster.proofs.GoneLemmas.{gone_ok, gone_err, gone_memory}
use Rattle.alp_top.specs.Endings.{AreCellsOf, ArePutFirst}
use Rattle.alp_top.specs.Tallies.{tally_in}
use Rattle.alp_top.specs.Logs.{ServerOfLog}
use Rattle.alp_top.specs.Looks.{HasLooked}
use Rattle.alp_top.proofs.LookLemmas.{looked_err}
use Rattle.alp_top.proofs.finish.end_node.Goals as goal

pub held_of-requires-clause-serving : goal.held_of-requires-clause-serving
held_of-requires-clause-serving g c = subst (λ v. IsTrue (g.V.Vault.serves v)) (sym (ap (λ p. p.1) c.into_parts-opening.ensures)) (c.knows.ensures.ready.serving c.requires.up)

pub held_of-requires-clause-free : goal.held_of-requires-clause-free
held_of-requires-clause-free g c = subst (λ v. g.V.Vault.allowance v ≡ Free) (sym (ap (λ p. p.1) c.into_parts-opening.ensures)) c.requires.free

pub held_of-requires-clause-server : goal.held_of-requires-clause-server
held_of-requires-clause-server g c = ap (λ p. g.V.Vault.server p.1) c.into_parts-opening.ensures ∙ c.knows.ensures.number ∙ sym c.server-server.ensures

pub returns-in-Err-clause-gone : goal.returns-in-Err-clause-gone
returns-in-Err-clause-gone g c =
    subst (λ v. HasGoneBy g.V.Vault (λ (s : ℕ). s ≡ c.args.node.kept.server) (Unit {0}) v c.held_of.new.vault (Err c.in-Err.fault)) (ap (λ p. p.1) c.into_parts-opening.ensures)
    (subst (λ (n : ℕ). HasGoneBy g.V.Vault (λ (s : ℕ). s ≡ n) (Unit {0}) c.into_parts-opening.result.1 c.held_of.new.vault (Err c.in-Err.fault)) c.server-server.ensures
    (gone_err g.V.Vault (λ (s : ℕ). s ≡ c.server-server.result) (Unit {0}) c.into_parts-opening.result.1 c.held_of.new.vault c.in-Err.fault c.in-Err.ensures.gone))

pub returns-in-Err-clause-looked : goal.returns-in-Err-clause-looked
returns-in-Err-clause-looked g c =
    subst (λ v. HasLooked g.V.Vault v c.held_of.new.vault (Err c.in-Err.fault)) (ap (λ p. p.1) c.into_parts-opening.ensures)
    (looked_err g.V.Vault c.into_parts-opening.result.1 c.into_parts-opening.result.1 c.held_of.new.vault c.in-Err.fault refl refl (λ x may. may) c.in-Err.ensures.looked)

pub returns-in-Ok-put-clause-gone : goal.returns-in-Ok-put-clause-gone
returns-in-Ok-put-clause-gone g c =
    subst (λ v. HasGoneBy g.V.Vault (λ (s : ℕ). s ≡ c.args.node.kept.server) (Unit {0}) v c.held_of.new.vault (Ok tt)) (ap (λ p. p.1) c.into_parts-opening.ensures)
    (subst (λ (n : ℕ). HasGoneBy g.V.Vault (λ (s : ℕ). s ≡ n) (Unit {0}) c.into_parts-opening.result.1 c.held_of.new.vault (Ok tt)) c.server-server.ensures
    (gone_ok g.V.Vault (λ (s : ℕ). s ≡ c.server-server.result) (Unit {0}) c.into_parts-opening.result.1 c.held_of.new.vault _ tt c.in-Ok.ensures.gone))

pub returns-in-Ok-put-clause-looked : goal.returns-in-Ok-put-clause-looked
returns-in-Ok-put-clause-looked g c =
    let at = ap (λ p. p.1) c.into_parts-opening.ensures in
    record { held = c.in-Ok.ensures.looked.held ∙ ap (λ v. g.V.Vault.held v) at; crash = λ x may. subst (λ v. g.V.Vault.may_leave v x) at (c.in-Ok.ensures.looked.crash x may); allowance = c.in-Ok.ensures.looked.allowance ∙ ap (λ v. g.V.Vault.allowance v) at; serves = c.in-Ok.ensures.looked.serves; ends = tt }

pub returns-in-Err-put-clause-gone : goal.returns-in-Err-put-clause-gone
returns-in-Err-put-clause-gone g c =
    subst (λ v. HasGoneBy g.V.Vault (λ (s : ℕ). s ≡ c.args.node.kept.server) (Unit {0}) v c.held_of.new.vault (Err fault.OutOfMemory)) (ap (λ p. p.1) c.into_parts-opening.ensures)
    (subst (λ (n : ℕ). HasGoneBy g.V.Vault (λ (s : ℕ). s ≡ n) (Unit {0}) c.into_parts-opening.result.1 c.held_of.new.vault (Err fault.OutOfMemory)) c.server-server.ensures
    (gone_memory g.V.Vault (λ (s : ℕ). s ≡ c.server-server.result) (Unit {0}) c.into_parts-opening.result.1 c.held_of.new.vault _ c.in-Ok.ensures.gone))

pub returns-in-Err-put-clause-looked : goal.returns-in-Err-put-clause-looked
returns-in-Err-put-clause-looked g c =
    let at = ap (λ p. p.1) c.into_parts-opening.ensures in
    record { held = c.in-Ok.ensures.looked.held ∙ ap (λ v. g.V.Vault.held v) at; crash = λ x may. subst (λ v. g.V.Vault.may_leave v x) at (c.in-Ok.ensures.looked.crash x may); allowance = c.in-Ok.ensures.looked.allowance ∙ ap (λ v. g.V.Vault.allowance v) at; serves = tt; ends = tt }

pub returns-in-Ok-put-clause-rest : goal.returns-in-Ok-put-clause-rest
returns-in-Ok-put-clause-rest g c =
    let at = ap (λ p. p.1) c.into_parts-opening.ensures in
    let numbers = c.in-Ok.ensures.numbers in
    let log : ServerOfLog g.row.V.Denot = record { server = c.server-server.result; opening = c.into_parts-opening.result.0; journal = c.into_parts-opening.result.2; ranks = c.args.ranks } in
    record {
      held = c.in-Ok.held;
      log = log;
      is_held = record {
        numbers = record { server = numbers.server ∙ c.server-server.ensures; epoch = numbers.epoch ∙ c.epoch-epoch.ensures; clock = numbers.clock ∙ c.clock-clock.ensures };
        cells = λ told. subst (λ v. AreCellsOf (g.V.Vault.held v).cells c.in-Ok.held) at (c.in-Ok.ensures.cells (subst (λ v. IsTrue (g.V.Vault.tells v)) (sym at) told));
      };
      is_log = record { number = c.server-server.ensures; opened = ap (λ p. p.0) c.into_parts-opening.ensures; entries = ap (λ p. p.2) c.into_parts-opening.ensures; ranked = refl };
      put = subst (λ t. ArePutFirst c.in-Ok.held log t c.args.rests.now c.put.new.self) (c.tally_of-tally.ensures ∙ ap tally_in (c.entries.ensures ∙ c.journal.ensures)) c.in-Ok-put.ensures;
    }
