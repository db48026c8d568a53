use Rattle.std.proofs.Common.{◌≡◌, ◌≤◌, length, arith}
use Rattle.alp_regain.specs.Together.{clock_before}
use Rattle.alp_journal.specs.Opening.{ready_kept}
use Rattle.alp_regain.proofs.RoomLemmas.{same_length}
use Rattle.alp_node.proofs.FoundLives.{are_live, finds_all}
use Rattle.alp_node.proofs.found.find_all.Goals as goal

pub made_of-requires-clause-live : goal.made_of-requires-clause-live
made_of-requires-clause-live g c =
    let v = c.args.vault.now in
    let held = g.V.Vault.held v in
    are_live (g.V.Vault.tells v) held.cells c.args.of.0 (clock_before c.args.epoch held.notes).epoch c.in-Ok.regained.parts.items (ready_kept held.notes) c.in-Ok.ensures.regained.parts c.in-Ok.ensures.notes.apart

pub made_of-requires-clause-few : goal.made_of-requires-clause-few
made_of-requires-clause-few g c =
    let v = c.args.vault.now in
    let held = g.V.Vault.held v in
    let same : length c.in-Ok.regained.parts.items ≡ length (ready_kept held.notes) =
    same_length (g.V.Vault.tells v) held.cells c.args.of.0 (clock_before c.args.epoch held.notes).epoch c.in-Ok.regained.parts.items (ready_kept held.notes) c.in-Ok.ensures.regained.parts in
    omega (arith, same, c.in-Ok.ensures.notes.few)

pub returns-clause-found : goal.returns-clause-found
returns-clause-found g c =
    let v = c.args.vault.now in
    let held = g.V.Vault.held v in
    finds_all (g.V.Vault.tells v) held.cells c.args.of.0 c.args.epoch held.notes c.in-Ok.regained c.in-Ok-made_of.found c.in-Ok.ensures.regained c.in-Ok-made_of.ensures
