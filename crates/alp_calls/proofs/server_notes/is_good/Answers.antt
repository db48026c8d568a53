use Rattle.std.proofs.Common.{◌≡◌, ◌∙◌, ap, rules}
use Rattle.std.specs.Prelude.{Some}
use Rattle.std.specs.FinMap as map
use Rattle.alp_calls.specs.ServerNotes.{is_good as is_good_said}
use Rattle.alp_calls.proofs.server_notes.is_good.Goals as goal

pub returns-in-Some : goal.returns-in-Some
returns-in-Some g c =
    let there : Some c.in-Some.value.now ≡ map.get (g.V.Vault.held c.args.vault.now).notes c.args.name.now = search rules in
    c.is_clock_note.ensures ∙ ap (is_good_said c.args.name.now) there
