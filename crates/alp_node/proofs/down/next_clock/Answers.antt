use Rattle.std.proofs.Common.{◌≡◌, rules}
use Rattle.std.specs.Prelude.{None, Some}
use Rattle.std.specs.FinMap as map
use Rattle.alp_fields.specs.Forms.{whole}
use Rattle.alp_fields.specs.ClockNote.{clock_name, clock_form}
use Rattle.alp_node.proofs.RaiseLemmas.{not_read, next_noted}
use Rattle.alp_node.proofs.down.next_clock.Goals as goal

pub returns-in_default-read_clock : goal.returns-in_default-read_clock
returns-in_default-read_clock g c =
    let vault = c.args.vault.now in
    let value = c.in-Some.value.now in
    let there : map.get (g.V.Vault.held vault).notes clock_name ≡ Some value = search rules in
    let none : whole clock_form value ≡ None = search rules in
    not_read g.V.Vault c.args.last vault value there none

pub returns : goal.returns
returns g c =
    let vault = c.args.vault.now in
    let value = c.in-Some.value.now in
    let there : map.get (g.V.Vault.held vault).notes clock_name ≡ Some value = search rules in
    let read : whole clock_form value ≡ Some c.in-Some-read_clock.kept = search rules in
    next_noted g.V.Vault c.args.last vault value c.in-Some-read_clock.kept there read
