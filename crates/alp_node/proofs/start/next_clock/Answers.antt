use Rattle.std.proofs.Common.{◌≡◌, rules}
use Rattle.std.specs.Prelude.{Some}
use Rattle.std.specs.FinMap as map
use Rattle.alp_fields.specs.Forms.{whole}
use Rattle.alp_fields.specs.ClockNote.{clock_name, clock_form}
use Rattle.alp_node.specs.Starts.{after_clock}
use Rattle.alp_node.proofs.StartLemmas.{start_cause}
use Rattle.alp_node.proofs.start.next_clock.Goals as goal

pub returns-in-Some-clause-cause : goal.returns-in-Some-clause-cause
returns-in-Some-clause-cause g c =
    let vault = c.args.vault.now in
    let there : map.get (g.V.Vault.held c.args.vault.now).notes clock_name ≡ Some c.in-Some.value.now = search rules in
    let is : c.next_epoch.result ≡ after_clock (whole clock_form c.in-Some.value.now) = search rules in
    start_cause (g.V.Vault.tells vault) (g.V.Vault.server vault) (g.V.Vault.servers vault) (g.V.Vault.volume vault) (g.V.Vault.held vault) (g.V.Vault.faults vault) (g.V.Vault.allowance vault) c.in-Some.value.now c.next_epoch.result there is
