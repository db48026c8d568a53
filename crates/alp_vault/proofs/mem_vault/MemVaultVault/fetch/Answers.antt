use Rattle.std.proofs.Common.{sym, ◌∙◌, ap, rules}
use Rattle.std.specs.Prelude.{◌≡◌, Some}
use Rattle.std.specs.FinMap as map
use Rattle.alp_vault.proofs.VolumeLemmas.{held_fits}
use Rattle.alp_vault.proofs.mem_vault.MemVaultVault.fetch.Goals as goal

pub returns-in-Ok-clause-fits : goal.returns-in-Ok-clause-fits
returns-in-Ok-clause-fits c =
    let there : map.get c.args.self.now.held.cells c.args.key.now ≡ Some c.in-Ok.copy = search rules in
    held_fits c.args.self.now.sizes c.args.self.now.held.cells c.args.self.now.fits c.args.key.now c.in-Ok.copy there
