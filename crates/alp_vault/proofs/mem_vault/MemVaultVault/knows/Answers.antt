use Rattle.alp_vault.specs.MemVault.{kept_by}
use Rattle.alp_vault.specs.Stages.{volume_left, held_left, settled_left}
use Rattle.alp_vault.proofs.mem_vault.MemVaultVault.knows.Goals as goal

pub returns-clause-fitting : goal.returns-clause-fitting
returns-clause-fitting c = λ x told left. volume_left c.args.self.now.sizes c.args.self.now.stage (kept_by c.args.self.now) x c.args.self.now.fits c.args.self.now.fit left

pub returns-clause-fitted : goal.returns-clause-fitted
returns-clause-fitted c = λ start x told left. volume_left c.args.self.now.sizes c.args.self.now.stage (kept_by c.args.self.now) x c.args.self.now.fits c.args.self.now.fit left

pub returns-clause-as_held : goal.returns-clause-as_held
returns-clause-as_held c = λ told serves. held_left c.args.self.now.stage (kept_by c.args.self.now)

pub returns-clause-settled : goal.returns-clause-settled
returns-clause-settled c = λ told serves. settled_left c.args.self.now.stage (kept_by c.args.self.now) serves
