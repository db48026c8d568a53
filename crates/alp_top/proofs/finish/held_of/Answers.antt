use Rattle.std.specs.Prelude.{IsTrue}
use Rattle.std.proofs.Common.{◌≡◌, ℕ, refl, sym, ◌∙◌, ap, subst}
use Rattle.alp_files.specs.Counts.{file_count_of}
use Rattle.alp_files.specs.Sound.{AreSound}
use Rattle.alp_vault.specs.Contents.{Contents}
use Rattle.alp_cluster.proofs.GoneLemmas.{gone_ok, gone_handed, handed_on}
use Rattle.alp_top.proofs.LookLemmas.{looked_on}
use Rattle.alp_top.proofs.finish.held_of.Goals as goal

pub returns-in_err-owners-clause-gone : goal.returns-in_err-owners-clause-gone
returns-in_err-owners-clause-gone g c =
    gone_handed g.V.Vault (λ (s : ℕ). s ≡ c.args.server) (Unit {0}) c.args.vault.now c.owner_records.new.vault c.in_err-owners.field-0.0 c.from_residual.result c.in_err-owners.ensures.gone
    (handed_on c.in_err-owners.field-0.0 c.from_residual.result c.from_residual.ensures.0 c.from_residual.ensures.1)

pub returns-in_err-owners-clause-looked : goal.returns-in_err-owners-clause-looked
returns-in_err-owners-clause-looked g c =
    looked_on g.V.Vault c.args.vault.now c.args.vault.now c.owner_records.new.vault c.in_err-owners.field-0.0 c.from_residual.result refl refl (λ x may. may) c.in_err-owners.ensures.looked
    (handed_on c.in_err-owners.field-0.0 c.from_residual.result c.from_residual.ensures.0 c.from_residual.ensures.1)

pub returns-clause-gone : goal.returns-clause-gone
returns-clause-gone g c = gone_ok g.V.Vault (λ (s : ℕ). s ≡ c.args.server) (Unit {0}) c.args.vault.now c.owner_records.new.vault c.in_ok-owners.owners _ c.in_ok-owners.ensures.gone

pub returns-clause-looked : goal.returns-clause-looked
returns-clause-looked g c = record { held = c.in_ok-owners.ensures.looked.held; crash = c.in_ok-owners.ensures.looked.crash; allowance = c.in_ok-owners.ensures.looked.allowance; serves = c.in_ok-owners.ensures.looked.serves; ends = tt }

pub returns-clause-numbers : goal.returns-clause-numbers
returns-clause-numbers g c = record { server = refl; epoch = refl; clock = refl }

pub returns-clause-cells : goal.returns-clause-cells
returns-clause-cells g c tells =
    let owners = c.in_ok-owners.ensures in
    let told = subst IsTrue (sym owners.gone.same.telling) tells in
    let sound : AreSound (g.V.Vault.held c.args.vault.now).cells = subst (λ (x : Contents). AreSound x.cells) owners.looked.held (c.knows.ensures.fitting _ told (c.knows.ensures.as_held told owners.looked.serves)).sound in
    record { sound = sound; files = c.file_count.ensures told ∙ ap (λ (x : Contents). file_count_of x.cells) owners.looked.held; owners = owners.owners tells }
