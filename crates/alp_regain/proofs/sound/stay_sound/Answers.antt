use Rattle.alp_files.specs.Sound.{AreSound}
use Rattle.alp_regain.proofs.sound.stay_sound.Goals as goal

pub returns-clause-yes : goal.returns-clause-yes
returns-clause-yes g c = λ told is.
    let sound : AreSound (g.V.Vault.held c.args.vault.now).cells = (c.knows.ensures.fitting _ told (c.knows.ensures.as_held told c.requires.serving)).sound in
    c.stay_with.ensures.yes told sound is

pub returns-clause-no : goal.returns-clause-no
returns-clause-no g c = λ told is.
    let sound : AreSound (g.V.Vault.held c.args.vault.now).cells = (c.knows.ensures.fitting _ told (c.knows.ensures.as_held told c.requires.serving)).sound in
    c.stay_with.ensures.no told sound is
