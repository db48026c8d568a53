use Rattle.std.specs.FinMap as map
use Rattle.std.proofs.Common.{ap, sym, ◌∙◌}
use Rattle.alp_files.specs.Needs.{Files}
use Rattle.alp_trans.proofs.FileSets.{keys_back}
use Rattle.alp_trans.proofs.drops.Drops.list.Goals as goal

pub returns : goal.returns
returns c =
    c.in_ok-files.ensures.files ∙ sym (keys_back c.self.inside.files.keys c.in_ok-files.ensures.rising) ∙ ap (λ (d : Files). map.keys d) c.self.view_is
