use Rattle.std.specs.FinMap as map
use Rattle.std.proofs.Common.{ap, ◌∙◌}
use Rattle.alp_files.specs.Needs.{Files}
use Rattle.alp_trans.proofs.FileSets.{added}
use Rattle.alp_trans.proofs.drops.Drops.add.Goals as goal

pub returns-clause-ok : goal.returns-clause-ok
returns-clause-ok c =
    added c.self.inside.files.keys c.insert.new.self.keys c.args.file c.in_ok-insert.ensures.updates.0
    ∙ ap (λ (d : Files). map.insert d c.args.file tt) c.self.view_is
