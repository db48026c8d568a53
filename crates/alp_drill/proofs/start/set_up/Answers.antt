use Rattle.alp_drill.specs.Setup.{clients, owners}
use Rattle.alp_drill.specs.Files.{groups}
use Rattle.alp_drill.proofs.RollLemmas.{three_parts}
use Rattle.alp_drill.proofs.start.set_up.Goals as goal

pub returns : goal.returns
returns c =
    three_parts _ (clients c.args.shape.owners) (owners c.args.shape) (groups c.args.shape c.args.pages.now) _ _ _
    c.in_ok-declare.ensures c.in_ok-make_owners.ensures c.in_ok-create_files.ensures
