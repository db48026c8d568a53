use Rattle.std.specs.FinMap as map
use Rattle.std.proofs.Common.{ap, sym, ◌∙◌}
use Rattle.alp_files.specs.Needs.{Files}
use Rattle.alp_trans.proofs.FileSets.{removed, added_same, removed_same}
use Rattle.alp_trans.proofs.drops.Drops.take_back.Goals as goal

pub returns-then-not-before : goal.returns-then-not-before
returns-then-not-before c d before put =
    removed c.self.inside.files.keys c.remove.new.self.keys c.args.file c.remove.ensures.updates.0
    ∙ ap (λ (x : Files). map.remove x c.args.file) c.self.view_is
    ∙ removed_same d c.args.self.now c.args.file (sym c.if-not-before.true ∙ before) put

pub returns-else-not-before : goal.returns-else-not-before
returns-else-not-before c d before put = added_same d c.args.self.now c.args.file (sym c.if-not-before.false ∙ before) put
