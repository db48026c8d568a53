use Rattle.std.specs.FinMap as map
use Rattle.std.proofs.Common.{ap, ◌∙◌}
use Rattle.alp_base.specs.KeyLaws.{exact_files}
use Rattle.alp_base.proofs.TreeLemmas.{remove_at}
use Rattle.alp_files.specs.Needs.{CutFiles}
use Rattle.alp_files.proofs.IntentLemmas.{files_total}
use Rattle.alp_trans.proofs.cuts.Cuts.remove.Goals as goal

pub returns : goal.returns
returns c =
    remove_at files_total exact_files c.self.inside.firsts.entries c.remove.new.self.entries c.args.file.now c.remove.ensures.updates.0
    ∙ ap (λ (d : CutFiles). map.remove d c.args.file.now) c.self.view_is
