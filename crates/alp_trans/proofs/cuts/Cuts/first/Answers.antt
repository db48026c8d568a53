use Rattle.std.specs.FinMap as map
use Rattle.std.proofs.Common.{ap, sym, ◌∙◌}
use Rattle.alp_base.specs.KeyLaws.{exact_files}
use Rattle.alp_base.proofs.TreeLemmas.{get_at}
use Rattle.alp_files.specs.Needs.{CutFiles}
use Rattle.alp_files.proofs.IntentLemmas.{files_total}
use Rattle.alp_trans.proofs.cuts.Cuts.first.Goals as goal

pub returns : goal.returns
returns c =
    c.copied.ensures ∙ c.get.ensures.value ∙ sym (get_at files_total exact_files c.self.inside.firsts.entries c.args.file.now)
    ∙ ap (λ (d : CutFiles). map.get d c.args.file.now) c.self.view_is
