use Rattle.std.specs.FinMap as map
use Rattle.std.proofs.Common.{ap, sym, ◌∙◌}
use Rattle.alp_base.specs.KeyLaws.{exact_files}
use Rattle.alp_base.proofs.TreeLemmas.{entries_back, tree_sorted}
use Rattle.alp_files.specs.Needs.{CutFiles}
use Rattle.alp_files.proofs.IntentLemmas.{files_total}
use Rattle.alp_trans.proofs.cuts.Cuts.list.Goals as goal

pub returns : goal.returns
returns c =
    c.in_ok-cuts.ensures.cuts
    ∙ sym (entries_back files_total exact_files c.self.inside.firsts.entries (tree_sorted files_total exact_files c.self.inside.firsts.entries c.in_ok-cuts.ensures.rising))
    ∙ ap (λ (d : CutFiles). map.entries d) c.self.view_is
