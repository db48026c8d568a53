use Rattle.std.specs.FinMap as map
use Rattle.std.proofs.Common.{ap, sym, ◌∙◌}
use Rattle.alp_files.specs.Counts.{Blocks}
use Rattle.alp_node.proofs.BlockSets.{keys_back}
use Rattle.alp_node.proofs.blocks.Blocks.list.Goals as goal

pub returns : goal.returns
returns c =
    c.in_ok-keys.ensures.keys ∙ sym (keys_back c.self.inside.keys.keys c.in_ok-keys.ensures.rising) ∙ ap (λ (d : Blocks). map.keys d) c.self.view_is
