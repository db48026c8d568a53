use Rattle.std.specs.FinMap as map
use Rattle.std.proofs.Common.{ap, ◌∙◌}
use Rattle.alp_files.specs.Counts.{Blocks, block_of}
use Rattle.alp_node.proofs.BlockSets.{added}
use Rattle.alp_node.proofs.blocks.Blocks.add.Goals as goal

pub returns : goal.returns
returns c =
    added c.self.inside.keys.keys c.insert.new.self.keys (block_of c.args.file c.args.number) c.in_ok-insert.ensures.updates.0
    ∙ ap (λ (d : Blocks). map.insert d (block_of c.args.file c.args.number) tt) c.self.view_is
