use Rattle.std.proofs.Common.{ap, ◌∙◌}
use Rattle.alp_node.specs.Waits.{without_dead}
use Rattle.alp_node.proofs.waits.Waits.bury.Goals as goal

pub returns : goal.returns
returns c = c.bury_in.ensures.left ∙ ap (without_dead c.args.client c.args.dead.now) c.self.view_is
