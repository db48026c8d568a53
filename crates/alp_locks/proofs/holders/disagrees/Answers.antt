use Rattle.std.proofs.Common.{◌≡◌, not, Option, None, Some, refl, ◌∙◌}
use Rattle.std.specs.FinMap as map
use Rattle.alp_modes.specs.declared.Mode.{Mode}
use Rattle.alp_files.specs.Holdings.{agree_held}
use Rattle.alp_queue.specs.Reach.{disagrees_with}
use Rattle.alp_locks.proofs.holders.disagrees.Goals as goal

pub returns : goal.returns
returns c = c.disagrees_on.ensures ∙ same (map.get c.args.locks.now c.args.resource.now)
  where
    same : (held : Option Mode) → disagrees_with c.args.mode held ≡ not (agree_held held (Some c.args.mode))
    same None = refl
    same (Some a) = refl
