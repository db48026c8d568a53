use Rattle.std.specs.FinMap as map
use Rattle.std.proofs.Common.{ap, ◌∙◌}
use Rattle.alp_session.specs.Maps.{OpenMap}
use Rattle.alp_base.proofs.TreeLemmas.{put_at}
use Rattle.alp_session.proofs.MapLemmas.{files_total, exact_files}
use Rattle.alp_session.proofs.memory.Opens.give.Goals as goal

pub returns-clause-ok : goal.returns-clause-ok
returns-clause-ok c =
    put_at files_total exact_files c.self.inside.numbers.entries c.insert.new.self.entries c.args.id c.args.number c.in_ok-insert.ensures.updates.0
    ∙ ap (λ (m : OpenMap). map.insert m c.args.id c.args.number) c.self.view_is
