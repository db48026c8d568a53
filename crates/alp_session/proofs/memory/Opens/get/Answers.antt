use Rattle.std.specs.FinMap as map
use Rattle.std.proofs.Common.{ap, sym, ◌∙◌}
use Rattle.alp_session.specs.Maps.{OpenMap}
use Rattle.alp_base.proofs.TreeLemmas.{get_at}
use Rattle.alp_session.proofs.MapLemmas.{files_total, exact_files}
use Rattle.alp_session.proofs.memory.Opens.get.Goals as goal

pub returns : goal.returns
returns c = c.get.ensures.value ∙ sym (get_at files_total exact_files c.self.inside.numbers.entries c.args.id.now) ∙ ap (λ (m : OpenMap). map.get m c.args.id.now) c.self.view_is
