use Rattle.std.specs.FinMap as map
use Rattle.std.proofs.Common.{ap, sym, ◌∙◌}
use Rattle.alp_session.specs.Maps.{WordMap}
use Rattle.alp_base.proofs.TreeLemmas.{get_at}
use Rattle.alp_session.proofs.MapLemmas.{nat_list_cmp_total, exact_bytes}
use Rattle.alp_session.proofs.memory.Words.get.Goals as goal

pub returns : goal.returns
returns c = c.get.ensures.value ∙ sym (get_at nat_list_cmp_total exact_bytes c.self.inside.meanings.entries c.args.word.now) ∙ ap (λ (m : WordMap). map.get m c.args.word.now) c.self.view_is
