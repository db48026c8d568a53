use Rattle.std.specs.FinMap as map
use Rattle.std.proofs.Common.{ap, sym, ◌∙◌}
use Rattle.alp_session.specs.Maps.{WordMap}
use Rattle.alp_base.proofs.TreeLemmas.{remove_at}
use Rattle.alp_session.proofs.MapLemmas.{nat_list_cmp_total, exact_bytes, bound_back, unbound}
use Rattle.alp_session.proofs.memory.Words.restore.Goals as goal

pub returns-in-Some : goal.returns-in-Some
returns-in-Some c m meaning stood put =
    bound_back m c.args.self.now c.bind.new.self c.args.word meaning c.in-Some.meaning (sym c.in-Some.is ∙ stood) put c.bind.result c.bind.ensures.ok c.bind.ensures.absent

pub returns-in-None : goal.returns-in-None
returns-in-None c m meaning stood put =
    remove_at nat_list_cmp_total exact_bytes c.self.inside.meanings.entries c.remove.new.self.entries c.args.word c.remove.ensures.updates.0
    ∙ ap (λ (x : WordMap). map.remove x c.args.word) (c.self.view_is ∙ put)
    ∙ unbound m c.args.word meaning (sym c.in-None.is ∙ stood)
