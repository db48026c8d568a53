use Rattle.std.proofs.Common.{ap, ◌∙◌, rules}
use Rattle.std.proofs.lemmas.Fn.{filter_same}
use Rattle.alp_worker.specs.Lives.{quitted}
use Rattle.alp_worker.proofs.live_list.LiveList.quit.Goals as goal

pub returns : goal.returns
returns c =
    filter_same _ _ _ (λ x b f' k. search rules) _ _ c.retain.ensures.filtered
    ∙ ap (quitted c.args.join.now) c.self.view_is
