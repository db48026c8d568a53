use Rattle.std.proofs.Common.{ap, ◌∙◌, rules}
use Rattle.std.proofs.lemmas.Fn.{filter_same}
use Rattle.alp_worker.specs.Lives.{applied_of}
use Rattle.alp_worker.proofs.live_list.LiveList.apply.Goals as goal

pub returns : goal.returns
returns c =
    filter_same _ _ _ (λ x b f' k. search rules) _ _ c.retain.ensures.filtered
    ∙ ap (applied_of c.args.join.now c.args.trans.now) c.self.view_is
