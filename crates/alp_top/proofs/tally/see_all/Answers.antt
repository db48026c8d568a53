use Rattle.std.proofs.Common.{ap, sym, ◌∙◌}
use Rattle.std.proofs.lemmas.List.{take_all}
use Rattle.alp_top.specs.Tallies.{none_seen, seen_from, with_act}
use Rattle.alp_top.proofs.TallyLemmas.{seen_push}
use Rattle.alp_top.proofs.tally.see_all.Goals as goal

pub loop-act-preserved : goal.loop-act-preserved
loop-act-preserved c = c.see-seen.ensures ∙ ap (λ s. with_act s c.act-item.result) c.loop-act.invariant ∙ sym (seen_push c.args.acts.now c.loop-act.act-index c.act-item.result c.loop-act-test.true c.act-item.is)

pub returns : goal.returns
returns c = c.loop-act.invariant ∙ ap (seen_from none_seen) (take_all c.loop-act.act-index c.args.acts.now c.loop-act-test.false)
