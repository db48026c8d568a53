use Rattle.std.proofs.Common.{List, ap, sym, ◌∙◌}
use Rattle.std.proofs.lemmas.List.{take_all}
use Rattle.alp_journal.specs.declared.act.Act.{Act}
use Rattle.alp_top.specs.Tallies.{tally_in, none_seen, seen_from, with_seen}
use Rattle.alp_top.proofs.TallyLemmas.{tally_push}
use Rattle.alp_top.proofs.tally.tally_of.Goals as goal

pub loop-entry-preserved : goal.loop-entry-preserved
loop-entry-preserved c =
    c.add-tally.ensures
    ∙ (λ i. with_seen (c.loop-entry.invariant i) ((c.see_all.ensures ∙ ap (λ (acts : List Act). seen_from none_seen acts) c.as_slice.ensures) i))
    ∙ sym (tally_push c.args.entries.now c.loop-entry.entry-index c.entry-item.result c.loop-entry-test.true c.entry-item.is)

pub returns : goal.returns
returns c = c.loop-entry.invariant ∙ ap tally_in (take_all c.loop-entry.entry-index c.args.entries.now c.loop-entry-test.false)
