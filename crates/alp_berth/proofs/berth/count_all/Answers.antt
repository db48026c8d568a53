use Rattle.std.proofs.Common.{rules, ◌≡◌, ◌<◌, length, sym, ap, ◌∙◌, List}
use Rattle.alp_journal.specs.declared.act.Act.{Act}
use Rattle.alp_berth.specs.Sends.{sent_by}
use Rattle.alp_berth.proofs.SendLemmas.{counted_more, all_more}
use Rattle.alp_berth.proofs.berth.count_all.Goals as goal

pub loop-entry-preserved : goal.loop-entry-preserved
loop-entry-preserved c =
    let i = c.loop-entry.invariant in
    let low : c.loop-entry.entry-index < length c.args.entries.now = search rules in
    let sent : c.count_sent.result ≡ length (sent_by c.entry-item.result.acts) = c.count_sent.ensures.count ∙ ap (λ (l : List Act). length (sent_by l)) c.as_slice.ensures in (
      c.push_reserved.ensures.items ∙ counted_more c.args.entries.now c.loop-entry.entry-index c.entry-item.result low (sym c.entry-item.is) c.loop-entry.counts.items c.loop-entry.all i.0 i.1,
      c.saturating_add-all.ensures ∙ all_more c.args.entries.now c.loop-entry.entry-index c.entry-item.result low (sym c.entry-item.is) c.loop-entry.all c.count_sent.result i.1 sent,
      search rules,
      search rules,
    )
