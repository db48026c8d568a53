use Rattle.std.proofs.Common.{rules, ◌≡◌, ◌<◌, ◌+◌, length, sym, subst, arith, slice_index_or}
use Rattle.alp_journal.specs.declared.act.Act.{Act}
use Rattle.alp_berth.proofs.CountLemmas.{sent_here}
use Rattle.alp_berth.proofs.counts.sent_at.Goals as goal

pub returns-then-left-eq0-clause-some : goal.returns-then-left-eq0-clause-some
returns-then-left-eq0-clause-some c =
    let low : c.loop-act.act-index < length c.args.acts.now = search rules in
    let i = c.loop-act.invariant in
    let none = c.if-left-eq0.true in
    sent_here c.args.acts.now c.loop-act.act-index c.in-Sent.to c.in-Sent.message c.args.place low (subst (λ (a : Act). slice_index_or c.args.acts.now c.loop-act.act-index a ≡ a) c.in-Sent.is (sym c.act-item.is)) (omega (arith, i, none))
