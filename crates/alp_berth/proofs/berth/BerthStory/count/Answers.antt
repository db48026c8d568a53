use Rattle.std.proofs.Common.{◌≡◌, ◌-◌, ◌+◌, length, ap, ◌∙◌, subst, arith, List}
use Rattle.alp_journal.specs.declared.entry.Entry.{Entry}
use Rattle.alp_berth.specs.BerthStates.{BerthState}
use Rattle.alp_berth.specs.Berths.{entries_of}
use Rattle.alp_berth.proofs.EntryLemmas.{entries_long}
use Rattle.alp_berth.proofs.berth.BerthStory.count.Goals as goal

pub returns : goal.returns
returns g c =
    let long : length c.entries.result.now ≡ length c.self.inside.node.journal = ap (λ (l : List Entry). length l) (c.entries.ensures ∙ c.journal.ensures) in
    let all = entries_long g.V.Vault c.self.inside.made c.self.inside.node c.self.inside.ranks.items c.self.invariant.berth in
    let since = c.self.invariant.counted.since_is in
    subst (λ (b : BerthState g.row.V.Denot). length c.entries.result.now - c.self.inside.since ≡ length (entries_of b)) c.self.view_is (omega (arith, long, all, since))
