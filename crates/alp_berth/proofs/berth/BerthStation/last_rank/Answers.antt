use Rattle.std.proofs.Common.{◌≡◌, ◌≤◌, ◌+◌, length, sym, ap, ◌∙◌, subst, arith, List}
use Rattle.alp_berth.specs.BerthStates.{BerthState}
use Rattle.alp_berth.specs.Berths.{last_in, last_of, entries_of}
use Rattle.alp_berth.proofs.SendLemmas.{last_many}
use Rattle.alp_berth.proofs.EntryLemmas.{last_all, entries_long}
use Rattle.alp_berth.proofs.berth.BerthStation.last_rank.Goals as goal

pub returns-clause-rank : goal.returns-clause-rank
returns-clause-rank g c =
    subst (λ (b : BerthState g.row.V.Denot). c.last_of.result ≡ last_of b.made (entries_of b)) c.self.view_is
    (c.last_of.ensures ∙ (ap last_in c.deref.ensures.value ∙ sym (last_all g.V.Vault c.self.inside.made c.self.inside.node c.self.inside.ranks.items c.self.invariant.berth)))

pub returns-clause-count : goal.returns-clause-count
returns-clause-count g c =
    let h = c.self.invariant.berth in
    let last : c.last_of.result ≡ last_in c.self.inside.ranks.items = c.last_of.ensures ∙ ap last_in c.deref.ensures.value in
    let many = last_many c.self.inside.ranks.items h.rising in
    let all = entries_long g.V.Vault c.self.inside.made c.self.inside.node c.self.inside.ranks.items h in
    let long = h.long in
    subst (λ (b : BerthState g.row.V.Denot). length (entries_of b) ≤ c.last_of.result) c.self.view_is (omega (arith, last, many, all, long))
