use Rattle.std.specs.Prelude.{min}
use Rattle.std.proofs.Common.{◌≡◌, ◌++◌, length, ap, ◌∙◌, subst, arith, List}
use Rattle.alp_berth.specs.BerthStates.{BerthState}
use Rattle.alp_berth.specs.Sends.{count_in}
use Rattle.alp_berth.specs.Berths.{sent_ranked, stood, entries_of}
use Rattle.alp_berth.proofs.SendLemmas.{sent_long}
use Rattle.alp_berth.proofs.EntryLemmas.{all_ranked}
use Rattle.alp_berth.proofs.berth.BerthHost.sent_count.Goals as goal

pub returns-then-self-from : goal.returns-then-self-from
returns-then-self-from g c =
    let h = c.self.invariant.berth in
    let all = c.self.invariant.counted.all_is in
    let n = ap (λ l. length (sent_ranked l)) (all_ranked g.V.Vault c.self.inside.made c.self.inside.node c.self.inside.ranks.items h) ∙ sent_long c.self.inside.node.journal c.self.inside.ranks.items h.long in
    let f = c.from.ensures in
    let t = c.if-self-from.true in
    subst (λ (b : BerthState g.row.V.Denot). 4294967295 ≡ min (length (sent_ranked (stood b.made ++ entries_of b))) 4294967295) c.self.view_is (omega (arith, all, n, f, t))

pub returns : goal.returns
returns g c =
    let h = c.self.invariant.berth in
    let all = c.self.invariant.counted.all_is in
    let n = ap (λ l. length (sent_ranked l)) (all_ranked g.V.Vault c.self.inside.made c.self.inside.node c.self.inside.ranks.items h) ∙ sent_long c.self.inside.node.journal c.self.inside.ranks.items h.long in
    let f = c.from.ensures in
    let t = c.if-self-from.false in
    subst (λ (b : BerthState g.row.V.Denot). c.self.inside.all ≡ min (length (sent_ranked (stood b.made ++ entries_of b))) 4294967295) c.self.view_is (omega (arith, all, n, f, t))
