use Rattle.std.proofs.Common.{◌≡◌, ◌≤◌, length, sym, ap, ◌∙◌, subst, arith, List}
use Rattle.std.proofs.lemmas.Bool.{leb-true}
use Rattle.alp_journal.specs.declared.entry.Entry.{Entry}
use Rattle.alp_berth.specs.BerthStates.{BerthState}
use Rattle.alp_berth.specs.Berths.{IsShut, entries_of}
use Rattle.alp_berth.proofs.EntryLemmas.{shut_down, shut_full}
use Rattle.alp_berth.proofs.berth.Berth.is_shut.Goals as goal

pub returns-then-is_down-clause-shut : goal.returns-then-is_down-clause-shut
returns-then-is_down-clause-shut g c shut =
    subst (λ (b : BerthState g.row.V.Denot). IsShut b.made (entries_of b)) c.self.view_is
    (shut_down g.V.Vault c.self.inside.made c.self.inside.node c.self.inside.ranks.items c.self.invariant.berth (sym c.is_down.ensures ∙ c.if-is_down.true))

pub returns-clause-shut : goal.returns-clause-shut
returns-clause-shut g c shut =
    let low : 65536 ≤ length c.entries.result.now = leb-true 65536 (length c.entries.result.now) shut in
    let long : length c.entries.result.now ≡ length c.self.inside.node.journal = ap (λ (l : List Entry). length l) (c.entries.ensures ∙ c.journal.ensures) in
    subst (λ (b : BerthState g.row.V.Denot). IsShut b.made (entries_of b)) c.self.view_is
    (shut_full g.V.Vault c.self.inside.made c.self.inside.node c.self.inside.ranks.items c.self.invariant.berth (omega (arith, low, long)))
