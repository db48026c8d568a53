use Rattle.std.specs.List.{list_any}
use Rattle.std.proofs.Common.{◌≡◌, sym, ◌∙◌, subst}
use Rattle.alp_journal.specs.Moves.{stops}
use Rattle.alp_berth.specs.BerthStates.{BerthState}
use Rattle.alp_berth.specs.Berths.{entries_of}
use Rattle.alp_berth.specs.declared.made.Ranked.{Ranked}
use Rattle.alp_berth.proofs.EntryLemmas.{any_all}
use Rattle.alp_berth.proofs.berth.BerthHost.is_down.Goals as goal

pub returns : goal.returns
returns g c =
    let h = c.self.invariant.berth in
    subst (λ (b : BerthState g.row.V.Denot). c.is_down.result ≡ list_any (λ (e : Ranked). stops e.entry) (entries_of b)) c.self.view_is
    (c.is_down.ensures ∙ (h.down ∙ sym (any_all g.V.Vault c.self.inside.made c.self.inside.node c.self.inside.ranks.items h stops)))
