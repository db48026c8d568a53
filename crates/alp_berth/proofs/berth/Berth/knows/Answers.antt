use Rattle.std.proofs.Common.{subst}
use Rattle.alp_berth.specs.BerthStates.{BerthState}
use Rattle.alp_berth.specs.Berths.{IsBerth}
use Rattle.alp_berth.proofs.berth.Berth.knows.Goals as goal

pub returns : goal.returns
returns g c = subst (λ (b : BerthState g.row.V.Denot). IsBerth g.V.Vault b.made b.node b.ranks) c.self.view_is c.self.invariant.berth
