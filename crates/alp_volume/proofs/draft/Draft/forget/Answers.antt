use Rattle.std.specs.FinMap as map
use Rattle.std.proofs.Common.{◌≤◌, sym, subst}
use Rattle.alp_volume.specs.Drafts.{Changed}
use Rattle.alp_volume.proofs.SheetLaws.{len_gone}
use Rattle.alp_volume.proofs.draft.Draft.forget.Goals as goal

pub returns-clause-few : goal.returns-clause-few
returns-clause-few c = subst (λ (m : Changed). map.len m ≤ map.len c.args.self.now.pages) (sym c.remove.ensures) (len_gone c.args.self.now.pages c.args.at)
