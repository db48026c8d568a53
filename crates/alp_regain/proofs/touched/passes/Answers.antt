use Rattle.std.specs.FinMap as map
use Rattle.std.proofs.Common.{subst}
use Rattle.alp_base.specs.declared.cell.Cell.{Cell}
use Rattle.alp_base.specs.declared.cell.Cell.TheVariants as cell
use Rattle.alp_base.specs.declared.key.Key.{Key}
use Rattle.alp_files.specs.Cells.{View}
use Rattle.alp_files.specs.Needs.{through}
use Rattle.alp_regain.specs.Touched.{IsGoodPut}
use Rattle.alp_regain.proofs.touched.passes.Goals as goal

pub returns-in-PageOf-Page-clause-no : goal.returns-in-PageOf-Page-clause-no
returns-in-PageOf-Page-clause-no g c = λ told is good.
    let v : View = through c.args.intents.now (map.get (g.V.Vault.held c.args.vault.now).cells) in
    c.page_passes.ensures.no told is c.in-PageOf-Page.field-0-1
    (subst (λ (k : Key). IsGoodPut v k (cell.Page c.in-PageOf-Page.field-0-1)) c.in-PageOf-Page.is-0 (subst (λ (d : Cell). IsGoodPut v c.args.at.now d) c.in-PageOf-Page.is-1 good))
