use Rattle.std.specs.Prelude.{Bool, IsTrue, IfOk}
use Rattle.std.proofs.Common.{◌≡◌, ◌∙◌, List, sym, ap, subst}
use Rattle.alp_tables.specs.declared.cost.Cost.{Cost}
use Rattle.alp_pages.specs.Pages.{Pages}
use Rattle.alp_pages.specs.Damage.{Name}
use Rattle.alp_volume.specs.Reached.{AreCosts, AreOwners, IsJudged, rows_from}
use Rattle.alp_volume.proofs.read.judge_owners.Goals as goal

pub returns-clause-judged : goal.returns-clause-judged
returns-clause-judged g c names tells within owned =
    let r0 = c.args.reader.now in
    let r1 = c.read_costs.new.reader in
    let at = g.R.PageReader.pages r0 in
    let same : g.R.PageReader.pages r1 ≡ at = g.met.R.PageReader.same_pages r0 r1 c.in_ok-costs.ensures.read.on in
    let told : IsTrue (g.R.PageReader.tells r1) = subst (λ (t : Bool). IsTrue t) (sym (g.met.R.PageReader.same_tells r0 r1 c.in_ok-costs.ensures.read.on)) tells in
    let costs = subst (λ (x : Pages). AreCosts x c.deref.result.now) (sym same) (subst (λ (xs : List Cost). AreCosts at xs) (sym c.deref.ensures.value) (c.in_ok-costs.ensures.costs tells within)) in
    let owned1 = subst (λ (x : Pages). AreOwners x 0 c.args.catalog.now.owners c.args.catalog.now.rows) (sym same) owned in
    subst (λ (x : Pages). IfOk c.read_owners.result (IsJudged c.args.home x names (rows_from 0) (λ ns. (ns ≡ names) × AreOwners x 256 c.read_owners.new.catalog.owners c.read_owners.new.catalog.rows))) same
    (c.read_owners.ensures.judged c.args.home names told costs owned1)
