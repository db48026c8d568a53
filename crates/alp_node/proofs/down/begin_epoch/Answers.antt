use Rattle.std.proofs.Common.{◌∙◌}
use Rattle.alp_node.proofs.RaiseLemmas.{still_free, recovered_now, not_recovered, raise_whole, unrecovered_whole}
use Rattle.alp_node.specs.Downs.{IsRecovered}
use Rattle.alp_node.proofs.down.begin_epoch.Goals as goal

pub raise-requires-clause-free : goal.raise-requires-clause-free
raise-requires-clause-free g c = still_free (g.V.Vault.allowance c.args.vault) (g.V.Vault.allowance c.in-Ok.vault) c.requires.free c.in-Ok.ensures.spent.spends

pub raise-requires-clause-number : goal.raise-requires-clause-number
raise-requires-clause-number g c = (c.in-Ok.ensures.kept.number ∙ c.requires.number.0, c.in-Ok.ensures.kept.of_all ∙ c.requires.number.1)

pub returns-in-Ok : goal.returns-in-Ok
returns-in-Ok g c =
    let G = g.V.Vault in
    let old = c.args.vault in
    let mid = c.in-Ok.vault in
    let got = c.in-Ok.ensures in
    let recovered : IsRecovered G old mid = recovered_now G old mid got.serves got.left got.crash got.time got.kept c.requires.free got.spent.spends got.cause in
    raise_whole G c.args.of.0 c.args.of.1 c.args.last old mid c.raise.result c.requires.low recovered c.raise.ensures

pub returns-in-Err : goal.returns-in-Err
returns-in-Err g c =
    let G = g.V.Vault in
    let old = c.args.vault in
    let new = c.in-Err.vault in
    let got = c.in-Err.ensures in
    unrecovered_whole G c.args.of.0 c.args.of.1 c.args.last old new c.in-Err.fault
    (not_recovered G old new c.in-Err.fault got.serves got.crash got.time got.kept c.requires.free got.spent.spends got.spent.later got.cause got.still got.volume)
