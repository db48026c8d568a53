use Rattle.std.proofs.Common.{sym, subst}
use Rattle.alp_base.specs.declared.change.Change.{Change}
use Rattle.alp_vault.specs.Volumes.{IsCommit}
use Rattle.alp_node.proofs.StoreLemmas.{part_commit}
use Rattle.alp_node.proofs.stored.store.Goals as goal

pub commit_change-requires-clause-asked : goal.commit_change-requires-clause-asked
commit_change-requires-clause-asked g c =
    let G = g.V.Vault in
    let v = c.args.vault.now in
    subst (λ (x : Change). IsCommit (G.volume v) (G.server v) (G.servers v) (G.held v).notes x c.args.notes.now) (sym c.in_ok-change.ensures)
    (part_commit (G.volume v) (G.server v) (G.servers v) (G.held v).notes c.args.part.now c.args.notes.now c.requires.part c.requires.noted c.requires.log)
