use Rattle.alp_notes.proofs.Searches.{searched}
use Rattle.alp_vault.proofs.owners.place_of.Goals as goal

pub returns-clause-found : goal.returns-clause-found
returns-clause-found c = (searched c.args.name.now c.args.names.now c.binary_search.result c.requires c.binary_search.ensures.bound c.binary_search.ensures.position).0

pub returns-clause-absent : goal.returns-clause-absent
returns-clause-absent c = (searched c.args.name.now c.args.names.now c.binary_search.result c.requires c.binary_search.ensures.bound c.binary_search.ensures.position).1
