use Rattle.alp_tables.proofs.Tables.{searched}
use Rattle.alp_tables.proofs.table.find.Goals as goal

pub returns-clause-found : goal.returns-clause-found
returns-clause-found g c = (searched g.met.K.Ord.total c.requires.exact c.args.key.now c.args.keys.now c.binary_search.result c.requires.rising c.binary_search.ensures.bound c.binary_search.ensures.position).0

pub returns-clause-absent : goal.returns-clause-absent
returns-clause-absent g c = (searched g.met.K.Ord.total c.requires.exact c.args.key.now c.args.keys.now c.binary_search.result c.requires.rising c.binary_search.ensures.bound c.binary_search.ensures.position).1
