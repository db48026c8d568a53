use Rattle.std.proofs.Common.{refl, sym, ◌∙◌}
use Rattle.alp_cluster.specs.Stations.{course_of, journals_in}
use Rattle.alp_cluster.proofs.AtLemmas.{at_there, at_keeps}
use Rattle.alp_cluster.proofs.MessageLemmas.{journal_is}
use Rattle.alp_cluster.proofs.TakeLemmas.{take_on, take_course}
use Rattle.alp_cluster.proofs.stations.Stations.take.Goals as goal

pub node-requires : goal.node-requires
node-requires g c = (let (n, keeps) = at_keeps g.V.Vault c.args.self.now c.requires.on c.args.from c.requires.apart.sender c.index.result.now c.index.ensures in record { stands = (n, keeps.stands) })

pub returns-clause-on : goal.returns-clause-on
returns-clause-on g c =
    let s = c.args.self.now in
    let there = at_there s c.args.from c.requires.apart.sender c.index.result.now c.index.ensures in
    take_on g.V.Vault s c.requires.on c.args.from c.args.to c.requires.apart.sender c.requires.apart.receiver c.index.result.now there c.node.result.now c.node.ensures.is _ refl c.args.rank c.journal.result.now c.journal.ensures c.take.result c.take.ensures.message c.take.ensures.none c.take.ensures.some
    (c.take.ensures.fits (journals_in (course_of g.V.Vault s)) (journal_is g.V.Vault s c.requires.on c.args.from c.args.to c.requires.apart.sender c.requires.apart.receiver c.index.result.now there c.node.result.now c.node.ensures.is ∙ sym c.journal.ensures) c.requires.on.fits)

pub returns-clause-taken : goal.returns-clause-taken
returns-clause-taken g c =
    let s = c.args.self.now in
    let there = at_there s c.args.from c.requires.apart.sender c.index.result.now c.index.ensures in
    take_course g.V.Vault s c.requires.on c.args.from c.args.to c.requires.apart.sender c.requires.apart.receiver c.index.result.now there c.node.result.now c.node.ensures.is _ refl c.args.rank c.journal.result.now c.journal.ensures c.take.result c.take.ensures.message c.take.ensures.none c.take.ensures.some
