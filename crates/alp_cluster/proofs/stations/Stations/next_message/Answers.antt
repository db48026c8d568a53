use Rattle.std.specs.Prelude.{slice_get}
use Rattle.std.proofs.Common.{refl, sym, ◌∙◌, ap}
use Rattle.alp_posts.specs.Messages.{messages_to}
use Rattle.alp_posts.specs.Posts.{post_at}
use Rattle.alp_cluster.specs.Stations.{course_of, journals_in}
use Rattle.alp_cluster.proofs.AtLemmas.{at_there, at_keeps}
use Rattle.alp_cluster.proofs.MessageLemmas.{servers_of, journal_is, next_timely, shown_course, shown_on}
use Rattle.alp_cluster.proofs.stations.Stations.next_message.Goals as goal

pub node-requires : goal.node-requires
node-requires g c = (let (n, keeps) = at_keeps g.V.Vault c.args.self.now c.requires.on c.args.from c.requires.apart.sender c.index.result.now c.index.ensures in record { stands = (n, keeps.stands) })

pub returns-clause-on : goal.returns-clause-on
returns-clause-on g c =
    let s = c.args.self.now in
    let there = at_there s c.args.from c.requires.apart.sender c.index.result.now c.index.ensures in
    let two = servers_of g.V.Vault s c.requires.on c.args.from c.args.to c.requires.apart.sender c.requires.apart.receiver in
    shown_on g.V.Vault s c.requires.on _ refl c.args.from c.args.to two c.journal.result.now c.next.ensures.shown
    (c.next.ensures.fits (journals_in (course_of g.V.Vault s)) (journal_is g.V.Vault s c.requires.on c.args.from c.args.to c.requires.apart.sender c.requires.apart.receiver c.index.result.now there c.node.result.now c.node.ensures.is ∙ sym c.journal.ensures) c.requires.on.fits)

pub returns-clause-course : goal.returns-clause-course
returns-clause-course g c =
    shown_course g.V.Vault c.args.self.now c.requires.on _ refl c.args.from c.args.to (servers_of g.V.Vault c.args.self.now c.requires.on c.args.from c.args.to c.requires.apart.sender c.requires.apart.receiver) c.journal.result.now c.next.ensures.shown

pub returns-clause-timely : goal.returns-clause-timely
returns-clause-timely g c =
    let s = c.args.self.now in
    let there = at_there s c.args.from c.requires.apart.sender c.index.result.now c.index.ensures in
    next_timely g.V.Vault s c.requires.on c.args.from c.args.to c.requires.apart.sender c.requires.apart.receiver c.index.result.now there c.node.result.now c.node.ensures.is c.next.result
    (c.next.ensures.message ∙ ap (λ j. slice_get (messages_to c.args.to j) (post_at s.posts c.args.from c.args.to).taken) c.journal.ensures)
