use Rattle.std.proofs.Common.{sym, ◌∙◌, ap}
use Rattle.std.proofs.lemmas.Result.{on_ok_weaker}
use Rattle.alp_posts.specs.Post.{Post}
use Rattle.alp_cluster.proofs.CarryLemmas.{repeated, none_repeated, ends_repeated}
use Rattle.alp_cluster.proofs.DidLemmas.{gone_none}
use Rattle.alp_cluster.proofs.GoneLemmas.{end_map}
use Rattle.alp_cluster.proofs.MessageLemmas.{servers_of, unshown_at}
use Rattle.alp_cluster.proofs.stations.Stations.again.Goals as goal

pub returns-in_default-clause-gone : goal.returns-in_default-clause-gone
returns-in_default-clause-gone g c = gone_none g.V.Vault (Unit {0}) c.args.self.now (tt {0})

pub returns-in_default-clause-did : goal.returns-in_default-clause-did
returns-in_default-clause-did g c =
    let s = c.args.self.now in
    let two = servers_of g.V.Vault s c.requires.on c.args.from c.args.to c.requires.apart.sender c.requires.apart.receiver in
    none_repeated g.V.Vault s c.args.from c.args.to c.requires.apart c.requires.on (ap (λ (p : Post). p.last) (unshown_at s.posts c.requires.on.fits.table c.args.from c.args.to two) ∙ sym c.last.ensures ∙ c.in_default.is)

pub returns-clause-did : goal.returns-clause-did
returns-clause-did g c =
    let s = c.args.self.now in
    let two = servers_of g.V.Vault s c.requires.on c.args.from c.args.to c.requires.apart.sender c.requires.apart.receiver in
    on_ok_weaker c.arrive.result
    (λ came. repeated g.V.Vault s c.args.from c.args.to c.requires.apart c.arrive.new.self c.in-Some.message c.in-Some.seen came
    (ap (λ (p : Post). p.last) (unshown_at s.posts c.requires.on.fits.table c.args.from c.args.to two) ∙ sym c.last.ensures ∙ c.in-Some.is))
    c.arrive.ensures.came

pub returns-clause-ended : goal.returns-clause-ended
returns-clause-ended g c =
    let s = c.args.self.now in
    let two = servers_of g.V.Vault s c.requires.on c.args.from c.args.to c.requires.apart.sender c.requires.apart.receiver in
    end_map c.arrive.result _ _
    (λ f ends. ends_repeated g.V.Vault s c.args.from c.args.to c.requires.apart c.arrive.new.self c.requires.on (c.in-Some.message, c.in-Some.seen)
    (ap (λ (p : Post). p.last) (unshown_at s.posts c.requires.on.fits.table c.args.from c.args.to two) ∙ sym c.last.ensures ∙ c.in-Some.is) f ends)
    c.arrive.ensures.ended
