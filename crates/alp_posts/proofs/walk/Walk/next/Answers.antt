use Rattle.alp_posts.proofs.WalkLemmas.{onward, gives, only_shown}
use Rattle.alp_posts.proofs.walk.Walk.next.Goals as goal

pub returns-clause-message : goal.returns-clause-message
returns-clause-message c = gives (onward c.args.self.now c.self.inside.last c.self.inside.shown.value c.args.journal.now c.first_from-found.ensures c.entries.ensures c.self.view_is c.self.invariant c.requires)

pub returns-clause-shown : goal.returns-clause-shown
returns-clause-shown c =
    only_shown (onward c.args.self.now c.self.inside.last c.self.inside.shown.value c.args.journal.now c.first_from-found.ensures c.entries.ensures c.self.view_is c.self.invariant c.requires) c.of.result.value c.of.ensures
