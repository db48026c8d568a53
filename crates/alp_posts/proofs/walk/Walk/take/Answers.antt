use Rattle.std.proofs.Common.{sym, ◌∙◌}
use Rattle.alp_posts.proofs.WalkLemmas.{onward, gives, only_shown, one_taken}
use Rattle.alp_posts.proofs.walk.Walk.take.Goals as goal

pub returns-in_default-clause-message : goal.returns-in_default-clause-message
returns-in_default-clause-message c =
    sym c.in_default.is
    ∙ gives (onward c.args.self.now c.self.inside.last c.self.inside.shown.value c.args.journal.now c.first_from-found.ensures c.entries.ensures c.self.view_is c.self.invariant c.requires)

pub returns-in_default-clause-none : goal.returns-in_default-clause-none
returns-in_default-clause-none c =
    only_shown (onward c.args.self.now c.self.inside.last c.self.inside.shown.value c.args.journal.now c.first_from-found.ensures c.entries.ensures c.self.view_is c.self.invariant c.requires) c.of.result.value c.of.ensures

pub returns-clause-message : goal.returns-clause-message
returns-clause-message c =
    sym c.in-Some.is
    ∙ gives (onward c.args.self.now c.self.inside.last c.self.inside.shown.value c.args.journal.now c.first_from-found.ensures c.entries.ensures c.self.view_is c.self.invariant c.requires)

pub returns-clause-some : goal.returns-clause-some
returns-clause-some c =
    one_taken (onward c.args.self.now c.self.inside.last c.self.inside.shown.value c.args.journal.now c.first_from-found.ensures c.entries.ensures c.self.view_is c.self.invariant c.requires) c.in-Some.message c.in-Some.is c.args.rank
    c.of.result.value c.of.ensures
