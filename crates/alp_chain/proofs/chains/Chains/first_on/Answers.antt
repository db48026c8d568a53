use Rattle.std.proofs.Common.{slice_get, ◌∙◌, ap, subst}
use Rattle.alp_chain.specs.declared.node.Way.TheVariants.{Resource}
use Rattle.alp_chain.specs.Lists.{list_at}
use Rattle.alp_chain.specs.Chains.{Chains, StandOnce}
use Rattle.alp_chain.proofs.ListLemmas.{first-is}
use Rattle.alp_chain.proofs.chains.Chains.first_on.Goals as goal

pub returns-clause-first : goal.returns-clause-first
returns-clause-first c =
    c.find_first.ensures ∙ first-is Resource c.self.inside.nodes c.self.inside.on.ends c.args.resource c.self.invariant.on
    ∙ ap (λ (h : Chains). slice_get (list_at h.on c.args.resource) 0) c.self.view_is

pub returns-clause-once : goal.returns-clause-once
returns-clause-once c = subst StandOnce c.self.view_is c.self.invariant.once
