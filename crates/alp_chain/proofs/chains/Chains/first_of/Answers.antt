use Rattle.std.proofs.Common.{slice_get, ◌∙◌, ap, subst}
use Rattle.alp_chain.specs.declared.node.Way.TheVariants.{Trans}
use Rattle.alp_chain.specs.Lists.{list_at}
use Rattle.alp_chain.specs.Chains.{Chains, StandOnce}
use Rattle.alp_chain.proofs.ListLemmas.{first-is}
use Rattle.alp_chain.proofs.chains.Chains.first_of.Goals as goal

pub returns-clause-first : goal.returns-clause-first
returns-clause-first c =
    c.find_first.ensures ∙ first-is Trans c.self.inside.nodes c.self.inside.of.ends c.args.trans c.self.invariant.of
    ∙ ap (λ (h : Chains). slice_get (list_at h.of c.args.trans) 0) c.self.view_is

pub returns-clause-once : goal.returns-clause-once
returns-clause-once c = subst StandOnce c.self.view_is c.self.invariant.once
