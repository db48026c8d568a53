use Rattle.std.proofs.Common.{[], ap, arith}
use Rattle.alp_trans.specs.declared.counts.Counts.{Counts}
use Rattle.alp_calls.proofs.PartLaws.{part_begins}
use Rattle.alp_calls.proofs.RegainLemmas.{regained_nothing}
use Rattle.alp_calls.proofs.regaining.regained_part.Goals as goal

pub take_change-requires-clause-part : goal.take_change-requires-clause-part
take_change-requires-clause-part g c = part_begins c.new-part.result c.new-part.ensures.intents c.new-part.ensures.counts

pub take_change-requires-clause-room : goal.take_change-requires-clause-room
take_change-requires-clause-room g c = omega (arith, ap (λ (n : Counts). n.cells) c.new-part.ensures.counts, c.requires.noted.few)

pub returns-clause-intents : goal.returns-clause-intents
returns-clause-intents g c =
    (c.in_ok-take_change.ensures.taken.regained []
    (regained_nothing (g.V.Vault.tells c.args.vault.now) (g.V.Vault.held c.args.vault.now).cells c.new-part.result c.new-part.ensures.intents c.new-part.ensures.counts c.new-part.ensures.own)).intents

pub returns-clause-counts : goal.returns-clause-counts
returns-clause-counts g c =
    (c.in_ok-take_change.ensures.taken.regained []
    (regained_nothing (g.V.Vault.tells c.args.vault.now) (g.V.Vault.held c.args.vault.now).cells c.new-part.result c.new-part.ensures.intents c.new-part.ensures.counts c.new-part.ensures.own)).counts

pub returns-clause-own : goal.returns-clause-own
returns-clause-own g c =
    (c.in_ok-take_change.ensures.taken.regained []
    (regained_nothing (g.V.Vault.tells c.args.vault.now) (g.V.Vault.held c.args.vault.now).cells c.new-part.result c.new-part.ensures.intents c.new-part.ensures.counts c.new-part.ensures.own)).own

pub returns-clause-part : goal.returns-clause-part
returns-clause-part g c = c.in_ok-take_change.ensures.taken.part
