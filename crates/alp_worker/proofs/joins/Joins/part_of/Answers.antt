use Rattle.std.proofs.Common.{ap, ◌∙◌}
use Rattle.alp_worker.specs.Lives.{number_in}
use Rattle.alp_worker.proofs.WalkLemmas.{part_number, part_phase}
use Rattle.alp_worker.proofs.joins.Joins.part_of.Goals as goal

pub returns-clause-number : goal.returns-clause-number
returns-clause-number c s h =
    ap number_in c.part_of.ensures ∙ part_number c.args.client c.args.trans.now s.holder.server s.ids.epoch s.ids.joins s.phases s.joined c.args.self.now h

pub returns-clause-phase : goal.returns-clause-phase
returns-clause-phase c s h = c.part_of.ensures ∙ part_phase c.args.client c.args.trans.now s.holder.server s.ids.epoch s.ids.joins s.phases s.joined c.args.self.now h
