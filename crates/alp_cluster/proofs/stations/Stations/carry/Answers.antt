use Rattle.std.specs.Prelude.{slice_get}
use Rattle.std.proofs.Common.{◌-◌, sym, ◌∙◌, ap}
use Rattle.alp_cluster.proofs.BringLemmas.{carried}
use Rattle.alp_cluster.proofs.CarryLemmas.{none_brought, ends_brought}
use Rattle.alp_cluster.proofs.DidLemmas.{gone_both, all_on}
use Rattle.alp_cluster.proofs.GoneLemmas.{end_on, handed_on}
use Rattle.alp_cluster.proofs.TakeLemmas.{gone_same, rank_is}
use Rattle.alp_cluster.proofs.stations.Stations.carry.Goals as goal

pub returns-in_default-clause-gone : goal.returns-in_default-clause-gone
returns-in_default-clause-gone g c = gone_same g.V.Vault (Unit {0}) c.args.self.now c.next_message.new.self (tt {0}) c.next_message.ensures.all

pub returns-in_default-clause-did : goal.returns-in_default-clause-did
returns-in_default-clause-did g c =
    none_brought g.V.Vault c.args.self.now c.args.from c.args.to c.requires.apart c.next_message.new.self c.next_message.ensures.on c.next_message.ensures.all c.next_message.ensures.course (sym c.next_message.ensures.message ∙ c.in_default.is)

pub returns-in_err-arrive-clause-gone : goal.returns-in_err-arrive-clause-gone
returns-in_err-arrive-clause-gone g c =
    all_on g.V.Vault (Unit {0}) c.args.self.now c.next_message.new.self c.arrive.new.self (tt {0}) c.in_err-arrive.field-0.0 c.from_residual.result c.next_message.ensures.on
    (gone_same g.V.Vault (Unit {0}) c.args.self.now c.next_message.new.self (tt {0}) c.next_message.ensures.all) c.in_err-arrive.ensures.gone
    (handed_on c.in_err-arrive.field-0.0 c.from_residual.result c.from_residual.ensures.0 c.from_residual.ensures.1)

pub returns-in_err-arrive-clause-ended : goal.returns-in_err-arrive-clause-ended
returns-in_err-arrive-clause-ended g c =
    end_on c.in_err-arrive.field-0.0 c.from_residual.result _ _ (handed_on c.in_err-arrive.field-0.0 c.from_residual.result c.from_residual.ensures.0 c.from_residual.ensures.1)
    (λ f ends.
    ends_brought g.V.Vault c.args.self.now c.args.from c.args.to c.requires.apart c.next_message.new.self c.arrive.new.self c.requires.on c.next_message.ensures.all c.next_message.ensures.course c.in-Some.message (sym c.next_message.ensures.message ∙ c.in-Some.is)
    c.last_rank-seen.result (c.last_rank-seen.ensures ∙ sym (rank_is g.V.Vault c.args.self.now c.requires.on c.args.from c.requires.apart.sender c.at.result.now c.at.ensures)) f ends)
    c.in_err-arrive.ensures.ended

pub returns-clause-gone : goal.returns-clause-gone
returns-clause-gone g c =
    let shown = gone_same g.V.Vault (Unit {0}) c.args.self.now c.next_message.new.self (tt {0}) c.next_message.ensures.all in
    let came = gone_both g.V.Vault (Unit {0}) c.args.self.now c.next_message.new.self c.arrive.new.self (tt {0}) _ c.next_message.ensures.on shown c.in_ok-arrive.ensures.gone in
    gone_both g.V.Vault (Unit {0}) c.args.self.now c.arrive.new.self c.take.new.self (tt {0}) _ c.in_ok-arrive.ensures.came.later.on came (gone_same g.V.Vault (Unit {0}) c.arrive.new.self c.take.new.self (tt {0}) c.take.ensures.all)

pub returns-clause-did : goal.returns-clause-did
returns-clause-did g c =
    carried g.V.Vault c.args.self.now c.next_message.new.self c.next_message.ensures.all c.next_message.ensures.on c.next_message.ensures.course c.args.from c.args.to c.requires.apart c.arrive.new.self c.take.new.self c.in-Some.message c.last_rank-seen.result
    c.at.result.now (ap (λ v. slice_get v.items (c.args.from - 1)) c.next_message.ensures.all ∙ c.at.ensures) c.in_ok-arrive.ensures.came c.take.ensures.on c.take.ensures.all
    (c.last_rank-seen.ensures ∙ sym (rank_is g.V.Vault c.args.self.now c.requires.on c.args.from c.requires.apart.sender c.at.result.now c.at.ensures)) (sym c.next_message.ensures.message ∙ c.in-Some.is) c.take.ensures.taken
