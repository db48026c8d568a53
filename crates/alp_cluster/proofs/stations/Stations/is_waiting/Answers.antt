use Rattle.std.specs.Prelude.{is_some}
use Rattle.std.proofs.Common.{refl, sym, ◌∙◌, ap}
use Rattle.alp_cluster.specs.Stations.{course_of}
use Rattle.alp_cluster.proofs.CarryLemmas.{same_later, one_later, looked}
use Rattle.alp_cluster.proofs.LoopLemmas.{waits_not, waits_there, stands_there, down_is}
use Rattle.alp_cluster.proofs.TakeLemmas.{gone_same}
use Rattle.alp_cluster.proofs.stations.Stations.is_waiting.Goals as goal

pub returns-in_default-clause-gone : goal.returns-in_default-clause-gone
returns-in_default-clause-gone g c = gone_same g.V.Vault (Unit {0}) c.args.self.now c.next_message.new.self (tt {0}) c.next_message.ensures.all

pub returns-in_default-clause-did : goal.returns-in_default-clause-did
returns-in_default-clause-did g c =
    looked g.V.Vault c.args.self.now c.args.from c.args.to c.requires.apart c.next_message.new.self _ c.next_message.ensures.on c.next_message.ensures.all c.next_message.ensures.course
    (waits_not (course_of g.V.Vault c.args.self.now) c.args.from c.args.to (sym c.next_message.ensures.message ∙ c.in_default.is))

pub at-requires : goal.at-requires
at-requires g c = record { server = one_later g.V.Vault c.args.self.now c.next_message.new.self c.args.to (same_later g.V.Vault c.args.self.now c.next_message.new.self c.next_message.ensures.on c.next_message.ensures.all) c.requires.apart.receiver }

pub node-requires : goal.node-requires
node-requires g c =
    let here = one_later g.V.Vault c.args.self.now c.next_message.new.self c.args.to (same_later g.V.Vault c.args.self.now c.next_message.new.self c.next_message.ensures.on c.next_message.ensures.all) c.requires.apart.receiver in
    record { stands = stands_there g.V.Vault c.next_message.new.self c.next_message.ensures.on c.args.to here c.at.result.now c.at.ensures }

pub returns-clause-gone : goal.returns-clause-gone
returns-clause-gone g c = gone_same g.V.Vault (Unit {0}) c.args.self.now c.next_message.new.self (tt {0}) c.next_message.ensures.all

pub returns-clause-did : goal.returns-clause-did
returns-clause-did g c =
    let s = c.args.self.now in
    let shown = c.next_message.new.self in
    let here = one_later g.V.Vault s shown c.args.to (same_later g.V.Vault s shown c.next_message.ensures.on c.next_message.ensures.all) c.requires.apart.receiver in
    looked g.V.Vault s c.args.from c.args.to c.requires.apart shown _ c.next_message.ensures.on c.next_message.ensures.all c.next_message.ensures.course
    (waits_there (course_of g.V.Vault s) c.args.from c.args.to c.next_message.result (sym c.next_message.ensures.message) (ap is_some c.in-Some.is) c.is_down.result
    (down_is g.V.Vault shown c.next_message.ensures.on c.args.to here c.at.result.now c.at.ensures c.node.result.now c.node.ensures.is (course_of g.V.Vault s) c.next_message.ensures.course ∙ sym c.is_down.ensures))
