use Rattle.std.proofs.Common.{refl}
use Rattle.alp_journal.specs.declared.event.Event.TheVariants as event
use Rattle.alp_berth.proofs.StepLemmas.{arrives}
use Rattle.alp_berth.proofs.berth.BerthStation.deliver.Goals as goal

pub returns-clause-ok : goal.returns-clause-ok
returns-clause-ok g c = arrives g.V.Vault c.args.self.now c.advance.new.self c.knows.ensures (event.Arrive c.args.from c.args.message) c.args.seen _ c.in_ok-advance.ensures.ok c.args.from c.args.message refl
