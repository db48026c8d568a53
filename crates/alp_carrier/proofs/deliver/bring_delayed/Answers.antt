use Rattle.std.proofs.Common.{subst, rules, ◌≡◌}
use Rattle.std.specs.Prelude.{option_to_list, None}
use Rattle.alp_carrier.specs.Brings.{Brings}
use Rattle.alp_carrier.proofs.BringLemmas.{brings_none}
use Rattle.alp_carrier.proofs.deliver.bring_delayed.Goals as goal

pub returns-in_default : goal.returns-in_default
returns-in_default g c =
    subst (λ o. Brings g.S.Story.base g.S.Station.sight c.args.monitor.now c.args.from c.args.delivery c.args.delivery (option_to_list o)) (let none : None ≡ c.args.delayed = search rules in none)
    (brings_none g.S.Story.base g.S.Station.sight c.args.monitor.now c.args.from c.args.delivery c.requires.held)
