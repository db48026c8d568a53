use Rattle.std.specs.Prelude.{option_map}
use Rattle.std.proofs.Common.{◌∙◌, sym, ap}
use Rattle.alp_pages.specs.Volume.{props_cell}
use Rattle.alp_pages.proofs.fetch.fetch_leader.Goals as goal

pub returns-in_default-clause-props : goal.returns-in_default-clause-props
returns-in_default-clause-props g c home v m f tells s here = ap (option_map props_cell) (sym c.in_default.is ∙ c.in_ok-leader.ensures.leader tells) ∙ sym (s.leaders f c.args.at here)

pub returns-clause-props : goal.returns-clause-props
returns-clause-props g c home v m f tells s here = ap (option_map props_cell) (sym c.in-Some.is ∙ c.in_ok-leader.ensures.leader tells) ∙ sym (s.leaders f c.args.at here)
