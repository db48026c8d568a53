use Rattle.std.specs.Option.{option_copied}
use Rattle.std.proofs.Common.{sym, ap, ◌∙◌}
use Rattle.alp_node.specs.Waits.{locks_in}
use Rattle.alp_node.proofs.waits.Waits.locks_of.Goals as goal

pub returns-in-Some : goal.returns-in-Some
returns-in-Some c = c.asked.ensures ∙ ap locks_in c.in-Some.ensures

pub returns-in-None : goal.returns-in-None
returns-in-None c = sym (ap locks_in (sym c.file_on.ensures ∙ ap option_copied c.in-None.is))
