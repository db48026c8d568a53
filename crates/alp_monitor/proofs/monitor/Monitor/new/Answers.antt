use Rattle.std.proofs.Common.{rules, arith, ap, sym, refl}
use Rattle.std.proofs.lemmas.Grind.{common_steps}
use Rattle.alp_monitor.proofs.Ends.{founds}
use Rattle.alp_monitor.proofs.monitor.Monitor.new.Goals as goal

pub new-requires : goal.new-requires
new-requires g c = founds g.S.Story.base g.S.Story.entries _ _ _ _ _ c.args.state refl (first_of (search rules, grind (arith, common_steps))) refl (ap g.S.Story.base (sym c.of.ensures)) c.requires.none_yet
