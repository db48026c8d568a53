use Rattle.std.specs.Vec.{vec_len}
use Rattle.alp_storm.proofs.opening.+close_all.Given as goal

abbrev pub decreases-close_all : goal.decreases-close_all
decreases-close_all g l = vec_len l.monitors.now
