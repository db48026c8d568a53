use Rattle.std.specs.Vec.{vec_len}
use Rattle.alp_storm.proofs.opening.+open_all.Given as goal

abbrev pub decreases-open_all : goal.decreases-open_all
decreases-open_all g l = vec_len l.states.now
