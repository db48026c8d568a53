use Rattle.std.specs.Vec.{vec_len}
use Rattle.alp_storm.proofs.threads.+run_all.Given as goal

abbrev pub decreases-run_all : goal.decreases-run_all
decreases-run_all g l = vec_len l.errands.now
