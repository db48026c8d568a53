use Rattle.alp_course.specs.Carries.{room_left}
use Rattle.alp_cluster.specs.Stations.{course_of}
use Rattle.alp_cluster.proofs.stations.Stations.+time_out_at.Given as goal

abbrev pub decreases-time_out_at : goal.decreases-time_out_at
decreases-time_out_at g l = room_left (course_of g.V.Vault l.self.now)
