use Rattle.alp_course.specs.Carries.{room_left}
use Rattle.alp_cluster.specs.Stations.{course_of}
use Rattle.alp_cluster.proofs.stations.Stations.+carry_all.Given as goal

abbrev pub decreases-carry_all : goal.decreases-carry_all
decreases-carry_all g l = room_left (course_of g.V.Vault l.self.now)
