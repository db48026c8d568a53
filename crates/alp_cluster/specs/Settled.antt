-- What a settling finds, and what it comes to.
use Rattle.std.specs.Prelude.{ℕ, Bool, IsTrue, Option}
use Rattle.alp_base.specs.declared.ids.TransId.{TransId}
use Rattle.alp_vault.specs.declared.vault.Vault.{Ghosts}
use Rattle.alp_course.specs.Courses.{seat_at, TellAll, AreRest}
use Rattle.alp_course.specs.Opens.{IsLeastOpen}
use Rattle.alp_course.specs.Settles.{IsUpIn, AreUp as AreUpIn}
use Rattle.alp_cluster.specs.Stations.{course_of}
use Rattle.alp_cluster.specs.declared.stations.Stations.{Stations}

-- it is the least transaction that has an open part there, where the vault tells
abbrev pub FindsOpen : {V : Type 0} → Ghosts V → ℕ → Option TransId → Stations V → Type 0
FindsOpen G server least s = IsTrue (seat_at (course_of G s) server).tells → IsLeastOpen (seat_at (course_of G s) server).stand.state least

abbrev pub TellsRest : {V : Type 0} → Ghosts V → Bool → Stations V → Type 0
TellsRest G is_rest s = TellAll (course_of G s) → AreRest is_rest (course_of G s).seats

-- the server is up, and nobody stops it
abbrev pub IsUpAt : {V : Type 0} → Ghosts V → ℕ → Stations V → Type 0
IsUpAt G server s = IsUpIn (seat_at (course_of G s) server)

abbrev pub AreUp : {V : Type 0} → Ghosts V → Stations V → Type 0
AreUp G s = AreUpIn (course_of G s)
