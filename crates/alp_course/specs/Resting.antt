-- That a settling comes to rest.
use Rattle.std.specs.Prelude.{◌≡◌, ℕ, ◌<◌, List, length}
use Rattle.alp_base.specs.declared.ids.JoinNo.{JoinNo}
use Rattle.alp_journal.specs.Account.{Account, state_of, Stands}
use Rattle.alp_journal.specs.Answered.{IsAnswered}
use Rattle.alp_journal.specs.Opening.{Start, ReadyNote, DecisionNote}
use Rattle.alp_history.specs.Items.{Handed}
use Rattle.alp_history.specs.Log.{IsIn}
use Rattle.alp_history.specs.Theorems.{IsProper, IsSettled}
use Rattle.alp_course.specs.Courses.{Course, seat_at, IsSeat, Occurrence, AreCourse, TellAll}
use Rattle.alp_course.specs.Links.{log_of}
use Rattle.alp_course.specs.Midway.{IsMidway}
use Rattle.alp_course.specs.Settles.{IsSettling}

-- epochs and counters of ids begin with 1
abbrev pub IsPositive : JoinNo → Type 0
IsPositive j = (0 < j.epoch) × (0 < j.counter)

-- the ids that the notes of an opening name are such
pub record AreSpelled (o : Start) : Type 0 where
  pub epoch : 0 < o.epoch
  pub ready : (r : ReadyNote) → IsIn r o.ready → IsPositive r.join × (0 < r.trans.epoch) × (0 < r.trans.counter)
  pub decisions : (d : DecisionNote) → IsIn d o.decisions → (j : JoinNo) → IsIn j d.joins → IsPositive j

-- What is asked of a run: the journals are lawful, and linked from sound openings on, each entry is answered as its event calls for, all
-- vaults tell what they hold, each server knows how many there are, and stands in the end as an account does.
pub record IsWellRun (after : Course) (handed : Handed) : Type 0 where
  pub proper : IsProper (log_of after handed)
  pub answered : (n : ℕ) → IsSeat after n → IsAnswered (seat_at after n).opening (seat_at after n).journal
  pub tells : TellAll after
  pub spelled : (n : ℕ) → IsSeat after n → AreSpelled (seat_at after n).opening
  pub among : (n : ℕ) → IsSeat after n → (seat_at after n).opening.servers ≡ length after.seats
  pub account : (n : ℕ) → IsSeat after n → (a : Account) × ((seat_at after n).stand.state ≡ state_of a) × Stands a

-- Behind a settling no part lives, none is ready, and no decision stands, at any server: wherever the run that is settled began.
abbrev pub Resting : Type 0
Resting = (r after : Course) (xs : List Occurrence) (handed : Handed) → IsMidway r → IsSettling (length r.seats) xs → AreCourse r xs after → IsWellRun after handed → (n : ℕ) → IsSeat after n → IsSettled (seat_at after n).stand.state
