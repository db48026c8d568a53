-- A run of one server.
use Rattle.std.specs.Prelude.{◌≡◌, ℕ, ◌+◌, false, IsTrue, List, [], ◌∷◌, ◌++◌, length}
use Rattle.alp_base.specs.declared.ids.TransId.{TransId}
use Rattle.std.specs.List.{AllByRecursion}
use Rattle.alp_journal.specs.Laws.{IsLawful}
use Rattle.alp_journal.specs.Opening.{Start}
use Rattle.alp_journal.specs.declared.act.Act.{Act}
use Rattle.alp_journal.specs.declared.act.Act.TheVariants as act
use Rattle.alp_journal.specs.declared.entry.Entry.{Entry}
use Rattle.alp_course.specs.Happens.{Happening, AreRecorded}
use Rattle.alp_course.specs.Courses.{Course, Seat, seat_at, Occurrence, at, ranks_with, AreCourse}
use Rattle.alp_course.specs.Opens.{is_unasked}
use Rattle.alp_course.specs.Settles.{IsSettling}

-- what happens at the servers, of all that occurs
abbrev pub happenings_of : List Occurrence → List Happening
happenings_of [] = []
happenings_of (at n h ∷ xs) = h ∷ happenings_of xs
happenings_of (x ∷ xs) = happenings_of xs

-- the server went on by what happened at it: these are its further entries, one rank behind the other
pub record HasGoneOn (before after : Seat) (hs : List Happening) : Type 0 where
  pub opening : after.opening ≡ before.opening
  pub telling : after.tells ≡ before.tells
  pub entries : List Entry
  pub journal : after.journal ≡ before.journal ++ entries
  pub ranks : after.ranks ≡ ranks_with before.ranks 0 entries
  pub recorded : AreRecorded before.tells before.stand hs entries after.stand

-- Where there is one server, all that occurs happens at it, and its journal records just that.
abbrev pub Alone : Type 0
Alone = (r after : Course) (xs : List Occurrence) (s : Seat) → r.seats ≡ s ∷ [] → AreCourse r xs after → (t : Seat) × (after.seats ≡ t ∷ []) × HasGoneOn s t (happenings_of xs)

-- Behind a settling of the only server, whose vault tells, each of its transactions is over, or somebody asked to finish it.
abbrev pub Closing : Type 0
Closing = (r after : Course) (xs : List Occurrence) (s : Seat) → r.seats ≡ s ∷ [] → IsSettling 1 xs → AreCourse r xs after → IsTrue (seat_at after 1).tells → (t : TransId) → is_unasked ((seat_at after 1).stand.state.fates t) ≡ false

-- ---- restarts

-- a restart that finds no ready part and no decision with parts elsewhere
abbrev pub IsPlainAct : Act → Type 0
IsPlainAct (act.Regained epoch clock ready stamps) = (ready ≡ []) × (stamps ≡ [])
IsPlainAct a = Unit {0}

abbrev pub ArePlain : List Entry → Type 0
ArePlain es = AllByRecursion (λ (e : Entry). AllByRecursion IsPlainAct e.acts) es

-- Of the only server of a run, which was started on no ready part and no such decision, no restart finds any.
abbrev pub Plainness : Type 0
Plainness = (o : Start) (journal : List Entry) → o.servers ≡ 1 → o.server ≡ 1 → o.ready ≡ [] → o.decisions ≡ [] → IsLawful o journal → ArePlain journal
