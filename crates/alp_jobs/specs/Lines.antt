-- The lines that a job has before it, and the servers that they speak of.
use Rattle.std.specs.Prelude.{◌≡◌, ℕ, Bool, true, false, ◌&&◌, List, IfSome}
use Rattle.std.specs.List.{list_all, AllByRecursion}
use Rattle.alp_journal.specs.declared.log.Item.{Item}
use Rattle.alp_lines.specs.declared.line.Line.{Line}
use Rattle.alp_lines.specs.declared.line.Line.TheVariants as line
use Rattle.alp_session.specs.Ours.{IsServer, GivesOf, SpeaksOf, IsCrowdOf}
use Rattle.alp_jobs.specs.Deeds.{Deed, sends, gives_tick, gives_timeout}
use Rattle.alp_jobs.specs.Does.{tick_due}
use Rattle.alp_jobs.specs.States.{JobState}

-- that holds of the line that it is at, and of all that come
abbrev pub has_lines : (Line → Bool) → JobState → Bool
has_lines p j = p j.line && (list_all p j.rest && list_all (λ (ls : List Line). list_all p ls) j.others)

-- what holds of its lines and of the line that gives a transaction up holds of the lines that are left
abbrev pub KeepsLines : JobState → JobState → Type 0
KeepsLines job now = (p : Line → Bool) → p (line.Abort job.number) ≡ true → has_lines p job ≡ true → has_lines p now ≡ true

-- for the line the client asks something anew: it sends no frame again, and no bytes as they are
abbrev pub is_asking : Line → Bool
is_asking (line.Repeat client) = false
is_asking (line.Old client) = false
is_asking (line.Raw client server bytes) = false
is_asking l = true

-- its lines, and all that its clients know, name servers of the run alone, and so does the Tick that is due
pub record IsJobOf (n : ℕ) (j : JobState) : Type 0 where
  pub crowd : IsCrowdOf n j.crowd
  pub at_line : SpeaksOf n j.line
  pub in_transaction : AllByRecursion (SpeaksOf n) j.rest
  pub in_others : AllByRecursion (AllByRecursion (SpeaksOf n)) j.others
  pub ticks : IfSome (tick_due j.stage) (IsServer n)

-- the reply that an item tells names ids of these servers
abbrev pub TellsOf : ℕ → Item → Type 0
TellsOf n x = IfSome x.reply (GivesOf n)

abbrev pub GivesIn : ℕ → Deed → Type 0
GivesIn n (sends x) = TellsOf n x
GivesIn n (gives_tick server) = Unit {0}
GivesIn n (gives_timeout server t) = Unit {0}

-- so it stays by these deeds, where what is told names ids of these servers
abbrev pub StaysOurs : JobState → List Deed → JobState → Type 0
StaysOurs job ds now = (n : ℕ) → IsJobOf n job → AllByRecursion (GivesIn n) ds → IsJobOf n now
