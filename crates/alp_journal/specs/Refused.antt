-- What a passing refusal leaves of what a server holds.
use Rattle.std.specs.Prelude.{◌≡◌, Bool, true, false, List, Option, None, Some}
use Rattle.alp_base.specs.declared.ids.TransId.{TransId}
use Rattle.alp_files.specs.declared.call.Call.{Call}
use Rattle.alp_files.specs.declared.call.Call.TheVariants as call
use Rattle.alp_files.specs.declared.refusal.Refusal.{Refusal}
use Rattle.alp_files.specs.declared.refusal.Refusal.TheVariants as refusal
use Rattle.alp_files.specs.Locks.{IsMore}
use Rattle.alp_journal.specs.declared.entry.Entry.{Entry}
use Rattle.alp_journal.specs.Along.{state_after}
use Rattle.alp_journal.specs.Opening.{Start}
use Rattle.alp_journal.specs.Holder.{Holder, Life}
use Rattle.alp_journal.specs.State.{State, opened}
use Rattle.alp_journal.specs.Moves.{next}
use Rattle.alp_journal.specs.Laws.{IsLawful}
use Rattle.alp_journal.specs.Answered.{IsAnswered}

-- a part has the same calls, intents and opens, and on each resource its lock covers the one that it held
pub record IsSamePart (l k : Life) : Type 0 where
  pub same : k ≡ record l { held = k.held }
  pub more : IsMore l.held k.held

-- a part lives on, and there is no new one
abbrev pub LivesOn : Option Life → Option Life → Type 0
LivesOn None k = k ≡ None
LivesOn (Some l) None = ⊥
LivesOn (Some l) (Some k) = IsSamePart l k

-- Files, intents and opens are as before, and so are the clock, the ids that files were given and what was applied. What
-- was granted stays; waiting calls may have been granted more.
pub record IsAsBefore (h g : Holder) : Type 0 where
  pub holder : g ≡ record h { lives = g.lives }
  pub lives : (t : TransId) → LivesOn (h.lives t) (g.lives t)

abbrev pub is_finish : Call → Bool
is_finish (call.Finish t commit) = true
is_finish c = false

-- the refusals by which a Finish leaves its transaction as it was
abbrev pub is_turned_away : Refusal → Bool
is_turned_away (refusal.StaleSession epoch) = true
is_turned_away refusal.UnknownTrans = true
is_turned_away refusal.Finishing = true
is_turned_away f = false

-- a state that some journal leaves which keeps to the laws and whose entries have their causes
pub record IsReached (s : State) : Type 0 where
  pub start : Start
  pub journal : List Entry
  pub lawful : IsLawful start journal
  pub answered : IsAnswered start journal
  pub leaves : state_after next (opened start) journal ≡ s
