-- What a command plays, and what it shows.
use Rattle.std.specs.Prelude.{◌≡◌, ◌≤◌, ℕ, Bool, true, false, List, Option}
use Rattle.alp_drill.specs.Script.{drill_script}
use Rattle.alp_drill.specs.Storms.{IsStorm, storm_script}
use Rattle.alp_drill.specs.declared.storms.Storm.{Storm}
use Rattle.alp_script.specs.Reading.{GaveScript, GaveFlaw, GaveGoodLines, SaysScript}
use Rattle.alp_script.specs.declared.fault.ScriptFault.{ScriptFault}
use Rattle.alp_script.specs.declared.fault.ScriptFault.TheVariants as flaw
use Rattle.alp_script.specs.declared.numbered.NumberedLine.{NumberedLine}
use Rattle.alp_words.specs.Words.{IsNamedBy}
use Rattle.alp_words.specs.declared.command.Command.{Command}
use Rattle.alp_words.specs.declared.command.Command.TheVariants as command
use Rattle.alp_top.specs.Reports.{Shown, Played, Drilled}

-- the storm of these numbers
abbrev pub storm_of : (servers clients size seed patience : ℕ) → Storm
storm_of servers clients size seed patience = record { servers = servers; clients = clients; size = size; seed = seed; patience = patience }

-- These lines are to be played: of `play` they are the script that the source gave, of `drill` and `storm` the one that the seed makes, and nothing is
-- read.
abbrev pub AreToPlay : Command → (old new : Option (List ℕ)) → List NumberedLine → Type 0
AreToPlay (command.Play folder) old new lines = GaveScript old new lines
AreToPlay (command.Drill seed size folder) old new lines = (lines ≡ drill_script seed size) × (new ≡ old)
AreToPlay (command.Storm servers clients size seed patience folder) old new lines = (lines ≡ storm_script (storm_of servers clients size seed patience)) × (new ≡ old)

-- there are lines to play: of `play` what the source has left is a script
abbrev pub HasLines : Command → Option (List ℕ) → Type 0
HasLines (command.Play folder) has = SaysScript has
HasLines (command.Drill seed size folder) has = Unit {0}
HasLines (command.Storm servers clients size seed patience folder) has = Unit {0}

-- its lines come from the source
abbrev pub HasSource : Command → Type 0
HasSource (command.Play folder) = Unit {0}
HasSource (command.Drill seed size folder) = ⊥
HasSource (command.Storm servers clients size seed patience folder) = ⊥

-- this holds where its lines are made of a seed
abbrev pub OnMade : Command → Type 0 → Type 0
OnMade (command.Play folder) P = Unit {0}
OnMade (command.Drill seed size folder) P = P
OnMade (command.Storm servers clients size seed patience folder) P = P

-- Why there are none: what the source gave has that flaw, or the source failed. A flaw is told only where there are no lines. A drill or a storm has
-- lines, and no source, so none of this comes of it: it may only want memory.
abbrev pub HasNoLines : Command → (old new : Option (List ℕ)) → ScriptFault → Type 0
HasNoLines c old new (flaw.Bad n) = GaveFlaw old new (flaw.Bad n) × (HasLines c old → ⊥)
HasNoLines c old new flaw.TooLong = GaveFlaw old new flaw.TooLong × (HasLines c old → ⊥)
HasNoLines c old new flaw.ReadFault = GaveGoodLines old new × HasSource c
HasNoLines c old new flaw.OutOfMemory = Unit {0}

-- the words name a command that has no lines, for that reason
pub record IsWithoutLines (words : List (List ℕ)) (old new : Option (List ℕ)) (f : ScriptFault) : Type 0 where
  pub command : Command
  pub named : IsNamedBy words command
  pub none : HasNoLines command old new f

-- whether a line for each line of a client stands before the summary: of `play` it does
abbrev pub shows_lines : Command → Bool
shows_lines (command.Play folder) = true
shows_lines (command.Drill seed size folder) = false
shows_lines (command.Storm servers clients size seed patience folder) = false

abbrev pub shown_as : Bool → Shown
shown_as true = Played
shown_as false = Drilled

-- a drill has no more rounds than that, and the numbers of a storm are from the least to the most
abbrev pub HasFewRounds : Command → Type 0
HasFewRounds (command.Play folder) = Unit {0}
HasFewRounds (command.Drill seed size folder) = size ≤ 5000
HasFewRounds (command.Storm servers clients size seed patience folder) = IsStorm (storm_of servers clients size seed patience)
