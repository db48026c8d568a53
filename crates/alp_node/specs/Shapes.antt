-- What a call is refused for before its locks are looked at: its shape, and how many locks it would leave.
use Rattle.std.specs.Prelude.{◌≡◌, ℕ, ◌+◌, ◌≤◌, Bool, true, false, not, nat_lt, nat_le, List, [], ◌∷◌, Option, None, Some, is_some, if◌then◌else◌}
use Rattle.std.specs.Option.{option_or}
use Rattle.alp_base.specs.declared.choices.Choice.{Choice}
use Rattle.alp_base.specs.declared.choices.Choice.TheVariants as choice
use Rattle.alp_base.specs.declared.ids.Run.{Run}
use Rattle.alp_files.specs.Holdings.{Holding}
use Rattle.alp_files.specs.Locks.{Need, joined}
use Rattle.alp_files.specs.declared.call.Call.{Call}
use Rattle.alp_files.specs.declared.call.Call.TheVariants as call
use Rattle.alp_files.specs.declared.refusal.Refusal.{Refusal}
use Rattle.alp_files.specs.declared.refusal.Refusal.TheVariants as refusal
use Rattle.alp_files.specs.declared.refusal.What.TheVariants as what
use Rattle.alp_journal.specs.Counts.{log_need}
use Rattle.alp_journal.specs.Answers.{if_over, more_locks, choice_of}
use Rattle.alp_regain.specs.Named.{is_leaf_mode}
use Rattle.alp_node.specs.Asks.{is_given}
use Rattle.alp_node.specs.declared.lock_counts.LockCounts.{LockCounts}

-- one open more than stand would be too many
abbrev pub no_open : ℕ → Option Refusal
no_open opens = if_over (nat_le 64 opens) (refusal.TooMany what.Opens 64)

abbrev pub no_run : Run → Option Refusal
no_run r = if_over (nat_lt 16 r.count) (refusal.TooMany what.Run 16)

-- more pages than a file may have
abbrev pub no_size : ℕ → Option Refusal
no_size size = if_over (nat_lt 4096 size) (refusal.TooMany what.Pages 4096)

-- a run that is read is not empty, and pages are locked to be read, to be read and perhaps written, or to be written
abbrev pub ReadsSome : Call → Type 0
ReadsSome (call.ReadPages t n r mode choice) = (1 ≤ r.count) × (is_leaf_mode mode ≡ true)
ReadsSome (call.LockPages t n r mode choice) = is_leaf_mode mode ≡ true
ReadsSome c = Unit {0}

-- where the server and its epoch gave ids to so many files, and the part has so many opens; what is wrong with an open that a
-- call names is seen as the call is performed, and then it asks for no lock
abbrev pub shape_of : (server epoch given opens : ℕ) → Call → Option Refusal
shape_of server epoch given opens (call.CreateFile t start choice) = option_or (no_size start.size) (no_open opens)
shape_of server epoch given opens (call.OpenFile t f access mode choice) = option_or (if_over (not (is_given server epoch given f)) refusal.UnknownFile) (no_open opens)
shape_of server epoch given opens (call.ReadPages t n r mode choice) = no_run r
shape_of server epoch given opens (call.WritePages t n r pages choice) = no_run r
shape_of server epoch given opens (call.LockPages t n r mode choice) = no_run r
shape_of server epoch given opens (call.SetSize t n size choice) = no_size size
shape_of server epoch given opens c = None

-- ---- locks

-- whether the call waits where another is in its way
abbrev pub is_wait : Option Choice → Bool
is_wait (Some choice.Wait) = true
is_wait x = false

abbrev pub may_wait : Call → Bool
may_wait c = is_wait (choice_of c)

-- of the resources that are asked for those that are not held yet, each once
abbrev pub fresh_on : Holding → List Need → ℕ
fresh_on held [] = 0
fresh_on held (n ∷ ns) = (if is_some (held n.0) then 0 else 1) + fresh_on (joined held (n ∷ [])) ns

-- how many a part has locked behind a call that asks these, where it makes no file and where it makes one
abbrev pub counts_then : ℕ → Holding → List Need → Call → LockCounts
counts_then locks held ns c = record { asked = locks + fresh_on held ns; made = locks + fresh_on held ns + more_locks c }

-- a part that changes so many cells may have so many locked
abbrev pub too_locked : (area cells locks : ℕ) → Option Refusal
too_locked area cells locks = option_or (if_over (nat_lt 1024 locks) (refusal.TooMany what.Locks 1024)) (if_over (nat_lt area (log_need cells locks)) (refusal.LogFull area (log_need cells locks)))
