-- How often a client thread collects a call, and when it gives a Timeout, without its lines and what it knows.
use Rattle.std.specs.Prelude.{◌≡◌, ℕ, ◌+◌, ◌<◌, max, Bool, true, false, List, [], ◌∷◌, Option, None, Some, if◌then◌else◌}
use Rattle.std.specs.List.{AllByRecursion}
use Rattle.alp_files.specs.declared.call.Call.{Call}
use Rattle.alp_files.specs.declared.call.Call.TheVariants as call
use Rattle.alp_journal.specs.declared.log.Sent.{Sent}
use Rattle.alp_journal.specs.declared.log.Sent.TheVariants as sent
use Rattle.alp_lines.specs.declared.line.Line.{Line}
use Rattle.alp_lines.specs.declared.line.Line.TheVariants as line
use Rattle.alp_jobs.specs.Deeds.{Deed, sends, gives_tick, gives_timeout, waits_on}

-- so many collects in a row may be answered that the call waits
abbrev pub most_of : (patience : ℕ) → ℕ
most_of patience = max patience 1

abbrev pub is_greeting : Call → Bool
is_greeting (call.Hello name) = true
is_greeting c = false

abbrev pub is_hello : Sent → Bool
is_hello (sent.Call client epoch number c) = is_greeting c
is_hello (sent.Bytes bytes) = false

-- The collects in a row that were answered that the call waits, behind one that was sent. A greeting changes nothing of it, and anything else
-- begins a new row.
abbrev pub row_after : (waits greets : Bool) → ℕ → ℕ
row_after true greets n = n + 1
row_after false true n = n
row_after false false n = 0

abbrev pub IsBelowIf : Bool → ℕ → ℕ → Type 0
IsBelowIf true n m = n < m
IsBelowIf false n m = Unit {0}

-- From such a row on, or where a Timeout was given: no call is collected more often than patience allows. A Timeout stands just behind so many
-- collects in a row that were answered that the call waits, and behind it the call is collected once more.
abbrev pub ArePatient : (patience : ℕ) → Option ℕ → List Deed → Type 0
ArePatient p (Some n) [] = Unit {0}
ArePatient p None [] = ⊥
ArePatient p (Some n) (sends x ∷ ds) = IsBelowIf (waits_on x) n (most_of p) × ArePatient p (Some (row_after (waits_on x) (is_hello x.sent) n)) ds
ArePatient p None (sends x ∷ ds) = ArePatient p (Some 0) ds
ArePatient p (Some n) (gives_tick server ∷ ds) = ArePatient p (Some n) ds
ArePatient p None (gives_tick server ∷ ds) = ⊥
ArePatient p (Some n) (gives_timeout server t ∷ ds) = (n ≡ most_of p) × ArePatient p None ds
ArePatient p None (gives_timeout server t ∷ ds) = ⊥

-- a line of a client's own, which collects no call that came to wait in another one
abbrev pub is_plain : Line → Bool
is_plain (line.Repeat client) = false
is_plain (line.Old client) = false
is_plain (line.Raw client server bytes) = false
is_plain (line.Collect client) = false
is_plain l = true

abbrev pub ArePlain : List (List Line) → Type 0
ArePlain = AllByRecursion (AllByRecursion (λ (l : Line). is_plain l ≡ true))
