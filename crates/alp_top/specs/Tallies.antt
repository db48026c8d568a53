-- How many transactions the entries of a server begin, and how many of them they commit.
use Rattle.std.specs.Prelude.{ℕ, ◌+◌, ◌-◌, ◌^◌, min, nat_le, Bool, true, false, List, [], ◌∷◌, Option, None, Some, if◌then◌else◌}
use Rattle.alp_journal.specs.declared.act.Act.{Act}
use Rattle.alp_journal.specs.declared.act.Act.TheVariants as act
use Rattle.alp_journal.specs.declared.entry.Entry.{Entry}
use Rattle.alp_top.specs.Logs.{ServerOfLog}
use Rattle.alp_top.specs.declared.tally.Tally.{Tally}
use Rattle.alp_top.specs.declared.tally.Seen.{Seen}

abbrev pub one_more : ℕ → ℕ
one_more n = min (n + 1) (2 ^ 32 - 1)

abbrev pub sum_of : ℕ → ℕ → ℕ
sum_of m n = min (m + n) (2 ^ 32 - 1)

-- ---- the acts of one entry

abbrev pub none_seen : Seen
none_seen = record { begun = 0; committed = 0; tried = None; stops = false; found = None }

abbrev pub with_act : Seen → Act → Seen
with_act s (act.Drawn t) = record s { begun = one_more s.begun }
with_act s (act.Decided stamp parts) = record s { committed = one_more s.committed; tried = Some stamp.ts }
with_act s (act.Regained epoch clock ready decided) = record s { found = Some clock }
with_act s act.Stopped = record s { stops = true }
with_act s act.Failed = record s { stops = true }
with_act s a = s

abbrev pub seen_from : Seen → List Act → Seen
seen_from s [] = s
seen_from s (a ∷ acts) = seen_from (with_act s a) acts

-- ---- the entries

abbrev pub no_tally : Tally
no_tally = record { begun = 0; committed = 0; tried = None }

-- a restart that found this clock found the commit of that time made
abbrev pub is_made : Option ℕ → Option ℕ → Bool
is_made (Some time) (Some clock) = nat_le time clock
is_made tried found = false

-- of an entry that stopped the restart tells whether its commit was made
abbrev pub with_seen : Tally → Seen → Tally
with_seen t s =
    if s.stops then record t { tried = s.tried }
    else record { begun = sum_of t.begun s.begun; committed = (if is_made t.tried s.found then one_more (sum_of t.committed s.committed) else sum_of t.committed s.committed); tried = None }

abbrev pub tally_from : Tally → List Entry → Tally
tally_from t [] = t
tally_from t (e ∷ es) = tally_from (with_seen t (seen_from none_seen e.acts)) es

abbrev pub tally_in : List Entry → Tally
tally_in es = tally_from no_tally es

-- ---- the servers

-- how many transactions all of them began, and how many they committed
abbrev pub begun_in : {V : Type 0} → List (ServerOfLog V) → ℕ
begun_in [] = 0
begun_in (x ∷ xs) = sum_of (tally_in x.journal).begun (begun_in xs)

abbrev pub committed_in : {V : Type 0} → List (ServerOfLog V) → ℕ
committed_in [] = 0
committed_in (x ∷ xs) = sum_of (tally_in x.journal).committed (committed_in xs)
