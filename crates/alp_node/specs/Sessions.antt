-- The sessions of clients, each at its client's number.
use Rattle.std.specs.Prelude.{ℕ, Option, None, Some, replicate, slice_get, slice_set, ◌+◌, ◌≤◌}
use Rattle.alp_base.specs.declared.limits.TheConstants.{CLIENTS}
use Rattle.std.specs.Option.{option_and_then}
use Rattle.alp_journal.specs.Desk.{Session}
use Rattle.alp_node.specs.declared.sessions.Sessions.{Sessions}

abbrev pub no_sessions : Sessions
no_sessions = record { places = replicate (CLIENTS + 1) None }

abbrev pub session_at : Sessions → ℕ → Option Session
session_at s client = option_and_then (λ x. x) (slice_get s.places client)

abbrev pub with_session : Sessions → ℕ → Session → Sessions
with_session s client session = record { places = slice_set s.places client (Some session) }

-- there is such a client in a run
abbrev pub IsClient : ℕ → Type 0
IsClient n = (1 ≤ n) × (n ≤ 16)
