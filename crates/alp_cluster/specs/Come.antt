-- How far the calls of a client have come, by the epochs and the numbers of them.
use Rattle.std.specs.Prelude.{◌≡◌, ◌⊎◌, ℕ, ◌<◌, ◌≤◌, Bool, true, false, nat_lt, nat_le, ◌==◌, ◌&&◌, ◌||◌, Option, None, Some, if◌then◌else◌}
use Rattle.alp_journal.specs.Desk.{Session}
use Rattle.alp_node.specs.Sessions.{session_at}
use Rattle.alp_node.specs.declared.server_state.ServerState.{ServerState}

-- the epoch and the number of a call; at first none has come
pub record Come : Type 0 where
  pub epoch : ℕ
  pub number : ℕ

abbrev pub none_come : Come
none_come = record { epoch = 0; number = 0 }

-- by epochs, and in one epoch by numbers
abbrev pub is_up_to : Come → Come → Bool
is_up_to a b = nat_lt a.epoch b.epoch || a.epoch == b.epoch && nat_le a.number b.number

abbrev pub IsUpTo : Come → Come → Type 0
IsUpTo a b = (a.epoch < b.epoch) ⊎ ((a.epoch ≡ b.epoch) × (a.number ≤ b.number))

abbrev pub IsBelow : Come → Come → Type 0
IsBelow a b = (a.epoch < b.epoch) ⊎ ((a.epoch ≡ b.epoch) × (a.number < b.number))

-- the later of two
abbrev pub further : Come → Come → Come
further a b = if is_up_to a b then b else a

-- the session that stands has come so far; a server that is down answers no call of its epoch any more
abbrev pub IsReachedIn : Bool → Option Session → ℕ → Type 0
IsReachedIn true w number = Unit {0}
IsReachedIn false None number = ⊥
IsReachedIn false (Some w) number = number ≤ w.last

-- No call up to there will be a new one of this client: it is of an older epoch than the server's, or the session there has come to
-- it.
abbrev pub IsReached : {V : Type 0} → ServerState V → ℕ → Come → Type 0
IsReached k client a = (a.epoch < k.epoch) ⊎ ((a.epoch ≡ k.epoch) × IsReachedIn k.is_down (session_at k.sessions client) a.number)
