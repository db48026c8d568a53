-- What is in the way of a commit at a server.
use Rattle.std.specs.Prelude.{ℕ, Bool, false, Option, nat_le}
use Rattle.alp_base.specs.declared.ids.TransId.{TransId}
use Rattle.alp_files.specs.declared.refusal.Why.{Why}
use Rattle.alp_journal.specs.Messages.{clock_end, first_why}
use Rattle.alp_worker.specs.Rooms.{room_for, own_room}
use Rattle.alp_node.specs.Noted.{size_in, ready_room}
use Rattle.alp_node.specs.Waits.{has_waiting}
use Rattle.alp_node.specs.declared.server_state.ServerState.{ServerState}

-- of the part here of one of its own transactions: the end of the clock, or no room in the log
abbrev pub own_why : {V : Type 0} → ServerState V → TransId → Option Why
own_why k t = first_why false false (nat_le clock_end k.clock) (own_room k.sizes.area (ready_room k.lives k.joins.lives) (size_in k.lives t))

-- of the client's part of another server's transaction: a call of it that waits, too
abbrev pub why_against : {V : Type 0} → ServerState V → (client : ℕ) → TransId → Option Why
why_against k client t = first_why false (has_waiting client t k.waits) (nat_le clock_end k.clock) (room_for k.sizes.area (ready_room k.lives k.joins.lives) (size_in k.lives t))
