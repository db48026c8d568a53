-- What a server says to other servers of its run.
use Rattle.std.specs.Prelude.{ℕ, Bool, List, [], ◌∷◌, if◌then◌else◌, map as list_map}
use Rattle.alp_base.specs.declared.ids.JoinNo.{JoinNo}
use Rattle.alp_base.specs.declared.ids.TransId.{TransId}
use Rattle.alp_journal.specs.declared.act.Act.{Act}
use Rattle.alp_journal.specs.declared.act.Act.TheVariants as act
use Rattle.alp_journal.specs.declared.message.Message.{Message}
use Rattle.alp_journal.specs.declared.message.Message.TheVariants as msg
use Rattle.alp_coord.specs.declared.answers.Registration.{Registration}
use Rattle.alp_coord.specs.declared.answers.Registration.TheVariants as registration
use Rattle.alp_worker.specs.Again.{is_other}
use Rattle.alp_node.specs.declared.server_state.ServerState.{ServerState}

-- a message goes to a server where that is another one of the run
abbrev pub said_if : Bool → ℕ → Message → List Act
said_if other to m = if other then act.Sent to m ∷ [] else []

abbrev pub is_away : {V : Type 0} → ServerState V → ℕ → Bool
is_away k to = is_other k.servers k.server to

abbrev pub said_to : {V : Type 0} → ServerState V → ℕ → Message → List Act
said_to k to m = said_if (is_away k to) to m

-- what comes of a part's register
abbrev pub register_acts : Bool → TransId → JoinNo → Registration → List Act
register_acts other t j registration.Silence = []
register_acts other t j registration.Refused = said_if other j.server (msg.JoinRefused t j)
register_acts other t j registration.Known = said_if other j.server (msg.Joined t j)
register_acts other t j registration.Registered = act.Registered t j ∷ said_if other j.server (msg.Joined t j)

-- the same message to each of these joins
abbrev pub said_each : (JoinNo → Message) → List JoinNo → List Act
said_each f js = list_map (λ (j : JoinNo). act.Sent j.server (f j)) js
