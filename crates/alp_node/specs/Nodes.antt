-- A server and its journal.
use Rattle.std.specs.Prelude.{◌≡◌, ℕ, ◌<◌, ◌≤◌, ◌||◌, nat_le, Bool, true, false, IsTrue, List, [], ◌∷◌, ◌++◌, length, flat_map, Option, Some, is_some}
use Rattle.std.specs.List.{list_any, list_all, AllByRecursion}
use Rattle.alp_base.specs.Causes.{Rose}
use Rattle.alp_base.specs.declared.allowance.Allowance.{Allowance}
use Rattle.alp_files.specs.declared.reply.Reply.{Reply}
use Rattle.alp_files.specs.declared.reply.Reply.TheVariants as reply
use Rattle.alp_files.specs.declared.refusal.Refusal.TheVariants as refusal
use Rattle.alp_vault.specs.Contents.{Contents}
use Rattle.alp_vault.specs.declared.vault.Vault.{Ghosts}
use Rattle.alp_journal.specs.declared.act.Act.{Act}
use Rattle.alp_journal.specs.declared.act.Act.TheVariants as act
use Rattle.alp_journal.specs.declared.message.Envelope.{Envelope}
use Rattle.alp_journal.specs.declared.event.Event.{Event}
use Rattle.alp_journal.specs.declared.entry.Entry.{Entry}
use Rattle.alp_journal.specs.Along.{state_after}
use Rattle.alp_journal.specs.Holder.{lives_noted}
use Rattle.alp_journal.specs.Opening.{Start, DecisionNote, start_at}
use Rattle.alp_journal.specs.State.{State, opened}
use Rattle.alp_journal.specs.Moves.{next, is_stop}
use Rattle.alp_journal.specs.Laws.{IsLawful, are_joins_apart}
use Rattle.alp_journal.specs.Answered.{IsAnswered, IsAnsweredEntry, entries_limit, is_read_fault}
use Rattle.alp_journal.specs.Account.{Account, state_of as account_state}
use Rattle.alp_regain.specs.Named.{is_drawn_by}
use Rattle.alp_regain.specs.Owners.{AreReadyHere, AreDecidedHere, joins_of}
use Rattle.alp_regain.specs.Together.{IsPartNote, AreApart}
use Rattle.alp_node.specs.Found.{KeepsFound}
use Rattle.alp_node.specs.NodeStates.{NodeState}
use Rattle.alp_node.specs.ServerState.{IsAs, IsReady}
use Rattle.alp_node.specs.Durable.{IsDurable}
use Rattle.alp_node.specs.Halts.{HaveCauses, MaySay, IsUncounted, says_shut}
use Rattle.alp_node.specs.Orders.{is_answered, is_fault_now}
use Rattle.alp_node.specs.SoundLives.{AreSoundLives}
use Rattle.alp_node.specs.Steps.{IsNoted}
use Rattle.alp_node.specs.declared.sessions.CallOrder.{CallOrder}

-- the state that a journal leaves
abbrev pub state_of : Start → List Entry → State
state_of o journal = state_after next (opened o) journal

-- what it was started on, by what its vault held then
abbrev pub start_by : {V : Type 0} → Ghosts V → ℕ → V → Start
start_by G server v = start_at server (G.servers v) (G.volume v) (G.held v).cells (G.held v).notes

abbrev pub start_in : {V : Type 0} → Ghosts V → NodeState V → Start
start_in G n = start_by G n.kept.server n.opening.vault.value

-- A server opens on well-formed files whose owners' records hold their charges, and they are so with whichever of the ready parts
-- too, whose locks agree and cover what they change. Sizes are numbers of pages. The parts that are ready, the decisions, their ids and
-- those of the files that they name are as a server of the run leaves them that ran in earlier epochs alone.
pub record IsSoundStart (o : Start) : Type 0 where
  pub parts : AreSoundLives o.cells (lives_noted o.ready)
  pub before : ℕ
  pub earlier : before < o.epoch
  pub ready : AllByRecursion (IsPartNote o.server before) o.ready
  pub here : AreReadyHere o.server o.servers o.ready
  pub joins : are_joins_apart (joins_of o.ready) ≡ true
  pub apart : AreApart o.ready
  pub decisions : AreDecidedHere o.server o.servers o.decisions
  pub drawn : list_all (λ (d : DecisionNote). is_drawn_by before d.stamp.trans.epoch d.stamp.trans.counter) o.decisions ≡ true
  pub times : list_all (λ (d : DecisionNote). nat_le d.stamp.ts o.clock) o.decisions ≡ true

-- The journal is lawful, each of its entries has its cause, and the server keeps what its state says, with this in its
-- vault. The files were sound when it was started.
pub record IsRight {V : Type 0} (o : Start) (held : Contents) (n : NodeState V) : Type 0 where
  pub opening : IsSoundStart o
  pub lawful : IsLawful o n.journal
  pub caused : IsAnswered o n.journal
  pub state : Account
  pub says : state_of o n.journal ≡ account_state state
  pub kept : IsAs state held n.kept

-- ---- what is sent

abbrev pub sent_by : Act → List Envelope
sent_by (act.Sent to message) = (record { to = to; message = message }) ∷ []
sent_by a = []

-- the messages that the entries of a journal send, in turn
abbrev pub sent_in : List Entry → List Envelope
sent_in journal = flat_map (λ (e : Entry). flat_map sent_by e.acts) journal

-- ---- what holds of a server

-- What holds of each server that the calls make, by what its vault shows: the vault is of this server and these sizes, its notes are
-- those of what the server keeps, what was said to other servers may be said, and where the vault tells what it holds, all is as the
-- journal says, after a crash too.
pub record IsConsistent {V : Type 0} (G : Ghosts V) (n : NodeState V) : Type 0 where
  pub number : G.server n.kept.vault ≡ n.kept.server
  pub all : G.servers n.kept.vault ≡ n.kept.servers
  pub sizes : n.kept.sizes ≡ G.volume n.kept.vault
  pub ready : IsReady (length n.journal) (G.serves n.kept.vault) n.kept
  pub noted : IsNoted G n.kept
  pub said : AllByRecursion (λ (x : Envelope). MaySay x.message) (sent_in n.journal)
  pub right : IsTrue (G.tells n.kept.vault) → IsRight (start_in G n) (G.held n.kept.vault) n
  pub durable : IsTrue (G.tells n.kept.vault) → IsDurable (state_of (start_in G n) n.journal) (G.may_leave n.kept.vault)

-- A server that did nothing yet: its opening is its vault as it is, and of what was there before it keeps what the notes keep, and nothing
-- else of a client.
pub record IsNewNode {V : Type 0} (G : Ghosts V) (before : V) (n : NodeState V) : Type 0 where
  pub number : n.kept.server ≡ G.server before
  pub all : n.kept.servers ≡ G.servers before
  pub sizes : n.kept.sizes ≡ G.volume n.kept.vault
  pub opening : n.opening.vault.value ≡ n.kept.vault
  pub journal : n.journal ≡ []
  pub found : KeepsFound (G.tells before) (G.held before) n.kept

-- it has its cause in that state, which names a read that failed only where the reply shows it and the count of faults rose
abbrev pub HasCause : ℕ → ℕ → State → Entry → Type 0
HasCause before now s e = (failed : Bool) × IsAnsweredEntry failed s e × (failed ≡ true → Rose before now × (is_read_fault e.reply ≡ true))

-- One entry more: this event, which is this among the calls of its client, this reply, and what came about, with its cause where
-- the vault tells. Each call that is not astray has a reply, each event by which the server goes down, and nothing else. A
-- vault that failed or was stopped has its cause, and just then the server is down; only then it says so, and it does not say that
-- its journal is full. Where it goes down the reply says nothing else. Of any vault the
-- count of faults never falls; it rises where the reply shows that a read failed, and else it stays, but where the server goes
-- down.
pub record Answered (o : Option CallOrder) (tells : Bool) (s : State) (before after : List Entry) (e : Event) (r : Option Reply) (faults_before faults_now : ℕ) (allowance : Allowance) (is_down : Bool) : Type 0 where
  pub acts : List Act
  pub entry : after ≡ before ++ (record { event = e; reply = r; acts = acts }) ∷ []
  pub cause : IsTrue tells → HasCause faults_before faults_now s (record { event = e; reply = r; acts = acts })
  pub replies : is_some r ≡ (is_answered o || is_down)
  pub later : faults_before ≤ faults_now
  pub told : is_fault_now o r ≡ true → Rose faults_before faults_now
  pub still : (is_fault_now o r || is_down) ≡ false → faults_now ≡ faults_before
  pub down : is_down ≡ list_any is_stop acts
  pub said_down : says_shut r ≡ true → (is_down ≡ true) × (r ≡ Some (reply.Refused refusal.Down))
  pub halts : is_down ≡ true → r ≡ Some (reply.Refused refusal.Down)
  pub causes : HaveCauses faults_before faults_now allowance acts

-- Memory was wanting: there is no entry more, sessions and clock are as before, and the vault holds, counts and allows what it
-- did.
pub record HasNoEntry {V : Type 0} (G : Ghosts V) (old new : NodeState V) : Type 0 where
  pub journal : new.journal ≡ old.journal
  pub up : new.kept.is_down ≡ old.kept.is_down
  pub sessions : new.kept.sessions ≡ old.kept.sessions
  pub clock : new.kept.clock ≡ old.kept.clock
  pub vault : IsUncounted G old.kept.vault new.kept.vault

-- a journal with room for one entry, and one that is full
abbrev pub HasRoom : {V : Type 0} → NodeState V → Type 0
HasRoom n = length n.journal < entries_limit

abbrev pub IsFull : {V : Type 0} → NodeState V → Type 0
IsFull n = entries_limit ≤ length n.journal
