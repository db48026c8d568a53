-- One step of a server.
use Rattle.std.specs.Prelude.{◌≡◌, ℕ, ◌+◌, ◌≤◌, ◌||◌, max, Bool, true, false, List, [], ◌∷◌, ◌++◌, Option, None, Some, is_some, IsTrue, Result, Ok, Err, IfOk, OnOk, OnErr, MatchResult}
use Rattle.std.specs.List.{list_any}
use Rattle.alp_base.specs.Allowances.{Spends}
use Rattle.alp_base.specs.Causes.{Rose}
use Rattle.alp_base.specs.declared.allowance.Allowance.{Allowance}
use Rattle.alp_base.specs.declared.ids.TransId.{TransId}
use Rattle.alp_base.specs.declared.memory.OutOfMemory.{OutOfMemory}
use Rattle.alp_files.specs.declared.call.Call.TheVariants as call
use Rattle.alp_files.specs.declared.refusal.Refusal.{Refusal}
use Rattle.alp_files.specs.declared.refusal.Refusal.TheVariants as refusal
use Rattle.alp_files.specs.declared.reply.Reply.{Reply}
use Rattle.alp_files.specs.declared.reply.Reply.TheVariants as reply
use Rattle.alp_journal.specs.declared.act.Act.{Act}
use Rattle.alp_journal.specs.declared.event.Event.{Event}
use Rattle.alp_journal.specs.declared.event.Event.TheVariants as event
use Rattle.alp_journal.specs.declared.entry.Entry.{Entry}
use Rattle.alp_journal.specs.declared.message.Message.TheVariants as msg
use Rattle.alp_journal.specs.Answered.{is_read_fault}
use Rattle.alp_journal.specs.Coordinator.{Fate, votes_in}
use Rattle.alp_journal.specs.Laws.{latest_vote}
use Rattle.alp_journal.specs.Moves.{is_stop}
use Rattle.alp_journal.specs.Account.{Account, state_of, Leads}
use Rattle.alp_vault.specs.Vault.{IsSameVault}
use Rattle.alp_vault.specs.Contents.{Contents}
use Rattle.alp_vault.specs.declared.vault.Vault.{Ghosts}
use Rattle.alp_node.specs.declared.answer.Answer.{Answer}
use Rattle.alp_node.specs.declared.server_state.ServerState.{ServerState}
use Rattle.alp_node.specs.declared.lives.Live.{Live}
use Rattle.alp_node.specs.declared.sessions.CallOrder.{CallOrder}
use Rattle.alp_node.specs.declared.sessions.CallOrder.TheVariants as order
use Rattle.alp_node.specs.declared.sessions.Turn.{Turn}
use Rattle.alp_node.specs.declared.sessions.Sessions.{Sessions}
use Rattle.alp_node.specs.Dead.{without_part}
use Rattle.alp_node.specs.Durable.{IsSaidBy, Leaves, Besides, NoOther}
use Rattle.alp_node.specs.Halts.{HaveCauses, IsUncounted, says_shut}
use Rattle.alp_node.specs.Noted.{AreNotesFor}
use Rattle.alp_node.specs.Orders.{is_answered, is_fault_now}
use Rattle.alp_node.specs.Releases.{let_go}
use Rattle.alp_node.specs.Waits.{without_calls_of}
use Rattle.alp_node.specs.Sessions.{session_at, with_session}
use Rattle.alp_node.specs.ServerState.{IsAs, IsReady}
use Rattle.alp_node.specs.Turns.{HasTurned}

-- the entry of an event with its answer
abbrev pub entry_of : Event → Answer → Entry
entry_of e a = record { event = e; reply = a.kept; acts = a.acts }

-- a time that an event brings: what the client saw that begins a transaction, of a vote, or of a commit
abbrev pub seen_in : Event → ℕ
seen_in (event.Call client epoch number (call.Begin seen)) = seen.ts
seen_in (event.Arrive from (msg.Ready t j ts)) = ts
seen_in (event.Arrive from (msg.Commit t j stamp)) = stamp.ts
seen_in _ = 0

-- with a vote comes the latest of those that its transaction has
abbrev pub seen_with : (TransId → Fate) → Event → ℕ
seen_with fates (event.Arrive from (msg.Ready t j ts)) = latest_vote ts (votes_in (fates t))
seen_with fates e = seen_in e

-- by an event the clock comes at most to one more than the greater of what it was and what comes with that
abbrev pub IsTimely : (TransId → Fate) → ℕ → Event → ℕ → Type 0
IsTimely fates before e now = now ≤ max before (seen_with fates e) + 1

-- The entry of the answered event is lawful and has its cause, the server keeps what its state says then, and the clock is no
-- later than it may be. That a read of the device failed shows in the reply, and only where the count of faults rose.
pub record Stepped {V : Type 0} (a : Account) (before now : ℕ) (held : Contents) (new : ServerState V) (e : Event) (x : Answer) : Type 0 where
  pub failed : Bool
  pub next : Account
  pub leads : Leads failed a (entry_of e x) next
  pub rose : failed ≡ true → Rose before now × (is_read_fault x.kept ≡ true)
  pub kept : IsAs next held new
  pub clock : IsTimely a.fates a.holder.clock e new.clock

-- which server it is stays as it was, and so does what its vault is; nobody adds to the allowance of that
pub record IsSeated {V : Type 0} (G : Ghosts V) (old new : ServerState V) : Type 0 where
  pub server : new.server ≡ old.server
  pub servers : new.servers ≡ old.servers
  pub sizes : new.sizes ≡ old.sizes
  pub epoch : new.epoch ≡ old.epoch
  pub same : IsSameVault G.tells G.volume G.server G.servers old.vault new.vault
  pub spends : Spends (G.allowance old.vault) (G.allowance new.vault)

-- its vault is of this server, one of so many, with these sizes
pub record IsOn {V : Type 0} (G : Ghosts V) (k : ServerState V) : Type 0 where
  pub server : G.server k.vault ≡ k.server
  pub servers : G.servers k.vault ≡ k.servers
  pub sizes : k.sizes ≡ G.volume k.vault

-- while the server is up, the notes of its vault are those of what it keeps
abbrev pub IsNoted : {V : Type 0} → Ghosts V → ServerState V → Type 0
IsNoted G k = k.is_down ≡ false → AreNotesFor k (G.held k.vault).notes

-- Of any vault: what is handed out is what the entry keeps, and each call that is not astray has a reply, each event by which the
-- server goes down, and nothing else. A vault that failed or was stopped has its cause, and just then the server is down; only
-- then it says so, and it never says that its journal is full. Where it goes down the answer says nothing else. The count of faults never falls; it rises where the answer shows that a read failed, and else it
-- stays, but where the server goes down.
pub record IsGiven (o : Option CallOrder) (before now : ℕ) (allowance : Allowance) (is_down : Bool) (a : Answer) : Type 0 where
  pub handed : a.handed ≡ a.kept
  pub replies : is_some a.kept ≡ (is_answered o || is_down)
  pub later : before ≤ now
  pub told : is_fault_now o a.kept ≡ true → Rose before now
  pub still : (is_fault_now o a.kept || is_down) ≡ false → now ≡ before
  pub down : is_down ≡ list_any is_stop a.acts
  pub said_down : says_shut a.kept ≡ true → (is_down ≡ true) × (a.kept ≡ Some (reply.Refused refusal.Down))
  pub halts : is_down ≡ true → a.kept ≡ Some (reply.Refused refusal.Down)
  pub causes : HaveCauses before now allowance a.acts

-- Where memory was wanting, the server keeps what it kept, and its vault holds, counts and allows what it did. Of any vault its
-- sessions and its clock are as before.
pub record IsStill {V : Type 0} (G : Ghosts V) (old new : ServerState V) : Type 0 where
  pub kept : (a : Account) → IsAs a (G.held old.vault) old → IsAs a (G.held new.vault) new
  pub ready : (steps : ℕ) → IsReady steps (G.serves old.vault) old → IsReady steps (G.serves new.vault) new
  pub up : new.is_down ≡ old.is_down
  pub sessions : new.sessions ≡ old.sessions
  pub clock : new.clock ≡ old.clock
  pub vault : IsUncounted G old.vault new.vault

-- What an event comes to that is this among the calls of its client: with an answer the server is a step further, and without
-- one it is as before.
pub record IsStepAs {V : Type 0} (G : Ghosts V) (o : Option CallOrder) (old new : ServerState V) (e : Event) (r : Result Answer OutOfMemory) : Type 0 where
  -- where the vault tells what it holds, by what the journal says
  pub stepped : IsTrue (G.tells old.vault) → (a : Account) → IsAs a (G.held old.vault) old → IfOk r (Stepped a (G.faults old.vault) (G.faults new.vault) (G.held new.vault) new e)
  -- and of any vault
  pub given : IfOk r (IsGiven o (G.faults old.vault) (G.faults new.vault) (G.allowance new.vault) new.is_down)
  pub ready : (steps : ℕ) → IsReady steps (G.serves old.vault) old → OnOk r (IsReady (steps + 1) (G.serves new.vault) new)
  pub noted : IsNoted G old → IsNoted G new
  pub still : OnErr r (IsStill G old new)
  pub seat : IsSeated G old new
  pub turned : new.is_down ≡ false → IfOk r (λ x. HasTurned o old new e x.kept)
  -- through the step a crash leaves what it might have left before, or all that the entry was to bring about, and nothing else where
  -- memory was wanting
  pub leaves : IsTrue (G.tells old.vault) → (a : Account) → IsAs a (G.held old.vault) old
      → MatchResult r (λ x. Leaves G old.vault new.vault (Besides G old.vault (IsSaidBy (state_of a) (entry_of e x)))) (λ _. Leaves G old.vault new.vault (Besides G old.vault NoOther))

-- what the next call of a session comes to
abbrev pub IsStep : {V : Type 0} → Ghosts V → (old new : ServerState V) → Event → Result Answer OutOfMemory → Type 0
IsStep G old new e r = IsStepAs G (Some order.Next) old new e r

-- the event was answered, and its entry stands behind these; or there was no memory, and no more than these stand
abbrev pub IsEntered : {V : Type 0} → Ghosts V → Option CallOrder → (old new : ServerState V) → (before after : List Entry) → Event → Result (Option Reply) OutOfMemory → Type 0
IsEntered G o old new before after e (Ok r) = (x : Answer) × IsStepAs G o old new e (Ok x) × (x.handed ≡ r) × (after ≡ before ++ entry_of e x ∷ [])
IsEntered G o old new before after e (Err f) = IsStepAs G o old new e (Err f) × (after ≡ before)

-- it is the next call of its client's session, behind the last one and its reply
pub record IsTurn (sessions : Sessions) (t : Turn) : Type 0 where
  pub client : t.client ≤ 16
  pub some : 1 ≤ t.client
  pub last : ℕ
  pub kept : Reply
  pub session : session_at sessions t.client ≡ Some (record { who = t.who; last = last; reply = kept })
  pub number : t.number ≡ last + 1

-- the sessions where this one has come to that call, and keeps its reply
abbrev pub counted_in : Sessions → Turn → Reply → Sessions
counted_in sessions t r = with_session sessions t.client (record { who = t.who; last = t.number; reply = r })

-- the live transaction is this client's
abbrev pub IsOf : ℕ → Option Live → Type 0
IsOf client None = ⊥
IsOf client (Some l) = l.client ≡ client

-- The server where the transaction is live no more, and others have its locks: nothing of it is to be told to the client any more,
-- whose call is answered so, and no call of its part waits.
abbrev pub ended : {V : Type 0} → ServerState V → Turn → TransId → Reply → ServerState V
ended k turn t r = record (let_go k t) {
  waits = without_calls_of turn.client t (let_go k t).waits;
  sessions = counted_in k.sessions turn r;
  dead = without_part turn.client t k.dead;
}

-- an answer with this reply, or with none
abbrev pub told_answer : Option Reply → List Act → Answer
told_answer r acts = record { kept = r; handed = r; acts = acts }

-- one that refuses
abbrev pub refused_answer : Refusal → List Act → Answer
refused_answer f acts = told_answer (Some (reply.Refused f)) acts

-- the call was refused, and the session counts it
pub record IsRefused {V : Type 0} (old new : ServerState V) (turn : Turn) (f : Refusal) (r : Result Answer OutOfMemory) : Type 0 where
  pub kept : new ≡ record old { sessions = counted_in old.sessions turn (reply.Refused f) }
  pub answer : r ≡ Ok (refused_answer f [])

-- the server is down, behind these acts
pub record IsDown {V : Type 0} (old new : ServerState V) (acts : List Act) (r : Result Answer OutOfMemory) : Type 0 where
  pub kept : new ≡ record old { is_down = true }
  pub answer : r ≡ Ok (refused_answer refusal.Down acts)
