-- What the lines of a script do to the clients and the servers of a run.
use Rattle.std.specs.Prelude.{◌≡◌, ◌≢◌, ◌⊎◌, ℕ, ◌+◌, ◌<◌, ◌≤◌, ◌^◌, List, ◌∷◌, [], ◌++◌, length, map as list_map, Option, Vec}
use Rattle.std.specs.Global.{Global}
use Rattle.std.specs.List.{AllByRecursion}
use Rattle.alp_base.specs.declared.ids.TransId.{TransId}
use Rattle.alp_journal.specs.declared.log.Item.{Item}
use Rattle.alp_journal.specs.declared.log.Mark.TheVariants as mark
use Rattle.alp_history.specs.Items as items
use Rattle.alp_history.specs.RunLogs.{item_of}
use Rattle.alp_lines.specs.declared.line.Line.{Line}
use Rattle.alp_script.specs.declared.numbered.NumberedLine.{NumberedLine}
use Rattle.alp_session.specs.declared.frames.Addressed.{Addressed}
use Rattle.alp_session.specs.Frames.{mark_of, IsOfFrame}
use Rattle.alp_session.specs.Crowd.{Crowd}
use Rattle.alp_session.specs.Crowds.{client_at, declares, hears}
use Rattle.alp_session.specs.declared.waiting.Next.{Next}
use Rattle.alp_session.specs.declared.waiting.Next.TheVariants as next
use Rattle.alp_vault.specs.declared.vault.Vault.{Ghosts}
use Rattle.alp_course.specs.Courses.{Occurrence, at}
use Rattle.alp_course.specs.Happens.{sent_it}
use Rattle.alp_lines.specs.Named.{client_named}
use Rattle.alp_course.specs.Plays.{Due, to_send, Sends, SendsMore, GivesLine, IsCut, PlaysOwn, PlaysLine, BeginsOwn, BeginsLine}
use Rattle.alp_course.specs.Turns.{Turn, lists_in, own_in, turns_text}
use Rattle.alp_cluster.specs.Clients.{InStep, IsShort, HasSaid}
use Rattle.alp_cluster.specs.Fills.{IsEndFor}
use Rattle.alp_cluster.specs.Stations.{Go, EndsFor, course_of, state_at}
use Rattle.alp_cluster.specs.declared.fault.RunFault.{RunFault}
use Rattle.alp_cluster.specs.declared.fault.RunFault.TheVariants as fault
use Rattle.alp_cluster.specs.declared.stations.Stations.{Stations}

-- only a line that sends a frame of its own comes to a collect
abbrev pub IsOwnNext : Line → Next → Type 0
IsOwnNext l next.Collect = mark_of l ≡ mark.Own
IsOwnNext l n = Unit {0}

-- One item of a client: the frame went out, its entry stands last in the journal of its server, if there is one, and the client heard
-- what it was handed.
pub record Exchanged {V : Type 0} (G : Ghosts V) (old new : Crowd) (before after : Stations V) (k : ℕ) (l : NumberedLine) (now : Next) (frame : Addressed) (behind : Next) (x : Item) : Type 0 where
  pub step : InStep G new after
  pub goes : Go G (at x.server (sent_it k x) ∷ []) before after
  pub number : x.line ≡ l.number
  pub sent : IsOfFrame l.line frame x
  pub heard : hears old k l.line now frame x.reply ≡ (new, behind)
  pub said : (xs : List items.Item) → IsShort xs → HasSaid (state_at before) k (client_at old k) xs → HasSaid (state_at after) k (client_at new k) (xs ++ item_of x ∷ [])

-- what a client said before and behind further items
abbrev pub SaysOn : {V : Type 0} → (old new : Crowd) (before after : Stations V) → ℕ → List Item → Type 0
SaysOn old new before after k xs =
    (front : List items.Item) → length front + length xs + 4 < 2 ^ 32 → HasSaid (state_at before) k (client_at old k) front → HasSaid (state_at after) k (client_at new k) (front ++ list_map item_of xs)

-- Of a line's items, each with what came of it; and behind them its client's transaction may time out. `now` is what the client does
-- first.
pub record DidLine {V : Type 0} (G : Ghosts V) (servers : ℕ) (old new : Crowd) (before after : Stations V) (k : ℕ) (l : NumberedLine) (now : Next) (xs : List Item) (t : Option (ℕ × TransId)) : Type 0 where
  pub step : InStep G new after
  pub hs : List Occurrence
  pub goes : Go G hs before after
  pub number : AllByRecursion (λ (x : Item). x.line ≡ l.number) xs
  pub sends : Sends servers old k l.line now xs t hs new
  pub said : SaysOn old new before after k xs
  pub others : (j : ℕ) → j ≢ k → client_at new j ≡ client_at old j

-- a line's first items, each with what came of it, and more to do for which the fault is the end
pub record DidOfLine {V : Type 0} (G : Ghosts V) (f : RunFault) (servers : ℕ) (old new : Crowd) (before after : Stations V) (k : ℕ) (l : NumberedLine) (now : Next) (xs : List Item) : Type 0 where
  pub at_end : Stations V
  pub hs : List Occurrence
  pub due : Due
  pub goes : Go G hs before at_end
  pub ends : IsEndFor f (course_of G at_end) due
  pub left : EndsFor G f due at_end after
  pub number : AllByRecursion (λ (x : Item). x.line ≡ l.number) xs
  pub sends : SendsMore servers old k l.line now xs hs due new
  pub said : SaysOn old new before at_end k xs
  pub others : (j : ℕ) → j ≢ k → client_at new j ≡ client_at old j

-- what a line that is no client's adds: what it declares and sets, and what occurs by it
pub record AddsEvents {V : Type 0} (G : Ghosts V) (servers : ℕ) (old new : Crowd) (before after : Stations V) (l : Line) : Type 0 where
  pub hs : List Occurrence
  pub goes : Go G hs before after
  pub gives : GivesLine servers old l hs
  pub declared : new ≡ declares old l

-- some of it, and the rest could not come for that fault
pub record AddsSomeEvents {V : Type 0} (G : Ghosts V) (f : RunFault) (servers : ℕ) (old new : Crowd) (before after : Stations V) (l : Line) : Type 0 where
  pub at_end : Stations V
  pub hs : List Occurrence
  pub due : Due
  pub goes : Go G hs before at_end
  pub ends : IsEndFor f (course_of G at_end) due
  pub left : EndsFor G f due at_end after
  pub begins : IsCut (GivesLine servers old l) hs due
  pub declared : new ≡ declares old l

-- what each client said before a line and behind it
abbrev pub SayOn : {V : Type 0} → (old new : Crowd) (before after : Stations V) → List Turn → Type 0
SayOn old new before after turns =
    (k : ℕ) (front : List items.Item) → length front + 10 < 2 ^ 32 → HasSaid (state_at before) k (client_at old k) front → HasSaid (state_at after) k (client_at new k) (front ++ list_map item_of (own_in k turns))

-- what a line adds to the lists of the clients and to the report, and what occurs by it, but for what is carried behind it
pub record PlaysOn {V : Type 0} (G : Ghosts V) (servers : ℕ) (old new : Crowd) (before after : Stations V) (l : NumberedLine) (lists_before lists_after : List (Vec Item Global)) (text_before text_after : List ℕ) : Type 0 where
  pub step : InStep G new after
  pub turns : List Turn
  pub hs : List Occurrence
  pub goes : Go G hs before after
  pub plays : PlaysOwn servers old l (client_named l.line) turns hs new
  pub places : length lists_after ≡ length lists_before
  pub lists : (k : ℕ) → lists_in lists_after k ≡ lists_in lists_before k ++ own_in k turns
  pub few : (k : ℕ) → length (own_in k turns) ≤ 5
  pub said : SayOn old new before after turns
  pub text : text_after ≡ text_before ++ turns_text turns

-- what a line adds to the lists of the clients and to the report, and what occurs by it
pub record Adds {V : Type 0} (G : Ghosts V) (servers : ℕ) (old new : Crowd) (before after : Stations V) (l : NumberedLine) (lists_before lists_after : List (Vec Item Global)) (text_before text_after : List ℕ) : Type 0 where
  pub step : InStep G new after
  pub turns : List Turn
  pub hs : List Occurrence
  pub goes : Go G hs before after
  pub plays : PlaysLine servers old l turns hs new
  pub places : length lists_after ≡ length lists_before
  pub lists : (k : ℕ) → lists_in lists_after k ≡ lists_in lists_before k ++ own_in k turns
  pub few : (k : ℕ) → length (own_in k turns) ≤ 5
  pub said : SayOn old new before after turns
  pub text : text_after ≡ text_before ++ turns_text turns

-- the report has the lines of these turns, and of the last one maybe none
pub record PrintsTo (turns : List Turn) (text_before text_after : List ℕ) : Type 0 where
  pub told : List Turn
  pub untold : List Turn
  pub are : turns ≡ told ++ untold
  pub few : length untold ≤ 1
  pub text : text_after ≡ text_before ++ turns_text told

-- some of it, and the rest could not come for that fault; each item of it stands in its client's list, and its line in the report, or no line does
pub record AddsSome {V : Type 0} (G : Ghosts V) (f : RunFault) (servers : ℕ) (old new : Crowd) (before after : Stations V) (l : NumberedLine) (lists_before lists_after : List (Vec Item Global)) (text_before text_after : List ℕ) : Type 0 where
  pub turns : List Turn
  pub at_end : Stations V
  pub hs : List Occurrence
  pub due : Due
  pub goes : Go G hs before at_end
  pub ends : IsEndFor f (course_of G at_end) due
  pub left : EndsFor G f due at_end after
  pub begins : BeginsLine servers old l turns hs due new
  pub places : length lists_after ≡ length lists_before
  pub lists : (k : ℕ) → lists_in lists_after k ≡ lists_in lists_before k ++ own_in k turns
  pub few : (k : ℕ) → length (own_in k turns) ≤ 5
  pub said : SayOn old new before at_end turns
  pub text : PrintsTo turns text_before text_after

-- of a line that is not over: its own has no line in the report
pub record BeginsOn {V : Type 0} (G : Ghosts V) (f : RunFault) (servers : ℕ) (old new : Crowd) (before after : Stations V) (l : NumberedLine) (lists_before lists_after : List (Vec Item Global)) (text_before text_after : List ℕ) : Type 0 where
  pub turns : List Turn
  pub at_end : Stations V
  pub hs : List Occurrence
  pub due : Due
  pub goes : Go G hs before at_end
  pub ends : IsEndFor f (course_of G at_end) due
  pub left : EndsFor G f due at_end after
  pub begins : BeginsOwn servers old l (client_named l.line) turns hs due new
  pub places : length lists_after ≡ length lists_before
  pub lists : (k : ℕ) → lists_in lists_after k ≡ lists_in lists_before k ++ own_in k turns
  pub one : length turns ≤ 1
  pub few : (k : ℕ) → length (own_in k turns) ≤ 5
  pub said : SayOn old new before at_end turns
  pub text : text_after ≡ text_before

-- a frame of a client was to go out, for which the fault is the end
pub record ExchangesNone {V : Type 0} (G : Ghosts V) (f : RunFault) (client : ℕ) (frame : Addressed) (before after : Stations V) : Type 0 where
  pub ends : IsEndFor f (course_of G before) (to_send client frame)
  pub left : EndsFor G f (to_send client frame) before after

-- The frame did not go out, and there is no item more; or it went out and has its item, and memory was wanting for what the client makes of the
-- reply.
abbrev pub SendsNot : {V : Type 0} → Ghosts V → RunFault → (old : Crowd) (before after : Stations V) → ℕ → NumberedLine → Next → Addressed → (items_before items_after : List Item) → Type 0
SendsNot G f old before after k l now frame items_before items_after =
    ((items_after ≡ items_before) × ExchangesNone G f k frame before after)
    ⊎ ((f ≡ fault.OutOfMemory) × (known : Crowd) × (behind : Next) × (x : Item) × (items_after ≡ items_before ++ x ∷ []) × Exchanged G old known before after k l now frame behind x)
