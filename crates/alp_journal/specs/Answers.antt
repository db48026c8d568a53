-- Why a new call is answered as it is. The refusals are tried in order: the part, the shape of the call, its locks, what one
-- thread is answered, and the counts; each comes just where its cause stands. That a read of the device failed shows in no
-- journal: a file call of a part that runs may be answered so, and a vote may be against the commit for it.
use Rattle.std.specs.Prelude.{◌≡◌, ℕ, ◌+◌, ◌-◌, Bool, true, false, not, ◌==◌, ◌&&◌, nat_lt, nat_le, List, [], ◌∷◌, ◌++◌, filter, flat_map, Option, None, Some, is_some, if◌then◌else◌, length, ◌⊎◌}
use Rattle.std.specs.Option.{option_or}
use Rattle.std.specs.Ordering.{is_lt}
use Rattle.std.specs.BTreeMap.Range.{IsLeBy}
use Rattle.alp_base.specs.declared.ids.FileId.{FileId}
use Rattle.alp_base.specs.declared.ids.JoinNo.{JoinNo}
use Rattle.alp_base.specs.declared.ids.TransId.{TransId}
use Rattle.alp_base.specs.declared.key.Resource.{Resource}
use Rattle.alp_base.specs.declared.choices.Choice.{Choice}
use Rattle.alp_base.specs.declared.choices.Choice.TheVariants as choice
use Rattle.alp_base.specs.Orders.{trans_cmp, resource_cmp}
use Rattle.alp_files.specs.Holdings.{agree_held}
use Rattle.alp_files.specs.declared.call.Call.{Call}
use Rattle.alp_files.specs.declared.call.Call.TheVariants as call
use Rattle.alp_files.specs.declared.reply.Reply.{Reply}
use Rattle.alp_files.specs.declared.reply.Reply.TheVariants as reply
use Rattle.alp_files.specs.declared.refusal.Refusal.{Refusal}
use Rattle.alp_files.specs.declared.refusal.Refusal.TheVariants as refusal
use Rattle.alp_files.specs.declared.refusal.What.TheVariants as what
use Rattle.alp_files.specs.declared.refusal.Why.{Why}
use Rattle.alp_files.specs.declared.refusal.Cause.{Cause}
use Rattle.alp_files.specs.declared.refusal.Cause.TheVariants as cause
use Rattle.alp_files.specs.Passing.{is_passing}
use Rattle.alp_files.specs.Act.{Answer, id_in}
use Rattle.alp_files.specs.Counts.{used_of, file_count_of, owner_count_of}
use Rattle.alp_journal.specs.declared.event.Event.{Event}
use Rattle.alp_journal.specs.declared.event.Event.TheVariants as event
use Rattle.alp_journal.specs.declared.entry.Entry.{Entry}
use Rattle.alp_journal.specs.Along.{Where}
use Rattle.alp_journal.specs.Ids.{same_trans}
use Rattle.alp_journal.specs.Coordinator.{Fate, Running, Finishing, Committed, Forgotten, is_running}
use Rattle.alp_journal.specs.Participant.{Phase, Joining, Active, Ready, live_in}
use Rattle.alp_journal.specs.Holder.{Holder, Life, answer_in, held_for}
use Rattle.alp_journal.specs.Desk.{Waiting, file_trans, waiting_of, waiting_at}
use Rattle.alp_journal.specs.Counts.{log_need, with_resources, request_in}
use Rattle.alp_journal.specs.State.{State, is_trans_drawn, is_other_server, join_for}
use Rattle.alp_journal.specs.Moves.{is_new, next_trans, next_file, is_of_no_file, stops}
use Rattle.alp_journal.specs.Laws.{IsFree, ending_of}
use Rattle.alp_journal.specs.Messages.{why_not_own}
use Rattle.alp_files.specs.Needs.{changed, need_of, is_leader, is_owner, made_of}
use Rattle.alp_base.specs.declared.key.Key.{Key}

-- ---- the part

-- what a client has here of a transaction
pub data Part : Type 0 where
  NoPart AtJoining AtWork AtFinish AtReady : Part
  AtEnd : Cause → Part

abbrev pub ended_part : Option Cause → Part
ended_part None = NoPart
ended_part (Some c) = AtEnd c

abbrev pub own_part : ℕ → Option Cause → Fate → Part
own_part client dead (Running c js) = if c == client then AtWork else NoPart
own_part client dead (Finishing c js vs) = if c == client then AtFinish else NoPart
own_part client dead f = ended_part dead

abbrev pub phase_part : Phase → Part
phase_part (Joining t client who) = AtJoining
phase_part (Active t client who) = AtWork
phase_part (Ready t client ts) = AtReady
phase_part p = NoPart

abbrev pub join_part : State → Option Cause → Option JoinNo → Part
join_part s dead None = ended_part dead
join_part s dead (Some j) = phase_part (s.phases j)

abbrev pub part_at : State → ℕ → TransId → Part
part_at s client t = if t.server == s.holder.server then own_part client (s.desk.dead client t) (s.fates t) else join_part s (s.desk.dead client t) (join_for s client t)

-- how a call on a part is refused at once, if it is
abbrev pub at_part : Bool → Part → Option Refusal
at_part busy NoPart = Some refusal.UnknownTrans
at_part busy (AtEnd c) = Some (refusal.Aborted c)
at_part busy AtFinish = Some refusal.Finishing
at_part busy AtReady = Some refusal.Finishing
at_part busy AtJoining = Some refusal.NotYet
at_part busy AtWork = if busy then Some refusal.NotYet else None

abbrev pub part_refusal : State → ℕ → TransId → Option Refusal
part_refusal s client t = at_part (is_some (waiting_of s.desk client t)) (part_at s client t)

-- ---- the shape of a call

abbrev pub if_over : Bool → Refusal → Option Refusal
if_over b r = if b then Some r else None

-- an open that the part does not have, or has not for change
abbrev pub open_reply : Option Reply → Option Refusal
open_reply (Some (reply.Refused refusal.UnknownOpen)) = Some refusal.UnknownOpen
open_reply (Some (reply.Refused refusal.ReadOnlyOpen)) = Some refusal.ReadOnlyOpen
open_reply r = None

abbrev pub open_refusal : State → Life → Call → Option Refusal
open_refusal s l c = open_reply (answer_in s.holder l (record { call = c; reply = reply.Plain })).reply

abbrev pub shape_refusal : State → Life → Call → Option Refusal
shape_refusal s l (call.CreateFile t start c) = option_or (if_over (nat_lt 4096 start.size) (refusal.TooMany what.Pages 4096)) (if_over (nat_le 64 (length l.own.opens)) (refusal.TooMany what.Opens 64))
shape_refusal s l (call.OpenFile t f access mode c) = option_or (if_over (is_of_no_file s (call.OpenFile t f access mode c) (reply.Refused refusal.UnknownFile)) refusal.UnknownFile) (if_over (nat_le 64 (length l.own.opens)) (refusal.TooMany what.Opens 64))
shape_refusal s l (call.ReadPages t n r mode c) = option_or (if_over (nat_lt 16 r.count) (refusal.TooMany what.Run 16)) (open_refusal s l (call.ReadPages t n r mode c))
shape_refusal s l (call.WritePages t n r pages c) = option_or (if_over (nat_lt 16 r.count) (refusal.TooMany what.Run 16)) (open_refusal s l (call.WritePages t n r pages c))
shape_refusal s l (call.LockPages t n r mode c) = option_or (if_over (nat_lt 16 r.count) (refusal.TooMany what.Run 16)) (open_refusal s l (call.LockPages t n r mode c))
shape_refusal s l (call.SetSize t n size c) = option_or (if_over (nat_lt 4096 size) (refusal.TooMany what.Pages 4096)) (open_refusal s l (call.SetSize t n size c))
shape_refusal s l (call.CloseFile t n) = open_refusal s l (call.CloseFile t n)
shape_refusal s l (call.DeleteFile t n c) = open_refusal s l (call.DeleteFile t n c)
shape_refusal s l (call.ReadProps t n) = open_refusal s l (call.ReadProps t n)
shape_refusal s l (call.WriteProps t n change c) = open_refusal s l (call.WriteProps t n change c)
shape_refusal s l c = None

-- ---- locks

abbrev pub choice_of : Call → Option Choice
choice_of (call.CreateFile t start c) = Some c
choice_of (call.OpenFile t f access mode c) = Some c
choice_of (call.DeleteFile t n c) = Some c
choice_of (call.ReadPages t n r mode c) = Some c
choice_of (call.WritePages t n r pages c) = Some c
choice_of (call.LockPages t n r mode c) = Some c
choice_of (call.SetSize t n size c) = Some c
choice_of (call.WriteProps t n change c) = Some c
choice_of (call.ReadOwner t name c) = Some c
choice_of (call.MakeOwner t name quota create c) = Some c
choice_of (call.SetQuota t name quota c) = Some c
choice_of c = None

-- a created file is locked too
abbrev pub more_locks : Call → ℕ
more_locks (call.CreateFile t start c) = 1
more_locks c = 0

abbrev pub locks_then : State → TransId → Life → Call → ℕ
locks_then s t l c = length (with_resources (request_in s.holder c (Some l)) (s.locked t)) + more_locks c

abbrev pub lock_refusal : State → TransId → Life → Call → Option Refusal
lock_refusal s t l c =
    option_or (if_over (nat_lt 1024 (locks_then s t l c)) (refusal.TooMany what.Locks 1024))
    (if_over (nat_lt s.sizes.area (log_need (changed l.edits) (locks_then s t l c))) (refusal.LogFull s.sizes.area (log_need (changed l.edits) (locks_then s t l c))))

-- another part's lock on the resource disagrees with what this part would hold there for the call
pub record IsInWay (s : Holder) (t : TransId) (l : Life) (c : Call) (on : Resource) (holder : TransId) : Type 0 where
  pub life : Life
  pub live : s.lives holder ≡ Some life
  pub other : same_trans holder t ≡ false
  pub disagree : agree_held (life.held on) (held_for s l c on) ≡ false

-- the least transaction that is in the way on the first resource where there is one
pub record IsLeastHolder (s : Holder) (t : TransId) (l : Life) (c : Call) (holder : TransId) : Type 0 where
  pub on : Resource
  pub stands : IsInWay s t l c on holder
  pub least : (u : TransId) → IsInWay s t l c on u → IsLeBy trans_cmp holder u
  pub first : (r : Resource) (u : TransId) → is_lt (resource_cmp r on) ≡ true → IsInWay s t l c r u → ⊥

-- ---- counts

-- the places that all live parts need
abbrev pub need_at : State → Option Life → ℕ
need_at s None = 0
need_at s (Some l) = need_of s.holder.cells l.edits

abbrev pub needs_of_all : State → List TransId → ℕ
needs_of_all s [] = 0
needs_of_all s (t ∷ ts) = need_at s (s.holder.lives t) + needs_of_all s ts

abbrev pub trans_live : Phase → List TransId
trans_live (Active t client who) = t ∷ []
trans_live (Ready t client ts) = t ∷ []
trans_live p = []

abbrev pub all_live : State → List TransId
all_live s = filter (λ t. is_running (s.fates t)) s.begun ++ flat_map (λ j. trans_live (s.phases j)) s.joined

abbrev pub left_places : State → ℕ
left_places s = s.sizes.home - 257 - used_of s.holder.cells - needs_of_all s (all_live s)

abbrev pub rise : State → Life → Answer → ℕ
rise s l a = need_of s.holder.cells (l.edits ++ a.edits) - need_of s.holder.cells l.edits

abbrev pub made_at : (Key → Bool) → State → Option Life → ℕ
made_at p s None = 0
made_at p s (Some l) = made_of p s.holder.cells l.edits

abbrev pub made_by_all : (Key → Bool) → State → List TransId → ℕ
made_by_all p s [] = 0
made_by_all p s (t ∷ ts) = made_at p s (s.holder.lives t) + made_by_all p s ts

-- those that are committed and those that live parts made, with what the call makes, pass the limit
abbrev pub is_past_limit : (Key → Bool) → State → Life → Answer → (stand limit : ℕ) → Bool
is_past_limit p s l a stand limit =
    nat_lt (made_of p s.holder.cells l.edits) (made_of p s.holder.cells (l.edits ++ a.edits))
    && nat_lt limit (stand + made_by_all p s (all_live s) + (made_of p s.holder.cells (l.edits ++ a.edits) - made_of p s.holder.cells l.edits))

abbrev pub many_refusal : State → Life → Answer → Option Refusal
many_refusal s l a =
    option_or (if_over (is_past_limit is_leader s l a (file_count_of s.holder.cells) 4096) (refusal.TooMany what.Files 4096))
    (if_over (is_past_limit is_owner s l a (owner_count_of s.holder.cells) 256) (refusal.TooMany what.Owners 256))

abbrev pub count_refusal : State → TransId → Life → Call → Answer → Option Refusal
count_refusal s t l c a =
    option_or (if_over (nat_lt 256 (changed (l.edits ++ a.edits))) (refusal.TooMany what.Cells 256))
    (option_or (many_refusal s l a)
    (option_or (if_over (nat_lt (left_places s) (rise s l a)) (refusal.VolumeFull (left_places s) (rise s l a)))
    (if_over (nat_lt s.sizes.area (log_need (changed (l.edits ++ a.edits)) (locks_then s t l c))) (refusal.LogFull s.sizes.area (log_need (changed (l.edits ++ a.edits)) (locks_then s t l c))))))

-- ---- a file call

-- what one thread is answered, unless the counts refuse it
abbrev pub unless_counts : Reply → Option Refusal → Reply
unless_counts r None = r
unless_counts r (Some f) = reply.Refused f

-- under its locks a call gets what a thread gets, with the next id for a new file, or is refused for the counts
pub record IsThreads (s : State) (t : TransId) (l : Life) (c : Call) (r : Reply) : Type 0 where
  pub given : Reply
  pub own : is_passing given ≡ false
  pub right : (answer_in s.holder l (record { call = c; reply = given })).reply ≡ Some given
  pub next_id : (f : FileId) → id_in given ≡ Some f → f ≡ next_file s
  pub counted : r ≡ unless_counts given (count_refusal s t l c (answer_in s.holder l (record { call = c; reply = given })))

-- a conflict makes the call wait, or refuses it with the holder in the way
pub data IsLocked (s : State) (t : TransId) (l : Life) (c : Call) : Reply → Type 0 where
  conflict : (holder : TransId) → choice_of c ≡ Some choice.Fail → IsLeastHolder s.holder t l c holder → IsLocked s t l c (reply.Refused (refusal.LockConflict holder))
  waits : choice_of c ≡ Some choice.Wait → (IsFree s.holder t l c → ⊥) → IsLocked s t l c (reply.Refused refusal.NotYet)
  performed : (r : Reply) → IsFree s.holder t l c → IsThreads s t l c r → IsLocked s t l c r

-- a read of the device failed, or it is answered as it is else
abbrev pub OrFault : Bool → Reply → Type 0 → Type 0
OrFault failed r P = ((failed ≡ true) × (r ≡ reply.Refused refusal.ReadFault)) ⊎ P

-- the first refusal, or what comes after them
abbrev pub First : Option Refusal → Reply → Type 0 → Type 0
First None r P = P
First (Some f) r P = r ≡ reply.Refused f

abbrev pub IsFileAnswer : State → TransId → Call → Reply → Option Life → Type 0
IsFileAnswer s t c r None = ⊥
IsFileAnswer s t c r (Some l) = First (option_or (shape_refusal s l c) (lock_refusal s t l c)) r (IsLocked s t l c r)

-- ---- a Finish, a Join, a Begin and an Outcome

-- a Finish with commit: with joins it waits for their votes; else it is committed at the next time, or this server's own
-- vote is against it
abbrev pub voted_reply : State → TransId → Option Why → Reply
voted_reply s t None = reply.Committed (record { ts = s.holder.clock + 1; trans = t })
voted_reply s t (Some w) = reply.Refused (refusal.Aborted (cause.Voted s.holder.server w))

abbrev pub finish_reply : Bool → State → TransId → Fate → Reply
finish_reply failed s t (Running client []) = voted_reply s t (why_not_own failed s t)
finish_reply failed s t f = reply.Refused refusal.NotYet

-- at another server than the coordinator it is unknown; an abort is not kept from a part whose call waits
abbrev pub IsFinishAnswer : Bool → State → ℕ → TransId → Bool → Reply → Type 0
IsFinishAnswer failed s client t commit r =
    Where (t.server == s.holder.server)
    (First (at_part (commit && is_some (waiting_of s.desk client t)) (part_at s client t)) r (r ≡ (if commit then finish_reply failed s t (s.fates t) else reply.Refused (refusal.Aborted cause.Asked))))
    (r ≡ reply.Refused refusal.UnknownTrans)

-- what counts towards the transactions of a server
abbrev pub is_counted : Fate → Bool
is_counted (Running client js) = true
is_counted (Finishing client js vs) = true
is_counted (Committed stamp (j ∷ js) ds) = true
is_counted f = false

abbrev pub count_of_transactions : State → ℕ
count_of_transactions s = length (filter (λ t. is_counted (s.fates t)) s.begun) + length (filter (λ j. is_some (live_in (s.phases j))) s.joined)

abbrev pub too_many : State → Option Refusal
too_many s = if_over (nat_le 64 (count_of_transactions s)) (refusal.TooMany what.Transactions 64)

abbrev pub join_reply : Bool → Part → Reply
join_reply busy AtWork = if busy then reply.Refused refusal.NotYet else reply.Joined
join_reply busy AtFinish = reply.Refused refusal.Finishing
join_reply busy AtReady = reply.Refused refusal.Finishing
join_reply busy p = reply.Refused refusal.NotYet

abbrev pub is_no_part : Part → Bool
is_no_part NoPart = true
is_no_part (AtEnd c) = true
is_no_part p = false

-- a part is made where there is none, at another server of the run than the coordinator
abbrev pub IsJoinAnswer : State → ℕ → TransId → Reply → Type 0
IsJoinAnswer s client t r =
    Where (is_no_part (part_at s client t) && not (is_other_server s t.server)) (r ≡ reply.Refused refusal.UnknownTrans)
    (Where (is_no_part (part_at s client t)) (First (too_many s) r (r ≡ reply.Refused refusal.NotYet)) (r ≡ join_reply (is_some (waiting_of s.desk client t)) (part_at s client t)))

abbrev pub IsBeginAnswer : State → Reply → Type 0
IsBeginAnswer s r = First (too_many s) r (r ≡ reply.Begun (next_trans s))

abbrev pub IsOutcomeAnswer : State → TransId → Reply → Type 0
IsOutcomeAnswer s t r = Where (is_trans_drawn s t) (r ≡ reply.Ended (ending_of s t (s.fates t))) (r ≡ reply.Refused refusal.UnknownTrans)

-- ---- a Collect

-- the waiting Finish of a transaction
abbrev pub finish_collected : Option Cause → Fate → Reply
finish_collected dead (Committed stamp js ds) = reply.Committed stamp
finish_collected dead (Forgotten stamp js) = reply.Committed stamp
finish_collected (Some c) f = reply.Refused (refusal.Aborted c)
finish_collected None f = reply.Refused refusal.NotYet

abbrev pub join_collected : Part → Reply
join_collected AtWork = reply.Joined
join_collected (AtEnd c) = reply.Refused (refusal.Aborted c)
join_collected p = reply.Refused refusal.NotYet

-- a granted call is performed; one that is not granted goes on waiting; that of a dead part is answered with its cause
abbrev pub IsFileCollected : Bool → State → TransId → Waiting → Reply → Option Cause → Option Life → Type 0
IsFileCollected failed s t w r (Some c) l = r ≡ reply.Refused (refusal.Aborted c)
IsFileCollected failed s t w r None None = ⊥
IsFileCollected failed s t w r None (Some l) = Where w.is_granted (OrFault failed r (IsThreads s t l w.call r)) (r ≡ reply.Refused refusal.NotYet)

abbrev pub IsFileCollectedOf : Bool → State → ℕ → Waiting → Reply → Option TransId → Type 0
IsFileCollectedOf failed s client w r None = ⊥
IsFileCollectedOf failed s client w r (Some t) = IsFileCollected failed s t w r (s.desk.dead client t) (s.holder.lives t)

abbrev pub IsCollectedOf : Bool → State → ℕ → Waiting → Reply → Call → Type 0
IsCollectedOf failed s client w r (call.Finish t commit) = r ≡ finish_collected (s.desk.dead client t) (s.fates t)
IsCollectedOf failed s client w r (call.Join t) = r ≡ join_collected (part_at s client t)
IsCollectedOf failed s client w r c = IsFileCollectedOf failed s client w r (file_trans c)

abbrev pub IsCollected : Bool → State → ℕ → Reply → Option Waiting → Type 0
IsCollected failed s client r None = r ≡ reply.Refused refusal.UnknownTrans
IsCollected failed s client r (Some w) = IsCollectedOf failed s client w r w.call

-- ---- a call

abbrev pub IsFileOf : Bool → State → ℕ → Call → Reply → Option TransId → Type 0
IsFileOf failed s client c r None = ⊥
IsFileOf failed s client c r (Some t) = First (part_refusal s client t) r (OrFault failed r (IsFileAnswer s t c r (s.holder.lives t)))

abbrev pub IsAnswer : Bool → State → ℕ → Call → Reply → Type 0
IsAnswer failed s client (call.Begin seen) r = IsBeginAnswer s r
IsAnswer failed s client (call.Join t) r = IsJoinAnswer s client t r
IsAnswer failed s client (call.Finish t commit) r = IsFinishAnswer failed s client t commit r
IsAnswer failed s client (call.Outcome t) r = IsOutcomeAnswer s t r
IsAnswer failed s client (call.Collect n) r = IsCollected failed s client r (waiting_at s.desk client n)
IsAnswer failed s client (call.Hello name) r = r ≡ reply.Welcome s.ids.epoch
IsAnswer failed s client c r = IsFileOf failed s client c r (file_trans c)

-- each new call is answered so, and so is none other, where nothing stopped
abbrev pub AnswersCall : Bool → State → Event → Option Reply → Type 0
AnswersCall failed s (event.Call client epoch number c) (Some r) = Where (is_new s client epoch number) (IsAnswer failed s client c r) (Unit {0})
AnswersCall failed s e r = Unit {0}

abbrev pub AnswersRight : Bool → State → Entry → Type 0
AnswersRight failed s e = Where (stops e) (Unit {0}) (AnswersCall failed s e.event e.reply)
