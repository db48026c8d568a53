-- What a coordinator says of transactions, in the words of a journal.
use Rattle.std.specs.Prelude.{◌≡◌, ℕ, ◌+◌, Bool, true, false, not, ◌==◌, ◌&&◌, nat_lt, List, [], ◌∷◌, filter, flat_map, Option, None, Some, length, if◌then◌else◌, map as list_map}
use Rattle.std.specs.List.{list_all}
use Rattle.std.specs.Ordering.{is_lt}
use Rattle.std.specs.FinMap as map
use Rattle.alp_base.specs.declared.ids.JoinNo.{JoinNo}
use Rattle.alp_base.specs.declared.ids.TransId.{TransId}
use Rattle.alp_base.specs.declared.ids.Stamp.{Stamp}
use Rattle.alp_base.specs.Orders.{trans_cmp}
use Rattle.alp_files.specs.declared.refusal.Cause.TheVariants as cause
use Rattle.alp_files.specs.declared.refusal.Cause.{Cause}
use Rattle.alp_files.specs.declared.reply.Ended.{Ended as Ending}
use Rattle.alp_files.specs.declared.reply.Ended.TheVariants as ending
use Rattle.alp_journal.specs.declared.message.Message.{Message}
use Rattle.alp_journal.specs.declared.message.Message.TheVariants as msg
use Rattle.alp_journal.specs.declared.message.Envelope.{Envelope}
use Rattle.alp_journal.specs.Ids.{same_trans, is_drawn, has_join, has_server}
use Rattle.alp_journal.specs.Opening.{DecisionNote}
use Rattle.alp_journal.specs.Deeds.{Deed}
use Rattle.alp_journal.specs.Coordinator.{Fate, Undrawn, Running, Finishing, Committed, Forgotten, Ended, Vote, voted, with_vote, has_all, fate_after, fate_noted}
use Rattle.alp_journal.specs.Laws.{latest_vote}
use Rattle.alp_journal.specs.Messages.{Mail, ask_again, commit_again}
use Rattle.alp_journal.specs.Answers.{is_counted}
use Rattle.alp_coord.specs.declared.members.Member.{Member}
use Rattle.alp_coord.specs.declared.course.Course.{Course}
use Rattle.alp_coord.specs.declared.course.Stage.{Stage}
use Rattle.alp_coord.specs.declared.course.Stage.TheVariants as stage
use Rattle.alp_coord.specs.declared.begun.Settled.{Settled}
use Rattle.alp_coord.specs.declared.begun.Settled.TheVariants as settled
use Rattle.alp_coord.specs.declared.answers.Registration.{Registration}
use Rattle.alp_coord.specs.declared.answers.Registration.TheVariants as registration
use Rattle.alp_coord.specs.declared.answers.Ballot.{Ballot}
use Rattle.alp_coord.specs.declared.answers.Ballot.TheVariants as ballot
use Rattle.alp_coord.specs.declared.answers.Receipt.{Receipt}
use Rattle.alp_coord.specs.declared.answers.Receipt.TheVariants as receipt
use Rattle.alp_coord.specs.declared.decision.Decision.{Decision}
use Rattle.alp_coord.specs.declared.coordinator.Coordinator.{Coordinator}
use Rattle.alp_coord.specs.Members.{silent, joins, has_said}
use Rattle.alp_coord.specs.Begun.{settled_at, with_settled, fate_settled}
use Rattle.alp_coord.specs.Courses.{CourseMap, fate_of, is_standing}
use Rattle.alp_coord.specs.Likeness.{IsLike}

-- ---- what it is asked

abbrev pub server_of : Coordinator → ℕ
server_of s = s.server

abbrev pub epoch_of : Coordinator → ℕ
epoch_of s = s.epoch

-- how many began in this epoch
abbrev pub count_of : Coordinator → ℕ
count_of s = length s.begun

-- the one that began last, and the one that begins next
abbrev pub id_at : Coordinator → ℕ → TransId
id_at s n = record { server = s.server; epoch = s.epoch; counter = n }

abbrev pub last_id : Coordinator → TransId
last_id s = id_at s (length s.begun)

abbrev pub next_id : Coordinator → TransId
next_id s = id_at s (length s.begun + 1)

abbrev pub is_known : Coordinator → TransId → Bool
is_known s t = is_drawn s.server s.epoch (length s.begun) t.server t.epoch t.counter

abbrev pub settled_in : Coordinator → TransId → Option Settled
settled_in s t = if t.server == s.server && t.epoch == s.epoch then settled_at s.begun t.counter else None

-- of an older epoch only a decision with joins counts
abbrev pub if_standing : Option Course → Option Course
if_standing None = None
if_standing (Some c) = if is_standing c.stage c.members then Some c else None

abbrev pub is_open : Settled → Bool
is_open settled.Open = true
is_open (settled.Committed ts) = false
is_open (settled.Forgotten ts ms) = false
is_open (settled.Ended cause) = false

abbrev pub if_open : Option Settled → Option Course → Option Course
if_open None c = None
if_open (Some x) c = if is_open x then c else None

abbrev pub course_in : Coordinator → TransId → Option Course
course_in s t = if t.epoch == s.epoch then if_open (settled_in s t) (map.get s.courses t) else if_standing (map.get s.courses t)

-- it is at such a stage
abbrev pub at_stage : (Stage → Bool) → Option Course → Bool
at_stage p None = false
at_stage p (Some c) = p c.stage

abbrev pub fate_known : TransId → Option Course → Option Settled → Fate
fate_known t (Some c) x = fate_of t c
fate_known t None x = fate_settled t x

-- what a journal says of a transaction
abbrev pub fate_in : Coordinator → TransId → Fate
fate_in s t = fate_known t (course_in s t) (settled_in s t)

-- one that began in this epoch is settled
abbrev pub settle_in : Coordinator → TransId → Settled → Coordinator
settle_in s t x = record s { begun = with_settled s.begun t.counter x; courses = map.remove s.courses t }

-- the transactions that are not settled, by their ids
abbrev pub open_ids : Coordinator → List TransId
open_ids s = map.keys s.courses

-- ---- what it comes to

pub record IsOf (server epoch count : ℕ) (s : Coordinator) : Type 0 where
  pub server_same : s.server ≡ server
  pub epoch_same : s.epoch ≡ epoch
  pub count_same : length s.begun ≡ count

-- the same server in the same epoch, in which as many began
abbrev pub IsAlong : Coordinator → Coordinator → Type 0
IsAlong before after = IsOf (server_of before) (epoch_of before) (count_of before) after

-- each transaction comes to what a journal says of it after the deed
abbrev pub Comes : Deed → Coordinator → Coordinator → Type 0
Comes d before after = (t : TransId) → fate_in after t ≡ fate_after d t (fate_in before t)

-- or to what is like it in all that answers depend on
abbrev pub ComesLike : Deed → Coordinator → Coordinator → Type 0
ComesLike d before after = (t : TransId) → IsLike (fate_in after t) (fate_after d t (fate_in before t))

-- or nothing comes about
abbrev pub Keeps : Coordinator → Coordinator → Type 0
Keeps before after = (t : TransId) → fate_in after t ≡ fate_in before t

-- ---- decisions that were found

abbrev pub noted : Decision → DecisionNote
noted d = record { stamp = d.stamp; joins = d.joins.items }

abbrev pub noted_course : Decision → Course
noted_course d = record { client = 0; stage = stage.Decided d.stamp.ts; members = list_map silent d.joins.items }

abbrev pub with_noted : Decision → CourseMap → Option Course → CourseMap
with_noted d m None = map.insert m d.stamp.trans (noted_course d)
with_noted d m (Some c) = m

-- the first of each transaction counts
abbrev pub noted_courses : CourseMap → List Decision → CourseMap
noted_courses m [] = m
noted_courses m (d ∷ ds) = noted_courses (with_noted d m (map.get m d.stamp.trans)) ds

-- what is remembered of a transaction of an older epoch: its decision, while a join of it has not said that it is done
abbrev pub remembered : Fate → Fate
remembered (Committed stamp [] ds) = Undrawn
remembered (Committed stamp (j ∷ js) ds) = Committed stamp (j ∷ js) ds
remembered (Running client js) = Running client js
remembered (Finishing client js vs) = Finishing client js vs
remembered f = Undrawn

-- what was found; nothing began in this epoch
abbrev pub Finds : List DecisionNote → Coordinator → Type 0
Finds ns s = (t : TransId) → fate_in s t ≡ (if t.epoch == s.epoch then Undrawn else remembered (fate_noted ns t))

-- ---- what it answers

-- another server of the run
abbrev pub is_other : (server servers n : ℕ) → Bool
is_other server servers n = nat_lt 0 n && nat_lt n (servers + 1) && not (n == server)

abbrev pub admitted : Bool → Bool → Registration
admitted is_known has_server_ = if is_known then registration.Known else if has_server_ then registration.Refused else registration.Registered

-- the first join of another server is let in, and of the transaction's own client
abbrev pub registration_of : Bool → JoinNo → ℕ → Fate → Registration
registration_of other j client (Running c js) = if c == client && other then admitted (has_join j js) (has_server j.server js) else registration.Refused
registration_of other j client f = registration.Refused

abbrev pub registration_in : Coordinator → TransId → JoinNo → ℕ → ℕ → Registration
registration_in s t j client servers = if is_known s t then registration_of (is_other s.server servers j.server) j client (fate_in s t) else registration.Silence

-- what a registration that was answered so leaves
abbrev pub AfterRegistration : Deed → Registration → Coordinator → Coordinator → Type 0
AfterRegistration d registration.Registered before after = IsAlong before after × Comes d before after
AfterRegistration d r before after = after ≡ before

-- a vote that arrives for a transaction: it is none of its parts', or others are to come, or it is the last
abbrev pub ballot_of : JoinNo → ℕ → ℕ → Fate → Ballot
ballot_of j ts least (Finishing client js vs) =
    if has_join j js then (if list_all (λ k. voted k (with_vote j ts vs)) js then ballot.Last (latest_vote least (with_vote j ts vs)) else ballot.Kept) else ballot.Dropped
ballot_of j ts least f = ballot.Dropped

-- a part has applied the commit: it is none of its parts', or others are to come, or it is the last
abbrev pub receipt_of : JoinNo → Fate → Receipt
receipt_of j (Committed stamp js ds) = if has_join j js then (if not (has_all ds js) && has_all (j ∷ ds) js then receipt.Last else receipt.Kept) else receipt.Dropped
receipt_of j f = receipt.Dropped

-- each part has applied the commit
abbrev pub is_applied : Fate → Bool
is_applied (Committed stamp [] ds) = false
is_applied (Committed stamp (j ∷ js) ds) = has_all ds (j ∷ js)
is_applied f = false

abbrev pub applied_time : Fate → Option ℕ
applied_time (Committed stamp [] ds) = None
applied_time (Committed stamp (j ∷ js) ds) = if has_all ds (j ∷ js) then Some stamp.ts else None
applied_time f = None

-- what a forgotten transaction leaves, of this epoch and of an older one
abbrev pub forgotten_as : Bool → Fate → Fate
forgotten_as true (Committed stamp js ds) = Forgotten stamp js
forgotten_as is_now f = Undrawn

abbrev pub forgotten_fate : Bool → Fate → Fate
forgotten_fate is_now f = if is_applied f then forgotten_as is_now f else f

abbrev pub lost_or : ℕ → TransId → Cause → Cause
lost_or epoch t c = if t.epoch == epoch then c else cause.Lost epoch

abbrev pub commit_for : TransId → JoinNo → Stamp → List JoinNo → Option Message
commit_for t j stamp js = if has_join j js then Some (msg.Commit t j stamp) else None

abbrev pub abort_for : TransId → JoinNo → Cause → Option Message
abort_for t j c = Some (msg.Abort t j c)

-- how a transaction ended, where it did
abbrev pub inquiry_of : ℕ → TransId → JoinNo → Fate → Option Message
inquiry_of epoch t j (Running client js) = None
inquiry_of epoch t j (Finishing client js vs) = None
inquiry_of epoch t j (Committed stamp [] ds) = if t.epoch == epoch then None else abort_for t j (cause.Lost epoch)
inquiry_of epoch t j (Committed stamp (k ∷ js) ds) = commit_for t j stamp (k ∷ js)
inquiry_of epoch t j (Forgotten stamp js) = if t.epoch == epoch then commit_for t j stamp js else abort_for t j (cause.Lost epoch)
inquiry_of epoch t j (Ended c) = abort_for t j (lost_or epoch t c)
inquiry_of epoch t j Undrawn = abort_for t j (cause.Lost epoch)

abbrev pub inquiry_at : TransId → JoinNo → Stage → List Member → Option Message
inquiry_at t j stage.Running ms = None
inquiry_at t j stage.Finishing ms = None
inquiry_at t j (stage.Decided ts) ms = commit_for t j (record { ts = ts; trans = t }) (joins ms)

-- of one that began in this epoch and has no course
abbrev pub inquiry_placed : ℕ → TransId → JoinNo → Settled → Option Message
inquiry_placed epoch t j settled.Open = abort_for t j (cause.Lost epoch)
inquiry_placed epoch t j (settled.Committed ts) = None
inquiry_placed epoch t j (settled.Forgotten ts ms) = commit_for t j (record { ts = ts; trans = t }) (joins ms)
inquiry_placed epoch t j (settled.Ended c) = abort_for t j c

abbrev pub ending_placed : TransId → Settled → Ending
ending_placed t settled.Open = ending.Unknown
ending_placed t (settled.Committed ts) = ending.Committed (record { ts = ts; trans = t })
ending_placed t (settled.Forgotten ts ms) = ending.Committed (record { ts = ts; trans = t })
ending_placed t (settled.Ended c) = ending.Aborted

abbrev pub ending_at : ℕ → TransId → Fate → Ending
ending_at epoch t (Committed stamp [] done) = if t.epoch == epoch then ending.Committed stamp else ending.Unknown
ending_at epoch t (Committed stamp (j ∷ joins) done) = ending.Committed stamp
ending_at epoch t (Forgotten stamp joins) = if t.epoch == epoch then ending.Committed stamp else ending.Unknown
ending_at epoch t (Running client joins) = ending.Running
ending_at epoch t (Finishing client joins votes) = ending.Running
ending_at epoch t (Ended c) = if t.epoch == epoch then ending.Aborted else ending.Unknown
ending_at epoch t Undrawn = ending.Unknown

-- ---- what it says again

abbrev pub enveloped : Mail → Envelope
enveloped a = record { to = a.0; message = a.1 }

-- what goes to another server of the run
abbrev pub to_run : (server servers : ℕ) → List Mail → List Mail
to_run server servers ms = filter (λ (a : Mail). is_other server servers a.0) ms

-- a message to each of these other servers that has said nothing
abbrev pub again_to : (server servers : ℕ) → (JoinNo → Message) → List Member → List Member → List Envelope
again_to server servers f all [] = []
again_to server servers f all (m ∷ ms) =
    if not (has_said m.join all) && is_other server servers m.join.server then (record { to = m.join.server; message = f m.join }) ∷ again_to server servers f all ms else again_to server servers f all ms

-- of all that are open, by their ids
abbrev pub asks_of : Coordinator → List Mail
asks_of s = flat_map (λ t. ask_again t (fate_in s t)) (open_ids s)

abbrev pub commits_of : Coordinator → List Mail
commits_of s = flat_map (λ t. commit_again t (fate_in s t)) (open_ids s)

-- how many count towards the transactions of a server
abbrev pub counted_of : Coordinator → ℕ
counted_of s = length (filter (λ t. is_counted (fate_in s t)) (open_ids s))

-- ---- what runs, and what finishes

abbrev pub is_running_fate : Fate → Bool
is_running_fate (Running client js) = true
is_running_fate f = false

abbrev pub is_finishing_fate : Fate → Bool
is_finishing_fate (Finishing client js vs) = true
is_finishing_fate f = false

-- it is running and no lesser one is, or none is
abbrev pub IsLeastRunning : Coordinator → Option TransId → Type 0
IsLeastRunning s None = (t : TransId) → is_running_fate (fate_in s t) ≡ false
IsLeastRunning s (Some t) = (is_running_fate (fate_in s t) ≡ true) × ((u : TransId) → is_running_fate (fate_in s u) ≡ true → is_lt (trans_cmp u t) ≡ false)
