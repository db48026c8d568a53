-- what is said of transactions, and said again
use Rattle.std.specs.Prelude.{cond, Bool, true, false, not, ◌==◌, ◌&&◌, ◌||◌, filter, flat_map, Option, None, Some, map as list_map}
use Rattle.std.specs.List.{list_any, list_all}
use Rattle.std.specs.FinMap as map
use Rattle.std.proofs.Common.{◌≡◌, ℕ, List, [], ◌∷◌, ◌++◌, length, refl, sym, ◌∙◌, ap, subst, eq-eqb}
use Rattle.std.proofs.lemmas.List.{append-nil}
use Rattle.alp_base.specs.declared.ids.JoinNo.{JoinNo}
use Rattle.alp_base.specs.declared.ids.TransId.{TransId}
use Rattle.alp_base.specs.declared.ids.Stamp.{Stamp}
use Rattle.alp_files.specs.declared.refusal.Cause.{Cause}
use Rattle.alp_files.specs.declared.refusal.Cause.TheVariants as cause
use Rattle.alp_files.specs.declared.reply.Ended.{Ended as Ending}
use Rattle.alp_files.specs.declared.reply.Ended.TheVariants as ending
use Rattle.alp_journal.specs.declared.message.Message.{Message}
use Rattle.alp_journal.specs.declared.message.Message.TheVariants as msg
use Rattle.alp_journal.specs.declared.message.Envelope.{Envelope}
use Rattle.alp_journal.specs.Ids.{has_join}
use Rattle.alp_journal.specs.Coordinator.{Fate, Undrawn, Running, Finishing, Committed, Forgotten, Ended, voted, client_of}
use Rattle.alp_journal.specs.Messages.{Mail, to_each, ask_again, commit_again}
use Rattle.alp_journal.specs.Answers.{is_counted}
use Rattle.alp_coord.specs.declared.members.Member.{Member}
use Rattle.alp_coord.specs.declared.course.Course.{Course}
use Rattle.alp_coord.specs.declared.course.Stage.{Stage}
use Rattle.alp_coord.specs.declared.course.Stage.TheVariants as stage
use Rattle.alp_coord.specs.declared.begun.Settled.{Settled}
use Rattle.alp_coord.specs.declared.begun.Settled.TheVariants as settled
use Rattle.alp_coord.specs.declared.coordinator.Coordinator.{Coordinator}
use Rattle.alp_coord.specs.Members.{joins, votes, dones, has_said}
use Rattle.alp_coord.specs.Begun.{fate_settled}
use Rattle.alp_coord.specs.Courses.{fate_at, fate_of, is_running_stage, is_finishing_stage, is_standing, time_of, owner_at, counts_at}
use Rattle.alp_coord.specs.Coordinators.{settled_in, course_in, fate_known, fate_in, is_other, enveloped, to_run, again_to, commit_for, abort_for, inquiry_of, inquiry_at, inquiry_placed, ending_at, ending_placed, is_running_fate, is_finishing_fate}
use Rattle.alp_coord.proofs.MemberLemmas.{voted-votes, has_join-dones}
use Rattle.alp_coord.proofs.FateLemmas.{Shows, now, older, course_shows, fate_course, fate_none, settled_placed}

-- ---- to those that have said nothing

pub again-is : (server servers : ℕ) (f : JoinNo → Message) (p : JoinNo → Bool) (all : List Member) → ((j : JoinNo) → p j ≡ has_said j all) → (ms : List Member)
    → again_to server servers f all ms ≡ list_map enveloped (to_run server servers (to_each f (filter (λ j. not (p j)) (joins ms))))
again-is server servers f p all same [] = refl
again-is server servers f p all same (m ∷ ms) =
    go (has_said m.join all) (again-is server servers f p all same ms) ∙ ap (λ (b : Bool). list_map enveloped (to_run server servers (to_each f (cond {A = List JoinNo} (not b) (m.join ∷ rest) rest)))) (sym (same m.join))
  where
    rest : List JoinNo
    rest = filter (λ j. not (p j)) (joins ms)

    here : (o : Bool) → again_to server servers f all ms ≡ list_map enveloped (to_run server servers (to_each f rest))
        → cond {A = List Envelope} o ((record { to = m.join.server; message = f m.join }) ∷ again_to server servers f all ms) (again_to server servers f all ms)
        ≡ list_map enveloped (cond {A = List Mail} o ((m.join.server, f m.join) ∷ to_run server servers (to_each f rest)) (to_run server servers (to_each f rest)))
    here true h = ap (λ (es : List Envelope). (record { to = m.join.server; message = f m.join }) ∷ es) h
    here false h = h

    go : (b : Bool) → again_to server servers f all ms ≡ list_map enveloped (to_run server servers (to_each f rest))
        → cond {A = List Envelope} (not b && is_other server servers m.join.server) ((record { to = m.join.server; message = f m.join }) ∷ again_to server servers f all ms) (again_to server servers f all ms)
        ≡ list_map enveloped (to_run server servers (to_each f (cond {A = List JoinNo} (not b) (m.join ∷ rest) rest)))
    go true h = h
    go false h = here (is_other server servers m.join.server) h

finishing_is : (x : Stage) → is_finishing_stage x ≡ true → x ≡ stage.Finishing
finishing_is stage.Running h = cc
finishing_is stage.Finishing h = refl
finishing_is (stage.Decided ts) h = cc

decided_is : (x : Stage) (ts : ℕ) → time_of x ≡ Some ts → x ≡ stage.Decided ts
decided_is stage.Running ts h = cc
decided_is stage.Finishing ts h = cc
decided_is (stage.Decided time) ts h = (let same : time ≡ ts = cc in ap stage.Decided same)

-- a transaction that asks for votes, or tells of its commit
pub asks-finishing : (s : Coordinator) (t : TransId) (c : Course) (server servers : ℕ) → course_in s t ≡ Some c → is_finishing_stage c.stage ≡ true
    → again_to server servers (msg.Ask t) c.members c.members ≡ list_map enveloped (to_run server servers (ask_again t (fate_in s t)))
asks-finishing s t c server servers is at =
    again-is server servers (msg.Ask t) (λ j. voted j (votes c.members)) c.members (λ j. voted-votes j c.members) c.members
    ∙ ap (λ (f : Fate). list_map enveloped (to_run server servers (ask_again t f))) (sym (fate_course s t c is ∙ ap (λ (x : Stage). fate_at t x c.client c.members) (finishing_is c.stage at)))

pub commits-decided : (s : Coordinator) (t : TransId) (c : Course) (ts server servers : ℕ) → course_in s t ≡ Some c → time_of c.stage ≡ Some ts
    → again_to server servers (λ j. msg.Commit t j (record { ts = ts; trans = t })) c.members c.members ≡ list_map enveloped (to_run server servers (commit_again t (fate_in s t)))
commits-decided s t c ts server servers is at =
    again-is server servers (λ j. msg.Commit t j (record { ts = ts; trans = t })) (λ j. has_join j (dones c.members)) c.members (λ j. has_join-dones j c.members) c.members
    ∙ ap (λ (f : Fate). list_map enveloped (to_run server servers (commit_again t f))) (sym (fate_course s t c is ∙ ap (λ (x : Stage). fate_at t x c.client c.members) (decided_is c.stage ts at)))

-- others say nothing
pub settled_asks : (t : TransId) (x : Option Settled) → ask_again t (fate_settled t x) ≡ []
settled_asks t None = refl
settled_asks t (Some settled.Open) = refl
settled_asks t (Some (settled.Committed ts)) = refl
settled_asks t (Some (settled.Forgotten ts ms)) = refl
settled_asks t (Some (settled.Ended e)) = refl

pub settled_commits : (t : TransId) (x : Option Settled) → commit_again t (fate_settled t x) ≡ []
settled_commits t None = refl
settled_commits t (Some settled.Open) = refl
settled_commits t (Some (settled.Committed ts)) = refl
settled_commits t (Some (settled.Forgotten ts ms)) = refl
settled_commits t (Some (settled.Ended e)) = refl

pub none-asks : (s : Coordinator) (t : TransId) → course_in s t ≡ None → ask_again t (fate_in s t) ≡ []
none-asks s t is = ap (ask_again t) (fate_none s t is) ∙ settled_asks t (settled_in s t)

pub none-commits : (s : Coordinator) (t : TransId) → course_in s t ≡ None → commit_again t (fate_in s t) ≡ []
none-commits s t is = ap (commit_again t) (fate_none s t is) ∙ settled_commits t (settled_in s t)

stage_asks : (t : TransId) (x : Stage) (client : ℕ) (ms : List Member) → is_finishing_stage x ≡ false → ask_again t (fate_at t x client ms) ≡ []
stage_asks t stage.Running client ms away = refl
stage_asks t stage.Finishing client ms away = cc
stage_asks t (stage.Decided ts) client ms away = refl

stage_commits : (t : TransId) (x : Stage) (client : ℕ) (ms : List Member) → time_of x ≡ None → commit_again t (fate_at t x client ms) ≡ []
stage_commits t stage.Running client ms away = refl
stage_commits t stage.Finishing client ms away = refl
stage_commits t (stage.Decided ts) client ms away = cc

pub other-asks : (s : Coordinator) (t : TransId) (c : Course) → course_in s t ≡ Some c → is_finishing_stage c.stage ≡ false → ask_again t (fate_in s t) ≡ []
other-asks s t c is away = ap (ask_again t) (fate_course s t c is) ∙ stage_asks t c.stage c.client c.members away

pub other-commits : (s : Coordinator) (t : TransId) (c : Course) → course_in s t ≡ Some c → time_of c.stage ≡ None → commit_again t (fate_in s t) ≡ []
other-commits s t c is away = ap (commit_again t) (fate_course s t c is) ∙ stage_commits t c.stage c.client c.members away

-- where nothing is said nothing is added
pub nothing-more : (server servers : ℕ) (es : List Envelope) (ms : List Mail) → ms ≡ [] → es ≡ es ++ list_map enveloped (to_run server servers ms)
nothing-more server servers es ms none = sym (append-nil es) ∙ ap (λ (x : List Mail). es ++ list_map enveloped (to_run server servers x)) (sym none)

-- ---- of all

pub envelopes-append : (server servers : ℕ) (xs ys : List Mail) → list_map enveloped (to_run server servers (xs ++ ys)) ≡ list_map enveloped (to_run server servers xs) ++ list_map enveloped (to_run server servers ys)
envelopes-append server servers [] ys = refl
envelopes-append server servers (x ∷ xs) ys = go (is_other server servers x.0) (envelopes-append server servers xs ys)
  where
    go : (b : Bool) → list_map enveloped (to_run server servers (xs ++ ys)) ≡ list_map enveloped (to_run server servers xs) ++ list_map enveloped (to_run server servers ys)
        → list_map enveloped (cond {A = List Mail} b (x ∷ to_run server servers (xs ++ ys)) (to_run server servers (xs ++ ys)))
        ≡ list_map enveloped (cond {A = List Mail} b (x ∷ to_run server servers xs) (to_run server servers xs)) ++ list_map enveloped (to_run server servers ys)
    go true h = ap (λ (es : List Envelope). enveloped x ∷ es) h
    go false h = h

pub envelopes-all : (server servers : ℕ) (f : TransId → List Mail) (ts : List TransId) → flat_map (λ t. list_map enveloped (to_run server servers (f t))) ts ≡ list_map enveloped (to_run server servers (flat_map f ts))
envelopes-all server servers f [] = refl
envelopes-all server servers f (t ∷ ts) =
    ap (λ (es : List Envelope). list_map enveloped (to_run server servers (f t)) ++ es) (envelopes-all server servers f ts) ∙ sym (envelopes-append server servers (f t) (flat_map f ts))

-- ---- answers

-- one with a place began in this epoch
pub placed-now : (s : Coordinator) (t : TransId) (x : Settled) → settled_in s t ≡ Some x → (t.epoch == s.epoch) ≡ true
placed-now s t x is = eq-eqb t.epoch s.epoch (settled_placed s t x is).epoch_is

placed_inquiry : (epoch : ℕ) (t : TransId) (j : JoinNo) (x : Settled) → (t.epoch == epoch) ≡ true → inquiry_of epoch t j (fate_settled t (Some x)) ≡ inquiry_placed epoch t j x
placed_inquiry epoch t j settled.Open at = refl
placed_inquiry epoch t j (settled.Committed ts) at = ap (λ (b : Bool). cond {A = Option Message} b None (abort_for t j (cause.Lost epoch))) at
placed_inquiry epoch t j (settled.Forgotten ts ms) at = ap (λ (b : Bool). cond {A = Option Message} b (commit_for t j (record { ts = ts; trans = t }) (joins ms)) (abort_for t j (cause.Lost epoch))) at
placed_inquiry epoch t j (settled.Ended e) at = ap (λ (b : Bool). abort_for t j (cond {A = Cause} b e (cause.Lost epoch))) at

pub inquiry-placed : (s : Coordinator) (t : TransId) (j : JoinNo) (x : Settled) → settled_in s t ≡ Some x → inquiry_placed s.epoch t j x ≡ inquiry_of s.epoch t j (fate_settled t (settled_in s t))
inquiry-placed s t j x is = sym (ap (λ (y : Option Settled). inquiry_of s.epoch t j (fate_settled t y)) is ∙ placed_inquiry s.epoch t j x (placed-now s t x is))

pub inquiry-unplaced : (s : Coordinator) (t : TransId) (j : JoinNo) → settled_in s t ≡ None → abort_for t j (cause.Lost s.epoch) ≡ inquiry_of s.epoch t j (fate_settled t (settled_in s t))
inquiry-unplaced s t j is = sym (ap (λ (y : Option Settled). inquiry_of s.epoch t j (fate_settled t y)) is)

placed_ending : (epoch : ℕ) (t : TransId) (x : Settled) → (t.epoch == epoch) ≡ true → ending_at epoch t (fate_settled t (Some x)) ≡ ending_placed t x
placed_ending epoch t settled.Open at = refl
placed_ending epoch t (settled.Committed ts) at = ap (λ (b : Bool). cond {A = Ending} b (ending.Committed (record { ts = ts; trans = t })) ending.Unknown) at
placed_ending epoch t (settled.Forgotten ts ms) at = ap (λ (b : Bool). cond {A = Ending} b (ending.Committed (record { ts = ts; trans = t })) ending.Unknown) at
placed_ending epoch t (settled.Ended e) at = ap (λ (b : Bool). cond {A = Ending} b ending.Aborted ending.Unknown) at

pub ending-placed : (s : Coordinator) (t : TransId) (x : Settled) → settled_in s t ≡ Some x → ending_placed t x ≡ ending_at s.epoch t (fate_settled t (settled_in s t))
ending-placed s t x is = sym (ap (λ (y : Option Settled). ending_at s.epoch t (fate_settled t y)) is ∙ placed_ending s.epoch t x (placed-now s t x is))

pub ending-unplaced : (s : Coordinator) (t : TransId) → settled_in s t ≡ None → ending.Unknown ≡ ending_at s.epoch t (fate_settled t (settled_in s t))
ending-unplaced s t is = sym (ap (λ (y : Option Settled). ending_at s.epoch t (fate_settled t y)) is)

-- of one with a course
inquiry_of_stage : (epoch : ℕ) (t : TransId) (j : JoinNo) (x : Stage) (client : ℕ) (ms : List Member) → (is_standing x ms ≡ false → (t.epoch == epoch) ≡ true) → inquiry_of epoch t j (fate_at t x client ms) ≡ inquiry_at t j x ms
inquiry_of_stage epoch t j stage.Running client ms now_ = refl
inquiry_of_stage epoch t j stage.Finishing client ms now_ = refl
inquiry_of_stage epoch t j (stage.Decided ts) client [] now_ = ap (λ (b : Bool). cond {A = Option Message} b None (abort_for t j (cause.Lost epoch))) (now_ refl)
inquiry_of_stage epoch t j (stage.Decided ts) client (m ∷ ms) now_ = refl

-- a course that is not a decision with joins is of this epoch
pub early-now : (s : Coordinator) (t : TransId) (c : Course) → course_in s t ≡ Some c → is_standing c.stage c.members ≡ false → (t.epoch == s.epoch) ≡ true
early-now s t c is early = go (course_shows s t c is).0
  where
    go : Shows s t c → (t.epoch == s.epoch) ≡ true
    go (now e opens) = e
    go (older e stands) = let wrong : true ≡ false = sym stands ∙ early in cc

pub inquiry-course : (s : Coordinator) (t : TransId) (j : JoinNo) (c : Course) → course_in s t ≡ Some c → inquiry_of s.epoch t j (fate_in s t) ≡ inquiry_at t j c.stage c.members
inquiry-course s t j c is = ap (inquiry_of s.epoch t j) (fate_course s t c is) ∙ inquiry_of_stage s.epoch t j c.stage c.client c.members (early-now s t c is)

-- how a transaction stands
ending_of_decided : (epoch : ℕ) (t : TransId) (ts client : ℕ) (ms : List Member) → (is_standing (stage.Decided ts) ms ≡ false → (t.epoch == epoch) ≡ true)
    → ending_at epoch t (fate_at t (stage.Decided ts) client ms) ≡ ending.Committed (record { ts = ts; trans = t })
ending_of_decided epoch t ts client [] now_ = ap (λ (b : Bool). cond {A = Ending} b (ending.Committed (record { ts = ts; trans = t })) ending.Unknown) (now_ refl)
ending_of_decided epoch t ts client (m ∷ ms) now_ = refl

pub ending-decided : (s : Coordinator) (t : TransId) (c : Course) (ts : ℕ) → course_in s t ≡ Some c → time_of c.stage ≡ Some ts → ending_at s.epoch t (fate_in s t) ≡ ending.Committed (record { ts = ts; trans = t })
ending-decided s t c ts is time =
    let at : c.stage ≡ stage.Decided ts = decided_is c.stage ts time in
    ap (ending_at s.epoch t) (fate_course s t c is ∙ ap (λ (x : Stage). fate_at t x c.client c.members) at)
    ∙ ending_of_decided s.epoch t ts c.client c.members (λ early. early-now s t c is (ap (λ (x : Stage). is_standing x c.members) at ∙ early))

running_of_stage : (epoch : ℕ) (t : TransId) (x : Stage) (client : ℕ) (ms : List Member) → time_of x ≡ None → ending_at epoch t (fate_at t x client ms) ≡ ending.Running
running_of_stage epoch t stage.Running client ms away = refl
running_of_stage epoch t stage.Finishing client ms away = refl
running_of_stage epoch t (stage.Decided ts) client ms away = cc

pub ending-running : (s : Coordinator) (t : TransId) (c : Course) → course_in s t ≡ Some c → time_of c.stage ≡ None → ending_at s.epoch t (fate_in s t) ≡ ending.Running
ending-running s t c is away = ap (ending_at s.epoch t) (fate_course s t c is) ∙ running_of_stage s.epoch t c.stage c.client c.members away

-- whether it counts
stage_counts : (t : TransId) (x : Stage) (client : ℕ) (ms : List Member) → is_counted (fate_at t x client ms) ≡ counts_at x ms
stage_counts t stage.Running client ms = refl
stage_counts t stage.Finishing client ms = refl
stage_counts t (stage.Decided ts) client [] = refl
stage_counts t (stage.Decided ts) client (m ∷ ms) = refl

pub counts-course : (s : Coordinator) (t : TransId) (c : Course) → course_in s t ≡ Some c → is_counted (fate_in s t) ≡ counts_at c.stage c.members
counts-course s t c is = ap is_counted (fate_course s t c is) ∙ stage_counts t c.stage c.client c.members

pub settled_counts : (t : TransId) (x : Option Settled) → is_counted (fate_settled t x) ≡ false
settled_counts t None = refl
settled_counts t (Some settled.Open) = refl
settled_counts t (Some (settled.Committed ts)) = refl
settled_counts t (Some (settled.Forgotten ts ms)) = refl
settled_counts t (Some (settled.Ended e)) = refl

pub counts-none : (s : Coordinator) (t : TransId) → course_in s t ≡ None → is_counted (fate_in s t) ≡ false
counts-none s t is = ap is_counted (fate_none s t is) ∙ settled_counts t (settled_in s t)

-- whether it is running, or finishing
stage_runs : (t : TransId) (x : Stage) (client : ℕ) (ms : List Member) → is_running_fate (fate_at t x client ms) ≡ is_running_stage x
stage_runs t stage.Running client ms = refl
stage_runs t stage.Finishing client ms = refl
stage_runs t (stage.Decided ts) client ms = refl

pub runs-course : (s : Coordinator) (t : TransId) (c : Course) → course_in s t ≡ Some c → is_running_fate (fate_in s t) ≡ is_running_stage c.stage
runs-course s t c is = ap is_running_fate (fate_course s t c is) ∙ stage_runs t c.stage c.client c.members

pub settled_runs : (t : TransId) (x : Option Settled) → is_running_fate (fate_settled t x) ≡ false
settled_runs t None = refl
settled_runs t (Some settled.Open) = refl
settled_runs t (Some (settled.Committed ts)) = refl
settled_runs t (Some (settled.Forgotten ts ms)) = refl
settled_runs t (Some (settled.Ended e)) = refl

pub runs-none : (s : Coordinator) (t : TransId) → course_in s t ≡ None → is_running_fate (fate_in s t) ≡ false
runs-none s t is = ap is_running_fate (fate_none s t is) ∙ settled_runs t (settled_in s t)

stage_finishes : (t : TransId) (x : Stage) (client : ℕ) (ms : List Member) → is_finishing_fate (fate_at t x client ms) ≡ is_finishing_stage x
stage_finishes t stage.Running client ms = refl
stage_finishes t stage.Finishing client ms = refl
stage_finishes t (stage.Decided ts) client ms = refl

pub finishes-course : (s : Coordinator) (t : TransId) (c : Course) → course_in s t ≡ Some c → is_finishing_fate (fate_in s t) ≡ is_finishing_stage c.stage
finishes-course s t c is = ap is_finishing_fate (fate_course s t c is) ∙ stage_finishes t c.stage c.client c.members

settled_finishes : (t : TransId) (x : Option Settled) → is_finishing_fate (fate_settled t x) ≡ false
settled_finishes t None = refl
settled_finishes t (Some settled.Open) = refl
settled_finishes t (Some (settled.Committed ts)) = refl
settled_finishes t (Some (settled.Forgotten ts ms)) = refl
settled_finishes t (Some (settled.Ended e)) = refl

pub finishes-none : (s : Coordinator) (t : TransId) → course_in s t ≡ None → is_finishing_fate (fate_in s t) ≡ false
finishes-none s t is = ap is_finishing_fate (fate_none s t is) ∙ settled_finishes t (settled_in s t)

-- its client, and who takes part
stage_client : (t : TransId) (x : Stage) (client : ℕ) (ms : List Member) → client_of (fate_at t x client ms) ≡ owner_at x client
stage_client t stage.Running client ms = refl
stage_client t stage.Finishing client ms = refl
stage_client t (stage.Decided ts) client ms = refl

pub client-course : (s : Coordinator) (t : TransId) (c : Course) → course_in s t ≡ Some c → client_of (fate_in s t) ≡ owner_at c.stage c.client
client-course s t c is = ap client_of (fate_course s t c is) ∙ stage_client t c.stage c.client c.members

settled_client : (t : TransId) (x : Option Settled) → client_of (fate_settled t x) ≡ None
settled_client t None = refl
settled_client t (Some settled.Open) = refl
settled_client t (Some (settled.Committed ts)) = refl
settled_client t (Some (settled.Forgotten ts ms)) = refl
settled_client t (Some (settled.Ended e)) = refl

pub client-none : (s : Coordinator) (t : TransId) → course_in s t ≡ None → client_of (fate_in s t) ≡ None
client-none s t is = ap client_of (fate_none s t is) ∙ settled_client t (settled_in s t)
