-- A storm: client threads and carriers take turns at servers, and the turns of all are a course.
use Rattle.std.specs.Prelude.{◌≡◌, ℕ, zero, suc, ◌+◌, ◌*◌, ◌%◌, ◌^◌, ◌==◌, ◌&&◌, min, Bool, true, false, IsTrue, List, [], ◌∷◌, ◌++◌, length, filter, flat_map, map as list_map}
use Rattle.std.specs.List.{AllByRecursion}
use Rattle.alp_carrier.specs.declared.taken.Taken.{Taken}
use Rattle.alp_jobs.specs.Deeds.{Deed, sends, gives_tick, gives_timeout}
use Rattle.alp_jobs.specs.Does.{DoesJob}
use Rattle.alp_journal.specs.Moves.{stops}
use Rattle.alp_journal.specs.declared.entry.Entry.{Entry}
use Rattle.alp_journal.specs.declared.log.Item.{Item}
use Rattle.alp_journal.specs.declared.message.Message.{Message}
use Rattle.alp_lines.specs.declared.line.Line.{Line}
use Rattle.alp_session.specs.Crowd.{Crowd}
use Rattle.alp_session.specs.Crowds.{lent_crowd}
use Rattle.alp_course.specs.Courses.{Course, seat_at, IsSeat, AreTwo, Occurrence, at, comes, loses, AreCourse}
use Rattle.alp_course.specs.Happens.{Happening, sent_it, timed_out, ticked}
use Rattle.alp_course.specs.Languages.{Language, Nothing, Just, Each}
use Rattle.alp_merge.specs.Carried.{sent_in, AreCarriedBy}
use Rattle.alp_merge.specs.Served.{Ranked, ranked_in, done_by}
use Rattle.alp_merge.specs.Turns.{Who, worker, carrier, Turn, occurrence_in, turns_at, AreInOrder}

-- ---- workers

abbrev pub is_worker : ℕ → Who → Bool
is_worker k (worker client) = client == k
is_worker k (carrier from to) = false

-- where it is done, and what that is at its server
abbrev pub place_of : Deed → ℕ
place_of (sends x) = x.server
place_of (gives_tick server) = server
place_of (gives_timeout server t) = server

abbrev pub happening_of : (client : ℕ) → Deed → Happening
happening_of k (sends x) = sent_it k x
happening_of k (gives_tick server) = ticked
happening_of k (gives_timeout server t) = timed_out t

-- the deeds of a client at this server, in its order
abbrev pub deeds_at : (client server : ℕ) → List Deed → List Occurrence
deeds_at k n ds = list_map (λ (d : Deed). at n (happening_of k d)) (filter (λ (d : Deed). place_of d == n) ds)

-- what its list has of them
abbrev pub items_by : Deed → List Item
items_by (sends x) = x ∷ []
items_by d = []

abbrev pub items_of : List Deed → List Item
items_of ds = flat_map items_by ds

-- ---- carriers

abbrev pub is_carrier : (from to : ℕ) → Who → Bool
is_carrier from to (worker client) = false
is_carrier from to (carrier f t) = (f == from) && (t == to)

-- the seed of a pair's plan
abbrev pub pair_seed : (plan from to : ℕ) → ℕ
pair_seed plan from to = (plan + (16 * from + to)) % 2 ^ 64

-- the entries of a server, each with its rank
abbrev pub ranked_with : List Entry → List ℕ → List Ranked
ranked_with (e ∷ es) (n ∷ ns) = record { entry = e; rank = n } ∷ ranked_with es ns
ranked_with es ns = []

abbrev pub entries_at : Course → ℕ → List Ranked
entries_at r n = ranked_with (seat_at r n).journal (seat_at r n).ranks

-- The place behind all that a server sent so far, as a number of 32 bits. Carriers begin there.
abbrev pub first_place : Course → ℕ → ℕ
first_place r n = min (length (sent_in (entries_at r n))) 4294967295

-- and those that turns made since
abbrev pub entries_since : ℕ → List Turn → List Ranked
entries_since n turns = list_map ranked_in (turns_at n turns)

-- From the first message on that the sender had not sent as the storm began, as long as places have numbers, the carrier of the pair took all up to some place, and brought them by its plan.
abbrev pub IsCarriedPair : (Starved : ℕ → ℕ → ℕ → Message → Type 0) (plan : ℕ) → Course → List Turn → (from to : ℕ) → List Taken → Type 0
IsCarriedPair Starved plan r turns from to taken =
    AreCarriedBy (Starved from to) (pair_seed plan from to) (first_place r from) from to (entries_at r from) (entries_at r to) (entries_since from turns) (entries_since to turns) taken
    (done_by (is_carrier from to) (turns_at to turns))

-- ---- what was taken

abbrev pub times : ℕ → Occurrence → List Occurrence
times zero x = []
times (suc k) x = x ∷ times k x

abbrev pub IfOther : Bool → Language → Language
IfOther true A = Nothing
IfOther false A = A

-- behind the threads, pair by pair: as many messages count as taken as its carrier took
abbrev pub AreCounted : (servers : ℕ) (took : (from to : ℕ) → List Taken) → Language
AreCounted servers took = Each (λ from. Each (λ to. IfOther (from == to) (Just (times (length (took from to)) (loses from to)))) servers) servers

-- ---- the storm

-- a turn of a job's client, or of the carrier that brought the message
abbrev pub IsBy : (is_job : ℕ → Bool) → Who → Occurrence → Type 0
IsBy is_job (worker k) (at n h) = IsTrue (is_job k)
IsBy is_job (carrier from to) (comes f t m seen) = (f ≡ from) × (t ≡ to)
IsBy is_job w o = ⊥

-- From a course to another one. Each job's client does what its lines say by what it is handed, all at servers of the run, and its turns at
-- each server are its deeds there, in its order. Carriers bring what was sent, by the plan. Nothing else happens, and no server stops: each
-- server's journal has just the entries of its turns more, with their ranks. What was taken is counted behind.
-- That memory was refused is no matter of the journals, so it is told of each pair, place and message.
pub record IsStorm (plan : ℕ) (is_job : ℕ → Bool) (job : ℕ → List (List Line)) (Starved : ℕ → ℕ → ℕ → Message → Type 0) (c : Crowd) (r after : Course) (deeds : ℕ → List Deed) (knows : ℕ → Crowd) : Type 0 where
  pub turns : List Turn
  pub took : (from to : ℕ) → List Taken
  pub counted : List Occurrence
  pub ordered : AreInOrder 0 turns
  pub works : (k : ℕ) → IsTrue (is_job k) → DoesJob k (job k) (lent_crowd c k) (deeds k) (knows k)
  pub among : (k : ℕ) → IsTrue (is_job k) → AllByRecursion (λ (d : Deed). IsSeat r (place_of d)) (deeds k)
  pub own : (k n : ℕ) → IsTrue (is_job k) → IsSeat r n → done_by (is_worker k) (turns_at n turns) ≡ deeds_at k n (deeds k)
  pub carried : (from to : ℕ) → AreTwo r from to → IsCarriedPair Starved plan r turns from to (took from to)
  pub others : AllByRecursion (λ (x : Turn). IsBy is_job x.who x.occurrence) turns
  pub calm : AllByRecursion (λ (x : Turn). stops x.entry ≡ false) turns
  pub entries : (n : ℕ) → IsSeat r n → entries_at after n ≡ entries_at r n ++ entries_since n turns
  pub are_counted : AreCounted (length r.seats) took counted
  pub course : AreCourse r (list_map occurrence_in turns ++ counted) after
