-- The lists of a storm.
use Rattle.std.specs.Prelude.{◌≡◌, ℕ, ◌+◌, ◌<◌, ◌≤◌, ◌^◌, List, [], length, map}
use Rattle.std.specs.Vec.{vec_len, vec_capacity}
use Rattle.alp_jobs.specs.States.{JobState}
use Rattle.alp_carrier.specs.Sights.{Sight}
use Rattle.alp_storm.specs.Storms.{AreRooms, AreOpen, AreReady, task_of, tasks_for}
use Rattle.alp_storm.specs.declared.storming.Lists.{Lists}

module _ {S B E : Type 0} where
  -- room for so many jobs and servers, and nothing in it but rings without passes
  pub record IsRoomFor (jobs servers : ℕ) (l : Lists S B E) : Type 0 where
    pub rings : AreRooms l.rings.items servers × (length l.rings.items ≡ jobs + 64)
    pub errands : (l.errands.items ≡ []) × (jobs + 64 ≤ vec_capacity l.errands)
    pub done : (l.done.items ≡ []) × (vec_len l.done ≡ 0) × (jobs + 64 ≤ vec_capacity l.done)
    pub monitors : (l.monitors.items ≡ []) × (vec_len l.monitors ≡ 0) × (servers ≤ vec_capacity l.monitors)
    pub rooms : (l.rooms.items ≡ []) × (vec_len l.rooms ≡ 0) × (servers ≤ vec_capacity l.rooms)
    pub jobs_room : (l.jobs.items ≡ []) × (jobs ≤ vec_capacity l.jobs)

module _ {S B E : Type 0} (base_of : S → B) (sight : Sight B E) where
  -- the errands are those of these jobs and servers, and there is room for all that comes of them
  pub record IsLoaded (ys : List S) (jobs : List JobState) (l : Lists S B E) : Type 0 where
    pub errands : AreOpen base_of (length ys) [] l.errands.items
    pub tasks : map task_of l.errands.items ≡ tasks_for base_of sight ys jobs
    pub done : (l.done.items ≡ []) × (vec_len l.done ≡ 0) × (length l.errands.items ≤ vec_capacity l.done)
    pub monitors : (l.monitors.items ≡ []) × (vec_len l.monitors ≡ 0) × (length ys ≤ vec_capacity l.monitors)
    pub rooms : (l.rooms.items ≡ []) × (vec_len l.rooms ≡ 0) × (length ys ≤ vec_capacity l.rooms)
    pub jobs_room : (l.jobs.items ≡ []) × (length jobs ≤ vec_capacity l.jobs)
    pub some : (0 < length l.errands.items) × (length l.errands.items < 2 ^ 32)
