-- What was taken of the messages between servers, pair by pair.
use Rattle.std.specs.Prelude.{◌≡◌, ℕ, ◌+◌, ◌-◌, ◌*◌, ◌≤◌, List, length, get_or, slice_set}
use Rattle.alp_journal.specs.declared.entry.Entry.{Entry}
use Rattle.alp_posts.specs.Messages.{HasGrown}
use Rattle.alp_posts.specs.Post.{Post, nothing_taken}

abbrev pub IsServer : ℕ → Type 0
IsServer n = (1 ≤ n) × (n ≤ 8)

abbrev pub AreServers : (from to : ℕ) → Type 0
AreServers from to = IsServer from × IsServer to

abbrev pub place_of : (from to : ℕ) → ℕ
place_of from to = 8 * (from - 1) + (to - 1)

abbrev pub post_at : List Post → (from to : ℕ) → Post
post_at p from to = get_or p (place_of from to) (nothing_taken to)

-- this was taken of the pair, and of all others what was taken before
abbrev pub with_post : List Post → (from to : ℕ) → Post → List Post
with_post p from to x = slice_set p (place_of from to) x

-- each pair has its place
pub record IsTable (p : List Post) : Type 0 where
  pub full : length p ≡ 64
  pub there : (from to : ℕ) → AreServers from to → (post_at p from to).to ≡ to

abbrev pub IsUntaken : List Post → Type 0
IsUntaken p = (from to : ℕ) → AreServers from to → post_at p from to ≡ nothing_taken to

-- what was shown of each journal is the beginning of it
pub record Fits (journals : ℕ → List Entry) (p : List Post) : Type 0 where
  pub table : IsTable p
  pub shown : (from to : ℕ) → AreServers from to → HasGrown (post_at p from to).shown (journals from)
