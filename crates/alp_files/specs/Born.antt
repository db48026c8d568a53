-- Which file ids were given already.
use Rattle.std.specs.Prelude.{◌≡◌, ℕ, ◌+◌, ◌<◌, ◌≤◌, List, [], ◌∷◌, None}
use Rattle.alp_base.specs.declared.ids.FileId.{FileId}
use Rattle.alp_base.specs.declared.key.Key.TheVariants.{Leader}
use Rattle.alp_files.specs.declared.reply.Reply.{Reply}
use Rattle.alp_files.specs.declared.reply.Reply.TheVariants as reply
use Rattle.alp_files.specs.Cells.{View}

-- the ids of this server and epoch above this counter have no leader
abbrev pub IsUnborn : ℕ → ℕ → View → ℕ → Type 0
IsUnborn server epoch m count = (n : ℕ) → count < n → m (Leader (record { server = server; epoch = epoch; counter = n })) ≡ None

-- the counters of these ids go no further
abbrev pub AreBelow : ℕ → List FileId → Type 0
AreBelow count [] = Unit {0}
AreBelow count (f ∷ fs) = (f.counter ≤ count) × AreBelow count fs

-- the counter after a reply that may give the next id
abbrev pub count_after : ℕ → Reply → ℕ
count_after count (reply.Created f n) = count + 1
count_after count _ = count
