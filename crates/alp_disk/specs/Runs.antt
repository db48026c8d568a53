-- Runs of whole pages.
use Rattle.std.specs.Prelude.{◌≡◌, ◌<◌, ◌≤◌, ℕ, ◌+◌, ◌*◌, List, take, drop}
use Rattle.alp_disk.specs.Disk.{Image, page}

-- the same pages before n pages from `first` on, and behind them
pub record SameOutside (first n : ℕ) (old new : Image) : Type 0 where
  pub before : (q : ℕ) → q < first → page new q ≡ page old q
  pub behind : (q : ℕ) → first + n ≤ q → page new q ≡ page old q

-- n pages from `first` on hold these bytes, page by page, and the others are the same
pub record Holds (first n : ℕ) (bytes : List ℕ) (old new : Image) : Type 0 where
  pub each : (k : ℕ) → k < n → page new (first + k) ≡ take 512 (drop (512 * k) bytes)
  pub outside : SameOutside first n old new
