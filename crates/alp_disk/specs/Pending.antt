-- What a disk in memory makes of the writes since its last sync, and all that a crash may leave of it.
use Rattle.std.specs.Prelude.{◌≡◌, ℕ, zero, suc, ◌%◌, Bool, true, false, List, [], ◌∷◌, take}
use Rattle.rand_core.specs.Stream.{Stream, next_u32}
use Rattle.rand_core.specs.Steps.{stream_of, steps_u32}
use Rattle.rand_core.specs.Pcg32Seed.{pcg32_seed}
use Rattle.rand_pcg.specs.Pcg.{pcg32, pcg32_of_seed}
use Rattle.alp_disk.specs.Disk.{Image, IsImage, with_bytes, Torn}
use Rattle.alp_disk.specs.declared.pending_write.PendingWrite.{PendingWrite}

abbrev pub written_bytes : PendingWrite → List ℕ
written_bytes w = take w.len w.page

-- the image after these writes, the oldest first
abbrev pub replay : Image → List PendingWrite → Image
replay image [] = image
replay image (w ∷ ws) = replay (with_bytes image w.at w.offset (written_bytes w)) ws

-- the image after every other one of these writes; the flag says whether the first of them is one
abbrev pub alternated : Bool → Image → List PendingWrite → Image
alternated keeps image [] = image
alternated true image (w ∷ ws) = alternated false (with_bytes image w.at w.offset (written_bytes w)) ws
alternated false image (w ∷ ws) = alternated true image ws

-- the low bytes of so many successive words, and the words behind them
abbrev pub low_bytes : ℕ → Stream → List ℕ × Stream
low_bytes zero words = ([], words)
low_bytes (suc n) words = let rest = low_bytes n (next_u32 words).1 in ((next_u32 words).0 % 256 ∷ rest.0, rest.1)

-- the image with each written range filled with the low bytes of successive words, in order of the writes
abbrev pub filled : Stream → Image → List PendingWrite → Image
filled words image [] = image
filled words image (w ∷ ws) = let drawn = low_bytes w.len words in filled drawn.1 (with_bytes image w.at w.offset drawn.0) ws

-- the words of the generator that is seeded with this number
unfoldable pub words_of : ℕ → Stream
words_of pick = stream_of (steps_u32 pcg32) (pcg32_of_seed (pcg32_seed 16 pick))

-- an image that these writes may make of one, where each written range may hold any bytes
abbrev pub Reaches : ℕ → Image → List PendingWrite → Image → Type 0
Reaches n image [] c = c ≡ image
Reaches n image (w ∷ ws) c = (d : Image) × IsImage n d × Torn w.at w.offset w.len image d × Reaches n d ws c

-- what a crash may leave of so many pages
abbrev pub MayLeave : ℕ → Image → List PendingWrite → Image → Type 0
MayLeave n image ws c = IsImage n c × Reaches n image ws c
