-- Anchor pages, and the anchor that counts.
use Rattle.std.specs.Prelude.{◌≡◌, ◌⊎◌, ◌<◌, ◌≤◌, ℕ, ◌+◌, ◌-◌, ◌*◌, ◌^◌, ◌%◌, List, [], ◌∷◌, ◌++◌, replicate}
use Rattle.std.specs.Int.{w16, w32, to_be_bytes}
use Rattle.alp_base.specs.declared.faults.Sizes.{Sizes}
use Rattle.alp_disk.specs.Disk.{Image, page, SameBut}
use Rattle.alp_disk.specs.declared.gate.TheConstants.{OPEN_GATE}
use Rattle.alp_base.specs.Crashes.{Only}
use Rattle.alp_anchor.specs.declared.anchor.Anchor.{Anchor}

-- the bytes behind the gate: ALPINE1, the generation, the area in use, the server, the number of servers, a zero, the sizes
abbrev pub header : Anchor → List ℕ
header a =
    65 ∷ 76 ∷ 80 ∷ 73 ∷ 78 ∷ 69 ∷ 49 ∷ []
    ++ to_be_bytes w32 a.generation
    ++ (a.area ∷ a.server ∷ a.servers ∷ 0 ∷ [])
    ++ to_be_bytes w16 a.sizes.area
    ++ to_be_bytes w32 a.sizes.home

-- an anchor page with an open gate
unfoldable pub open_anchor : Anchor → List ℕ
open_anchor a = OPEN_GATE ∷ (header a ++ replicate 490 0)

-- sizes within the limits that make up a disk of n pages: two anchors, two areas, and home
pub record AreSizesOf (n : ℕ) (sizes : Sizes) : Type 0 where
  pub least_area : 64 ≤ sizes.area
  pub most_area : sizes.area ≤ 4096
  pub least_home : 512 ≤ sizes.home
  pub most_home : sizes.home ≤ 65536
  pub total : 2 + 2 * sizes.area + sizes.home ≡ n

-- an anchor of a disk of n pages
pub record IsSound (n : ℕ) (a : Anchor) : Type 0 where
  pub page : a.page ≤ 1
  pub area : a.area ≤ 1
  pub generation : a.generation < 2 ^ 32
  pub sizes : AreSizesOf n a.sizes

-- the page is this anchor, and open
pub record IsOpen (n : ℕ) (p : List ℕ) (a : Anchor) : Type 0 where
  pub bytes : p ≡ open_anchor a
  pub sound : IsSound n a

-- and it names this server and this number of servers
pub record IsOwn (server servers n : ℕ) (p : List ℕ) (a : Anchor) : Type 0 where
  pub is_open : IsOpen n p a
  pub server_is : a.server ≡ server
  pub servers_is : a.servers ≡ servers

abbrev pub after : ℕ → ℕ
after generation = (generation + 1) % 2 ^ 32

-- This anchor is open, and where the other page is an open one of the same server, that one's generation is the one before.
pub record Counts (n : ℕ) (image : Image) (a : Anchor) : Type 0 where
  pub is_open : IsOpen n (page image a.page) a
  pub newest : (b : Anchor) → IsOwn a.server a.servers n (page image (1 - a.page)) b → a.generation ≡ after b.generation

-- the anchor that a switch from `a` to an area makes
abbrev pub next_anchor : Anchor → ℕ → Anchor
next_anchor a area = record a { page = 1 - a.page; generation = after a.generation; area = area }

-- a crash during a switch: the old anchor counts in an earlier outcome with only the other anchor's page touched, or the new one in what was read with only that page changed
abbrev pub Switching : ℕ → Anchor → ℕ → (Image → Type 0) → Image → Image → Type 0
Switching n old area may_leave seen c =
    (Counts n c old × ((d : Image) × may_leave d × SameBut (1 - old.page) d c)) ⊎ (Counts n c (next_anchor old area) × SameBut (1 - old.page) seen c)

-- the new anchor counts, all of it on the disk
pub record Switched (n : ℕ) (old : Anchor) (area : ℕ) (was now : Image) (may_leave : Image → Type 0) : Type 0 where
  pub counts : Counts n now (next_anchor old area)
  pub others : SameBut (1 - old.page) was now
  pub durable : Only now may_leave
