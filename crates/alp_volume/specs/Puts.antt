-- The puts of a change in two turns: first the leaders and owners, then the pages.
use Rattle.std.specs.Prelude.{◌≡◌, ◌<◌, ℕ, Bool, true, false, is_some, List, [], ◌∷◌, length, if◌then◌else◌}
use Rattle.alp_base.specs.declared.ids.FileId.{FileId}
use Rattle.alp_base.specs.declared.key.Key.{Key}
use Rattle.alp_base.specs.declared.key.Key.TheVariants.{Leader, PageOf, OwnerOf}
use Rattle.alp_base.specs.declared.cell.Cell.{Cell}
use Rattle.alp_files.specs.Cells.{View}
use Rattle.alp_files.specs.Edits.{Put, after}

abbrev pub is_page : Key → Bool
is_page (Leader f) = false
is_page (PageOf f n) = true
is_page (OwnerOf o) = false

-- what a put makes in the first turn
abbrev pub head_made : Key × Cell → View → View
head_made p m = if is_page p.0 then m else after (Put p.0 p.1 ∷ []) m

-- what it makes in the second
abbrev pub page_made : Key × Cell → View → View
page_made p m = if is_page p.0 then after (Put p.0 p.1 ∷ []) m else m

abbrev pub heads_made : List (Key × Cell) → View → View
heads_made [] m = m
heads_made (p ∷ ps) m = heads_made ps (head_made p m)

abbrev pub pages_made : List (Key × Cell) → View → View
pages_made [] m = m
pages_made (p ∷ ps) m = pages_made ps (page_made p m)

-- a page that is put is one of a file that is there
abbrev pub HasLeader : View → Key → Type 0
HasLeader m (Leader f) = Unit {0}
HasLeader m (PageOf f n) = is_some (m (Leader f)) ≡ true
HasLeader m (OwnerOf o) = Unit {0}

abbrev pub HaveLeadersPut : View → List (Key × Cell) → Type 0
HaveLeadersPut m [] = Unit {0}
HaveLeadersPut m (p ∷ ps) = HasLeader m p.0 × HaveLeadersPut m ps

-- the most pages that a put changes in each turn
abbrev pub head_pages : Key × Cell → ℕ
head_pages p = if is_page p.0 then 0 else 3

abbrev pub page_pages : Key × Cell → ℕ
page_pages p = if is_page p.0 then 3 else 0
