-- A change of a volume that is being made.
use Rattle.std.specs.Prelude.{◌≡◌, ◌≤◌, ◌<◌, ℕ, true, is_some, List, Option, None, Some}
use Rattle.std.specs.List.{AllByRecursion}
use Rattle.std.specs.FinMap as map
use Rattle.std.specs.FinMap.{FinMap}
use Rattle.std.specs.Ordering.{nat_cmp}
use Rattle.alp_base.specs.declared.ids.FileId.{FileId}
use Rattle.alp_base.specs.declared.key.Key.TheVariants.{Leader, PageOf}
use Rattle.alp_fields.specs.Forms.{whole}
use Rattle.alp_files.specs.Cells.{Cells, View}
use Rattle.alp_pages.specs.declared.leader.Leader.{Leader as LeaderRecord}
use Rattle.alp_pages.specs.Leader.{leader_page}
use Rattle.alp_volume.specs.declared.catalog.Catalog.{Catalog}
use Rattle.alp_volume.specs.Known.{IsCatalog, Knows}
use Rattle.alp_pages.specs.Nodes.{LeaderOf}
use Rattle.alp_pages.specs.Pages.{Pages}
use Rattle.alp_pages.specs.Volume.{Volume, Spells, StandFor}

-- pages that a change has made, by their places
abbrev pub Changed : Type 0
Changed = FinMap nat_cmp (List ℕ)

abbrev pub page_or : Option (List ℕ) → List ℕ → List ℕ
page_or None old = old
page_or (Some new) old = new

-- how many pages of a change there are beside that one
abbrev pub len_beside : ℕ → Changed → ℕ
len_beside p new = map.len (map.remove new p)

-- all pages of a change are pages of a volume that has so many
abbrev pub AreBelow : ℕ → Changed → Type 0
AreBelow home new = AllByRecursion (λ at. at < home) (map.keys new)

-- the pages of the change over those of the volume
abbrev pub laid : Changed → Pages → Pages
laid new pages q = page_or (map.get new q) (pages q)

-- the pages spell a volume of these cells, and memory has what it is to know of it
pub record IsDraft (home : ℕ) (at : Pages) (m : View) (c : Catalog) : Type 0 where
  pub volume : Volume
  pub spells : Spells home at volume m
  pub knows : Knows home volume c

-- The same of a file whose pages go: its leader stands there, and this is what it says.
pub record IsCutting (home : ℕ) (at : Pages) (m : View) (c : Catalog) (f : FileId) (place : ℕ) (l : LeaderRecord) : Type 0 where
  pub draft : IsDraft home at m c
  pub there : draft.volume.places.of (LeaderOf f) ≡ Some place
  pub reads : whole leader_page (at place) ≡ Some l

-- no page of the file stands from this number on
abbrev pub HasNoneFrom : FileId → ℕ → View → Type 0
HasNoneFrom f from m = (n : ℕ) → from ≤ n → m (PageOf f n) ≡ None

-- each page that stands has a leader, and a number that a page of a file may have
abbrev pub HaveLeaders : View → Type 0
HaveLeaders m = (f : FileId) (n : ℕ) → is_some (m (PageOf f n)) ≡ true → (n < 4096) × (is_some (m (Leader f)) ≡ true)

-- each page that stands has a leader
abbrev pub ArePaged : View → Type 0
ArePaged m = (f : FileId) (n : ℕ) → is_some (m (PageOf f n)) ≡ true → is_some (m (Leader f)) ≡ true

-- the pages stand for these cells, and memory has what it is to know of them
pub record IsPlanned (home : ℕ) (at : Pages) (m : Cells) (c : Catalog) : Type 0 where
  pub stands : StandFor home at m
  pub knows : Knows home stands.volume c
