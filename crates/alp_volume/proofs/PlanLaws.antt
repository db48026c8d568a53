-- From cells that pages stand for to those of a change.
use Rattle.std.specs.Prelude.{Bool, true, false, ◌&&◌, is_some, nat_lt, Option, None, Some, option_map}
use Rattle.std.specs.List.{AllByRecursion, list_all}
use Rattle.std.specs.FinMap as map
use Rattle.std.specs.FinMap.{get-empty}
use Rattle.std.specs.Ordering.{nat_cmp}
use Rattle.std.proofs.Common.{◌≡◌, ℕ, ◌<◌, ◌≤◌, List, [], ◌∷◌, refl, sym, ◌∙◌, ap, subst, arith}
use Rattle.std.proofs.lemmas.Bool.{ltb-true}
use Rattle.alp_base.specs.declared.ids.FileId.{FileId}
use Rattle.alp_base.specs.declared.key.Key.TheVariants.{Leader, PageOf}
use Rattle.alp_fields.specs.Forms.{whole}
use Rattle.alp_base.specs.declared.cell.Cell.{Cell}
use Rattle.alp_base.specs.declared.cell.Cell.TheVariants as cell
use Rattle.alp_base.specs.declared.cell.Props.{Props}
use Rattle.alp_base.specs.declared.change.Change.{Change}
use Rattle.alp_files.specs.Cells.{Cells, View}
use Rattle.alp_files.specs.Changes.{edits_of}
use Rattle.alp_files.specs.Edits.{after, edits_map}
use Rattle.alp_files.specs.Files.{AreFiles}
use Rattle.alp_files.specs.Sound.{AreSound}
use Rattle.alp_files.proofs.HistoryLemmas.{get-edits_map}
use Rattle.alp_pages.specs.declared.leader.Leader.{Leader as LeaderRecord}
use Rattle.alp_pages.specs.Leader.{leader_page}
use Rattle.alp_volume.specs.declared.catalog.Catalog.{Catalog}
use Rattle.alp_volume.specs.Drafts.{ArePaged, Changed, HaveLeaders, IsDraft, IsPlanned, laid, page_or}
use Rattle.alp_volume.specs.Known.{Knows}
use Rattle.alp_pages.specs.Nodes.{LeaderOf}
use Rattle.alp_pages.specs.Pages.{Pages}
use Rattle.alp_pages.specs.Volume.{Spells, StandFor, props_cell}
use Rattle.alp_pages.proofs.LeaderLaws.{leader_size}

-- a page that stands has a leader whose size is above its number
paged : (m : View) → AreFiles m → (f : FileId) (n : ℕ) (o : Option Cell) → m (PageOf f n) ≡ o → is_some o ≡ true → (p : Props) × (m (Leader f) ≡ Some (cell.Leader p)) × (n < p.size)
paged m files f n None e h = cc
paged m files f n (Some x) e h = files.paged f n x e

-- sizes are within the limit of a leader's page
within : (home : ℕ) (at : Pages) (m : Cells) (stands : StandFor home at m) (f : FileId) (p : Props) → map.get m (Leader f) ≡ Some (cell.Leader p) → p.size ≤ 4096
within home at m stands f p is = go (stands.volume.places.of (LeaderOf f)) refl
  where
    size : (bytes : List ℕ) (o : Option LeaderRecord) → whole leader_page bytes ≡ o → option_map props_cell o ≡ Some (cell.Leader p) → p.size ≤ 4096
    size bytes None e h = cc
    size bytes (Some l) e h = let same : l.props ≡ p = cc in subst (λ (x : Props). x.size ≤ 4096) same (leader_size bytes l e)

    go : (o : Option ℕ) → stands.volume.places.of (LeaderOf f) ≡ o → p.size ≤ 4096
    go None e = let wrong : is_some (stands.volume.places.of (LeaderOf f)) ≡ true = stands.spells.shape.leaders f ∙ ap is_some is in cc
    go (Some q) e = size (at q) (whole leader_page (at q)) refl (sym (stands.spells.leaders f q e) ∙ is)

pub starts_paged : (home : ℕ) (at : Pages) (m : Cells) → StandFor home at m → HaveLeaders (map.get m)
starts_paged home at m stands f n h =
    let p = paged (map.get m) stands.sound.0 f n (map.get m (PageOf f n)) refl h in
    let small = within home at m stands f p.0 p.1 in
    (omega (arith, p.2, small), ap is_some p.1)

pub ends_paged : (m : Cells) (change : Change) → AreSound (edits_map (edits_of change) m) → ArePaged (after (edits_of change) (map.get m))
ends_paged m change sound = subst ArePaged (get-edits_map (edits_of change) m) (λ f n h. ap is_some (paged (map.get (edits_map (edits_of change) m)) sound.0 f n (map.get (edits_map (edits_of change) m) (PageOf f n)) refl h).1)

-- nothing is changed yet
laid_none : (base : Pages) → laid map.empty base ≡ base
laid_none base = λ i q. ap (λ (o : Option (List ℕ)). page_or o (base q)) (get-empty nat_cmp q) i

pub first_draft : (home : ℕ) (base : Pages) (m : Cells) (stands : StandFor home base m) (c : Catalog) → Knows home stands.volume c → (pages : Changed) → pages ≡ map.empty → IsDraft home (laid pages base) (map.get m) c
first_draft home base m stands c knows pages none = record {
  volume = stands.volume;
  spells = subst (λ (y : Pages). Spells home y stands.volume (map.get m)) (sym (ap (λ (x : Changed). laid x base) none ∙ laid_none base)) stands.spells;
  knows = knows;
}

pub planned : (home : ℕ) (base : Pages) (pages : Changed) (m : Cells) (change : Change) (c : Catalog) → AreSound (edits_map (edits_of change) m) → IsDraft home (laid pages base) (after (edits_of change) (map.get m)) c → IsPlanned home (laid pages base) (edits_map (edits_of change) m) c
planned home base pages m change c sound d = record {
  stands = record {
    volume = d.volume;
    spells = subst (λ (v : View). Spells home (laid pages base) d.volume v) (sym (get-edits_map (edits_of change) m)) d.spells;
    sound = sound;
  };
  knows = d.knows;
}

-- ---- places of a plan

pub below_all : (home : ℕ) (xs : List ℕ) → list_all (λ at. nat_lt at home) xs ≡ true → AllByRecursion (λ at. at < home) xs
below_all home [] h = tt
below_all home (x ∷ xs) h = go (λ rest. below_all home xs rest) (nat_lt x home) refl h
  where
    go : (list_all (λ at. nat_lt at home) xs ≡ true → AllByRecursion (λ at. at < home) xs) → (t : Bool) → nat_lt x home ≡ t → (t && list_all (λ at. nat_lt at home) xs) ≡ true → (x < home) × AllByRecursion (λ at. at < home) xs
    go more true e rest = (ltb-true x home e, more rest)
    go more false e rest = cc
