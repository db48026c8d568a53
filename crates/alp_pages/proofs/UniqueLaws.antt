-- Home pages stand for one map of cells at most.
use Rattle.std.specs.Prelude.{is_some, Option, None, Some, option_map, slice_index_or}
use Rattle.std.specs.Option.{option_and_then}
use Rattle.std.specs.FinMap as map
use Rattle.std.specs.FinMap.{same_map}
use Rattle.std.proofs.Common.{◌≡◌, ℕ, ◌<◌, ◌+◌, ◌*◌, ◌/◌, ◌%◌, List, refl, sym, ◌∙◌, ap, arith}
use Rattle.alp_base.specs.declared.ids.FileId.{FileId}
use Rattle.alp_base.specs.declared.key.Key.{Key}
use Rattle.alp_base.specs.declared.key.Key.TheVariants.{Leader, PageOf, OwnerOf}
use Rattle.alp_base.specs.KeyLaws.{keys_total, exact_keys}
use Rattle.alp_fields.specs.Forms.{whole}
use Rattle.alp_base.specs.declared.cell.Cell.{Cell}
use Rattle.alp_base.specs.declared.cell.Cell.TheVariants as cell
use Rattle.alp_base.specs.declared.cell.OwnerRecord.{OwnerRecord}
use Rattle.alp_base.specs.declared.cell.Props.{Props}
use Rattle.alp_files.specs.Cells.{View, Cells, owner_in}
use Rattle.alp_files.specs.Files.{AreFiles}
use Rattle.alp_pages.specs.Leader.{leader_page}
use Rattle.alp_pages.specs.declared.leader.Leader.{Leader as LeaderRecord}
use Rattle.alp_pages.specs.declared.entry.Entry.{Entry}
use Rattle.alp_pages.specs.Naming.{number_or_0}
use Rattle.alp_pages.specs.Nodes.{Node, LeaderOf, IndexOf, DataOf}
use Rattle.alp_pages.specs.Pages.{Pages}
use Rattle.alp_pages.specs.Rows.{SpellsRow}
use Rattle.alp_pages.specs.Volume.{Volume, Spells, StandFor, nodes, entry_for, record_for, props_cell}
use Rattle.alp_pages.proofs.FetchLaws.{there_is}
use Rattle.alp_pages.proofs.LeaderLaws.{leader_size}

pub some_is : {A : Type 0} (a b : A) → ◌≡◌ {A = Option A} (Some a) (Some b) → a ≡ b
some_is a b e = cc

-- a place that is named is not 0
pub number : (o : Option ℕ) (p : ℕ) → number_or_0 o ≡ p → 0 < p → o ≡ Some p
number None p h some = absurd (omega arith)
number (Some q) p h some = ap Some h

-- what one spelling has, the other has
module _ (home : ℕ) (at : Pages) (v w : Volume) (m k : View) (a : Spells home at v m) (b : Spells home at w k) where
  above : (x : Node) (p : ℕ) → v.places.of x ≡ Some p → 0 < p
  above x p h = let least = a.shape.places.least x p h in omega arith

  pub leader_place : (f : FileId) (p : ℕ) → v.places.of (LeaderOf f) ≡ Some p → w.places.of (LeaderOf f) ≡ Some p
  leader_place f p h =
      let slot = there_is (v.slots.of f) (a.shape.files f ∙ sym (a.shape.leaders f) ∙ ap is_some h) in
      let few : slot.0 < 4096 = a.shape.slots.most f slot.0 slot.1 in
      let here : v.slots.at slot.0 ≡ Some f = a.shape.slots.there f slot.0 slot.1 in
      let says : option_map (entry_for w) (w.slots.at slot.0) ≡ option_map (entry_for v) (v.slots.at slot.0) = some_is _ _ (sym (b.directory slot.0 few) ∙ a.directory slot.0 few) in
      go (w.slots.at slot.0) (says ∙ ap (option_map (entry_for v)) here)
    where
      go : (o : Option FileId) → option_map (entry_for w) o ≡ Some (entry_for v f) → w.places.of (LeaderOf f) ≡ Some p
      go None e = cc
      go (Some g) e =
          let same : entry_for w g ≡ entry_for v f = some_is (entry_for w g) (entry_for v f) e in
          let file : g ≡ f = ap (λ (x : Entry). x.file) same in
          let place : number_or_0 (w.places.of (LeaderOf g)) ≡ p = ap (λ (x : Entry). x.place) same ∙ ap number_or_0 h in
          number (w.places.of (LeaderOf f)) p (ap (λ (x : FileId). number_or_0 (w.places.of (LeaderOf x))) (sym file) ∙ place) (above (LeaderOf f) p h)

  -- where a node stands in both, so do its children
  pub child_place : (x : Node) (p j q : ℕ) → v.places.of x ≡ Some p → w.places.of x ≡ Some p → j < nodes.width x → v.places.of (nodes.child x j) ≡ Some q → w.places.of (nodes.child x j) ≡ Some q
  child_place x p j q here there few e =
      let one : SpellsRow nodes v.places (at p) x = a.rows x p here in
      let two : SpellsRow nodes w.places (at p) x = b.rows x p there in
      let same : one.row ≡ two.row = some_is _ _ (sym one.reads ∙ two.reads) in
      number (w.places.of (nodes.child x j)) q (sym (two.says j few) ∙ ap (λ (r : List ℕ). slice_index_or r j 0) (sym same) ∙ one.says j few ∙ ap number_or_0 e) (above (nodes.child x j) q e)

  pub page_place : (f : FileId) (n p q : ℕ) → v.places.of (LeaderOf f) ≡ Some p → n < 4096 → v.places.of (DataOf f n) ≡ Some q → w.places.of (DataOf f n) ≡ Some q
  page_place f n p q h few e =
      let i = there_is (v.places.of (IndexOf f (n / 128))) (a.shape.block f n q e) in
      let there = child_place (LeaderOf f) p (n / 128) i.0 h (leader_place f p h) (omega arith) i.1 in
      let whole_number : 128 * (n / 128) + n % 128 ≡ n = omega arith in
      ap (λ (x : ℕ). w.places.of (DataOf f x)) (sym whole_number)
      ∙ child_place (IndexOf f (n / 128)) i.0 (n % 128) q i.1 there (omega arith) (ap (λ (x : ℕ). v.places.of (DataOf f x)) whole_number ∙ e)

  same_leaders : (f : FileId) (c : Cell) → m (Leader f) ≡ Some c → k (Leader f) ≡ Some c
  same_leaders f c h =
      let p = there_is (v.places.of (LeaderOf f)) (a.shape.leaders f ∙ ap is_some h) in
      b.leaders f p.0 (leader_place f p.0 p.1) ∙ sym (a.leaders f p.0 p.1) ∙ h

  module _ (files : AreFiles m) (others : AreFiles k) where
    pub page_below : (f : FileId) (n : ℕ) (c : Cell) → m (PageOf f n) ≡ Some c → n < 4096
    page_below f n c h =
        let file = files.paged f n c h in
        let p = there_is (v.places.of (LeaderOf f)) (a.shape.leaders f ∙ ap is_some file.1) in
        go (at p.0) file.0 (whole leader_page (at p.0)) refl (sym (a.leaders f p.0 p.1) ∙ file.1) file.2
      where
        go : (bytes : List ℕ) (p : Props) (o : Option LeaderRecord) → whole leader_page bytes ≡ o → option_map props_cell o ≡ Some (cell.Leader p) → n < p.size → n < 4096
        go bytes p None e is low = cc
        go bytes p (Some l) e is low =
            let props : l.props ≡ p = cc in
            let size : l.props.size ≡ p.size = ap (λ (x : Props). x.size) props in
            omega (arith, leader_size bytes l e, size, low)

    same_pages : (f : FileId) (n : ℕ) (c : Cell) → m (PageOf f n) ≡ Some c → k (PageOf f n) ≡ Some c
    same_pages f n c h =
        let file = files.paged f n c h in
        let p = there_is (v.places.of (LeaderOf f)) (a.shape.leaders f ∙ ap is_some file.1) in
        let q = there_is (v.places.of (DataOf f n)) (a.shape.pages f n ∙ ap is_some h) in
        b.pages f n q.0 (page_place f n p.0 q.0 p.1 (page_below f n c h) q.1) ∙ sym (a.pages f n q.0 q.1) ∙ h

    -- a record in a row is the other's cell under its own name
    row_owner : (o : List ℕ) (r : OwnerRecord) (x : Option (List ℕ)) → r.name ≡ o → option_and_then (record_for k) x ≡ Some r → k (OwnerOf o) ≡ Some (cell.Owner r)
    row_owner o r None own e = cc
    row_owner o r (Some name) own e = there (k (OwnerOf name)) refl e
      where
        there : (d : Option Cell) → k (OwnerOf name) ≡ d → owner_in d ≡ Some r → k (OwnerOf o) ≡ Some (cell.Owner r)
        there None is e2 = cc
        there (Some (cell.Leader p)) is e2 = cc
        there (Some (cell.Page bytes)) is e2 = cc
        there (Some (cell.Owner r2)) is e2 =
            let same : r2 ≡ r = some_is r2 r e2 in
            let its : r2.name ≡ name = others.kinds (OwnerOf name) (cell.Owner r2) is in
            let names : name ≡ o = sym its ∙ ap (λ (x : OwnerRecord). x.name) same ∙ own in
            ap (λ (x : List ℕ). k (OwnerOf x)) (sym names) ∙ is ∙ ap (λ (x : OwnerRecord). Some (cell.Owner x)) same

    same_owners : (o : List ℕ) (c : Cell) → m (OwnerOf o) ≡ Some c → k (OwnerOf o) ≡ Some c
    same_owners o (cell.Leader p) h = absurd (files.kinds (OwnerOf o) (cell.Leader p) h)
    same_owners o (cell.Page bytes) h = absurd (files.kinds (OwnerOf o) (cell.Page bytes) h)
    same_owners o (cell.Owner r) h =
        let row = there_is (v.rows.of o) (a.shape.owners o ∙ ap is_some h) in
        let few : row.0 < 256 = a.shape.rows.most o row.0 row.1 in
        let here : v.rows.at row.0 ≡ Some o = a.shape.rows.there o row.0 row.1 in
        let says : option_and_then (record_for k) (w.rows.at row.0) ≡ option_and_then (record_for m) (v.rows.at row.0) = some_is _ _ (sym (b.owners row.0 few) ∙ a.owners row.0 few) in
        row_owner o r (w.rows.at row.0) (files.kinds (OwnerOf o) (cell.Owner r) h) (says ∙ ap (option_and_then (record_for m)) here ∙ ap owner_in h)

    -- each cell of the one is the other's
    pub same_cells : (q : Key) (c : Cell) → m q ≡ Some c → k q ≡ Some c
    same_cells (Leader f) c h = same_leaders f c h
    same_cells (PageOf f n) c h = same_pages f n c h
    same_cells (OwnerOf o) c h = same_owners o c h

both : {A : Type 0} (x y : Option A) → ((c : A) → x ≡ Some c → y ≡ Some c) → ((c : A) → y ≡ Some c → x ≡ Some c) → x ≡ y
both None None f g = refl
both None (Some y) f g = g y refl
both (Some x) y f g = sym (f x refl)

pub one_map : (home : ℕ) (at : Pages) (m k : Cells) → StandFor home at m → StandFor home at k → m ≡ k
one_map home at m k a b = same_map keys_total exact_keys m k (λ q.
    both (map.get m q) (map.get k q)
    (same_cells home at a.volume b.volume (map.get m) (map.get k) a.spells b.spells a.sound.0 b.sound.0 q)
    (same_cells home at b.volume a.volume (map.get k) (map.get m) b.spells a.spells b.sound.0 a.sound.0 q))
