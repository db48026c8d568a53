-- changes of files leave files sound
use Rattle.std.specs.Prelude.{Bool, cond, Option, None, Some, is_some, ◌-◌}
use Rattle.std.specs.List.{IsDistinct}
use Rattle.std.specs.FinMap as map
use Rattle.std.proofs.Common.{◌≡◌, ℕ, ◌+◌, ◌<◌, List, [], ◌∷◌, refl, sym, ◌∙◌, ap, subst, arith}
use Rattle.alp_base.specs.declared.ids.FileId.{FileId}
use Rattle.alp_base.specs.declared.key.Key.TheVariants.{Leader, PageOf, OwnerOf}
use Rattle.alp_base.specs.declared.cell.Cell.{Cell}
use Rattle.alp_base.specs.declared.cell.Cell.TheVariants as cell
use Rattle.alp_base.specs.declared.cell.Props.{Props}
use Rattle.alp_base.specs.declared.cell.OwnerRecord.{OwnerRecord}
use Rattle.alp_files.specs.Cells.{Cells, owner_in}
use Rattle.alp_files.specs.Edits.{Drop, Cut, Put, edit_map, edits_map}
use Rattle.alp_files.specs.Sound.{AreSound}
use Rattle.alp_files.proofs.HistoryLemmas.{get-edit_map}
use Rattle.alp_files.proofs.FilesLemmas.{ArePagesBelow}
use Rattle.alp_files.proofs.SameLemmas.{same_key-itself}
use Rattle.alp_files.proofs.SoundEdits.{sound-create, sound-delete, sound-cut, sound-resize, sound-owner, sound-pages, uncharged, pages-below-cut}
use Rattle.alp_store_tests.specs.FileChanges.{IsFileChange, IsSized, IsCharged}

-- a new owner, who has no files
pub owner_comes : (m : Cells) (o : OwnerRecord) → o.charge ≡ 0 → map.get m (OwnerOf o.name) ≡ None
    → IsFileChange m (record { drops = []; cuts = []; puts = (OwnerOf o.name, cell.Owner o) ∷ [] })
unfolding IsDistinct
owner_comes m o free none = record {
  once = (tt, tt);
  sound = λ s. sound-owner m s o.name o refl (free ∙ sym (uncharged m s o.name (ap (λ x. is_some (owner_in x)) none)));
}

-- a file that goes
pub file_goes : (m : Cells) (f : FileId) (owner : List ℕ) (size : ℕ) (r : OwnerRecord) → 0 < size → IsSized owner size (map.get m (Leader f)) → IsCharged m owner size 0 r
    → IsFileChange m (record { drops = f ∷ []; cuts = []; puts = (OwnerOf owner, cell.Owner r) ∷ [] })
unfolding IsDistinct
file_goes m f owner size r stands sized charged = record { once = (tt, tt); sound = λ s. go s (map.get m (Leader f)) refl sized }
  where
    go : AreSound m → (x : Option Cell) → map.get m (Leader f) ≡ x → IsSized owner size x → AreSound (edits_map (Drop f ∷ Put (OwnerOf owner) (cell.Owner r) ∷ []) m)
    go s None e h = absurd (omega (arith, stands, h))
    go s (Some (cell.Page bytes)) e h = absurd h
    go s (Some (cell.Owner o)) e h = absurd h
    go s (Some (cell.Leader p)) e h =
        let o : OwnerRecord = charged.was in
        let left : o.charge - p.size ≡ r.charge = omega (arith, charged.sum, h.1) in
        let new : record o { charge = o.charge - p.size } ≡ r = (λ i. record o { charge = left i }) ∙ sym charged.same in
        subst (λ (x : List ℕ × OwnerRecord). AreSound (edits_map (Drop f ∷ Put (OwnerOf x.0) (cell.Owner x.1) ∷ []) m)) (λ i. (h.0 i, new i))
        (sound-delete m s f p o e (ap (λ n. map.get m (OwnerOf n)) h.0 ∙ charged.there))

-- a file that comes, or gets another size, and a page below it
pub file_written : (m : Cells) (f : FileId) (size : ℕ) (q : Props) (r : OwnerRecord) (n : ℕ) (bytes : List ℕ) → n < q.size → IsSized q.owner size (map.get m (Leader f)) → IsCharged m q.owner size q.size r
    → IsFileChange m (record { drops = []; cuts = (f, q.size) ∷ []; puts = (Leader f, cell.Leader q) ∷ (OwnerOf q.owner, cell.Owner r) ∷ (PageOf f n, cell.Page bytes) ∷ [] })
unfolding IsDistinct
file_written m f size q r n bytes within sized charged = record {
  once = ((refl, (refl, tt)), ((refl, tt), (tt, tt)));
  sound = λ s. sound-pages f q (bytes ∷ []) n _ (go (sound-cut m s f q.size) (pages-below-cut m s f q.size) (map.get m (Leader f)) refl sized) leads (omega (arith, within));
}
  where
    cut : Cells
    cut = edit_map (Cut f q.size) m

    led : Cells
    led = edit_map (Put (Leader f) (cell.Leader q)) cut

    leads : map.get (edit_map (Put (OwnerOf q.owner) (cell.Owner r)) led) (Leader f) ≡ Some (cell.Leader q)
    leads = get-edit_map (Put (OwnerOf q.owner) (cell.Owner r)) led (Leader f) ∙ get-edit_map (Put (Leader f) (cell.Leader q)) cut (Leader f)
        ∙ ap (λ (b : Bool). cond b (Some (cell.Leader q)) (map.get cut (Leader f))) (same_key-itself (Leader f))

    there : map.get cut (OwnerOf q.owner) ≡ Some (cell.Owner charged.was)
    there = get-edit_map (Cut f q.size) m (OwnerOf q.owner) ∙ charged.there

    go : AreSound cut → ArePagesBelow (map.get cut) f q.size → (x : Option Cell) → map.get m (Leader f) ≡ x → IsSized q.owner size x → AreSound (edit_map (Put (OwnerOf q.owner) (cell.Owner r)) led)
    go s below None e h =
        let more : charged.was.charge + q.size ≡ r.charge = omega (arith, charged.sum, h) in
        subst (λ (o : OwnerRecord). AreSound (edit_map (Put (OwnerOf q.owner) (cell.Owner o)) led)) ((λ i. record charged.was { charge = more i }) ∙ sym charged.same)
        (sound-create cut s f q charged.was (get-edit_map (Cut f q.size) m (Leader f) ∙ e) there)
    go s below (Some (cell.Page b)) e h = absurd h
    go s below (Some (cell.Owner o)) e h = absurd h
    go s below (Some (cell.Leader p)) e h =
        subst (λ (x : List ℕ × OwnerRecord). AreSound (edit_map (Put (OwnerOf x.0) (cell.Owner x.1)) led)) (λ i. (h.0 i, sym charged.same i))
        (sound-resize cut s f p q charged.was r.charge (get-edit_map (Cut f q.size) m (Leader f) ∙ e) (sym h.0) (ap (λ x. map.get cut (OwnerOf x)) h.0 ∙ there) below (omega (arith, charged.sum, h.1)))
