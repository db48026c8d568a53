-- a file of one page and its owner, as tests commit and drop them
use Rattle.std.specs.Prelude.{cond, Bool, true, false, Option, None, Some}
use Rattle.std.specs.FinMap as map
use Rattle.std.specs.FinMap.{get-insert, get-empty}
use Rattle.std.specs.Ordering.{eq_by_cmp}
use Rattle.std.proofs.Common.{◌≡◌, ℕ, ◌≤◌, List, [], ◌∷◌, length, sum_by, refl, sym, ◌∙◌, ap, subst, arith}
use Rattle.alp_base.specs.declared.ids.FileId.{FileId}
use Rattle.alp_base.specs.declared.key.Key.{Key}
use Rattle.alp_base.specs.declared.faults.Sizes.{Sizes}
use Rattle.alp_base.specs.declared.key.Key.TheVariants.{Leader, OwnerOf}
use Rattle.alp_base.specs.Keys.{key_cmp}
use Rattle.alp_base.specs.KeyLaws.{keys_total}
use Rattle.alp_base.specs.declared.cell.Cell.{Cell}
use Rattle.alp_base.specs.declared.cell.Cell.TheVariants as cell
use Rattle.alp_base.specs.declared.cell.OwnerRecord.{OwnerRecord}
use Rattle.alp_files.specs.Cells.{Cells}
use Rattle.alp_files.specs.Edits.{Edit, Put, after, edits_map, edit_map}
use Rattle.alp_files.specs.Files.{AreFiles, charge_of, cost}
use Rattle.alp_files.specs.Sound.{AreSound}
use Rattle.alp_files.proofs.ChargeLemmas.{charge-owner}
use Rattle.alp_files.proofs.FilesLemmas.{files-put_owner}
use Rattle.alp_files.proofs.HistoryLemmas.{get-edits_map}
use Rattle.alp_files.proofs.SoundLemmas.{empty_sound}
use Rattle.alp_vault.proofs.CountLemmas.{none_held, counts-none, counts-new}
use Rattle.alp_files.specs.Changes.{edits_of}
use Rattle.alp_files.specs.Counts.{owner_names_of}
use Rattle.alp_vault.specs.Owners.{with_owner}
use Rattle.alp_vault.specs.Volumes.{IsVolumeOf}
use Rattle.alp_vault.proofs.OwnerLemmas.{owners-put}
use Rattle.alp_vault.proofs.VolumeLemmas.{no_owners}
use Rattle.alp_base.specs.declared.change.Change.{Change}

-- one edit of a map, seen at each key
one : (e : Edit) (m : Cells) → map.get (edit_map e m) ≡ after (e ∷ []) (map.get m)
one e m = get-edits_map (e ∷ []) m

abbrev charge_or : ℕ → Option Cell → ℕ
charge_or d (Some (cell.Owner o)) = o.charge
charge_or d (Some (cell.Page bytes)) = d
charge_or d (Some (cell.Leader p)) = d
charge_or d None = d

owner_put : (m : Cells) (o : OwnerRecord) → AreFiles (map.get m) → AreFiles (map.get (edit_map (Put (OwnerOf o.name) (cell.Owner o)) m))
owner_put m o files = subst AreFiles (sym (one (Put (OwnerOf o.name) (cell.Owner o)) m)) (files-put_owner (map.get m) o.name o refl files)

-- one owner, who is charged for nothing, and no more
pub sound_owner : (o : OwnerRecord) → o.charge ≡ 0 → AreSound (edit_map (Put (OwnerOf o.name) (cell.Owner o)) map.empty)
sound_owner o none = (owner_put map.empty o empty_sound.0, λ x r is. free x r (sym (get-insert keys_total map.empty (OwnerOf o.name) (cell.Owner o) (OwnerOf x)) ∙ is) ∙ sym (nothing x))
  where
    nothing : (x : List ℕ) → charge_of (edit_map (Put (OwnerOf o.name) (cell.Owner o)) map.empty) x ≡ 0
    nothing x = charge-owner map.empty empty_sound.0.kinds o.name o x ∙ ap (sum_by (λ (e : Key × Cell). cost x e.1)) none_held

    free : (x : List ℕ) (r : OwnerRecord) → cond (eq_by_cmp key_cmp (OwnerOf x) (OwnerOf o.name)) (Some (cell.Owner o)) (map.get (map.empty {X = Cell} {R = key_cmp}) (OwnerOf x)) ≡ Some (cell.Owner r) → r.charge ≡ 0
    free x r is = go (eq_by_cmp key_cmp (OwnerOf x) (OwnerOf o.name)) is
      where
        go : (t : Bool) → cond t (Some (cell.Owner o)) (map.get (map.empty {X = Cell} {R = key_cmp}) (OwnerOf x)) ≡ Some (cell.Owner r) → r.charge ≡ 0
        go true e = sym (ap (charge_or 0) e) ∙ none
        go false e = let wrong : None ≡ Some (cell.Owner r) = sym (get-empty key_cmp (OwnerOf x)) ∙ e in cc

-- a volume has room for one owner
pub volume_owner : (s : Sizes) (o : OwnerRecord) → 512 ≤ s.home → o.charge ≡ 0 → IsVolumeOf s (edit_map (Put (OwnerOf o.name) (cell.Owner o)) map.empty)
volume_owner s o home none =
    let counts = counts-new 0 0 map.empty (OwnerOf o.name) (cell.Owner o) counts-none (get-empty key_cmp (OwnerOf o.name)) in
    let named : owner_names_of (map.insert map.empty (OwnerOf o.name) (cell.Owner o)) ≡ o.name ∷ [] = owners-put map.empty (OwnerOf o.name) (cell.Owner o) ∙ ap (with_owner (Some o.name)) no_owners in
    record {
      sound = sound_owner o none;
      fits = record {
        places = omega (arith, counts.of_places, home);
        files = omega (arith, counts.of_files);
        owners = omega (arith, ap (λ (ns : List (List ℕ)). length ns) named);
        sizes = λ f p is. (
            let wrong : None ≡ Some (cell.Leader p) = sym (get-empty key_cmp (Leader f)) ∙ sym (get-insert keys_total map.empty (OwnerOf o.name) (cell.Owner o) (Leader f)) ∙ is in
            cc);
      };
    }

pub change_room : (c : Change) (o : OwnerRecord) → o.charge ≡ 0 → c.drops ≡ [] → c.cuts ≡ [] → c.puts ≡ (OwnerOf o.name, cell.Owner o) ∷ [] → (s : Sizes) → 512 ≤ s.home → IsVolumeOf s (edits_map (edits_of c) map.empty)
change_room c o none drops cuts puts s home =
    subst (λ (fs : List FileId). IsVolumeOf s (edits_map (edits_of (record { drops = fs; cuts = c.cuts; puts = c.puts })) map.empty)) (sym drops)
    (subst (λ (cs : List (FileId × ℕ)). IsVolumeOf s (edits_map (edits_of (record { drops = []; cuts = cs; puts = c.puts })) map.empty)) (sym cuts)
    (subst (λ (ps : List (Key × Cell)). IsVolumeOf s (edits_map (edits_of (record { drops = []; cuts = []; puts = ps })) map.empty)) (sym puts) (volume_owner s o home none)))
