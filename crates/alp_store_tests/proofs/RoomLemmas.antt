-- a change of few cells, where there are few, leaves what any volume has room for
use Rattle.std.specs.Prelude.{Bool, true, false, not, ◌&&◌, cond, sum_by, Some, map as list_map}
use Rattle.std.specs.List.{filter_map}
use Rattle.std.specs.FinMap as map
use Rattle.std.specs.FinMap.{len-insert, len-empty}
use Rattle.std.proofs.Common.{◌≡◌, ℕ, ◌+◌, ◌≤◌, List, [], ◌∷◌, ◌++◌, length, refl, ap, arith}
use Rattle.std.proofs.lemmas.Bool.{leb-true}
use Rattle.std.proofs.lemmas.List.Sums.{sum_by-cons, sum_by-le-sum_by}
use Rattle.alp_base.specs.Keys.{key_cmp}
use Rattle.alp_base.specs.KeyLaws.{keys_total, exact_keys}
use Rattle.alp_base.specs.declared.faults.Sizes.{Sizes}
use Rattle.alp_base.specs.declared.ids.FileId.{FileId}
use Rattle.alp_base.specs.declared.key.Key.{Key}
use Rattle.alp_base.specs.declared.key.Key.TheVariants.{Leader, PageOf, OwnerOf}
use Rattle.alp_base.specs.declared.lists.TheConstants.{PAGES_PER_FILE}
use Rattle.alp_base.specs.declared.cell.Cell.{Cell}
use Rattle.alp_base.specs.declared.cell.Cell.TheVariants as cell
use Rattle.alp_base.specs.declared.cell.Props.{Props}
use Rattle.alp_base.specs.declared.change.Change.{Change}
use Rattle.alp_files.specs.Cells.{Cells}
use Rattle.alp_files.specs.Changes.{edits_of}
use Rattle.alp_files.specs.Counts.{files_at, places_at, block_of, blocks_of, used_of, name_at, owner_count_of}
use Rattle.alp_files.specs.Edits.{Drop, Cut, is_in_file, is_past, edit_map, edits_map}
use Rattle.alp_files.specs.Needs.{is_owner}
use Rattle.alp_files.specs.Sound.{AreSound}
use Rattle.alp_files.specs.Undo.{puts_of}
use Rattle.alp_files.proofs.SumLemmas.{sum_of, weight_at, sum-insert, sum-retain_keys, sum_of-nothing}
use Rattle.alp_vault.specs.Volumes.{IsVolumeOf, fits_key, fit_keys}
use Rattle.alp_vault.proofs.CountLemmas.{back_again, not_there_now}
use Rattle.alp_vault.proofs.VolumeLemmas.{held_fits}

-- ---- drops and cuts add no weight, and puts at most their own

module _ (w : Key × Cell → ℕ) where
  less : (m : Cells) (p : Key → Bool) → sum_of w (map.retain_keys m (λ k. not (p k))) ≤ sum_of w m
  less m p = omega (arith, sum-retain_keys keys_total exact_keys w m p)

  after_puts : (ps : List (Key × Cell)) (m : Cells) → sum_of w (edits_map (puts_of ps) m) ≤ sum_of w m + sum_by w ps
  after_puts [] m = omega arith
  after_puts (p ∷ ps) m = omega (arith, sum_by-cons w p ps, sum-insert keys_total exact_keys w m p.0 p.1, after_puts ps (map.insert m p.0 p.1))

  after_cuts : (cs : List (FileId × ℕ)) (ps : List (Key × Cell)) (m : Cells) → sum_of w (edits_map (list_map (λ p. Cut p.0 p.1) cs ++ puts_of ps) m) ≤ sum_of w m + sum_by w ps
  after_cuts [] ps m = after_puts ps m
  after_cuts (c ∷ cs) ps m = omega (arith, less m (is_past c.0 c.1), after_cuts cs ps (edit_map (Cut c.0 c.1) m))

  after_drops : (fs : List FileId) (cs : List (FileId × ℕ)) (ps : List (Key × Cell)) (m : Cells)
      → sum_of w (edits_map (list_map Drop fs ++ (list_map (λ p. Cut p.0 p.1) cs ++ puts_of ps)) m) ≤ sum_of w m + sum_by w ps
  after_drops [] cs ps m = after_cuts cs ps m
  after_drops (f ∷ fs) cs ps m = omega (arith, less m (is_in_file f), after_drops fs cs ps (edit_map (Drop f) m))

  changed : (c : Change) (m : Cells) → sum_of w (edits_map (edits_of c) m) ≤ sum_of w m + sum_by w c.puts
  changed c m = after_drops c.drops c.cuts c.puts m

-- ---- what there is, by the keys

abbrev place : Key × Cell → ℕ
place e = places_at e.0

abbrev owner : Key × Cell → ℕ
owner e = cond (is_owner e.0) 1 0

files_few : (e : Key × Cell) → files_at e.0 ≤ place e
files_few (Leader f, c) = omega arith
files_few (PageOf f n, c) = omega arith
files_few (OwnerOf name, c) = omega arith

one_more : (b : Bool) (n : ℕ) → cond b n (n + 1) ≤ n + 1
one_more true n = omega arith
one_more false n = omega arith

blocks_few : (es : List (Key × Cell)) → map.len (blocks_of es) ≤ sum_by place es
blocks_few [] = omega (arith, len-empty key_cmp (Unit {0}))
blocks_few ((Leader f, c) ∷ es) = omega (arith, blocks_few es, sum_by-cons place (Leader f, c) es)
blocks_few ((PageOf f n, c) ∷ es) =
    let block : Key = block_of f n in
    omega (arith, blocks_few es, sum_by-cons place (PageOf f n, c) es, len-insert keys_total (blocks_of es) block tt, one_more (map.contains_key (blocks_of es) block) (map.len (blocks_of es)))
blocks_few ((OwnerOf name, c) ∷ es) = omega (arith, blocks_few es, sum_by-cons place (OwnerOf name, c) es)

names_sum : (es : List (Key × Cell)) → length (filter_map name_at (list_map (λ e. e.0) es)) ≡ sum_by owner es
names_sum [] = refl
names_sum ((Leader f, c) ∷ es) = omega (arith, names_sum es, sum_by-cons owner (Leader f, c) es)
names_sum ((PageOf f n, c) ∷ es) = omega (arith, names_sum es, sum_by-cons owner (PageOf f n, c) es)
names_sum ((OwnerOf name, c) ∷ es) = omega (arith, names_sum es, sum_by-cons owner (OwnerOf name, c) es)

-- each put is of one cell, an owner's or of a place
puts_few : (ps : List (Key × Cell)) → sum_by place ps + sum_by owner ps ≡ length ps
puts_few [] = refl
puts_few ((Leader f, c) ∷ ps) = omega (arith, puts_few ps, sum_by-cons place (Leader f, c) ps, sum_by-cons owner (Leader f, c) ps)
puts_few ((PageOf f n, c) ∷ ps) = omega (arith, puts_few ps, sum_by-cons place (PageOf f n, c) ps, sum_by-cons owner (PageOf f n, c) ps)
puts_few ((OwnerOf name, c) ∷ ps) = omega (arith, puts_few ps, sum_by-cons place (OwnerOf name, c) ps, sum_by-cons owner (OwnerOf name, c) ps)

-- ---- cells that fit their keys

abbrev misfit : Key × Cell → ℕ
misfit e = cond (fits_key e.0 e.1) 0 1

puts_fit : (ps : List (Key × Cell)) → fit_keys ps ≡ true → sum_by misfit ps ≡ 0
puts_fit [] fit = refl
puts_fit (p ∷ ps) fit = go (fits_key p.0 p.1) fit (sum_by-cons misfit p ps) (puts_fit ps)
  where
    go : (b : Bool) → b && fit_keys ps ≡ true → sum_by misfit (p ∷ ps) ≡ cond b 0 1 + sum_by misfit ps → (fit_keys ps ≡ true → sum_by misfit ps ≡ 0) → sum_by misfit (p ∷ ps) ≡ 0
    go true rest sum more = omega (arith, sum, more rest)
    go false rest sum more = cc

sizes_small : (m : Cells) → sum_of misfit m ≡ 0 → (f : FileId) (p : Props) → map.get m (Leader f) ≡ Some (cell.Leader p) → p.size ≤ PAGES_PER_FILE
sizes_small m none f p is = go (fits_key (Leader f) (cell.Leader p)) refl
  where
    alone : misfit (Leader f, cell.Leader p) ≡ 0
    alone = omega (
      arith,
      none,
      ap (sum_of misfit) (back_again m (Leader f) (cell.Leader p) is),
      ap (weight_at misfit (Leader f)) (not_there_now m (Leader f)),
      sum-insert keys_total exact_keys misfit (map.remove m (Leader f)) (Leader f) (cell.Leader p),
    )

    go : (b : Bool) → fits_key (Leader f) (cell.Leader p) ≡ b → p.size ≤ PAGES_PER_FILE
    go true e = leb-true p.size PAGES_PER_FILE e
    go false e = absurd (omega (arith, alone, ap (λ (b : Bool). cond {A = ℕ} b 0 1) e))

-- ---- a volume

pub room_for_few : (s : Sizes) (m : Cells) (c : Change) → 512 ≤ s.home → IsVolumeOf s m → fit_keys c.puts ≡ true → used_of m + owner_count_of m + length c.puts ≤ 127
    → AreSound (edits_map (edits_of c) m) → IsVolumeOf s (edits_map (edits_of c) m)
room_for_few s m c wide volume fit few sound =
    let new : Cells = edits_map (edits_of c) m in
    let places : sum_of place new ≤ 127 = omega (arith, changed place c m, puts_few c.puts, few) in
    record {
      sound = sound;
      fits = record {
        places = omega (arith, places, blocks_few (map.entries new), wide);
        files = omega (arith, places, sum_by-le-sum_by (λ (e : Key × Cell). files_at e.0) place (map.entries new) files_few);
        owners = omega (arith, names_sum (map.entries new), changed owner c m, names_sum (map.entries m), puts_few c.puts, few);
        sizes = sizes_small new (omega (arith, changed misfit c m, puts_fit c.puts fit, sum_of-nothing keys_total exact_keys misfit m (λ k x is. ap (λ (b : Bool). cond {A = ℕ} b 0 1) (held_fits s m volume k x is))));
      };
    }
