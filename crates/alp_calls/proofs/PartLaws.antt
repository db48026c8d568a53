-- what the counts of a part and its limits leave for its commit
use Rattle.std.proofs.Math.Dec.{T}
use Rattle.std.specs.Prelude.{cond, Bool, true, false, ◌&&◌, nat_lt, sum_by, Option, None, Some, map as list_map}
use Rattle.std.specs.List.{AllByRecursion}
use Rattle.std.specs.List.Sorted.{IsStrictlySortedBy}
use Rattle.std.specs.Option.{option_or}
use Rattle.std.specs.Ordering.{is_lt}
use Rattle.std.specs.declared.cmp.Ordering.{Ordering}
use Rattle.std.specs.declared.cmp.Ordering.TheVariants.{Less, Equal, Greater}
use Rattle.std.specs.FinMap as map
use Rattle.std.specs.FinMap.{get-empty, entries_sorted, len-empty, len-entries}
use Rattle.std.specs.FinMap.Entries.{below_all}
use Rattle.std.proofs.Common.{◌≡◌, ℕ, ◌+◌, ◌-◌, ◌*◌, ◌<◌, ◌≤◌, List, [], ◌∷◌, refl, sym, ◌∙◌, ap, subst, arith}
use Rattle.std.proofs.lemmas.Bool.{ltb-false, lt-ltb, leb-true}
use Rattle.std.proofs.lemmas.List.{length-map}
use Rattle.std.proofs.lemmas.List.Sums.{sum_by-cons}
use Rattle.std.proofs.lemmas.Map.Keys.{IsDistinct-from_sorted}
use Rattle.alp_base.specs.Keys.{key_cmp}
use Rattle.alp_base.specs.KeyLaws.{file_cmp, keys_total, exact_keys}
use Rattle.alp_base.specs.Notes.{Notes}
use Rattle.alp_base.specs.declared.bytes.NoteChange.{NoteChange}
use Rattle.alp_base.specs.declared.faults.Sizes.{Sizes}
use Rattle.alp_base.specs.declared.ids.FileId.{FileId}
use Rattle.alp_base.specs.declared.key.Key.{Key}
use Rattle.alp_base.specs.declared.key.Key.TheVariants.{Leader}
use Rattle.alp_base.specs.declared.lists.TheConstants.{PAGES_PER_FILE}
use Rattle.alp_base.specs.declared.cell.Cell.{Cell}
use Rattle.alp_base.specs.declared.cell.Cell.TheVariants as cell
use Rattle.alp_base.specs.declared.cell.Props.{Props}
use Rattle.alp_files.specs.declared.refusal.Refusal.{Refusal}
use Rattle.alp_files.specs.Cells.{Cells, View}
use Rattle.alp_files.specs.Changes.{edits_of, ArePutOnce}
use Rattle.alp_files.specs.Counts.{used_of, file_count_of, owner_count_of}
use Rattle.alp_files.specs.Edits.{Edit, edits_map}
use Rattle.alp_files.specs.Files.{AreFiles}
use Rattle.alp_files.specs.Needs.{Intents, no_intents, intents_of, is_gone, changed_by}
use Rattle.alp_files.specs.Sound.{AreSound}
use Rattle.alp_files.proofs.SumLemmas.{sum_of-nothing}
use Rattle.alp_vault.specs.Volumes.{IsVolumeOf, IsCommit, AreChangesSoFar, changed_cells, fits_key, fit_keys}
use Rattle.alp_vault.specs.declared.limits.TheConstants.{FILES_PER_SERVER, OWNERS_PER_SERVER, HEAD_PAGES}
use Rattle.alp_vault.proofs.VolumeLemmas.{log_room, changes_so_far}
use Rattle.alp_trans.specs.Counting.{AreCountsOf, no_counts}
use Rattle.alp_trans.specs.Parts.{change_of}
use Rattle.alp_trans.specs.declared.counts.Counts.{Counts}
use Rattle.alp_trans.specs.declared.part.Part.{Part}
use Rattle.alp_trans.proofs.ChangeLemmas.{get-change, same_change as change_same}
use Rattle.alp_journal.specs.Counts.{log_need}
use Rattle.alp_journal.specs.Answers.{if_over}
use Rattle.alp_calls.specs.Limits.{refused_for, is_past, IsAllowed}
use Rattle.alp_calls.specs.Parts.{AllFit, IsPart, seen}
use Rattle.alp_calls.specs.declared.limits.Room.{Room}
use Rattle.alp_calls.proofs.CountLaws.{used_after, files_after, owners_after}

-- ---- a part that did nothing

pub part_begins : (p : Part) → p.intents ≡ no_intents → p.counts ≡ no_counts → IsPart p
part_begins p nothing none = record {
  cells = ap (λ (n : Counts). n.cells) none ∙ sym (ap changed_by nothing ∙ unchanged);
  most = omega (arith, ap (λ (n : Counts). n.cells) none);
  few = record {
    places = omega (arith, ap (λ (n : Counts). n.places) none);
    files = omega (arith, ap (λ (n : Counts). n.files) none);
    owners = omega (arith, ap (λ (n : Counts). n.owners) none);
  };
  fit = λ k c there. (let wrong : Some c ≡ None = sym there ∙ ap (λ (i : Intents). map.get i.puts k) nothing ∙ get-empty key_cmp k in cc);
}
  where
    unchanged : changed_by no_intents ≡ 0
    unchanged = omega (arith, len-empty file_cmp (Unit {0}), len-empty file_cmp ℕ, len-empty key_cmp Cell)

-- ---- the limits

none_of : (a b c d e : Bool) (x y z u v : Refusal) → option_or (if_over a x) (option_or (option_or (if_over b y) (if_over c z)) (option_or (if_over d u) (if_over e v))) ≡ None
    → (a ≡ false) × (b ≡ false) × (c ≡ false) × (d ≡ false) × (e ≡ false)
none_of false false false false false x y z u v h = (refl, refl, refl, refl, refl)
none_of true b c d e x y z u v h = cc
none_of false true c d e x y z u v h = cc
none_of false false true d e x y z u v h = cc
none_of false false false true e x y z u v h = cc
none_of false false false false true x y z u v h = cc

within : (now later stand limit : ℕ) → is_past now later stand limit ≡ false → now < later → stand + (later - now) ≤ limit
within now later stand limit h more =
    ltb-false limit (stand + (later - now)) (ap (λ (b : Bool). b && nat_lt limit (stand + (later - now))) (sym (lt-ltb now later more)) ∙ h)

-- where nothing refuses a part, it passes no limit
pub allowed : (room : Room) (now later : Counts) → refused_for room now later ≡ None → IsAllowed room now later
allowed room now later h =
    let all = none_of (nat_lt 256 later.cells) (is_past now.files later.files room.files 4096) (is_past now.owners later.owners room.owners 256)
    (nat_lt room.left (later.places - now.places)) (nat_lt room.area (log_need later.cells room.locks)) _ _ _ _ _ h in
    record {
      cells = ltb-false 256 later.cells all.0;
      files = within now.files later.files room.files 4096 all.1;
      owners = within now.owners later.owners room.owners 256 all.2;
      places = ltb-false room.left (later.places - now.places) all.3;
      log = ltb-false room.area (log_need later.cells room.locks) all.4;
    }

-- ---- the change of a part

less_of : (r : Ordering) → T (is_lt r) → r ≡ Less
less_of Less h = refl
less_of Equal h = absurd h
less_of Greater h = absurd h

first : (a b : Bool) → T (a && b) → T a
first true b h = tt
first false b h = absurd h

second : (a b : Bool) → T (a && b) → T b
second true b h = h
second false b h = absurd h

below : (k : Key) (es : List (Key × Cell)) → T (below_all key_cmp k es) → AllByRecursion (λ (y : Key). key_cmp k y ≡ Less) (list_map (λ (e : Key × Cell). e.0) es)
below k [] h = tt
below k (e ∷ es) h = (less_of (key_cmp k e.0) (first (is_lt (key_cmp k e.0)) (below_all key_cmp k es) h), below k es (second (is_lt (key_cmp k e.0)) (below_all key_cmp k es) h))

rising : (es : List (Key × Cell)) → T (map.is_sorted key_cmp es) → IsStrictlySortedBy key_cmp (list_map (λ (e : Key × Cell). e.0) es)
unfolding IsStrictlySortedBy
rising [] h = tt
rising (e ∷ es) h = (below e.0 es (first (below_all key_cmp e.0 es) (map.is_sorted key_cmp es) h), rising es (second (below_all key_cmp e.0 es) (map.is_sorted key_cmp es) h))

entries_rise : (m : Cells) → IsStrictlySortedBy key_cmp (list_map (λ (e : Key × Cell). e.0) (map.entries m))
entries_rise m = rising (map.entries m) (entries_sorted m)

-- the change of a part makes what its edits make
pub same_change : (m : Cells) (p : Part) (es : List Edit) → p.intents ≡ intents_of es → edits_map (edits_of (change_of p.intents)) m ≡ edits_map es m
same_change m p es is = ap (λ (i : Intents). edits_map (edits_of (change_of i)) m) is ∙ change_same es m

-- a part sees well-formed files where its change makes such
pub sees_files : (m : Cells) (p : Part) → AreSound (edits_map (edits_of (change_of p.intents)) m) → AreFiles (seen m p)
sees_files m p sound = subst AreFiles (get-change p.intents m) sound.0

pub change_once : (i : Intents) → ArePutOnce (change_of i).puts
change_once i = IsDistinct-from_sorted key_cmp (list_map (λ (e : Key × Cell). e.0) (map.entries i.puts)) (entries_rise i.puts)

-- an entry that does not fit weighs one
misfit : Key × Cell → ℕ
misfit e = cond {A = ℕ} (fits_key e.0 e.1) 0 1

none_misfits : (es : List (Key × Cell)) → sum_by misfit es ≡ 0 → fit_keys es ≡ true
unfolding misfit
none_misfits [] h = refl
none_misfits (e ∷ es) h = go (fits_key e.0 e.1) (sum_by-cons misfit e es) (none_misfits es)
  where
    go : (b : Bool) → sum_by misfit (e ∷ es) ≡ cond {A = ℕ} b 0 1 + sum_by misfit es → (sum_by misfit es ≡ 0 → fit_keys es ≡ true) → (b && fit_keys es) ≡ true
    go true s rest = rest (omega (arith, s, h))
    go false s rest = absurd (omega (arith, s, h))

pub change_fits : (i : Intents) → AllFit i.puts → fit_keys (change_of i).puts ≡ true
unfolding misfit
change_fits i fit = none_misfits (map.entries i.puts) (sum_of-nothing keys_total exact_keys misfit i.puts (λ k c there. ap (λ (b : Bool). cond {A = ℕ} b 0 1) (fit k c there)))

-- ---- what a commit asks

pub part_commits : (s : Sizes) (server servers locks : ℕ) (live : Notes) (p : Part) (changes : List NoteChange) → IsPart p → AreChangesSoFar server servers live changes
    → 6 * p.counts.cells + locks + 30 ≤ s.area → IsCommit s server servers live (change_of p.intents) changes
part_commits s server servers locks live p changes is noted room = record {
  once = change_once p.intents;
  puts = change_fits p.intents is.fit;
  noted = changes_so_far server servers live changes noted;
  log = log_room server servers s.area locks live (change_of p.intents) changes noted (omega (arith, is.cells, cells, room));
}
  where
    cells : changed_cells (change_of p.intents) ≡ changed_by p.intents
    cells = omega (arith, len-entries p.intents.puts, len-entries p.intents.cuts, len-entries p.intents.drops, length-map (map.entries p.intents.drops) (λ (e : FileId × Unit {0}). e.0))

sizes_over : (i : Intents) (m : Cells) → AllFit i.puts → ((f : FileId) (p : Props) → map.get m (Leader f) ≡ Some (cell.Leader p) → p.size ≤ PAGES_PER_FILE)
    → (f : FileId) (p : Props) → map.get (edits_map (edits_of (change_of i)) m) (Leader f) ≡ Some (cell.Leader p) → p.size ≤ PAGES_PER_FILE
sizes_over i m fit small f p there = go (map.get i.puts (Leader f)) (is_gone i (Leader f)) refl (sym (ap (λ (v : View). v (Leader f)) (get-change i m)) ∙ there)
  where
    go : (o : Option Cell) (b : Bool) → map.get i.puts (Leader f) ≡ o → option_or (map.get i.puts (Leader f)) (cond b None (map.get m (Leader f))) ≡ Some (cell.Leader p) → p.size ≤ PAGES_PER_FILE
    go None true e h = let wrong : None ≡ Some (cell.Leader p) = ap (λ (x : Option Cell). option_or x None) (sym e) ∙ h in cc
    go None false e h = small f p (ap (λ (x : Option Cell). option_or x (map.get m (Leader f))) (sym e) ∙ h)
    go (Some d) b e h = leb-true p.size PAGES_PER_FILE (fit (Leader f) (cell.Leader p) (e ∙ ap (λ (x : Option Cell). option_or x (cond b None (map.get m (Leader f)))) (sym e) ∙ h))

pub part_fits : (s : Sizes) (m : Cells) (p : Part) (es : List Edit) → IsPart p → p.intents ≡ intents_of es → AreCountsOf m es p.counts
    → IsVolumeOf s m → AreSound (edits_map es m)
    → used_of m + p.counts.places + HEAD_PAGES ≤ s.home → file_count_of m + p.counts.files ≤ FILES_PER_SERVER → owner_count_of m + p.counts.owners ≤ OWNERS_PER_SERVER
    → IsVolumeOf s (edits_map (edits_of (change_of p.intents)) m)
part_fits s m p es is by are volume sound places files owners =
    let same : edits_map (edits_of (change_of p.intents)) m ≡ edits_map es m = same_change m p es by in
    record {
      sound = subst AreSound (sym same) sound;
      fits = record {
        places = omega (arith, ap used_of same, used_after m es, are.places, places);
        files = omega (arith, ap file_count_of same, files_after m es, are.files, files);
        owners = omega (arith, ap owner_count_of same, owners_after m es, are.owners, owners);
        sizes = sizes_over p.intents m is.fit volume.fits.sizes;
      };
    }
