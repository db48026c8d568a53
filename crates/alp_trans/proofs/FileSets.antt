-- finite sets of files
use Rattle.std.specs.Prelude.{cond, Bool, true, false, ◌||◌, is_some, Option, None, Some, map as list_map}
use Rattle.std.specs.List.{list_any}
use Rattle.std.specs.List.Sorted.{IsStrictlySortedBy}
use Rattle.std.specs.BTreeMap.{is_at}
use Rattle.std.specs.Cmp.{eq_by_cmp_equiv}
use Rattle.std.specs.Ordering.{eq_by_cmp}
use Rattle.std.specs.FinMap as map
use Rattle.std.specs.FinMap.{get-insert, get-empty, same_map}
use Rattle.std.proofs.Common.{◌≡◌, List, [], ◌∷◌, refl, sym, ◌∙◌, ap, subst}
use Rattle.alp_base.specs.declared.ids.FileId.{FileId}
use Rattle.alp_base.specs.KeyLaws.{file_cmp, exact_files}
use Rattle.alp_base.proofs.TreeLemmas.{entries_back, tree_sorted}
use Rattle.alp_files.specs.Needs.{Files, files_of}
use Rattle.alp_files.proofs.IntentLemmas.{files_total}
use Rattle.alp_files.proofs.PutBack.{insert_same, taken_away}

abbrev pub has : List FileId → FileId → Bool
has fs f = list_any (is_at (file_cmp f)) fs

with_one : (b : Bool) (o : Option (Unit {0})) → is_some (cond b (Some tt) o) ≡ (b || is_some o)
with_one true o = refl
with_one false o = refl

pub has_files : (fs : List FileId) (f : FileId) → map.contains_key (files_of fs) f ≡ has fs f
has_files [] f = ap is_some (get-empty file_cmp f)
has_files (g ∷ fs) f =
    ap is_some (get-insert files_total (files_of fs) g tt f) ∙ with_one (eq_by_cmp file_cmp f g) (map.get (files_of fs) f) ∙ ap (λ (b : Bool). eq_by_cmp file_cmp f g || b) (has_files fs f)

-- sets that have the same files are one
pub same_files : (a b : Files) → ((f : FileId) → map.contains_key a f ≡ map.contains_key b f) → a ≡ b
same_files a b same = same_map files_total exact_files a b (λ f. by (map.get a f) (map.get b f) (same f))
  where
    by : (o p : Option (Unit {0})) → is_some o ≡ is_some p → o ≡ p
    by None None e = refl
    by None (Some u) e = cc
    by (Some u) None e = cc
    by (Some u) (Some v) e = refl

-- one file more
pub added : (fs gs : List FileId) (f : FileId) → ((q : FileId) → has gs q ≡ cond (is_at (file_cmp f) q) true (has fs q)) → files_of gs ≡ map.insert (files_of fs) f tt
added fs gs f h = same_files (files_of gs) (map.insert (files_of fs) f tt) (λ q.
    has_files gs q ∙ h q ∙ ap (λ (b : Bool). cond b true (has fs q)) ((eq_by_cmp_equiv files_total).symm f q)
    ∙ or_so (eq_by_cmp file_cmp q f) (has fs q)
    ∙ sym (ap is_some (get-insert files_total (files_of fs) f tt q) ∙ with_one (eq_by_cmp file_cmp q f) (map.get (files_of fs) q) ∙ ap (λ (b : Bool). eq_by_cmp file_cmp q f || b) (has_files fs q)))
  where
    or_so : (a b : Bool) → cond a true b ≡ (a || b)
    or_so true b = refl
    or_so false b = refl

-- one file fewer
pub removed : (fs gs : List FileId) (f : FileId) → ((q : FileId) → has gs q ≡ cond (is_at (file_cmp f) q) false (has fs q)) → files_of gs ≡ map.remove (files_of fs) f
removed fs gs f h = same_files (files_of gs) (map.remove (files_of fs) f) (λ q.
    has_files gs q ∙ h q ∙ ap (λ (b : Bool). cond b false (has fs q)) ((eq_by_cmp_equiv files_total).symm f q)
    ∙ ap (λ (b : Bool). cond (eq_by_cmp file_cmp q f) false b) (sym (has_files fs q))
    ∙ without (eq_by_cmp file_cmp q f) (map.get (files_of fs) q)
    ∙ sym (ap is_some (map.get-remove files_total (files_of fs) f q)))
  where
    without : (b : Bool) (o : Option (Unit {0})) → cond b false (is_some o) ≡ is_some (cond b None o)
    without true o = refl
    without false o = refl

there : (o : Option (Unit {0})) → true ≡ is_some o → Some tt ≡ o
there None e = cc
there (Some u) e = refl

not_there : (o : Option (Unit {0})) → false ≡ is_some o → None ≡ o
not_there None e = refl
not_there (Some u) e = cc

-- a file that was there, added, and one that was not, added and removed, leave the set
pub added_same : (d now : Files) (f : FileId) → true ≡ map.contains_key d f → now ≡ map.insert d f tt → now ≡ d
added_same d now f was put = put ∙ insert_same files_total exact_files d f tt (there (map.get d f) was)

pub removed_same : (d now : Files) (f : FileId) → false ≡ map.contains_key d f → now ≡ map.insert d f tt → map.remove now f ≡ d
removed_same d now f was put = ap (λ (x : Files). map.remove x f) put ∙ taken_away files_total exact_files d f tt (not_there (map.get d f) was)

-- ---- the files of a set, in order

abbrev pairs : List FileId → List (FileId × Unit {0})
pairs fs = list_map (λ f. (f, tt)) fs

firsts : (fs : List FileId) → list_map (λ (p : FileId × Unit {0}). p.0) (pairs fs) ≡ fs
firsts [] = refl
firsts (f ∷ fs) = ap (λ (gs : List FileId). f ∷ gs) (firsts fs)

as_entries : (fs : List FileId) → files_of fs ≡ map.from_entries (pairs fs)
as_entries [] = refl
as_entries (f ∷ fs) = ap (λ (m : Files). map.insert m f tt) (as_entries fs)

pub keys_back : (fs : List FileId) → IsStrictlySortedBy file_cmp fs → map.keys (files_of fs) ≡ fs
keys_back fs h =
    ap map.keys (as_entries fs)
    ∙ ap (list_map (λ (p : FileId × Unit {0}). p.0)) (entries_back files_total exact_files (pairs fs) (tree_sorted files_total exact_files (pairs fs) (subst (IsStrictlySortedBy file_cmp) (sym (firsts fs)) h)))
    ∙ firsts fs
