-- what a part comes to as a call puts one cell after the other
use Rattle.std.specs.Prelude.{cond, Bool, true, false, not, ◌&&◌, ◌||◌, IsTrue, is_some, Option, None, Some}
use Rattle.std.specs.List.{list_all}
use Rattle.std.specs.Option.{option_or}
use Rattle.std.specs.FinMap as map
use Rattle.std.specs.FinMap.{get-empty}
use Rattle.std.proofs.Common.{◌≡◌, ℕ, ◌+◌, ◌≤◌, List, [], ◌∷◌, ◌++◌, length, refl, sym, ◌∙◌, ap, subst, arith, append_assoc, append-nil}
use Rattle.alp_base.specs.declared.key.Key.{Key}
use Rattle.alp_base.specs.declared.key.Key.TheVariants.{Leader, PageOf, OwnerOf}
use Rattle.alp_base.specs.Keys.{key_cmp}
use Rattle.alp_base.specs.declared.cell.Cell.{Cell}
use Rattle.alp_files.specs.Cells.{Cells}
use Rattle.alp_files.specs.Counts.{files_at, places_at, block_of}
use Rattle.alp_files.specs.Edits.{Edit, Put, edits_map}
use Rattle.alp_files.specs.Needs.{Intents, intend, intents_from, is_gone, is_put, changed_by}
use Rattle.alp_files.specs.Undo.{puts_of}
use Rattle.alp_files.proofs.HistoryLemmas.{edits_map-append, same_cells}
use Rattle.alp_files.proofs.IntentLemmas.{intents_from-append, puts_from, puts_alone}
use Rattle.alp_trans.specs.Counting.{AreFew, left_by, with_intents, counts_by, counts_with, has_block, is_first, owners_at, sight_by}
use Rattle.alp_trans.specs.declared.counts.Counts.{Counts}
use Rattle.alp_trans.specs.declared.counts.Sight.{Sight}
use Rattle.alp_trans.specs.declared.counts.Sight.TheVariants as sights
use Rattle.alp_trans.proofs.ChangeLemmas.{get-laid}
use Rattle.alp_calls.specs.Sights.{IsSight, IsRaised, is_own, is_left, is_first_there, has_block_there, sight_there, was_put}
use Rattle.alp_calls.proofs.IntentCounts.{get-left, there_with, with_more, cells_put, counts_put}
use Rattle.alp_calls.proofs.PutLemmas.{alone_both, seen_at, some_or, has_over}

-- ---- what is seen

or_three : (x y z : Bool) → ((x || y) || z) ≡ (x || (y || z))
or_three true y z = refl
or_three false y z = refl

-- all cells of a map, put where nothing is
pub laid_alone : (x : Cells) → edits_map (puts_of (map.entries x)) map.empty ≡ x
laid_alone x = same_cells (edits_map (puts_of (map.entries x)) map.empty) x (λ j q. (get-laid x map.empty q ∙ ap (option_or (map.get x q)) (get-empty key_cmp q) ∙ or_none (map.get x q)) j)
  where
    or_none : (o : Option Cell) → option_or o None ≡ o
    or_none None = refl
    or_none (Some c) = refl

module _ (i : Intents) (done : List Edit) (held more : Cells) (alone : list_all is_put done ≡ true) (those : more ≡ edits_map done map.empty) (k : Key) where
  abbrev behind : Intents
  behind = intents_from i done

  own_there : map.contains_key behind.puts k ≡ is_own more i k
  own_there =
      ap (λ (x : Cells). map.contains_key x k) (puts_from i done) ∙ ap is_some (seen_at done alone i.puts k) ∙ some_or (map.get (edits_map done map.empty) k) (map.get i.puts k)
      ∙ ap (λ (x : Cells). map.contains_key x k || map.contains_key i.puts k) (sym those)

  left_there : map.contains_key (left_by i held) k ≡ is_left i held k
  left_there = ap is_some (get-left i held k) ∙ go (is_gone i k) (map.get held k)
    where
      go : (b : Bool) (o : Option Cell) → is_some (cond b None o) ≡ (not b && is_some o)
      go true o = refl
      go false o = refl

  seen_there : map.contains_key (with_intents behind held) k ≡ (is_own more i k || is_left i held k)
  seen_there =
      ap (λ (x : Cells). map.contains_key x k) (with_more i done held)
      ∙ ap is_some (seen_at done alone (with_intents i held) k) ∙ some_or (map.get (edits_map done map.empty) k) (map.get (with_intents i held) k)
      ∙ (λ j. map.contains_key (sym those j) k || (there_with i held k ∙ ap (λ (b : Bool). map.contains_key i.puts k || b) left_there) j)
      ∙ sym (or_three (map.contains_key more k) (map.contains_key i.puts k) (is_left i held k))

  block_there : (b : Key) → has_block (with_intents behind held) b ≡ has_block_there more i held b
  block_there b =
      ap (λ (x : Cells). has_block x b) (with_more i done held)
      ∙ has_over done alone (with_intents i held) b
      ∙ (λ j. has_block (sym those j) b || (has_over (puts_of (map.entries i.puts)) (puts_alone (map.entries i.puts)) (left_by i held) b ∙ ap (λ (x : Cells). has_block x b || has_block (left_by i held) b) (laid_alone i.puts)) j)

  first_there : (q : Key) → is_first (with_intents behind held) q ≡ is_first_there more i held q
  first_there (Leader f) = refl
  first_there (PageOf f n) = ap not (block_there (block_of f n))
  first_there (OwnerOf name) = refl

  pub sight_is : sight_by behind held k ≡ sight_there more i held k
  sight_is =
      (λ j. cond (own_there j) sights.Put (cond (seen_there j) sights.Stands (cond (first_there k j) sights.First (cond (map.contains_key held k) sights.Again sights.Beside))))
      ∙ go (is_own more i k)
    where
      go : (o : Bool) → cond o sights.Put (cond (o || is_left i held k) sights.Stands (cond (is_first_there more i held k) sights.First (cond (map.contains_key held k) sights.Again sights.Beside)))
          ≡ cond o sights.Put (cond (is_left i held k) sights.Stands (cond (is_first_there more i held k) sights.First (cond (map.contains_key held k) sights.Again sights.Beside)))
      go true = refl
      go false = refl

-- ---- one put more, whatever the vault tells

cells_with : (n : Counts) (k : Key) (s : Sight) → (counts_with n k s).cells ≡ cond {A = ℕ} (was_put s) n.cells (n.cells + 1)
cells_with n k sights.Put = refl
cells_with n k sights.Stands = refl
cells_with n k sights.First = refl
cells_with n k sights.Again = refl
cells_with n k sights.Beside = refl

cells_grow : (n : Counts) (k : Key) (s : Sight) → (counts_with n k s).cells ≤ n.cells + 1
cells_grow n k sights.Put = omega arith
cells_grow n k sights.Stands = omega arith
cells_grow n k sights.First = omega arith
cells_grow n k sights.Again = omega arith
cells_grow n k sights.Beside = omega arith

record AtMostOne (k : Key) : Type 0 where
  places : places_at k ≤ 1
  files : files_at k ≤ 1
  owners : owners_at k ≤ 1

at_most_one : (k : Key) → AtMostOne k
at_most_one (Leader f) = record { places = omega arith; files = omega arith; owners = omega arith }
at_most_one (PageOf f n) = record { places = omega arith; files = omega arith; owners = omega arith }
at_most_one (OwnerOf name) = record { places = omega arith; files = omega arith; owners = omega arith }

few_with : (n : Counts) (k : Key) (s : Sight) → AreFew n → AreFew (counts_with n k s)
few_with n k sights.Put h = h
few_with n k sights.Stands h = record { places = omega (arith, h.places); files = omega (arith, h.files); owners = omega (arith, h.owners) }
few_with n k sights.First h = let one = at_most_one k in record { places = omega (arith, h.places, one.places); files = omega (arith, h.files, one.files); owners = omega (arith, h.owners, one.owners) }
few_with n k sights.Again h = let one = at_most_one k in record { places = omega (arith, h.places, one.places); files = omega (arith, h.files); owners = omega (arith, h.owners) }
few_with n k sights.Beside h = let one = at_most_one k in record { places = omega (arith, h.places, one.places); files = omega (arith, h.files, one.files); owners = omega (arith, h.owners, one.owners) }

-- ---- one put more, by what is seen

-- a sight adds the same to all counts
record AddsAlike (a b : Counts) (k : Key) (s : Sight) : Type 0 where
  places : (counts_with a k s).places + b.places ≡ a.places + (counts_with b k s).places
  files : (counts_with a k s).files + b.files ≡ a.files + (counts_with b k s).files
  owners : (counts_with a k s).owners + b.owners ≡ a.owners + (counts_with b k s).owners

adds_alike : (a b : Counts) (k : Key) (s : Sight) → AddsAlike a b k s
adds_alike a b k sights.Put = record { places = refl; files = refl; owners = refl }
adds_alike a b k sights.Stands = record { places = omega arith; files = omega arith; owners = omega arith }
adds_alike a b k sights.First = record { places = omega arith; files = omega arith; owners = omega arith }
adds_alike a b k sights.Again = record { places = omega arith; files = omega arith; owners = omega arith }
adds_alike a b k sights.Beside = record { places = omega arith; files = omega arith; owners = omega arith }

pub raised_put : (tells : Bool) (held : Cells) (before i : Intents) (start n : Counts) (k : Key) (c : Cell) (s : Sight) → IsRaised tells held before i start n
    → was_put s ≡ map.contains_key i.puts k → (IsTrue tells → s ≡ sight_by i held k) → IsRaised tells held before (intend (Put k c) i) start (counts_with n k s)
raised_put tells held before i start n k c s h own there = record {
  cells = more (was_put s) (cells_with n k s) (cells_put i held k c ∙ ap (λ (b : Bool). cond {A = ℕ} b (changed_by i) (changed_by i + 1)) (sym own));
  few = few_with n k s h.few;
  places = λ told. let put : (counts_by held (intend (Put k c) i)).places ≡ (counts_with (counts_by held i) k s).places = ap (λ (x : Counts). x.places) (by told) in
      omega (arith, h.places told, put, (adds_alike n (counts_by held i) k s).places);
  files = λ told. let put : (counts_by held (intend (Put k c) i)).files ≡ (counts_with (counts_by held i) k s).files = ap (λ (x : Counts). x.files) (by told) in
      omega (arith, h.files told, put, (adds_alike n (counts_by held i) k s).files);
  owners = λ told. let put : (counts_by held (intend (Put k c) i)).owners ≡ (counts_with (counts_by held i) k s).owners = ap (λ (x : Counts). x.owners) (by told) in
      omega (arith, h.owners told, put, (adds_alike n (counts_by held i) k s).owners);
}
  where
    by : IsTrue tells → counts_by held (intend (Put k c) i) ≡ counts_with (counts_by held i) k s
    by told = counts_put i held k c ∙ ap (counts_with (counts_by held i) k) (sym (there told))

    more : (b : Bool) → (counts_with n k s).cells ≡ cond {A = ℕ} b n.cells (n.cells + 1) → changed_by (intend (Put k c) i) ≡ cond {A = ℕ} b (changed_by i) (changed_by i + 1)
        → (counts_with n k s).cells + changed_by before ≡ start.cells + changed_by (intend (Put k c) i)
    more true e f = omega (arith, h.cells, e, f)
    more false e f = omega (arith, h.cells, e, f)

-- ---- one after the other

-- Some of the puts are made, and these are the counts so far; the rest is to come.
pub record Counting (tells : Bool) (held : Cells) (i : Intents) (more : Cells) (start n : Counts) (all rest : List Edit) : Type 0 where
  pub done : List Edit
  pub split : done ++ rest ≡ all
  pub alone : list_all is_put done ≡ true
  pub those : more ≡ edits_map done map.empty
  pub raised : IsRaised tells held i (intents_from i done) start n
  pub most : n.cells + length rest ≤ start.cells + length all

pub counting_begins : (tells : Bool) (held : Cells) (i : Intents) (more : Cells) (start : Counts) (all : List Edit) → more ≡ map.empty → AreFew start
    → Counting tells held i more start start all all
counting_begins tells held i more start all none few = record {
  done = [];
  split = refl;
  alone = refl;
  those = none;
  raised = record { cells = refl; few = few; places = λ told. refl; files = λ told. refl; owners = λ told. refl };
  most = omega arith;
}

pub counting_goes_on : (tells : Bool) (held : Cells) (i : Intents) (more next : Cells) (start n : Counts) (all rest : List Edit) (k : Key) (c : Cell) (s : Sight) (later : Counts)
    → Counting tells held i more start n all (Put k c ∷ rest) → IsSight tells more i held k s → later ≡ counts_with n k s → next ≡ map.insert more k c
    → Counting tells held i next start later all rest
counting_goes_on tells held i more next start n all rest k c s later h seen counted put = record {
  done = h.done ++ Put k c ∷ [];
  split = append_assoc h.done (Put k c ∷ []) rest ∙ h.split;
  alone = alone_both h.done (Put k c ∷ []) h.alone refl;
  those = put ∙ ap (λ (x : Cells). map.insert x k c) h.those ∙ sym (edits_map-append h.done (Put k c ∷ []) map.empty);
  raised = subst (λ (x : Counts). IsRaised tells held i (intents_from i (h.done ++ Put k c ∷ [])) start x) (sym counted)
      (subst (λ (x : Intents). IsRaised tells held i x start (counts_with n k s)) (sym (intents_from-append i h.done (Put k c ∷ [])))
      (raised_put tells held i (intents_from i h.done) start n k c s h.raised
      (seen.own ∙ sym (own_there i h.done held more h.alone h.those k))
      (λ told. seen.there told ∙ sym (sight_is i h.done held more h.alone h.those k))));
  most = omega (arith, h.most, cells_grow n k s, ap (λ (x : Counts). x.cells) counted);
}

pub counting_ends : (tells : Bool) (held : Cells) (i : Intents) (more : Cells) (start n : Counts) (all : List Edit) → Counting tells held i more start n all [] → IsRaised tells held i (intents_from i all) start n
counting_ends tells held i more start n all h = subst (λ (es : List Edit). IsRaised tells held i (intents_from i es) start n) (sym (append-nil h.done) ∙ h.split) h.raised
