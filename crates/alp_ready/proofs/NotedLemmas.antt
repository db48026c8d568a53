-- what a part intends is what a note may say of it
use Rattle.std.specs.Prelude.{Bool, true, ◌&&◌, All}
use Rattle.std.specs.List.{AllByRecursion}
use Rattle.std.specs.List.Sorted.{IsPermutation}
use Rattle.std.specs.FinMap as map
use Rattle.std.specs.FinMap.{is_sorted, len-entries, entries_sorted}
use Rattle.std.proofs.Math.Dec.{T}
use Rattle.std.proofs.Common.{◌≡◌, ℕ, ◌≤◌, List, [], ◌∷◌, length, refl, sym, ◌∙◌, ap, subst, arith}
use Rattle.std.proofs.lemmas.List.{length-map}
use Rattle.std.proofs.lemmas.List.Elements.{All-from_recursion, recursion_from_All}
use Rattle.std.proofs.lemmas.List.Sorted.{length_permutation, All-permutation}
use Rattle.alp_base.specs.declared.ids.FileId.{FileId}
use Rattle.alp_base.specs.declared.key.Key.{Key}
use Rattle.alp_base.specs.declared.key.Key.TheVariants.{Leader, PageOf, OwnerOf}
use Rattle.alp_base.specs.declared.cell.Cell.{Cell}
use Rattle.alp_base.specs.declared.cell.Cell.TheVariants as cell
use Rattle.alp_base.specs.declared.change.Change.{Change}
use Rattle.alp_base.specs.KeyLaws.{file_cmp}
use Rattle.alp_files.specs.Needs.{Intents, changed_by}
use Rattle.alp_fields.specs.Fields.{file_id}
use Rattle.alp_fields.specs.ChangeField.{is_cell_of, cut, placed, IsNotedChange}
use Rattle.alp_fields.specs.Rising.{rise}
use Rattle.alp_vault.specs.Volumes.{fits_key, fit_keys}
use Rattle.alp_calls.specs.Parts.{AllFit}
use Rattle.alp_calls.specs.Regained.{IsNoted}
use Rattle.alp_calls.proofs.FitLemmas.{one_fits, fit_entries}
use Rattle.alp_ready.proofs.StableSorts.{AreInOrder}
use Rattle.alp_ready.proofs.RiseLemmas.{files_rise, cuts_rise, keys_in_order}

-- ---- cells at their keys

kind_of : (k : Key) (c : Cell) → fits_key k c ≡ true → is_cell_of k c ≡ true
kind_of (Leader f) (cell.Leader p) h = refl
kind_of (Leader f) (cell.Page bytes) h = cc
kind_of (Leader f) (cell.Owner o) h = cc
kind_of (PageOf f n) (cell.Leader p) h = cc
kind_of (PageOf f n) (cell.Page bytes) h = refl
kind_of (PageOf f n) (cell.Owner o) h = cc
kind_of (OwnerOf m) (cell.Leader p) h = cc
kind_of (OwnerOf m) (cell.Page bytes) h = cc
kind_of (OwnerOf m) (cell.Owner o) h = refl

abbrev FitsEntry : Key × Cell → Type 0
FitsEntry e = fits_key e.0 e.1 ≡ true

each_fits : (es : List (Key × Cell)) → fit_keys es ≡ true → AllByRecursion FitsEntry es
each_fits [] h = tt
each_fits (e ∷ es) h = (let parts : (fits_key e.0 e.1 ≡ true) × (fit_keys es ≡ true) = one_fits e es h in (parts.0, each_fits es parts.1))

all_fit : (es : List (Key × Cell)) → AllByRecursion FitsEntry es → fit_keys es ≡ true
all_fit [] h = refl
all_fit (e ∷ es) h = ap (λ (b : Bool). b && fit_keys es) h.0 ∙ all_fit es h.1

kinds_of : (es : List (Key × Cell)) → AllByRecursion FitsEntry es → AllByRecursion (λ (e : Key × Cell). is_cell_of e.0 e.1 ≡ true) es
kinds_of [] h = tt
kinds_of (e ∷ es) h = (kind_of e.0 e.1 h.0, kinds_of es h.1)

-- ---- a change with the puts in another order

pub record IsChange (i : Intents) (c : Change) : Type 0 where
  pub drops : c.drops ≡ map.keys i.drops
  pub cuts : c.cuts ≡ map.entries i.cuts
  pub puts : IsPermutation (map.entries i.puts) c.puts

module _ (i : Intents) (c : Change) (h : IsChange i c) (few : changed_by i ≤ 256) (fit : AllFit i.puts) where
  many_drops : length c.drops ≡ map.len i.drops
  many_drops = ap (λ (xs : List FileId). length xs) h.drops ∙ length-map (map.entries i.drops) (λ (e : FileId × Unit {0}). e.0) ∙ sym (len-entries i.drops)

  many_cuts : length c.cuts ≡ map.len i.cuts
  many_cuts = ap (λ (xs : List (FileId × ℕ)). length xs) h.cuts ∙ sym (len-entries i.cuts)

  many_puts : length c.puts ≡ map.len i.puts
  many_puts = length_permutation (map.entries i.puts) c.puts h.puts ∙ sym (len-entries i.puts)

  puts_fit : AllByRecursion FitsEntry c.puts
  puts_fit = recursion_from_All FitsEntry c.puts (All-permutation FitsEntry (map.entries i.puts) c.puts h.puts (All-from_recursion FitsEntry (map.entries i.puts) (each_fits (map.entries i.puts) (fit_entries i.puts fit))))

  pub noted : All file_id.Fits c.drops → All cut.Fits c.cuts → rise placed c.puts ≡ true → IsNotedChange c
  noted files cuts puts = record {
    few_drops = omega (arith, many_drops, few);
    drops = files_rise c.drops (recursion_from_All file_id.Fits c.drops files) (subst (λ (fs : List FileId). AreInOrder file_cmp fs) (sym h.drops) (keys_in_order file_cmp (map.entries i.drops) (entries_sorted i.drops)));
    few_cuts = omega (arith, many_cuts, few);
    cuts = cuts_rise c.cuts (recursion_from_All cut.Fits c.cuts cuts) (subst (λ (es : List (FileId × ℕ)). T (is_sorted file_cmp es)) (sym h.cuts) (entries_sorted i.cuts));
    few_puts = omega (arith, many_puts, few);
    puts = puts;
    kinds = kinds_of c.puts puts_fit;
  }

  pub again : IsNoted c
  again = record { fit = all_fit c.puts puts_fit; few = omega (arith, many_drops, many_cuts, many_puts, few) }
