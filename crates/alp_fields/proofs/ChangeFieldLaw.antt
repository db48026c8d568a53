-- the laws of cells and changes in notes
use Rattle.std.proofs.Common.{◌≡◌, ℕ, ◌<◌, ◌^◌, List, [], ◌∷◌, ◌++◌, length, Option, Some, None, true, refl, sym, ap, subst, ◌∙◌, append_assoc, arith}
use Rattle.std.specs.Prelude.{Result, Ok, Err, OnOk}
use Rattle.std.specs.List.{AllByRecursion}
use Rattle.alp_base.specs.declared.ids.FileId.{FileId}
use Rattle.alp_base.specs.declared.key.Key.{Key}
use Rattle.alp_base.specs.declared.key.Key.TheVariants.{Leader, PageOf, OwnerOf}
use Rattle.alp_base.specs.declared.cell.Cell.{Cell}
use Rattle.alp_base.specs.declared.cell.Cell.TheVariants as cell
use Rattle.alp_base.specs.declared.cell.Props.{Props}
use Rattle.alp_base.specs.declared.cell.OwnerRecord.{OwnerRecord}
use Rattle.alp_base.specs.declared.change.Change.{Change}
use Rattle.alp_fields.specs.Forms.{Form, IsForm, IsWritten, ◌>>=◌, pair, sized, repeated, variant, u16, u32}
use Rattle.alp_fields.specs.Fields.{file_id, key, page}
use Rattle.alp_fields.specs.PropsField.{props}
use Rattle.alp_fields.specs.OwnerField.{owner_record}
use Rattle.alp_fields.specs.Rising.{rise, rising}
use Rattle.alp_fields.specs.ChangeField.{spell_cell, FitsCellAt, read_cell_at, cell_at, is_cell_of, placed, cut, change_of, change_parts, change_form, IsNotedChange}
use Rattle.alp_fields.proofs.FormLaws.{Spells, step_some, some_is, pair_law, mapped_law}
use Rattle.alp_fields.proofs.FieldLaws.{variant_back, file_id_law, u32_law, key_law, page_law}
use Rattle.alp_fields.proofs.PropsFieldLaw.{props_law}
use Rattle.alp_fields.proofs.OwnerFieldLaw.{owner_record_law}
use Rattle.alp_fields.proofs.ItemLemmas.{rising_law}

-- ---- cells

-- one variant alone
variant_spelled : {A T : Type 0} (form : Form T) (into : A → T) (a : Form A) → IsForm a → ((v : A) → form.spell (into v) ≡ a.spell v) → ((v : A) → a.Fits v → form.Fits (into v))
    → (bytes : List ℕ) (v : T) (rest : List ℕ) → variant into a bytes ≡ Some (v, rest) → Spells form bytes (v, rest)
variant_spelled {A} {T} form into a la is fits bytes v rest e =
    let p = step_some (a.read bytes) (λ x. Some (into x.0, x.1)) (v, rest) e in
    let front = la.spelled bytes p.0.0 p.0.1 p.1 in
    let made : T × List ℕ = (into p.0.0, p.0.1) in
    subst (Spells form bytes) (some_is made (v, rest) p.2) (front.0 ∙ ap (λ (bs : List ℕ). bs ++ p.0.1) (sym (is p.0.0)), fits p.0.0 front.1)

cell_back : (k : Key) (c : Cell) (rest : List ℕ) → FitsCellAt k c → read_cell_at k (spell_cell c ++ rest) ≡ Some (c, rest)
cell_back (Leader f) (cell.Leader p) rest fits = variant_back cell.Leader props props_law p rest fits
cell_back (Leader f) (cell.Page bytes) rest fits = absurd fits
cell_back (Leader f) (cell.Owner o) rest fits = absurd fits
cell_back (PageOf f n) (cell.Leader p) rest fits = absurd fits
cell_back (PageOf f n) (cell.Page bytes) rest fits = variant_back cell.Page page page_law bytes rest fits
cell_back (PageOf f n) (cell.Owner o) rest fits = absurd fits
cell_back (OwnerOf n) (cell.Leader p) rest fits = absurd fits
cell_back (OwnerOf n) (cell.Page bytes) rest fits = absurd fits
cell_back (OwnerOf n) (cell.Owner o) rest fits = variant_back cell.Owner owner_record owner_record_law o rest fits

cell_spelled : (k : Key) (bytes : List ℕ) (c : Cell) (rest : List ℕ) → read_cell_at k bytes ≡ Some (c, rest) → (bytes ≡ spell_cell c ++ rest) × FitsCellAt k c
cell_spelled (Leader f) bytes c rest e = variant_spelled (cell_at (Leader f)) cell.Leader props props_law (λ v. refl) (λ v fits. fits) bytes c rest e
cell_spelled (PageOf f n) bytes c rest e = variant_spelled (cell_at (PageOf f n)) cell.Page page page_law (λ v. refl) (λ v fits. fits) bytes c rest e
cell_spelled (OwnerOf n) bytes c rest e = variant_spelled (cell_at (OwnerOf n)) cell.Owner owner_record owner_record_law (λ v. refl) (λ v fits. fits) bytes c rest e

pub placed_law : IsForm placed
unfolding placed
placed_law = record {
  back = λ p rest fits.
      let one : key.read ((key.spell p.0 ++ spell_cell p.1) ++ rest) ≡ Some (p.0, spell_cell p.1 ++ rest) = ap key.read (append_assoc (key.spell p.0) (spell_cell p.1) rest) ∙ key_law.back p.0 (spell_cell p.1 ++ rest) fits.0 in
      rw (one, cell_back p.0 p.1 rest fits.1) refl;
  spelled = λ bytes p rest e.
      let k = step_some (key.read bytes) (λ k. read_cell_at k.0 k.1 >>= λ c. Some ((k.0, c.0), c.1)) (p, rest) e in
      let c = step_some (read_cell_at k.0.0 k.0.1) (λ c. Some ((k.0.0, c.0), c.1)) (p, rest) k.2 in
      let front = key_law.spelled bytes k.0.0 k.0.1 k.1 in
      let behind = cell_spelled k.0.0 k.0.1 c.0.0 c.0.1 c.1 in
      let made : (Key × Cell) × List ℕ = ((k.0.0, c.0.0), c.0.1) in
      subst (Spells placed bytes) (some_is made (p, rest) c.2)
      (front.0 ∙ ap (λ (bs : List ℕ). key.spell k.0.0 ++ bs) behind.0 ∙ sym (append_assoc (key.spell k.0.0) (spell_cell c.0.0) c.0.1), (front.1, behind.1));
}

-- ---- cells that are written

pub on_ok : {T E : Type 0} (r : Result T E) (P Q : Type 0) → (P → Q) → OnOk r P → OnOk r Q
on_ok (Ok x) P Q f p = f p
on_ok (Err e) P Q f p = tt

pub leader_written : (k : Key) (p : Props) (old new : List ℕ) → is_cell_of k (cell.Leader p) ≡ true → IsWritten props p old new → IsWritten (cell_at k) (cell.Leader p) old new
leader_written (Leader f) p old new is done = record { appended = done.appended; fits = done.fits }
leader_written (PageOf f n) p old new is done = absurd cc
leader_written (OwnerOf n) p old new is done = absurd cc

pub page_written : (k : Key) (bytes : List ℕ) (old new : List ℕ) → is_cell_of k (cell.Page bytes) ≡ true → IsWritten page bytes old new → IsWritten (cell_at k) (cell.Page bytes) old new
page_written (Leader f) bytes old new is done = absurd cc
page_written (PageOf f n) bytes old new is done = record { appended = done.appended; fits = done.fits }
page_written (OwnerOf n) bytes old new is done = absurd cc

pub owner_written : (k : Key) (o : OwnerRecord) (old new : List ℕ) → is_cell_of k (cell.Owner o) ≡ true → IsWritten owner_record o old new → IsWritten (cell_at k) (cell.Owner o) old new
owner_written (Leader f) o old new is done = absurd cc
owner_written (PageOf f n) o old new is done = absurd cc
owner_written (OwnerOf n) o old new is done = record { appended = done.appended; fits = done.fits }

-- ---- changes

pub cut_law : IsForm cut
unfolding cut
cut_law = pair_law file_id u32 file_id_law u32_law

pub change_law : IsForm change_form
unfolding change_form
change_law = mapped_law change_of change_parts _ (λ v. refl) (λ x. refl)
    (pair_law (rising file_id) _ (rising_law file_id file_id_law) (pair_law (rising cut) (rising placed) (rising_law cut cut_law) (rising_law placed placed_law)))

-- a cell with a spelling is of its key's kind
kind_fits : (k : Key) (c : Cell) → FitsCellAt k c → is_cell_of k c ≡ true
kind_fits (Leader f) (cell.Leader p) fits = refl
kind_fits (Leader f) (cell.Page bytes) fits = absurd fits
kind_fits (Leader f) (cell.Owner o) fits = absurd fits
kind_fits (PageOf f n) (cell.Leader p) fits = absurd fits
kind_fits (PageOf f n) (cell.Page bytes) fits = refl
kind_fits (PageOf f n) (cell.Owner o) fits = absurd fits
kind_fits (OwnerOf n) (cell.Leader p) fits = absurd fits
kind_fits (OwnerOf n) (cell.Page bytes) fits = absurd fits
kind_fits (OwnerOf n) (cell.Owner o) fits = refl

placed_kind : (p : Key × Cell) → placed.Fits p → is_cell_of p.0 p.1 ≡ true
unfolding placed
placed_kind p fits = kind_fits p.0 p.1 fits.1

placed_kinds : (ps : List (Key × Cell)) → AllByRecursion placed.Fits ps → AllByRecursion (λ (p : Key × Cell). is_cell_of p.0 p.1 ≡ true) ps
placed_kinds [] fits = tt
placed_kinds (p ∷ ps) fits = (placed_kind p fits.0, placed_kinds ps fits.1)

few : (n : ℕ) → u16.Fits n → n < 2 ^ 16
unfolding u16
few n fits = fits

-- what has a spelling is a change that can be written
pub change_fits : (c : Change) → change_form.Fits c → IsNotedChange c
unfolding change_form
change_fits c fits = record {
  few_drops = few (length c.drops) fits.0.0.0;
  drops = fits.0.1;
  few_cuts = few (length c.cuts) fits.1.0.0.0;
  cuts = fits.1.0.1;
  few_puts = few (length c.puts) fits.1.1.0.0;
  puts = fits.1.1.1;
  kinds = placed_kinds c.puts fits.1.1.0.1.1;
}
