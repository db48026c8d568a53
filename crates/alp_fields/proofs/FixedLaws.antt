-- The laws of the fields that are as long whatever they hold, and how long the spellings of fields are.
use Rattle.std.proofs.Common.{◌≡◌, ℕ, suc, ◌+◌, ◌-◌, ◌*◌, ◌≤◌, Bool, true, false, cond, List, [], ◌∷◌, ◌++◌, length, replicate, Option, Some, None, refl, sym, ap, subst, ◌∙◌, arith, length-append}
use Rattle.std.specs.Prelude.{◌==◌}
use Rattle.std.specs.List.{flat_map, AllByRecursion}
use Rattle.std.proofs.lemmas.List.{length-replicate, nil_from_length}
use Rattle.std.proofs.Math.Dec.{eqb-suc-zero}
use Rattle.std.proofs.Math.Nat.{suc-mul, zero-mul, add-mul}
use Rattle.std.proofs.lemmas.Bool.{eqb-true, leb-true, le-leb}
use Rattle.alp_base.specs.declared.ids.FileId.{FileId}
use Rattle.alp_base.specs.declared.lists.TheConstants.{NAMES_PER_LIST}
use Rattle.alp_base.specs.declared.name.TheConstants.{NAME_BYTES}
use Rattle.alp_base.specs.Names.{is_name}
use Rattle.alp_fields.specs.Forms.{Form, IsForm, HasLength, repeated, zeros_behind, bytes_of, u8, u16, u32, u64}
use Rattle.alp_fields.specs.Fields.{id_parts, file_id, is_list_count, list_count, is_name_length, name_length, text_field, named_field, text_of, FitsNameField, name_field, name_field_bytes, list_field_bytes, list_field}
use Rattle.alp_base.proofs.NameLemmas.{and_left, and_right}
use Rattle.alp_base.proofs.NameLemmas as names
use Rattle.alp_fields.proofs.FormLaws.{Spells, step_some, some_is, checked_law, sized_law, repeated_law, bytes_law, zeros_behind_law}
use Rattle.alp_fields.proofs.FieldLaws.{u8_law, u8_fits}

-- ---- names in fields

pub text_field_law : IsForm text_field
unfolding text_field name_length
text_field_law = sized_law name_length (λ n. zeros_behind (NAME_BYTES - n) (bytes_of n)) length (checked_law is_name_length u8 u8_law)
    (λ n. zeros_behind_law (NAME_BYTES - n) (bytes_of n) (bytes_law n)) (λ n v fits. fits.0)

pub text_fits : (v : List ℕ) → length v ≤ NAME_BYTES → text_field.Fits v
unfolding text_field name_length
text_fits v short = ((u8_fits (length v) (omega arith), le-leb (length v) NAME_BYTES short), (refl, tt))

pub named_field_law : IsForm named_field
unfolding named_field
named_field_law = checked_law is_name text_field text_field_law

-- a name is not empty
name_is_some : (n : List ℕ) → is_name n ≡ true → (length n == 0) ≡ false
name_is_some [] e = absurd cc
name_is_some (b ∷ n) e = eqb-suc-zero (length n)

pub name_field_law : IsForm name_field
unfolding name_field
name_field_law = record { back = back; spelled = spelled }
  where
    back : (o : Option (List ℕ)) (rest : List ℕ) → FitsNameField o → name_field.read (text_field.spell (text_of o) ++ rest) ≡ Some (o, rest)
    back None rest fits = rw (text_field_law.back [] rest (text_fits [] (omega arith))) refl
    back (Some n) rest fits = rw (text_field_law.back n rest (text_fits n (names.name_length n fits)), name_is_some n fits, fits) refl

    choose : (bytes : List ℕ) (x : List ℕ × List ℕ) (o : Option (List ℕ)) (rest : List ℕ) → Spells text_field bytes x → (empty named : Bool) → length x.0 == 0 ≡ empty → is_name x.0 ≡ named
        → cond {A = Option (Option (List ℕ) × List ℕ)} empty (Some (None, x.1)) (cond named (Some (Some x.0, x.1)) None) ≡ Some (o, rest) → (bytes ≡ text_field.spell (text_of o) ++ rest) × FitsNameField o
    choose bytes x o rest front true named is-empty is-named e =
        let nothing : x.0 ≡ [] = nil_from_length x.0 (eqb-true (length x.0) 0 is-empty) in
        let made : Option (List ℕ) × List ℕ = (None, x.1) in
        let P : Option (List ℕ) × List ℕ → Type 0 = λ y. (bytes ≡ text_field.spell (text_of y.0) ++ y.1) × FitsNameField y.0 in
        subst P (some_is made (o, rest) e) (front.0 ∙ ap (λ (v : List ℕ). text_field.spell v ++ x.1) nothing, tt)
    choose bytes x o rest front false true is-empty is-named e =
        let made : Option (List ℕ) × List ℕ = (Some x.0, x.1) in
        let P : Option (List ℕ) × List ℕ → Type 0 = λ y. (bytes ≡ text_field.spell (text_of y.0) ++ y.1) × FitsNameField y.0 in
        subst P (some_is made (o, rest) e) (front.0, is-named)
    choose bytes x o rest front false false is-empty is-named e = absurd cc

    spelled : (bytes : List ℕ) (o : Option (List ℕ)) (rest : List ℕ) → name_field.read bytes ≡ Some (o, rest) → (bytes ≡ text_field.spell (text_of o) ++ rest) × FitsNameField o
    spelled bytes o rest e =
        let p = step_some (text_field.read bytes) (λ x. cond (length x.0 == 0) (Some (None, x.1)) (cond (is_name x.0) (Some (Some x.0, x.1)) None)) (o, rest) e in
        choose bytes p.0 o rest (text_field_law.spelled bytes p.0.0 p.0.1 p.1) (length p.0.0 == 0) (is_name p.0.0) refl refl p.2

pub list_field_law : IsForm list_field
unfolding list_field list_count
list_field_law = sized_law list_count (λ n. zeros_behind ((NAMES_PER_LIST - n) * name_field_bytes) (repeated named_field n)) length (checked_law is_list_count u8 u8_law)
    (λ n. zeros_behind_law ((NAMES_PER_LIST - n) * name_field_bytes) (repeated named_field n) (repeated_law named_field n named_field_law)) (λ n v fits. fits.0.0)

-- ---- lengths

suc_times : (n k : ℕ) → k + n * k ≡ suc n * k
suc_times n k = omega (arith, suc-mul n k)

pub u8_length : (n : ℕ) → length (u8.spell n) ≡ 1
unfolding u8
u8_length n = refl

pub u16_length : (n : ℕ) → length (u16.spell n) ≡ 2
unfolding u16
u16_length n = refl

pub u32_length : (n : ℕ) → length (u32.spell n) ≡ 4
unfolding u32
u32_length n = refl

pub u64_length : (n : ℕ) → length (u64.spell n) ≡ 8
unfolding u64
u64_length n = refl

pub id_parts_length : (x : ℕ × (ℕ × ℕ)) → length (id_parts.spell x) ≡ 9
id_parts_length x = simp (length-append, u8_length, u32_length) refl

pub file_id_length : (v : FileId) → length (file_id.spell v) ≡ 9
unfolding file_id
file_id_length v = id_parts_length (v.server, (v.epoch, v.counter))

text_length : (v : List ℕ) → length v ≤ NAME_BYTES → length (text_field.spell v) ≡ name_field_bytes
unfolding text_field name_length
text_length v short = omega (arith, length-append (u8.spell (length v)) (v ++ replicate (NAME_BYTES - length v) 0), u8_length (length v), length-append v (replicate (NAME_BYTES - length v) 0), length-replicate {A = ℕ} (NAME_BYTES - length v) 0)

pub named_field_length : HasLength named_field name_field_bytes
unfolding named_field
named_field_length v fits = text_length v (names.name_length v fits.1)

pub name_field_length : HasLength name_field name_field_bytes
unfolding name_field
name_field_length None fits = text_length [] (omega arith)
name_field_length (Some n) fits = text_length n (names.name_length n fits)

pub repeated_length : {A : Type 0} (a : Form A) (k : ℕ) → HasLength a k → (vs : List A) → AllByRecursion a.Fits vs → length (flat_map a.spell vs) ≡ length vs * k
repeated_length a k long [] fits = sym (zero-mul k)
repeated_length a k long (v ∷ vs) fits =
    length-append (a.spell v) (flat_map a.spell vs) ∙ ap (λ (n : ℕ). n + length (flat_map a.spell vs)) (long v fits.0)
    ∙ ap (λ (n : ℕ). k + n) (repeated_length a k long vs fits.1) ∙ suc_times (length vs) k

pub names_length : (vs : List (List ℕ)) → AllByRecursion named_field.Fits vs → length (flat_map named_field.spell vs) ≡ length vs * name_field_bytes
names_length vs fits = repeated_length named_field name_field_bytes named_field_length vs fits

-- those that stand there and those that are left out
split_product : (n m k : ℕ) → n ≤ m → n * k + (m - n) * k ≡ m * k
split_product n m k le = sym (add-mul n (m - n) k) ∙ ap (λ (j : ℕ). j * k) (omega arith)

pub list_field_length : HasLength list_field list_field_bytes
unfolding list_field list_count
list_field_length v fits =
    let n : ℕ = length v in
    let few : n ≤ NAMES_PER_LIST = leb-true n NAMES_PER_LIST fits.0.1 in
    let unused : ℕ = (NAMES_PER_LIST - n) * name_field_bytes in
    let names : List ℕ = flat_map named_field.spell v in
    omega (
      arith,
      length-append (u8.spell n) (names ++ replicate unused 0),
      u8_length n,
      length-append names (replicate unused 0),
      length-replicate {A = ℕ} unused 0,
      names_length v fits.1.0.1,
      split_product n NAMES_PER_LIST name_field_bytes few,
    )
