-- A part of a page is put, and the other parts stay.
use Rattle.std.specs.Prelude.{◌⊎◌, Bool, true, false, cond, ◌||◌, not, ◌==◌, Option, None, Some, option_map, Ok, take, drop, replicate}
use Rattle.std.specs.List.{list_all}
use Rattle.std.proofs.Common.{◌≡◌, ℕ, ◌<◌, ◌≤◌, ◌+◌, ◌-◌, ◌*◌, List, [], ◌∷◌, ◌++◌, length, inl, inr, refl, sym, ◌∙◌, ap, arith, append_assoc, length-append}
use Rattle.std.proofs.lemmas.Bool.{cond-false, eqb-true}
use Rattle.std.proofs.lemmas.List.{take_at, drop_at, take-take, take-append-le, drop-drop, drop-take, length-take-le}
use Rattle.alp_base.specs.Pages.{overwritten}
use Rattle.alp_base.specs.declared.ids.FileId.{FileId}
use Rattle.alp_fields.specs.Forms.{Form, IsSet, pair, mapped, checked, zeros_of, u32, whole, ended, ◌>>=◌}
use Rattle.alp_fields.specs.Fields.{file_id}
use Rattle.alp_fields.proofs.FormLaws.{whole_back, and_parts, pair_law, checked_law, zeros_law}
use Rattle.alp_fields.proofs.FieldLaws.{file_id_law, u32_law}
use Rattle.alp_fields.proofs.FixedLaws.{file_id_length, u32_length}
use Rattle.alp_fields.proofs.PlaceLemmas.{set_pair}
use Rattle.alp_base.specs.declared.cell.OwnerRecord.{OwnerRecord}
use Rattle.alp_fields.specs.OwnerField.{owner_record, unused_record}
use Rattle.alp_fields.proofs.OwnerFieldLaw.{owner_record_law, owner_record_length, unused_is_none}
use Rattle.alp_pages.specs.declared.entry.Entry.{Entry}
use Rattle.alp_pages.specs.Pages.{part_of, entry, entry_of, entry_fields, is_entry, is_no_file, read_row}
use Rattle.alp_pages.proofs.NamingLaws.{eqb_other}
use Rattle.alp_pages.proofs.Members.{order_of}
use Rattle.alp_pages.proofs.NewLaws.{no_entry}

module _ (long k : ℕ) (old bytes : List ℕ) (size : length bytes ≡ long) (within : long * k + long ≤ length old) where
  front : length (take (long * k) old) ≡ long * k
  front = length-take-le (long * k) old (omega arith)

  -- what was put is there
  pub part_own : part_of long k (overwritten old (long * k) bytes) ≡ bytes
  part_own =
      ap (take long) (drop_at (take (long * k) old) (bytes ++ drop (long * k + length bytes) old) (long * k) front) ∙ take_at bytes (drop (long * k + length bytes) old) long size

  part_before : (j : ℕ) → long * j + long ≤ long * k → part_of long j (overwritten old (long * k) bytes) ≡ part_of long j old
  part_before j low =
      sym (drop-take (long * j) long (overwritten old (long * k) bytes))
      ∙ ap (drop (long * j)) (
      take-append-le (long * j + long) (take (long * k) old) (bytes ++ drop (long * k + length bytes) old) (omega (arith, front))
      ∙ take-take (long * j + long) (long * k) old low
      )
      ∙ drop-take (long * j) long old

  part_behind : (j r : ℕ) → long * j ≡ long * k + length bytes + r → part_of long j (overwritten old (long * k) bytes) ≡ part_of long j old
  part_behind j r high =
      let put : List ℕ = take (long * k) old ++ bytes in
      let rest : List ℕ = drop (long * k + length bytes) old in
      let whole_ : overwritten old (long * k) bytes ≡ put ++ rest = sym (append_assoc (take (long * k) old) bytes rest) in
      let size_ : length put ≡ long * k + length bytes = omega (arith, length-append (take (long * k) old) bytes, front) in
      ap (λ (n : ℕ). take long (drop n (overwritten old (long * k) bytes))) high
      ∙ ap (take long) (
      sym (drop-drop r (long * k + length bytes) (overwritten old (long * k) bytes))
      ∙ ap (drop r) (ap (drop (long * k + length bytes)) whole_ ∙ drop_at put rest (long * k + length bytes) size_) ∙ drop-drop r (long * k + length bytes) old
      )
      ∙ ap (λ (n : ℕ). take long (drop n old)) (sym high)

  -- and the other parts are as they were
  pub part_other : (j : ℕ) → (long * j + long ≤ long * k) ⊎ (long * k + long ≤ long * j) → part_of long j (overwritten old (long * k) bytes) ≡ part_of long j old
  part_other j h = elim h [ inl low ↦ part_before j low | inr high ↦ part_behind j (long * j - (long * k + length bytes)) (omega (arith, size, high)) ]

-- one of two parts lies in front of the other
apart_16 : (j k : ℕ) → (j ≡ k → ⊥) → (16 * j + 16 ≤ 16 * k) ⊎ (16 * k + 16 ≤ 16 * j)
apart_16 j k ne = elim (order_of j k) [ inl low ↦ inl (omega arith) | inr r ↦ elim r [ inl e ↦ absurd (ne e) | inr high ↦ inr (omega arith) ] ]

apart_256 : (j k : ℕ) → (j ≡ k → ⊥) → (256 * j + 256 ≤ 256 * k) ⊎ (256 * k + 256 ≤ 256 * j)
apart_256 j k ne = elim (order_of j k) [ inl low ↦ inl (omega arith) | inr r ↦ elim r [ inl e ↦ absurd (ne e) | inr high ↦ inr (omega arith) ] ]

-- ---- entries

whole_mapped : {A T : Type 0} (into : A → T) (out : T → A) (a : Form A) (bytes : List ℕ) (v : A) → whole a bytes ≡ Some v → whole (mapped into out a) bytes ≡ Some (into v)
whole_mapped {A} {T} into out a bytes v h = go (a.read bytes) h
  where
    go : (r : Option (A × List ℕ)) → ended r ≡ Some v → ended {T = T} (r >>= (λ x. Some (into x.0, x.1))) ≡ Some (into v)
    go None h = cc
    go (Some x) h = last (length x.1 == 0) h
      where
        last : (t : Bool) → cond t (Some x.0) None ≡ Some v → cond t (Some (into x.0)) None ≡ Some (into v)
        last true h = ap Some (ap into (let same : x.0 ≡ v = cc in same))
        last false h = cc

abbrev fields : Form (FileId × (Unit {0} × ℕ))
fields = pair file_id (pair (zeros_of 3) u32)

abbrev entry_bytes : Entry → List ℕ
entry_bytes e = file_id.spell e.file ++ (replicate 3 0 ++ u32.spell e.place)

entry_length : (e : Entry) → length (entry_bytes e) ≡ 16
entry_length e =
    omega (arith, length-append (file_id.spell e.file) (replicate 3 0 ++ u32.spell e.place), length-append {A = ℕ} (replicate 3 0) (u32.spell e.place), file_id_length e.file, u32_length e.place)

entry_read : (e : Entry) → file_id.Fits e.file → u32.Fits e.place → 0 < e.place → whole entry (entry_bytes e) ≡ Some (Some e)
unfolding entry
entry_read e file place some =
    whole_mapped entry_of entry_fields (checked is_entry fields) (entry_bytes e) (e.file, (tt, e.place))
    (whole_back (checked is_entry fields) (checked_law is_entry fields (pair_law file_id (pair (zeros_of 3) u32) file_id_law (pair_law (zeros_of 3) u32 (zeros_law 3) u32_law))) (e.file, (tt, e.place)) ((file, (tt, place)), named))
    ∙ ap Some (cond-false (e.place == 0) None (Some e) other)
  where
    other : (e.place == 0) ≡ false
    other = eqb_other e.place 0 (λ z. omega arith)

    named : (not (e.place == 0) || is_no_file e.file) ≡ true
    named = ap (λ (t : Bool). not t || is_no_file e.file) other

module _ (page mid next new : List ℕ) (k : ℕ) (e : Entry) (long : length page ≡ 512) (same : length mid ≡ 512) (low : k < 32) (file : IsSet file_id e.file (16 * k) page mid)
    (zeros : next ≡ overwritten mid (16 * k + 9) (replicate 3 0)) (place : IsSet u32 e.place (16 * k + 12) next new) where
  entry_put : new ≡ overwritten page (16 * k) (entry_bytes e)
  entry_put =
      let last : IsSet (pair (zeros_of 3) u32) (tt, e.place) (16 * k + 9) mid new =
      set_pair (zeros_of 3) u32 tt e.place (16 * k + 9) (16 * k + 12) mid next new (omega arith) (omega arith) (record { set = zeros; fits = tt }) place in
      (set_pair file_id (pair (zeros_of 3) u32) e.file (tt, e.place) (16 * k) (16 * k + 9) page mid new (omega arith) (omega (arith, file_id_length e.file)) file last).set

  pub entry_own : 0 < e.place → whole entry (part_of 16 k new) ≡ Some (Some e)
  entry_own some =
      ap (λ (p : List ℕ). whole entry (part_of 16 k p)) entry_put ∙ ap (whole entry) (part_own 16 k page (entry_bytes e) (entry_length e) (omega arith)) ∙ entry_read e file.fits place.fits some

  pub entry_others : (j : ℕ) → (j ≡ k → ⊥) → part_of 16 j new ≡ part_of 16 j page
  entry_others j ne = ap (part_of 16 j) entry_put ∙ part_other 16 k page (entry_bytes e) (entry_length e) (omega arith) j (apart_16 j k ne)

module _ (page new : List ℕ) (k : ℕ) (long : length page ≡ 512) (low : k < 32) (put : new ≡ overwritten page (16 * k) (replicate 16 0)) where
  pub cleared_own : whole entry (part_of 16 k new) ≡ Some None
  cleared_own = ap (λ (p : List ℕ). whole entry (part_of 16 k p)) put ∙ ap (whole entry) (part_own 16 k page (replicate 16 0) refl (omega arith)) ∙ no_entry

  pub cleared_others : (j : ℕ) → (j ≡ k → ⊥) → part_of 16 j new ≡ part_of 16 j page
  cleared_others j ne = ap (part_of 16 j) put ∙ part_other 16 k page (replicate 16 0) refl (omega arith) j (apart_16 j k ne)

-- ---- owners' rows

all_zeros : (xs : List ℕ) → list_all (λ b. b == 0) xs ≡ true → xs ≡ replicate (length xs) 0
all_zeros [] e = refl
all_zeros (x ∷ xs) e =
    let both = and_parts (x == 0) (list_all (λ b. b == 0) xs) e in
    let zero_ : x ≡ 0 = eqb-true x 0 both.0 in
    let rest = all_zeros xs both.1 in
    λ i. zero_ i ∷ rest i

-- the record of an owner is not one of zeros
not_unused : (o : OwnerRecord) → owner_record.Fits o → list_all (λ b. b == 0) (owner_record.spell o) ≡ false
not_unused o fits = go (list_all (λ b. b == 0) (owner_record.spell o)) refl
  where
    go : (t : Bool) → list_all (λ b. b == 0) (owner_record.spell o) ≡ t → t ≡ false
    go false e = refl
    go true e =
        let unused : owner_record.spell o ≡ unused_record = all_zeros (owner_record.spell o) e ∙ ap (λ (n : ℕ). replicate n 0) (owner_record_length o fits) in
        let never = unused_is_none {E = ℕ} (owner_record.spell o) (Ok (Some o)) (sym (whole_back owner_record owner_record_law o fits)) unused in
        absurd (let no_ : ◌≡◌ {A = Option OwnerRecord} (Some o) None = never in cc)

owner_read : (o : OwnerRecord) → owner_record.Fits o → read_row (owner_record.spell o) ≡ Some (Some o)
owner_read o fits =
    cond-false (list_all (λ b. b == 0) (owner_record.spell o)) (Some None) (option_map Some (whole owner_record (owner_record.spell o))) (not_unused o fits) ∙ ap (option_map Some) (whole_back owner_record owner_record_law o fits)

module _ (page new bytes : List ℕ) (k : ℕ) (o : OwnerRecord) (long : length page ≡ 512) (low : k < 2) (is : bytes ≡ owner_record.spell o) (fits : owner_record.Fits o) (put : new ≡ overwritten page (256 * k) bytes) where
  size_is : length bytes ≡ 256
  size_is = ap length is ∙ owner_record_length o fits

  pub row_own : read_row (part_of 256 k new) ≡ Some (Some o)
  row_own = ap (λ (p : List ℕ). read_row (part_of 256 k p)) put ∙ ap read_row (part_own 256 k page bytes size_is (omega arith) ∙ is) ∙ owner_read o fits

  pub row_others : (j : ℕ) → (j ≡ k → ⊥) → part_of 256 j new ≡ part_of 256 j page
  row_others j ne = ap (part_of 256 j) put ∙ part_other 256 k page bytes size_is (omega arith) j (apart_256 j k ne)
