-- Owners that are taken in row by row.
use Rattle.std.specs.Prelude.{Bool, true, false, not, cond, ◌&&◌, ◌==◌, nat_lt, is_some, Option, None, Some, sum_by, slice_index_or, slice_set}
use Rattle.std.specs.List.{list_any, range_with_len}
use Rattle.std.specs.Ordering.{eq_by_cmp}
use Rattle.std.specs.FinMap as map
use Rattle.std.specs.FinMap.{get-insert}
use Rattle.std.specs.Cmp.{eq_by_cmp_equiv}
use Rattle.std.specs.Cmp.Lexicographic.{nat_list_cmp_total}
use Rattle.std.proofs.Common.{◌≡◌, ℕ, ◌+◌, ◌<◌, List, [], ◌∷◌, length, refl, sym, ◌∙◌, ap, subst, arith, eq-eqb}
use Rattle.std.proofs.lemmas.Bool.{eqb-true, cond-true, ltb-true, ltb-false, lt-ltb}
use Rattle.std.proofs.lemmas.List.{get_or-set_same, get_or-set_other}
use Rattle.std.proofs.lemmas.Map.Lookups.{exact_bytes}
use Rattle.std.proofs.lemmas.Map.Views.{tells_apart}
use Rattle.alp_base.specs.Notes.{text_cmp}
use Rattle.alp_base.specs.declared.cell.OwnerRecord.{OwnerRecord}
use Rattle.alp_files.specs.Cells.{same_name}
use Rattle.alp_files.proofs.SameLemmas.{same_name-true, same_name-itself}
use Rattle.alp_tables.specs.declared.cost.Cost.{Cost}
use Rattle.alp_pages.specs.Pages.{Pages, row_in}
use Rattle.alp_pages.specs.Damage.{owner_there, has_owner, is_named, is_right_row, charge_in}
use Rattle.alp_volume.specs.Reached.{AreOwners, AreCosts, Owners}
use Rattle.alp_tables.specs.Costs.{cost_to}
use Rattle.alp_pages.proofs.Members.{In, in-any, any-in, in-range, in-range-back}
use Rattle.alp_tables.proofs.FreeLaws.{free_within}
use Rattle.alp_volume.proofs.ListLaws.{is_none, less_more, not_itself}

names_alike : (a b : List ℕ) → same_name a b ≡ eq_by_cmp text_cmp a b
names_alike a b = go (same_name a b) refl (eq_by_cmp text_cmp a b) refl
  where
    go : (t : Bool) → same_name a b ≡ t → (u : Bool) → eq_by_cmp text_cmp a b ≡ u → t ≡ u
    go true e true d = refl
    go false e false d = refl
    go true e false d =
        let same : a ≡ b = same_name-true a b e in
        let one : eq_by_cmp text_cmp a b ≡ true = ap (λ (x : List ℕ). eq_by_cmp text_cmp x b) same ∙ (eq_by_cmp_equiv nat_list_cmp_total).refl b in
        cc
    go false e true d =
        let same : a ≡ b = tells_apart exact_bytes a b d in
        let one : same_name a b ≡ true = ap (λ (x : List ℕ). same_name x b) same ∙ same_name-itself b in
        cc

-- what a table of owners has after one more
pub got : (owners : Owners) (name : List ℕ) (r : ℕ) (q : List ℕ) → map.get (map.insert owners name r) q ≡ cond (same_name q name) (Some r) (map.get owners q)
got owners name r q = get-insert nat_list_cmp_total owners name r q ∙ ap (λ (t : Bool). cond t (Some r) (map.get owners q)) (sym (names_alike q name))

module _ (at : Pages) (row : ℕ) (owners : Owners) (rows : List Bool) (owned : AreOwners at row owners rows) where
  named_owner : (name : List ℕ) (r : ℕ) → is_named name (owner_there (row_in at r)) ≡ true → (o : OwnerRecord) × (owner_there (row_in at r) ≡ Some o) × (o.name ≡ name)
  named_owner name r h = go (owner_there (row_in at r)) refl h
    where
      go : (x : Option OwnerRecord) → owner_there (row_in at r) ≡ x → is_named name x ≡ true → (o : OwnerRecord) × (owner_there (row_in at r) ≡ Some o) × (o.name ≡ name)
      go None e x = cc
      go (Some o) e x = (o, e, same_name-true o.name name x)

  -- the table has just the owners that stand in the rows
  pub has_owner_is : (name : List ℕ) → has_owner at row name ≡ is_some (map.get owners name)
  has_owner_is name = go (has_owner at row name) refl (map.get owners name) refl
    where
      go : (t : Bool) → has_owner at row name ≡ t → (x : Option ℕ) → map.get owners name ≡ x → t ≡ is_some x
      go true e (Some r) d = refl
      go false e None d = refl
      go true e None d =
          let one = any-in (λ r. is_named name (owner_there (row_in at r))) (range_with_len 0 row) e in
          let two = named_owner name one.0 one.2 in
          let low = in-range-back one.0 0 row one.1 in
          let there : map.get owners two.0.name ≡ Some one.0 = owned.there one.0 two.0 (omega (arith, low.1)) two.1 in
          let same : map.get owners two.0.name ≡ map.get owners name = ap (map.get owners) two.2 in
          cc
      go false e (Some r) d =
          let old = owned.back name r d in
          let yes : has_owner at row name ≡ true = in-any (λ r. is_named name (owner_there (row_in at r))) r (range_with_len 0 row) (in-range r 0 row (omega arith) (omega (arith, old.0))) old.1 in
          cc

  pub right_row : (o : OwnerRecord) (costs : List Cost) → row_in at row ≡ Some (Some o) → AreCosts at costs → o.charge ≡ sum_by (cost_to o.name) costs → (r : Bool) → r ≡ not (is_some (map.get owners o.name)) → r ≡ is_right_row at row (row_in at row)
  right_row o costs here right charge r is =
      let one : (o.charge == charge_in at o.name) ≡ true = eq-eqb o.charge (charge_in at o.name) (charge ∙ right o.name) in
      is
      ∙ ap not (sym (has_owner_is o.name))
      ∙ sym (whole (not (has_owner at row o.name)))
      ∙ ap (λ (b : Bool). not (has_owner at row o.name) && b) (sym one)
      ∙ sym (ap (is_right_row at row) here)
    where
      whole : (b : Bool) → (b && true) ≡ b
      whole true = refl
      whole false = refl

  pub wrong_charge : (o : OwnerRecord) (costs : List Cost) → row_in at row ≡ Some (Some o) → AreCosts at costs → (o.charge ≡ sum_by (cost_to o.name) costs → ⊥) → false ≡ is_right_row at row (row_in at row)
  wrong_charge o costs here right other = go (o.charge == charge_in at o.name) refl ∙ sym (ap (is_right_row at row) here)
    where
      none : (a : Bool) → false ≡ (a && false)
      none true = refl
      none false = refl

      go : (t : Bool) → (o.charge == charge_in at o.name) ≡ t → false ≡ (not (has_owner at row o.name) && (o.charge == charge_in at o.name))
      go true e = absurd (other (eqb-true o.charge (charge_in at o.name) e ∙ sym (right o.name)))
      go false e = none (not (has_owner at row o.name)) ∙ ap (λ (b : Bool). not (has_owner at row o.name) && b) (sym e)

  pub none_owned : row_in at row ≡ Some None → AreOwners at (row + 1) owners rows
  none_owned here = record {
    there = λ r o few is. there_of r o few is (nat_lt r row) refl;
    back = λ name r is. let old = owned.back name r is in (omega (arith, old.0), old.1);
    flags = λ r few. owned.flags r few ∙ flags_of r (nat_lt r row) refl (nat_lt r (row + 1)) refl;
  }
    where
      empty : owner_there (row_in at row) ≡ None
      empty = ap owner_there here

      there_of : (r : ℕ) (o : OwnerRecord) → r < row + 1 → owner_there (row_in at r) ≡ Some o → (t : Bool) → nat_lt r row ≡ t → map.get owners o.name ≡ Some r
      there_of r o few is true lt = owned.there r o (ltb-true r row lt) is
      there_of r o few is false ge =
          let same : r ≡ row = omega (arith, ltb-false r row ge) in
          let never : Some o ≡ None = sym is ∙ ap (λ (x : ℕ). owner_there (row_in at x)) same ∙ empty in
          cc

      flags_of : (r : ℕ) (t : Bool) → nat_lt r row ≡ t → (u : Bool) → nat_lt r (row + 1) ≡ u → (t && is_some (owner_there (row_in at r))) ≡ (u && is_some (owner_there (row_in at r)))
      flags_of r true a true b = refl
      flags_of r false a false b = refl
      flags_of r true a false b = absurd (omega (arith, ltb-true r row a, ltb-false r (row + 1) b))
      flags_of r false a true b = sym (ap is_some (ap (λ (x : ℕ). owner_there (row_in at x)) (let same : r ≡ row = omega (arith, ltb-false r row a, ltb-true r (row + 1) b) in same) ∙ empty))

  new_owned : (o : OwnerRecord) → row_in at row ≡ Some (Some o) → row < length rows → map.get owners o.name ≡ None → AreOwners at (row + 1) (map.insert owners o.name row) (slice_set rows row true)
  new_owned o here long none = record {
    there = λ r p few is. there_of r p few is (nat_lt r row) refl;
    back = λ name r is. back_of name r (same_name name o.name) refl (sym (got owners o.name row name) ∙ is);
    flags = λ r few. flags_of r few (r == row) refl;
  }
    where
      there_is : owner_there (row_in at row) ≡ Some o
      there_is = ap owner_there here

      name_of : (r : ℕ) (p : OwnerRecord) (t : Bool) → same_name p.name o.name ≡ t → map.get owners p.name ≡ Some r → cond t (Some row) (map.get owners p.name) ≡ Some r
      name_of r p true alike old =
          let same : map.get owners p.name ≡ map.get owners o.name = ap (map.get owners) (same_name-true p.name o.name alike) in
          cc
      name_of r p false alike old = old

      there_of : (r : ℕ) (p : OwnerRecord) → r < row + 1 → owner_there (row_in at r) ≡ Some p → (t : Bool) → nat_lt r row ≡ t → map.get (map.insert owners o.name row) p.name ≡ Some r
      there_of r p few is true lt = got owners o.name row p.name ∙ name_of r p (same_name p.name o.name) refl (owned.there r p (ltb-true r row lt) is)
      there_of r p few is false ge =
          let same : r ≡ row = omega (arith, ltb-false r row ge) in
          let one : Some p ≡ Some o = sym is ∙ ap (λ (x : ℕ). owner_there (row_in at x)) same ∙ there_is in
          let owner : p ≡ o = cc in
          got owners o.name row p.name ∙ cond-true (same_name p.name o.name) (Some row) (map.get owners p.name) (ap (λ (x : OwnerRecord). same_name x.name o.name) owner ∙ same_name-itself o.name) ∙ ap Some (sym same)

      back_of : (name : List ℕ) (r : ℕ) (t : Bool) → same_name name o.name ≡ t → cond t (Some row) (map.get owners name) ≡ Some r → (r < row + 1) × (is_named name (owner_there (row_in at r)) ≡ true)
      back_of name r true alike is =
          let same : row ≡ r = cc in
          let name_is : name ≡ o.name = same_name-true name o.name alike in
          (omega arith, ap (λ (x : ℕ). is_named name (owner_there (row_in at x))) (sym same) ∙ ap (is_named name) there_is ∙ ap (same_name o.name) name_is ∙ same_name-itself o.name)
      back_of name r false alike is = let old = owned.back name r is in (omega (arith, old.0), old.1)

      flags_of : (r : ℕ) → r < 256 → (t : Bool) → (r == row) ≡ t → slice_index_or (slice_set rows row true) r true ≡ (nat_lt r (row + 1) && is_some (owner_there (row_in at r)))
      flags_of r few true eq =
          let same : r ≡ row = eqb-true r row eq in
          ap (λ (x : ℕ). slice_index_or (slice_set rows row true) x true) same ∙ get_or-set_same rows row true true long
          ∙ sym (ap (λ (t : Bool). t && is_some (owner_there (row_in at r))) (lt-ltb r (row + 1) (omega arith)) ∙ ap (λ (x : ℕ). is_some (owner_there (row_in at x))) same ∙ ap is_some there_is)
      flags_of r few false ne =
          let other : r ≡ row → ⊥ = λ same. (let wrong : (r == row) ≡ true = eq-eqb r row same in cc) in
          get_or-set_other rows row r true true other ∙ owned.flags r few ∙ ap (λ (t : Bool). t && is_some (owner_there (row_in at r))) (less_more r row other)

  -- the owners with one more, as the code makes them
  pub added_owned : (o : OwnerRecord) → row_in at row ≡ Some (Some o) → row < 256 → (new : Owners) (r : Bool) → r ≡ true → r ≡ not (is_some (map.get owners o.name)) → (r ≡ true → new ≡ map.insert owners o.name row)
      → (flags : List Bool) (s : Bool) → (s ≡ true → (slice_index_or rows row true ≡ false) × (flags ≡ slice_set rows row true)) → (s ≡ false → slice_index_or rows row true ≡ true) → AreOwners at (row + 1) new flags
  added_owned o here low new r ok fresh inserted flags s marked taken = go s refl
    where
      open_row : slice_index_or rows row true ≡ false
      open_row = owned.flags row low ∙ ap (λ (t : Bool). t && is_some (owner_there (row_in at row))) (not_itself row)

      go : (t : Bool) → s ≡ t → AreOwners at (row + 1) new flags
      go true e = rw (inserted ok, (marked e).1) (new_owned o here (free_within rows row open_row) (is_none (map.get owners o.name) (sym ok ∙ fresh)))
      go false e = let never : true ≡ false = sym (taken e) ∙ open_row in cc
