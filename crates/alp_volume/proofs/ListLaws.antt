-- Files that are listed entry by entry.
use Rattle.std.specs.Prelude.{Bool, true, false, not, cond, ◌&&◌, ◌||◌, ◌==◌, nat_le, nat_lt, is_some, Option, None, Some, option_map, slice_index_or, slice_set}
use Rattle.std.specs.Option.{option_to_list}
use Rattle.std.specs.FinMap as map
use Rattle.std.specs.FinMap.{FinMap, get-insert, len-insert}
use Rattle.std.specs.Cmp.{IsTotalOrder}
use Rattle.std.specs.declared.cmp.Ordering.{Ordering}
use Rattle.std.proofs.Common.{◌≡◌, ℕ, zero, suc, ◌+◌, ◌<◌, ◌≤◌, List, [], ◌∷◌, length, refl, sym, ◌∙◌, ap, subst, arith, eq-eqb}
use Rattle.std.proofs.lemmas.Bool.{eqb-true, cond-true, cond-false, leb-true, ltb-true, ltb-false, lt-ltb}
use Rattle.std.proofs.lemmas.List.{get_or-set_same, get_or-set_other, length-set}
use Rattle.alp_base.specs.declared.ids.FileId.{FileId}
use Rattle.alp_files.specs.Cells.{same_file}
use Rattle.alp_files.proofs.SameLemmas.{same_file-true, same_file-itself}
use Rattle.alp_pages.specs.declared.entry.Entry.{Entry}
use Rattle.alp_tables.specs.declared.file_slot.FileSlot.{FileSlot}
use Rattle.alp_pages.specs.Nodes.{Node, LeaderOf, IndexOf, DataOf, same_node}
use Rattle.alp_pages.specs.Pages.{Pages, entry_in}
use Rattle.alp_pages.specs.Damage.{Name, Slot, has_node, has_place, is_new, are_new, added, names_in, is_right, entry_there, leader_name}
use Rattle.alp_volume.specs.Reached.{AreMarks, AreListed, Files, slot_of}
use Rattle.alp_pages.proofs.NodeTests.{leaders_alike}
use Rattle.alp_volume.proofs.MarkLaws.{new_by, old_by, marked}
use Rattle.alp_tables.proofs.FreeLaws.{free_within}
use Rattle.alp_tables.proofs.Tables.{files_total}

-- what a table of files has after one more
pub got : (files : Files) (f : FileId) (x : FileSlot) (g : FileId) → map.get (map.insert files f x) g ≡ cond (same_file g f) (Some x) (map.get files g)
got files f x g = get-insert files_total files f x g ∙ ap (λ (t : Bool). cond t (Some x) (map.get files g)) (sym (leaders_alike g f))

no_flag : (a b n c : Bool) → not (a && b && not c) ≡ true → (a && b && not n && not c) ≡ false
no_flag true true n false h = cc
no_flag true true true true h = refl
no_flag true true false true h = refl
no_flag true false n c h = refl
no_flag false b n c h = refl

pub less_more : (s slot : ℕ) → (s ≡ slot → ⊥) → nat_lt s slot ≡ nat_lt s (slot + 1)
less_more s slot other = split (nat_lt s slot) refl (nat_lt s (slot + 1)) refl
  where
    split : (t : Bool) → nat_lt s slot ≡ t → (u : Bool) → nat_lt s (slot + 1) ≡ u → t ≡ u
    split true a true b = refl
    split false a false b = refl
    split true a false b = absurd (omega (arith, ltb-true s slot a, ltb-false s (slot + 1) b))
    split false a true b = absurd (other (omega (arith, ltb-false s slot a, ltb-true s (slot + 1) b)))

pub not_itself : (n : ℕ) → nat_lt n n ≡ false
not_itself n = split (nat_lt n n) refl
  where
    split : (t : Bool) → nat_lt n n ≡ t → t ≡ false
    split true a = absurd (omega (arith, ltb-true n n a))
    split false a = refl

-- a place that is taken is no new name's
pub not_new : (home : ℕ) (names : List Name) (taken : List Bool) (k : Node) (p : ℕ) → AreMarks home names taken → slice_index_or taken p true ≡ true → is_new home names (k, p) ≡ false
not_new home names taken k p marks flag = no_flag (nat_le 257 p) (nat_lt p home) (has_node k names) (has_place p names) (sym (marks.says p) ∙ flag)

module _ (home : ℕ) (at : Pages) (names : List Name) (slot : ℕ) (e : Entry) (here : entry_in at slot ≡ Some (Some e)) where
  there_is : entry_there (entry_in at slot) ≡ Some e
  there_is = ap entry_there here

  pub names_is : names_in at (Slot slot) ≡ (LeaderOf e.file, e.place) ∷ []
  names_is = ap (λ (o : Option Entry). option_to_list (leader_name o)) there_is

  right_is : is_right home at names (Slot slot) ≡ is_new home names (LeaderOf e.file, e.place)
  right_is =
      ap (λ (o : Option (Option Entry)). is_some o && are_new home names (names_in at (Slot slot))) here
      ∙ ap (are_new home names) names_is
      ∙ whole (is_new home names (LeaderOf e.file, e.place))
    where
      whole : (b : Bool) → (b && true) ≡ b
      whole true = refl
      whole false = refl

  module _ (taken : List Bool) (marks : AreMarks home names taken) where
    pub taken_place : slice_index_or taken e.place true ≡ true → false ≡ is_right home at names (Slot slot)
    taken_place flag = sym (right_is ∙ not_new home names taken (LeaderOf e.file) e.place marks flag)

    pub marked_entry : slice_index_or taken e.place true ≡ false → AreMarks home (added names (names_in at (Slot slot))) (slice_set taken e.place true)
    marked_entry free = subst (λ (xs : List Name). AreMarks home (added names xs) (slice_set taken e.place true)) (sym names_is) (marked home names taken (LeaderOf e.file) e.place marks free)

    module _ (files : Files) (slots : List Bool) (listed : AreListed home at slot names files slots) where
      pub known_file : slice_index_or taken e.place true ≡ false → not (is_some (map.get files e.file)) ≡ is_right home at names (Slot slot)
      known_file free = go (is_some (map.get files e.file)) refl
        where
          go : (t : Bool) → is_some (map.get files e.file) ≡ t → not t ≡ is_right home at names (Slot slot)
          go true has = sym (right_is ∙ old_by home names (LeaderOf e.file) e.place (listed.leaders e.file ∙ has))
          go false none = sym (right_is ∙ new_by home names taken (LeaderOf e.file) e.place marks (listed.leaders e.file ∙ none) ∙ ap not free)

      pub new_listed : slot < 4096 → slot < length slots → slice_index_or taken e.place true ≡ false → map.get files e.file ≡ None
          → AreListed home at (slot + 1) (added names (names_in at (Slot slot))) (map.insert files e.file (record { slot = slot; place = e.place; blocks = 0 })) (slice_set slots slot true)
      new_listed low long free none = record {
        there = λ s d few is. there_of s d few is;
        back = λ g y is. back_of g y (same_file g e.file) refl (sym (got files e.file kept g) ∙ is);
        within = λ g y is. within_of g y (same_file g e.file) refl (sym (got files e.file kept g) ∙ is);
        leaders = λ g. leaders_of g;
        flags = λ s few. flags_of s few;
      }
        where
          kept : FileSlot
          kept = record { slot = slot; place = e.place; blocks = 0 }

          there_of : (s : ℕ) (d : Entry) → s < slot + 1 → entry_there (entry_in at s) ≡ Some d → option_map slot_of (map.get (map.insert files e.file (record { slot = slot; place = e.place; blocks = 0 })) d.file) ≡ Some s
          there_of s d few is = go (nat_lt s slot) refl
            where
              file : (t : Bool) → same_file d.file e.file ≡ t → option_map slot_of (map.get files d.file) ≡ Some s → option_map slot_of (cond t (Some (record { slot = slot; place = e.place; blocks = 0 })) (map.get files d.file)) ≡ Some s
              file true alike old =
                  let same : d.file ≡ e.file = same_file-true d.file e.file alike in
                  let gone : map.get files d.file ≡ None = ap (map.get files) same ∙ none in
                  let never : option_map slot_of None ≡ Some s = sym (ap (option_map slot_of) gone) ∙ old in
                  cc
              file false alike old = old

              go : (t : Bool) → nat_lt s slot ≡ t → option_map slot_of (map.get (map.insert files e.file (record { slot = slot; place = e.place; blocks = 0 })) d.file) ≡ Some s
              go true lt = ap (option_map slot_of) (got files e.file (record { slot = slot; place = e.place; blocks = 0 }) d.file) ∙ file (same_file d.file e.file) refl (listed.there s d (ltb-true s slot lt) is)
              go false ge =
                  let past : slot ≤ s = ltb-false s slot ge in
                  let same : s ≡ slot = omega arith in
                  let one : Some d ≡ Some e = sym is ∙ ap (λ (x : ℕ). entry_there (entry_in at x)) same ∙ there_is in
                  let entry : d ≡ e = cc in
                  ap (option_map slot_of) (got files e.file (record { slot = slot; place = e.place; blocks = 0 }) d.file ∙ cond-true (same_file d.file e.file) (Some (record { slot = slot; place = e.place; blocks = 0 })) (map.get files d.file) (ap (λ (x : Entry). same_file x.file e.file) entry ∙ same_file-itself e.file)) ∙ ap Some (sym same)

          back_of : (g : FileId) (y : FileSlot) (t : Bool) → same_file g e.file ≡ t → cond t (Some (record { slot = slot; place = e.place; blocks = 0 })) (map.get files g) ≡ Some y → (y.slot < slot + 1) × (entry_there (entry_in at y.slot) ≡ Some (record { file = g; place = y.place }))
          back_of g y true alike is =
              let same : g ≡ e.file = same_file-true g e.file alike in
              let slot_is : slot ≡ y.slot = cc in
              let place_is : e.place ≡ y.place = cc in
              (omega arith, ap (λ (x : ℕ). entry_there (entry_in at x)) (sym slot_is) ∙ there_is ∙ (λ i. Some (record { file = sym same i; place = place_is i })))
          back_of g y false alike is = let old = listed.back g y is in (omega (arith, old.0), old.1)

          within_of : (g : FileId) (y : FileSlot) (t : Bool) → same_file g e.file ≡ t → cond t (Some (record { slot = slot; place = e.place; blocks = 0 })) (map.get files g) ≡ Some y → y.place < home
          within_of g y true alike is =
              let place_is : e.place ≡ y.place = cc in
              omega (arith, free_within taken e.place free, marks.long)
          within_of g y false alike is = listed.within g y is

          leaders_of : (g : FileId) → has_node (LeaderOf g) (added names (names_in at (Slot slot))) ≡ is_some (map.get (map.insert files e.file (record { slot = slot; place = e.place; blocks = 0 })) g)
          leaders_of g = ap (λ (xs : List Name). has_node (LeaderOf g) (added names xs)) names_is ∙ go (same_file g e.file) ∙ sym (ap is_some (got files e.file (record { slot = slot; place = e.place; blocks = 0 }) g))
            where
              go : (t : Bool) → (t || has_node (LeaderOf g) names) ≡ is_some (cond t (Some (record { slot = slot; place = e.place; blocks = 0 })) (map.get files g))
              go true = refl
              go false = listed.leaders g

          flags_of : (s : ℕ) → s < 4096 → slice_index_or (slice_set slots slot true) s true ≡ (nat_lt s (slot + 1) && is_some (entry_there (entry_in at s)))
          flags_of s few = go (s == slot) refl
            where
              go : (t : Bool) → (s == slot) ≡ t → slice_index_or (slice_set slots slot true) s true ≡ (nat_lt s (slot + 1) && is_some (entry_there (entry_in at s)))
              go true eq =
                  let same : s ≡ slot = eqb-true s slot eq in
                  ap (λ (x : ℕ). slice_index_or (slice_set slots slot true) x true) same ∙ get_or-set_same slots slot true true long
                  ∙ sym (ap (λ (t : Bool). t && is_some (entry_there (entry_in at s))) (lt-ltb s (slot + 1) (omega arith)) ∙ ap (λ (x : ℕ). is_some (entry_there (entry_in at x))) same ∙ ap is_some there_is)
              go false ne =
                  let other : s ≡ slot → ⊥ = λ same. (let wrong : (s == slot) ≡ true = eq-eqb s slot same in cc) in
                  get_or-set_other slots slot s true true other ∙ listed.flags s few ∙ ap (λ (t : Bool). t && is_some (entry_there (entry_in at s))) (less_more s slot other)

-- one more at most
pub few_more : {K X : Type 0} {R : K → K → Ordering} (total : IsTotalOrder R) (old new : FinMap R X) (k : K) (x : X) (r : Bool) → (r ≡ true → new ≡ map.insert old k x) → (r ≡ false → new ≡ old) → map.len new ≤ map.len old + 1
few_more total old new k x true one two = go (map.contains_key old k) (ap map.len (one refl) ∙ len-insert total old k x)
  where
    go : (t : Bool) → map.len new ≡ cond t (map.len old) (map.len old + 1) → map.len new ≤ map.len old + 1
    go true e = omega (arith, e)
    go false e = omega (arith, e)
few_more total old new k x false one two = omega (arith, ap map.len (two refl))

pub is_none : {X : Type 0} (o : Option X) → true ≡ not (is_some o) → o ≡ None
is_none None h = refl
is_none (Some x) h = cc

-- the files with one more, as the code makes them
pub added_listed : (home : ℕ) (at : Pages) (names : List Name) (slot : ℕ) (e : Entry) → entry_in at slot ≡ Some (Some e) → (taken : List Bool) → AreMarks home names taken → (files : Files) (slots : List Bool) → AreListed home at slot names files slots
    → slot < 4096 → slice_index_or taken e.place true ≡ false → (new : Files) (r : Bool) → r ≡ true → r ≡ not (is_some (map.get files e.file)) → (r ≡ true → new ≡ map.insert files e.file (record { slot = slot; place = e.place; blocks = 0 }))
    → (flags : List Bool) (s : Bool) → (s ≡ true → (slice_index_or slots slot true ≡ false) × (flags ≡ slice_set slots slot true)) → (s ≡ false → slice_index_or slots slot true ≡ true) → AreListed home at (slot + 1) (added names (names_in at (Slot slot))) new flags
added_listed home at names slot e here taken marks files slots listed low free new r ok fresh inserted flags s yes2 no2 = go s refl
  where
    open_slot : slice_index_or slots slot true ≡ false
    open_slot = listed.flags slot low ∙ ap (λ (t : Bool). t && is_some (entry_there (entry_in at slot))) (not_itself slot)

    go : (t : Bool) → s ≡ t → AreListed home at (slot + 1) (added names (names_in at (Slot slot))) new flags
    go true e2 = rw (inserted ok, (yes2 e2).1) (new_listed home at names slot e here taken marks files slots listed low (free_within slots slot open_slot) free (is_none (map.get files e.file) (sym ok ∙ fresh)))
    go false e2 = let never : true ≡ false = sym (no2 e2) ∙ open_slot in cc

-- an entry of no file
pub none_listed : (home : ℕ) (at : Pages) (names : List Name) (slot : ℕ) → entry_in at slot ≡ Some None → (files : Files) (slots : List Bool) → AreListed home at slot names files slots → AreListed home at (slot + 1) (added names (names_in at (Slot slot))) files slots
none_listed home at names slot here files slots listed = record {
  there = λ s d few is. there_of s d few is (nat_lt s slot) refl;
  back = λ g y is. let old = listed.back g y is in (omega (arith, old.0), old.1);
  within = listed.within;
  leaders = λ g. ap (λ (xs : List Name). has_node (LeaderOf g) (added names xs)) none_named ∙ listed.leaders g;
  flags = λ s few. listed.flags s few ∙ flags_of s (nat_lt s slot) refl (nat_lt s (slot + 1)) refl;
}
  where
    empty : entry_there (entry_in at slot) ≡ None
    empty = ap entry_there here

    none_named : names_in at (Slot slot) ≡ []
    none_named = ap (λ (o : Option Entry). option_to_list (leader_name o)) empty

    there_of : (s : ℕ) (d : Entry) → s < slot + 1 → entry_there (entry_in at s) ≡ Some d → (t : Bool) → nat_lt s slot ≡ t → option_map slot_of (map.get files d.file) ≡ Some s
    there_of s d few is true lt = listed.there s d (ltb-true s slot lt) is
    there_of s d few is false ge =
        let same : s ≡ slot = omega (arith, ltb-false s slot ge) in
        let never : Some d ≡ None = sym is ∙ ap (λ (x : ℕ). entry_there (entry_in at x)) same ∙ empty in
        cc

    flags_of : (s : ℕ) (t : Bool) → nat_lt s slot ≡ t → (u : Bool) → nat_lt s (slot + 1) ≡ u → (t && is_some (entry_there (entry_in at s))) ≡ (u && is_some (entry_there (entry_in at s)))
    flags_of s true a true b = refl
    flags_of s false a false b = refl
    flags_of s true a false b = absurd (omega (arith, ltb-true s slot a, ltb-false s (slot + 1) b))
    flags_of s false a true b = sym (ap is_some (ap (λ (x : ℕ). entry_there (entry_in at x)) (let same : s ≡ slot = omega (arith, ltb-false s slot a, ltb-true s (slot + 1) b) in same) ∙ empty))
