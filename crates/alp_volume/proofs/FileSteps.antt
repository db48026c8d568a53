-- One file more of a volume that is read.
use Rattle.std.specs.Prelude.{Bool, true, false, not, cond, ◌==◌, nat_lt, is_some, Option, None, Some, option_map, slice_index_or, Result, Ok, Err, IfOk}
use Rattle.std.specs.Int.{bit_at}
use Rattle.std.specs.FinMap as map
use Rattle.std.proofs.Common.{◌≡◌, ℕ, ◌+◌, ◌<◌, ◌≤◌, List, refl, sym, ◌∙◌, ap, subst, arith}
use Rattle.std.proofs.lemmas.Bool.{ltb-true, ltb-false}
use Rattle.alp_base.specs.declared.ids.FileId.{FileId}
use Rattle.alp_base.specs.declared.faults.VaultFault.{VaultFault}
use Rattle.alp_files.specs.Cells.{same_file}
use Rattle.alp_files.proofs.SameLemmas.{same_file-true, same_file-itself}
use Rattle.alp_pages.specs.declared.entry.Entry.{Entry}
use Rattle.alp_tables.specs.declared.file_slot.FileSlot.{FileSlot}
use Rattle.alp_pages.specs.Counted.{bit}
use Rattle.alp_pages.specs.Nodes.{LeaderOf, IndexOf, DataOf}
use Rattle.alp_pages.specs.Pages.{Pages, entry_in}
use Rattle.alp_pages.specs.Volume.{row_of_node}
use Rattle.alp_pages.specs.Damage.{Name, first_wrong, entry_there, has_node, row_there, parts_of, names_after}
use Rattle.alp_volume.specs.Reached.{AreListed, AreMarks, AreNamed, IsJudged, IsKept, IsUnread, Files, slot_of}
use Rattle.alp_volume.proofs.ListLaws.{got}
use Rattle.alp_volume.proofs.FileNames.{file_row, file_names, leaders_stay, others_index, others_pages, own_index}

-- the file of an entry, in the table
pub record IsThere (home : ℕ) (files : Files) (f : FileId) (slot place : ℕ) : Type 0 where
  pub found : FileSlot
  pub is : map.get files f ≡ Some found
  pub slot_is : found.slot ≡ slot
  pub place_is : found.place ≡ place
  pub within : place < home

pub is_there : (home : ℕ) (at : Pages) (names : List Name) (files : Files) (slots : List Bool) → AreListed home at 4096 names files slots → (slot : ℕ) (e : Entry) → slot < 4096 → entry_there (entry_in at slot) ≡ Some e → IsThere home files e.file slot e.place
is_there home at names files slots listed slot e low here = go (map.get files e.file) refl (listed.there slot e low here)
  where
    go : (o : Option FileSlot) → map.get files e.file ≡ o → option_map slot_of o ≡ Some slot → IsThere home files e.file slot e.place
    go None is h = cc
    go (Some x) is h =
        let s : x.slot ≡ slot = cc in
        let back = listed.back e.file x is in
        let one : Some (record { file = e.file; place = x.place }) ≡ Some e = sym back.1 ∙ ap (λ (n : ℕ). entry_there (entry_in at n)) s ∙ here in
        let p : x.place ≡ e.place = ap (λ (o : Option Entry). place_or o) one in
        record { found = x; is = is; slot_is = s; place_is = p; within = subst (λ (n : ℕ). n < home) p (listed.within e.file x is) }
      where
        place_or : Option Entry → ℕ
        place_or None = 0
        place_or (Some x) = x.place

-- an entry of no file brings none
pub no_file_more : (home : ℕ) (at : Pages) (names : List Name) (files : Files) (slots : List Bool) → AreListed home at 4096 names files slots → (slot : ℕ) → entry_there (entry_in at slot) ≡ None → AreNamed slot names files → AreNamed (slot + 1) names files
no_file_more home at names files slots listed slot none named = record {
  later = λ f x is low. named.later f x is (omega arith);
  blocks = λ f x b is low few. go f x b is few (nat_lt x.slot slot) refl low;
}
  where
    go : (f : FileId) (x : FileSlot) (b : ℕ) → map.get files f ≡ Some x → b < 32 → (t : Bool) → nat_lt x.slot slot ≡ t → x.slot < slot + 1 → bit_at x.blocks b ≡ bit (has_node (IndexOf f b) names)
    go f x b is few true lt low = named.blocks f x b is (ltb-true x.slot slot lt) few
    go f x b is few false ge low =
        let same : x.slot ≡ slot = omega (arith, ltb-false x.slot slot ge) in
        let one : entry_there (entry_in at slot) ≡ Some (record { file = f; place = x.place }) = ap (λ (n : ℕ). entry_there (entry_in at n)) (sym same) ∙ (listed.back f x is).1 in
        cc

-- the file of an entry
module _ (home : ℕ) (at : Pages) (names : List Name) (files : Files) (slots : List Bool) (listed : AreListed home at 4096 names files slots) (slot : ℕ) (f : FileId) (place : ℕ) (named : AreNamed slot names files)
    (there : IsThere home files f slot place) (new : Files) (y : FileSlot) (new_is : new ≡ map.insert files f y) (kept : IsKept there.found y (file_row at f names place)) where
  got_is : (g : FileId) → map.get new g ≡ cond (same_file g f) (Some y) (map.get files g)
  got_is g = ap (λ (m : Files). map.get m g) new_is ∙ got files f y g

  unread : IsUnread names f
  unread = named.later f there.found there.is (omega (arith, there.slot_is))

  other_of : (g : FileId) → same_file g f ≡ false → g ≡ f → ⊥
  other_of g e same = let yes : same_file g f ≡ true = ap (λ (x : FileId). same_file x f) same ∙ same_file-itself f in cc

  pub file_listed : AreListed home at 4096 (file_names at f names place) new slots
  file_listed = record {
    there = λ s e low here. ap (option_map slot_of) (got_is e.file) ∙ there_of s e (same_file e.file f) refl (listed.there s e low here);
    back = λ g x is. back_of g x (same_file g f) refl (sym (got_is g) ∙ is);
    within = λ g x is. within_of g x (same_file g f) refl (sym (got_is g) ∙ is);
    leaders = λ g. leaders_stay at f names place g ∙ listed.leaders g ∙ some_of g (same_file g f) refl ∙ sym (ap is_some (got_is g));
    flags = listed.flags;
  }
    where
      there_of : (s : ℕ) (e : Entry) (t : Bool) → same_file e.file f ≡ t → option_map slot_of (map.get files e.file) ≡ Some s → option_map slot_of (cond t (Some y) (map.get files e.file)) ≡ Some s
      there_of s e true alike old =
          let own : map.get files e.file ≡ Some there.found = ap (map.get files) (same_file-true e.file f alike) ∙ there.is in
          ap Some kept.slot ∙ (sym (ap (option_map slot_of) own) ∙ old)
      there_of s e false alike old = old

      back_of : (g : FileId) (x : FileSlot) (t : Bool) → same_file g f ≡ t → cond t (Some y) (map.get files g) ≡ Some x → (x.slot < 4096) × (entry_there (entry_in at x.slot) ≡ Some (record { file = g; place = x.place }))
      back_of g x true alike is =
          let same : y ≡ x = cc in
          let own : map.get files g ≡ Some there.found = ap (map.get files) (same_file-true g f alike) ∙ there.is in
          let old = listed.back g there.found own in
          let slot_eq : there.found.slot ≡ x.slot = sym kept.slot ∙ ap (λ (z : FileSlot). z.slot) same in
          let place_eq : there.found.place ≡ x.place = sym kept.place ∙ ap (λ (z : FileSlot). z.place) same in
          (subst (λ (n : ℕ). n < 4096) slot_eq old.0, ap (λ (n : ℕ). entry_there (entry_in at n)) (sym slot_eq) ∙ old.1 ∙ ap (λ (n : ℕ). Some (record { file = g; place = n })) place_eq)
      back_of g x false alike is = listed.back g x is

      within_of : (g : FileId) (x : FileSlot) (t : Bool) → same_file g f ≡ t → cond t (Some y) (map.get files g) ≡ Some x → x.place < home
      within_of g x true alike is =
          let same : y ≡ x = cc in
          subst (λ (n : ℕ). n < home) (sym kept.place ∙ ap (λ (z : FileSlot). z.place) same) (listed.within f there.found there.is)
      within_of g x false alike is = listed.within g x is

      some_of : (g : FileId) (t : Bool) → same_file g f ≡ t → is_some (map.get files g) ≡ is_some (cond t (Some y) (map.get files g))
      some_of g true alike = ap is_some (ap (map.get files) (same_file-true g f alike) ∙ there.is)
      some_of g false alike = refl

  pub file_named : AreNamed (slot + 1) (file_names at f names place) new
  file_named = record {
    later = λ g x is low. later_of g x (same_file g f) refl (sym (got_is g) ∙ is) low;
    blocks = λ g x b is low few. blocks_of g x b (same_file g f) refl (sym (got_is g) ∙ is) low few;
  }
    where
      later_of : (g : FileId) (x : FileSlot) (t : Bool) → same_file g f ≡ t → cond t (Some y) (map.get files g) ≡ Some x → slot + 1 ≤ x.slot → IsUnread (file_names at f names place) g
      later_of g x true alike is low =
          let same : y ≡ x = cc in
          absurd (omega (arith, kept.slot, there.slot_is, ap (λ (z : FileSlot). z.slot) same))
      later_of g x false alike is low =
          let old = named.later g x is (omega arith) in
          let other = other_of g alike in
          record { index = λ b. others_index at f names place g other b ∙ old.index b; pages = λ n. others_pages at f names place g other n ∙ old.pages n }

      blocks_of : (g : FileId) (x : FileSlot) (b : ℕ) (t : Bool) → same_file g f ≡ t → cond t (Some y) (map.get files g) ≡ Some x → x.slot < slot + 1 → b < 32 → bit_at x.blocks b ≡ bit (has_node (IndexOf g b) (file_names at f names place))
      blocks_of g x b true alike is low few =
          let same : y ≡ x = cc in
          let file : g ≡ f = same_file-true g f alike in
          ap (λ (z : FileSlot). bit_at z.blocks b) (sym same) ∙ kept.blocks b few ∙ sym (ap bit (own_index at f names place b (unread.index b))) ∙ ap (λ (h : FileId). bit (has_node (IndexOf h b) (file_names at f names place))) (sym file)
      blocks_of g x b false alike is low few = older (nat_lt x.slot slot) refl
        where
          older : (t : Bool) → nat_lt x.slot slot ≡ t → bit_at x.blocks b ≡ bit (has_node (IndexOf g b) (file_names at f names place))
          older true lt = named.blocks g x b is (ltb-true x.slot slot lt) few ∙ sym (ap bit (others_index at f names place g (other_of g alike) b))
          older false ge =
              let same : x.slot ≡ slot = omega (arith, ltb-false x.slot slot ge) in
              let one : entry_there (entry_in at slot) ≡ Some (record { file = g; place = x.place }) = ap (λ (n : ℕ). entry_there (entry_in at n)) (sym same) ∙ (listed.back g x is).1 in
              let two : entry_there (entry_in at slot) ≡ Some (record { file = f; place = there.found.place }) = ap (λ (n : ℕ). entry_there (entry_in at n)) (sym there.slot_is) ∙ (listed.back f there.found there.is).1 in
              let file : g ≡ f = ap file_or (sym one ∙ two) in
              absurd (other_of g alike file)
            where
              file_or : Option Entry → FileId
              file_or None = f
              file_or (Some e) = e.file

pub none_judged : (home : ℕ) (at : Pages) (names : List Name) (o : Option Entry) → o ≡ None → (P : List Name → Type 0) → P names → IsJudged home at names (parts_of at o) P None
none_judged home at names o e P h = subst (λ (x : Option Entry). IsJudged home at names (parts_of at x) P None) (sym e) (refl, h)

pub file_judged : (home : ℕ) (at : Pages) (names : List Name) (files : Files) (slots : List Bool) (listed : AreListed home at 4096 names files slots) (slot : ℕ) (e : Entry) (named : AreNamed slot names files) (there : IsThere home files e.file slot e.place)
    → entry_there (entry_in at slot) ≡ Some e → (places : List Bool) (new : Files) (r : Result (Option ℕ) VaultFault) → IfOk r (IsJudged home at names (parts_of at (Some e)) (λ ns. AreMarks home ns places))
    → IfOk r (λ o. o ≡ None → (y : FileSlot) × (new ≡ map.insert files e.file y) × IsKept there.found y (row_there (row_of_node (LeaderOf e.file) (at e.place))))
    → IfOk r (IsJudged home at names (parts_of at (entry_there (entry_in at slot))) (λ ns. AreMarks home ns places × AreListed home at 4096 ns new slots × AreNamed (slot + 1) ns new))
file_judged home at names files slots listed slot e named there here places new (Err x) j k = tt
file_judged home at names files slots listed slot e named there here places new (Ok (Some p)) j k = subst (λ (x : Option Entry). first_wrong home at names (parts_of at x) ≡ Some p) (sym here) j
file_judged home at names files slots listed slot e named there here places new (Ok None) j k =
    let y = k refl in
    subst (λ (x : Option Entry). IsJudged home at names (parts_of at x) (λ ns. AreMarks home ns places × AreListed home at 4096 ns new slots × AreNamed (slot + 1) ns new) None) (sym here) (
      j.0,
      (
        j.1,
        file_listed home at names files slots listed slot e.file e.place named there new y.0 y.1 y.2,
        file_named home at names files slots listed slot e.file e.place named there new y.0 y.1 y.2,
      ),
    )
