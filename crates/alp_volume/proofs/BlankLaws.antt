-- What memory has of a volume before anything is read.
use Rattle.std.specs.Prelude.{Bool, true, false, not, ◌&&◌, nat_le, nat_lt, is_some, Option, None, Some, replicate, slice_index_or, map as list_map}
use Rattle.std.specs.FinMap as map
use Rattle.std.specs.FinMap.{get-empty, len-empty}
use Rattle.std.specs.List.{range_with_len}
use Rattle.std.specs.Option.{option_to_list}
use Rattle.std.specs.Cmp.Lexicographic.{nat_list_cmp_total}
use Rattle.std.proofs.Common.{◌≡◌, ℕ, ◌+◌, ◌-◌, ◌<◌, ◌≤◌, List, [], ◌∷◌, ◌++◌, length, refl, sym, ◌∙◌, ap, subst, arith, length-append}
use Rattle.std.proofs.lemmas.Bool.{ltb-true, ltb-false, leb-true, leb-false}
use Rattle.std.proofs.lemmas.List.{get_or_past, get_or-append_right, get_or_append_left, length-replicate, get_or-replicate}
use Rattle.alp_base.specs.KeyLaws.{file_cmp}
use Rattle.alp_base.specs.Notes.{text_cmp}
use Rattle.alp_base.specs.declared.ids.FileId.{FileId}
use Rattle.alp_volume.specs.declared.catalog.Catalog.{Catalog}
use Rattle.alp_pages.specs.declared.entry.Entry.{Entry}
use Rattle.alp_tables.specs.declared.file_slot.FileSlot.{FileSlot}
use Rattle.alp_pages.specs.Nodes.{LeaderOf, IndexOf, DataOf}
use Rattle.alp_pages.specs.Pages.{Pages, entry_in, row_in}
use Rattle.alp_pages.specs.Damage.{Part, Slot, Name, entry_there, owner_there, leader_name, added, has_node, names_after}
use Rattle.alp_volume.specs.Reached.{AreMarks, AreListed, AreOwners, AreNamed, AreWithin, IsUnread, Files, slots_from}
use Rattle.alp_volume.specs.Known.{IsBlank}
use Rattle.alp_volume.proofs.FileSteps.{is_there}

never_less : (n : ℕ) → nat_lt n 0 ≡ false
never_less n = go (nat_lt n 0) refl
  where
    go : (t : Bool) → nat_lt n 0 ≡ t → t ≡ false
    go true e = absurd (omega (arith, ltb-true n 0 e))
    go false e = refl

module _ (home : ℕ) (c : Catalog) (blank : IsBlank home c) where
  pub blank_long : 257 ≤ home → length c.places ≡ home
  blank_long least = ap length blank.places ∙ length-append (replicate 257 true) (replicate (home - 257) false) ∙ omega (arith, length-replicate 257 true, length-replicate (home - 257) false)

  pub blank_marks : 257 ≤ home → AreMarks home [] c.places
  blank_marks least = record { long = blank_long least; says = λ p. ap (λ (xs : List Bool). slice_index_or xs p true) blank.places ∙ go p (nat_le 257 p) refl (nat_lt p home) refl }
    where
      go : (p : ℕ) (s : Bool) → nat_le 257 p ≡ s → (t : Bool) → nat_lt p home ≡ t → slice_index_or (replicate 257 true ++ replicate (home - 257) false) p true ≡ not (s && t && not false)
      go p false e t d =
          let low = leb-false 257 p e in
          get_or_append_left (replicate 257 true) (replicate (home - 257) false) true p (omega (arith, low, length-replicate 257 true)) ∙ get_or-replicate 257 p true true low
      go p true e true d =
          let high = leb-true 257 p e in
          let few = ltb-true p home d in
          get_or-append_right (replicate 257 true) (replicate (home - 257) false) 257 p true (length-replicate 257 true) high ∙ get_or-replicate (home - 257) (p - 257) false true (omega arith)
      go p true e false d =
          let past = ltb-false p home d in
          get_or_past (replicate 257 true ++ replicate (home - 257) false) p true (omega (arith, length-append (replicate 257 true) (replicate (home - 257) false), length-replicate 257 true, length-replicate (home - 257) false))

  no_file : (f : FileId) → map.get c.files f ≡ None
  no_file f = ap (λ (m : Files). map.get m f) blank.files ∙ get-empty file_cmp f

  pub blank_listed : (at : Pages) → AreListed home at 0 [] c.files c.slots
  blank_listed at = record {
    there = λ s e few is. absurd (omega arith);
    back = λ f x is. (let none = no_file f in let wrong : None ≡ Some x = sym none ∙ is in cc);
    within = λ f x is. (let none = no_file f in let wrong : None ≡ Some x = sym none ∙ is in cc);
    leaders = λ f. sym (ap is_some (no_file f));
    flags = λ s few. ap (λ (xs : List Bool). slice_index_or xs s true) blank.slots ∙ get_or-replicate 4096 s false true few ∙ sym (ap (λ (t : Bool). t && is_some (entry_there (entry_in at s))) (never_less s));
  }

  no_owner : (name : List ℕ) → map.get c.owners name ≡ None
  no_owner name = ap (λ m. map.get m name) blank.owners ∙ get-empty text_cmp name

  pub blank_owned : (at : Pages) → AreOwners at 0 c.owners c.rows
  blank_owned at = record {
    there = λ r o few is. absurd (omega arith);
    back = λ name r is. (let none = no_owner name in let wrong : None ≡ Some r = sym none ∙ is in cc);
    flags = λ r few. ap (λ (xs : List Bool). slice_index_or xs r true) blank.rows ∙ get_or-replicate 256 r false true few ∙ sym (ap (λ (t : Bool). t && is_some (owner_there (row_in at r))) (never_less r));
  }

  pub no_files : map.len c.files ≡ 0
  no_files = ap map.len blank.files ∙ len-empty file_cmp FileSlot

  pub no_owners : map.len c.owners ≡ 0
  no_owners = ap map.len blank.owners ∙ len-empty text_cmp ℕ

-- entries name leaders alone
slots_unread : (at : Pages) (f : FileId) (names : List Name) (xs : List ℕ) → IsUnread names f → IsUnread (names_after at names (list_map Slot xs)) f
slots_unread at f names [] h = h
slots_unread at f names (s ∷ xs) h = slots_unread at f (added names (option_to_list (leader_name (entry_there (entry_in at s))))) xs (go (entry_there (entry_in at s)))
  where
    go : (o : Option Entry) → IsUnread (added names (option_to_list (leader_name o))) f
    go None = h
    go (Some e) = record { index = λ b. h.index b; pages = λ n. h.pages n }

pub all_unread : (at : Pages) (f : FileId) → IsUnread (names_after at [] (slots_from 0)) f
unfolding slots_from
all_unread at f = slots_unread at f [] (range_with_len 0 (4096 - 0)) (record { index = λ b. refl; pages = λ n. refl })

pub none_named : (at : Pages) (files : Files) → AreNamed 0 (names_after at [] (slots_from 0)) files
none_named at files = record { later = λ f x is low. all_unread at f; blocks = λ f x b is low few. absurd (omega arith) }

-- the entries name places of the volume
pub all_within : (home : ℕ) (at : Pages) (names : List Name) (files : Files) (slots : List Bool) → AreListed home at 4096 names files slots → AreWithin home at
all_within home at names files slots listed s e low here = (is_there home at names files slots listed s e low here).within
